use Rattle.std.proofs.Common.{◌≡◌, ◌<◌, ◌-◌, ◌+◌, ◌∷◌, drop, get_or, length, sym, ◌∙◌, ap, subst, arith, rules, List, ℕ}
use Rattle.std.proofs.lemmas.List.{drop_more}
use Rattle.std.proofs.lemmas.Option.{slice_get-get_or}
use Rattle.chain_store.proofs.Linking.{IsStruck, struck_one}
use Rattle.chain_store.proofs.links.strike.Goals as goal

pub loop-index-preserved : goal.loop-index-preserved
loop-index-preserved c =
    let log = c.args.log.now in
    let xs = c.args.places.now in
    let i = c.loop-index.index - 1 in
    let w = get_or log (get_or xs i 0) c.index-log-place.result in
    let inside : c.loop-index.index - 1 < length c.args.places.now = search rules in
    let next : (c.loop-index.index - 1) + 1 ≡ c.loop-index.index = omega arith in
    let front : drop i xs ≡ get_or xs i 0 ∷ drop c.loop-index.index xs = drop_more xs i 0 inside ∙ ap (λ n. get_or xs i 0 ∷ drop n xs) next in
    let there = slice_get-get_or log (get_or xs i 0) c.index-log-place.result (c.requires.within i 0 inside) in
    subst (λ (ys : List ℕ). IsStruck log c.args.rows.now c.remove.new.self ys) (sym front)
    (struck_one log c.args.rows.now c.loop-index.rows c.remove.new.self (drop c.loop-index.index xs) (get_or xs i 0) w there c.loop-index.invariant c.remove.ensures.struck c.remove.ensures.others)
