use Rattle.std.proofs.Common.{◌≡◌, ◌++◌, ◌∷◌, [], length, map, sym, ap, subst, rules, is_ok}
use Rattle.std.proofs.lemmas.List.{nil_from_length}
use Rattle.std.proofs.lemmas.Bool.{eqb-true}
use Rattle.std.proofs.ResultArms.{chosen}
use Rattle.iso_lexer.specs.Lexing.{gap, token, HasToken, plain_at}
use Rattle.iso_lexer.specs.Inner.Rules.{between}
use Rattle.iso_lexer.proofs.Lexing.{SoFar, shorter_at, on_gap, on_token, on_fault, on_end, has_token, views_push}
use Rattle.iso_lexer.proofs.tokens.tokens.Goals as goal

pub loop-rest-smaller-in-Gap : goal.loop-rest-smaller-in-Gap
loop-rest-smaller-in-Gap g c = shorter_at g.T.Token.rules c.requires c.loop-rest.rest.now (gap c.in-Gap.after.now) (search rules) c.in-Gap.ensures

pub loop-rest-preserved-in-Gap : goal.loop-rest-preserved-in-Gap
loop-rest-preserved-in-Gap g c = record {
  so_far = on_gap g.T.Token.rules c.requires c.args.text.now (map (plain_at g.T.Token.plain) c.loop-rest.tokens.items) c.loop-rest.rest.now c.in-Gap.after.now (search rules) c.in-Gap.ensures c.loop-rest.invariant.so_far;
  is_text = search rules;
}

pub placed-requires-clause-ends : goal.placed-requires-clause-ends
placed-requires-clause-ends g c = (on_token g.T.Token.rules c.requires c.args.text.now (map (plain_at g.T.Token.plain) c.loop-rest.tokens.items) c.loop-rest.rest.now c.in-Token.after.now (g.T.Token.plain c.in-Token.tok) (search rules) c.in-Token.ensures c.loop-rest.invariant.so_far).within

pub loop-rest-smaller : goal.loop-rest-smaller
loop-rest-smaller g c = shorter_at g.T.Token.rules c.requires c.loop-rest.rest.now (token (g.T.Token.plain c.in-Token.tok) c.in-Token.after.now) (search rules) c.in-Token.ensures

pub returns-in_err-push-in-Token : goal.returns-in_err-push-in-Token
returns-in_err-push-in-Token g c =
    let room : HasToken g.T.Token.rules c.args.text.now = has_token g.T.Token.rules c.requires c.args.text.now (map (plain_at g.T.Token.plain) c.loop-rest.tokens.items) c.loop-rest.rest.now c.in-Token.after.now (g.T.Token.plain c.in-Token.tok) c.in-Token.ensures c.loop-rest.invariant.so_far in
    search (rules, room)

pub loop-rest-preserved : goal.loop-rest-preserved
loop-rest-preserved g c =
    let pushed = chosen _ _ _ _ c.push.ensures.items (ap is_ok c.in_ok-push-in-Token.was) in
    let one = on_token g.T.Token.rules c.requires c.args.text.now (map (plain_at g.T.Token.plain) c.loop-rest.tokens.items) c.loop-rest.rest.now c.in-Token.after.now (g.T.Token.plain c.in-Token.tok) (search rules) c.in-Token.ensures c.loop-rest.invariant.so_far in
    let at : plain_at g.T.Token.plain c.placed.result ≡ between (length c.args.text.now) c.loop-rest.rest.now (g.T.Token.plain c.in-Token.tok) c.in-Token.after.now = ap (plain_at g.T.Token.plain) {y = between (length c.args.text.now) c.loop-rest.rest.now c.in-Token.tok c.in-Token.after.now} c.placed.ensures in
    record {
      so_far = subst (λ ts. SoFar g.T.Token.rules c.args.text.now ts c.in-Token.after.now) (sym (views_push (plain_at g.T.Token.plain) c.loop-rest.tokens.items c.placed.result c.push.new.self.items pushed)) (subst (λ t. SoFar g.T.Token.rules c.args.text.now (map (plain_at g.T.Token.plain) c.loop-rest.tokens.items ++ t ∷ []) c.in-Token.after.now) (sym at) one);
      is_text = search rules;
    }

pub returns-in-Fault : goal.returns-in-Fault
returns-in-Fault g c = on_fault g.T.Token.rules c.requires c.args.text.now (map (plain_at g.T.Token.plain) c.loop-rest.tokens.items) c.loop-rest.rest.now c.in-Fault.kind c.in-Fault.n c.in-Fault.ensures c.loop-rest.invariant.so_far

pub returns : goal.returns
returns g c = on_end g.T.Token.rules c.requires c.args.text.now (map (plain_at g.T.Token.plain) c.loop-rest.tokens.items) c.loop-rest.rest.now (nil_from_length c.loop-rest.rest.now (eqb-true (length c.loop-rest.rest.now) 0 (sym c.loop-rest-test.ensures))) c.loop-rest.invariant.so_far
