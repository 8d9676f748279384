use Rattle.std.proofs.Common.{[], ap, sym, subst, ◌∙◌, is_ok, map, arith}
use Rattle.std.proofs.lemmas.Result.{err_from_is_err_and}
use Rattle.std.proofs.ResultArms.{chosen}
use Rattle.iso_lexer.specs.declared.spec_token.Keyword.TheVariants.{Step}
use Rattle.spec_parser.specs.Trees.{draft_view}
use Rattle.spec_parser.specs.Grammar.{is_keyword}
use Rattle.spec_parser.specs.Inner.Stopping.{step_at, all_at}
use Rattle.spec_parser.specs.Inner.Pieces.{starts_word}
use Rattle.spec_parser.specs.Inner.Readers.{FailsAs, rest_of}
use Rattle.spec_parser.proofs.Loops.{SoFar, on_end, on_item, on_stop, behind_nothing, views_push, views_len, starts_nonempty, rest_len}
use Rattle.spec_parser.proofs.Productions.{step_shorter}
use Rattle.spec_parser.proofs.reader.Reader.each_step.Goals as goal

pub returns-in_err-item-clause-reads : goal.returns-in_err-item-clause-reads
returns-in_err-item-clause-reads c =
    let p = err_from_is_err_and c.from_residual.result c.from_residual.ensures.1 in
    let inv = c.loop-self.invariant in
    rw (p.1, p.2) (subst (FailsAs c.args.self.now.end c.in_err-item.field-0.0) (behind_nothing (all_at (starts_word Step) (λ k. step_at) (rest_of c.args.self.now))) (on_stop (starts_word Step) (λ k. step_at) [] (rest_of c.args.self.now) (map draft_view c.loop-self.items.items) (rest_of c.loop-self.self) c.args.self.now.end c.in_err-item.field-0.0 (sym c.loop-self-test.ensures) (starts_nonempty (is_keyword Step) (rest_of c.loop-self.self) (sym c.loop-self-test.ensures)) (subst (λ e. FailsAs e c.in_err-item.field-0.0 (step_at (rest_of c.loop-self.self))) inv.same.end c.in_err-item.ensures.reads) inv.so_far))

pub returns-clause-few : goal.returns-clause-few
returns-clause-few c = let inv = c.loop-self.invariant in omega (arith, inv.so_far.room, rest_len c.args.self.now, views_len draft_view c.loop-self.items.items, c.loop-self.items.ok.0)

pub loop-self-smaller : goal.loop-self-smaller
loop-self-smaller c = step_shorter (rest_of c.loop-self.self) (rest_of c.step.new.self) _ c.in_ok-item.ensures.reads

pub loop-self-preserved : goal.loop-self-preserved
loop-self-preserved c =
    let inv = c.loop-self.invariant in
    let pushed = chosen _ _ _ _ c.push.ensures.items (ap is_ok c.in_ok-push.was) in
    let shorter = step_shorter (rest_of c.loop-self.self) (rest_of c.step.new.self) _ c.in_ok-item.ensures.reads in
    let one = on_item (starts_word Step) (λ k. step_at) [] (rest_of c.args.self.now) (map draft_view c.loop-self.items.items) (rest_of c.loop-self.self) (rest_of c.step.new.self) (draft_view c.in_ok-item.item) (sym c.loop-self-test.ensures) c.in_ok-item.ensures.reads shorter inv.so_far in
    record {
      same = record { tokens = c.in_ok-item.ensures.same.tokens ∙ inv.same.tokens; end = c.in_ok-item.ensures.same.end ∙ inv.same.end };
      so_far = subst (λ ts. SoFar (starts_word Step) (λ k. step_at) [] (rest_of c.args.self.now) ts (rest_of c.step.new.self)) (sym (views_push draft_view c.loop-self.items.items _ _ pushed)) one;
    }

pub returns-clause-reads : goal.returns-clause-reads
returns-clause-reads c =
    let inv = c.loop-self.invariant in
    sym (behind_nothing (all_at (starts_word Step) (λ k. step_at) (rest_of c.args.self.now))) ∙ on_end (starts_word Step) (λ k. step_at) [] (rest_of c.args.self.now) (map draft_view c.loop-self.items.items) (rest_of c.loop-self.self) (sym c.loop-self-test.ensures) inv.so_far
