use Rattle.std.proofs.Common.{[], ap, sym, subst, ◌∙◌, is_ok, map}
use Rattle.std.proofs.lemmas.Result.{err_from_is_err_and}
use Rattle.std.proofs.ResultArms.{chosen}
use Rattle.iso_lexer.specs.declared.spec_token.Keyword.TheVariants.{Setup}
use Rattle.spec_parser.specs.Trees.{part_view}
use Rattle.spec_parser.specs.Grammar.{is_keyword}
use Rattle.spec_parser.specs.Inner.Stopping.{block_after}
use Rattle.spec_parser.specs.Inner.Pieces.{starts_word, setups_at}
use Rattle.spec_parser.specs.Inner.Readers.{FailsAs, rest_of}
use Rattle.spec_parser.proofs.Loops.{SoFar, on_end, on_item, on_stop, behind_nothing, views_push, starts_nonempty}
use Rattle.spec_parser.proofs.Productions.{block_shorter}
use Rattle.spec_parser.proofs.reader.Reader.setups.Goals as goal

pub returns-in_err-item-clause-reads : goal.returns-in_err-item-clause-reads
returns-in_err-item-clause-reads c =
    let p = err_from_is_err_and c.from_residual.result c.from_residual.ensures.1 in
    let inv = c.loop-self.invariant in
    rw (p.1, p.2) (subst (FailsAs c.args.self.now.end c.in_err-item.field-0.0) (behind_nothing (setups_at (rest_of c.args.self.now))) (on_stop (starts_word Setup) (λ k. block_after Setup) [] (rest_of c.args.self.now) (map part_view c.loop-self.items.items) (rest_of c.loop-self.self) c.args.self.now.end c.in_err-item.field-0.0 (sym c.loop-self-test.ensures) (starts_nonempty (is_keyword Setup) (rest_of c.loop-self.self) (sym c.loop-self-test.ensures)) (subst (λ e. FailsAs e c.in_err-item.field-0.0 (block_after Setup (rest_of c.loop-self.self))) inv.same.end c.in_err-item.ensures.reads) inv.so_far))

pub loop-self-smaller : goal.loop-self-smaller
loop-self-smaller c = block_shorter Setup (rest_of c.loop-self.self) (rest_of c.block_after.new.self) _ c.in_ok-item.ensures.reads

pub loop-self-preserved : goal.loop-self-preserved
loop-self-preserved c =
    let inv = c.loop-self.invariant in
    let pushed = chosen _ _ _ _ c.push.ensures.items (ap is_ok c.in_ok-push.was) in
    let shorter = block_shorter Setup (rest_of c.loop-self.self) (rest_of c.block_after.new.self) _ c.in_ok-item.ensures.reads in
    let one = on_item (starts_word Setup) (λ k. block_after Setup) [] (rest_of c.args.self.now) (map part_view c.loop-self.items.items) (rest_of c.loop-self.self) (rest_of c.block_after.new.self) (part_view c.in_ok-item.item) (sym c.loop-self-test.ensures) c.in_ok-item.ensures.reads shorter inv.so_far in
    record {
      same = record { tokens = c.in_ok-item.ensures.same.tokens ∙ inv.same.tokens; end = c.in_ok-item.ensures.same.end ∙ inv.same.end };
      so_far = subst (λ ts. SoFar (starts_word Setup) (λ k. block_after Setup) [] (rest_of c.args.self.now) ts (rest_of c.block_after.new.self)) (sym (views_push part_view c.loop-self.items.items _ _ pushed)) one;
    }

pub returns-clause-reads : goal.returns-clause-reads
returns-clause-reads c =
    let inv = c.loop-self.invariant in
    sym (behind_nothing (setups_at (rest_of c.args.self.now))) ∙ on_end (starts_word Setup) (λ k. block_after Setup) [] (rest_of c.args.self.now) (map part_view c.loop-self.items.items) (rest_of c.loop-self.self) (sym c.loop-self-test.ensures) inv.so_far
