use Rattle.std.proofs.Common.{refl, arith, sym}
use Rattle.std.proofs.lemmas.Result.{err_from_is_err_and}
use Rattle.sql_trees.specs.Tokens.{tok_views}
use Rattle.sql_trees.specs.Trees.{tree_of}
use Rattle.sql_expressions.specs.Inner.Pieces.{found_list, inside}
use Rattle.sql_expressions.proofs.Shortens.{shortens}
use Rattle.sql_expressions.proofs.Chains.{passed_on, starts, starts_not, ends, no_room, no_operand, no_node, goes_on, list_starts, list_starts_not, list_ends, list_stops, list_next, comma_shortens, chain_at_is, opens}
use Rattle.sql_expressions.proofs.Ranges.{between_no_room, between_no_low, between_no_upper, between_no_high, between_made, in_no_list, in_stops, in_made, inn_stops, inn_no_test, inn_tested}
use Rattle.sql_expressions.proofs.Tests.{una_alone, una_stops, una_made, is_stops, is_alone, is_no_room, is_no_right, is_compared}
use Rattle.sql_expressions.proofs.cursor.Parser.+levels.Goals as goal

pub chain-returns-in_err-left : goal.chain-returns-in_err-left
chain-returns-in_err-left t c =
    let p = err_from_is_err_and c.from_residual.result c.from_residual.ensures.1 in
    rw (p.1, p.2, chain_at_is) (passed_on _ _ _ c.in_err-left.ensures (starts_not _ _ _))

pub chain-loop-operator-init : goal.chain-loop-operator-init
chain-loop-operator-init t c = rw chain_at_is (starts _ _ _ _ c.in_ok-left.ensures)

pub chain-returns-in_err-deeper : goal.chain-returns-in_err-deeper
chain-returns-in_err-deeper t c =
    let p = err_from_is_err_and c.from_residual-in_err-deeper.result c.from_residual-in_err-deeper.ensures.1 in
    rw (p.1, p.2) (passed_on _ _ _ c.in_err-deeper.ensures (λ f. no_room _ _ _ _ _ f c.loop-operator.invariant (sym c.in-Some.ensures)))

pub chain-returns-in_err-right : goal.chain-returns-in_err-right
chain-returns-in_err-right t c =
    let p = err_from_is_err_and c.from_residual-in_err-right.result c.from_residual-in_err-right.ensures.1 in
    rw (p.1, p.2) (passed_on _ _ _ c.in_err-right.ensures (λ f. no_operand _ _ _ _ _ _ f c.loop-operator.invariant (sym c.in-Some.ensures) c.in_ok-deeper.ensures))

pub chain-returns-in_err-left-2 : goal.chain-returns-in_err-left-2
chain-returns-in_err-left-2 t c =
    let p = err_from_is_err_and c.from_residual-in_err-left-2.result c.from_residual-in_err-left-2.ensures.1 in
    rw (p.1, p.2) (passed_on _ _ _ c.in_err-left-2.ensures.exact (λ f. no_node _ _ _ _ _ _ _ f c.loop-operator.invariant (sym c.in-Some.ensures) c.in_ok-deeper.ensures c.in_ok-right.ensures))

pub chain-loop-operator-preserved : goal.chain-loop-operator-preserved
chain-loop-operator-preserved t c = goes_on _ _ _ _ _ _ _ _ c.loop-operator.invariant (sym c.in-Some.ensures) c.in_ok-deeper.ensures c.in_ok-right.ensures c.in_ok-left-2.ensures.exact c.in_ok-left-2.ensures.deeper

pub chain-returns : goal.chain-returns
chain-returns t c = ends _ _ _ _ c.loop-operator.invariant (sym c.in_default.ensures)

pub opened-returns-in-Whole : goal.opened-returns-in-Whole
opened-returns-in-Whole t c = rw (opens c.args.self.text_len c.args.room c.args.level c.args.place (tok_views c.args.tokens.now) c.if-room-eq0.false, c.in-Whole.is) c.chain.ensures

pub opened-returns-in-Unary : goal.opened-returns-in-Unary
opened-returns-in-Unary t c = rw (opens c.args.self.text_len c.args.room c.args.level c.args.place (tok_views c.args.tokens.now) c.if-room-eq0.false, c.in-Unary.is) c.unary.ensures

pub opened-returns-in-Negation : goal.opened-returns-in-Negation
opened-returns-in-Negation t c = rw (opens c.args.self.text_len c.args.room c.args.level c.args.place (tok_views c.args.tokens.now) c.if-room-eq0.false, c.in-Negation.is) c.not.ensures

pub unary-returns-in_default : goal.unary-returns-in_default
unary-returns-in_default t c = rw (una_alone _ _ _ (sym c.in_default.ensures)) c.atom.ensures

pub unary-returns-in_err-operand : goal.unary-returns-in_err-operand
unary-returns-in_err-operand t c =
    let p = err_from_is_err_and c.from_residual.result c.from_residual.ensures.1 in
    let h = rw c.opens.ensures at c.in_err-operand.ensures in
    rw (p.1, p.2) (passed_on _ _ _ h (λ f. una_stops _ _ _ _ f (sym c.in-Some.ensures)))

pub unary-returns : goal.unary-returns
unary-returns t c =
    let h = rw c.opens.ensures at c.in_ok-operand.ensures in
    rw (una_made _ _ _ _ _ (sym c.in-Some.ensures) h) c.prefixed.ensures

pub is-returns-in_err-left : goal.is-returns-in_err-left
is-returns-in_err-left t c =
    let p = err_from_is_err_and c.from_residual.result c.from_residual.ensures.1 in
    rw (p.1, p.2) (passed_on _ _ _ c.in_err-left.ensures (is_stops _ _ _))

pub is-returns-in_default : goal.is-returns-in_default
is-returns-in_default t c = rw (is_alone _ _ _ _ c.in_ok-left.ensures (sym c.in_default.ensures)) c.maybe_is.ensures

pub is-returns-in_err-deeper : goal.is-returns-in_err-deeper
is-returns-in_err-deeper t c =
    let p = err_from_is_err_and c.from_residual-in_err-deeper.result c.from_residual-in_err-deeper.ensures.1 in
    rw (p.1, p.2) (passed_on _ _ _ c.in_err-deeper.ensures (λ f. is_no_room _ _ _ _ _ f c.in_ok-left.ensures (sym c.in-Some.ensures)))

pub is-returns-in_err-right : goal.is-returns-in_err-right
is-returns-in_err-right t c =
    let p = err_from_is_err_and c.from_residual-in_err-right.result c.from_residual-in_err-right.ensures.1 in
    rw (p.1, p.2) (passed_on _ _ _ c.in_err-right.ensures (λ f. is_no_right _ _ _ _ _ _ f c.in_ok-left.ensures (sym c.in-Some.ensures) c.in_ok-deeper.ensures))

pub is-returns : goal.is-returns
is-returns t c = rw (is_compared _ _ _ _ _ _ _ c.in_ok-left.ensures (sym c.in-Some.ensures) c.in_ok-deeper.ensures c.in_ok-right.ensures) c.compared.ensures

pub membership-returns-in_err-left : goal.membership-returns-in_err-left
membership-returns-in_err-left t c =
    let p = err_from_is_err_and c.from_residual.result c.from_residual.ensures.1 in
    rw (p.1, p.2) (passed_on _ _ _ c.in_err-left.ensures (inn_stops _ _ _))

pub membership-returns-in_err-test : goal.membership-returns-in_err-test
membership-returns-in_err-test t c =
    let p = err_from_is_err_and c.from_residual-in_err-test.result c.from_residual-in_err-test.ensures.1 in
    rw (p.1, p.2) (passed_on _ _ _ c.in_err-test.ensures (λ f. inn_no_test _ _ _ _ f c.in_ok-left.ensures))

pub membership-returns-in_default : goal.membership-returns-in_default
membership-returns-in_default t c =
    let h = rw c.in_default.is at c.in_ok-test.ensures in
    inn_tested _ _ _ _ _ c.in_ok-left.ensures h

pub membership-returns-then-test : goal.membership-returns-then-test
membership-returns-then-test t c =
    let h = rw c.in-Some.is at c.in_ok-test.ensures in
    rw (inn_tested _ _ _ _ _ c.in_ok-left.ensures h, c.if-test.true) c.between.ensures

pub membership-returns-else-test : goal.membership-returns-else-test
membership-returns-else-test t c =
    let h = rw c.in-Some.is at c.in_ok-test.ensures in
    rw (inn_tested _ _ _ _ _ c.in_ok-left.ensures h, c.if-test.false) c.contained.ensures

pub between-returns-in_err-deeper : goal.between-returns-in_err-deeper
between-returns-in_err-deeper t c =
    let p = err_from_is_err_and c.from_residual.result c.from_residual.ensures.1 in
    rw (p.1, p.2) (passed_on _ _ _ c.in_err-deeper.ensures (between_no_room _ _ _ _ _ _ _))

pub between-returns-in_err-low : goal.between-returns-in_err-low
between-returns-in_err-low t c =
    let p = err_from_is_err_and c.from_residual-in_err-low.result c.from_residual-in_err-low.ensures.1 in
    rw (p.1, p.2) (passed_on _ _ _ c.in_err-low.ensures (λ f. between_no_low _ _ _ _ _ _ _ _ f c.in_ok-deeper.ensures))

pub between-returns-in_err-rest : goal.between-returns-in_err-rest
between-returns-in_err-rest t c =
    let p = err_from_is_err_and c.from_residual-in_err-rest.result c.from_residual-in_err-rest.ensures.1 in
    let h = rw c.max.ensures at c.in_err-rest.ensures in
    rw (p.1, p.2) (passed_on _ _ _ h (λ f. between_no_upper _ _ _ _ _ _ _ _ _ f c.in_ok-deeper.ensures c.in_ok-low.ensures))

pub between-returns-in_err-high : goal.between-returns-in_err-high
between-returns-in_err-high t c =
    let p = err_from_is_err_and c.from_residual-in_err-high.result c.from_residual-in_err-high.ensures.1 in
    let u = rw c.max.ensures at c.in_ok-rest.ensures in
    rw (p.1, p.2) (passed_on _ _ _ c.in_err-high.ensures (λ f. between_no_high _ _ _ _ _ _ _ _ _ _ f c.in_ok-deeper.ensures c.in_ok-low.ensures u))

pub between-returns : goal.between-returns
between-returns t c =
    let u = rw c.max.ensures at c.in_ok-rest.ensures in
    rw (between_made _ _ _ _ _ _ _ _ _ _ _ c.in_ok-deeper.ensures c.in_ok-low.ensures u c.in_ok-high.ensures) c.range.ensures

pub contained-returns-in_err-paren : goal.contained-returns-in_err-paren
contained-returns-in_err-paren t c =
    let p = err_from_is_err_and c.from_residual.result c.from_residual.ensures.1 in
    rw (p.1, p.2) (passed_on _ _ _ c.in_err-paren.ensures (in_no_list _ _ _ _ _ _ _))

pub contained-returns-in_err-items : goal.contained-returns-in_err-items
contained-returns-in_err-items t c =
    let p = err_from_is_err_and c.from_residual-in_err-items.result c.from_residual-in_err-items.ensures.1 in
    rw (p.1, p.2) (passed_on _ _ _ c.in_err-items.ensures (λ f. in_stops _ _ _ _ _ _ _ _ f c.in_ok-paren.ensures))

pub contained-returns : goal.contained-returns
contained-returns t c =
    let is = in_made c.args.self.text_len (inside c.args.self.text_len c.args.room) c.args.test.negated c.args.test.place (tree_of c.args.left.expr.value) c.args.left.depth (tok_views c.args.test.rest.now) (c.in_ok-paren.paren, tok_views c.in_ok-paren.rest.now) (found_list c.in_ok-items.items.items c.in_ok-items.deepest c.in_ok-items.rest.now) c.in_ok-paren.ensures c.in_ok-items.ensures in
    let k = rw c.max.ensures at c.contains.ensures in
    rw is k

pub list-returns-in_err-expr : goal.list-returns-in_err-expr
list-returns-in_err-expr t c =
    let p = err_from_is_err_and c.from_residual.result c.from_residual.ensures.1 in
    rw (p.1, p.2) (passed_on _ _ _ c.in_err-expr.ensures (list_starts_not _ _))

pub list-loop-after-init : goal.list-loop-after-init
list-loop-after-init t c =
    rw (c.in_ok-push.ensures.items, c.new-items.ensures.items, c.into_inner.ensures) (list_starts _ _ _ _ c.in_ok-expr.ensures refl (omega (arith, shortens _ _ _ _ _ _ c.in_ok-expr.ensures)))

pub list-returns-in_err-expr-2 : goal.list-returns-in_err-expr-2
list-returns-in_err-expr-2 t c =
    let p = err_from_is_err_and c.from_residual-in_err-expr-2.result c.from_residual-in_err-expr-2.ensures.1 in
    rw (p.1, p.2) (passed_on _ _ _ c.in_err-expr-2.ensures (λ f. list_stops _ _ _ _ f c.loop-after.invariant (sym c.in-Some.ensures)))

pub list-loop-after-smaller : goal.list-loop-after-smaller
list-loop-after-smaller t c =
    omega (arith, shortens _ _ _ _ _ _ c.in_ok-expr-2.ensures, comma_shortens (tok_views c.loop-after.rest.now) _ (sym c.in-Some.ensures))

pub list-loop-after-preserved : goal.list-loop-after-preserved
list-loop-after-preserved t c =
    rw (c.in_ok-push-2.ensures.items, c.into_inner-in-Some.ensures, c.max-depth.ensures) (list_next _ c.loop-after.items.items c.loop-after.depth c.loop-after.rest.now _ _ c.in_ok-expr-2.field-0-0 c.in_ok-expr-2.after.now c.loop-after.invariant (sym c.in-Some.ensures) c.in_ok-expr-2.ensures (omega (arith, shortens _ _ _ _ _ _ c.in_ok-expr-2.ensures, comma_shortens (tok_views c.loop-after.rest.now) _ (sym c.in-Some.ensures))))

pub list-returns : goal.list-returns
list-returns t c = list_ends _ _ _ c.loop-after.invariant (sym c.in_default.ensures)
