use Rattle.std.proofs.Common.{◌≡◌, ◌<◌, ◌∷◌, suc, length, drop, drop-cons, ap, sym, ◌∙◌, arith}
use Rattle.iso_lexer.specs.Devices.{page_text}
use Rattle.session_machine.specs.declared.reply.HistItem.{HistItem}
use Rattle.report_text.specs.Replies.{replies_text}
use Rattle.report_text.proofs.Nonempty.{on_err, none_first, rest_some}
use Rattle.report_text.proofs.replies.push_replies.Goals as goal

pub returns-in_err-push_reply-clause-memory : goal.returns-in_err-push_reply-clause-memory
returns-in_err-push_reply-clause-memory c =
    let items = c.args.items.now in
    let k = c.loop-item.item-index in
    let less : k < length items = omega arith in
    let more : drop k items ≡ c.item-item.result ∷ drop (suc k) items = drop-cons items k c.item-item.result less ∙ ap (λ (x : HistItem). x ∷ drop (suc k) items) (sym c.item-item.is) in
    on_err c.from_residual.result
    (rest_some (page_text c.loop-item.page) (page_text c.args.page.now) (replies_text c.args.session (drop k items)) (replies_text c.args.session items)
    c.loop-item.invariant.text c.loop-item.invariant.long
    (λ none. c.in_err-push_reply.ensures.memory (none_first _ _ (ap (replies_text c.args.session) (sym more) ∙ none))))
