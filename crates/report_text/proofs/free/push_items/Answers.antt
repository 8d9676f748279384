use Rattle.std.proofs.Common.{◌≡◌, ◌<◌, ◌++◌, ℕ, ◌+◌, List, length, take, drop, map, ap, sym, ◌∙◌, subst, arith, append_assoc, length-take, length-set}
use Rattle.std.proofs.lemmas.List.{length-map}
use Rattle.std.specs.Prelude.{Option, slice_set}
use Rattle.iso_lexer.specs.Devices.{page_text}
use Rattle.spec_parser.specs.Trees.{session_view, spec_view}
use Rattle.session_machine.specs.declared.reply.HistItem.{HistItem}
use Rattle.session_machine.specs.Machine.{session_of}
use Rattle.report_text.specs.declared.standing.Standing.{Standing}
use Rattle.report_text.specs.FreeText.{each_says, item_text, item_note, moved}
use Rattle.report_text.specs.Inner.Table.{at_number, IsTable}
use Rattle.report_text.proofs.FreeSaying.{each_more, table_more, text_alike, note_alike, at_few}
use Rattle.report_text.proofs.free.push_items.Goals as goal

pub take_in-requires : goal.take_in-requires
take_in-requires c =
    let s = session_of c.item-item.result.event in
    let stood : c.standing_in-at.result ≡ at_number c.loop-item.table.items s =
    c.standing_in-at.ensures
    ∙ ap (λ (w : List (Option Standing)). at_number w c.session_of.result) c.deref.ensures.value
    ∙ ap (λ (n : ℕ). at_number c.loop-item.table.items n) c.session_of.ensures in
    let front : List HistItem = take c.loop-item.item-index c.args.items.now in
    at_few c.loop-item.table.items front s c.loop-item.item-index c.standing_in-at.result stood c.loop-item.invariant.table
    (omega (arith, length-take c.loop-item.item-index c.args.items.now)) (omega arith)

pub loop-item-preserved : goal.loop-item-preserved
loop-item-preserved c =
    let spec = spec_view c.args.spec.now in
    let items = c.args.items.now in
    let i = c.loop-item.item-index in
    let item = c.item-item.result in
    let s = session_of item.event in
    let at = c.standing_in-at.result in
    let table = c.loop-item.table.items in
    let within : i < length items = omega arith in
    let stood : at ≡ at_number table s =
    c.standing_in-at.ensures
    ∙ ap (λ (w : List (Option Standing)). at_number w c.session_of.result) c.deref.ensures.value
    ∙ ap (λ (n : ℕ). at_number table n) c.session_of.ensures in
    let count : length table ≡ length (map session_view c.args.spec.now.sessions.items) + 1 =
    omega (arith, c.loop-item.invariant.count, length-map c.args.spec.now.sessions.items session_view) in
    let next : List (Option Standing) = slice_set table s (moved item.event item.reply.outcome at) in
    let text : Option Standing → HistItem → List ℕ = item_text spec.sessions in
    let note : Option Standing → HistItem → List ℕ = item_note spec in
    let page = page_text c.loop-item.pages.text in
    let notes = page_text c.loop-item.pages.notes in
    record {
      text = ap (λ (l : List ℕ). l ++ each_says text (take (i + 1) items) (drop (i + 1) items)) c.in_ok-push_said.ensures.text
          ∙ append_assoc page (text at item) (each_says text (take (i + 1) items) (drop (i + 1) items))
          ∙ ap (λ (l : List ℕ). page ++ (l ++ each_says text (take (i + 1) items) (drop (i + 1) items))) (text_alike spec.sessions table (take i items) at item count stood c.loop-item.invariant.table)
          ∙ ap (λ (l : List ℕ). page ++ l) (sym (each_more text items i item within c.item-item.is))
          ∙ c.loop-item.invariant.text;
      notes = ap (λ (l : List ℕ). l ++ each_says note (take (i + 1) items) (drop (i + 1) items)) c.in_ok-push_said.ensures.notes
          ∙ append_assoc notes (note at item) (each_says note (take (i + 1) items) (drop (i + 1) items))
          ∙ ap (λ (l : List ℕ). notes ++ (l ++ each_says note (take (i + 1) items) (drop (i + 1) items))) (note_alike spec table (take i items) at item count stood c.loop-item.invariant.table)
          ∙ ap (λ (l : List ℕ). notes ++ l) (sym (each_more note items i item within c.item-item.is))
          ∙ c.loop-item.invariant.notes;
      table = subst (λ (w : List (Option Standing)). IsTable w (take (i + 1) items)) (sym c.take_in.ensures) (table_more table items i item at within c.item-item.is stood c.loop-item.invariant.table);
      count = ap length c.take_in.ensures ∙ length-set table s (moved item.event item.reply.outcome at) ∙ c.loop-item.invariant.count;
    }
