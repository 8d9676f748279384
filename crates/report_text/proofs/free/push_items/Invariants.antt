use Rattle.std.proofs.Common.{◌≡◌, ◌+◌, ◌++◌, [], length, take, drop}
use Rattle.iso_lexer.specs.Devices.{page_text}
use Rattle.spec_parser.specs.Trees.{spec_view}
use Rattle.report_text.specs.FreeText.{each_says, item_text, item_note}
use Rattle.report_text.specs.Inner.Table.{IsTable}
use Rattle.report_text.proofs.free.push_items.Given as goal

abbrev pub invariant-loop-item : goal.invariant-loop-item
invariant-loop-item l =
    let text = item_text (spec_view l.spec).sessions in
    let note = item_note (spec_view l.spec) in
    record {
      text : page_text l.pages.text ++ each_says text (take l.item-index l.items) (drop l.item-index l.items) ≡ page_text l.fn.pages.text ++ each_says text [] l.items;
      notes : page_text l.pages.notes ++ each_says note (take l.item-index l.items) (drop l.item-index l.items) ≡ page_text l.fn.pages.notes ++ each_says note [] l.items;
      table : IsTable l.table.items (take l.item-index l.items);
      count : length l.table.items ≡ length l.spec.sessions.items + 1;
    }
