use Rattle.std.proofs.Common.{◌∙◌, ◌+◌, ℕ, List, length, map, take, ap, arith, subst}
use Rattle.std.proofs.lemmas.List.Sums.{count_by-le-length}
use Rattle.std.specs.Io.KnownBytes.{Appends}
use Rattle.iso_lexer.specs.Devices.{PutsFront}
use Rattle.program_words.specs.Quote.{begins_character, columns, label_of, shown_byte}
use Rattle.program_words.proofs.Lines.{in_parts, up_to_mark}
use Rattle.program_words.proofs.Putting.{ok_with}
use Rattle.program_words.proofs.quote.put_marked.Goals as goal

pub returns-clause-bytes : goal.returns-clause-bytes
returns-clause-bytes g c =
    let put = g.N.Sink.put_so_far in
    let number = c.args.number.now in
    let cols = columns c.args.before.now in
    let width = 5 + length number + 2 + c.columns.result in
    let below = up_to_mark number c.split_at.result.0.now width cols (c.split_at.ensures.front ∙ ap (λ (l : List ℕ). take width l) c.as_slice.ensures) (omega (arith, c.columns.ensures, count_by-le-length begins_character c.args.before.now, c.requires.short, c.requires.fits)) (omega (arith, c.columns.ensures)) in
    ok_with c.put_label.result (subst (Appends (put c.args.err.now) (put c.put_label.new.err))
    (in_parts (label_of number) c.as_slice-2.result.now c.split_at.result.0.now (map shown_byte c.args.before.now) (map shown_byte c.args.after.now) (length (label_of number) + cols) (c.as_slice-2.ensures.value ∙ c.shown_line-line.ensures) below)) c.put_label.ensures.bytes

pub returns-clause-front : goal.returns-clause-front
returns-clause-front g c =
    let put = g.N.Sink.put_so_far in
    let number = c.args.number.now in
    let cols = columns c.args.before.now in
    let width = 5 + length number + 2 + c.columns.result in
    let below = up_to_mark number c.split_at.result.0.now width cols (c.split_at.ensures.front ∙ ap (λ (l : List ℕ). take width l) c.as_slice.ensures) (omega (arith, c.columns.ensures, count_by-le-length begins_character c.args.before.now, c.requires.short, c.requires.fits)) (omega (arith, c.columns.ensures)) in
    subst (PutsFront (put c.args.err.now) (put c.put_label.new.err))
    (in_parts (label_of number) c.as_slice-2.result.now c.split_at.result.0.now (map shown_byte c.args.before.now) (map shown_byte c.args.after.now) (length (label_of number) + cols) (c.as_slice-2.ensures.value ∙ c.shown_line-line.ensures) below) c.put_label.ensures.front
