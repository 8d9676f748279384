use Rattle.std.proofs.Common.{refl, subst, sym, ap, ◌∙◌}
use Rattle.std.specs.Io.KnownBytes.{Appends}
use Rattle.iso_lexer.specs.Devices.{PutsFront}
use Rattle.iso_lexer.proofs.Writing.{appends_more, front_of_piece}
use Rattle.program_words.specs.Cures.{words_for}
use Rattle.program_words.specs.Places.{place_in_file, quoted_at}
use Rattle.program_words.proofs.Putting.{front_behind, ok_with}
use Rattle.program_words.proofs.program.put_besides.Goals as goal

pub returns-in_err-put_quote-clause-front : goal.returns-in_err-put_quote-clause-front
returns-in_err-put_quote-clause-front g c =
    let put = g.N.Sink.put_so_far in
    let file = c.args.file.now in
    front_of_piece (put c.args.err.now) (put c.put_quote.new.err) (quoted_at file (place_in_file c.args.fault.now)) (words_for file c.args.fault.now) _ refl
    (subst (λ at. PutsFront (put c.args.err.now) (put c.put_quote.new.err) (quoted_at file at)) c.place_of.ensures c.in_err-put_quote.ensures.front)

pub returns-clause-bytes : goal.returns-clause-bytes
returns-clause-bytes g c =
    let put = g.N.Sink.put_so_far in
    let file = c.args.file.now in
    ok_with c.put.result (λ more. appends_more (put c.args.err.now) (put c.put_quote.new.err) (put c.put.new.self) (quoted_at file (place_in_file c.args.fault.now)) (words_for file c.args.fault.now)
    (subst (λ at. Appends (put c.args.err.now) (put c.put_quote.new.err) (quoted_at file at)) c.place_of.ensures c.in_ok-put_quote.ensures.bytes)
    (subst (Appends (put c.put_quote.new.err) (put c.put.new.self)) (c.as_bytes.ensures.value ∙ c.words_for.ensures) more)) c.put.ensures.bytes

pub returns-clause-front : goal.returns-clause-front
returns-clause-front g c =
    let put = g.N.Sink.put_so_far in
    let file = c.args.file.now in
    front_behind (put c.args.err.now) (put c.put_quote.new.err) (put c.put.new.self) (quoted_at file (place_in_file c.args.fault.now)) (words_for file c.args.fault.now)
    (subst (λ at. Appends (put c.args.err.now) (put c.put_quote.new.err) (quoted_at file at)) c.place_of.ensures c.in_ok-put_quote.ensures.bytes)
    (subst (PutsFront (put c.put_quote.new.err) (put c.put.new.self)) (c.as_bytes.ensures.value ∙ c.words_for.ensures) c.put.ensures.front)
