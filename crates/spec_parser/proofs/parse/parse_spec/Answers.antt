use Rattle.std.proofs.Common.{[], length, ap, subst, sym, ◌∙◌, map}
use Rattle.std.proofs.lemmas.Result.{err_from_is_err_and}
use Rattle.iso_lexer.specs.SpecTokens.{at_views}
use Rattle.spec_parser.specs.Trees.{file_view, perm_view, session_draft_view, perm_names_view}
use Rattle.spec_parser.specs.Counts.{start}
use Rattle.spec_parser.specs.Inner.Stopping.{file_at}
use Rattle.spec_parser.specs.Names.{session_tree}
use Rattle.spec_parser.specs.Inner.Known.{first_repeat, known_perms, known_view, sessions_from, IsFaultOf}
use Rattle.spec_parser.specs.Inner.Readers.{rest_of, FailsAs}
use Rattle.spec_parser.proofs.TokenCount.{few_views, all_fit}
use Rattle.spec_parser.proofs.Whole.{WasRead, on_lexer_fault, on_halt, on_repeat, on_undefined, on_spec}
use Rattle.spec_parser.proofs.parse.parse_spec.Goals as goal

pub returns-in_err-tokens : goal.returns-in_err-tokens
returns-in_err-tokens c =
    let p = err_from_is_err_and c.from_residual.result c.from_residual.ensures.1 in
    rw (p.1, p.2) (on_lexer_fault c.args.text.now c.in_err-tokens.field-0.0 c.in_err-tokens.ensures)

pub new-reader-requires-clause-few : goal.new-reader-requires-clause-few
new-reader-requires-clause-few c =
    let few = c.tokens_are_few.ensures c.args.text.now (at_views c.in_ok-tokens.tokens.items) c.in_ok-tokens.ensures in
    rw c.deref.ensures.value (few_views (length c.args.text.now) c.in_ok-tokens.tokens.items few.0 few.1)

pub new-reader-requires-clause-fits : goal.new-reader-requires-clause-fits
new-reader-requires-clause-fits c =
    let lexes = c.in_ok-tokens.ensures in
    rw c.deref.ensures.value (all_fit c.args.text.now c.in_ok-tokens.tokens.items (c.tokens_are_few.ensures c.args.text.now (at_views c.in_ok-tokens.tokens.items) lexes).0 (c.tokens_are_slices.ensures c.args.text.now (at_views c.in_ok-tokens.tokens.items) lexes))

pub returns-in_err-file : goal.returns-in_err-file
returns-in_err-file c =
    let p = err_from_is_err_and c.from_residual-in_err-file.result c.from_residual-in_err-file.ensures.1 in
    let at = c.new-reader.ensures.at ∙ ap (λ ts. (start, at_views ts)) c.deref.ensures.value in
    let fails = subst (λ e. FailsAs e c.in_err-file.field-0.0 (file_at (rest_of c.new-reader.result))) c.new-reader.ensures.ends c.in_err-file.ensures.reads in
    rw (p.1, p.2) (on_halt c.args.text.now (at_views c.in_ok-tokens.tokens.items) c.in_err-file.field-0.0 c.in_ok-tokens.ensures (subst (λ r. FailsAs (length c.args.text.now) c.in_err-file.field-0.0 (file_at r)) at fails))

pub returns-in-Some : goal.returns-in-Some
returns-in-Some c =
    let at = c.new-reader.ensures.at ∙ ap (λ ts. (start, at_views ts)) c.deref.ensures.value in
    let was : WasRead c.args.text.now (at_views c.in_ok-tokens.tokens.items) (file_view c.in_ok-file.file) (map known_view c.in_ok-known.known.items) = record {
      lexes = c.in_ok-tokens.ensures;
      rest = rest_of c.file.new.self;
      read = ap file_at (sym at) ∙ c.in_ok-file.ensures.reads;
      known_is = c.in_ok-known.ensures.all ∙ ap (λ ss. sessions_from 1 (map session_draft_view ss)) c.deref-2.ensures.value;
    } in
    on_repeat c.args.text.now (at_views c.in_ok-tokens.tokens.items) (file_view c.in_ok-file.file) (map known_view c.in_ok-known.known.items) c.in-Some.at was (c.in-Some.ensures.found ∙ ap (λ ks. first_repeat [] (map known_view ks)) c.deref-3.ensures.value)

pub returns-in_err-perms : goal.returns-in_err-perms
returns-in_err-perms c =
    let p = err_from_is_err_and c.from_residual-in_err-perms.result c.from_residual-in_err-perms.ensures.1 in
    let at = c.new-reader.ensures.at ∙ ap (λ ts. (start, at_views ts)) c.deref.ensures.value in
    let was : WasRead c.args.text.now (at_views c.in_ok-tokens.tokens.items) (file_view c.in_ok-file.file) (map known_view c.in_ok-known.known.items) = record {
      lexes = c.in_ok-tokens.ensures;
      rest = rest_of c.file.new.self;
      read = ap file_at (sym at) ∙ c.in_ok-file.ensures.reads;
      known_is = c.in_ok-known.ensures.all ∙ ap (λ ss. sessions_from 1 (map session_draft_view ss)) c.deref-2.ensures.value;
    } in
    rw (p.1, p.2) (on_undefined c.args.text.now (at_views c.in_ok-tokens.tokens.items) (file_view c.in_ok-file.file) (map known_view c.in_ok-known.known.items) c.in_err-perms.field-0.0 was (c.in_default.ensures.found ∙ ap (λ ks. first_repeat [] (map known_view ks)) c.deref-3.ensures.value)
    (subst (λ ps. IsFaultOf c.in_err-perms.field-0.0 (known_perms (map known_view c.in_ok-known.known.items) (map perm_names_view ps))) c.deref-5.ensures.value (subst (λ ks. IsFaultOf c.in_err-perms.field-0.0 (known_perms (map known_view ks) (map perm_names_view c.deref-5.result.now))) c.deref-4.ensures.value c.in_err-perms.ensures)))

pub returns : goal.returns
returns c =
    let at = c.new-reader.ensures.at ∙ ap (λ ts. (start, at_views ts)) c.deref.ensures.value in
    let was : WasRead c.args.text.now (at_views c.in_ok-tokens.tokens.items) (file_view c.in_ok-file.file) (map known_view c.in_ok-known.known.items) = record {
      lexes = c.in_ok-tokens.ensures;
      rest = rest_of c.file.new.self;
      read = ap file_at (sym at) ∙ c.in_ok-file.ensures.reads;
      known_is = c.in_ok-known.ensures.all ∙ ap (λ ss. sessions_from 1 (map session_draft_view ss)) c.deref-2.ensures.value;
    } in
    let found = ap (λ ps. known_perms (map known_view c.in_ok-known.known.items) (map perm_names_view ps)) (sym c.deref-5.ensures.value) ∙ ap (λ ks. known_perms (map known_view ks) (map perm_names_view c.deref-5.result.now)) (sym c.deref-4.ensures.value) ∙ c.in_ok-perms.ensures in
    let parts = c.in_ok-sessions.ensures ∙ ap (λ ss. map session_tree (map session_draft_view ss)) c.deref-6.ensures.value in
    on_spec c.args.text.now (at_views c.in_ok-tokens.tokens.items) (file_view c.in_ok-file.file) (map known_view c.in_ok-known.known.items) (map perm_view c.in_ok-perms.perms.items) _ was (c.in_default.ensures.found ∙ ap (λ ks. first_repeat [] (map known_view ks)) c.deref-3.ensures.value) found
    (ap (λ ss. record { setups = (file_view c.in_ok-file.file).setups; teardown = (file_view c.in_ok-file.file).teardown; sessions = ss; perms = map perm_view c.in_ok-perms.perms.items }) parts)
