use Rattle.std.proofs.Common.{◌≡◌, ◌∙◌, sym, ap, rules}
use Rattle.std.specs.Prelude.{string_bytes}
use Rattle.std.specs.Str.{is_utf8}
use Rattle.std.proofs.lemmas.Str.{IsUtf8-string_bytes, is_utf8-from_IsUtf8}
use Rattle.std.proofs.lemmas.Bool.{false≢true}
use Rattle.sql_values.proofs.Utf8.{not_utf8}
use Rattle.outcome_counts.proofs.tables.text_of.Goals as goal

pub returns-in-Ok : goal.returns-in-Ok
returns-in-Ok c =
    let same : string_bytes c.in-Ok.text ≡ c.args.bytes.items = search rules in
    (ap is_utf8 (sym same) ∙ is_utf8-from_IsUtf8 _ (IsUtf8-string_bytes c.in-Ok.text), same)

pub returns : goal.returns
returns c = not_utf8 c.args.bytes.items (λ h. false≢true (c.in-Err.ensures.succeeds h))
