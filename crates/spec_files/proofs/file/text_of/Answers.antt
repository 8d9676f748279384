use Rattle.std.proofs.Common.{sym, ◌∙◌, subst, arith, ℕ}
use Rattle.std.specs.Prelude.{Err}
use Rattle.spec_files.specs.declared.fault.RunFault.TheVariants.{NotUtf8}
use Rattle.spec_files.specs.Files.{FileIs, longer, no_text}
use Rattle.spec_files.proofs.file.text_of.Goals as goal

pub returns-then-bytes-gt-LONGEST_FILE-clause-err : goal.returns-then-bytes-gt-LONGEST_FILE-clause-err
returns-then-bytes-gt-LONGEST_FILE-clause-err c = longer (omega arith)

pub returns-in-Err-clause-err : goal.returns-in-Err-clause-err
returns-in-Err-clause-err c =
    subst (λ (n : ℕ). FileIs c.args.bytes.now (Err (NotUtf8 n))) (sym (c.valid_up_to.ensures ∙ c.in-Err.ensures.valid_len)) (no_text (omega arith) c.in-Err.ensures.cases.0)
