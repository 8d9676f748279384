use Rattle.std.proofs.Common.{◌≡◌, true, false, refl, inl, inr}
use Rattle.clap.specs.Words.{kind_of}
use Rattle.program_words.specs.Shell.{said, unsaid}
use Rattle.program_words.proofs.program.refuse.Goals as goal

pub returns-in-Ok : goal.returns-in-Ok
returns-in-Ok g c = λ kinds has. elim has [
  | inl memory ↦ absurd (let it : false ≡ true = c.in-Ok.ensures memory in cc)
  | inr among ↦ said (kind_of c.args.error.now) among _ c.put_said.ensures c.status_of.ensures
]

pub returns-in-Err : goal.returns-in-Err
returns-in-Err g c = λ kinds has. unsaid refl c.told.ensures.told c.told.ensures.status
