-- From what the words give, and the bytes that were read, to what the program does.
use Rattle.std.proofs.Common.{◌≡◌, ◌≤◌, ◌||◌, ℕ, Bool, true, false, List, [], take, length, Option, Result, Ok, Err, refl, ap, subst, take_all}
use Rattle.std.specs.Prelude.{IfErr}
use Rattle.clap.specs.Words.{Text, fault_of}
use Rattle.iso_lexer.specs.Devices.{IsFront}
use Rattle.spec_files.specs.Runs.{is_refusal}
use Rattle.spec_files.specs.declared.fault.RunFault.{RunFault}
use Rattle.program_words.specs.declared.options.Options.{Options}
use Rattle.program_words.specs.Options.{GivesOptions, program}
use Rattle.program_words.specs.Served.{IsServed, RunsFile, lacks, serves}
use Rattle.program_words.specs.Terminal.{Hints, IsUnread}

-- what holds of a file as far as a file may reach holds of one that isn't longer
pub of_whole : (P : List ℕ → Type 0) (file : List ℕ) → length file ≤ 1048577 → P (take 1048577 file) → P file
of_whole P file within p = subst P (take_all 1048577 file within) p

pub either_stays : (a b c : Bool) → (b ≡ true → c ≡ true) → (a || b) ≡ true → (a || c) ≡ true
either_stays true b c stays e = refl
either_stays false b c stays e = stays e

-- a sink that a refusal left as it was took nothing
pub refusal_puts : {W : Type 0} (put : W → Option (List ℕ)) (new old : W) (r : Result (Unit {0}) RunFault) → IfErr r (λ e. is_refusal e ≡ true → new ≡ old) → IfErr r (λ e. is_refusal e ≡ true → put new ≡ put old)
refusal_puts put new old (Ok x) left = tt
refusal_puts put new old (Err e) left = λ is. ap put (left is)

pub refusal_puts_both : {W N : Type 0} (put : W → Option (List ℕ)) (note : N → Option (List ℕ)) (new old : W) (noted before : N) (r : Result (Unit {0}) RunFault)
    → IfErr r (λ e. is_refusal e ≡ true → (new ≡ old) × (noted ≡ before)) → IfErr r (λ e. is_refusal e ≡ true → (put new ≡ put old) × (note noted ≡ note before))
refusal_puts_both put note new old noted before (Ok x) left = tt
refusal_puts_both put note new old noted before (Err e) left = λ is. (ap put (left is).0, ap note (left is).1)

module _ (words : List Text) (left_old left_new : Option (List ℕ)) (in_failed typed there out_failed : Bool) (out_old out_mid out_new : Option (List ℕ))
    (err_failed : Bool) (err_old err_mid err_new : Option (List ℕ)) (status : ℕ) (out_same : out_mid ≡ out_old) (err_same : err_mid ≡ err_old) (options : Options)
    (none : fault_of program words ≡ []) (gives : GivesOptions words options) where
  -- the words give options, but no file is there
  pub unread : IsUnread left_old left_new in_failed typed err_failed err_mid err_new status
      → IsServed words left_old left_new in_failed typed there out_failed out_old out_mid err_failed err_old err_new status
  unread is = lacks none out_same (subst (λ (o : Option (List ℕ)). IsUnread left_old left_new in_failed typed err_failed o err_new status) err_same is)

  -- the words give options, and the file runs
  pub runs : (hinted : Option (List ℕ)) → Hints typed err_mid hinted → (file : List ℕ) → IsFront 1048577 left_old left_new file → in_failed ≡ false
      → RunsFile options file there out_failed out_mid out_new err_failed hinted err_new status
      → IsServed words left_old left_new in_failed typed there out_failed out_old out_new err_failed err_old err_new status
  runs hinted hints file front well ran = serves options none gives hinted (subst (λ (o : Option (List ℕ)). Hints typed o hinted) err_same hints) file front well
      (subst (λ (o : Option (List ℕ)). RunsFile options file there out_failed o out_new err_failed hinted err_new status) out_same ran)
