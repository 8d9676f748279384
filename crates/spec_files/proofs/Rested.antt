-- An engine that came to rest has a regular history.
use Rattle.std.proofs.Common.{◌≡◌, ℕ, length, List, [], ap, subst, ◌∙◌}
use Rattle.session_machine.specs.declared.event.Mode.{Mode}
use Rattle.session_machine.specs.declared.event.Mode.TheVariants.{Directed}
use Rattle.session_machine.specs.Machine.{Blocks, opening, Run}
use Rattle.session_machine.specs.Engine.{Engine, opened}
use Rattle.spec_parser.specs.Trees.{EntryTree, SpecTree}
use Rattle.permutation_plans.specs.Launches.{due_in}
use Rattle.permutation_plans.specs.Regular.{IsRegular}
use Rattle.permutation_plans.proofs.Next.{regular_of}
use Rattle.permutation_plans.specs.Code.Fits.{FitsAfter}
use Rattle.spec_files.specs.Inner.Resting.{IsAtRest}

-- what was opened over the blocks and came to rest has a regular history, if it fits
pub regular : (spec : SpecTree) (blocks : Blocks) (entries : List EntryTree) (count : ℕ) (old new : Engine)
    → old ≡ opened blocks count Directed → (new.blocks ≡ old.blocks) × (new.count ≡ old.count) × (new.mode ≡ old.mode) → count ≡ length spec.sessions → IsAtRest new
    → FitsAfter (due_in spec entries) [] new.history → IsRegular spec blocks entries new.history
regular spec blocks entries count old new is same long r fits =
    let bs : new.blocks ≡ blocks = same.0 ∙ ap (λ (e : Engine). e.blocks) is in
    let mode : new.mode ≡ Directed = same.2 ∙ ap (λ (e : Engine). e.mode) is in
    let n : new.count ≡ length spec.sessions = same.1 ∙ ap (λ (e : Engine). e.count) is ∙ long in
    let run = subst (λ (b : Blocks). Run b Directed (opening (length spec.sessions)) new.history r.state) bs
    (subst (λ (m : Mode). Run new.blocks m (opening (length spec.sessions)) new.history r.state) mode
    (subst (λ (k : ℕ). Run new.blocks new.mode (opening k) new.history r.state) n r.run)) in
    regular_of spec blocks entries new.history r.state run r.quiet fits
