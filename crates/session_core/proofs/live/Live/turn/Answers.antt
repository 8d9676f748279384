use Rattle.std.proofs.Common.{rules, ◌≡◌, ◌∙◌, sym, ap, ℕ}
use Rattle.std.specs.Prelude.{Option, None, option_map}
use Rattle.std.specs.List.{position_from}
use Rattle.std.specs.Option.{option_or}
use Rattle.session_machine.specs.Machine.{Machine, is_first_free}
use Rattle.session_machine.specs.Inner.Steps.{is_ready}
use Rattle.session_core.specs.Inner.Freed.{FreeWait, earliest_free}
use Rattle.session_core.proofs.Freed.{first_free}
use Rattle.session_core.proofs.live.Live.turn.Goals as goal

pub returns-in-None-clause-turn : goal.returns-in-None-clause-turn
returns-in-None-clause-turn g c =
    let m : Machine = c.args.self.now in
    let none : position_from is_ready 0 m.sessions ≡ None = search rules in
    let freed : c.freed_session.result ≡ option_map (λ (w : FreeWait). w.session) (earliest_free m.db 0 m.sessions) = search rules in
    freed ∙ (sym (first_free m.db m.sessions) ∙ ap (λ (o : Option ℕ). option_or o (position_from (is_first_free m.db m.sessions) 0 m.sessions)) (sym none))
