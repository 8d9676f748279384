use Rattle.std.proofs.Common.{◌≡◌, ◌++◌, ◌∷◌, ◌+◌, ℕ, List, map, drop, sym, ap, ◌∙◌, arith, append_assoc}
use Rattle.spec_parser.specs.Trees.{NameAt, SessionOf, draft_view, session_draft_view}
use Rattle.spec_parser.specs.Names.{StepAt}
use Rattle.spec_parser.specs.Inner.Known.{known_view, steps_from, sessions_from}
use Rattle.spec_parser.proofs.Resolving.{at_next}
use Rattle.spec_parser.proofs.known.known_steps.Goals as goal

-- a session's steps behind those before it
one_more : (k : ℕ) (s : SessionOf NameAt) (fs rest : List (SessionOf NameAt)) (old new whole : List StepAt) → rest ≡ s ∷ fs → new ≡ old ++ steps_from k 0 s.steps → old ++ sessions_from k rest ≡ whole → new ++ sessions_from (k + 1) fs ≡ whole
one_more k s fs rest old new whole e n w =
    ap (λ l. l ++ sessions_from (k + 1) fs) n ∙ append_assoc old (steps_from k 0 s.steps) (sessions_from (k + 1) fs) ∙ sym (ap (λ r. old ++ sessions_from k r) e) ∙ w

pub loop-session-preserved : goal.loop-session-preserved
loop-session-preserved c =
    let xs = c.args.sessions.now in
    let i = c.loop-session.session-index in
    let k = c.loop-session.number + 1 in
    let s = c.session-item.result in
    let next : drop i xs ≡ s ∷ drop (i + 1) xs = at_next xs i s (omega arith) ∙ ap (λ x. x ∷ drop (i + 1) xs) (sym c.session-item.is) in
    let added = c.in_ok-add_steps.ensures.added ∙ ap (λ ss. map known_view c.loop-session.known.items ++ steps_from k 0 (map draft_view ss)) c.deref.ensures.value in
    record {
      counted = omega arith;
      told = one_more k (session_draft_view s) (map session_draft_view (drop (i + 1) xs)) (map session_draft_view (drop i xs)) (map known_view c.loop-session.known.items) (map known_view c.add_steps.new.known.items) _ (ap (map session_draft_view) next) added c.loop-session.invariant.told;
    }
