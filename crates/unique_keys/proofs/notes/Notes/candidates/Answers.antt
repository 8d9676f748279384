use Rattle.std.proofs.Common.{◌≡◌, sym, ◌∙◌, ap, subst, true, rules}
use Rattle.std.specs.List.{list_any}
use Rattle.unique_keys.specs.Inner.Listing.{is_key}
use Rattle.unique_keys.specs.Inner.WellKept.{Leads}
use Rattle.unique_keys.proofs.Leading.{all_lead, none_leads, code_leads}
use Rattle.unique_keys.proofs.notes.Notes.candidates.Goals as goal

pub returns-then-self : goal.returns-then-self
returns-then-self c =
    subst (λ l. Leads c.args.self.now.slots.items l c.args.table c.args.columns.now c.args.asked.now) (sym c.as_slice.ensures.value) (all_lead c.args.self.now c.args.table c.args.columns.now c.args.asked.now c.requires)

pub returns-in-Some : goal.returns-in-Some
returns-in-Some c =
    let is : c.is_known.result ≡ true = search rules in
    let known : list_any (is_key c.args.table c.args.columns.now) c.args.self.now.known.items ≡ true = ap (list_any (is_key c.args.table c.args.columns.now)) (sym c.deref.ensures.value) ∙ sym c.is_known.ensures ∙ is in
    subst (λ l. Leads c.args.self.now.slots.items l c.args.table c.args.columns.now c.args.asked.now) (sym c.at.ensures)
    (code_leads c.args.self.now c.args.table c.args.columns.now c.args.asked.now c.in-Some.code c.requires c.if-self.false known (sym c.key_code.ensures ∙ c.in-Some.is))

pub returns-in-None : goal.returns-in-None
returns-in-None c = none_leads c.args.self.now c.args.table c.args.columns.now c.args.asked.now (sym c.key_code.ensures ∙ c.in-None.is)
