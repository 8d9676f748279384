-- Outcomes that are the same: by what is told of them, and by way of a third.
use Rattle.std.proofs.Common.{◌≡◌, ◌<◌, ◌∙◌, ℕ, List, length, map, get_or, refl, sym, ap, subst}
use Rattle.std.specs.Prelude.{Option, Some, None, option_map}
use Rattle.std.specs.Global.{Vec}
use Rattle.std.proofs.lemmas.List.{get_or-map, length-map}
use Rattle.sql_values.specs.declared.value.Value.{Value}
use Rattle.session_machine.specs.declared.reply.Outcome.{Outcome}
use Rattle.session_machine.specs.declared.reply.Outcome.TheVariants.{Launched, Done, Rows, Waits, Failed, Left}
use Rattle.outcome_counts.specs.declared.outcome.RunOutcome.{RunOutcome}
use Rattle.outcome_counts.specs.Outcomes.{Pairwise, SameAnswer, SameAnswers, SameOutcome, SameTable, answers_told}
use Rattle.outcome_counts.specs.Rows.{times}
use Rattle.outcome_counts.proofs.Counting.{answer_itself}

-- ---- by way of a third

pub pairs_by : {A : Type 0} (R : A → A → Type 0) → ((a b c : A) → R a b → R b c → R a c) → (xs ys zs : List A) → Pairwise R xs ys → Pairwise R ys zs → Pairwise R xs zs
pairs_by R by xs ys zs p q = record {
  long = p.long ∙ q.long;
  each = λ k d h. by (get_or xs k d) (get_or ys k d) (get_or zs k d) (p.each k d h) (q.each k d (subst (λ (n : ℕ). k < n) p.long h));
}

pub answer_by : (a b c : Outcome) → SameAnswer a b → SameAnswer b c → SameAnswer a c
answer_by Launched b c h k = subst (λ w. SameAnswer w c) (sym h) k
answer_by Done b c h k = subst (λ w. SameAnswer w c) (sym h) k
answer_by Waits b c h k = subst (λ w. SameAnswer w c) (sym h) k
answer_by (Failed fault) b c h k = subst (λ w. SameAnswer w c) (sym h) k
answer_by Left b c h k = subst (λ w. SameAnswer w c) (sym h) k
answer_by (Rows a) (Rows b) (Rows c) h k = (h.0 ∙ k.0, λ row. h.1 row ∙ k.1 row)
answer_by (Rows a) (Rows b) Launched h k = absurd cc
answer_by (Rows a) (Rows b) Done h k = absurd cc
answer_by (Rows a) (Rows b) Waits h k = absurd cc
answer_by (Rows a) (Rows b) (Failed fault) h k = absurd cc
answer_by (Rows a) (Rows b) Left h k = absurd cc
answer_by (Rows a) Launched c h k = absurd cc
answer_by (Rows a) Done c h k = absurd cc
answer_by (Rows a) Waits c h k = absurd cc
answer_by (Rows a) (Failed fault) c h k = absurd cc
answer_by (Rows a) Left c h k = absurd cc

pub table_by : (a b c : Option (Vec (List Value))) → SameTable a b → SameTable b c → SameTable a c
table_by (Some a) (Some b) (Some c) h k = λ row. h row ∙ k row
table_by None None None h k = tt
table_by (Some a) (Some b) None h k = absurd k
table_by (Some a) None c h k = absurd h
table_by None (Some b) c h k = absurd h
table_by None None (Some c) h k = absurd k

pub same_by : (a b c : RunOutcome) → SameOutcome a b → SameOutcome b c → SameOutcome a c
same_by a b c h k = record {
  answers = pairs_by SameAnswers (λ x y z p q. pairs_by SameAnswer answer_by x.items y.items z.items p q) a.answers.items b.answers.items c.answers.items h.answers k.answers;
  tables = pairs_by SameTable table_by a.tables.items b.tables.items c.tables.items h.tables k.tables;
}

-- ---- by what is told

pairs_told : {A B : Type 0} (R : A → A → Type 0) (f : A → B) → ((a b : A) → f a ≡ f b → R a b) → (xs ys : List A) → map f xs ≡ map f ys → Pairwise R xs ys
pairs_told R f by xs ys e =
    let long : length xs ≡ length ys = sym (length-map xs f) ∙ ap length e ∙ length-map ys f in
    record {
      long = long;
      each = λ k d h. by (get_or xs k d) (get_or ys k d)
          (sym (get_or-map f xs k d (f d) h) ∙ ap (λ zs. get_or zs k (f d)) e ∙ get_or-map f ys k d (f d) (subst (λ (n : ℕ). k < n) long h));
    }

answers_same : (a b : Vec Outcome) → a.items ≡ b.items → SameAnswers a b
answers_same a b e =
    subst (λ (os : List Outcome). Pairwise SameAnswer a.items os) e (record { long = refl; each = λ j d h. answer_itself (get_or a.items j d) })

abbrev rows_told : Option (Vec (List Value)) → Option (List (List Value))
rows_told rows = option_map (λ (v : Vec (List Value)). v.items) rows

table_same : (a b : Option (Vec (List Value))) → rows_told a ≡ rows_told b → SameTable a b
table_same (Some a) (Some b) e = let same : a.items ≡ b.items = cc in λ row. ap (times row) same
table_same None None e = tt
table_same (Some a) None e = absurd cc
table_same None (Some b) e = absurd cc

pub same_told : (a b : RunOutcome) → answers_told a ≡ answers_told b
    → map (λ (rows : Option (Vec (List Value))). option_map (λ (v : Vec (List Value)). v.items) rows) a.tables.items
    ≡ map (λ (rows : Option (Vec (List Value))). option_map (λ (v : Vec (List Value)). v.items) rows) b.tables.items → SameOutcome a b
same_told a b answers tables = record {
  answers = pairs_told SameAnswers (λ (v : Vec Outcome). v.items) answers_same a.answers.items b.answers.items answers;
  tables = pairs_told SameTable (λ (rows : Option (Vec (List Value))). option_map (λ (v : Vec (List Value)). v.items) rows) table_same a.tables.items b.tables.items tables;
}
