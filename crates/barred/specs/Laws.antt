-- A barred machine keeps the laws, whatever its bars.
use Rattle.std.proofs.Common.{◌≡◌, ℕ, zero, suc, ◌<◌, Bool, true, false, not, ◌&&◌, is_some, Some, None, Option, refl, ◌∙◌, inl, inr, arith, rules}
use Rattle.std.proofs.lemmas.Bool.{and_left, and_parts, and_right, cases_Bool, cond-false, false≢true, not-true, or_cases}
use Rattle.machine.specs.Model.{Model, Lawful}
use Rattle.barred.specs.Bars.{Bars, is_barred, is_open, has_open, some_below, barred_step, barred_model}

pub some_below_where : (n : ℕ) (f : ℕ → Bool) → some_below n f ≡ true → (t : ℕ) × (t < n) × (f t ≡ true)
some_below_where zero f e = absurd (false≢true e)
some_below_where (suc n) f e = elim (or_cases (some_below n f) (f n) e) [
  | inl y ↦ let w = some_below_where n f y in (w.0, omega (arith, w.1), w.2)
  | inr y ↦ (n, omega arith, y)
]

some_is : (o : Option ℕ) → is_some o ≡ true → (d : ℕ) × (o ≡ Some d)
some_is (Some d) e = (d, refl)
some_is None e = absurd (false≢true e)

pub open_where : (m : Model) (bars : Bars) (s : ℕ) → has_open m bars s ≡ true → (t : ℕ) × (t < m.states) × (is_open m bars s t ≡ true)
unfolding has_open
open_where m bars s e = some_below_where m.states (is_open m bars s) e

-- a step that is not taken away has its seconds
stays : (m : Model) (bars : Bars) (s t : ℕ) → (is_barred bars s t && has_open m bars s) ≡ false → barred_step m bars s t ≡ m.step s t
stays m bars s t e = cond-false (is_barred bars s t && has_open m bars s) None (m.step s t) e

-- every state has a step that is not taken away
step_left : {m : Model} → Lawful m → (bars : Bars) (s : ℕ) → s < m.states → (t : ℕ) × (d : ℕ) × (barred_step m bars s t ≡ Some d)
step_left {m} law bars s h = elim (cases_Bool (has_open m bars s)) [
  | inl y ↦
      let w = open_where m bars s y in
      let parts = and_parts (is_some (m.step s w.0)) (not (is_barred bars s w.0)) w.2 in
      let d = some_is (m.step s w.0) parts.0 in
      (w.0, d.0, stays m bars s w.0 (and_left (is_barred bars s w.0) (has_open m bars s) (not-true (is_barred bars s w.0) parts.1)) ∙ d.1)
  | inr n ↦
      let w = law.leaves s h in
      (w.0, w.1, stays m bars s w.0 (and_right (is_barred bars s w.0) (has_open m bars s) n) ∙ w.2)
]

pub barred_lawful : {m : Model} → Lawful m → (bars : Bars) → Lawful (barred_model m bars)
barred_lawful {m} law bars = record {
  few_states = law.few_states;
  few_names = law.few_names;
  joins = λ s t d e. let j = law.joins s t d in search rules;
  leaves = step_left law bars;
  listed = law.listed;
}
