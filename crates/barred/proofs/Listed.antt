-- Which steps are barred after a bar more, and after the bars of a step are taken out; and which states are then marked.
use Rattle.std.proofs.Common.{not, ◌≡◌, ℕ, ◌<◌, Bool, true, false, cond, ◌||◌, eqb, List, [], ◌∷◌, ◌++◌, length, get_or, set, sym, refl, ap, ◌∙◌, inl, inr}
use mathlib.Core.Bool.{or-false}
use Rattle.std.proofs.lemmas.List.{get_or-set_same, get_or-set_other}
use Rattle.std.specs.List.{list_any}
use Rattle.std.proofs.lemmas.List.Folds.{list_any-append}
use Rattle.std.proofs.lemmas.Bool.{and_left, and_parts, both_ways, cases_Bool, cases_eq, eqb-true, or_cases, or_from, or_parts}
use Rattle.barred.specs.declared.steps.Step.{Step}
use Rattle.barred.specs.Bars.{Bars, Marked, is_step, is_barred, without}

pub is_barred_push : (bars : Bars) (p : Step) (s t : ℕ) → is_barred (bars ++ (p ∷ [])) s t ≡ (is_barred bars s t || is_step p s t)
is_barred_push bars p s t = list_any-append (λ q. is_step q s t) bars (p ∷ []) ∙ ap (λ b. is_barred bars s t || b) (or-false (is_step p s t))

-- taking bars out bars no step
pub is_barred_without : (bars : Bars) (s t x y : ℕ) → is_barred bars x y ≡ false → is_barred (without bars s t) x y ≡ false
is_barred_without [] s t x y e = refl
is_barred_without (p ∷ bars) s t x y e =
    let parts = or_parts (is_step p x y) (is_barred bars x y) e in
    go (is_step p s t) parts.0 (is_barred_without bars s t x y parts.1)
  where
    go : (b : Bool) → is_step p x y ≡ false → is_barred (without bars s t) x y ≡ false → is_barred (cond (not b) (p ∷ without bars s t) (without bars s t)) x y ≡ false
    go true h k = k
    go false h k = or_from (is_step p x y) (is_barred (without bars s t) x y) h k

-- where no bar leaves a state, none of its steps is barred
pub none_left : (bars : Bars) (s t : ℕ) → list_any (λ p. eqb p.from s) bars ≡ false → is_barred bars s t ≡ false
none_left [] s t e = refl
none_left (p ∷ bars) s t e =
    let parts = or_parts (eqb p.from s) (list_any (λ q. eqb q.from s) bars) e in
    or_from (is_step p s t) (is_barred bars s t) (and_left (eqb p.from s) (eqb p.to t) parts.0) (none_left bars s t parts.1)

pub unmarked : (touched : List Bool) (bars : Bars) → Marked touched bars → (s t : ℕ) → get_or touched s false ≡ false → is_barred bars s t ≡ false
unmarked touched bars marked s t e = elim (cases_Bool (is_barred bars s t)) [ inl y ↦ absurd (both_ways (get_or touched s false) e (marked s t y)) | inr n ↦ n ]

pub marked_push : (touched : List Bool) (bars : Bars) → Marked touched bars → (p : Step) → p.from < length touched
    → Marked (set touched p.from true) (bars ++ (p ∷ []))
marked_push touched bars marked p h s t e = elim (cases_eq s p.from) [
  | inl same ↦ rw same (get_or-set_same touched p.from true false h)
  | inr other ↦ get_or-set_other touched p.from s true false other ∙ elim (or_cases (is_barred bars s t) (is_step p s t) (sym (is_barred_push bars p s t) ∙ e)) [
    | inl y ↦ marked s t y
    | inr y ↦ absurd (other (sym (eqb-true p.from s (and_parts (eqb p.from s) (eqb p.to t) y).0)))
  ]
]

pub marked_without : (touched : List Bool) (bars : Bars) → Marked touched bars → (s t : ℕ) (left : Bool) → s < length touched
    → (left ≡ false → (u : ℕ) → is_barred (without bars s t) s u ≡ false) → Marked (set touched s left) (without bars s t)
marked_without touched bars marked s t left h none x y e = elim (cases_eq x s) [
  | inl same ↦ rw same (get_or-set_same touched s left false h ∙ elim (cases_Bool left) [
    | inl y ↦ y
    | inr n ↦ absurd (both_ways (is_barred (without bars s t) x y) (rw same (none n y)) e)
  ])
  | inr other ↦ get_or-set_other touched s x left false other ∙ elim (cases_Bool (is_barred bars x y)) [
    | inl barred ↦ marked x y barred
    | inr n ↦ absurd (both_ways (is_barred (without bars s t) x y) (is_barred_without bars s t x y n) e)
  ]
]
