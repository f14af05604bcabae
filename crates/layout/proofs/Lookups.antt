-- Looking up a step, and a name.
use Rattle.std.proofs.Common.{◌≡◌, ℕ, zero, suc, ◌+◌, ◌<◌, Bool, ◌&&◌, eqb, List, [], ◌∷◌, length, get_or, is_some, Some, None, refl, inl, inr, add-one, arith, rules}
use Rattle.std.proofs.lemmas.Bool.{cases_Bool}
use Rattle.std.proofs.lemmas.List.Recursion.{found_at, found_nowhere}
use Rattle.machine.specs.Model.{among}
use Rattle.layout.specs.Descriptions.{Step, Description, no_step, step_of, Precedes, Proper, seconds_of, place_from}

abbrev hit : Step → ℕ → ℕ → Bool
hit e s t = eqb e.from s && eqb e.to t

-- a step that is found stands somewhere
pub seconds_place : (es : List Step) (s t x : ℕ) → seconds_of es s t ≡ Some x → (i : ℕ) × (i < length es) × ((get_or es i no_step).from ≡ s) × ((get_or es i no_step).to ≡ t) × ((get_or es i no_step).seconds ≡ x)
seconds_place [] s t x q = absurd cc
seconds_place (e ∷ es) s t x q = elim (cases_Bool (hit e s t)) [
  | inl y ↦ (0, omega arith, search rules, search rules, search rules)
  | inr n ↦ let r = seconds_place es s t x (search rules) in (suc r.0, omega (arith, r.1), r.2, r.3, r.4)
]

-- a step that stands somewhere is found
pub seconds_some : (es : List Step) (i s t : ℕ) → i < length es → (get_or es i no_step).from ≡ s → (get_or es i no_step).to ≡ t → (x : ℕ) × (seconds_of es s t ≡ Some x)
seconds_some [] i s t h p q = absurd (omega arith)
seconds_some (e ∷ es) zero s t h p q = (e.seconds, search rules)
seconds_some (e ∷ es) (suc i) s t h p q =
    let r = seconds_some es i s t (omega arith) p q in
    elim (cases_Bool (hit e s t)) [ inl y ↦ (e.seconds, search rules) | inr n ↦ (r.0, search rules) ]

pub seconds_none : (es : List Step) (s t : ℕ) → ((i : ℕ) → i < length es → (get_or es i no_step).from ≡ s → (get_or es i no_step).to ≡ t → ⊥) → seconds_of es s t ≡ None
seconds_none es s t h =
    found_nowhere (λ xs. seconds_of xs s t) (λ e. hit e s t) (λ e. Some e.seconds) None refl (λ _ _. refl) es no_step (λ k l. search (rules, h k l))

pub precedes_trans : (e f g : Step) → Precedes e f → Precedes f g → Precedes e g
precedes_trans e f g p q = search rules

pub precedes_apart : (e f : Step) → Precedes e f → e.from ≡ f.from → e.to ≡ f.to → ⊥
precedes_apart e f p q r = search rules

-- not only neighbours are in order
pub ascends : (step : ℕ → Step) (m : ℕ) → ((i : ℕ) → i + 1 < m → Precedes (step i) (step (i + 1))) → (i j : ℕ) → i < j → j < m → Precedes (step i) (step j)
ascends step m next i zero h l = absurd (omega arith)
ascends step m next i (suc j) h l =
    let last = rw add-one at (next j (omega arith)) in
    let before = ascends step m next i j in
    grind (arith, precedes_trans (step i) (step j) (step (suc j)))

-- in a proper description a step that stands somewhere is the one that is found
pub seconds_at : (d : Description) → Proper d → (i s t : ℕ) → i < length d.steps → (step_of d i).from ≡ s → (step_of d i).to ≡ t → seconds_of d.steps s t ≡ Some (step_of d i).seconds
seconds_at d p i s t h a b =
    found_at (λ xs. seconds_of xs s t) (λ e. hit e s t) (λ e. Some e.seconds) None refl (λ _ _. refl) d.steps i no_step h
    (λ k l. let apart = precedes_apart (step_of d k) (step_of d i) (ascends (step_of d) (length d.steps) p.ascending k i l h) in search rules) (search rules)

pub place_among : (b : ℕ) (ns : List (List ℕ)) (w : List ℕ) → is_some (place_from b ns w) ≡ among ns w
place_among b [] w = refl
place_among b (n ∷ ns) w = let e = place_among (b + 1) ns w in search rules
