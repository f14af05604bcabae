-- What a formula says of a state of a machine: CTRL, branching time with regular expressions in the operators.
use Rattle.std.specs.Prelude.{◌≡◌, ℕ, zero, suc, true, ◌⊎◌, Some}
use Rattle.machine.specs.Model.{Model}
use Rattle.logic.specs.declared.Quantifier.{Quantifier}
use Rattle.logic.specs.declared.Quantifier.TheVariants.{EF, AF, EG, AG}
use Rattle.logic.specs.declared.Cycle.{Cycle}
use Rattle.logic.specs.declared.Cycle.TheVariants.{Loop, Sat as Saturated}
use Rattle.logic.specs.Formulas.{Formula, name, top, bottom, neg, both, either, path, cycle, Regular, letter, seq, alt, star}

-- a step leads from s to t
abbrev pub Step : Model → ℕ → ℕ → Type 0
Step m s t = (c : ℕ) × (m.step s t ≡ Some c)

-- an endless path from s
abbrev pub Path : Model → ℕ → (ℕ → ℕ) → Type 0
Path m s π = (π 0 ≡ s) × ((i : ℕ) → Step m (π i) (π (suc i)))

-- i to j is c intervals of R, one behind the other
abbrev pub Power : (ℕ → ℕ → Type 0) → ℕ → ℕ → ℕ → Type 0
Power R zero i j = j ≡ i
Power R (suc c) i j = (k : ℕ) × R i k × Power R c k j

-- on some path, or on every path, from s: at some i that M takes, or at every one, F holds
abbrev pub Quantified : Quantifier → Model → ℕ → ((ℕ → ℕ) → ℕ → Type 0) → (ℕ → Type 0) → Type 0
Quantified EF m s M F = (π : ℕ → ℕ) × Path m s π × ((i : ℕ) × M π i × F (π i))
Quantified AF m s M F = (π : ℕ → ℕ) → Path m s π → (i : ℕ) × M π i × F (π i)
Quantified EG m s M F = (π : ℕ → ℕ) × Path m s π × ((i : ℕ) → M π i → F (π i))
Quantified AG m s M F = (π : ℕ → ℕ) → Path m s π → (i : ℕ) → M π i → F (π i)

-- some path from s begins, for every c, with c intervals of M, one behind the other
abbrev pub Looping : Model → ℕ → ((ℕ → ℕ) → ℕ → ℕ → Type 0) → Type 0
Looping m s M = (π : ℕ → ℕ) × Path m s π × ((c : ℕ) → (i : ℕ) × Power (M π) c 0 i)

-- LOOP: some path does so; SAT: none does
abbrev pub Repeated : Cycle → Model → ℕ → ((ℕ → ℕ) → ℕ → ℕ → Type 0) → Type 0
Repeated Loop m s M = Looping m s M
Repeated Saturated m s M = Looping m s M → ⊥

abbrev mutual
  -- the state s satisfies the formula
  pub Sat : Model → ℕ → Formula → Type 0
  Sat m s (name w) = m.bears s w ≡ true
  Sat m s top = Unit {0}
  Sat m s bottom = ⊥
  Sat m s (neg f) = Sat m s f → ⊥
  Sat m s (both f g) = Sat m s f × Sat m s g
  Sat m s (either f g) = Sat m s f ⊎ Sat m s g
  Sat m s (path q r f) = Quantified q m s (λ π i. Match m π 0 i r) (λ t. Sat m t f)
  Sat m s (cycle c r) = Repeated c m s (λ π i j. Match m π i j r)

  -- the states i to j of π match the expression; the last one, j, is not tested
  pub Match : Model → (ℕ → ℕ) → ℕ → ℕ → Regular → Type 0
  Match m π i j (letter f) = (j ≡ suc i) × Sat m (π i) f
  Match m π i j (seq r q) = (k : ℕ) × Match m π i k r × Match m π k j q
  Match m π i j (alt r q) = Match m π i j r ⊎ Match m π i j q
  Match m π i j (star r) = (c : ℕ) × Power (λ a b. Match m π a b r) c i j
