-- When an automaton is that of an expression, and what it accepts.
use Rattle.std.specs.Prelude.{◌≡◌, ℕ, ◌<◌, true, ◌↔◌, slice_index}
use Rattle.machine.specs.Model.{Model}
use Rattle.logic.specs.Formulas.{Formula, Regular, size}
use Rattle.logic.specs.Positions.{positions, Accepts}
use Rattle.automaton.specs.Sets.{Bit}
use Rattle.automaton.specs.Built.{as_positions, rows_of}
use Rattle.automaton.specs.declared.Automaton.{Automaton}

-- a is the position automaton of r
pub record AutomatonOf (r : Regular) (a : Automaton) : Type 0 where
  pub count : a.letters.count ≡ size r
  pub null : (a.whole.nullable ≡ true) ↔ (positions r 0).null
  pub first : (p : ℕ) → Bit a.whole.first p ↔ (positions r 0).first p
  pub last : (p : ℕ) → Bit a.whole.last p ↔ (positions r 0).last p
  pub follow : (p q : ℕ) → p < size r → Bit (slice_index (rows_of a.letters) p) q ↔ (positions r 0).follow p q

-- the states i to j of π, without j, spell a word of a, whose letters have the formulas that φ gives
abbrev pub Spells : Model → (ℕ → ℕ) → Automaton → (ℕ → Formula) → ℕ → ℕ → Type 0
Spells m π a φ i j = Accepts m π (as_positions a.whole (rows_of a.letters)) φ i j
