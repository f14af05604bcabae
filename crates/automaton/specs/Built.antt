-- When a piece, with the letters read so far, is the position automaton of an expression.
use Rattle.std.specs.Prelude.{◌≡◌, ℕ, ◌+◌, ◌<◌, ◌≤◌, true, ◌↔◌, List, Some, None, Option, slice_index, slice_index_or}
use Rattle.logic.specs.Formulas.{Formula, Regular, letter, size}
use Rattle.logic.specs.Positions.{Positions, positions}
use Rattle.automaton.specs.Sets.{Bit}
use Rattle.automaton.specs.declared.Piece.{Piece}
use Rattle.automaton.specs.declared.store.Letters.{Letters}

-- the automaton whose sets are the bits of a piece, and those of a row for each letter
abbrev pub as_positions : Piece → List ℕ → Positions
as_positions a rows = record { null = a.nullable ≡ true; first = Bit a.first; last = Bit a.last; follow = λ p q. Bit (slice_index rows p) q }

-- for each letter the set of those that can follow it
abbrev pub rows_of : Letters → List ℕ
rows_of e = e.follow

-- for each letter the part of the rule that it stands for
abbrev pub labels_of : Letters → List ℕ
labels_of e = e.parts

-- a and b agree, and on what can follow a sign for the signs below n
pub record Same (n : ℕ) (a b : Positions) : Type 0 where
  pub null : a.null ↔ b.null
  pub first : (p : ℕ) → a.first p ↔ b.first p
  pub last : (p : ℕ) → a.last p ↔ b.last p
  pub follow : (p q : ℕ) → p < n → a.follow p q ↔ b.follow p q

-- the piece a, with the letters e, is the automaton of r, whose letters are numbered from o on
pub record Built (r : Regular) (o : ℕ) (a : Piece) (e : Letters) : Type 0 where
  pub room : o + size r ≤ e.count
  pub null : (a.nullable ≡ true) ↔ (positions r o).null
  pub first : (p : ℕ) → Bit a.first p ↔ (positions r o).first p
  pub last : (p : ℕ) → Bit a.last p ↔ (positions r o).last p
  pub follow : (p q : ℕ) → o ≤ p → p < o + size r → Bit (slice_index (rows_of e) p) q ↔ (positions r o).follow p q

-- u has one letter more than e, which stands for the part, and a is the piece of that letter
pub record Added (part : ℕ) (e u : Letters) (a : Piece) : Type 0 where
  pub free : e.count < 31
  pub count : u.count ≡ e.count + 1
  pub built : (f : Formula) → Built (letter f) e.count a u
  pub named : slice_index_or (labels_of u) e.count 0 ≡ part
  pub rows : (k : ℕ) → k < e.count → slice_index (rows_of u) k ≡ slice_index (rows_of e) k
  pub parts : (k : ℕ) → k < e.count → slice_index (labels_of u) k ≡ slice_index (labels_of e) k

-- no letter is added where there are 31
abbrev pub Lettered : ℕ → Letters → Letters → Option Piece → Type 0
Lettered part e u (Some a) = Added part e u a
Lettered part e u None = (31 ≤ e.count) × (u ≡ e)

-- u has the letters of e, and only the rows of the set can differ
pub record Relinked (set : ℕ) (e u : Letters) : Type 0 where
  pub count : u.count ≡ e.count
  pub parts : labels_of u ≡ labels_of e
  pub rows : (p : ℕ) → (Bit set p → ⊥) → slice_index (rows_of u) p ≡ slice_index (rows_of e) p
