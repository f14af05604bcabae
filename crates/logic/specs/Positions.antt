-- The position automaton of an expression. Its letters count as different signs, numbered from left to right, and the automaton says which signs
-- a word can begin with, which can end it, and which can follow which.
use Rattle.std.specs.Prelude.{◌≡◌, ℕ, zero, suc, ◌+◌, ◌<◌, ◌≤◌, ◌⊎◌, ◌↔◌, List, [], ◌∷◌, ◌++◌, slice_index_or}
use Rattle.machine.specs.Model.{Model}
use Rattle.logic.specs.Formulas.{Formula, top, Regular, letter, seq, alt, star, size}
use Rattle.logic.specs.Meaning.{Sat, Match}

pub record Positions : Type 1 where
  -- the empty word is taken
  pub null : Type 0
  pub first : ℕ → Type 0
  pub last : ℕ → Type 0
  -- the second sign can follow the first
  pub follow : ℕ → ℕ → Type 0

-- the one sign o
abbrev pub one : ℕ → Positions
one o = record { null = ⊥; first = λ p. p ≡ o; last = λ p. p ≡ o; follow = λ p q. ⊥ }

-- a word of a, and then one of b
abbrev pub joined : Positions → Positions → Positions
joined a b = record {
  null = a.null × b.null;
  first = λ p. a.first p ⊎ (a.null × b.first p);
  last = λ p. b.last p ⊎ (b.null × a.last p);
  follow = λ p q. a.follow p q ⊎ (b.follow p q ⊎ (a.last p × b.first q));
}

-- a word of a, or one of b
abbrev pub choice : Positions → Positions → Positions
choice a b = record {
  null = a.null ⊎ b.null;
  first = λ p. a.first p ⊎ b.first p;
  last = λ p. a.last p ⊎ b.last p;
  follow = λ p q. a.follow p q ⊎ b.follow p q;
}

-- words of a, any number of them
abbrev pub again : Positions → Positions
again a = record {
  null = Unit {0};
  first = λ p. a.first p;
  last = λ p. a.last p;
  follow = λ p q. a.follow p q ⊎ (a.last p × a.first q);
}

-- the automaton of an expression whose letters are numbered from o on
abbrev pub positions : Regular → ℕ → Positions
positions (letter f) o = one o
positions (seq r q) o = joined (positions r o) (positions q (o + size r))
positions (alt r q) o = choice (positions r o) (positions q (o + size r))
positions (star r) o = again (positions r o)

-- the letters of an expression from left to right
abbrev pub letters : Regular → List Formula
letters (letter f) = f ∷ []
letters (seq r q) = letters r ++ letters q
letters (alt r q) = letters r ++ letters q
letters (star r) = letters r

abbrev pub letter_at : Regular → ℕ → Formula
letter_at r p = slice_index_or (letters r) p top

-- ρ 0 to ρ n is a word of the automaton, and the states of π from i on satisfy the formulas that φ gives to its signs
pub record Run (m : Model) (π : ℕ → ℕ) (a : Positions) (φ : ℕ → Formula) (i n : ℕ) (ρ : ℕ → ℕ) : Type 0 where
  pub first : a.first (ρ 0)
  pub follow : (d : ℕ) → d < n → a.follow (ρ d) (ρ (suc d))
  pub last : a.last (ρ n)
  pub holds : (d : ℕ) → d ≤ n → Sat m (π (i + d)) (φ (ρ d))

-- the states i to j of π, without j, spell a word of the automaton
abbrev pub Accepts : Model → (ℕ → ℕ) → Positions → (ℕ → Formula) → ℕ → ℕ → Type 0
Accepts m π a φ i j = (a.null × (j ≡ i)) ⊎ ((n : ℕ) × (ρ : ℕ → ℕ) × (j ≡ suc (i + n)) × Run m π a φ i n ρ)

-- the sign q can come next once the states 0 to i of π, without i, are read
abbrev pub Next : Model → (ℕ → ℕ) → Positions → (ℕ → Formula) → ℕ → ℕ → Type 0
Next m π a φ zero q = a.first q
Next m π a φ (suc i) q = (p : ℕ) × Next m π a φ i p × Sat m (π i) (φ p) × a.follow p q

-- a word can end once they are read
abbrev pub End : Model → (ℕ → ℕ) → Positions → (ℕ → Formula) → ℕ → Type 0
End m π a φ zero = a.null
End m π a φ (suc i) = (p : ℕ) × Next m π a φ i p × Sat m (π i) (φ p) × a.last p

-- An interval matches an expression exactly when its states spell a word of the expression's automaton.
abbrev pub Spelled : Type 0
Spelled = (m : Model) (π : ℕ → ℕ) (r : Regular) (i j : ℕ) → Match m π i j r ↔ Accepts m π (positions r 0) (letter_at r) i j

-- A word can end after i states exactly when those states match the expression.
abbrev pub Ends : Type 0
Ends = (m : Model) (π : ℕ → ℕ) (r : Regular) (i : ℕ) → End m π (positions r 0) (letter_at r) i ↔ Match m π 0 i r
