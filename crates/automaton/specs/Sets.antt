-- Sets of numbers below 32 as the bits of a number.
use Rattle.std.specs.Prelude.{◌≡◌, ℕ, ◌/◌, ◌%◌, ◌^◌, ◌<◌, ◌≤◌, ◌⊎◌, ◌↔◌, List, slice_index}

-- j stands in the set n
abbrev pub Bit : ℕ → ℕ → Type 0
Bit n j = n / 2 ^ j % 2 ≡ 1

-- the rows are those of old, but that below n each of to has been put into each row of from
pub record Linked (rows old : List ℕ) (n from to : ℕ) : Type 0 where
  pub done : (p q : ℕ) → p < n → Bit (slice_index rows p) q ↔ (Bit (slice_index old p) q ⊎ (Bit from p × Bit to q))
  pub left : (p : ℕ) → n ≤ p → slice_index rows p ≡ slice_index old p
  pub kept : (p : ℕ) → (Bit from p → ⊥) → slice_index rows p ≡ slice_index old p
