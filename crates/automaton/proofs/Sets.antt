-- The bits of a set's number, as the operations on numbers change them.
use Rattle.std.proofs.Common.{◌≡◌, ℕ, ◌*◌, ◌/◌, ◌%◌, ◌^◌, ◌<◌, max, bit_and, bit_or, true, not, eqb, ◌⊎◌, ◌↔◌, ap, ◌∙◌, inl, inr, ⊎_elim, one-mul, zero-mul, arith, ne_eqb}
use native.Mathlib.Decide.{ℕ_discrete}
use Rattle.std.proofs.lemmas.Bool.{eqb-false, not-true}
use Rattle.std.proofs.lemmas.Nat.{pow_pos}
use Rattle.std.proofs.lemmas.Nat.Bits.{and_pow, bit_at_or, bit_at-zero, bit_at-pow_same, bit_at-pow_other}
use Rattle.automaton.specs.Sets.{Bit}

pub no_bit : (n q : ℕ) → n ≡ 0 → Bit n q → ⊥
no_bit n q z b = let e : n / 2 ^ q % 2 ≡ 0 = ap (λ x. x / 2 ^ q % 2) z ∙ bit_at-zero q in omega arith

pub has_bit : (n k : ℕ) → (not (eqb (bit_and n (2 ^ k)) 0) ≡ true) ↔ Bit n k
has_bit n k =
    let p : 0 < 2 ^ k = pow_pos k in
    let a = and_pow n k in (
      (λ t. elim (ℕ_discrete (n / 2 ^ k % 2) 1) [
        | yes e ↦ e
        | no ne ↦
            let z : n / 2 ^ k % 2 ≡ 0 = omega arith in
            absurd (eqb-false (bit_and n (2 ^ k)) 0 (not-true _ t) (a ∙ ap (λ b. b * 2 ^ k) z ∙ zero-mul (2 ^ k)))
      ]),
      (λ b. ap not (ne_eqb (bit_and n (2 ^ k)) 0 (λ z. let q : bit_and n (2 ^ k) ≡ 2 ^ k = a ∙ ap (λ x. x * 2 ^ k) b ∙ one-mul (2 ^ k) in omega arith))),
    )

pub only_bit : (k j : ℕ) → Bit (2 ^ k) j ↔ (j ≡ k)
only_bit k j = elim (ℕ_discrete j k) [
  | yes e ↦ (λ _. e, λ _. ap (λ i. 2 ^ k / 2 ^ i % 2) e ∙ bit_at-pow_same k)
  | no ne ↦ (λ b. absurd (omega (arith, bit_at-pow_other k j ne)), λ e. absurd (ne e))
]

pub union_bit : (n p j : ℕ) → Bit (bit_or n p) j ↔ (Bit n j ⊎ Bit p j)
union_bit n p j =
    let o : bit_or n p / 2 ^ j % 2 ≡ max (n / 2 ^ j % 2) (p / 2 ^ j % 2) = bit_at_or n p j in (
      (λ b. elim (ℕ_discrete (n / 2 ^ j % 2) 1) [ yes e ↦ inl e | no ne ↦ inr (omega arith) ]),
      ⊎_elim {C = Bit (bit_or n p) j} (λ b. omega arith) (λ b. omega arith),
    )
