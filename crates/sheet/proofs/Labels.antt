-- How the labels are judged, each by the bytes of its own.
use Rattle.std.proofs.Common.{◌≡◌, ℕ, ◌+◌, ◌*◌, ◌^◌, ◌<◌, ◌≤◌, Bool, true, false, cond, not, ltb, List, [], length, get_or, take, drop, Some, None, sym, ap, ◌∙◌, inl, inr, add-zero, arith}
use Rattle.std.specs.List.{position, position_or_len}
use Rattle.std.proofs.lemmas.Bool.{cases_Bool, cond-true, ltb-false, not-true, not-false}
use Rattle.std.proofs.lemmas.List.Quantifiers.{position-Some}
use Rattle.std.proofs.lemmas.List.Sums.{fails_before_first}
use Rattle.fault.specs.declared.Reason.TheVariants.{BadEntry, CutShort}
use Rattle.fault.specs.Refusals.{at}
use Rattle.layout.specs.Fields.{u16_at, u32_at, name_count, labels_at, label_at, label_in}
use Rattle.layout.specs.Judging.{first_fault, label_fault}
use Rattle.layout.proofs.Faults.{first_here, first_none}
use Rattle.sheet.specs.Fields.{EntriesAt}
use Rattle.sheet.proofs.Judged.{field_short, field_there, u16_in}

-- where no element passes
pub none_passes : {X : Type 0} (p : X → Bool) (xs : List X) (d : X) → position p xs ≡ None → (k : ℕ) → k < length xs → p (get_or xs k d) ≡ false
none_passes p xs d e k h = elim (cases_Bool (ltb (position_or_len p xs) (length xs))) [
  | inl y ↦ let z = sym (cond-true (ltb (position_or_len p xs) (length xs)) (Some (position_or_len p xs)) None y) ∙ e in let w : ◌≡◌ {A = ℕ} 0 1 = cc in absurd (omega arith)
  | inr n ↦ let l = ltb-false (position_or_len p xs) (length xs) n in fails_before_first p xs k d (omega arith)
]

u32_in : (o : ℕ) (bytes : List ℕ) → u32_at (take 4 (drop o bytes)) 0 ≡ u32_at bytes o
u32_in o bytes = omega (arith, u16_in 4 0 o bytes (omega arith), u16_in 4 2 o bytes (omega arith), ap (u16_at bytes) (add-zero o))

module _ (bytes : List ℕ) (entries : List (List ℕ)) (o : ℕ) (is : EntriesAt 4 bytes o entries) (here : o ≡ labels_at bytes) where
  pub label_is : (i : ℕ) → i < length entries → u32_at (get_or entries i []) 0 ≡ label_in bytes i
  label_is i h = ap (λ e. u32_at e 0) (is i h) ∙ u32_in (o + 4 * i) bytes ∙ ap (λ k. u32_at bytes (k + 4 * i)) here

  module _ (names : ℕ) (named : names ≡ name_count bytes) (room : o + 4 * length entries ≤ length bytes) where
    -- a label with a bit that stands for no name
    abbrev unlisted : List ℕ → Bool
    unlisted entry = not (ltb (u32_at entry 0) (2 ^ names))

    judged : (i : ℕ) → i < length entries → label_fault bytes i ≡ cond (ltb (u32_at (get_or entries i []) 0) (2 ^ names)) None (Some (at BadEntry (o + 4 * i)))
    judged i h =
        field_there bytes (label_at bytes i) 4 (ltb (label_in bytes i) (2 ^ name_count bytes)) (at BadEntry (label_at bytes i)) (omega arith)
        ∙ ap (λ x. cond (ltb x (2 ^ name_count bytes)) None (Some (at BadEntry (label_at bytes i)))) (sym (label_is i h))
        ∙ ap (λ n. cond (ltb (u32_at (get_or entries i []) 0) (2 ^ n)) None (Some (at BadEntry (label_at bytes i)))) (sym named)
        ∙ ap (λ k. cond (ltb (u32_at (get_or entries i []) 0) (2 ^ names)) None (Some (at BadEntry (k + 4 * i)))) (sym here)

    passes : (i : ℕ) → i < length entries → unlisted (get_or entries i []) ≡ false → label_fault bytes i ≡ None
    passes i h e = judged i h ∙ ap (λ b. cond b None (Some (at BadEntry (o + 4 * i)))) (not-false (ltb (u32_at (get_or entries i []) 0) (2 ^ names)) e)

    fails : (i : ℕ) → i < length entries → unlisted (get_or entries i []) ≡ true → label_fault bytes i ≡ Some (at BadEntry (o + 4 * i))
    fails i h e = judged i h ∙ ap (λ b. cond b None (Some (at BadEntry (o + 4 * i)))) (not-true (ltb (u32_at (get_or entries i []) 0) (2 ^ names)) e)

    pub labels_wrong : (n i : ℕ) → length entries ≤ n → position unlisted entries ≡ Some i → first_fault n (label_fault bytes) ≡ Some (at BadEntry (o + 4 * i))
    labels_wrong n i l e =
        let p = position-Some unlisted entries i [] e in
        first_here n i (label_fault bytes) _ (omega (arith, p.0)) (first_none i (label_fault bytes) (λ j h. passes j (omega (arith, p.0)) (p.2 j h))) (fails i p.0 p.1)

    pub labels_right : (n : ℕ) → n ≤ length entries → position unlisted entries ≡ None → first_fault n (label_fault bytes) ≡ None
    labels_right n l e = first_none n (label_fault bytes) (λ j h. passes j (omega arith) (none_passes unlisted entries [] e j (omega arith)))

    pub labels_short : (n : ℕ) → length entries < n → length bytes < o + 4 * length entries + 4 → position unlisted entries ≡ None → first_fault n (label_fault bytes) ≡ Some (at CutShort (length bytes))
    labels_short n l short e =
        let i = length entries in
        first_here n i (label_fault bytes) _ l (labels_right i (omega arith) e) (field_short bytes (label_at bytes i) 4 (ltb (label_in bytes i) (2 ^ name_count bytes)) (at BadEntry (label_at bytes i)) (omega arith))
