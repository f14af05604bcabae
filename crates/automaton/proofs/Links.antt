-- Rows of letters, linked one after the other.
use Rattle.std.proofs.Common.{◌≡◌, ℕ, ◌+◌, ◌<◌, ◌≢◌, ◌⊎◌, ◌↔◌, List, length, get_or, set, sym, refl, ◌∙◌, subst, inl, inr, ⊎_elim, arith, get_or-set_other, get_or-set_same}
use native.Mathlib.Decide.{ℕ_discrete}
use Rattle.automaton.specs.Sets.{Bit, Linked}

pub link_none : (old : List ℕ) (from to : ℕ) → Linked old old 0 from to
link_none old from to = record { done = λ p q h. absurd (omega arith); left = λ p h. refl; kept = λ p h. refl }

pub link_skip : (rows old : List ℕ) (i from to : ℕ) → (Bit from i → ⊥) → Linked rows old i from to → Linked rows old (i + 1) from to
link_skip rows old i from to out l = record {
  done = λ p q h. elim (ℕ_discrete p i) [
    | yes x ↦
        let same : get_or rows p 0 ≡ get_or old p 0 = l.left p (omega arith) in (
          (λ b. inl (subst (λ n. Bit n q) same b)),
          ⊎_elim (λ b. subst (λ n. Bit n q) (sym same) b) (λ b. absurd (out (subst (Bit from) x b.0))),
        )
    | no ne ↦ l.done p q (omega arith)
  ];
  left = λ p h. l.left p (omega arith);
  kept = l.kept;
}

pub link_row :
    (rows old : List ℕ) (i from to row : ℕ) → i < length rows → Bit from i → ((q : ℕ) → Bit row q ↔ (Bit (get_or rows i 0) q ⊎ Bit to q)) →
    Linked rows old i from to → Linked (set rows i row) old (i + 1) from to
link_row rows old i from to row h member joined l =
    let here : get_or (set rows i row) i 0 ≡ row = rw get_or-set_same in
    let there : (p : ℕ) → p ≢ i → get_or (set rows i row) p 0 ≡ get_or rows p 0 = λ p ne. rw get_or-set_other in
    let was : get_or rows i 0 ≡ get_or old i 0 = l.left i (omega arith) in
    record {
      done = λ p q g. elim (ℕ_discrete p i) [
        | yes x ↦ subst (λ k. Bit (get_or (set rows i row) k 0) q ↔ (Bit (get_or old k 0) q ⊎ (Bit from k × Bit to q))) (sym x) (
          (λ b. ⊎_elim (λ y. inl (subst (λ n. Bit n q) was y)) (λ y. inr (member, y)) ((joined q).0 (subst (λ n. Bit n q) here b))),
          (λ s. subst (λ n. Bit n q) (sym here) ((joined q).1 (⊎_elim (λ y. inl (subst (λ n. Bit n q) (sym was) y)) (λ y. inr y.1) s))),
        )
        | no ne ↦ subst (λ n. Bit n q ↔ (Bit (get_or old p 0) q ⊎ (Bit from p × Bit to q))) (sym (there p ne)) (l.done p q (omega arith))
      ];
      left = λ p g. there p (omega arith) ∙ l.left p (omega arith);
      kept = λ p g. elim (ℕ_discrete p i) [ yes x ↦ absurd (g (subst (Bit from) (sym x) member)) | no ne ↦ there p ne ∙ l.kept p g ];
    }
