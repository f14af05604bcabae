-- The steps before and after the one that is sought, by which half of them to look in.
use Rattle.std.proofs.Common.{◌≡◌, ℕ, ◌+◌, ◌<◌, ◌≤◌, true, false, ◌&&◌, eqb, ltb, List, Some, None, sym, ap, ◌∙◌, subst, inl, inr, arith}
use Rattle.std.proofs.lemmas.List.FromFn.{length-map-range_with_len}
use Rattle.std.proofs.lemmas.Bool.{cases_lt, cases_order, and_parts, or_parts, and_cases, eqb-true, eqb-false, eq-eqb, ltb-false, both_ways}
use Rattle.layout.specs.Descriptions.{Step, Precedes, seconds_of, Proper}
use Rattle.layout.specs.Fields.{step_in, step_count, described}
use Rattle.layout.specs.Judging.{precedes, sheet_fault}
use Rattle.layout.proofs.Numbers.{Bytes}
use Rattle.layout.proofs.Faultless.{faultless}
use Rattle.layout.proofs.Lookups.{ascends, precedes_trans, precedes_apart, seconds_at, seconds_none}
use Rattle.layout.proofs.Reading.{proper, step_reads, precedes_so, in_order_next}
use Rattle.sheet.specs.Sheets.{sought}

-- the steps below an index come before the one that is sought, and those from an index on come after it
abbrev pub Below : List ℕ → ℕ → ℕ → ℕ → Type 0
Below bytes low s t = (i : ℕ) → i < low → Precedes (step_in bytes i) (sought s t)

abbrev pub Above : List ℕ → ℕ → ℕ → ℕ → ℕ → Type 0
Above bytes high count s t = (i : ℕ) → high ≤ i → i < count → Precedes (sought s t) (step_in bytes i)

-- neither before it nor the same: after it
pub after : (e : Step) (s t : ℕ) → precedes e (sought s t) ≡ false → (eqb e.from s && eqb e.to t) ≡ false → Precedes (sought s t) e
after e s t b n =
    let p = or_parts (ltb e.from s) (eqb e.from s && ltb e.to t) b in
    let from = ltb-false e.from s p.0 in
    elim (cases_order e.from s) [
      | inr (inl l) ↦ absurd (omega arith)
      | inr (inr g) ↦ inl g
      | inl same ↦
          let y = eq-eqb e.from s same in
          let to : t ≤ e.to = elim (and_cases (eqb e.from s) (ltb e.to t) p.1) [ inl x ↦ absurd (both_ways (eqb e.from s) x y) | inr x ↦ ltb-false e.to t x ] in
          let other : e.to ≡ t → ⊥ = elim (and_cases (eqb e.from s) (eqb e.to t) n) [ inl x ↦ absurd (both_ways (eqb e.from s) x y) | inr x ↦ eqb-false e.to t x ] in
          elim (cases_order e.to t) [
            | inl q ↦ absurd (other q)
            | inr (inl l) ↦ absurd (omega arith)
            | inr (inr g) ↦ inr (sym same, g)
          ]
    ]

module _ (bytes : List ℕ) (right : sheet_fault bytes ≡ None) (count : ℕ) (counted : count ≡ step_count bytes) where
  order : (i j : ℕ) → i < j → j < count → Precedes (step_in bytes i) (step_in bytes j)
  order i j h l =
      ascends (step_in bytes) (step_count bytes) (λ k b. in_order_next bytes k ((faultless bytes right).step (k + 1) b).order) i j h (omega (arith, counted))

  pub below_more : (m s t : ℕ) → m < count → precedes (step_in bytes m) (sought s t) ≡ true → Below bytes (m + 1) s t
  below_more m s t h e i b =
      let here = precedes_so (step_in bytes m) (sought s t) e in
      elim (cases_lt i m) [
        | inl l ↦ precedes_trans (step_in bytes i) (step_in bytes m) (sought s t) (order i m l h) here
        | inr g ↦ let q : m ≡ i = omega arith in subst (λ (k : ℕ). Precedes (step_in bytes k) (sought s t)) q here
      ]

  pub above_more : (m s t : ℕ) → precedes (step_in bytes m) (sought s t) ≡ false → (eqb (step_in bytes m).from s && eqb (step_in bytes m).to t) ≡ false → Above bytes m count s t
  above_more m s t b n i g l =
      let here = after (step_in bytes m) s t b n in
      elim (cases_lt m i) [
        | inl h ↦ precedes_trans (sought s t) (step_in bytes m) (step_in bytes i) here (order m i h l)
        | inr h ↦ let q : m ≡ i = omega arith in subst (λ (k : ℕ). Precedes (sought s t) (step_in bytes k)) q here
      ]

  module _ (ok : Bytes bytes) where
    description_proper : Proper (described bytes)
    description_proper = proper bytes ok (faultless bytes right)

    pub found : (m s t : ℕ) → m < count → (eqb (step_in bytes m).from s && eqb (step_in bytes m).to t) ≡ true → seconds_of (described bytes).steps s t ≡ Some (step_in bytes m).seconds
    found m s t h e =
        let lt : m < step_count bytes = omega (arith, counted) in
        let p = and_parts (eqb (step_in bytes m).from s) (eqb (step_in bytes m).to t) e in
        let reads = step_reads bytes m lt in
        seconds_at (described bytes) description_proper m s t (omega (arith, length-map-range_with_len (step_in bytes) 0 (step_count bytes)))
        (ap (λ (x : Step). x.from) reads ∙ eqb-true (step_in bytes m).from s p.0) (ap (λ (x : Step). x.to) reads ∙ eqb-true (step_in bytes m).to t p.1)
        ∙ ap (λ (x : Step). Some x.seconds) reads

  pub not_found : (m s t : ℕ) → Below bytes m s t → Above bytes m count s t → seconds_of (described bytes).steps s t ≡ None
  not_found m s t below above = seconds_none (described bytes).steps s t (λ i h p q.
      let lt : i < step_count bytes = omega (arith, length-map-range_with_len (step_in bytes) 0 (step_count bytes)) in
      let reads = step_reads bytes i lt in
      let from = sym (ap (λ (x : Step). x.from) reads) ∙ p in
      let to = sym (ap (λ (x : Step). x.to) reads) ∙ q in
      elim (cases_lt i m) [
        | inl l ↦ precedes_apart (step_in bytes i) (sought s t) (below i l) from to
        | inr g ↦ precedes_apart (sought s t) (step_in bytes i) (above i g (omega (arith, counted))) (sym from) (sym to)
      ])
