-- Looking for a step among those that bytes describe.
use Rattle.std.proofs.Common.{◌≡◌, ℕ, ◌+◌, ◌<◌, ◌≤◌, ◌⊎◌, List, [], map, length, get_or, Some, None, Option, Ok, Err, Result, sym, refl, ap, ◌∙◌, subst, inl, inr, arith}
use Rattle.std.specs.Cmp.{nat_cmp_is}
use Rattle.std.specs.List.{AllWithin}
use Rattle.std.specs.List.Sorted.{IsBinarySearchResult, IsSearchInRange, IsNonDecreasingBy}
use Rattle.std.specs.Ordering.{ordering_index}
use Rattle.std.specs.declared.cmp.Ordering.{Ordering}
use Rattle.std.specs.declared.cmp.Ordering.TheVariants.{Less, Equal, Greater}
use Rattle.std.specs.Result.{result_ok}
use Rattle.std.proofs.lemmas.Bool.{cases_lt, cases_order}
use Rattle.std.proofs.lemmas.List.{get_or_default, get_or-map, length-map}
use Rattle.fault.specs.declared.Fault.{Fault}
use Rattle.layout.specs.Descriptions.{Step, no_step, step_of, Precedes, seconds_of}
use Rattle.layout.specs.Fields.{step_there, described}
use Rattle.layout.specs.Judging.{sheet_fault}
use Rattle.layout.proofs.Numbers.{Bytes}
use Rattle.layout.proofs.Faultless.{faultless}
use Rattle.layout.proofs.Lookups.{ascends, precedes_trans, seconds_at, seconds_none}
use Rattle.layout.proofs.Reading.{proper}
use Rattle.sheet.specs.Sheets.{described_unless, found_in, sought, compared}

before : (e : Step) (s t : ℕ) → Precedes e (sought s t) → compared e s t ≡ Less
before e s t (inl p) = rw (sym (nat_cmp_is e.from s Less p))
before e s t (inr p) = rw (sym (nat_cmp_is e.from s Equal p.0), sym (nat_cmp_is e.to t Less p.1))

here : (e : Step) (s t : ℕ) → e.from ≡ s → e.to ≡ t → compared e s t ≡ Equal
here e s t p q = rw (sym (nat_cmp_is e.from s Equal p), sym (nat_cmp_is e.to t Equal q))

behind : (e : Step) (s t : ℕ) → Precedes (sought s t) e → compared e s t ≡ Greater
behind e s t (inl p) = rw (sym (nat_cmp_is e.from s Greater p))
behind e s t (inr p) = rw (sym (nat_cmp_is e.from s Equal (sym p.0)), sym (nat_cmp_is e.to t Greater p.1))

three_ways : (e : Step) (s t : ℕ) → Precedes e (sought s t) ⊎ ((e.from ≡ s) × (e.to ≡ t)) ⊎ Precedes (sought s t) e
three_ways e s t = elim (cases_order e.from s) [
  | inl p ↦ elim (cases_order e.to t) [ inl q ↦ inr (inl (p, q)) | inr (inl l) ↦ inl (inr (p, l)) | inr (inr g) ↦ inr (inr (inr (sym p, g))) ]
  | inr (inl l) ↦ inl (inl l)
  | inr (inr g) ↦ inr (inr (inl g))
]

follows_same : (e f : Step) (s t : ℕ) → Precedes e f → e.from ≡ s → e.to ≡ t → Precedes (sought s t) f
follows_same e f s t (inl p) q r = inl (omega arith)
follows_same e f s t (inr p) q r = inr (sym q ∙ p.0, omega (arith, p.1))

rises : (e f : Step) (s t : ℕ) → Precedes e f → ordering_index (compared e s t) ≤ ordering_index (compared f s t)
rises e f s t h = elim (three_ways e s t) [
  | inl p ↦ omega (arith, ap ordering_index (before e s t p))
  | inr (inl p) ↦ omega (arith, ap ordering_index (here e s t p.0 p.1), ap ordering_index (behind f s t (follows_same e f s t h p.0 p.1)))
  | inr (inr p) ↦ omega (arith, ap ordering_index (behind e s t p), ap ordering_index (behind f s t (precedes_trans (sought s t) e f p h)))
]

equal_here : (e : Step) (s t : ℕ) → compared e s t ≡ Equal → (e.from ≡ s) × (e.to ≡ t)
equal_here e s t q = elim (three_ways e s t) [
  | inl p ↦ absurd (omega (arith, ap ordering_index (sym (before e s t p) ∙ q)))
  | inr (inl p) ↦ p
  | inr (inr p) ↦ absurd (omega (arith, ap ordering_index (sym (behind e s t p) ∙ q)))
]

-- entries that rise towards the states that are sought
abbrev pub Rises : List (List ℕ) → ℕ → ℕ → Type 0
Rises entries s t = IsNonDecreasingBy (λ e. ordering_index (compared (step_there e 0) s t)) entries

least : (o : Ordering) → ordering_index o ≤ ordering_index Less → o ≡ Less
least Less h = refl
least Equal h = absurd (omega arith)
least Greater h = absurd (omega arith)

most : (o : Ordering) → ordering_index Greater ≤ ordering_index o → o ≡ Greater
most Less h = absurd (omega arith)
most Equal h = absurd (omega arith)
most Greater h = refl

pub below_more : (entries : List (List ℕ)) (s t m : ℕ) → m < length entries → compared (step_there (get_or entries m []) 0) s t ≡ Less → Rises entries s t → AllWithin (λ e. compared (step_there e 0) s t ≡ Less) entries 0 (m + 1)
below_more entries s t m h less rises k d low l =
    let last = ap (λ e. ordering_index (compared (step_there e 0) s t)) (get_or_default entries m d [] h) ∙ ap ordering_index less in
    least (compared (step_there (get_or entries k d) 0) s t) (omega (arith, rises k m d (omega arith) h, last))

pub above_more : (entries : List (List ℕ)) (s t m : ℕ) → m < length entries → compared (step_there (get_or entries m []) 0) s t ≡ Greater → Rises entries s t → AllWithin (λ e. compared (step_there e 0) s t ≡ Greater) entries m (length entries)
above_more entries s t m h greater rises k d low l =
    let first = ap (λ e. ordering_index (compared (step_there e 0) s t)) (get_or_default entries m d [] h) ∙ ap ordering_index greater in
    most (compared (step_there (get_or entries k d) 0) s t) (omega (arith, rises m k d low l, first))

-- entries that say the steps which bytes describe
module _ (bytes : List ℕ) (ok : Bytes bytes) (entries : List (List ℕ)) (says : map (λ e. step_there e 0) entries ≡ (found_in bytes).steps) where
  abbrev entry : ℕ → Step
  entry i = step_there (get_or entries i []) 0

  all_said : length entries ≡ length (found_in bytes).steps
  all_said = sym (length-map entries (λ e. step_there e 0)) ∙ ap length says

  said : (i : ℕ) (d : List ℕ) → i < length entries → step_of (found_in bytes) i ≡ step_there (get_or entries i d) 0
  said i d h = ap (λ es. get_or es i no_step) (sym says) ∙ get_or-map (λ e. step_there e 0) entries i d no_step h

  found_ascends : (i j : ℕ) → i < j → j < length (found_in bytes).steps → Precedes (step_of (found_in bytes) i) (step_of (found_in bytes) j)
  found_ascends = go (sheet_fault bytes) refl
    where
      go : (o : Option Fault) → sheet_fault bytes ≡ o → (i j : ℕ) → i < j → j < length (described_unless o bytes).steps → Precedes (step_of (described_unless o bytes) i) (step_of (described_unless o bytes) j)
      go None e = ascends (step_of (described bytes)) (length (described bytes).steps) (proper bytes ok (faultless bytes e)).ascending
      go (Some f) e = λ i j h l. absurd (omega arith)

  found_at : (i s t : ℕ) → i < length (found_in bytes).steps → (step_of (found_in bytes) i).from ≡ s → (step_of (found_in bytes) i).to ≡ t → seconds_of (found_in bytes).steps s t ≡ Some (step_of (found_in bytes) i).seconds
  found_at = go (sheet_fault bytes) refl
    where
      go : (o : Option Fault) → sheet_fault bytes ≡ o → (i s t : ℕ) → i < length (described_unless o bytes).steps → (step_of (described_unless o bytes) i).from ≡ s → (step_of (described_unless o bytes) i).to ≡ t → seconds_of (described_unless o bytes).steps s t ≡ Some (step_of (described_unless o bytes) i).seconds
      go None e = seconds_at (described bytes) (proper bytes ok (faultless bytes e))
      go (Some f) e = λ i s t h. absurd (omega arith)

  rise : (s t : ℕ) → Rises entries s t
  rise s t i j d h l = elim (cases_lt i j) [
    | inl b ↦
        let ahead = subst (λ (x : Step). Precedes x (step_of (found_in bytes) j)) (said i d (omega arith)) (found_ascends i j b (omega (arith, all_said))) in
        rises (step_there (get_or entries i d) 0) (step_there (get_or entries j d) 0) s t (subst (λ (y : Step). Precedes (step_there (get_or entries i d) 0) y) (said j d l) ahead)
    | inr g ↦ let e : i ≡ j = omega arith in omega (arith, ap (λ k. ordering_index (compared (step_there (get_or entries k d) 0) s t)) e)
  ]

  pub step_found : (s t i : ℕ) (r : Result ℕ ℕ) → Some i ≡ result_ok r → IsSearchInRange r (length entries) → IsBinarySearchResult (λ e. compared (step_there e 0) s t) entries r → seconds_of (found_in bytes).steps s t ≡ Some (entry i).seconds
  step_found s t i (Ok j) e h is =
      let same : i ≡ j = cc in
      let l : i < length entries = omega (arith, h) in
      let p = equal_here (entry i) s t (ap (λ k. compared (entry k) s t) same ∙ is []) in
      let at = said i [] l in
      found_at i s t (omega (arith, all_said)) (ap (λ (x : Step). x.from) at ∙ p.0) (ap (λ (x : Step). x.to) at ∙ p.1) ∙ ap (λ (x : Step). Some x.seconds) at
  step_found s t i (Err j) e h is = let z : ◌≡◌ {A = ℕ} 0 1 = cc in absurd (omega arith)

  pub step_missed : (s t : ℕ) (r : Result ℕ ℕ) → None ≡ result_ok r → IsBinarySearchResult (λ e. compared (step_there e 0) s t) entries r → seconds_of (found_in bytes).steps s t ≡ None
  step_missed s t (Ok j) e is = let z : ◌≡◌ {A = ℕ} 0 1 = cc in absurd (omega arith)
  step_missed s t (Err j) e is = seconds_none (found_in bytes).steps s t (λ i h p q.
      let l : i < length entries = omega (arith, all_said) in
      let at = said i [] l in
      let equal = here (entry i) s t (sym (ap (λ (x : Step). x.from) at) ∙ p) (sym (ap (λ (x : Step). x.to) at) ∙ q) in
      let parts = is (rise s t) in
      elim (cases_lt i j) [
        | inl b ↦ omega (arith, ap ordering_index (sym equal ∙ parts.0 i [] (omega arith) b))
        | inr g ↦ omega (arith, ap ordering_index (sym equal ∙ parts.1 i [] g l))
      ])
