-- Unknown names beside the other faults.
use Rattle.std.proofs.Common.{◌≡◌, ℕ, ◌+◌, ◌≤◌, Bool, true, false, cond, ◌⊎◌, List, Some, None, refl, inl, inr, ⊎_elim, arith, rules}
use Rattle.std.proofs.lemmas.Bool.{cases_Bool}
use Rattle.fault.specs.declared.Fault.{Fault}
use Rattle.fault.specs.declared.Reason.{Reason}
use Rattle.fault.specs.declared.Reason.TheVariants.{UnknownName}
use Rattle.fault.specs.Refusals.{at}
use Rattle.grammar.specs.Words.{sign, key, name, Text, ends, stops, word, words}
use Rattle.grammar.specs.Grammar.{Derivable}
use Rattle.grammar.specs.Faults.{Known, Front, nothing_read, read_on, Wrong, stray_byte, too_soon, no_rule, unknown, part_over, letter_over, later, NotAfter, FirstWrong}
use Rattle.grammar.specs.Judging.{start, judge, first_unknown, name_first, first_of}
use Rattle.grammar.proofs.Places.{Above, wrong_above}
use Rattle.grammar.proofs.Verdicts.{anything, at_start, judged, clean}

name_order : (p : ℕ) (why : Reason) (q : ℕ) → why ≡ UnknownName → p ≤ q → NotAfter (at UnknownName p) (at why q)
name_order p why q u h = search rules

after_trans : (f g h : Fault) → NotAfter f g → NotAfter g h → NotAfter f h
after_trans f g h x y = search rules

-- which of an unknown name and a fault comes first
name_or_fault : (p : ℕ) (f : Fault) (x : Bool) → name_first p f ≡ x → cond x (NotAfter (at UnknownName p) f) (NotAfter f (at UnknownName p))
name_or_fault p f true e = search rules
name_or_fault p f false e = search rules

module _ (known : List ℕ → Bool) where
  -- what is wrong is an unknown name, or wrong with all names known
  apart : {b : Front} {t : Text} {why : Reason} {q : ℕ} → Wrong known b t why q → (why ≡ UnknownName) ⊎ Wrong anything b t why q
  apart stray_byte = inr stray_byte
  apart (too_soon x y) = inr (too_soon x y)
  apart (no_rule x y) = inr (no_rule x y)
  apart (unknown x) = inl refl
  apart (part_over x y) = inr (part_over x y)
  apart (letter_over x y) = inr (letter_over x y)
  apart (later x) = ⊎_elim inl (λ y. inr (later y)) (apart x)

  still : {b : Front} {t : Text} {why : Reason} {q : ℕ} → Wrong anything b t why q → Wrong known b t why q
  still stray_byte = stray_byte
  still (too_soon x y) = too_soon x y
  still (no_rule x y) = no_rule x y
  still (unknown x) = absurd cc
  still (part_over x y) = part_over x y
  still (letter_over x y) = letter_over x y
  still (later x) = later (still x)

  -- the first unknown name is unknown
  unknown_at : (t : Text) (b : Front) (p : ℕ) → first_unknown known t ≡ Some p → Wrong known b t UnknownName p
  unknown_at (ends q) b p e = absurd cc
  unknown_at (stops q) b p e = absurd cc
  unknown_at (word q (sign s) t) b p e = later (unknown_at t (read_on b (sign s)) p e)
  unknown_at (word q (key k) t) b p e = later (unknown_at t (read_on b (key k)) p e)
  unknown_at (word q (name w) t) b p e = elim (cases_Bool (known w)) [
    | inl k ↦ later (unknown_at t (read_on b (name w)) p (search rules))
    | inr k ↦ let same : q ≡ p = search rules in rw (← same) (unknown k)
  ]

  known_here : (r : ℕ) (w : List ℕ) (t : Text) (b : Front) (q : ℕ) → known w ≡ true → Wrong known b (word r (name w) t) UnknownName q → Wrong known (read_on b (name w)) t UnknownName q
  known_here r w t b q k (unknown z) = absurd cc
  known_here r w t b q k (later z) = z

  -- there is none before it
  none_sooner : (t : Text) (b : Front) (lo p : ℕ) → Above lo t → first_unknown known t ≡ Some p → (q : ℕ) → Wrong known b t UnknownName q → p ≤ q
  none_sooner (ends r) b lo p a e q x = absurd cc
  none_sooner (stops r) b lo p a e q x = absurd cc
  none_sooner (word r (sign s) t) b lo p a e q (later x) = none_sooner t (read_on b (sign s)) (r + 1) p a.1 e q x
  none_sooner (word r (key k) t) b lo p a e q (later x) = none_sooner t (read_on b (key k)) (r + 1) p a.1 e q x
  none_sooner (word r (name w) t) b lo p a e q x = elim (cases_Bool (known w)) [
    | inl k ↦ none_sooner t (read_on b (name w)) (r + 1) p a.1 (search rules) q (known_here r w t b q k x)
    | inr k ↦ let first : r ≤ q = wrong_above r (omega arith, a.1) x in search rules
  ]

  -- where none is found, all are known
  pub all_known : (t : Text) → first_unknown known t ≡ None → Known known t
  all_known (ends p) e = tt
  all_known (stops p) e = tt
  all_known (word p (sign s) t) e = all_known t e
  all_known (word p (key k) t) e = all_known t e
  all_known (word p (name w) t) e = let rest = all_known t in search rules

  pub none_unknown : (t : Text) → Known known t → first_unknown known t ≡ None
  none_unknown (ends p) k = refl
  none_unknown (stops p) k = refl
  none_unknown (word p (sign s) t) k = none_unknown t k
  none_unknown (word p (key j) t) k = none_unknown t k
  none_unknown (word p (name w) t) k = let rest = none_unknown t in search rules

  no_unknown : (t : Text) (b : Front) (q : ℕ) → Known known t → Wrong known b t UnknownName q → ⊥
  no_unknown (ends p) b q k x = elim x [ ]
  no_unknown (stops p) b q k x = elim x [ ]
  no_unknown (word p (sign s) t) b q k (later x) = no_unknown t (read_on b (sign s)) q k x
  no_unknown (word p (key j) t) b q k (later x) = no_unknown t (read_on b (key j)) q k x
  no_unknown (word p (name w) t) b q k x = no_unknown t (read_on b (name w)) q k.1 (known_here p w t b q k.0 x)

  module _ (t : Text) (a : Above 0 t) where
    unknown_too : (b : Front) (why : Reason) (q : ℕ) → why ≡ UnknownName → Wrong known b t why q → Wrong known b t UnknownName q
    unknown_too b why q e x = rw e at x

    -- a fault, and all names known
    pub fault_alone : (f : Fault) → judge start t ≡ Some f → first_unknown known t ≡ None → FirstWrong known nothing_read t f
    fault_alone f e n =
        let j = judged t nothing_read start 0 a at_start f e in
        record {
          wrong = still j.wrong;
          first = λ why q x. ⊎_elim (λ u. absurd (no_unknown t nothing_read q (all_known t n) (unknown_too nothing_read why q u x))) (j.first why q) (apart x);
        }

    -- a rule, but for an unknown name
    pub name_alone : (p : ℕ) → Derivable (words t) → judge start t ≡ None → first_unknown known t ≡ Some p → FirstWrong known nothing_read t (at UnknownName p)
    name_alone p d e n =
        record {
          wrong = unknown_at t nothing_read p n;
          first = λ why q x. ⊎_elim (λ u. name_order p why q u (none_sooner t nothing_read 0 p a n q (unknown_too nothing_read why q u x))) (λ y. absurd (clean t nothing_read start at_start d e why q y)) (apart x);
        }

    -- a fault and an unknown name
    pub fault_and_name : (f : Fault) (p : ℕ) (g : Fault) → judge start t ≡ Some f → first_unknown known t ≡ Some p → first_of (Some f) (Some p) ≡ Some g → FirstWrong known nothing_read t g
    fault_and_name f p g e n h =
        let j = judged t nothing_read start 0 a at_start f e in
        let names : (why : Reason) (q : ℕ) → Wrong known nothing_read t why q → why ≡ UnknownName → NotAfter (at UnknownName p) (at why q) =
        λ why q x u. name_order p why q u (none_sooner t nothing_read 0 p a n q (unknown_too nothing_read why q u x)) in
        elim (cases_Bool (name_first p f)) [
          | inl k ↦
              let o = name_or_fault p f true k in
              let same : at UnknownName p ≡ g = search rules in
              rw (← same) (record { wrong = unknown_at t nothing_read p n; first = λ why q x. ⊎_elim (names why q x) (λ y. after_trans (at UnknownName p) f (at why q) o (j.first why q y)) (apart x) })
          | inr k ↦
              let o = name_or_fault p f false k in
              let same : f ≡ g = search rules in
              rw (← same) (record { wrong = still j.wrong; first = λ why q x. ⊎_elim (λ u. after_trans f (at UnknownName p) (at why q) o (names why q x u)) (j.first why q) (apart x) })
        ]
