-- Offsets rise along a text.
use Rattle.std.proofs.Common.{◌≡◌, ℕ, zero, suc, ◌+◌, ◌-◌, ◌≤◌, Bool, List, [], ◌∷◌, length, ap, ◌∙◌, inl, inr, arith, length-drop, rules}
use Rattle.fault.specs.declared.Reason.{Reason}
use Rattle.grammar.specs.Words.{skip, read, Text, ends, stops, word, no_word, scan_by, scan}
use Rattle.grammar.specs.Faults.{Front, Wrong, stray_byte, too_soon, no_rule, unknown, part_over, letter_over, later}
use Rattle.grammar.proofs.Options.{cases_Option}
use Rattle.grammar.proofs.Scanning.{read_drops}

-- all places are at least lo, and each is above the one before
abbrev pub Above : ℕ → Text → Type 0
Above lo (ends p) = lo ≤ p
Above lo (stops p) = lo ≤ p
Above lo (word p w t) = (lo ≤ p) × Above (p + 1) t

above_lower : (lo hi : ℕ) (t : Text) → lo ≤ hi → Above hi t → Above lo t
above_lower lo hi (ends p) h a = omega arith
above_lower lo hi (stops p) h a = omega arith
above_lower lo hi (word p w t) h a = search rules

pub skip_length : (l : List ℕ) → length (skip l) ≤ length l
skip_length [] = omega arith
skip_length (b ∷ bs) = let h = skip_length bs in search rules

pub scan_above : (fuel total : ℕ) (l : List ℕ) → length l ≤ total → Above (total - length l) (scan_by fuel total l)
scan_above zero total l h = omega arith
scan_above (suc fuel) total l h = elim (cases_Option (read (skip l))) [
  | inl e ↦ let over : scan_by (suc fuel) total l ≡ no_word total (skip l) = cc in rw over (stopped (skip l) (skip_length l))
  | inr r ↦
      let d = read_drops (skip l) r.0 r.1 in
      let s = skip_length l in
      let n : length r.0.1 ≡ length (skip l) - d.0 = ap length d.3 ∙ length-drop d.0 (skip l) in
      let next : scan_by (suc fuel) total l ≡ word (total - length (skip l)) r.0.0 (scan_by fuel total r.0.1) = cc in
      rw next (
        omega arith,
        above_lower (total - length (skip l) + 1) (total - length r.0.1) (scan_by fuel total r.0.1) (omega (arith, d.1, d.2)) (scan_above fuel total r.0.1 (omega arith)),
      )
]
  where
    stopped : (m : List ℕ) → length m ≤ length l → Above (total - length l) (no_word total m)
    stopped [] k = omega arith
    stopped (b ∷ bs) k = omega arith

pub text_above : (bytes : List ℕ) → Above 0 (scan (length bytes) bytes)
unfolding scan
text_above bytes = above_lower 0 (length bytes - length bytes) _ (omega arith) (scan_above (suc (length bytes)) (length bytes) bytes (omega arith))

-- what is wrong is wrong above
pub wrong_above : {known : List ℕ → Bool} {b : Front} {t : Text} {why : Reason} {q : ℕ} (lo : ℕ) → Above lo t → Wrong known b t why q → lo ≤ q
wrong_above lo a stray_byte = a
wrong_above lo a (too_soon x y) = a
wrong_above lo a (no_rule x y) = a.0
wrong_above lo a (unknown x) = a.0
wrong_above lo a (part_over x y) = a.0
wrong_above lo a (letter_over x y) = a.0
wrong_above lo a (later {p = p} w) = omega (arith, a.0, wrong_above (p + 1) a.1 w)
