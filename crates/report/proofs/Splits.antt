-- A file by its first line and what is left behind it.
use Rattle.std.proofs.Common.{◌≡◌, ℕ, zero, suc, ◌<◌, ◌≤◌, Bool, true, false, cond, eqb, List, [], ◌∷◌, length, get_or, take, drop, refl, ap, arith}
use Rattle.std.proofs.lemmas.Bool.{eq-eqb, ne_eqb}
use Rattle.report.specs.Lines.{first_line, behind_line, on_first, lines_of}

-- n is the offset of the first line feed, or the length
pub record Ends (bs : List ℕ) (n : ℕ) : Type 0 where
  pub within : n ≤ length bs
  pub before : (k : ℕ) → k < n → get_or bs k 0 ≡ 10 → ⊥
  pub found : n < length bs → get_or bs n 0 ≡ 10

ends_tail : (b : ℕ) (bs : List ℕ) (n : ℕ) → Ends (b ∷ bs) (suc n) → Ends bs n
ends_tail b bs n e = record { within = omega (arith, e.within); before = λ k h. e.before (suc k) (omega arith); found = λ h. e.found (omega arith) }

pub line_is : (bs : List ℕ) (n : ℕ) → Ends bs n → take n bs ≡ first_line bs
line_is [] zero e = refl
line_is [] (suc n) e = refl
line_is (b ∷ bs) zero e =
    let z = eq-eqb b 10 (e.found (omega arith)) in
    rw z
line_is (b ∷ bs) (suc n) e =
    let z = ne_eqb b 10 (e.before 0 (omega arith)) in
    rw (z, line_is bs n (ends_tail b bs n e))

pub behind_is : (bs : List ℕ) (n : ℕ) → Ends bs n → drop (suc n) bs ≡ behind_line bs
behind_is [] n e = refl
behind_is (b ∷ bs) zero e =
    let z = eq-eqb b 10 (e.found (omega arith)) in
    rw z
behind_is (b ∷ bs) (suc n) e =
    let z = ne_eqb b 10 (e.before 0 (omega arith)) in
    rw (z, behind_is bs n (ends_tail b bs n e))

-- the lines are the first line, and the lines behind it
line_on_top : (f : Bool) (b : ℕ) (bs : List ℕ) → (0 < length bs → lines_of bs ≡ first_line bs ∷ lines_of (behind_line bs)) → cond f ([] ∷ lines_of bs) (on_first b (lines_of bs)) ≡ cond f [] (b ∷ first_line bs) ∷ lines_of (cond f bs (behind_line bs))
line_on_top true b bs h = refl
line_on_top false b [] h = refl
line_on_top false b (c ∷ bs) h = ap (on_first b) (h (omega arith))

pub lines_split : (bs : List ℕ) → 0 < length bs → lines_of bs ≡ first_line bs ∷ lines_of (behind_line bs)
lines_split [] h = absurd (omega arith)
lines_split (b ∷ bs) h = line_on_top (eqb b 10) b bs (lines_split bs)
