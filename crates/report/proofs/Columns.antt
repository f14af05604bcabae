-- The bytes that are shown for a text, and a gap with one column more.
use Rattle.std.proofs.Common.{◌≡◌, ℕ, zero, suc, ◌<◌, Bool, true, false, cond, ◌&&◌, leb, List, ◌++◌, sym, refl, ap, ◌∙◌, append_assoc, append-nil, arith}
use Rattle.std.specs.List.{repeat}
use Rattle.std.proofs.lemmas.Bool.{leb-true}
use Rattle.report.specs.Verdicts.{column_of}

pub column_small : (b : ℕ) → column_of b < 128
column_small b = go (leb 32 b) (leb b 126) refl
  where
    go : (low high : Bool) → leb b 126 ≡ high → cond (low && high) b 63 < 128
    go false high e = omega arith
    go true false e = omega arith
    go true true e = omega (arith, leb-true b 126 e)

pub repeated_more : (n : ℕ) (xs : List ℕ) → repeat (suc n) xs ≡ repeat n xs ++ xs
repeated_more zero xs = append-nil xs
repeated_more (suc n) xs = ap {B = List ℕ} (λ r. xs ++ r) (repeated_more n xs) ∙ sym (append_assoc xs (repeat n xs) xs)
