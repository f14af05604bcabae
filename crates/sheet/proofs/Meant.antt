-- What bytes mean, by what they describe.
use Rattle.std.proofs.Common.{◌≡◌, ℕ, ◌+◌, ◌<◌, Bool, true, false, cond, List, [], ◌∷◌, suc, length, Some, None, Option, refl, arith}
use Rattle.std.specs.Str.{bytes_eq}
use Rattle.fault.specs.declared.Fault.{Fault}
use Rattle.layout.specs.Descriptions.{place_from, meaning}
use Rattle.layout.specs.Judging.{sheet_fault, meaning_unless, sheet_model}
use Rattle.sheet.specs.Sheets.{described_unless, found_in}

pub model_is : (bytes : List ℕ) → sheet_model bytes ≡ meaning (found_in bytes)
model_is bytes = go (sheet_fault bytes)
  where
    go : (o : Option Fault) → meaning_unless o bytes ≡ meaning (described_unless o bytes)
    go None = refl
    go (Some f) = refl

pub place_below : (b : ℕ) (ns : List (List ℕ)) (w : List ℕ) (i : ℕ) → place_from b ns w ≡ Some i → i < b + length ns
place_below b [] w i e = let z : ◌≡◌ {A = ℕ} 0 1 = cc in absurd (omega arith)
place_below b (n ∷ ns) w i e = go (bytes_eq n w) e (place_below (b + 1) ns w i)
  where
    go : (y : Bool) → cond y (Some b) (place_from (b + 1) ns w) ≡ Some i → (place_from (b + 1) ns w ≡ Some i → i < b + 1 + length ns) → i < b + suc (length ns)
    go true e more = let q : b ≡ i = cc in omega arith
    go false e more = omega (arith, more e)
