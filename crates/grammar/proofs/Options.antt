-- An option holds nothing, or a value.
use Rattle.std.proofs.Common.{◌≡◌, ◌⊎◌, Some, None, Option, refl, inl, inr}

pub cases_Option : {A : Type 0} (o : Option A) → (o ≡ None) ⊎ ((x : A) × (o ≡ Some x))
cases_Option None = inl refl
cases_Option (Some x) = inr (x, refl)
