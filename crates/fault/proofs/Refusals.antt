-- A value unless there is a fault: what either answer says of the fault.
use Rattle.std.proofs.Common.{◌≡◌, ℕ, Some, None, Ok, Err, Option, Result, refl, arith}
use Rattle.fault.specs.declared.Fault.{Fault}
use Rattle.fault.specs.Refusals.{unless}

pub accepted : {A : Type 0} (a : Option Fault) (x v : A) → ◌≡◌ {A = Result A Fault} (Ok v) (unless a x) → (a ≡ None) × (v ≡ x)
accepted None x v e = (refl, cc)
accepted (Some f) x v e = let z : ◌≡◌ {A = ℕ} 0 1 = cc in absurd (omega arith)

pub refused : {A : Type 0} (a : Option Fault) (x : A) (f : Fault) → ◌≡◌ {A = Result A Fault} (Err f) (unless a x) → a ≡ Some f
refused None x f e = let z : ◌≡◌ {A = ℕ} 0 1 = cc in absurd (omega arith)
refused (Some g) x f e = cc
