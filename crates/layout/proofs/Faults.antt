-- The first of several faults.
use Rattle.std.proofs.Common.{◌≡◌, ℕ, zero, suc, ◌+◌, ◌<◌, ◌≤◌, Bool, true, List, length, Some, None, Option, refl, add-one, arith, rules}
use Rattle.std.proofs.lemmas.Bool.{cases_lt}
use Rattle.fault.specs.declared.Fault.{Fault}
use Rattle.layout.specs.Judging.{◌▹◌, first_fault, field}

pub then_none : (a b : Option Fault) → (a ▹ b) ≡ None → (a ≡ None) × (b ≡ None)
then_none a b e = search rules

pub none_then : (a b : Option Fault) → a ≡ None → (a ▹ b) ≡ b
none_then a b e = rw e

pub some_then : (a b : Option Fault) (f : Fault) → a ≡ Some f → (a ▹ b) ≡ Some f
some_then a b f e = rw e

pub field_none : (bytes : List ℕ) (o size : ℕ) (right : Bool) (f : Fault) → field bytes o size right f ≡ None → (o + size ≤ length bytes) × (right ≡ true)
field_none bytes o size right f e = search rules

pub field_right : (bytes : List ℕ) (o size : ℕ) (right : Bool) (f : Fault) → o + size ≤ length bytes → right ≡ true → field bytes o size right f ≡ None
field_right bytes o size right f h e = search rules

-- the entries before n have none, nor has this one
pub first_more : (n : ℕ) (fault : ℕ → Option Fault) → first_fault n fault ≡ None → fault n ≡ None → first_fault (n + 1) fault ≡ None
unfolding first_fault
first_more n fault e h = rw (add-one, e) h

pub first_each : (n : ℕ) (fault : ℕ → Option Fault) → first_fault n fault ≡ None → (i : ℕ) → i < n → fault i ≡ None
unfolding first_fault
first_each zero fault e i h = absurd (omega arith)
first_each (suc n) fault e i h =
    let p = then_none (first_fault n fault) (fault n) e in let before = first_each n fault p.0 i in grind arith

pub first_none : (n : ℕ) (fault : ℕ → Option Fault) → ((i : ℕ) → i < n → fault i ≡ None) → first_fault n fault ≡ None
unfolding first_fault
first_none zero fault h = refl
first_none (suc n) fault h = rw (first_none n fault (λ i l. h i (omega arith))) (h n (omega arith))

pub first_here : (n i : ℕ) (fault : ℕ → Option Fault) (f : Fault) → i < n → first_fault i fault ≡ None → fault i ≡ Some f → first_fault n fault ≡ Some f
unfolding first_fault
first_here zero i fault f h e s = absurd (omega arith)
first_here (suc n) i fault f h e s = let c = cases_lt i n in let before = first_here n i fault f in search (rules, some_then)
