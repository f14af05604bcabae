-- Rules read for a machine that knows some names, told by a number.
use Rattle.std.specs.Prelude.{◌≡◌, ℕ, Bool, ◌⊎◌, List}
use Rattle.fault.specs.declared.Fault.{Fault}
use Rattle.fault.specs.Numbers.{number_of}
use Rattle.logic.specs.Formulas.{Formula}
use Rattle.grammar.specs.Faults.{Accepted, Refused}

-- n is 0 for bytes that are a rule, and else the number of their fault
abbrev pub Numbered : (List ℕ → Bool) → List ℕ → ℕ → Type 0
Numbered known bytes n = ((f : Formula) × Accepted known bytes f × (n ≡ 0)) ⊎ ((g : Fault) × Refused known bytes g × (n ≡ number_of g.reason))
