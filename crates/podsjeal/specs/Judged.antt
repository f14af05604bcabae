-- Which lines of a file are rules.
use Rattle.std.specs.Prelude.{ℕ, Bool, List}
use Rattle.logic.specs.Formulas.{Formula}
use Rattle.grammar.specs.Faults.{Accepted}

-- the bytes are a rule, where these names are known
abbrev pub IsRule : (List ℕ → Bool) → List ℕ → Type 0
IsRule known bytes = (f : Formula) × Accepted known bytes f
