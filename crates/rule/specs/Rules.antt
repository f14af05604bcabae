-- What a rule means, and when bytes are read as one.
use Rattle.std.specs.Prelude.{◌≡◌, ℕ, ◌-◌, Bool, List, length}
use Rattle.fault.specs.declared.Fault.{Fault}
use Rattle.logic.specs.Formulas.{Formula, parts}
use Rattle.grammar.specs.Faults.{Accepted, Refused}
use Rattle.rule.specs.declared.part.Part.{Part}
use Rattle.rule.specs.declared.kept.Rule.{Rule}
use Rattle.rule.specs.Trees.{Stands}

-- the text that a rule was read from
abbrev pub source : Rule → List ℕ
source r = r.text.items

abbrev pub parts_of : Rule → List Part
parts_of r = r.parts.items

-- the last part stands for the formula
abbrev pub Means : Rule → Formula → Type 0
Means r f = Stands (source r) (parts_of r) (length (parts_of r) - 1) f

-- the bytes are a rule, where these names are known, and r is that rule
pub record Taken (known : List ℕ → Bool) (bytes : List ℕ) (r : Rule) : Type 0 where
  pub formula : Formula
  pub accepted : Accepted known bytes formula
  pub means : Means r formula
  pub count : length (parts_of r) ≡ parts formula
  pub text : source r ≡ bytes

-- the bytes are no rule, and f is their fault
pub record Denied (known : List ℕ → Bool) (bytes : List ℕ) (f : Fault) : Type 0 where
  pub refused : Refused known bytes f
  pub none : (g : Formula) → Accepted known bytes g → ⊥
