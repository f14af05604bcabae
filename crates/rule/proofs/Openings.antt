-- What it means for a formula or a letter that a word opens this or that.
use Rattle.std.proofs.Common.{◌≡◌, ℕ, List, length, take, drop, Some, None, Option, refl}
use Rattle.logic.specs.Formulas.{Formula, name as named, top, bottom, parts, Each}
use Rattle.grammar.specs.declared.Sign.TheVariants.{Open, Close, OpenSquare, CloseSquare, OpenCurly, CloseCurly, Dot, Bar, Star}
use Rattle.grammar.specs.declared.Key.TheVariants.{True as KeyTrue, False as KeyFalse, Not as KeyNot, And as KeyAnd, Or as KeyOr, Path as KeyPath, Cycle as KeyCycle}
use Rattle.grammar.specs.Words.{Word, sign, key, name}
use Rattle.grammar.specs.Grammar.{Atom, atom_name, atom_true, atom_false}
use Rattle.grammar.specs.Faults.{Narrow}
use Rattle.grammar.specs.Judging.{unary_at, base_at}
use Rattle.rule.specs.declared.part.Part.{Part}
use Rattle.rule.specs.declared.opening.Opening.{Opening}
use Rattle.rule.specs.declared.opening.Opening.TheVariants.{Leaf, Negation, Path, Cycle, Round, Curly}
use Rattle.rule.specs.Trees.{Is, Stands}
use Rattle.rule.specs.Openings.{part_of, opening_of}

-- the word is an atom, and the part p stands for it
pub record LeafOf (text : List ℕ) (w : Word) (p : Part) : Type 0 where
  pub formula : Formula
  pub atom : Atom formula w
  pub one : parts formula ≡ 1
  pub stands : (ps : List Part) (k : ℕ) → Is ps k p → Stands text ps k formula
  pub narrow : Each Narrow formula

-- a name stands in the text at this place
abbrev pub Named : List ℕ → ℕ → Word → Type 0
Named text place w = (v : List ℕ) → w ≡ name v → take (length v) (drop place text) ≡ v

abbrev pub Opened : List ℕ → ℕ → Word → Option Opening → Type 0
Opened text place w (Some (Leaf s)) = Named text place w → LeafOf text w (part_of s)
Opened text place w (Some Negation) = w ≡ key KeyNot
Opened text place w (Some (Path q)) = w ≡ key (KeyPath q)
Opened text place w (Some (Cycle c)) = w ≡ key (KeyCycle c)
Opened text place w (Some Round) = w ≡ sign Open
Opened text place w (Some Curly) = w ≡ sign OpenCurly
Opened text place w None = (unary_at w ≡ None) × (base_at w ≡ None)

pub opened : (text : List ℕ) (place : ℕ) (w : Word) → Opened text place w (opening_of place w)
opened text place (sign Open) = refl
opened text place (sign Close) = (refl, refl)
opened text place (sign OpenSquare) = (refl, refl)
opened text place (sign CloseSquare) = (refl, refl)
opened text place (sign OpenCurly) = refl
opened text place (sign CloseCurly) = (refl, refl)
opened text place (sign Dot) = (refl, refl)
opened text place (sign Bar) = (refl, refl)
opened text place (sign Star) = (refl, refl)
opened text place (key KeyTrue) = λ n. record { formula = top; atom = atom_true; one = refl; stands = λ ps k x. x; narrow = tt }
opened text place (key KeyFalse) = λ n. record { formula = bottom; atom = atom_false; one = refl; stands = λ ps k x. x; narrow = tt }
opened text place (key KeyNot) = refl
opened text place (key KeyAnd) = (refl, refl)
opened text place (key KeyOr) = (refl, refl)
opened text place (key (KeyPath q)) = refl
opened text place (key (KeyCycle c)) = refl
opened text place (name w) = λ n. record { formula = named w; atom = atom_name; one = refl; stands = λ ps k x. (place, length w, x, n w refl); narrow = tt }
