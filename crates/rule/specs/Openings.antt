-- What each word opens where a formula or a letter is to come.
use Rattle.std.specs.Prelude.{ℕ, length, Some, None, Option}
use Rattle.grammar.specs.declared.Sign.{Sign}
use Rattle.grammar.specs.declared.Sign.TheVariants.{Open, Close, OpenSquare, CloseSquare, OpenCurly, CloseCurly, Dot, Bar, Star}
use Rattle.grammar.specs.declared.Key.{Key}
use Rattle.grammar.specs.declared.Key.TheVariants.{True as KeyTrue, False as KeyFalse, Not as KeyNot, And as KeyAnd, Or as KeyOr, Path as KeyPath, Cycle as KeyCycle}
use Rattle.grammar.specs.Words.{Word, sign, key, name}
use Rattle.rule.specs.declared.part.Part.{Part}
use Rattle.rule.specs.declared.part.Part.TheVariants.{Name as NamePart, True as TruePart, False as FalsePart}
use Rattle.rule.specs.declared.opening.Simple.{Simple}
use Rattle.rule.specs.declared.opening.Simple.TheVariants.{Name, True, False}
use Rattle.rule.specs.declared.opening.Opening.{Opening}
use Rattle.rule.specs.declared.opening.Opening.TheVariants.{Leaf, Negation, Path, Cycle, Round, Curly}

abbrev pub part_of : Simple → Part
part_of (Name start size) = NamePart start size
part_of True = TruePart
part_of False = FalsePart

abbrev pub opening_of_sign : Sign → Option Opening
opening_of_sign Open = Some Round
opening_of_sign Close = None
opening_of_sign OpenSquare = None
opening_of_sign CloseSquare = None
opening_of_sign OpenCurly = Some Curly
opening_of_sign CloseCurly = None
opening_of_sign Dot = None
opening_of_sign Bar = None
opening_of_sign Star = None

abbrev pub opening_of_key : Key → Option Opening
opening_of_key KeyTrue = Some (Leaf True)
opening_of_key KeyFalse = Some (Leaf False)
opening_of_key KeyNot = Some Negation
opening_of_key KeyAnd = None
opening_of_key KeyOr = None
opening_of_key (KeyPath q) = Some (Path q)
opening_of_key (KeyCycle c) = Some (Cycle c)

-- a word at this place of the text
abbrev pub opening_of : ℕ → Word → Option Opening
opening_of place (sign s) = opening_of_sign s
opening_of place (key k) = opening_of_key k
opening_of place (name w) = Some (Leaf (Name place (length w)))
