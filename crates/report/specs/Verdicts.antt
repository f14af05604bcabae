-- What is written of a line of rules.
use Rattle.std.specs.Prelude.{ℕ, cond, ◌&&◌, List, ◌++◌, map, Ok, Err, codes, decimal, Result, nat_le}
use Rattle.std.specs.List.{repeat}
use Rattle.fault.specs.Numbers.{line_of}
use Rattle.fault.specs.declared.Fault.{Fault}

-- a byte from the gap to the tilde as it is, any other as a question mark
abbrev pub column_of : ℕ → ℕ
column_of b = cond (nat_le 32 b && nat_le b 126) b 63

abbrev pub columns_of : List ℕ → List ℕ
columns_of bs = map column_of bs

-- a rule's number; or the number and the fault, then the text, then a mark below the fault's place
abbrev pub verdict_of : ℕ → List ℕ → Result (Unit {0}) Fault → List ℕ
verdict_of number text (Ok done) = decimal number ++ codes ": ok"
verdict_of number text (Err f) =
    decimal number ++ (codes ": " ++ (line_of f ++ (codes "\n    " ++ (columns_of text ++ (codes "\n    " ++ (repeat f.place (codes " ") ++ codes "^"))))))
