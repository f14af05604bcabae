-- What the limits count, word by word.
use Rattle.std.specs.Prelude.{ℕ, ◌+◌, ◌≤◌, Bool, true, false, cond, List, [], ◌∷◌}
use Rattle.grammar.specs.declared.Sign.{Sign}
use Rattle.grammar.specs.declared.Sign.TheVariants.{Open, Close, OpenSquare, CloseSquare, OpenCurly, CloseCurly, Dot, Bar, Star}
use Rattle.grammar.specs.declared.Key.{Key}
use Rattle.grammar.specs.declared.Key.TheVariants.{True, False, Not, And, Or, Path, Cycle}
use Rattle.grammar.specs.Words.{Word, sign, key, name}

-- a part of a rule is a name or a key word
abbrev pub is_part : Word → Bool
is_part (sign s) = false
is_part (key k) = true
is_part (name w) = true

-- a letter of an expression is a name, true, false, or begins with {
abbrev pub is_atom : Key → Bool
is_atom True = true
is_atom False = true
is_atom Not = false
is_atom And = false
is_atom Or = false
is_atom (Path q) = false
is_atom (Cycle c) = false

abbrev pub opens_curly : Sign → Bool
opens_curly Open = false
opens_curly Close = false
opens_curly OpenSquare = false
opens_curly CloseSquare = false
opens_curly OpenCurly = true
opens_curly CloseCurly = false
opens_curly Dot = false
opens_curly Bar = false
opens_curly Star = false

abbrev pub can_be_letter : Word → Bool
can_be_letter (sign s) = opens_curly s
can_be_letter (key k) = is_atom k
can_be_letter (name w) = true

-- a bracket that is open: an expression's [ with the letters read in it so far, or a letter's {
pub data Bracket : Type 0 where
  square : ℕ → Bracket
  curly : Bracket

-- one letter more in the expression that is open, if the innermost bracket is its [
abbrev pub with_letter : List Bracket → List Bracket
with_letter [] = []
with_letter (square n ∷ bs) = square (n + 1) ∷ bs
with_letter (curly ∷ bs) = curly ∷ bs

abbrev pub without_innermost : List Bracket → List Bracket
without_innermost [] = []
without_innermost (b ∷ bs) = bs

abbrev pub after_sign : Sign → List Bracket → List Bracket
after_sign Open bs = bs
after_sign Close bs = bs
after_sign OpenSquare bs = square 0 ∷ bs
after_sign CloseSquare bs = without_innermost bs
after_sign OpenCurly bs = curly ∷ with_letter bs
after_sign CloseCurly bs = without_innermost bs
after_sign Dot bs = bs
after_sign Bar bs = bs
after_sign Star bs = bs

-- the open brackets, innermost first, after one word more
abbrev pub after_word : Word → List Bracket → List Bracket
after_word (sign s) bs = after_sign s bs
after_word (key k) bs = cond (is_atom k) (with_letter bs) bs
after_word (name w) bs = with_letter bs

-- how many parts there are, after one word more
abbrev pub with_word : Word → ℕ → ℕ
with_word w n = cond (is_part w) (n + 1) n

-- the innermost open bracket is the [ of an expression with 31 letters
abbrev pub Full : List Bracket → Type 0
Full [] = ⊥
Full (square n ∷ bs) = 31 ≤ n
Full (curly ∷ bs) = ⊥
