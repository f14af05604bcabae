-- Tokens as the words that they are.
use Rattle.std.specs.Prelude.{ℕ, List, Some, None, Option}
use Rattle.std.specs.Borrow.{Bor}
use Rattle.grammar.specs.Words.{Word, sign, key, name}
use Rattle.word.specs.declared.Token.{Token}
use Rattle.word.specs.declared.Token.TheVariants.{Sign, Key, Name}

abbrev pub word_of : Token → Word
word_of (Sign s) = sign s
word_of (Key k) = key k
word_of (Name r) = name r.now

-- what a reader answers: a word, and the text behind it
abbrev pub shown : Option (Token × Bor (List ℕ)) → Option (Word × List ℕ)
shown (Some p) = Some (word_of p.0, p.1.now)
shown None = None
