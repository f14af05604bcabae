-- State formulas and the expressions in their operators, as trees.
use Rattle.std.specs.Prelude.{ℕ, ◌+◌, List}
use Rattle.logic.specs.declared.Quantifier.{Quantifier}
use Rattle.logic.specs.declared.Cycle.{Cycle}

mutual
  pub data Formula : Type 0 where
    -- the state bears this name, a list of bytes
    name : List ℕ → Formula
    top : Formula
    bottom : Formula
    neg : Formula → Formula
    both : Formula → Formula → Formula
    either : Formula → Formula → Formula
    path : Quantifier → Regular → Formula → Formula
    cycle : Cycle → Regular → Formula

  -- regular expressions over states; a letter is a formula for one state
  pub data Regular : Type 0 where
    letter : Formula → Regular
    seq : Regular → Regular → Regular
    alt : Regular → Regular → Regular
    star : Regular → Regular

-- how many letters an expression has; those of the expressions inside its letters do not count
abbrev pub size : Regular → ℕ
size (letter f) = 1
size (seq r q) = size r + size q
size (alt r q) = size r + size q
size (star r) = size r

abbrev mutual
  -- how many parts a formula has: names, true, false, not, and, or and operators, those in expressions too
  pub parts : Formula → ℕ
  parts (name w) = 1
  parts top = 1
  parts bottom = 1
  parts (neg f) = 1 + parts f
  parts (both f g) = parts f + (1 + parts g)
  parts (either f g) = parts f + (1 + parts g)
  parts (path q r f) = 1 + (letter_parts r + parts f)
  parts (cycle c r) = 1 + letter_parts r

  -- how many parts the letters of an expression have, taken together
  pub letter_parts : Regular → ℕ
  letter_parts (letter f) = parts f
  letter_parts (seq r q) = letter_parts r + letter_parts q
  letter_parts (alt r q) = letter_parts r + letter_parts q
  letter_parts (star r) = letter_parts r

abbrev mutual
  -- P holds of every expression in the formula, those inside letters too
  pub Each : (Regular → Type 0) → Formula → Type 0
  Each P (name w) = Unit {0}
  Each P top = Unit {0}
  Each P bottom = Unit {0}
  Each P (neg f) = Each P f
  Each P (both f g) = Each P f × Each P g
  Each P (either f g) = Each P f × Each P g
  Each P (path q r f) = P r × EachLetter P r × Each P f
  Each P (cycle c r) = P r × EachLetter P r

  pub EachLetter : (Regular → Type 0) → Regular → Type 0
  EachLetter P (letter f) = Each P f
  EachLetter P (seq r q) = EachLetter P r × EachLetter P q
  EachLetter P (alt r q) = EachLetter P r × EachLetter P q
  EachLetter P (star r) = EachLetter P r
