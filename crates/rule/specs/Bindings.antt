-- What is joined loosely, by or and |, and what tightly, by and and the dot.
use Rattle.std.specs.Prelude.{ℕ, ◌+◌, List, [], ◌∷◌}
use Rattle.logic.specs.Formulas.{Formula, both, either, Regular, seq as sequence, alt, size}
use Rattle.automaton.specs.declared.Piece.{Piece}
use Rattle.automaton.specs.declared.store.Letters.{Letters}
use Rattle.automaton.specs.Built.{Built, Relinked}
use Rattle.grammar.specs.declared.Key.{Key}
use Rattle.grammar.specs.declared.Key.TheVariants.{And, Or}
use Rattle.grammar.specs.declared.Sign.{Sign}
use Rattle.grammar.specs.declared.Sign.TheVariants.{Bar, Dot}
use Rattle.grammar.specs.Grammar.{Phrase, State, Conj, Unary, Reg, Seq, Starred}
use Rattle.grammar.specs.Judging.{Kind, state, ors, conj, ands, unary, reg, bars, seq, dots, starred, asts, Goal, phrase}
use Rattle.rule.specs.declared.part.Part.{Part}
use Rattle.rule.specs.declared.part.Part.TheVariants.{And as AndPart, Or as OrPart}
use Rattle.rule.specs.declared.binding.Binding.{Binding}
use Rattle.rule.specs.declared.binding.Binding.TheVariants.{Loose, Tight}

abbrev pub key_of : Binding → Key
key_of Loose = Or
key_of Tight = And

abbrev pub sign_of : Binding → Sign
sign_of Loose = Bar
sign_of Tight = Dot

abbrev pub joint_of : Binding → ℕ → ℕ → Part
joint_of Loose i j = OrPart i j
joint_of Tight i j = AndPart i j

abbrev pub formula_of : Binding → Formula → Formula → Formula
formula_of Loose f g = either f g
formula_of Tight f g = both f g

abbrev pub regular_of : Binding → Regular → Regular → Regular
regular_of Loose r q = alt r q
regular_of Tight r q = sequence r q

-- the phrase of formulas that are joined so, its goal, and the goal of what may go on behind one of them
abbrev pub phrase_of : Binding → Formula → Phrase
phrase_of Loose f = State f
phrase_of Tight f = Conj f

abbrev pub kind_of : Binding → Kind
kind_of Loose = state
kind_of Tight = conj

abbrev pub more_of : Binding → Kind
more_of Loose = ors
more_of Tight = ands

-- the same of what is joined, and the goals of what may go on within it
abbrev pub operand_of : Binding → Formula → Phrase
operand_of Loose f = Conj f
operand_of Tight f = Unary f

abbrev pub operand_kind : Binding → Kind
operand_kind Loose = conj
operand_kind Tight = unary

abbrev pub within : Binding → List Goal
within Loose = phrase ands ∷ []
within Tight = []

-- and of expressions
abbrev pub regular_phrase : Binding → Regular → Phrase
regular_phrase Loose r = Reg r
regular_phrase Tight r = Seq r

abbrev pub regular_kind : Binding → Kind
regular_kind Loose = reg
regular_kind Tight = seq

abbrev pub more_regular : Binding → Kind
more_regular Loose = bars
more_regular Tight = dots

abbrev pub factor_of : Binding → Regular → Phrase
factor_of Loose r = Seq r
factor_of Tight r = Starred r

abbrev pub factor_kind : Binding → Kind
factor_kind Loose = seq
factor_kind Tight = starred

abbrev pub within_factor : Binding → List Goal
within_factor Loose = phrase asts ∷ phrase dots ∷ []
within_factor Tight = phrase asts ∷ []

-- the piece z over the letters h is p and q over the letters c, joined
pub record Merged (make : Regular → Regular → Regular) (p q z : Piece) (c h : Letters) : Type 0 where
  pub built : (x y : Regular) (o : ℕ) → Built x o p c → Built y (o + size x) q c → Built (make x y) o z h
  pub kept : Relinked p.last c h
