use Rattle.std.proofs.Common.{◌+◌, ◌*◌, [], length}
use Rattle.grammar.specs.Grammar.{Starred}
use Rattle.rule.specs.Bindings.{phrase_of, within, regular_phrase, within_factor}
use Rattle.rule.specs.Parsing.{ReadFormula, ReadRegular}
use Rattle.rule.proofs.Chains.{height}
use Rattle.rule.proofs.store.Draft.+descent.Given as goal

-- the bytes left, then the rank of the function among those that read from one place
abbrev pub decreases-formula : goal.decreases-formula
decreases-formula l = length l.self.now.rest.now * 8 + (height l.binding + 2)

abbrev pub decreases-operand : goal.decreases-operand
decreases-operand l = length l.self.now.rest.now * 8 + (height l.binding + 1)

abbrev pub decreases-unary : goal.decreases-unary
decreases-unary l = length l.self.now.rest.now * 8

abbrev pub decreases-bracketed : goal.decreases-bracketed
decreases-bracketed l = length l.self.now.rest.now * 8

abbrev pub decreases-expression : goal.decreases-expression
decreases-expression l = length l.self.now.rest.now * 8 + (height l.binding + 3)

abbrev pub decreases-factor : goal.decreases-factor
decreases-factor l = length l.self.now.rest.now * 8 + (height l.binding + 2)

abbrev pub decreases-starred : goal.decreases-starred
decreases-starred l = length l.self.now.rest.now * 8 + 1

abbrev pub decreases-base : goal.decreases-base
decreases-base l = length l.self.now.rest.now * 8

abbrev pub invariant-formula-loop-self : goal.invariant-formula-loop-self
invariant-formula-loop-self l = ReadFormula (phrase_of l.fn.binding) (within l.fn.binding) l.fn.self l.self

abbrev pub decreases-formula-loop-self : goal.decreases-formula-loop-self
decreases-formula-loop-self l = length l.self.rest.now

abbrev pub invariant-expression-loop-binding : goal.invariant-expression-loop-binding
invariant-expression-loop-binding l = ReadRegular (regular_phrase l.fn.binding) (within_factor l.fn.binding) l.fn.self l.self l.fn.letters l.letters l.piece

abbrev pub decreases-expression-loop-binding : goal.decreases-expression-loop-binding
decreases-expression-loop-binding l = length l.self.rest.now

abbrev pub invariant-starred-loop-letters : goal.invariant-starred-loop-letters
invariant-starred-loop-letters l = ReadRegular Starred [] l.fn.self l.self l.fn.letters l.letters l.piece

abbrev pub decreases-starred-loop-letters : goal.decreases-starred-loop-letters
decreases-starred-loop-letters l = length l.self.rest.now
