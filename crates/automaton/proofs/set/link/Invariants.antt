use Rattle.automaton.specs.Sets.{Linked}
use Rattle.automaton.proofs.set.link.Given as goal

abbrev pub invariant-loop-p : goal.invariant-loop-p
invariant-loop-p l = Linked l.rows l.initial.rows l.p l.from l.to
