use Rattle.std.proofs.Common.{length}
use Rattle.machine.specs.Model.{among}
use Rattle.word.proofs.Lookups.{Looked}
use Rattle.word.proofs.first_unknown.Given as goal

abbrev pub invariant-loop-token : goal.invariant-loop-token
invariant-loop-token g l = Looked (among (g.M.Machine.model l.machine).names) l.text l.rest

abbrev pub decreases-loop-token : goal.decreases-loop-token
decreases-loop-token g l = length l.rest
