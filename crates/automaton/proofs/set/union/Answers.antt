use Rattle.automaton.proofs.Sets.{union_bit}
use Rattle.automaton.proofs.set.union.Goals as goal

pub returns : goal.returns
returns c j = union_bit c.args.a c.args.b j
