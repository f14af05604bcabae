use Rattle.std.proofs.lemmas.Nat.{one_shl}
use Rattle.automaton.proofs.Sets.{has_bit}
use Rattle.automaton.proofs.set.has.Goals as goal

pub returns : goal.returns
returns c = rw (one_shl c.args.k 32 c.requires) (has_bit c.args.set c.args.k)
