use Rattle.std.proofs.lemmas.Nat.{one_shl}
use Rattle.automaton.proofs.Sets.{only_bit}
use Rattle.automaton.proofs.set.only.Goals as goal

pub returns : goal.returns
returns c j = rw (one_shl c.args.k 32 c.requires) (only_bit c.args.k j)
