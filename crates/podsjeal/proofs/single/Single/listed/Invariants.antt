use Rattle.std.proofs.Common.{◌≡◌, List, ℕ, map, take, Bor}
use Rattle.podsjeal.specs.contracts.single.SingleMachine.TheImpl.{ghosts}
use Rattle.podsjeal.proofs.single.Single.listed.Given as goal

abbrev pub invariant-loop-i : goal.invariant-loop-i
invariant-loop-i l = map {A = Bor (List ℕ)} {B = List ℕ} (λ x. x.now) l.names.items ≡ take l.i (ghosts.model l.self).names
