use Rattle.std.proofs.Common.{◌≡◌, ◌-◌}
use Rattle.gauge.specs.Asking.{asked}
use Rattle.gauge.proofs.ask.Given as goal

abbrev pub invariant-loop : goal.invariant-loop
invariant-loop g l = asked (g.M.Machine.model l.machine) (l.count - l.counter) l.x l.total ≡ asked (g.M.Machine.model l.machine) l.count l.seed 0
