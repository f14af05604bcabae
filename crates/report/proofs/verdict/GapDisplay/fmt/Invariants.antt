use Rattle.std.proofs.Common.{codes}
use Rattle.std.specs.List.{repeat}
use Rattle.std.specs.Fmt.{IsPlainFormatter, HasWritten}
use Rattle.report.proofs.verdict.GapDisplay.fmt.Given as goal

abbrev pub invariant-loop : goal.invariant-loop
invariant-loop g l = IsPlainFormatter l.initial.f → HasWritten g.W.Write.write_str_gives l.initial.f (repeat l.counter (codes " ")) l.f
