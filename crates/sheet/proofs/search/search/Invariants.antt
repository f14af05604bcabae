use Rattle.std.proofs.Common.{◌≡◌, ◌-◌, ◌≤◌, length}
use Rattle.std.specs.List.{AllWithin}
use Rattle.std.specs.declared.cmp.Ordering.TheVariants.{Less, Greater}
use Rattle.layout.specs.Fields.{step_there}
use Rattle.sheet.specs.Sheets.{compared}
use Rattle.sheet.proofs.Sought.{Rises}
use Rattle.sheet.proofs.search.search.Given as goal

abbrev pub invariant-loop-low : goal.invariant-loop-low
invariant-loop-low l =
    (l.low ≤ l.high) × (l.high ≤ length l.steps)
    × (Rises l.steps l.from l.to → AllWithin (λ e. compared (step_there e 0) l.from l.to ≡ Less) l.steps 0 l.low)
    × (Rises l.steps l.from l.to → AllWithin (λ e. compared (step_there e 0) l.from l.to ≡ Greater) l.steps l.high (length l.steps))

abbrev pub decreases-loop-low : goal.decreases-loop-low
decreases-loop-low l = l.high - l.low
