use Rattle.std.proofs.Common.{◌≡◌, None}
use Rattle.layout.specs.Judging.{first_fault, step_fault}
use Rattle.sheet.specs.Sheets.{Lowest}
use Rattle.sheet.proofs.Steps.{joined_before}
use Rattle.sheet.proofs.survey.steps.Given as goal

abbrev pub invariant-loop-i : goal.invariant-loop-i
invariant-loop-i l =
    let bytes = l.fn.reader.bytes.now in
    (first_fault l.i (step_fault bytes) ≡ None) × Lowest bytes l.i l.low × (l.last ≡ joined_before bytes l.i)
