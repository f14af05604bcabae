use Rattle.std.proofs.Common.{◌≡◌, ◌≤◌, length, None}
use Rattle.layout.specs.Fields.{name_at}
use Rattle.layout.specs.Judging.{first_fault, name_fault}
use Rattle.sheet.proofs.survey.names.Given as goal

abbrev pub invariant-loop-i : goal.invariant-loop-i
invariant-loop-i l =
    let bytes = l.initial.reader.bytes.now in
    (l.reader.bytes.now ≡ bytes) × (8 ≤ length bytes) × (l.reader.place ≡ name_at bytes l.i) × (first_fault l.i (name_fault bytes) ≡ None)
