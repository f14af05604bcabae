use Rattle.std.proofs.Common.{◌≡◌, length, sym, arith}
use Rattle.layout.specs.Fields.{u32_at, label_in}
use Rattle.sheet.proofs.Judged.{says_all}
use Rattle.sheet.proofs.Labels.{label_is, labels_wrong, labels_right, labels_short}
use Rattle.sheet.proofs.survey.labels.Goals as goal

pub returns-in-Some-clause-judged : goal.returns-in-Some-clause-judged
returns-in-Some-clause-judged c =
    let e = c.entries-labels.ensures in
    rw (c.at.ensures, c.place-place.ensures) (labels_wrong c.args.reader.now.bytes.now c.entries-labels.result.now c.args.reader.now.place e.entries c.requires.here c.args.names c.requires.names e.room c.args.states c.in-Some.s (omega (arith, e.count)) (sym c.in-Some.ensures))

pub returns-then-labels-states-clause-judged : goal.returns-then-labels-states-clause-judged
returns-then-labels-states-clause-judged c =
    let e = c.entries-labels.ensures in
    rw (c.cut_short.ensures, e.moved.bytes) (labels_short c.args.reader.now.bytes.now c.entries-labels.result.now c.args.reader.now.place e.entries c.requires.here c.args.names c.requires.names e.room c.args.states c.if-labels-states.true (omega (arith, e.count, c.if-labels-states.true)) (sym c.in_default.ensures))

pub returns-clause-judged : goal.returns-clause-judged
returns-clause-judged c =
    let bytes = c.args.reader.now.bytes.now in
    let e = c.entries-labels.ensures in
    let all : length c.entries-labels.result.now ≡ c.args.states = omega (arith, e.count, c.if-labels-states.false) in (
      labels_right bytes c.entries-labels.result.now c.args.reader.now.place e.entries c.requires.here c.args.names c.requires.names e.room c.args.states c.if-labels-states.false (sym c.in_default.ensures),
      says_all (λ entry. u32_at entry 0) (label_in bytes) c.entries-labels.result.now c.args.states 0 all (λ i h. label_is bytes c.entries-labels.result.now c.args.reader.now.place e.entries c.requires.here i (omega arith)),
    )
