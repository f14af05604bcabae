use Rattle.std.proofs.Common.{map, length, ap, ◌∙◌, arith}
use Rattle.std.specs.List.{range_with_len}
use Rattle.std.proofs.lemmas.Result.{err_from_is_err_and}
use Rattle.layout.specs.Fields.{u16_at, step_in}
use Rattle.sheet.specs.Fields.{cut_fault}
use Rattle.sheet.proofs.Tails.{counted, tail_count, tail_steps, tail_way, tail_over, tail_right}
use Rattle.fault.proofs.Refusals.{accepted, refused}
use Rattle.sheet.proofs.survey.tail.Goals as goal

pub returns-in_err-count : goal.returns-in_err-count
returns-in_err-count c =
    let bytes = c.args.reader.now.bytes.now in
    let o = c.args.reader.now.place in
    let p = err_from_is_err_and c.from_residual.result c.from_residual.ensures.1 in
    rw (p.1, p.2) (tail_count bytes o c.requires.here _ (refused (cut_fault bytes o 2) (u16_at bytes o) _ c.in_err-count.ensures.value))

pub returns-in_err-steps : goal.returns-in_err-steps
returns-in_err-steps c =
    let bytes = c.args.reader.now.bytes.now in
    let o = c.args.reader.now.place in
    let a = accepted (cut_fault bytes o 2) (u16_at bytes o) _ c.in_ok-count.ensures.value in
    let p = err_from_is_err_and c.from_residual-in_err-steps.result c.from_residual-in_err-steps.ensures.1 in
    rw (p.1, p.2) (tail_steps bytes o c.requires.here a.0 c.number.new.self.bytes.now c.from.result c.in_ok-count.ensures.moved.bytes (c.from.ensures ∙ a.1) _ c.in_err-steps.ensures.judged)

pub returns-then-low-states : goal.returns-then-low-states
returns-then-low-states c =
    let bytes = c.args.reader.now.bytes.now in
    let o = c.args.reader.now.place in
    let a = accepted (cut_fault bytes o 2) (u16_at bytes o) _ c.in_ok-count.ensures.value in
    let steps = c.in_ok-steps.ensures in
    rw c.at.ensures (tail_way bytes o c.requires.here a.0 c.number.new.self.bytes.now c.from.result c.in_ok-count.ensures.moved.bytes (c.from.ensures ∙ a.1) steps.judged.0 c.in_ok-steps.low steps.judged.1 (omega (arith, c.if-low-states.true, c.requires.states)))

pub returns-then-end-bytes : goal.returns-then-end-bytes
returns-then-end-bytes c =
    let bytes = c.args.reader.now.bytes.now in
    let o = c.args.reader.now.place in
    let a = accepted (cut_fault bytes o 2) (u16_at bytes o) _ c.in_ok-count.ensures.value in
    let steps = c.in_ok-steps.ensures in
    rw (c.at-then-end-bytes.ensures, c.place-end.ensures) (tail_over bytes o c.requires.here a.0 c.number.new.self.bytes.now c.from.result c.in_ok-count.ensures.moved.bytes (c.from.ensures ∙ a.1) steps.judged.0 c.in_ok-steps.low steps.judged.1 c.steps.new.reader.place steps.moved.place
    (omega (arith, c.if-low-states.false, c.requires.states)) (omega (arith, c.if-end-bytes.true, c.place-end.ensures, ap length c.bytes.ensures, ap length steps.moved.bytes)))

pub returns : goal.returns
returns c =
    let bytes = c.args.reader.now.bytes.now in
    let o = c.args.reader.now.place in
    let a = accepted (cut_fault bytes o 2) (u16_at bytes o) _ c.in_ok-count.ensures.value in
    let steps = c.in_ok-steps.ensures in
    let all = counted bytes o c.requires.here a.0 c.number.new.self.bytes.now c.from.result c.in_ok-count.ensures.moved.bytes (c.from.ensures ∙ a.1) in (
      tail_right bytes o c.requires.here a.0 c.number.new.self.bytes.now c.from.result c.in_ok-count.ensures.moved.bytes (c.from.ensures ∙ a.1) steps.judged.0 c.in_ok-steps.low steps.judged.1 c.steps.new.reader.place steps.moved.place
          (omega (arith, c.if-low-states.false, c.requires.states)) (omega (arith, c.if-end-bytes.false, c.place-end.ensures, ap length c.bytes.ensures, ap length steps.moved.bytes)),
      steps.judged.2 ∙ ap (λ b. map (step_in b) (range_with_len 0 c.from.result)) c.in_ok-count.ensures.moved.bytes ∙ ap (λ n. map (step_in bytes) (range_with_len 0 n)) all,
    )
