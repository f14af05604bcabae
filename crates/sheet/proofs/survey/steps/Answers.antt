use Rattle.std.proofs.Common.{◌≡◌, ◌+◌, ◌*◌, ℕ, cond, length, Some, None, sym, ap, ◌∙◌, refl, subst, add-one, arith}
use Rattle.fault.specs.declared.Reason.TheVariants.{BadEntry}
use Rattle.fault.specs.Refusals.{at}
use Rattle.layout.specs.Descriptions.{no_step}
use Rattle.layout.specs.Fields.{step_there, step_in}
use Rattle.layout.specs.Judging.{first_fault, step_fault, some_leave}
use Rattle.layout.proofs.Faults.{first_here, first_more}
use Rattle.sheet.specs.Sheets.{Lowest}
use Rattle.sheet.proofs.Judged.{says_all}
use Rattle.sheet.proofs.Steps.{step_is, joins_is, step_judged, step_short, lowest_next, lowest_same}
use Rattle.sheet.proofs.survey.steps.Goals.{then-key-low, else-key-low}
use Rattle.sheet.proofs.survey.steps.Goals as goal

pub loop-i-init : goal.loop-i-init
unfolding first_fault some_leave
loop-i-init c = (refl, record { below = λ s h. absurd (omega arith); here = refl }, refl)

pub returns-then-not-is_next-clause-judged : goal.returns-then-not-is_next-clause-judged
returns-then-not-is_next-clause-judged c =
    let o = c.args.reader.now.place in
    let i = c.loop-i.i in
    let e = c.entries-steps.ensures in
    let judged = step_judged c.args.reader.now.bytes.now c.entries-steps.result.now o e.entries c.requires.here i c.args.states c.joined-key.result c.loop-i.last c.is_next.result e.room (omega arith) c.requires.states c.joined-key.ensures c.loop-i.invariant.2 c.is_next.ensures in
    let wrong = judged ∙ ap (λ b. cond b None (Some (at BadEntry (o + 6 * i)))) c.if-not-is_next.true in
    rw (c.at.ensures, c.place-place.ensures) (first_here c.args.count i (step_fault c.args.reader.now.bytes.now) _ (omega (arith, e.count)) c.loop-i.invariant.0 wrong)

pub loop-i-preserved : goal.loop-i-preserved
loop-i-preserved c =
    let bytes = c.args.reader.now.bytes.now in
    let o = c.args.reader.now.place in
    let i = c.loop-i.i in
    let e = c.entries-steps.ensures in
    let judged = step_judged bytes c.entries-steps.result.now o e.entries c.requires.here i c.args.states c.joined-key.result c.loop-i.last c.is_next.result e.room (omega arith) c.requires.states c.joined-key.ensures c.loop-i.invariant.2 c.is_next.ensures in
    let right = judged ∙ ap (λ b. cond b None (Some (at BadEntry (o + 6 * i)))) c.if-not-is_next.false in
    let none = first_more i (step_fault bytes) c.loop-i.invariant.0 right in
    let key = joins_is bytes c.entries-steps.result.now o e.entries c.requires.here i c.joined-key.result (omega arith) c.joined-key.ensures in
    let from = ap (λ (p : ℕ × ℕ). p.0) key in
    elim c.if-key-low.branch [
      | then-key-low w ↦ (none, rw w.low-is (lowest_next bytes i c.loop-i.low none c.loop-i.invariant.1 (sym from ∙ w.if-key-low.true)), rw (w.last-is, add-one) (ap Some key))
      | else-key-low w ↦ (none, rw w.low-is (lowest_same bytes i c.loop-i.low c.loop-i.invariant.1 (λ q. w.if-key-low.false (from ∙ q))), rw (w.last-is, add-one) (ap Some key))
    ]

pub returns-then-steps-count-clause-judged : goal.returns-then-steps-count-clause-judged
returns-then-steps-count-clause-judged c =
    let bytes = c.args.reader.now.bytes.now in
    let e = c.entries-steps.ensures in
    let all : c.loop-i.i ≡ length c.entries-steps.result.now = omega arith in
    let short = step_short bytes c.loop-i.i (omega (arith, c.requires.here, e.count, c.if-steps-count.true, all)) in
    rw (c.cut_short.ensures, e.moved.bytes) (first_here c.args.count c.loop-i.i (step_fault bytes) _ (omega (arith, c.if-steps-count.true, all)) c.loop-i.invariant.0 short)

pub returns-clause-judged : goal.returns-clause-judged
returns-clause-judged c =
    let bytes = c.args.reader.now.bytes.now in
    let e = c.entries-steps.ensures in
    let all : length c.entries-steps.result.now ≡ c.args.count = omega (arith, e.count, c.if-steps-count.false) in
    let same : c.loop-i.i ≡ c.args.count = omega arith in (
      ap (λ n. first_fault n (step_fault bytes)) (sym same) ∙ c.loop-i.invariant.0,
      subst (λ (n : ℕ). Lowest bytes n c.loop-i.low) same c.loop-i.invariant.1,
      says_all (λ entry. step_there entry 0) (step_in bytes) c.entries-steps.result.now c.args.count no_step all (λ i h. step_is bytes c.entries-steps.result.now c.args.reader.now.place e.entries c.requires.here i (omega arith)),
    )
