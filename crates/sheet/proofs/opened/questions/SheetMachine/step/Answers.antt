use Rattle.std.proofs.Common.{◌≤◌, ◌⊎◌, Some, ap, sym, ◌∙◌, inl, inr, arith}
use Rattle.machine.proofs.Laws.{no_step}
use Rattle.layout.proofs.Meanings.{sheet_lawful}
use Rattle.layout.specs.Judging.{sheet_model}
use Rattle.sheet.proofs.Meant.{model_is}
use Rattle.sheet.proofs.Sought.{step_found, step_missed}
use Rattle.sheet.proofs.opened.questions.SheetMachine.step.Goals.{then-from-states-via-then-from-states, then-from-states-via-else-from-states+then-to-states}
use Rattle.sheet.proofs.opened.questions.SheetMachine.step.Goals as goal

pub returns-then-from-states : goal.returns-then-from-states
returns-then-from-states c =
    let bytes = c.args.self.now.bytes.now in
    let past : ((sheet_model bytes).states ≤ c.args.from) ⊎ ((sheet_model bytes).states ≤ c.args.to) = elim c.then-from-states.branch [
      | then-from-states-via-then-from-states w ↦ inl (omega (arith, c.states.ensures, w.if-from-states.true))
      | then-from-states-via-else-from-states+then-to-states w ↦ inr (omega (arith, w.states-else-from-states.ensures, w.if-to-states.true))
    ] in
    sym (no_step (sheet_model bytes) (sheet_lawful bytes c.args.self.now.octets) c.args.from c.args.to past)

pub returns-in_err-i : goal.returns-in_err-i
returns-in_err-i c =
    let x = c.args.self.now in
    c.from_residual.ensures ∙ sym (ap (λ m. m.step c.args.from c.args.to) (model_is x.bytes.now)
    ∙ step_missed x.bytes.now x.octets x.parts.steps.now (ap (λ d. d.steps) x.found) c.args.from c.args.to c.search.result c.in_err-i.ensures.value c.search.ensures.position)

pub returns : goal.returns
returns c =
    let x = c.args.self.now in
    ap Some c.seconds.ensures
    ∙ sym (ap (λ m. m.step c.args.from c.args.to) (model_is x.bytes.now)
    ∙ step_found x.bytes.now x.octets x.parts.steps.now (ap (λ d. d.steps) x.found) c.args.from c.args.to c.in_ok-i.i c.search.result c.in_ok-i.ensures.value c.search.ensures.bound c.search.ensures.position)
