use Rattle.std.proofs.Common.{not, rules}
use Rattle.arrayvec.proofs.ArrayVecLemmas.{filter-from_retain}
use Rattle.barred.specs.Bars.{is_step}
use Rattle.barred.proofs.steps.remove.Goals as goal

pub returns : goal.returns
returns c =
    let from = c.args.step.from in
    let to = c.args.step.to in
    filter-from_retain _ (λ p. not (is_step p from to)) _ (λ x b f' y called. search rules) _ _ c.retain.ensures.filtered
