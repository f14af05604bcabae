use Rattle.std.proofs.Common.{sym, ◌∙◌, arith}
use Rattle.sheet.proofs.Sought.{below_more, above_more}
use Rattle.sheet.proofs.search.search.Goals as goal

pub loop-low-preserved-in-Less : goal.loop-low-preserved-in-Less
loop-low-preserved-in-Less c = (
  omega (arith, c.halfway-middle.ensures),
  c.loop-low.invariant.1,
  below_more c.args.steps.now c.args.from c.args.to c.halfway-middle.result (omega (arith, c.halfway-middle.ensures)) (sym c.compare.ensures ∙ c.in-Less.is),
  c.loop-low.invariant.3,
)

pub loop-low-preserved : goal.loop-low-preserved
loop-low-preserved c = (
  omega (arith, c.halfway-middle.ensures),
  omega (arith, c.halfway-middle.ensures),
  c.loop-low.invariant.2,
  above_more c.args.steps.now c.args.from c.args.to c.halfway-middle.result (omega (arith, c.halfway-middle.ensures)) (sym c.compare.ensures ∙ c.in-Greater.is),
)
