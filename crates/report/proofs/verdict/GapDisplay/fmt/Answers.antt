use Rattle.std.proofs.Common.{◌≡◌, ℕ, List, codes, sym, refl, ap, ◌∙◌, add-one, arith}
use Rattle.std.specs.List.{repeat}
use Rattle.std.proofs.Output.{has_written_append, has_written_of_eq}
use Rattle.report.proofs.Columns.{repeated_more}
use Rattle.report.proofs.verdict.GapDisplay.fmt.Goals as goal

pub loop-preserved : goal.loop-preserved
loop-preserved g c plain =
    let so_far = c.loop.invariant plain in
    let next = c.in_ok-write_str.ensures.writes so_far.plain refl in
    let more = sym (repeated_more c.loop.counter (codes " ")) ∙ ap {B = List ℕ} (λ k. repeat k (codes " ")) (sym (add-one c.loop.counter)) in
    has_written_of_eq _ _ _ _ _ more (has_written_append _ _ _ _ _ _ so_far next)

pub returns-clause-writes : goal.returns-clause-writes
returns-clause-writes g c plain e =
    let all : c.loop.counter ≡ c.args.self.now.width = omega arith in
    has_written_of_eq _ _ _ _ _ (ap {B = List ℕ} (λ k. repeat k (codes " ")) all) (c.loop.invariant plain)
