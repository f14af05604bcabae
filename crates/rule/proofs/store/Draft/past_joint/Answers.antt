use Rattle.std.proofs.Common.{sym, ap, ◌∙◌}
use Rattle.grammar.specs.Words.{skip, read}
use Rattle.rule.proofs.Ahead.{tail_behind}
use Rattle.rule.proofs.store.Draft.past_joint.Goals as goal

pub invariant_of-self-clause-tail : goal.invariant_of-self-clause-tail
invariant_of-self-clause-tail c =
    let d = c.count_part.new.self in
    let counted = c.in_ok-count_part.ensures in
    tail_behind d.text.now d.tail (ap (λ l. read (skip l)) counted.rest ∙ sym c.in-Some-Key-default.ensures)
