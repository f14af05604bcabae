use Rattle.std.proofs.Common.{sym}
use Rattle.rule.proofs.Ahead.{tail_behind}
use Rattle.rule.proofs.store.Draft.opening.Goals as goal

pub invariant_of-self-clause-tail : goal.invariant_of-self-clause-tail
invariant_of-self-clause-tail c = tail_behind c.args.self.now.text.now c.args.self.now.tail (sym c.in-Some.ensures)
