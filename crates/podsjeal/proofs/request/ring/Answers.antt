use Rattle.std.proofs.Common.{ℕ, List, ◌++◌, codes, sym, ap, ◌∙◌}
use Rattle.podsjeal.proofs.Words.{ring_behind}
use Rattle.podsjeal.proofs.request.ring.Goals as goal

pub returns : goal.returns
returns c =
    let rest = c.in_ok-strip_prefix.field-0.now in
    let cut = c.in_ok-strip_prefix.ensures.cases in
    ring_behind c.args.word.now rest c.triple.result (cut.1.1 ∙ ap {B = List ℕ} (λ r. codes "ring:" ++ r) (sym cut.2)) c.triple.ensures
