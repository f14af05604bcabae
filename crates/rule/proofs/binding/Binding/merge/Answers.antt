use Rattle.std.proofs.Common.{refl}
use Rattle.rule.proofs.binding.Binding.merge.Goals as goal

pub returns-in-Loose : goal.returns-in-Loose
returns-in-Loose c =
    rw c.in-Loose.is (record { built = λ x y o. c.alternative.ensures.built x y o c.args.letters.now; kept = record { count = refl; parts = refl; rows = λ p n. refl } })
