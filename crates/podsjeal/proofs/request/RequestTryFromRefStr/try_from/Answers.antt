use Rattle.podsjeal.specs.declared.request.Request.TheVariants.{Sheet, Ring}
use Rattle.podsjeal.proofs.request.RequestTryFromRefStr.try_from.Goals as goal

pub returns-in-None : goal.returns-in-None
returns-in-None c = elim [ Sheet path ↦ c.in_default.ensures.cases path.now | Ring n k a ↦ c.in-None.ensures n k a ]
