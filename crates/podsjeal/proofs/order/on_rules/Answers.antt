use Rattle.podsjeal.proofs.Asked.{for_rules}
use Rattle.podsjeal.proofs.order.on_rules.Goals as goal

pub returns-in-Some : goal.returns-in-Some
returns-in-Some c = for_rules c.args.words.now c.in-Some.machine.now c.in-Some.file.now c.as_str-file.result c.on.result c.in-Some.ensures.cases.0 c.as_str-file.ensures.value c.on.ensures
