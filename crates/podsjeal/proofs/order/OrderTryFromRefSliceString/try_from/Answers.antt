use Rattle.std.proofs.Common.{map, codes, String, Global, sym, ◌∙◌}
use Rattle.std.specs.String.{string_bytes}
use Rattle.podsjeal.proofs.Asked.{first_is, asks_examine, asks_rules}
use Rattle.podsjeal.proofs.order.OrderTryFromRefSliceString.try_from.Goals as goal

pub returns-in-text : goal.returns-in-text
returns-in-text c =
    (map (λ (w : String Global). string_bytes w) c.in-Some.rest.now, first_is c.args.words.now c.in-Some.rest.now c.in-Some.first.now (codes "--help") c.in-Some.ensures.cases.0 (sym c.as_str.ensures.value ∙ c.in-text.is))

pub returns-in-examine : goal.returns-in-examine
returns-in-examine c =
    asks_examine c.args.words.now c.in-Some.rest.now c.on.result (first_is c.args.words.now c.in-Some.rest.now c.in-Some.first.now (codes "examine") c.in-Some.ensures.cases.0 (sym c.as_str.ensures.value ∙ c.in-examine.is)) c.on.ensures

pub returns-in-rules : goal.returns-in-rules
returns-in-rules c =
    asks_rules c.args.words.now c.in-Some.rest.now c.on_rules.result (first_is c.args.words.now c.in-Some.rest.now c.in-Some.first.now (codes "rules") c.in-Some.ensures.cases.0 (sym c.as_str.ensures.value ∙ c.in-rules.is)) c.on_rules.ensures
