use Rattle.std.proofs.Common.{rules, tests, ap, ◌∙◌, arith}
use Rattle.std.proofs.lemmas.Iterator.{YieldsList-from_range, YieldsList-from_map}
use Rattle.std.proofs.lemmas.Iterator.Consumers.{sum_from_yields_List}
use Rattle.std.proofs.lemmas.Iterator.Adapters.{fits_from_length, at_most_from_yields_List}
use Rattle.std.proofs.lemmas.List.FromFn.{length-range_with_len}
use Rattle.podsjeal.specs.Counts.{sum_below, steps_out, all_steps}
use Rattle.podsjeal.proofs.Sums.{sum_below_made}
use Rattle.podsjeal.proofs.count.all_steps.Goals as goal

pub sum-requires-clause-fits : goal.sum-requires-clause-fits
sum-requires-clause-fits g c =
    let n = c.states.result in
    let source = YieldsList-from_range 0 n n c.map.ensures.source (omega arith) in
    let few = at_most_from_yields_List {n = 1024} source (omega (arith, length-range_with_len 0 n, c.states.ensures, (g.met.M.Machine.lawful c.args.machine.now).few_states)) in
    fits_from_length _ _ 1024 _ few c.map.ensures.closure (omega arith) (λ x r q k. search (rules, tests))

pub returns : goal.returns
unfolding all_steps
returns g c =
    let m = g.M.Machine.model c.args.machine.now in
    let n = c.states.result in
    let source = YieldsList-from_range 0 n n c.map.ensures.source (omega arith) in
    sum_from_yields_List c.map.result c.sum.result c.sum.ensures.ran (YieldsList-from_map _ (steps_out m) source c.map.ensures.closure (λ x r q k. search rules))
    ∙ sum_below_made n (steps_out m)
    ∙ ap (λ k. sum_below k (steps_out m)) c.states.ensures
