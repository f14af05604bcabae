use Rattle.std.proofs.Common.{rules, tests, is_some, ap, ◌∙◌, arith}
use Rattle.std.proofs.lemmas.Iterator.{YieldsList-from_range, YieldsList-from_map}
use Rattle.std.proofs.lemmas.Iterator.Consumers.{sum_from_yields_List}
use Rattle.std.proofs.lemmas.Iterator.Adapters.{fits_from_length, at_most_from_yields_List}
use Rattle.std.proofs.lemmas.List.FromFn.{length-range_with_len}
use Rattle.podsjeal.specs.Counts.{sum_below, one_step, steps_out}
use Rattle.podsjeal.proofs.Sums.{sum_below_made, sum_few}
use Rattle.podsjeal.proofs.count.steps_out.Goals as goal

pub sum-requires-clause-fits : goal.sum-requires-clause-fits
sum-requires-clause-fits g c =
    let n = c.states.result in
    let source = YieldsList-from_range 0 n n c.map.ensures.source (omega arith) in
    let few = at_most_from_yields_List {n = 1024} source (omega (arith, length-range_with_len 0 n, c.states.ensures, (g.met.M.Machine.lawful c.args.machine.now).few_states)) in
    fits_from_length _ _ 1024 _ few c.map.ensures.closure (omega arith) (λ x r q k. search (rules, tests))

pub returns : goal.returns
unfolding steps_out
returns g c =
    let m = g.M.Machine.model c.args.machine.now in
    let law = g.met.M.Machine.lawful c.args.machine.now in
    let one = one_step m c.args.state in
    let n = c.states.result in
    let source = YieldsList-from_range 0 n n c.map.ensures.source (omega arith) in
    let added = sum_from_yields_List c.map.result c.sum.result c.sum.ensures.ran (YieldsList-from_map _ one source c.map.ensures.closure (λ x r q k. search rules)) ∙ sum_below_made n one in
    record {
      value = added ∙ ap (λ k. sum_below k one) c.states.ensures;
      bound = omega (arith, added, sum_few n (λ t. is_some (m.step c.args.state t)), c.states.ensures, law.few_states);
    }
