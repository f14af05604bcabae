use Rattle.std.proofs.Common.{◌≡◌, ◌||◌, rules}
use Rattle.automaton.specs.Built.{rows_of}
use Rattle.automaton.proofs.Pieces.{chosen, alt_built}
use Rattle.automaton.proofs.alternative.Goals as goal

pub returns : goal.returns
returns c =
    let a = c.args.a in
    let b = c.args.b in
    let null : c.if-a.nullable ≡ (a.nullable || b.nullable) = search rules in
    let value = chosen a b _ null c.union.ensures c.union-2.ensures in
    record { value = value; built = λ x y o e. alt_built x y o a b _ e (value (rows_of e)) }
