use Rattle.std.proofs.Common.{◌≡◌, ◌&&◌, refl, rules}
use Rattle.automaton.proofs.Pieces.{linked_joined, seq_built}
use Rattle.automaton.proofs.store.Letters.sequence.Goals as goal

pub returns : goal.returns
returns c =
    let a = c.args.a in
    let b = c.args.b in
    let e = c.args.self.now in
    let null : c.if-a.nullable ≡ (a.nullable && b.nullable) = search rules in
    let value = linked_joined a b _ c.link.new.rows e.follow _ e.rows c.link.ensures null c.union_if.ensures c.union_if-2.ensures in
    record {
      value = value;
      built = λ x y o. seq_built x y o a b _ e _ refl value;
      kept = record { count = refl; parts = refl; rows = c.link.ensures.kept };
    }
