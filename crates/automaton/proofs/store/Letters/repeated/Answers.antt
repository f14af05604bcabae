use Rattle.std.proofs.Common.{refl}
use Rattle.automaton.proofs.Pieces.{linked_again, star_built}
use Rattle.automaton.proofs.store.Letters.repeated.Goals as goal

pub returns : goal.returns
returns c =
    let a = c.args.a in
    let e = c.args.self.now in
    let value = linked_again a _ c.link.new.rows e.follow _ e.rows c.link.ensures refl refl refl in
    record {
      value = value;
      built = λ x o. star_built x o a _ e _ refl value;
      kept = record { count = refl; parts = refl; rows = c.link.ensures.kept };
    }
