use Rattle.std.proofs.Common.{◌<◌, ◌≢◌, length, refl, arith, get_or-set_other, get_or-set_same}
use Rattle.automaton.proofs.Pieces.{letter_built}
use Rattle.automaton.proofs.store.Letters.letter.Goals as goal

pub returns : goal.returns
returns c =
    let e = c.args.self.now in
    let row : e.count < length e.follow = omega (arith, e.rows) in
    let place : e.count < length e.parts = omega (arith, e.named) in
    record {
      free = omega arith;
      count = refl;
      built = λ f. letter_built f e.count _ _ (omega arith) refl c.only-here.ensures c.only-here.ensures (rw get_or-set_same);
      named = rw get_or-set_same;
      rows = λ k h. let ne : k ≢ e.count = omega arith in rw get_or-set_other;
      parts = λ k h. let ne : k ≢ e.count = omega arith in rw get_or-set_other;
    }
