use Rattle.std.proofs.Common.{ℕ, Bool, not, ◌&&◌, eqb, ◌∙◌, refl, arith, rules}
use Rattle.std.proofs.lemmas.Iterator.{YieldsList-from_range}
use Rattle.std.proofs.lemmas.Iterator.Search.{any_from_yields_List}
use Rattle.barred.specs.Bars.{has_other, is_open}
use Rattle.barred.specs.Barring.{bars_of}
use Rattle.barred.proofs.Below.{some_below_any}
use Rattle.barred.proofs.store.Barred.has_other.Goals as goal

pub returns : goal.returns
unfolding has_other
returns g c =
    let m = g.M.Machine.model c.args.self.now.machine in
    let other_open : ℕ → Bool = λ u. is_open m (bars_of c.args.self.now) c.args.from u && not (eqb u c.args.to) in
    any_from_yields_List other_open _ _ _ c.any.ensures.ran (YieldsList-from_range 0 c.states.result m.states refl (omega (arith, c.states.ensures))) (λ x b q k. search rules)
    ∙ some_below_any m.states other_open
