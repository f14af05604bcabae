use Rattle.std.proofs.Common.{◌≡◌, List, ℕ, Bor, map, None, Option, sym, ap, ◌∙◌}
use Rattle.std.specs.List.{slice_get}
use Rattle.std.specs.Option.{option_map}
use Rattle.podsjeal.specs.contracts.single.SingleMachine.TheImpl.{ghosts}
use Rattle.podsjeal.proofs.Listed.{name_more, name_none}
use Rattle.podsjeal.proofs.single.Single.listed.Goals.{in-Some+in_ok-push, in_default}
use Rattle.podsjeal.proofs.single.Single.listed.Goals as goal

pub loop-i-preserved : goal.loop-i-preserved
loop-i-preserved c =
    let ns = (ghosts.model c.args.self.now).names in
    let i = c.loop-i.i in
    elim c.match-name.branch [
      | in-Some+in_ok-push w ↦
          let more = name_more ns i c.name.result w.in-Some.name c.loop-i.names.items c.name.ensures w.in-Some.is c.loop-i.invariant in
          let pushed = w.in_ok-push.ensures.items in
          ap (λ v. map (λ (x : Bor (List ℕ)). x.now) v.items) w.names-is ∙ ap (map (λ (x : Bor (List ℕ)). x.now)) pushed ∙ more
      | in_default w ↦
          let none : slice_get ns i ≡ None = sym c.name.ensures ∙ ap (λ (o : Option (Bor (List ℕ))). option_map (λ x. x.now) o) w.in_default.is in
          ap (λ v. map (λ (x : Bor (List ℕ)). x.now) v.items) w.names-is ∙ c.loop-i.invariant ∙ name_none ns i none
    ]
