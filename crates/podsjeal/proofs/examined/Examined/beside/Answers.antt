use Rattle.std.proofs.Common.{◌≡◌, ◌++◌, List, ℕ, Bor, sym, subst, ap, ◌∙◌}
use Rattle.std.specs.Result.{OnOk}
use Rattle.std.proofs.lemmas.List.{map-id}
use Rattle.std.proofs.lemmas.Iterator.Adapters.{fact_from_extend, YieldsList-from_vec}
use Rattle.podsjeal.proofs.examined.Examined.beside.Goals as goal

pub returns : goal.returns
returns g c =
    let added = c.args.right.names.items in
    let whole = c.args.self.names.items ++ added in
    let fact : OnOk c.extend.result (c.extend.new.self.items ≡ whole) =
    fact_from_extend (λ x. x) c.extend.result c.extend.ensures.ran (λ it b. YieldsList-from_vec {s = it} added b.0 (b.1 ∙ c.args.right.names.ok.0)) (λ xs e h. h.0 ∙ ap {B = List (Bor (List ℕ))} (λ l. c.args.self.names.items ++ l) (sym (map-id xs) ∙ e)) in
    subst (λ r. OnOk r (c.extend.new.self.items ≡ whole)) c.in_ok-extend.was fact
