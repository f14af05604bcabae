use Rattle.std.proofs.Common.{◌≡◌, ◌+◌, ◌-◌, ◌/◌, ◌%◌, ◌^◌, eqb, unwrap_or, sym, ap, ◌∙◌, arith}
use Rattle.std.proofs.lemmas.Bool.{cond-false, ne_eqb}
use Rattle.gauge.specs.Asking.{next, answer, asked}
use Rattle.gauge.proofs.Asking.{asked_once}
use Rattle.gauge.proofs.ask.Goals as goal

pub loop-init : goal.loop-init
loop-init g c = ap (λ n. asked (g.M.Machine.model c.args.machine.now) n c.args.seed 0) {x = c.args.count - 0} {y = c.args.count} (omega arith)

pub loop-preserved : goal.loop-preserved
loop-preserved g c =
    let m = g.M.Machine.model c.args.machine.now in
    let n = c.args.count - (c.loop.counter + 1) in
    let x = c.loop.x in
    let here : c.from-total.result ≡ answer m x =
    c.from-total.ensures ∙ c.unwrap_or-seconds.ensures ∙ ap (λ o. unwrap_or o 0) c.step.ensures
    ∙ ap (λ k. unwrap_or (m.step (x / 2 ^ 20 % k) (x / 2 ^ 40 % k)) 0) c.states-states.ensures in
    ap (λ y. asked m n y ((c.loop.total + c.from-total.result) % 2 ^ 64)) c.next_number-x.ensures
    ∙ ap (λ a. asked m n (next x) ((c.loop.total + a) % 2 ^ 64)) here
    ∙ sym (asked_once m c.args.count c.loop.counter x c.loop.total (omega arith)) ∙ c.loop.invariant

pub returns : goal.returns
unfolding asked
returns g c =
    let m = g.M.Machine.model c.args.machine.now in
    let some : m.states ≡ 0 → ⊥ = λ e. c.if-states-eq0.false (c.states-states.ensures ∙ e) in
    ap (λ n. asked m n c.loop.x c.loop.total) {x = 0} {y = c.args.count - c.loop.counter} (omega arith) ∙ c.loop.invariant
    ∙ sym (cond-false (eqb m.states 0) 0 (asked m c.args.count c.args.seed 0) (ne_eqb m.states 0 some))
