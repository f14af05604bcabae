use Rattle.std.proofs.Common.{◌<◌, length, Some, sym, ap, ◌∙◌, subst, arith}
use Rattle.machine.specs.Model.{among}
use Rattle.word.specs.Tokens.{word_of}
use Rattle.word.proofs.Lookups.{Looked, looked_none, looked_less, looked_more, looked_found, looked_all}
use Rattle.word.proofs.first_unknown.Goals as goal

pub loop-token-init : goal.loop-token-init
loop-token-init g c =
    let known = among (g.M.Machine.model c.args.machine.now).names in
    subst (Looked known c.args.text.now) (sym c.skip_gaps-rest.ensures.value) (looked_none known c.args.text.now)

pub returns-in-Some : goal.returns-in-Some
returns-in-Some g c =
    sym (looked_found _ c.args.text.now c.loop-token.rest.now c.loop-token.invariant c.in-Name.word.now c.in-Some.next.now (sym c.in-Some.ensures ∙ ap (λ x. Some (word_of x, c.in-Some.next.now)) c.in-Name.is) (sym c.if-not-knows.ensures))

pub loop-token-smaller : goal.loop-token-smaller
loop-token-smaller g c =
    let known = among (g.M.Machine.model c.args.machine.now).names in
    subst (λ m. length m < length c.loop-token.rest.now) (sym c.skip_gaps-rest-in-Some.ensures.value)
    (looked_less known c.args.text.now c.loop-token.rest.now c.loop-token.invariant (word_of c.in-Some.token) c.in-Some.next.now (sym c.in-Some.ensures))

pub loop-token-preserved : goal.loop-token-preserved
loop-token-preserved g c =
    let known = among (g.M.Machine.model c.args.machine.now).names in
    subst (Looked known c.args.text.now) (sym c.skip_gaps-rest-in-Some.ensures.value)
    (looked_more known c.args.text.now c.loop-token.rest.now c.loop-token.invariant c.in-Some.token c.in-Some.next.now (sym c.in-Some.ensures)
    (λ r e. grind arith))

pub returns : goal.returns
returns g c = sym (looked_all _ c.args.text.now c.loop-token.rest.now c.loop-token.invariant (sym c.in_default.ensures))
