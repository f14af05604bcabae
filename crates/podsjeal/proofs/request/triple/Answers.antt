use Rattle.std.proofs.Common.{Some, None}
use Rattle.podsjeal.proofs.Words.{triple_cut, double_cut, at_none}
use Rattle.podsjeal.proofs.request.triple.Goals as goal

pub returns-in_err-sectors : goal.returns-in_err-sectors
returns-in_err-sectors c = at_none _ _ c.from_residual.ensures (triple_cut c.args.word.now None c.in_err-sectors.ensures.cases)

pub returns-in_err-turn : goal.returns-in_err-turn
returns-in_err-turn c =
    at_none _ _ c.from_residual-in_err-turn.ensures (λ n k a t.
    let cut = triple_cut c.args.word.now (Some (c.in_ok-sectors.sectors, c.in_ok-sectors.rest)) c.in_ok-sectors.ensures.cases n k a t in
    double_cut c.in_ok-sectors.rest.now None c.in_err-turn.ensures.cases k a cut.1)

pub returns-in_err-number : goal.returns-in_err-number
returns-in_err-number c =
    at_none _ _ c.from_residual-in_err-number.ensures (λ n k a t.
    let cut = triple_cut c.args.word.now (Some (c.in_ok-sectors.sectors, c.in_ok-sectors.rest)) c.in_ok-sectors.ensures.cases n k a t in
    c.in_err-number.ensures n cut.0)

pub returns-in_err-number-2 : goal.returns-in_err-number-2
returns-in_err-number-2 c =
    at_none _ _ c.from_residual-in_err-number-2.ensures (λ n k a t.
    let cut = triple_cut c.args.word.now (Some (c.in_ok-sectors.sectors, c.in_ok-sectors.rest)) c.in_ok-sectors.ensures.cases n k a t in
    let again = double_cut c.in_ok-sectors.rest.now (Some (c.in_ok-turn.turn, c.in_ok-turn.aim)) c.in_ok-turn.ensures.cases k a cut.1 in
    c.in_err-number-2.ensures k again.0)

pub returns-in_err-number-3 : goal.returns-in_err-number-3
returns-in_err-number-3 c =
    at_none _ _ c.from_residual-in_err-number-3.ensures (λ n k a t.
    let cut = triple_cut c.args.word.now (Some (c.in_ok-sectors.sectors, c.in_ok-sectors.rest)) c.in_ok-sectors.ensures.cases n k a t in
    let again = double_cut c.in_ok-sectors.rest.now (Some (c.in_ok-turn.turn, c.in_ok-turn.aim)) c.in_ok-turn.ensures.cases k a cut.1 in
    c.in_err-number-3.ensures a again.1)
