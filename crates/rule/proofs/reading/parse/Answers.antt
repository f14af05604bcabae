use Rattle.std.proofs.Common.{sym, refl}
use Rattle.std.proofs.lemmas.Bool.{eqb-true, eqb-false}
use Rattle.rule.proofs.Wholes.{read_whole, left_over}
use Rattle.rule.proofs.reading.parse.Goals as goal

pub returns-then-not-is_over : goal.returns-then-not-is_over
returns-then-not-is_over c =
    let d = c.args.draft.now in
    left_over d.text.now d c.formula.new.self refl c.requires.rest c.requires.none c.requires.seen c.in_ok-formula.ensures c.unexpected.result c.unexpected.ensures (eqb-false _ 0 (sym c.if-not-is_over.ensures))

pub returns : goal.returns
returns c =
    let d = c.args.draft.now in
    read_whole d.text.now d c.formula.new.self refl c.requires.rest c.requires.none c.requires.seen c.in_ok-formula.ensures (eqb-true _ 0 (sym c.if-not-is_over.ensures))
