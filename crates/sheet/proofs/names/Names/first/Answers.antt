use Rattle.std.proofs.Common.{ap, ◌∙◌, zero-add, arith, length-drop}
use Rattle.std.proofs.lemmas.List.{take_rest}
use Rattle.layout.specs.Fields.{name_at}
use Rattle.sheet.proofs.Words.{words_are, names_end, names_room}
use Rattle.sheet.proofs.names.Names.first.Goals as goal

pub invariant_of-result : goal.invariant_of-result
unfolding name_at
invariant_of-result c =
    let bytes = c.args.sheet.now in
    let room = names_room bytes c.args.count c.requires.header c.requires.judged in
    let end = names_end bytes 0 c.args.count ∙ ap (name_at bytes) (zero-add c.args.count) in
    record { fit = rw (take_rest bytes 8) (omega (arith, length-drop 8 bytes)) }

pub returns : goal.returns
unfolding name_at
returns c = let bytes = c.args.sheet.now in rw (take_rest bytes 8) (words_are bytes 0 c.args.count)
