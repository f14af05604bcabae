use Rattle.std.proofs.Common.{length, sym, ap, arith}
use Rattle.layout.proofs.Meanings.{sheet_lawful}
use Rattle.sheet.specs.Fields.{words_in}
use Rattle.sheet.proofs.Meant.{model_is, place_below}
use Rattle.sheet.proofs.opened.questions.SheetMachine.bears.Goals as goal

pub is_set-requires : goal.is_set-requires
is_set-requires c =
    let x = c.args.self.now in
    let words = words_in x.parts.names.count x.parts.names.bytes.now in
    let below = place_below 0 words c.args.word.now c.in-Some.bit (sym c.in-Some.ensures) in
    let few = (sheet_lawful x.bytes.now x.octets).few_names in
    omega (arith, below, few, ap (λ m. length m.names) (model_is x.bytes.now), ap (λ d. length d.names) x.found)
