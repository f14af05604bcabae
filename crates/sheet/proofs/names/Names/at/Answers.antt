use Rattle.std.proofs.Common.{sym, refl, arith}
use Rattle.std.proofs.lemmas.Iterator.Consumers.{YieldsList-from_first, nth_from_yields_List}
use Rattle.std.proofs.lemmas.Option.{slice_get_past}
use Rattle.sheet.specs.Fields.{words_in}
use Rattle.sheet.proofs.Words.{words_length}
use Rattle.sheet.proofs.names.Names.at.Goals as goal

pub returns : goal.returns
returns c = nth_from_yields_List c.nth.result c.nth.new.self c.args.i c.nth.ensures.ran (YieldsList-from_first (λ x. x.now) (λ s. words_in s.count s.bytes.now) _ refl)

pub returns-then-i-self : goal.returns-then-i-self
returns-then-i-self c =
    let words = words_in c.args.self.count c.args.self.bytes.now in
    sym (slice_get_past words c.args.i (omega (arith, words_length c.args.self.count c.args.self.bytes.now)))
