use Rattle.std.proofs.Common.{ℕ, List, refl, ◌∙◌, inl, arith, rules, tests}
use Rattle.std.specs.Str.{bytes_eq}
use Rattle.std.proofs.lemmas.Iterator.Adapters.{position_from-zero}
use Rattle.std.proofs.lemmas.Iterator.Consumers.{YieldsList-from_first}
use Rattle.std.proofs.lemmas.Iterator.Search.{position_from_yields_List}
use Rattle.sheet.specs.Fields.{words_in}
use Rattle.sheet.proofs.Words.{words_length, place_position}
use Rattle.sheet.proofs.names.Names.place.Goals as goal

pub position-requires-clause-fits : goal.position-requires-clause-fits
position-requires-clause-fits c = inl (omega (arith, words_length c.args.self.count c.args.self.bytes.now))

pub returns : goal.returns
returns c =
    let words = words_in c.args.self.count c.args.self.bytes.now in
    let same = λ (n : List ℕ). bytes_eq n c.args.word.now in
    position_from_yields_List same c.position.new.self _ c.position.result c.position.ensures.ran (YieldsList-from_first (λ x. x.now) (λ s. words_in s.count s.bytes.now) words refl) (λ x b q k. search (rules, tests))
    ∙ position_from-zero same words ∙ place_position 0 words c.args.word.now
