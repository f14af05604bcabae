use Rattle.std.proofs.Common.{is_some, ap, ◌∙◌}
use Rattle.layout.proofs.Lookups.{place_among}
use Rattle.sheet.specs.Fields.{words_in}
use Rattle.sheet.proofs.names.Names.has.Goals as goal

pub returns : goal.returns
returns c = c.is_some.ensures ∙ ap is_some c.place.ensures ∙ place_among 0 (words_in c.args.self.count c.args.self.bytes.now) c.args.word.now
