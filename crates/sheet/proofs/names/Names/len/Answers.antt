use Rattle.std.proofs.Common.{sym}
use Rattle.sheet.proofs.Words.{words_length}
use Rattle.sheet.proofs.names.Names.len.Goals as goal

pub returns : goal.returns
returns c = sym (words_length c.args.self.now.count c.args.self.now.bytes.now)
