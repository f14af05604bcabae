use Rattle.std.proofs.Common.{arith}
use Rattle.layout.proofs.Meanings.{encoding_means, nothing_means}
use Rattle.sheet.proofs.opened.Sheet.open.Goals as goal

pub returns-clause-means : goal.returns-clause-means
returns-clause-means c d p e = encoding_means c.args.bytes.now d p e

pub returns-clause-otherwise : goal.returns-clause-otherwise
returns-clause-otherwise c none = nothing_means c.args.bytes.now (λ i. omega (arith, c.type_inv.bytes i)) none
