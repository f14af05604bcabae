use Rattle.report.proofs.Joins.{few_lines, are_lines}
use Rattle.report.proofs.line.lines.Goals as goal

pub returns-clause-few : goal.returns-clause-few
returns-clause-few c = few_lines c.args.bytes.now

pub returns-clause-whole : goal.returns-clause-whole
returns-clause-whole c = are_lines c.args.bytes.now
