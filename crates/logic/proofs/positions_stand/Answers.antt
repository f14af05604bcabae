use Rattle.logic.proofs.Words.{spelled, ends}
use Rattle.logic.proofs.positions_stand.Goals as goal

pub returns : goal.returns
returns c = record { spelled = spelled; ends = ends }
