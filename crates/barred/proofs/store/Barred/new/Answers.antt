use Rattle.std.proofs.Common.{sym, subst}
use Rattle.barred.specs.Sound.{Sound}
use Rattle.barred.proofs.Kept.{keeps_none, sound_from_keeps}
use Rattle.barred.proofs.store.Barred.new.Goals as goal

pub invariant_of-result-clause-sound : goal.invariant_of-result-clause-sound
invariant_of-result-clause-sound g c =
    let law = g.met.M.Machine.lawful c.args.machine in
    subst (Sound (g.M.Machine.model c.args.machine)) (sym c.new.ensures) (sound_from_keeps law (keeps_none law))
