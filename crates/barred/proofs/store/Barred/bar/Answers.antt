use Rattle.std.proofs.Common.{true, [], ◌∷◌, ◌++◌, set, sym, ap, ◌∙◌, subst, arith}
use Rattle.std.proofs.lemmas.List.{length-set}
use Rattle.fault.proofs.Refusals.{accepted}
use Rattle.barred.specs.Bars.{Marked, step_of}
use Rattle.barred.specs.Barring.{bars_of, bar_fault}
use Rattle.barred.proofs.Kept.{bar_granted, refused_keeps, sound_push}
use Rattle.barred.proofs.Listed.{marked_push}
use Rattle.barred.proofs.store.Barred.bar.Goals as goal

pub returns-in_err-step-clause-bars : goal.returns-in_err-step-clause-bars
returns-in_err-step-clause-bars g c =
    let this = c.args.self.now in
    refused_keeps (bar_fault (g.M.Machine.model this.machine) (bars_of this) c.args.from c.args.to) _ _ _ _ c.in_err-step.ensures

pub invariant_of-self : goal.invariant_of-self
invariant_of-self g c =
    let this = c.args.self.now in
    let m = g.M.Machine.model this.machine in
    let law = g.met.M.Machine.lawful this.machine in
    let checked = accepted _ _ _ c.in_ok-step.ensures in
    let granted = sym checked.0 in
    let grown = c.push.ensures.items ∙ ap (λ p. bars_of this ++ (p ∷ [])) checked.1 in
    let state = (bar_granted m (bars_of this) c.args.from c.args.to granted).0 in
    let marks = this.marks in
    let few = law.few_states in
    record {
      marks = length-set this.touched c.args.from true ∙ marks;
      marked = subst (Marked (set this.touched c.args.from true)) (sym grown)
          (marked_push this.touched (bars_of this) this.marked (step_of c.args.from c.args.to) (omega arith));
      sound = sound_push law (bars_of this) c.args.from c.args.to granted c.push.new.self.items grown this.sound;
    }
