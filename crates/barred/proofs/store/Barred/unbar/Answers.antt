use Rattle.std.proofs.Common.{◌<◌, set, sym, ap, ◌∙◌, subst, arith, eqb}
use Rattle.std.specs.List.{list_any}
use Rattle.std.proofs.lemmas.List.{length-set}
use Rattle.fault.proofs.Refusals.{accepted}
use Rattle.barred.specs.declared.steps.Step.{Step}
use Rattle.barred.specs.Bars.{Bars, Marked, without}
use Rattle.barred.specs.Barring.{bars_of}
use Rattle.barred.proofs.Kept.{unbar_granted, sound_without}
use Rattle.barred.proofs.Listed.{marked_without, none_left}
use Rattle.barred.proofs.store.Barred.unbar.Goals as goal

pub invariant_of-self : goal.invariant_of-self
invariant_of-self g c =
    let this = c.args.self.now in
    let m = g.M.Machine.model this.machine in
    let law = g.met.M.Machine.lawful this.machine in
    let from = c.args.from in
    let few = law.few_states in
    let marks = this.marks in
    let to = c.args.to in
    let checked = accepted _ _ _ c.in_ok-step.ensures in
    let state : from < m.states = unbar_granted m (bars_of this) from to (sym checked.0) in
    let rest = c.remove.ensures ∙ ap (λ (p : Step). without (bars_of this) p.from p.to) checked.1 in
    let left = c.is_left.ensures ∙ ap (λ (bars : Bars). list_any (λ p. eqb p.from from) bars) (c.deref.ensures.0 ∙ rest) in
    record {
      marks = length-set this.touched from c.is_left.result ∙ marks;
      marked = subst (Marked (set this.touched from c.is_left.result)) (sym rest)
          (marked_without this.touched (bars_of this) this.marked from to c.is_left.result (omega arith) (λ none u. none_left _ from u (sym left ∙ none)));
      sound = sound_without law (bars_of this) from to c.remove.new.bars.items rest this.sound;
    }
