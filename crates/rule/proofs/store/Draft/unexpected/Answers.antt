use Rattle.std.proofs.Common.{◌≡◌, ℕ, subst, sym, arith}
use Rattle.std.proofs.lemmas.Bool.{eqb-true, eqb-false}
use Rattle.fault.specs.declared.Reason.{Reason}
use Rattle.fault.specs.declared.Reason.TheVariants.{StrayByte, NotDerivable}
use Rattle.fault.specs.Refusals.{at}
use Rattle.rule.specs.declared.store.Draft.{Draft}
use Rattle.rule.specs.Drafts.{place_of}
use Rattle.rule.specs.Parsing.{Unexpected}
use Rattle.rule.proofs.Ahead.{wrong_word, text_over, stray}
use Rattle.rule.proofs.store.Draft.unexpected.Goals as goal

-- the fault at the place, whatever computes it
at_place : (d : Draft) (r : Reason) (p : ℕ) → place_of d ≡ p → Unexpected d (at r (place_of d)) → Unexpected d (at r p)
at_place d r p is = subst (λ q. Unexpected d (at r q)) is

pub returns-in-Some : goal.returns-in-Some
returns-in-Some c = rw c.at.ensures (at_place c.args.self.now NotDerivable _ (omega arith) (wrong_word c.args.self.now _ _ (sym c.in-Some.ensures)))

pub returns-in-None : goal.returns-in-None
returns-in-None c =
    rw c.at-in-None.ensures (at_place c.args.self.now NotDerivable _ (omega arith) (text_over c.args.self.now (sym c.in-None.ensures) (eqb-true _ 0 (sym c.if-is_over.ensures))))

pub returns-in-None-2 : goal.returns-in-None-2
returns-in-None-2 c =
    rw c.at-in-None-2.ensures (at_place c.args.self.now StrayByte _ (omega arith) (stray c.args.self.now (sym c.in-None.ensures) (eqb-false _ 0 (sym c.if-is_over.ensures))))
