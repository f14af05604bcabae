use Rattle.std.proofs.Common.{◌≡◌, List, length, ℕ, Bool, cond, Option, Some, Ok, Result, MatchResult, sym, ap, ◌∙◌, subst, arith}
use Rattle.fault.specs.declared.Fault.{Fault}
use Rattle.fault.specs.declared.Reason.TheVariants.{UnknownName}
use Rattle.fault.specs.Refusals.{at}
use Rattle.rule.specs.declared.part.Part.{Part}
use Rattle.grammar.specs.Words.{text_of}
use Rattle.grammar.specs.Judging.{start, judge, name_first}
use Rattle.rule.specs.Parsing.{ReadWhole}
use Rattle.rule.proofs.Growing.{some_part}
use Rattle.rule.proofs.Wholes.{past_error, taken, wrong_text, wrong_name, wrong_both}
use Rattle.rule.proofs.reading.read.Goals.{then-comes_first, else-comes_first}
use Rattle.rule.proofs.reading.read.Goals as goal

-- the parts of a rule that was read, by the text that its draft was made of
past_ok : {text bytes : List ℕ} {parts : List Part} {u : Unit {0}} {r : Result (Unit {0}) Fault} → text ≡ bytes → r ≡ Ok u →
    MatchResult r (λ _. ReadWhole text parts) (λ f. judge start (text_of text) ≡ Some f) → ReadWhole bytes parts
past_ok {text} {bytes} {parts} same is read =
    subst (λ t. ReadWhole t parts) same (subst (λ s. MatchResult s (λ _. ReadWhole text parts) (λ f. judge start (text_of text) ≡ Some f)) is read)

pub invariant_of-result : goal.invariant_of-result
invariant_of-result g c =
    let kept = past_error _ _ _ c.try_from.result c.try_from.ensures c.in_ok-kept.ensures.cases in
    let r = past_ok c.new-draft.ensures.text c.in-Ok-None.is-0 c.parse.ensures in
    record { short = omega (arith, ap length kept.0, kept.1); few = omega (arith, r.count, r.few); some = omega (arith, r.count, some_part r.formula); sound = rw kept.0 (∣ (r.formula, r.stands) ∣₁) }

pub returns-in-Ok-None : goal.returns-in-Ok-None
returns-in-Ok-None g c =
    let kept = past_error _ _ _ c.try_from.result c.try_from.ensures c.in_ok-kept.ensures.cases in
    let r = past_ok c.new-draft.ensures.text c.in-Ok-None.is-0 c.parse.ensures in
    taken _ c.args.text.now (omega (arith, kept.1)) _ kept.0 r (sym c.in-Ok-None.ensures)

pub returns-in-Ok-Some : goal.returns-in-Ok-Some
returns-in-Ok-Some g c =
    let kept = past_error _ _ _ c.try_from.result c.try_from.ensures c.in_ok-kept.ensures.cases in
    let r = past_ok c.new-draft.ensures.text c.in-Ok-Some.is-0 c.parse.ensures in
    rw c.at.ensures (wrong_name _ c.args.text.now (omega (arith, kept.1)) _ r c.in-Ok-Some.place (sym c.in-Ok-Some.ensures))

pub returns-in-Err-None : goal.returns-in-Err-None
returns-in-Err-None g c =
    let kept = past_error _ _ _ c.try_from.result c.try_from.ensures c.in_ok-kept.ensures.cases in
    let judged = subst (λ t. judge start (text_of t) ≡ Some c.in-Err-None.fault) c.new-draft.ensures.text c.in-Err-None.ensures in
    wrong_text _ c.args.text.now (omega (arith, kept.1)) c.in-Err-None.fault judged (sym c.in-Err-None.ensures')

pub returns-after-comes_first : goal.returns-after-comes_first
returns-after-comes_first g c =
    let kept = past_error _ _ _ c.try_from.result c.try_from.ensures c.in_ok-kept.ensures.cases in
    let f = c.in-Err-Some.fault in
    let p = c.in-Err-Some.place in
    let judged = subst (λ t. judge start (text_of t) ≡ Some f) c.new-draft.ensures.text c.in-Err-Some.ensures in
    let first : Bool → Option Fault = λ b. cond b (Some (at UnknownName p)) (Some f) in
    let both = λ (r : Fault) (is : first (name_first p f) ≡ Some r). wrong_both _ c.args.text.now (omega (arith, kept.1)) f p r judged (sym c.in-Err-Some.ensures') is in
    elim c.if-comes_first.branch [
      | then-comes_first w ↦ rw (w.result-is, w.at-then-comes_first.ensures) (both (at UnknownName p) (ap first (sym c.comes_first.ensures ∙ w.if-comes_first.true)))
      | else-comes_first w ↦ rw w.result-is (both f (ap first (sym c.comes_first.ensures ∙ w.if-comes_first.false)))
    ]
