use Rattle.std.proofs.Common.{◌≡◌, ◌+◌, length, sym, ◌∙◌, subst, arith}
use Rattle.std.proofs.lemmas.List.{set-get_or}
use Rattle.std.proofs.lemmas.Bool.{true≢false}
use Rattle.automaton.specs.Sets.{Linked}
use Rattle.automaton.proofs.Links.{link_none, link_row, link_skip}
use Rattle.automaton.proofs.set.link.Goals.{then-has, else-has}
use Rattle.automaton.proofs.set.link.Goals as goal

pub loop-p-init : goal.loop-p-init
loop-p-init c = link_none c.args.rows.now c.args.from c.args.to

pub loop-p-preserved : goal.loop-p-preserved
loop-p-preserved c =
    let old = c.args.rows.now in
    let rows = c.loop-p.rows in
    let p = c.loop-p.p in
    let from = c.args.from in
    let to = c.args.to in
    elim c.if-has.branch [
      | then-has w ↦
          subst (λ t. Linked t old (p + 1) from to) (sym w.rows-is)
          (link_row rows old p from to w.union.result (omega arith) (c.has.ensures.0 w.if-has.true) w.union.ensures c.loop-p.invariant)
      | else-has w ↦
          subst (λ t. Linked t old (p + 1) from to) (sym (w.rows-is ∙ set-get_or rows p 0))
          (link_skip rows old p from to (λ b. true≢false (sym (c.has.ensures.1 b) ∙ w.if-has.false)) c.loop-p.invariant)
    ]

pub returns : goal.returns
returns c =
    let all : c.loop-p.p ≡ length c.args.rows.now = omega arith in
    subst (λ n. Linked c.loop-p.rows c.args.rows.now n c.args.from c.args.to) all c.loop-p.invariant
