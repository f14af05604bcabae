use Rattle.std.proofs.Common.{◌≡◌, ◌-◌, ◌≤◌, [], ◌∷◌, length, refl, ap, ◌∙◌, subst, arith}
use Rattle.std.proofs.lemmas.Result.{err_from_is_err_and, MatchResult-weaker}
use borrow.Author.Tests.{true-leb, false-leb}
use Rattle.fault.specs.declared.Reason.TheVariants.{TooManyLetters}
use Rattle.fault.specs.Refusals.{at}
use Rattle.grammar.specs.declared.Sign.TheVariants.{Open, Close, OpenSquare, CloseSquare, OpenCurly, Star}
use Rattle.grammar.specs.declared.Key.TheVariants.{Not, Path, Cycle}
use Rattle.grammar.specs.Words.{sign, key}
use Rattle.grammar.specs.Grammar.{Unary, Base}
use Rattle.grammar.specs.Judging.{unary, reg, base, expect, phrase, unary_at}
use Rattle.automaton.specs.Built.{Added}
use Rattle.rule.specs.Bindings.{key_of}
use Rattle.rule.specs.Drafts.{count_of, Passed, Pushed}
use Rattle.rule.specs.Parsing.{Lacks, Other, ReadFormula, Fails, ReadRegular, FailsRegular}
use Rattle.rule.proofs.Ahead.{passed_counted}
use Rattle.rule.proofs.Growing.{pushed_count, some_part, next_shorter, further_shorter, behind_shorter}
use Rattle.rule.proofs.Chains.{joined, unjoined, by_binding, chain_fails, chain_one, chain_full, chain_fails_later, chain_more, chain_ends}
use Rattle.rule.proofs.Expressions.{by_binding as joins_by, joining_fails, joining_one, joining_fails_later, joining_more, joining_ends, starred_fails, starred_one, starred_more, starred_ends}
use Rattle.rule.proofs.Letters.{base_misplaced, leaf_full, leaf_over, leaf_letter, curly_over, curly_fails, curly_unclosed, curly_letter, group_fails, group_unclosed, group_read, bracketed_fails, bracketed_unclosed, bracketed_read}
use Rattle.rule.proofs.Operands.{opens_as, opens_here, leaf_here, behind_word, single, unary_misplaced, unary_full, unary_leaf, round_fails, round_unclosed, round_read, negation_fails, negation_read, path_unopened, path_fails, path_read, cycle_fails, cycle_read}
use Rattle.rule.proofs.store.Draft.+descent.Goals as goal

pub formula-returns-in_err-operand : goal.formula-returns-in_err-operand
formula-returns-in_err-operand t c =
    let p = err_from_is_err_and c.from_residual.result c.from_residual.ensures.1 in
    rw (p.1, p.2) (chain_fails (by_binding c.args.binding) c.args.self.now _ c.in_err-operand.ensures)

pub formula-loop-self-init : goal.formula-loop-self-init
formula-loop-self-init t c =
    chain_one (by_binding c.args.binding) c.in_ok-operand.ensures

pub formula-returns-in_err-past_joint : goal.formula-returns-in_err-past_joint
formula-returns-in_err-past_joint t c =
    let j = c.in_err-past_joint.ensures in
    let p = err_from_is_err_and c.from_residual-in_err-past_joint.result c.from_residual-in_err-past_joint.ensures.1 in
    rw (p.1, p.2) (chain_full (by_binding c.args.binding) c.loop-self.invariant j.0 _ j.1 j.2 j.3)

pub formula-top-left-requires : goal.formula-top-left-requires
formula-top-left-requires t c =
    let w = joined (key_of c.args.binding) c.loop-self.self c.past_joint.new.self c.in_ok-past_joint.field-0 c.in_ok-past_joint.ensures c.if-branch.true in
    omega (arith, c.loop-self.invariant.count, some_part c.loop-self.invariant.formula, ap length w.parts)

pub formula-operand-requires-in-loop-self : goal.formula-operand-requires-in-loop-self
formula-operand-requires-in-loop-self t c =
    let w = joined (key_of c.args.binding) c.loop-self.self c.past_joint.new.self c.in_ok-past_joint.field-0 c.in_ok-past_joint.ensures c.if-branch.true in
    let s = behind_shorter c.loop-self.invariant.between w in omega (arith, s)

pub formula-returns-in_err-operand-2 : goal.formula-returns-in_err-operand-2
formula-returns-in_err-operand-2 t c =
    let w = joined (key_of c.args.binding) c.loop-self.self c.past_joint.new.self c.in_ok-past_joint.field-0 c.in_ok-past_joint.ensures c.if-branch.true in
    let p = err_from_is_err_and c.from_residual-in_err-operand-2.result c.from_residual-in_err-operand-2.ensures.1 in
    rw (p.1, p.2) (chain_fails_later (by_binding c.args.binding) c.loop-self.invariant w _ c.in_err-operand-2.ensures)

pub formula-loop-self-smaller : goal.formula-loop-self-smaller
formula-loop-self-smaller t c =
    let w = joined (key_of c.args.binding) c.loop-self.self c.past_joint.new.self c.in_ok-past_joint.field-0 c.in_ok-past_joint.ensures c.if-branch.true in
    let y = c.in_ok-operand-2.ensures in
    omega (arith, further_shorter w y.between, ap length c.push.ensures.rest)

pub formula-loop-self-preserved : goal.formula-loop-self-preserved
formula-loop-self-preserved t c =
    let w = joined (key_of c.args.binding) c.loop-self.self c.past_joint.new.self c.in_ok-past_joint.field-0 c.in_ok-past_joint.ensures c.if-branch.true in
    chain_more (by_binding c.args.binding) c.loop-self.invariant w c.top-left.result c.top-right.result c.in_ok-operand-2.ensures c.top-left.ensures c.top-right.ensures (subst (λ p. Pushed p c.operand-in-loop-self.new.self c.push.new.self) c.joint.ensures c.push.ensures)

pub formula-returns : goal.formula-returns
formula-returns t c =
    chain_ends (by_binding c.args.binding) c.loop-self.invariant c.past_joint.new.self (unjoined (key_of c.args.binding) c.loop-self.self c.past_joint.new.self c.in_ok-past_joint.field-0 c.in_ok-past_joint.ensures c.if-branch.false)

pub expression-returns-in_err-piece : goal.expression-returns-in_err-piece
expression-returns-in_err-piece t c =
    let p = err_from_is_err_and c.from_residual.result c.from_residual.ensures.1 in
    rw (p.1, p.2) (joining_fails (joins_by c.args.binding) c.args.self.now c.args.letters.now _ c.in_err-piece.ensures)

pub expression-loop-binding-init : goal.expression-loop-binding-init
expression-loop-binding-init t c =
    joining_one (joins_by c.args.binding) c.in_ok-piece.ensures

pub expression-factor-requires-in-loop-binding : goal.expression-factor-requires-in-loop-binding
expression-factor-requires-in-loop-binding t c =
    let w = subst (λ s. Passed (sign s) 0 c.loop-binding.self c.take_sign.new.self) c.sign.ensures c.loop-binding-test.ensures in
    let s = behind_shorter c.loop-binding.invariant.between w in omega (arith, s)

pub expression-returns-in_err-more : goal.expression-returns-in_err-more
expression-returns-in_err-more t c =
    let w = subst (λ s. Passed (sign s) 0 c.loop-binding.self c.take_sign.new.self) c.sign.ensures c.loop-binding-test.ensures in
    let p = err_from_is_err_and c.from_residual-in_err-more.result c.from_residual-in_err-more.ensures.1 in
    rw (p.1, p.2) (joining_fails_later (joins_by c.args.binding) c.loop-binding.invariant w _ c.in_err-more.ensures)

pub expression-loop-binding-smaller : goal.expression-loop-binding-smaller
expression-loop-binding-smaller t c =
    let w = subst (λ s. Passed (sign s) 0 c.loop-binding.self c.take_sign.new.self) c.sign.ensures c.loop-binding-test.ensures in
    let y = c.in_ok-more.ensures in
    further_shorter w y.between

pub expression-loop-binding-preserved : goal.expression-loop-binding-preserved
expression-loop-binding-preserved t c =
    let w = subst (λ s. Passed (sign s) 0 c.loop-binding.self c.take_sign.new.self) c.sign.ensures c.loop-binding-test.ensures in
    joining_more (joins_by c.args.binding) c.loop-binding.invariant w c.in_ok-more.ensures
    c.merge-piece.ensures

pub expression-returns : goal.expression-returns
expression-returns t c =
    joining_ends (joins_by c.args.binding) c.loop-binding.invariant c.take_sign.new.self (subst (λ s. Other (sign s) c.loop-binding.self × (c.take_sign.new.self ≡ c.loop-binding.self)) c.sign.ensures c.loop-binding-test.ensures)

pub starred-returns-in_err-piece : goal.starred-returns-in_err-piece
starred-returns-in_err-piece t c =
    let p = err_from_is_err_and c.from_residual.result c.from_residual.ensures.1 in
    rw (p.1, p.2) (starred_fails c.args.self.now c.args.letters.now _ c.in_err-piece.ensures)

pub starred-loop-letters-init : goal.starred-loop-letters-init
starred-loop-letters-init t c =
    starred_one c.in_ok-piece.ensures

pub starred-loop-letters-smaller : goal.starred-loop-letters-smaller
starred-loop-letters-smaller t c =
    let w : Passed (sign Star) 0 c.loop-letters.self c.take_sign.new.self = c.loop-letters-test.ensures in
    next_shorter w

pub starred-loop-letters-preserved : goal.starred-loop-letters-preserved
starred-loop-letters-preserved t c =
    starred_more c.loop-letters.invariant c.loop-letters-test.ensures c.repeated-piece.ensures.built c.repeated-piece.ensures.kept

pub starred-returns : goal.starred-returns
starred-returns t c =
    starred_ends c.loop-letters.invariant c.take_sign.new.self c.loop-letters-test.ensures

pub base-returns-in_err-count_part-in-Leaf : goal.base-returns-in_err-count_part-in-Leaf
base-returns-in_err-count_part-in-Leaf t c =
    let o = opens_as c.in_ok-opening.ensures c.in-Leaf.is in
    let x = c.in_err-count_part-in-Leaf.ensures in
    let p = err_from_is_err_and c.from_residual-in_err-count_part-in-Leaf.result c.from_residual-in_err-count_part-in-Leaf.ensures.1 in
    rw (p.1, p.2) (leaf_full o c.args.letters.now x.0 _ x.1)

pub base-returns-then-is_full : goal.base-returns-then-is_full
base-returns-then-is_full t c =
    let o = opens_as c.in_ok-opening.ensures c.in-Curly.is in
    curly_over o c.args.letters.now (true-leb 31 c.args.letters.now.count c.if-is_full.ensures) _ (c.at.ensures ∙ ap (at TooManyLetters) (omega arith))

pub base-formula-requires : goal.base-formula-requires
base-formula-requires t c =
    let o = opens_as c.in_ok-opening.ensures c.in-Curly.is in
    omega (arith, next_shorter o.passed)

pub base-returns-in_err-formula-in-Curly : goal.base-returns-in_err-formula-in-Curly
base-returns-in_err-formula-in-Curly t c =
    let o = opens_as c.in_ok-opening.ensures c.in-Curly.is in
    let w = behind_word o (sign OpenCurly) (opens_here o) in
    let p = err_from_is_err_and c.from_residual-in_err-formula-in-Curly.result c.from_residual-in_err-formula-in-Curly.ensures.1 in
    rw (p.1, p.2) (curly_fails c.args.letters.now w (false-leb 31 c.args.letters.now.count c.if-is_full.ensures) _ c.in_err-formula-in-Curly.ensures)

pub base-returns-in_err-expect-in-Curly : goal.base-returns-in_err-expect-in-Curly
base-returns-in_err-expect-in-Curly t c =
    let o = opens_as c.in_ok-opening.ensures c.in-Curly.is in
    let w = behind_word o (sign OpenCurly) (opens_here o) in
    let p = err_from_is_err_and c.from_residual-in_err-expect-in-Curly.result c.from_residual-in_err-expect-in-Curly.ensures.1 in
    rw (p.1, p.2) (curly_unclosed c.args.letters.now w (false-leb 31 c.args.letters.now.count c.if-is_full.ensures) c.in_ok-formula-in-Curly.ensures _ c.in_err-expect-in-Curly.ensures)

pub base-letter-requires-in-Curly : goal.base-letter-requires-in-Curly
base-letter-requires-in-Curly t c =
    let r = c.in_ok-formula-in-Curly.ensures in
    let x = c.in_ok-expect-in-Curly.ensures in
    omega (arith, r.count, ap length x.parts, some_part r.formula)

pub base-expression-requires : goal.base-expression-requires
base-expression-requires t c =
    let o = opens_as c.in_ok-opening.ensures c.in-Round.is in
    omega (arith, next_shorter o.passed)

pub base-returns-in_err-piece-in-Round : goal.base-returns-in_err-piece-in-Round
base-returns-in_err-piece-in-Round t c =
    let o = opens_as c.in_ok-opening.ensures c.in-Round.is in
    let w = behind_word o (sign Open) (opens_here o) in
    let p = err_from_is_err_and c.from_residual-in_err-piece-in-Round.result c.from_residual-in_err-piece-in-Round.ensures.1 in
    rw (p.1, p.2) (group_fails c.args.letters.now w _ c.in_err-piece-in-Round.ensures)

pub base-returns-in_err-expect-in-Round : goal.base-returns-in_err-expect-in-Round
base-returns-in_err-expect-in-Round t c =
    let o = opens_as c.in_ok-opening.ensures c.in-Round.is in
    let w = behind_word o (sign Open) (opens_here o) in
    let p = err_from_is_err_and c.from_residual-in_err-expect-in-Round.result c.from_residual-in_err-expect-in-Round.ensures.1 in
    rw (p.1, p.2) (group_unclosed c.args.letters.now w c.in_ok-piece-in-Round.ensures _ c.in_err-expect-in-Round.ensures)

pub base-returns-in_ok-count_part-in-Leaf : goal.base-returns-in_ok-count_part-in-Leaf
base-returns-in_ok-count_part-in-Leaf t c =
    let o = opens_as c.in_ok-opening.ensures c.in-Leaf.is in
    let x = c.in_ok-count_part-in-Leaf.ensures in
    let y = c.push_simple.ensures in
    let b = c.count_part.new.self in
    let e = c.push_simple.new.self in
    let a = c.args.letters.now in
    let u = c.letter.new.letters in
    MatchResult-weaker c.letter.result {P = Added (count_of e - 1) a u} {P' = ReadRegular Base [] c.args.self.now e a u} {Q = λ f. (31 ≤ a.count) × (f ≡ at TooManyLetters c.in_ok-opening.place)} {Q' = FailsRegular base c.args.self.now a} c.letter.ensures
    (λ q z. leaf_letter o a x y (count_of e - 1) (omega (arith, pushed_count y)) z)
    (λ f z. leaf_over o a x y z.0 f z.1)

pub base-returns-in_ok-expect-in-Curly : goal.base-returns-in_ok-expect-in-Curly
base-returns-in_ok-expect-in-Curly t c =
    let o = opens_as c.in_ok-opening.ensures c.in-Curly.is in
    let w = behind_word o (sign OpenCurly) (opens_here o) in
    let r = c.in_ok-formula-in-Curly.ensures in
    let x = c.in_ok-expect-in-Curly.ensures in
    let e = c.expect.new.self in
    let a = c.args.letters.now in
    let u = c.letter-in-Curly.new.letters in
    MatchResult-weaker c.letter-in-Curly.result {P = Added (count_of e - 1) a u} {P' = ReadRegular Base [] c.args.self.now e a u} {Q = λ f. (31 ≤ a.count) × (f ≡ at TooManyLetters c.in_ok-opening.place)} {Q' = FailsRegular base c.args.self.now a} c.letter-in-Curly.ensures
    (λ q z. curly_letter a w (false-leb 31 c.args.letters.now.count c.if-is_full.ensures) r (count_of e - 1) x (omega (arith, r.count, ap length x.parts, some_part r.formula)) z)
    (λ f z. absurd (omega (arith, z.0, false-leb 31 c.args.letters.now.count c.if-is_full.ensures)))

pub base-returns-in_ok-expect-in-Round : goal.base-returns-in_ok-expect-in-Round
base-returns-in_ok-expect-in-Round t c =
    let o = opens_as c.in_ok-opening.ensures c.in-Round.is in
    let w = behind_word o (sign Open) (opens_here o) in
    group_read c.args.letters.now w c.in_ok-piece-in-Round.ensures c.in_ok-expect-in-Round.ensures

pub base-returns-in-Negation : goal.base-returns-in-Negation
base-returns-in-Negation t c = base_misplaced c.in_ok-opening.opening c.args.letters.now c.in_ok-opening.ensures c.in-Negation.is _ c.at-in-Negation.ensures

pub bracketed-expression-requires : goal.bracketed-expression-requires
bracketed-expression-requires t c =
    omega (arith, next_shorter c.in_ok-expect.ensures)

pub bracketed-returns-in_err-whole : goal.bracketed-returns-in_err-whole
bracketed-returns-in_err-whole t c =
    let p = err_from_is_err_and c.from_residual-in_err-whole.result c.from_residual-in_err-whole.ensures.1 in
    rw (p.1, p.2) (bracketed_fails c.new-letters.result c.new-letters.ensures c.in_ok-expect.ensures _ c.in_err-whole.ensures)

pub bracketed-returns-in_err-expect-2 : goal.bracketed-returns-in_err-expect-2
bracketed-returns-in_err-expect-2 t c =
    let p = err_from_is_err_and c.from_residual-in_err-expect-2.result c.from_residual-in_err-expect-2.ensures.1 in
    rw (p.1, p.2) (bracketed_unclosed c.new-letters.result c.new-letters.ensures c.in_ok-expect.ensures c.in_ok-whole.ensures _ c.in_err-expect-2.ensures)

pub bracketed-returns : goal.bracketed-returns
bracketed-returns t c =
    let x = c.in_ok-whole.ensures in
    bracketed_read c.new-letters.result c.new-letters.ensures c.in_ok-expect.ensures c.in_ok-whole.ensures c.in_ok-expect-2.ensures c.new.result c.new.ensures.letters (c.new.ensures.made x.regular)

pub unary-returns-in_err-count_part-in-Leaf : goal.unary-returns-in_err-count_part-in-Leaf
unary-returns-in_err-count_part-in-Leaf t c =
    let o = opens_as c.in_ok-opening.ensures c.in-Leaf.is in
    let l = leaf_here o in
    let s = single l.atom in
    let x = c.in_err-count_part-in-Leaf.ensures in
    let p = err_from_is_err_and c.from_residual-in_err-count_part-in-Leaf.result c.from_residual-in_err-count_part-in-Leaf.ensures.1 in
    rw (p.1, p.2) (unary_full o o.word [] refl s.unary_ends s.part x.0 _ x.1)

pub unary-returns-in_err-count_part-in-Negation : goal.unary-returns-in_err-count_part-in-Negation
unary-returns-in_err-count_part-in-Negation t c =
    let o = opens_as c.in_ok-opening.ensures c.in-Negation.is in
    let x = c.in_err-count_part-in-Negation.ensures in
    let p = err_from_is_err_and c.from_residual-in_err-count_part-in-Negation.result c.from_residual-in_err-count_part-in-Negation.ensures.1 in
    rw (p.1, p.2) (unary_full o (key Not) (phrase unary ∷ []) (opens_here o) refl refl x.0 _ x.1)

pub unary-returns-in_err-count_part-in-Path : goal.unary-returns-in_err-count_part-in-Path
unary-returns-in_err-count_part-in-Path t c =
    let o = opens_as c.in_ok-opening.ensures c.in-Path.is in
    let x = c.in_err-count_part-in-Path.ensures in
    let p = err_from_is_err_and c.from_residual-in_err-count_part-in-Path.result c.from_residual-in_err-count_part-in-Path.ensures.1 in
    rw (p.1, p.2) (unary_full o (key (Path c.in-Path.quantifier)) (expect OpenSquare ∷ phrase reg ∷ expect CloseSquare ∷ phrase unary ∷ []) (opens_here o) refl refl x.0 _ x.1)

pub unary-returns-in_err-count_part-in-Cycle : goal.unary-returns-in_err-count_part-in-Cycle
unary-returns-in_err-count_part-in-Cycle t c =
    let o = opens_as c.in_ok-opening.ensures c.in-Cycle.is in
    let x = c.in_err-count_part-in-Cycle.ensures in
    let p = err_from_is_err_and c.from_residual-in_err-count_part-in-Cycle.result c.from_residual-in_err-count_part-in-Cycle.ensures.1 in
    rw (p.1, p.2) (unary_full o (key (Cycle c.in-Cycle.cycle)) (expect OpenSquare ∷ phrase reg ∷ expect CloseSquare ∷ []) (opens_here o) refl refl x.0 _ x.1)

pub unary-formula-requires : goal.unary-formula-requires
unary-formula-requires t c =
    let o = opens_as c.in_ok-opening.ensures c.in-Round.is in
    omega (arith, next_shorter o.passed)

pub unary-returns-in_err-formula-in-Round : goal.unary-returns-in_err-formula-in-Round
unary-returns-in_err-formula-in-Round t c =
    let o = opens_as c.in_ok-opening.ensures c.in-Round.is in
    let w = behind_word o (sign Open) (opens_here o) in
    let p = err_from_is_err_and c.from_residual-in_err-formula-in-Round.result c.from_residual-in_err-formula-in-Round.ensures.1 in
    rw (p.1, p.2) (round_fails w _ c.in_err-formula-in-Round.ensures)

pub unary-returns-in_ok-count_part-in-Leaf : goal.unary-returns-in_ok-count_part-in-Leaf
unary-returns-in_ok-count_part-in-Leaf t c =
    let o = opens_as c.in_ok-opening.ensures c.in-Leaf.is in
    unary_leaf o c.count_part.new.self c.push_simple.new.self c.in_ok-count_part-in-Leaf.ensures c.push_simple.ensures

pub unary-returns-in_ok-formula-in-Round : goal.unary-returns-in_ok-formula-in-Round
unary-returns-in_ok-formula-in-Round t c =
    let o = opens_as c.in_ok-opening.ensures c.in-Round.is in
    let w = behind_word o (sign Open) (opens_here o) in
    let r = c.in_ok-formula-in-Round.ensures in
    let e = c.formula.new.self in
    let h = c.expect.new.self in
    MatchResult-weaker c.expect.result {P = λ _. Passed (sign Close) 0 e h} {P' = λ _. ReadFormula Unary [] c.args.self.now h} {Q = Lacks Close e} {Q' = Fails unary c.args.self.now} c.expect.ensures
    (λ _. round_read w r) (round_unclosed w r)

pub unary-returns-in-Curly : goal.unary-returns-in-Curly
unary-returns-in-Curly t c =
    let o = opens_as c.in_ok-opening.ensures c.in-Curly.is in
    unary_misplaced o (ap unary_at (opens_here o)) _ c.at.ensures

pub unary-unary-requires : goal.unary-unary-requires
unary-unary-requires t c =
    let o = opens_as c.in_ok-opening.ensures c.in-Negation.is in
    omega (arith, next_shorter (passed_counted o.passed c.in_ok-count_part-in-Negation.ensures))

pub unary-returns-in_err-unary-in-Negation : goal.unary-returns-in_err-unary-in-Negation
unary-returns-in_err-unary-in-Negation t c =
    let o = opens_as c.in_ok-opening.ensures c.in-Negation.is in
    let p = err_from_is_err_and c.from_residual-in_err-unary-in-Negation.result c.from_residual-in_err-unary-in-Negation.ensures.1 in
    rw (p.1, p.2) (negation_fails o c.count_part-in-Negation.new.self c.in_ok-count_part-in-Negation.ensures _ c.in_err-unary-in-Negation.ensures)

pub unary-top-inner-requires : goal.unary-top-inner-requires
unary-top-inner-requires t c =
    let r = c.in_ok-unary-in-Negation.ensures in omega (arith, r.count, some_part r.formula)

pub unary-returns-in_ok-unary-in-Negation : goal.unary-returns-in_ok-unary-in-Negation
unary-returns-in_ok-unary-in-Negation t c =
    let o = opens_as c.in_ok-opening.ensures c.in-Negation.is in
    negation_read o c.count_part-in-Negation.new.self c.in_ok-count_part-in-Negation.ensures c.unary.new.self c.push.new.self c.top-inner.result c.in_ok-unary-in-Negation.ensures c.top-inner.ensures c.push.ensures

pub unary-bracketed-requires : goal.unary-bracketed-requires
unary-bracketed-requires t c =
    let o = opens_as c.in_ok-opening.ensures c.in-Path.is in
    omega (arith, next_shorter (passed_counted o.passed c.in_ok-count_part-in-Path.ensures))

pub unary-returns-in_err-automaton-in-Path : goal.unary-returns-in_err-automaton-in-Path
unary-returns-in_err-automaton-in-Path t c =
    let o = opens_as c.in_ok-opening.ensures c.in-Path.is in
    let p = err_from_is_err_and c.from_residual-in_err-automaton-in-Path.result c.from_residual-in_err-automaton-in-Path.ensures.1 in
    rw (p.1, p.2) (path_unopened c.in-Path.quantifier o c.count_part-in-Path.new.self c.in_ok-count_part-in-Path.ensures _ c.in_err-automaton-in-Path.ensures)

pub unary-unary-requires-in-Path : goal.unary-unary-requires-in-Path
unary-unary-requires-in-Path t c =
    let o = opens_as c.in_ok-opening.ensures c.in-Path.is in
    let w = passed_counted o.passed c.in_ok-count_part-in-Path.ensures in
    let r = c.in_ok-automaton-in-Path.ensures in
    omega (arith, further_shorter w r.between)

pub unary-returns-in_err-unary-in-Path : goal.unary-returns-in_err-unary-in-Path
unary-returns-in_err-unary-in-Path t c =
    let o = opens_as c.in_ok-opening.ensures c.in-Path.is in
    let p = err_from_is_err_and c.from_residual-in_err-unary-in-Path.result c.from_residual-in_err-unary-in-Path.ensures.1 in
    rw (p.1, p.2) (path_fails c.in-Path.quantifier o c.count_part-in-Path.new.self c.in_ok-count_part-in-Path.ensures c.bracketed.new.self c.in_ok-automaton-in-Path.automaton c.in_ok-automaton-in-Path.ensures _ c.in_err-unary-in-Path.ensures)

pub unary-top-goal-requires : goal.unary-top-goal-requires
unary-top-goal-requires t c =
    let r = c.in_ok-unary-in-Path.ensures in omega (arith, r.count, some_part r.formula)

pub unary-returns-in_ok-unary-in-Path : goal.unary-returns-in_ok-unary-in-Path
unary-returns-in_ok-unary-in-Path t c =
    let o = opens_as c.in_ok-opening.ensures c.in-Path.is in
    path_read c.in-Path.quantifier o c.count_part-in-Path.new.self c.in_ok-count_part-in-Path.ensures c.bracketed.new.self c.in_ok-automaton-in-Path.automaton c.in_ok-automaton-in-Path.ensures c.unary-in-Path.new.self c.push-in-Path.new.self c.top-goal.result c.in_ok-unary-in-Path.ensures c.top-goal.ensures c.push-in-Path.ensures

pub unary-bracketed-requires-in-Cycle : goal.unary-bracketed-requires-in-Cycle
unary-bracketed-requires-in-Cycle t c =
    let o = opens_as c.in_ok-opening.ensures c.in-Cycle.is in
    omega (arith, next_shorter (passed_counted o.passed c.in_ok-count_part-in-Cycle.ensures))

pub unary-returns-in_err-automaton-in-Cycle : goal.unary-returns-in_err-automaton-in-Cycle
unary-returns-in_err-automaton-in-Cycle t c =
    let o = opens_as c.in_ok-opening.ensures c.in-Cycle.is in
    let p = err_from_is_err_and c.from_residual-in_err-automaton-in-Cycle.result c.from_residual-in_err-automaton-in-Cycle.ensures.1 in
    rw (p.1, p.2) (cycle_fails c.in-Cycle.cycle o c.count_part-in-Cycle.new.self c.in_ok-count_part-in-Cycle.ensures _ c.in_err-automaton-in-Cycle.ensures)

pub unary-returns-in_ok-automaton-in-Cycle : goal.unary-returns-in_ok-automaton-in-Cycle
unary-returns-in_ok-automaton-in-Cycle t c =
    let o = opens_as c.in_ok-opening.ensures c.in-Cycle.is in
    cycle_read c.in-Cycle.cycle o c.count_part-in-Cycle.new.self c.in_ok-count_part-in-Cycle.ensures c.bracketed-in-Cycle.new.self c.push-in-Cycle.new.self c.in_ok-automaton-in-Cycle.automaton c.in_ok-automaton-in-Cycle.ensures c.push-in-Cycle.ensures
