-- The lines of a file: how many, what they hold, and what they are when written again.
use Rattle.std.proofs.Common.{◌≡◌, ℕ, suc, ◌≤◌, Bool, true, false, cond, eqb, List, [], ◌∷◌, length, refl, ap, ◌∙◌, arith}
use Rattle.std.proofs.lemmas.Bool.{eqb-true, eqb-false}
use Rattle.std.proofs.lemmas.List.Elements.{All-nil, All-cons, All-head, All-tail}
use Rattle.std.specs.List.{All}
use Rattle.report.specs.Lines.{on_first, lines_of, written, closed, AreLinesOf}

-- no more lines than bytes
one_more : (f : Bool) (b : ℕ) (lines : List (List ℕ)) → length (cond f ([] ∷ lines) (on_first b lines)) ≤ suc (length lines)
one_more true b lines = omega arith
one_more false b [] = omega arith
one_more false b (line ∷ more) = omega arith

pub few_lines : (bs : List ℕ) → length (lines_of bs) ≤ length bs
few_lines [] = omega arith
few_lines (b ∷ bs) = omega (arith, one_more (eqb b 10) b (lines_of bs), few_lines bs)

-- no line feed stands in a line
abbrev NoFeed : ℕ → Type 0
NoFeed b = b ≡ 10 → ⊥

unbroken_more : (f : Bool) (b : ℕ) (lines : List (List ℕ)) → eqb b 10 ≡ f → All (All NoFeed) lines → All (All NoFeed) (cond f ([] ∷ lines) (on_first b lines))
unbroken_more true b lines e all = All-cons (All NoFeed) [] lines (All-nil NoFeed) all
unbroken_more false b [] e all = All-cons (All NoFeed) (b ∷ []) [] (All-cons NoFeed b [] (eqb-false b 10 e) (All-nil NoFeed)) all
unbroken_more false b (line ∷ more) e all =
    All-cons (All NoFeed) (b ∷ line) more (All-cons NoFeed b line (eqb-false b 10 e) (All-head (All NoFeed) line more all)) (All-tail (All NoFeed) line more all)

unbroken : (bs : List ℕ) → All (All NoFeed) (lines_of bs)
unbroken [] = All-nil (All NoFeed)
unbroken (b ∷ bs) = unbroken_more (eqb b 10) b (lines_of bs) refl (unbroken bs)

-- with a byte more in front, where lines follow
written_more : (f : Bool) (b : ℕ) (line : List ℕ) (more : List (List ℕ)) → eqb b 10 ≡ f → written (cond f ([] ∷ line ∷ more) (on_first b (line ∷ more))) ≡ b ∷ written (line ∷ more)
written_more true b line more e = ap (λ x. x ∷ written (line ∷ more)) (omega (arith, eqb-true b 10 e))
written_more false b line more e = refl

-- where none follow
written_last : (f : Bool) (b : ℕ) → written (cond f ([] ∷ []) (on_first b [])) ≡ cond f (10 ∷ []) (b ∷ 10 ∷ [])
written_last true b = refl
written_last false b = refl

rewritten : (bs : List ℕ) → written (lines_of bs) ≡ closed bs
rewritten [] = refl
rewritten (b ∷ []) = written_last (eqb b 10) b
rewritten (b ∷ c ∷ bs) = written_two (eqb c 10) (lines_of bs) ∙ ap (λ r. b ∷ r) (rewritten (c ∷ bs))
  where
    written_two : (f : Bool) (lines : List (List ℕ)) → written (cond (eqb b 10) ([] ∷ cond f ([] ∷ lines) (on_first c lines)) (on_first b (cond f ([] ∷ lines) (on_first c lines)))) ≡ b ∷ written (cond f ([] ∷ lines) (on_first c lines))
    written_two true lines = written_more (eqb b 10) b [] lines refl
    written_two false [] = written_more (eqb b 10) b (c ∷ []) [] refl
    written_two false (line ∷ more) = written_more (eqb b 10) b (c ∷ line) more refl

pub are_lines : (bs : List ℕ) → AreLinesOf bs (lines_of bs)
are_lines bs = record { unbroken = unbroken bs; same = rewritten bs }
