use Rattle.std.proofs.Common.{◌≡◌, ℕ, suc, cond, List, length, refl, ap, ◌∙◌, arith, rules, tests}
use Rattle.std.specs.List.{prefix_len, take_while}
use Rattle.std.proofs.lemmas.Iterator.{YieldsList-from_slice}
use Rattle.std.proofs.lemmas.Iterator.Consumers.{count_from_yields_List}
use Rattle.std.proofs.lemmas.Iterator.Search.{YieldsList-from_take_while}
use Rattle.std.proofs.lemmas.List.Folds.{length-prefix_len}
use Rattle.std.proofs.lemmas.List.Recursion.{same_from_clauses}
use Rattle.machine.specs.Names.{continues}
use Rattle.grammar.specs.Words.{run}
use Rattle.word.proofs.word_length.Goals as goal

run_counts : (l : List ℕ) → length (take_while continues l) ≡ run l
run_counts l =
    length-prefix_len continues l
    ∙ same_from_clauses (prefix_len continues) run (λ b n. cond (continues b) (suc n) 0) refl (λ b bs. ap (λ n. cond (continues b) n 0) (omega arith)) (λ b bs. refl) l

pub returns-clause-is : goal.returns-clause-is
returns-clause-is c =
    let text = c.args.text.now in
    count_from_yields_List c.take_while.result c.count.result c.count.ensures.ran (YieldsList-from_take_while _ continues (YieldsList-from_slice text cc) c.take_while.ensures.closure c.take_while.ensures.done (λ x b q k. search (rules, tests)))
    ∙ run_counts text
