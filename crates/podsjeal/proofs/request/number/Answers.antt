use Rattle.std.proofs.Common.{rules, tests, ◌≡◌, true, MatchOption, ℕ, Option, sym, subst, ◌∙◌}
use Rattle.std.specs.Char.{is_ascii_digit}
use Rattle.std.specs.Str.{all_ascii_digits}
use Rattle.std.proofs.lemmas.Bool.{false≢true}
use Rattle.std.proofs.lemmas.Iterator.Adapters.{YieldsList-from_bytes}
use Rattle.std.proofs.lemmas.Iterator.Search.{all_from_yields_List}
use Rattle.podsjeal.specs.Requests.{IsDecimal}
use Rattle.podsjeal.proofs.Words.{all_digits, decimal_parsed}
use Rattle.podsjeal.proofs.request.number.Goals as goal

pub returns-then-all : goal.returns-then-all
returns-then-all c =
    let bs = c.args.word.now in
    let tested = all_from_yields_List is_ascii_digit _ _ c.all.result c.all.ensures.ran (YieldsList-from_bytes bs c.bytes.ensures.rest) (λ x b q k. search (rules, tests)) in
    let digits : all_ascii_digits bs ≡ true = sym (all_digits bs) ∙ sym tested ∙ c.if-all.true in
    subst (λ (o : Option ℕ). MatchOption o ((n : ℕ) → IsDecimal bs n → ⊥) (IsDecimal bs)) (sym c.ok.ensures.value) (decimal_parsed bs c.parse.result c.parse.ensures.value.0 digits)

pub returns-else-all : goal.returns-else-all
returns-else-all c =
    let bs = c.args.word.now in
    let tested = all_from_yields_List is_ascii_digit _ _ c.all.result c.all.ensures.ran (YieldsList-from_bytes bs c.bytes.ensures.rest) (λ x b q k. search (rules, tests)) in
    λ n d. absurd (false≢true (sym c.if-all.false ∙ tested ∙ all_digits bs ∙ d.only))
