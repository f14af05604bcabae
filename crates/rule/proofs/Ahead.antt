-- What stands ahead of a draft, and how the judge goes on over it.
use Rattle.std.proofs.Common.{◌≡◌, ℕ, ◌+◌, ◌-◌, Bool, true, false, cond, List, [], ◌∷◌, ◌++◌, length, drop, Some, None, sym, refl, ap, ◌∙◌, subst, append_assoc, arith, length-drop, lt-ltb}
use Rattle.fault.specs.declared.Reason.TheVariants.{StrayByte, NotDerivable}
use Rattle.fault.specs.Refusals.{at}
use Rattle.logic.specs.Formulas.{Formula, Regular, size}
use Rattle.automaton.specs.declared.Piece.{Piece}
use Rattle.automaton.specs.declared.store.Letters.{Letters}
use Rattle.grammar.specs.Words.{Word, skip, read}
use Rattle.grammar.specs.Grammar.{Phrase, Derives}
use Rattle.grammar.specs.Limits.{is_part, Bracket, square, after_word, with_word}
use Rattle.grammar.specs.Judging.{Kind, Goal, phrase, then, unary_at, base_at, step, few_parts, few_letters, part_allowed, letter_allowed, judge_from, Suffix, Apart}
use Rattle.grammar.proofs.Passing.{FormulaPasses, RegularPasses}
use Rattle.grammar.proofs.Reading.{on_word, no_place, no_more, no_word_here, formula_passed, regular_passed}
use Rattle.grammar.proofs.Scanning.{suffix_then, between_drops, between_one}
use Rattle.rule.specs.declared.store.Draft.{Draft}
use Rattle.rule.specs.Drafts.{place_of, Next, Passed, Counted}
use Rattle.rule.specs.Parsing.{judged, Over, ReadFormula, ReadRegular, Unexpected}

-- what is left of a text is the end of it
pub tail_suffix : (text l : List ℕ) → l ≡ drop (length text - length l) text → Suffix l text
tail_suffix text l s = (length text - length l, omega arith, s)

pub tail_behind : (text : List ℕ) {l m : List ℕ} {w : Word} → l ≡ drop (length text - length l) text → Next l w m → m ≡ drop (length text - length m) text
tail_behind text {l} {m} s e =
    let t = suffix_then (tail_suffix text l s) (between_drops (between_one e)) in
    let k : t.0 ≡ length text - length m = omega (arith, t.1, ap length t.2 ∙ length-drop t.0 text) in
    t.2 ∙ ap (λ n. drop n text) k

-- the fault where the next word cannot stand
module _ (d : Draft) where
  pub wrong_word : (w : Word) (m : List ℕ) → Next d.rest.now w m → Unexpected d (at NotDerivable (place_of d))
  wrong_word w m e g κ ending wrong = no_place (length d.text.now) d.rest.now w m e g d.seen κ (wrong w m e)

  pub text_over : read (skip d.rest.now) ≡ None → length (skip d.rest.now) ≡ 0 → Unexpected d (at NotDerivable (place_of d))
  text_over e z g κ ending wrong = no_more (length d.text.now) d.rest.now e z g d.seen κ (ending z)

  pub stray : read (skip d.rest.now) ≡ None → (length (skip d.rest.now) ≡ 0 → ⊥) → Unexpected d (at StrayByte (place_of d))
  stray e z g κ ending wrong = no_word_here (length d.text.now) d.rest.now e z g d.seen κ

-- two drafts with the same left of the same text
pub judged_same : (d e : Draft) → e.text.now ≡ d.text.now → e.rest.now ≡ d.rest.now → e.seen ≡ d.seen → (σ : List Goal) (κ : List Bracket) → judged e σ κ ≡ judged d σ κ
judged_same d e t r n σ κ =
    ap (λ x. judge_from (length x) e.rest.now σ e.seen κ) t
    ∙ ap (λ x. judge_from (length d.text.now) x σ e.seen κ) r
    ∙ ap (λ x. judge_from (length d.text.now) d.rest.now σ x κ) n

pub passed_counted : {w : Word} {d e b : Draft} → Passed w 0 d e → Counted e b → Passed w 1 d b
passed_counted {w} {d} p c = record {
  next = subst (Next d.rest.now w) (sym c.rest) p.next;
  seen = omega (arith, p.seen, c.seen);
  text = c.text ∙ p.text;
  parts = c.parts ∙ p.parts;
}

-- the judge behind a word
module _ {w : Word} {n : ℕ} {d e : Draft} (p : Passed w n d e) (counts : with_word w d.seen ≡ d.seen + n) where
  pub allowed : part_allowed few_parts d.seen w ≡ true
  allowed = go (is_part w) counts
    where
      go : (b : Bool) → cond b (d.seen + 1) d.seen ≡ d.seen + n → cond b (few_parts d.seen) true ≡ true
      go true h = let s : d.seen + 1 ≡ d.seen + n = h in lt-ltb d.seen 64 (omega (arith, p.seen, e.few, s))
      go false h = refl

  pub passed_on : (g τ : List Goal) (κ : List Bracket) → step g w ≡ Some τ → letter_allowed few_letters κ w ≡ true → judged d g κ ≡ judged e τ (after_word w κ)
  passed_on g τ κ s l =
      on_word (length d.text.now) d.rest.now w e.rest.now p.next g τ d.seen κ s allowed l
      ∙ ap (λ x. judge_from (length d.text.now) e.rest.now τ x (after_word w κ)) (counts ∙ sym p.seen)
      ∙ ap (λ x. judge_from (length x) e.rest.now τ e.seen (after_word w κ)) (sym p.text)

-- the same formula as another phrase, or with other goals behind it
pub rephrased : {P Q : Formula → Phrase} {ρ π : List Goal} {d e : Draft} (r : ReadFormula P ρ d e) → Derives (Q r.formula) r.words → Over π e → ReadFormula Q π d e
rephrased r derives over = record {
  formula = r.formula;
  words = r.words;
  between = r.between;
  derives = derives;
  count = r.count;
  seen = r.seen;
  extends = r.extends;
  stands = r.stands;
  narrow = r.narrow;
  over = over;
}

-- the same expression as another phrase, or with other goals behind it
pub rephrased_regular : {P Q : Regular → Phrase} {ρ π : List Goal} {d e : Draft} {a b : Letters} {p : Piece} (r : ReadRegular P ρ d e a b p) → Derives (Q r.regular) r.words → Over π e → ReadRegular Q π d e a b p
rephrased_regular r derives over = record {
  regular = r.regular;
  words = r.words;
  between = r.between;
  derives = derives;
  count = r.count;
  seen = r.seen;
  extends = r.extends;
  letters = r.letters;
  rows = r.rows;
  labels = r.labels;
  built = r.built;
  stand = r.stand;
  narrow = r.narrow;
  over = over;
}

-- where one more goal is passed over
pub over_more : (ρ : List Goal) (t : Kind) (e : Draft) → Over ρ e → ((σ : List Goal) (κ : List Bracket) → judged e (phrase t ∷ σ) κ ≡ judged e σ κ) → Over (ρ ++ phrase t ∷ []) e
over_more ρ t e over passes σ κ =
    ap (λ g. judged e g κ) (append_assoc ρ (phrase t ∷ []) σ) ∙ over (phrase t ∷ σ) κ ∙ passes σ κ

-- the judge behind a formula
pub formula_judged : {P : Formula → Phrase} {π : List Goal} {d e : Draft} (r : ReadFormula P π d e) (ρ : List Goal) → FormulaPasses few_parts few_letters ρ r.formula r.words → (g τ : List Goal) (κ : List Bracket) → ((w : Word) → step g w ≡ then (unary_at w) (ρ ++ τ)) → Apart κ → judged d g κ ≡ judged e (ρ ++ τ) κ
formula_judged {P} {π} {d} {e} r ρ passes g τ κ first a =
    formula_passed (length d.text.now) r.between g τ d.seen κ ρ r.formula passes first a (omega (arith, r.seen, e.few)) r.narrow
    ∙ ap (λ n. judge_from (length d.text.now) e.rest.now (ρ ++ τ) n κ) (sym r.seen)
    ∙ ap (λ t. judge_from (length t) e.rest.now (ρ ++ τ) e.seen κ) (sym r.extends.text)

-- the judge behind an expression
pub regular_judged : {P : Regular → Phrase} {π : List Goal} {d e : Draft} {a b : Letters} {p : Piece} (r : ReadRegular P π d e a b p) (ρ : List Goal) → RegularPasses few_parts few_letters ρ r.regular r.words → (g τ : List Goal) (κ : List Bracket) → ((w : Word) → step g w ≡ then (base_at w) (ρ ++ τ)) → judged d g (square a.count ∷ κ) ≡ judged e (ρ ++ τ) (square b.count ∷ κ)
regular_judged {P} {π} {d} {e} {a} {b} {p} r ρ passes g τ κ first =
    regular_passed (length d.text.now) r.between g τ d.seen κ a.count ρ r.regular passes first (omega (arith, r.seen, e.few)) (omega (arith, r.letters, b.few)) r.narrow
    ∙ ap (λ n. judge_from (length d.text.now) e.rest.now (ρ ++ τ) n (square (a.count + size r.regular) ∷ κ)) (sym r.seen)
    ∙ ap (λ t. judge_from (length t) e.rest.now (ρ ++ τ) e.seen (square (a.count + size r.regular) ∷ κ)) (sym r.extends.text)
    ∙ ap (λ n. judged e (ρ ++ τ) (square n ∷ κ)) (sym r.letters)
