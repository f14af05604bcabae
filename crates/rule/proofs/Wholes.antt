-- A text as a whole: it is a rule, or it has a first fault.
use Rattle.std.proofs.Common.{◌≡◌, ℕ, ◌-◌, ◌≤◌, Bool, List, [], ◌∷◌, ◌++◌, length, Some, None, Result, Ok, Err, MatchResult, IfOk, sym, refl, ap, ◌∙◌, subst, inr, arith}
use Rattle.fault.specs.declared.Fault.{Fault}
use Rattle.fault.specs.declared.Reason.TheVariants.{UnknownName}
use Rattle.fault.specs.Refusals.{at}
use Rattle.grammar.specs.Words.{skip, read, words, Whole, no_word, scan, text_of}
use Rattle.grammar.specs.Grammar.{State, Derives}
use Rattle.grammar.specs.Judging.{state, ors, ands, phrase, start, few_parts, few_letters, judge, judge_from, Between, first_unknown, first_of}
use Rattle.grammar.proofs.Scanning.{scan_none}
use Rattle.grammar.proofs.Passing.{through}
use Rattle.std.proofs.lemmas.List.{append-nil, nil_from_length}
use Rattle.grammar.proofs.Places.{text_above}
use Rattle.grammar.proofs.Unknowns.{all_known, fault_alone, name_alone, fault_and_name}
use Rattle.grammar.proofs.Reading.{words_between, whole_between, rule_clean, accepted_clean}
use Rattle.rule.specs.declared.part.Part.{Part}
use Rattle.rule.specs.declared.store.Draft.{Draft}
use Rattle.rule.specs.declared.kept.Rule.{Rule}
use Rattle.rule.specs.Trees.{Stands}
use Rattle.rule.specs.Drafts.{held, count_of}
use Rattle.rule.specs.Rules.{source, parts_of, Taken, Denied}
use Rattle.rule.specs.Parsing.{judged, ReadFormula, Unexpected, ReadWhole}
use Rattle.rule.proofs.Ahead.{formula_judged}
use Rattle.std.proofs.lemmas.Option.{none-some}

-- the value of a call, past `map_err` and `?`
pub past_error : {T E : Type 0} {x : T} (D : Type 0) (P : T → Type 0) (Q : E → Type 0) (r : Result T E) → MatchResult r P Q → MatchResult r (λ y. ◌≡◌ {A = Result T D} (Ok x) (Ok y)) (λ _. ⊥) → P x
past_error D P Q (Ok y) p is = subst (λ s. IfOk s P) (sym is) p
past_error D P Q (Err e) p is = absurd is

-- behind the last word there is nothing
module _ (total : ℕ) (m : List ℕ) (over : length (skip m) ≡ 0) where
  ended : scan total m ≡ no_word total []
  ended = let z = nil_from_length (skip m) over in scan_none total m (ap read z) ∙ ap (no_word total) z

  pub none_left : words (scan total m) ≡ []
  none_left = ap words ended

  pub whole_left : Whole (scan total m)
  whole_left = subst Whole (sym ended) tt

module _ (bytes : List ℕ) (d e : Draft) (text : d.text.now ≡ bytes) (rest : d.rest.now ≡ bytes) (empty : held d ≡ []) (none : d.seen ≡ 0) (r : ReadFormula State (phrase ands ∷ phrase ors ∷ []) d e) where
  all : Between bytes r.words e.rest.now
  all = subst (λ l. Between l r.words e.rest.now) rest r.between

  -- a formula and nothing behind it
  pub read_whole : length (skip e.rest.now) ≡ 0 → ReadWhole bytes (held e)
  read_whole over = record {
    formula = r.formula;
    whole_text = whole_between (length bytes) all (whole_left (length bytes) e.rest.now over);
    derives = subst (Derives (State r.formula)) (sym (words_between (length bytes) all ∙ ap (λ x. r.words ++ x) (none_left (length bytes) e.rest.now over) ∙ append-nil r.words)) r.derives;
    few = omega (arith, r.seen, e.few);
    narrow = r.narrow;
    stands = subst (λ z. Stands z (held e) (count_of e - 1) r.formula) (r.extends.text ∙ text) r.stands;
    count = omega (arith, r.count, ap length empty);
  }

  -- the text as it stands before anything is read
  start_judged : judge start (text_of bytes) ≡ judged d (phrase state ∷ []) []
  start_judged =
      ap (λ l. judge_from (length bytes) l (phrase state ∷ []) 0 []) (sym rest)
      ∙ ap (λ t. judge_from (length t) d.rest.now (phrase state ∷ []) 0 []) (sym text)
      ∙ ap (λ n. judge_from (length d.text.now) d.rest.now (phrase state ∷ []) n []) (sym none)

  -- a formula and something behind it
  pub left_over : (f : Fault) → Unexpected e f → (length (skip e.rest.now) ≡ 0 → ⊥) → judge start (text_of bytes) ≡ Some f
  left_over f u more =
      start_judged
      ∙ formula_judged r (phrase ands ∷ phrase ors ∷ []) (through few_parts few_letters r.derives) (phrase state ∷ []) [] [] (λ w. refl) tt
      ∙ r.over [] []
      ∙ u [] [] (λ z. absurd (more z)) (λ w k x. refl)

module _ (known : List ℕ → Bool) (bytes : List ℕ) where
  module _ (short : length bytes ≤ 255) where
    pub taken : (k : Rule) → source k ≡ bytes → ReadWhole bytes (parts_of k) → first_unknown known (text_of bytes) ≡ None → Taken known bytes k
    taken k same r e = record {
      formula = r.formula;
      accepted = record { short = short; whole = r.whole_text; derives = r.derives; named = all_known known (text_of bytes) e; few = r.few; narrow = r.narrow };
      means = subst (λ l. Stands l (parts_of k) (length (parts_of k) - 1) r.formula) (sym same) r.stands;
      count = r.count;
      text = same;
    }

    pub wrong_text : (f : Fault) → judge start (text_of bytes) ≡ Some f → first_unknown known (text_of bytes) ≡ None → Denied known bytes f
    wrong_text f e n = record {
      refused = inr (short, fault_alone known (text_of bytes) (text_above bytes) f e n);
      none = λ g a. none-some f (sym (accepted_clean known bytes g a).0 ∙ e);
    }

    pub wrong_name : (ps : List Part) → ReadWhole bytes ps → (p : ℕ) → first_unknown known (text_of bytes) ≡ Some p → Denied known bytes (at UnknownName p)
    wrong_name ps r p n = record {
      refused = inr (short, name_alone known (text_of bytes) (text_above bytes) p (r.formula, r.derives) (rule_clean (text_of bytes) r.formula r.whole_text r.derives r.few r.narrow) n);
      none = λ g a. none-some p (sym (accepted_clean known bytes g a).1 ∙ n);
    }

    pub wrong_both : (f : Fault) (p : ℕ) (g : Fault) → judge start (text_of bytes) ≡ Some f → first_unknown known (text_of bytes) ≡ Some p → first_of (Some f) (Some p) ≡ Some g → Denied known bytes g
    wrong_both f p g e n is = record {
      refused = inr (short, fault_and_name known (text_of bytes) (text_above bytes) f p g e n is);
      none = λ h a. none-some f (sym (accepted_clean known bytes h a).0 ∙ e);
    }
