-- Formulas joined by a key word: state = conj { or conj }, and conj = unary { and unary }.
use Rattle.std.proofs.Common.{◌≡◌, ℕ, ◌+◌, ◌-◌, ◌<◌, ◌≤◌, Bool, true, false, cond, List, [], ◌∷◌, ◌++◌, length, Some, Ok, sym, refl, ap, ◌∙◌, subst, arith}
use Rattle.std.proofs.lemmas.Bool.{false_from_ne_true}
use Rattle.fault.specs.declared.Fault.{Fault}
use Rattle.fault.specs.declared.Reason.TheVariants.{TooManyParts}
use Rattle.fault.specs.Refusals.{at}
use Rattle.logic.specs.Formulas.{Formula, both, either, parts, Each}
use Rattle.grammar.specs.declared.Key.{Key}
use Rattle.grammar.specs.declared.Key.TheVariants.{And, Or}
use Rattle.grammar.specs.Words.{Word, key}
use Rattle.grammar.specs.Grammar.{Phrase, State, Conj, Unary, Derives, state_is, state_or, conj_is, conj_and}
use Rattle.grammar.specs.Limits.{Bracket, after_word}
use Rattle.grammar.specs.Faults.{Narrow}
use Rattle.grammar.specs.Judging.{is_or, is_and, Kind, state, ors, conj, ands, unary, Goal, phrase, unary_at, then, step, may_end, few_parts, few_letters, letter_allowed, Between, more, Apart}
use Rattle.grammar.proofs.Scanning.{between_join}
use Rattle.grammar.proofs.Passing.{FormulaPasses, through}
use Rattle.grammar.proofs.Yielding.{or_is, and_is}
use Rattle.grammar.proofs.Reading.{alike, over_part}
use Rattle.rule.specs.declared.part.Part.{Part}
use Rattle.rule.specs.declared.part.Part.TheVariants.{And as AndPart, Or as OrPart}
use Rattle.rule.specs.declared.store.Draft.{Draft}
use Rattle.rule.specs.declared.binding.Binding.{Binding}
use Rattle.rule.specs.declared.binding.Binding.TheVariants.{Loose, Tight}
use Rattle.rule.specs.Bindings.{key_of, joint_of, formula_of, phrase_of, kind_of, more_of, operand_of, operand_kind, within}
use Rattle.rule.specs.Trees.{Is, Stands}
use Rattle.rule.specs.Drafts.{place_of, held, count_of, Next, Passed, Pushed}
use Rattle.rule.specs.Parsing.{judged, ReadFormula, Fails, Other, Joined}
use Rattle.rule.proofs.Ahead.{judged_same, passed_on, rephrased, over_more, formula_judged}
use Rattle.rule.proofs.Growing.{pushed_count, extends_then, extends_passed, extends_pushed, stands_on, is_pushed, some_part}

-- what a joint told, by what it answered
pub joined : (k : Key) (d e : Draft) (b : Bool) → Joined k d e (Ok b) → b ≡ true → Passed (key k) 1 d e
joined k d e b x is = subst (λ v. Joined k d e (Ok v)) is x

pub unjoined : (k : Key) (d e : Draft) (b : Bool) → Joined k d e (Ok b) → b ≡ false → Other (key k) d × (e ≡ d)
unjoined k d e b x is = subst (λ v. Joined k d e (Ok v)) is x

-- P is Q { k Q }; a reader of P has the goals ρ before it where more can follow, and the goal t among them for the joint
pub record Chain (P Q : Formula → Phrase) (hi lo t : Kind) (ρ : List Goal) (k : Key) (make : Formula → Formula → Formula) (joint : ℕ → ℕ → Part) : Type 1 where
  pub one : {f : Formula} {us : List Word} → Derives (Q f) us → Derives (P f) us
  pub join : {f g : Formula} {us vs : List Word} → Derives (P f) us → Derives (Q g) vs → Derives (P (make f g)) (us ++ key k ∷ vs)
  pub count : (f g : Formula) → parts (make f g) ≡ parts f + (1 + parts g)
  pub each : (f g : Formula) → Each Narrow f → Each Narrow g → Each Narrow (make f g)
  pub stands : (text : List ℕ) (ps : List Part) (n i j : ℕ) (f g : Formula) → Is ps n (joint i j) → i < n → j < n → Stands text ps i f → Stands text ps j g → Stands text ps n (make f g)
  pub passes : {f : Formula} {us : List Word} → Derives (P f) us → FormulaPasses few_parts few_letters (ρ ++ phrase t ∷ []) f us
  pub first : (σ : List Goal) (w : Word) → step (phrase hi ∷ σ) w ≡ then (unary_at w) ((ρ ++ phrase t ∷ []) ++ σ)
  pub opens : (σ : List Goal) (w : Word) → step (phrase hi ∷ σ) w ≡ step (phrase lo ∷ phrase t ∷ σ) w
  pub unended : (σ : List Goal) → may_end (phrase hi ∷ σ) ≡ may_end (phrase lo ∷ phrase t ∷ σ)
  pub again : (σ : List Goal) → step ((ρ ++ phrase t ∷ []) ++ σ) (key k) ≡ Some (phrase lo ∷ phrase t ∷ σ)
  pub letterless : (κ : List Bracket) → letter_allowed few_letters κ (key k) ≡ true
  pub same : (κ : List Bracket) → after_word (key k) κ ≡ κ
  pub skips : (σ : List Goal) (w : Word) → (w ≡ key k → ⊥) → step (phrase t ∷ σ) w ≡ step σ w
  pub ended : (σ : List Goal) → may_end (phrase t ∷ σ) ≡ may_end σ

no_or : (σ : List Goal) (w : Word) → (w ≡ key Or → ⊥) → step (phrase ors ∷ σ) w ≡ step σ w
no_or σ w n = ap (λ b. cond b (Some (phrase conj ∷ phrase ors ∷ σ)) (step σ w)) (false_from_ne_true (is_or w) (λ e. n (or_is w e)))

no_and : (σ : List Goal) (w : Word) → (w ≡ key And → ⊥) → step (phrase ands ∷ σ) w ≡ step σ w
no_and σ w n = ap (λ b. cond b (Some (phrase unary ∷ phrase ands ∷ σ)) (step σ w)) (false_from_ne_true (is_and w) (λ e. n (and_is w e)))

by_or : Chain State Conj state conj ors (phrase ands ∷ []) Or either OrPart
by_or = record {
  one = state_is;
  join = state_or;
  count = λ f g. refl;
  each = λ f g x y. (x, y);
  stands = λ text ps n i j f g p h l x y. (i, j, p, h, l, x, y);
  passes = λ d. through few_parts few_letters d;
  first = λ σ w. refl;
  opens = λ σ w. refl;
  unended = λ σ. refl;
  again = λ σ. refl;
  letterless = λ κ. refl;
  same = λ κ. refl;
  skips = no_or;
  ended = λ σ. refl;
}

by_and : Chain Conj Unary conj unary ands [] And both AndPart
by_and = record {
  one = conj_is;
  join = conj_and;
  count = λ f g. refl;
  each = λ f g x y. (x, y);
  stands = λ text ps n i j f g p h l x y. (i, j, p, h, l, x, y);
  passes = λ d. through few_parts few_letters d;
  first = λ σ w. refl;
  opens = λ σ w. refl;
  unended = λ σ. refl;
  again = λ σ. refl;
  letterless = λ κ. refl;
  same = λ κ. refl;
  skips = no_and;
  ended = λ σ. refl;
}

-- what is joined loosely is read by way of what is joined tightly
abbrev pub height : Binding → ℕ
height Loose = 2
height Tight = 0

pub by_binding : (b : Binding) → Chain (phrase_of b) (operand_of b) (kind_of b) (operand_kind b) (more_of b) (within b) (key_of b) (formula_of b) (joint_of b)
by_binding Loose = by_or
by_binding Tight = by_and

module _ {P Q : Formula → Phrase} {hi lo t : Kind} {ρ : List Goal} {k : Key} {make : Formula → Formula → Formula} {joint : ℕ → ℕ → Part} (c : Chain P Q hi lo t ρ k make joint) where
  -- the first of the chain is not there
  pub chain_fails : (d : Draft) (f : Fault) → Fails lo d f → Fails hi d f
  chain_fails d f x σ κ a = alike (length d.text.now) d.rest.now (phrase hi ∷ σ) (phrase lo ∷ phrase t ∷ σ) d.seen κ (c.unended σ) (λ w m e. c.opens σ w) ∙ x (phrase t ∷ σ) κ a

  pub chain_one : {d e : Draft} → ReadFormula Q ρ d e → ReadFormula P ρ d e
  chain_one r = rephrased r (c.one r.derives) r.over

  module _ {d e : Draft} (r : ReadFormula P ρ d e) where
    -- so far the judge has come to what is left now
    passed : (σ : List Goal) (κ : List Bracket) → Apart κ → judged d (phrase hi ∷ σ) κ ≡ judged e ((ρ ++ phrase t ∷ []) ++ σ) κ
    passed σ κ a = formula_judged r (ρ ++ phrase t ∷ []) (c.passes r.derives) (phrase hi ∷ σ) σ κ (c.first σ) a

    -- the joint is one part too many
    pub chain_full : (m : List ℕ) (f : Fault) → Next e.rest.now (key k) m → 64 ≤ e.seen → f ≡ at TooManyParts (place_of e) → Fails hi d f
    chain_full m f w h is σ κ a =
        passed σ κ a
        ∙ over_part (length e.text.now) e.rest.now (key k) m w ((ρ ++ phrase t ∷ []) ++ σ) (phrase lo ∷ phrase t ∷ σ) e.seen κ (c.again σ) refl h
        ∙ ap Some (sym is)

    module _ {b : Draft} (x : Passed (key k) 1 e b) where
      -- past the joint
      pub chain_fails_later : (f : Fault) → Fails lo b f → Fails hi d f
      chain_fails_later f y σ κ a =
          passed σ κ a
          ∙ passed_on x refl ((ρ ++ phrase t ∷ []) ++ σ) (phrase lo ∷ phrase t ∷ σ) κ (c.again σ) (c.letterless κ)
          ∙ ap (judged b (phrase lo ∷ phrase t ∷ σ)) (c.same κ)
          ∙ y (phrase t ∷ σ) κ a

      pub chain_more : {g h : Draft} (i j : ℕ) → ReadFormula Q ρ b g → i + 1 ≡ count_of b → j + 1 ≡ count_of g → Pushed (joint i j) g h → ReadFormula P ρ d h
      chain_more {g} {h} i j y p q z =
          let n : parts (make r.formula y.formula) ≡ parts r.formula + (1 + parts y.formula) = c.count r.formula y.formula in
          let left : count_of e - 1 ≡ i = omega (arith, ap length x.parts) in
          let right : count_of g - 1 ≡ j = omega arith in
          let top : count_of g ≡ count_of h - 1 = omega (arith, pushed_count z) in
          let behind-left = extends_then (extends_passed x) (extends_then y.extends (extends_pushed z)) in
          record {
            formula = make r.formula y.formula;
            words = r.words ++ key k ∷ y.words;
            between = subst (Between d.rest.now (r.words ++ key k ∷ y.words)) (sym z.rest) (between_join r.between (more x.next y.between));
            derives = c.join r.derives y.derives;
            count = omega (arith, r.count, ap length x.parts, y.count, pushed_count z);
            seen = omega (arith, r.seen, x.seen, y.seen, z.seen);
            extends = extends_then r.extends behind-left;
            stands =
                subst (λ v. Stands h.text.now (held h) v (make r.formula y.formula)) top
                (c.stands h.text.now (held h) (count_of g) i j r.formula y.formula (is_pushed z) (omega (arith, y.count, some_part y.formula)) (omega arith)
                (subst (λ v. Stands h.text.now (held h) v r.formula) left (stands_on behind-left r.formula (count_of e - 1) r.stands))
                (subst (λ v. Stands h.text.now (held h) v y.formula) right (stands_on (extends_pushed z) y.formula (count_of g - 1) y.stands)));
            narrow = c.each r.formula y.formula r.narrow y.narrow;
            over = λ σ κ. judged_same g h z.text z.rest z.seen (ρ ++ σ) κ ∙ y.over σ κ ∙ sym (judged_same g h z.text z.rest z.seen σ κ);
          }

    -- no joint follows
    pub chain_ends : (b : Draft) → Other (key k) e × (b ≡ e) → ReadFormula P (ρ ++ phrase t ∷ []) d b
    chain_ends b other =
        subst (ReadFormula P (ρ ++ phrase t ∷ []) d) (sym other.1)
        (rephrased r r.derives (over_more ρ t e r.over (λ σ κ. alike (length e.text.now) e.rest.now (phrase t ∷ σ) σ e.seen κ (c.ended σ) (λ w o n. c.skips σ w (other.0 w o n)))))
