-- Expressions joined by a sign, reg = seq { | seq } and seq = star { . star }; and star = base { * }.
use Rattle.std.proofs.Common.{◌≡◌, ℕ, ◌+◌, true, false, cond, List, [], ◌∷◌, ◌++◌, length, get_or, Some, sym, refl, ap, ◌∙◌, subst, arith}
use Rattle.std.proofs.lemmas.Bool.{false_from_ne_true}
use Rattle.fault.specs.declared.Fault.{Fault}
use Rattle.logic.specs.Formulas.{Regular, seq as then_also, alt, star, size, letter_parts, EachLetter}
use Rattle.automaton.specs.declared.Piece.{Piece}
use Rattle.automaton.specs.declared.store.Letters.{Letters}
use Rattle.automaton.specs.Built.{labels_of, Built, Relinked}
use Rattle.automaton.proofs.Pieces.{built_kept, last_inside}
use Rattle.grammar.specs.declared.Sign.{Sign}
use Rattle.grammar.specs.declared.Sign.TheVariants.{Dot, Bar, Star}
use Rattle.grammar.specs.Words.{Word, sign}
use Rattle.grammar.specs.Grammar.{Phrase, Reg, Seq, Starred, Base, Derives, reg_is, reg_or, seq_is, seq_then, star_is, star_more}
use Rattle.grammar.specs.Limits.{Bracket, square, after_word}
use Rattle.grammar.specs.Faults.{Narrow}
use Rattle.grammar.specs.Judging.{Kind, reg, bars, seq, dots, starred, asts, base, Goal, phrase, base_at, then, step, may_end, few_parts, few_letters, letter_allowed, more, is_sign}
use Rattle.grammar.proofs.Scanning.{between_join, between_one}
use Rattle.grammar.proofs.Passing.{RegularPasses, through}
use Rattle.grammar.proofs.Yielding.{sign_is}
use Rattle.grammar.proofs.Reading.{alike}
use Rattle.rule.specs.declared.part.Part.{Part}
use Rattle.rule.specs.declared.store.Draft.{Draft}
use Rattle.rule.specs.declared.binding.Binding.{Binding}
use Rattle.rule.specs.declared.binding.Binding.TheVariants.{Loose, Tight}
use Rattle.rule.specs.Bindings.{sign_of, regular_of, regular_phrase, regular_kind, more_regular, factor_of, factor_kind, within_factor, Merged}
use Rattle.rule.specs.Trees.{LettersStand}
use Rattle.rule.specs.Drafts.{held, count_of, Passed}
use Rattle.rule.specs.Parsing.{judged, ReadRegular, FailsRegular, Other}
use Rattle.rule.proofs.Ahead.{passed_on, rephrased_regular, over_more, regular_judged}
use Rattle.rule.proofs.Growing.{extends_then, extends_passed, letters_on, letters_named}

-- P is Q { s Q }; a reader of P has the goals ρ before it where more can follow, and the goal t among them for the sign
pub record Joining (P Q : Regular → Phrase) (hi lo t : Kind) (ρ : List Goal) (s : Sign) (make : Regular → Regular → Regular) : Type 1 where
  pub one : {r : Regular} {us : List Word} → Derives (Q r) us → Derives (P r) us
  pub join : {r q : Regular} {us vs : List Word} → Derives (P r) us → Derives (Q q) vs → Derives (P (make r q)) (us ++ sign s ∷ vs)
  pub count : (r q : Regular) → letter_parts (make r q) ≡ letter_parts r + letter_parts q
  pub length_is : (r q : Regular) → size (make r q) ≡ size r + size q
  pub each : (r q : Regular) → EachLetter Narrow r → EachLetter Narrow q → EachLetter Narrow (make r q)
  pub stand : (text : List ℕ) (ps : List Part) (k : ℕ) (ls : List ℕ) (o : ℕ) (r q : Regular) → LettersStand text ps k ls o r → LettersStand text ps k ls (o + size r) q → LettersStand text ps k ls o (make r q)
  pub passes : {r : Regular} {us : List Word} → Derives (P r) us → RegularPasses few_parts few_letters (ρ ++ phrase t ∷ []) r us
  pub first : (σ : List Goal) (w : Word) → step (phrase hi ∷ σ) w ≡ then (base_at w) ((ρ ++ phrase t ∷ []) ++ σ)
  pub opens : (σ : List Goal) (w : Word) → step (phrase hi ∷ σ) w ≡ step (phrase lo ∷ phrase t ∷ σ) w
  pub unended : (σ : List Goal) → may_end (phrase hi ∷ σ) ≡ may_end (phrase lo ∷ phrase t ∷ σ)
  pub again : (σ : List Goal) → step ((ρ ++ phrase t ∷ []) ++ σ) (sign s) ≡ Some (phrase lo ∷ phrase t ∷ σ)
  pub letterless : (κ : List Bracket) → letter_allowed few_letters κ (sign s) ≡ true
  pub same : (κ : List Bracket) → after_word (sign s) κ ≡ κ
  pub skips : (σ : List Goal) (w : Word) → (w ≡ sign s → ⊥) → step (phrase t ∷ σ) w ≡ step σ w
  pub ended : (σ : List Goal) → may_end (phrase t ∷ σ) ≡ may_end σ

other_sign : (s : Sign) (w : Word) → (w ≡ sign s → ⊥) → is_sign s w ≡ false
other_sign s w n = false_from_ne_true (is_sign s w) (λ e. n (sign_is s w e))

no_bar : (σ : List Goal) (w : Word) → (w ≡ sign Bar → ⊥) → step (phrase bars ∷ σ) w ≡ step σ w
no_bar σ w n = ap (λ b. cond b (Some (phrase seq ∷ phrase bars ∷ σ)) (step σ w)) (other_sign Bar w n)

no_dot : (σ : List Goal) (w : Word) → (w ≡ sign Dot → ⊥) → step (phrase dots ∷ σ) w ≡ step σ w
no_dot σ w n = ap (λ b. cond b (Some (phrase starred ∷ phrase dots ∷ σ)) (step σ w)) (other_sign Dot w n)

no_star : (σ : List Goal) (w : Word) → (w ≡ sign Star → ⊥) → step (phrase asts ∷ σ) w ≡ step σ w
no_star σ w n = ap (λ b. cond b (Some (phrase asts ∷ σ)) (step σ w)) (other_sign Star w n)

by_bar : Joining Reg Seq reg seq bars (phrase asts ∷ phrase dots ∷ []) Bar alt
by_bar = record {
  one = reg_is;
  join = reg_or;
  count = λ r q. refl;
  length_is = λ r q. refl;
  each = λ r q x y. (x, y);
  stand = λ text ps k ls o r q x y. (x, y);
  passes = λ d. through few_parts few_letters d;
  first = λ σ w. refl;
  opens = λ σ w. refl;
  unended = λ σ. refl;
  again = λ σ. refl;
  letterless = λ κ. refl;
  same = λ κ. refl;
  skips = no_bar;
  ended = λ σ. refl;
}

by_dot : Joining Seq Starred seq starred dots (phrase asts ∷ []) Dot then_also
by_dot = record {
  one = seq_is;
  join = seq_then;
  count = λ r q. refl;
  length_is = λ r q. refl;
  each = λ r q x y. (x, y);
  stand = λ text ps k ls o r q x y. (x, y);
  passes = λ d. through few_parts few_letters d;
  first = λ σ w. refl;
  opens = λ σ w. refl;
  unended = λ σ. refl;
  again = λ σ. refl;
  letterless = λ κ. refl;
  same = λ κ. refl;
  skips = no_dot;
  ended = λ σ. refl;
}

pub by_binding : (b : Binding) → Joining (regular_phrase b) (factor_of b) (regular_kind b) (factor_kind b) (more_regular b) (within_factor b) (sign_of b) (regular_of b)
by_binding Loose = by_bar
by_binding Tight = by_dot

module _ {P Q : Regular → Phrase} {hi lo t : Kind} {ρ : List Goal} {s : Sign} {make : Regular → Regular → Regular} (c : Joining P Q hi lo t ρ s make) where
  pub joining_fails : (d : Draft) (a : Letters) (f : Fault) → FailsRegular lo d a f → FailsRegular hi d a f
  joining_fails d a f x σ κ =
      alike (length d.text.now) d.rest.now (phrase hi ∷ σ) (phrase lo ∷ phrase t ∷ σ) d.seen (square a.count ∷ κ) (c.unended σ) (λ w m e. c.opens σ w) ∙ x (phrase t ∷ σ) κ

  pub joining_one : {d e : Draft} {a b : Letters} {p : Piece} → ReadRegular Q ρ d e a b p → ReadRegular P ρ d e a b p
  joining_one r = rephrased_regular r (c.one r.derives) r.over

  module _ {d e : Draft} {a b : Letters} {p : Piece} (r : ReadRegular P ρ d e a b p) where
    module _ {x : Draft} (w : Passed (sign s) 0 e x) where
      pub joining_fails_later : (f : Fault) → FailsRegular lo x b f → FailsRegular hi d a f
      joining_fails_later f y σ κ =
          regular_judged r (ρ ++ phrase t ∷ []) (c.passes r.derives) (phrase hi ∷ σ) σ κ (c.first σ)
          ∙ passed_on w (omega arith) ((ρ ++ phrase t ∷ []) ++ σ) (phrase lo ∷ phrase t ∷ σ) (square b.count ∷ κ) (c.again σ) (c.letterless (square b.count ∷ κ))
          ∙ ap (judged x (phrase lo ∷ phrase t ∷ σ)) (c.same (square b.count ∷ κ))
          ∙ y (phrase t ∷ σ) κ

      pub joining_more : {g : Draft} {u h : Letters} {q z : Piece} → ReadRegular Q ρ x g b u q → Merged make p q z u h → ReadRegular P ρ d g a h z
      joining_more {g} {u} {h} {q} {z} y v =
          let at : b.count ≡ a.count + size r.regular = r.letters in
          let sized : size (make r.regular y.regular) ≡ size r.regular + size y.regular = c.length_is r.regular y.regular in
          let parted : letter_parts (make r.regular y.regular) ≡ letter_parts r.regular + letter_parts y.regular = c.count r.regular y.regular in
          let kept : Built r.regular a.count p u = built_kept r.built (omega (arith, y.letters)) (λ k lo hi. y.rows k (omega arith)) in
          let moved : Built y.regular (a.count + size r.regular) q u = subst (λ i. Built y.regular i q u) at y.built in
          let behind = extends_then (extends_passed w) y.extends in
          record {
            regular = make r.regular y.regular;
            words = r.words ++ sign s ∷ y.words;
            between = between_join r.between (more w.next y.between);
            derives = c.join r.derives y.derives;
            count = omega (arith, r.count, ap length w.parts, y.count);
            seen = omega (arith, r.seen, w.seen, y.seen);
            extends = extends_then r.extends behind;
            letters = omega (arith, y.letters, v.kept.count);
            rows = λ k i. v.kept.rows k (λ j. omega (arith, last_inside r.built k j)) ∙ y.rows k (omega arith) ∙ r.rows k i;
            labels = λ k i. ap (λ ls. get_or ls k 0) v.kept.parts ∙ y.labels k (omega arith) ∙ r.labels k i;
            built = v.built r.regular y.regular a.count kept moved;
            stand =
                c.stand g.text.now (held g) (count_of g) (labels_of h) a.count r.regular y.regular
                (letters_named g.text.now (held g) r.regular (count_of g) (labels_of b) (labels_of h) a.count (λ k i j. ap (λ ls. get_or ls k 0) v.kept.parts ∙ y.labels k (omega arith))
                (letters_on behind r.regular (count_of e) (count_of g) (labels_of b) a.count (omega (arith, ap length w.parts, y.count)) r.stand))
                (subst (λ i. LettersStand g.text.now (held g) (count_of g) (labels_of h) i y.regular) at
                (subst (λ ls. LettersStand g.text.now (held g) (count_of g) ls b.count y.regular) (sym v.kept.parts) y.stand));
            narrow = c.each r.regular y.regular r.narrow y.narrow;
            over = y.over;
          }

    -- no joint follows
    pub joining_ends : (x : Draft) → Other (sign s) e × (x ≡ e) → ReadRegular P (ρ ++ phrase t ∷ []) d x a b p
    joining_ends x other =
        subst (λ z. ReadRegular P (ρ ++ phrase t ∷ []) d z a b p) (sym other.1)
        (rephrased_regular r r.derives (over_more ρ t e r.over (λ σ κ. alike (length e.text.now) e.rest.now (phrase t ∷ σ) σ e.seen κ (c.ended σ) (λ w o n. c.skips σ w (other.0 w o n)))))

-- star = base { * }
pub starred_fails : (d : Draft) (a : Letters) (f : Fault) → FailsRegular base d a f → FailsRegular starred d a f
starred_fails d a f x σ κ =
    alike (length d.text.now) d.rest.now (phrase starred ∷ σ) (phrase base ∷ phrase asts ∷ σ) d.seen (square a.count ∷ κ) refl (λ w m e. refl) ∙ x (phrase asts ∷ σ) κ

pub starred_one : {d e : Draft} {a b : Letters} {p : Piece} → ReadRegular Base [] d e a b p → ReadRegular Starred [] d e a b p
starred_one r = rephrased_regular r (star_is r.derives) r.over

module _ {d e : Draft} {a b : Letters} {p : Piece} (r : ReadRegular Starred [] d e a b p) where
  pub starred_more : {x : Draft} {h : Letters} {z : Piece} → Passed (sign Star) 0 e x → ((y : Regular) (o : ℕ) → Built y o p b → Built (star y) o z h) → Relinked p.last b h → ReadRegular Starred [] d x a h z
  starred_more {x} {h} {z} w built kept = record {
    regular = star r.regular;
    words = r.words ++ sign Star ∷ [];
    between = between_join r.between (between_one w.next);
    derives = star_more r.derives;
    count = ap length w.parts ∙ r.count;
    seen = omega (arith, w.seen, r.seen);
    extends = extends_then r.extends (extends_passed w);
    letters = kept.count ∙ r.letters;
    rows = λ k i. kept.rows k (λ j. omega (arith, last_inside r.built k j)) ∙ r.rows k i;
    labels = λ k i. ap (λ ls. get_or ls k 0) kept.parts ∙ r.labels k i;
    built = built r.regular a.count r.built;
    stand =
        subst (λ ls. LettersStand x.text.now (held x) (count_of x) ls a.count r.regular) (sym kept.parts)
        (letters_on (extends_passed w) r.regular (count_of e) (count_of x) (labels_of b) a.count (omega (arith, ap length w.parts)) r.stand);
    narrow = r.narrow;
    over = λ σ κ. refl;
  }

  pub starred_ends : (x : Draft) → Other (sign Star) e × (x ≡ e) → ReadRegular Starred (phrase asts ∷ []) d x a b p
  starred_ends x other =
      subst (λ z. ReadRegular Starred (phrase asts ∷ []) d z a b p) (sym other.1)
      (rephrased_regular r r.derives (λ σ κ. alike (length e.text.now) e.rest.now (phrase asts ∷ σ) σ e.seen κ refl (λ w o n. no_star σ w (other.0 w o n))))
