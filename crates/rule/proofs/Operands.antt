-- Formulas without a joint: atoms, brackets and operators.
use Rattle.std.proofs.Common.{◌≡◌, ℕ, ◌+◌, ◌-◌, ◌≤◌, true, cond, List, [], ◌∷◌, ◌++◌, length, take, drop, Some, None, sym, refl, ap, ◌∙◌, subst, append_assoc, arith, length-drop}
use Rattle.fault.specs.declared.Fault.{Fault}
use Rattle.fault.specs.declared.Reason.TheVariants.{NotDerivable, TooManyParts}
use Rattle.fault.specs.Refusals.{at}
use Rattle.logic.specs.declared.Quantifier.{Quantifier}
use Rattle.logic.specs.declared.Cycle.{Cycle as Cyclic}
use Rattle.logic.specs.Formulas.{Formula, neg, path, cycle, parts, Each}
use Rattle.automaton.specs.declared.Automaton.{Automaton}
use Rattle.automaton.specs.Built.{labels_of}
use Rattle.grammar.specs.declared.Sign.{Sign}
use Rattle.grammar.specs.declared.Sign.TheVariants.{Open, Close, OpenSquare, CloseSquare}
use Rattle.grammar.specs.declared.Key.TheVariants.{Not, Path, Cycle}
use Rattle.grammar.specs.Words.{Word, sign, key, skip}
use Rattle.grammar.specs.Grammar.{Atom, atom_name, atom_true, atom_false, State, Unary, Derives, unary_not, unary_path, unary_cycle, unary_atom, unary_round}
use Rattle.grammar.specs.Limits.{is_part, Bracket, after_word}
use Rattle.grammar.specs.Faults.{Narrow}
use Rattle.grammar.specs.Judging.{state, ors, ands, unary, reg, Goal, expect, phrase, unary_at, base_at, then, few_parts, few_letters, letter_allowed, judge_from, Between, more, Apart}
use Rattle.grammar.proofs.Scanning.{suffix_then, skip_drops, read_name, between_join, between_one}
use Rattle.grammar.proofs.Passing.{through}
use Rattle.grammar.proofs.Reading.{no_place, over_part, bracketed_passed}
use Rattle.rule.specs.declared.part.Part.{Part}
use Rattle.rule.specs.declared.part.Part.TheVariants.{Not as NotPart, Path as PathPart, Cycle as CyclePart}
use Rattle.rule.specs.declared.store.Draft.{Draft}
use Rattle.rule.specs.declared.opening.Opening.{Opening}
use Rattle.rule.specs.declared.opening.Opening.TheVariants.{Leaf, Negation, Path as OpensPath, Cycle as OpensCycle}
use Rattle.rule.specs.Trees.{Is, Stands, LettersStand}
use Rattle.rule.specs.Drafts.{place_of, held, count_of, Next, Passed, Counted, Pushed}
use Rattle.rule.specs.Parsing.{Lacks, judged, Extends, ReadFormula, Fails, ReadBracketed, FailsBracketed, Opens}
use Rattle.rule.proofs.Ahead.{tail_suffix, passed_counted, passed_on, formula_judged}
use Rattle.rule.proofs.Growing.{pushed_count, extends_then, extends_passed, extends_pushed, stands_on, letters_on, is_pushed}
use Rattle.rule.specs.Openings.{part_of}
use Rattle.rule.specs.declared.opening.Simple.{Simple}
use Rattle.rule.proofs.Openings.{LeafOf, Named, Opened, opened}

-- a name that is read stands in the text where it was read
named_here : (d : Draft) (m : List ℕ) (w : Word) → Next d.rest.now w m → Named d.text.now (place_of d) w
named_here d m w e v is =
    let t = suffix_then (tail_suffix d.text.now d.rest.now d.tail) (skip_drops d.rest.now) in
    let place : t.0 ≡ place_of d = omega (arith, t.1, ap length t.2 ∙ length-drop t.0 d.text.now) in
    ap (λ k. take (length v) (drop k d.text.now)) (sym place) ∙ ap (take (length v)) (sym t.2) ∙ read_name (skip d.rest.now) v m (e ∙ ap (λ x. Some (x, m)) is)

-- the word that was read, by what it opens
pub opens_as : {d e : Draft} {q r : Opening} {n : ℕ} → Opens d e q n → q ≡ r → Opens d e r n
opens_as {d} {e} {q} {r} {n} o is = subst (λ z. Opens d e z n) is o

pub opens_here : {d e : Draft} {q : Opening} {n : ℕ} (o : Opens d e q n) → Opened d.text.now n o.word (Some q)
opens_here {d} {e} {q} {n} o = subst (Opened d.text.now n o.word) o.opens (opened d.text.now n o.word)

pub leaf_here : {d e : Draft} {s : Simple} {n : ℕ} (o : Opens d e (Leaf s) n) → LeafOf d.text.now o.word (part_of s)
leaf_here {d} {e} {s} {n} o = opens_here o (subst (λ k. Named d.text.now k o.word) (sym o.place) (named_here d e.rest.now o.word o.passed.next))

pub behind_word : {d e : Draft} {q : Opening} {n : ℕ} (o : Opens d e q n) (w : Word) → o.word ≡ w → Passed w 0 d e
behind_word {d} {e} {q} {n} o w is = subst (λ v. Passed v 0 d e) is o.passed

-- an atom is a part, and ends a formula or a letter
pub record Single (w : Word) : Type 0 where
  pub unary_ends : unary_at w ≡ Some []
  pub base_ends : base_at w ≡ Some []
  pub part : is_part w ≡ true

pub single : {f : Formula} {w : Word} → Atom f w → Single w
single atom_name = record { unary_ends = refl; base_ends = refl; part = refl }
single atom_true = record { unary_ends = refl; base_ends = refl; part = refl }
single atom_false = record { unary_ends = refl; base_ends = refl; part = refl }

pub leaf_stands : (d b e : Draft) (w : Word) (p : Part) (x : LeafOf d.text.now w p) → Passed w 1 d b → Pushed p b e → Stands e.text.now (held e) (count_of e - 1) x.formula
leaf_stands d b e w p x c y =
    let top : count_of b ≡ count_of e - 1 = omega (arith, pushed_count y) in
    subst (λ t. Stands t (held e) (count_of e - 1) x.formula) (sym (y.text ∙ c.text))
    (x.stands (held e) (count_of e - 1) (subst (λ k. Is (held e) k p) top (is_pushed y)))

-- a state formula that is not closed by its sign
pub state_unclosed : {d e : Draft} → ReadFormula State (phrase ands ∷ phrase ors ∷ []) d e → (s : Sign) (f : Fault) → Lacks s e f → (σ : List Goal) (κ : List Bracket) → Apart κ → judged d (phrase state ∷ expect s ∷ σ) κ ≡ Some f
state_unclosed x s f y σ κ a =
    formula_judged x (phrase ands ∷ phrase ors ∷ []) (through few_parts few_letters x.derives) (phrase state ∷ expect s ∷ σ) (expect s ∷ σ) κ (λ w. refl) a
    ∙ x.over (expect s ∷ σ) κ
    ∙ y σ κ

-- from d to e what follows the operator word w was read, whose own part is counted in d already
record ReadOperand (w : Word) (d e : Draft) : Type 0 where
  pub formula : Formula
  pub words : List Word
  pub between : Between d.rest.now words e.rest.now
  pub derives : Derives (Unary formula) (w ∷ words)
  pub count : count_of e ≡ count_of d + parts formula
  pub seen : e.seen + 1 ≡ d.seen + parts formula
  pub extends : Extends d e
  pub stands : Stands e.text.now (held e) (count_of e - 1) formula
  pub narrow : Each Narrow formula

-- the first fault of what is left with these goals
abbrev FailsOperand : List Goal → Draft → Fault → Type 0
FailsOperand g d f = (σ : List Goal) (κ : List Bracket) → Apart κ → judged d (g ++ σ) κ ≡ Some f

module _ {d e : Draft} {q : Opening} {n : ℕ} (o : Opens d e q n) where
  -- the word can stand nowhere
  pub unary_misplaced : unary_at o.word ≡ None → (f : Fault) → f ≡ at NotDerivable n → Fails unary d f
  unary_misplaced z f is σ κ a =
      no_place (length d.text.now) d.rest.now o.word e.rest.now o.passed.next (phrase unary ∷ σ) d.seen κ (ap (λ x. then x σ) z) ∙ ap Some (sym (is ∙ ap (at NotDerivable) o.place))

  -- the word is one part too many
  pub unary_full : (w : Word) (g : List Goal) → o.word ≡ w → unary_at w ≡ Some g → is_part w ≡ true → 64 ≤ e.seen → (f : Fault) → f ≡ at TooManyParts n → Fails unary d f
  unary_full w g v u p h f is σ κ a =
      let c = behind_word o w v in
      over_part (length d.text.now) d.rest.now w e.rest.now c.next (phrase unary ∷ σ) (g ++ σ) d.seen κ (ap (λ x. then x σ) u) p (omega (arith, c.seen, h))
      ∙ ap Some (sym (is ∙ ap (at TooManyParts) o.place))

pub unary_leaf : {d e : Draft} {s : Simple} {n : ℕ} (o : Opens d e (Leaf s) n) (b h : Draft) → Counted e b → Pushed (part_of s) b h → ReadFormula Unary [] d h
unary_leaf {d} {e} {s} {n} o b h counted y =
    let x = leaf_here o in
    let c = passed_counted o.passed counted in
    record {
      formula = x.formula;
      words = o.word ∷ [];
      between = subst (Between d.rest.now (o.word ∷ [])) (sym y.rest) (between_one c.next);
      derives = unary_atom x.atom;
      count = omega (arith, x.one, ap length c.parts, pushed_count y);
      seen = omega (arith, x.one, c.seen, y.seen);
      extends = extends_then (extends_passed c) (extends_pushed y);
      stands = leaf_stands d b h o.word (part_of s) x c y;
      narrow = x.narrow;
      over = λ σ κ. refl;
    }

module _ (d : Draft) where
  -- an operator word that is counted
  module _ (b : Draft) (w : Word) (g : List Goal) (o : unary_at w ≡ Some g) (p : is_part w ≡ true) (free : (κ : List Bracket) → letter_allowed few_letters κ w ≡ true) (same : (κ : List Bracket) → after_word w κ ≡ κ) (c : Passed w 1 d b) where
    operand_fails : (f : Fault) → FailsOperand g b f → Fails unary d f
    operand_fails f x σ κ a =
        passed_on c (ap (λ z. cond z (d.seen + 1) d.seen) p) (phrase unary ∷ σ) (g ++ σ) κ (ap (λ y. then y σ) o) (free κ)
        ∙ ap (judged b (g ++ σ)) (same κ)
        ∙ x σ κ a

    operand_read : (e : Draft) → ReadOperand w b e → ReadFormula Unary [] d e
    operand_read e x = record {
      formula = x.formula;
      words = w ∷ x.words;
      between = more c.next x.between;
      derives = x.derives;
      count = omega (arith, x.count, ap length c.parts);
      seen = omega (arith, x.seen, c.seen);
      extends = extends_then (extends_passed c) x.extends;
      stands = x.stands;
      narrow = x.narrow;
      over = λ σ κ. refl;
    }

-- ( state )
module _ {d b : Draft} (c : Passed (sign Open) 0 d b) where
  opened_round : (σ : List Goal) (κ : List Bracket) → judged d (phrase unary ∷ σ) κ ≡ judged b (phrase state ∷ expect Close ∷ σ) κ
  opened_round σ κ = passed_on c (omega arith) (phrase unary ∷ σ) (phrase state ∷ expect Close ∷ σ) κ refl refl

  pub round_fails : (f : Fault) → Fails state b f → Fails unary d f
  round_fails f x σ κ a = opened_round σ κ ∙ x (expect Close ∷ σ) κ a

  module _ {e : Draft} (x : ReadFormula State (phrase ands ∷ phrase ors ∷ []) b e) where
    pub round_unclosed : (f : Fault) → Lacks Close e f → Fails unary d f
    round_unclosed f y σ κ a = opened_round σ κ ∙ state_unclosed x Close f y σ κ a

    pub round_read : {h : Draft} → Passed (sign Close) 0 e h → ReadFormula Unary [] d h
    round_read {h} y = record {
      formula = x.formula;
      words = sign Open ∷ x.words ++ sign Close ∷ [];
      between = more c.next (between_join x.between (between_one y.next));
      derives = unary_round x.derives;
      count = omega (arith, ap length c.parts, x.count, ap length y.parts);
      seen = omega (arith, c.seen, x.seen, y.seen);
      extends = extends_then (extends_passed c) (extends_then x.extends (extends_passed y));
      stands = subst (λ n. Stands h.text.now (held h) (n - 1) x.formula) (ap length (sym y.parts)) (stands_on (extends_passed y) x.formula (count_of e - 1) x.stands);
      narrow = x.narrow;
      over = λ σ κ. refl;
    }

-- not unary
module _ (d e h : Draft) (i : ℕ) (x : ReadFormula Unary [] d e) (top : i + 1 ≡ count_of e) (y : Pushed (NotPart i) e h) where
  negated : ReadOperand (key Not) d h
  negated =
      let last : count_of e ≡ count_of h - 1 = omega (arith, pushed_count y) in
      let inner : count_of e - 1 ≡ i = omega arith in
      record {
        formula = neg x.formula;
        words = x.words;
        between = subst (Between d.rest.now x.words) (sym y.rest) x.between;
        derives = unary_not x.derives;
        count = omega (arith, x.count, pushed_count y);
        seen = omega (arith, x.seen, y.seen);
        extends = extends_then x.extends (extends_pushed y);
        stands =
            subst (λ k. Stands h.text.now (held h) k (neg x.formula)) last
            (i, is_pushed y, omega arith, subst (λ k. Stands h.text.now (held h) k x.formula) inner (stands_on (extends_pushed y) x.formula (count_of e - 1) x.stands));
        narrow = x.narrow;
      }

-- quantifier [ reg ] unary, and cycle [ reg ]
module _ (d e : Draft) (a : Automaton) (x : ReadBracketed d e a) where
  goal_fails : (f : Fault) → Fails unary e f → FailsOperand (expect OpenSquare ∷ phrase reg ∷ expect CloseSquare ∷ phrase unary ∷ []) d f
  goal_fails f y σ κ b =
      bracketed_passed (length d.text.now) x.between x.regular x.derives (phrase unary ∷ σ) d.seen κ (omega (arith, x.seen, e.few)) x.short x.narrow
      ∙ ap (λ n. judge_from (length d.text.now) e.rest.now (phrase unary ∷ σ) n κ) (sym x.seen)
      ∙ ap (λ t. judge_from (length t) e.rest.now (phrase unary ∷ σ) e.seen κ) (sym x.extends.text)
      ∙ y σ κ b

  letters_stand : (h : Draft) (k : ℕ) → Extends e h → count_of e ≤ k → LettersStand h.text.now (held h) k (labels_of a.letters) 0 x.regular
  letters_stand h k y n = letters_on y x.regular (count_of e) k (labels_of a.letters) 0 n x.stand

  cycled : (h : Draft) (c : Cyclic) → Pushed (CyclePart c a) e h → ReadOperand (key (Cycle c)) d h
  cycled h c y =
      let last : count_of e ≡ count_of h - 1 = omega (arith, pushed_count y) in
      record {
        formula = cycle c x.regular;
        words = sign OpenSquare ∷ x.words ++ sign CloseSquare ∷ [];
        between = subst (Between d.rest.now (sign OpenSquare ∷ x.words ++ sign CloseSquare ∷ [])) (sym y.rest) x.between;
        derives = unary_cycle x.derives;
        count = omega (arith, x.count, pushed_count y);
        seen = omega (arith, x.seen, y.seen);
        extends = extends_then x.extends (extends_pushed y);
        stands =
            subst (λ k. Stands h.text.now (held h) k (cycle c x.regular)) last
            (a, is_pushed y, x.automaton, letters_stand h (count_of e) (extends_pushed y) (omega arith));
        narrow = (x.short, x.narrow);
      }

  pathed : (g h : Draft) (q : Quantifier) (i : ℕ) → ReadFormula Unary [] e g → i + 1 ≡ (count_of g) → Pushed (PathPart q a i) g h → ReadOperand (key (Path q)) d h
  pathed g h q i z top y =
      let last : count_of g ≡ count_of h - 1 = omega (arith, pushed_count y) in
      let goal : count_of g - 1 ≡ i = omega arith in
      let behind = extends_then z.extends (extends_pushed y) in
      let words = sign OpenSquare ∷ x.words ++ sign CloseSquare ∷ z.words in
      record {
        formula = path q x.regular z.formula;
        words = words;
        between =
            subst (Between d.rest.now words) (sym y.rest)
            (subst (λ ws. Between d.rest.now (sign OpenSquare ∷ ws) g.rest.now) (append_assoc x.words (sign CloseSquare ∷ []) z.words) (between_join x.between z.between));
        derives = unary_path x.derives z.derives;
        count = omega (arith, x.count, z.count, pushed_count y);
        seen = omega (arith, x.seen, z.seen, y.seen);
        extends = extends_then x.extends behind;
        stands =
            subst (λ v. Stands h.text.now (held h) v (path q x.regular z.formula)) last (
              a,
              i,
              is_pushed y,
              omega arith,
              subst (λ v. Stands h.text.now (held h) v z.formula) goal (stands_on (extends_pushed y) z.formula (count_of g - 1) z.stands),
              x.automaton,
              letters_stand h (count_of g) behind (omega (arith, z.count)),
            );
        narrow = (x.short, x.narrow, z.narrow);
      }

-- a not and what it negates
module _ {d a : Draft} {n : ℕ} (o : Opens d a Negation n) (b : Draft) (c : Counted a b) where
  not_word : Passed (key Not) 1 d b
  not_word = passed_counted (behind_word o (key Not) (opens_here o)) c

  pub negation_fails : (f : Fault) → Fails unary b f → Fails unary d f
  negation_fails f x = operand_fails d b (key Not) (phrase unary ∷ []) refl refl (λ κ. refl) (λ κ. refl) not_word f x

  pub negation_read : (e h : Draft) (i : ℕ) → ReadFormula Unary [] b e → i + 1 ≡ count_of e → Pushed (NotPart i) e h → ReadFormula Unary [] d h
  negation_read e h i x top y = operand_read d b (key Not) (phrase unary ∷ []) refl refl (λ κ. refl) (λ κ. refl) not_word h (negated b e h i x top y)

-- a quantifier, its expression and its goal
module _ {d a : Draft} {n : ℕ} (q : Quantifier) (o : Opens d a (OpensPath q) n) (b : Draft) (c : Counted a b) where
  path_word : Passed (key (Path q)) 1 d b
  path_word = passed_counted (behind_word o (key (Path q)) (opens_here o)) c

  path_operand : (f : Fault) → FailsOperand (expect OpenSquare ∷ phrase reg ∷ expect CloseSquare ∷ phrase unary ∷ []) b f → Fails unary d f
  path_operand = operand_fails d b (key (Path q)) (expect OpenSquare ∷ phrase reg ∷ expect CloseSquare ∷ phrase unary ∷ []) refl refl (λ κ. refl) (λ κ. refl) path_word

  pub path_unopened : (f : Fault) → FailsBracketed b f → Fails unary d f
  path_unopened f x = path_operand f (λ σ κ i. x (phrase unary ∷ σ) κ)

  module _ (e : Draft) (m : Automaton) (x : ReadBracketed b e m) where
    pub path_fails : (f : Fault) → Fails unary e f → Fails unary d f
    path_fails f y = path_operand f (goal_fails b e m x f y)

    pub path_read : (g h : Draft) (i : ℕ) → ReadFormula Unary [] e g → i + 1 ≡ count_of g → Pushed (PathPart q m i) g h → ReadFormula Unary [] d h
    path_read g h i z top y = operand_read d b (key (Path q)) (expect OpenSquare ∷ phrase reg ∷ expect CloseSquare ∷ phrase unary ∷ []) refl refl (λ κ. refl) (λ κ. refl) path_word h (pathed b e m x g h q i z top y)

-- a cycle and its expression
module _ {d a : Draft} {n : ℕ} (k : Cyclic) (o : Opens d a (OpensCycle k) n) (b : Draft) (c : Counted a b) where
  cycle_word : Passed (key (Cycle k)) 1 d b
  cycle_word = passed_counted (behind_word o (key (Cycle k)) (opens_here o)) c

  pub cycle_fails : (f : Fault) → FailsBracketed b f → Fails unary d f
  cycle_fails f x = operand_fails d b (key (Cycle k)) (expect OpenSquare ∷ phrase reg ∷ expect CloseSquare ∷ []) refl refl (λ κ. refl) (λ κ. refl) cycle_word f (λ σ κ i. x σ κ)

  pub cycle_read : (e h : Draft) (m : Automaton) → ReadBracketed b e m → Pushed (CyclePart k m) e h → ReadFormula Unary [] d h
  cycle_read e h m x y = operand_read d b (key (Cycle k)) (expect OpenSquare ∷ phrase reg ∷ expect CloseSquare ∷ []) refl refl (λ κ. refl) (λ κ. refl) cycle_word h (cycled b e m x h k y)
