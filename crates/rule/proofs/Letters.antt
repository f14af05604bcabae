-- Letters and brackets in expressions: base = letter | ( reg ), and the [ reg ] of an operator.
use Rattle.std.proofs.Common.{◌≡◌, ℕ, ◌+◌, ◌-◌, ◌<◌, ◌≤◌, true, cond, List, [], ◌∷◌, ◌++◌, ◌⊎◌, inl, inr, length, get_or, Some, None, sym, refl, ap, ◌∙◌, subst, arith, le-ltb, lt-ltb}
use Rattle.fault.specs.declared.Fault.{Fault}
use Rattle.fault.specs.declared.Reason.TheVariants.{NotDerivable, TooManyParts, TooManyLetters}
use Rattle.fault.specs.Refusals.{at}
use Rattle.logic.specs.declared.Quantifier.{Quantifier}
use Rattle.logic.specs.declared.Cycle.{Cycle as CycleKind}
use Rattle.logic.specs.Formulas.{Formula, letter, size, parts, Each}
use Rattle.automaton.specs.declared.Automaton.{Automaton}
use Rattle.automaton.specs.declared.Piece.{Piece}
use Rattle.automaton.specs.declared.store.Letters.{Letters}
use Rattle.automaton.specs.Automata.{AutomatonOf}
use Rattle.automaton.specs.Built.{labels_of, Built, Added}
use Rattle.grammar.specs.declared.Sign.{Sign}
use Rattle.grammar.specs.declared.Sign.TheVariants.{Open, Close, OpenSquare, CloseSquare, OpenCurly, CloseCurly}
use Rattle.grammar.specs.Words.{Word, sign}
use Rattle.grammar.specs.Grammar.{Atom, atom_name, atom_true, atom_false, State, Reg, Base, Derives, base_atom, base_curly, base_round}
use Rattle.grammar.specs.Limits.{can_be_letter, Bracket, square, curly}
use Rattle.grammar.specs.Faults.{Narrow}
use Rattle.grammar.specs.Judging.{state, ors, ands, reg, bars, dots, asts, base, Goal, expect, phrase, base_at, then, few_parts, few_letters, Between, more}
use Rattle.grammar.proofs.Scanning.{between_join, between_one}
use Rattle.grammar.proofs.Passing.{through}
use Rattle.grammar.proofs.Reading.{no_place, over_part, over_letter}
use Rattle.rule.specs.declared.store.Draft.{Draft}
use Rattle.rule.specs.Trees.{Stands, LettersStand}
use Rattle.rule.specs.declared.opening.Opening.{Opening}
use Rattle.rule.specs.Openings.{part_of}
use Rattle.rule.specs.declared.opening.Simple.{Simple}
use Rattle.rule.specs.declared.opening.Opening.TheVariants.{Leaf, Negation, Path, Cycle, Curly}
use Rattle.rule.specs.Drafts.{held, count_of, Passed, Counted, Pushed}
use Rattle.rule.specs.Parsing.{Lacks, judged, Extends, ReadFormula, Fails, ReadRegular, FailsRegular, ReadBracketed, FailsBracketed, Opens}
use Rattle.rule.proofs.Ahead.{allowed, passed_counted, passed_on, regular_judged}
use Rattle.rule.proofs.Growing.{pushed_count, extends_then, extends_passed, extends_pushed, stands_on, letters_on, some_part}
use Rattle.rule.proofs.Openings.{Opened}
use Rattle.rule.proofs.Operands.{opens_here, leaf_here, behind_word, Single, single, leaf_stands, state_unclosed}

can_be : {f : Formula} {w : Word} → Atom f w → can_be_letter w ≡ true
can_be atom_name = refl
can_be atom_true = refl
can_be atom_false = refl

-- a word that stands for a whole letter, once the formula in it is read
module _ (d e : Draft) (a b : Letters) (p : Piece) (n : ℕ) (f : Formula) where
  lettered : (ws : List Word) → Between d.rest.now ws e.rest.now → Derives (Base (letter f)) ws → count_of e ≡ count_of d + parts f → e.seen ≡ d.seen + parts f → Extends d e → Stands e.text.now (held e) (count_of e - 1) f → Each Narrow f → n + 1 ≡ count_of e → Added n a b p → ReadRegular Base [] d e a b p
  lettered ws between derives count seen extends stands narrow top x =
      let newest : count_of e - 1 ≡ get_or (labels_of b) a.count 0 = omega (arith, x.named) in
      record {
        regular = letter f;
        words = ws;
        between = between;
        derives = derives;
        count = count;
        seen = seen;
        extends = extends;
        letters = x.count;
        rows = x.rows;
        labels = x.parts;
        built = x.built f;
        stand = subst (λ i. (i < count_of e) × Stands e.text.now (held e) i f) newest (omega (arith, some_part f), stands);
        narrow = narrow;
        over = λ σ κ. refl;
      }

-- an expression that is not closed by its sign
reg_unclosed : {d e : Draft} {a b : Letters} {p : Piece} → ReadRegular Reg (phrase asts ∷ phrase dots ∷ phrase bars ∷ []) d e a b p → (s : Sign) (f : Fault) → Lacks s e f → (σ : List Goal) (κ : List Bracket) → judged d (phrase reg ∷ expect s ∷ σ) (square a.count ∷ κ) ≡ Some f
reg_unclosed {b = b} x s f y σ κ =
    regular_judged x (phrase asts ∷ phrase dots ∷ phrase bars ∷ []) (through few_parts few_letters x.derives) (phrase reg ∷ expect s ∷ σ) (expect s ∷ σ) κ (λ w. refl)
    ∙ x.over (expect s ∷ σ) (square b.count ∷ κ)
    ∙ y σ (square b.count ∷ κ)

-- the word can stand nowhere
pub base_misplaced : {d e : Draft} {n : ℕ} (q : Opening) (a : Letters) → Opens d e q n → (q ≡ Negation) ⊎ ((x : Quantifier) × (q ≡ Path x)) ⊎ ((x : CycleKind) × (q ≡ Cycle x)) → (f : Fault) → f ≡ at NotDerivable n → FailsRegular base d a f
base_misplaced {d} {e} {n} q a o one f is σ κ =
    no_place (length d.text.now) d.rest.now o.word e.rest.now o.passed.next (phrase base ∷ σ) d.seen (square a.count ∷ κ) (ap (λ x. then x σ) (nowhere one)) ∙ ap Some (sym (is ∙ ap (at NotDerivable) o.place))
  where
    opened_as : {r : Opening} → q ≡ r → Opened d.text.now n o.word (Some r)
    opened_as h = subst (λ z. Opened d.text.now n o.word (Some z)) h (opens_here o)

    nowhere : (q ≡ Negation) ⊎ ((x : Quantifier) × (q ≡ Path x)) ⊎ ((x : CycleKind) × (q ≡ Cycle x)) → base_at o.word ≡ None
    nowhere (inl h) = ap base_at (opened_as h)
    nowhere (inr (inl (x, h))) = ap base_at (opened_as h)
    nowhere (inr (inr (x, h))) = ap base_at (opened_as h)

module _ {d e : Draft} {s : Simple} {n : ℕ} (o : Opens d e (Leaf s) n) (a : Letters) where
  ends_base : Single o.word
  ends_base = let x = leaf_here o in single x.atom

  -- an atom that is one part too many
  pub leaf_full : 64 ≤ e.seen → (f : Fault) → f ≡ at TooManyParts n → FailsRegular base d a f
  leaf_full h f is σ κ =
      over_part (length d.text.now) d.rest.now o.word e.rest.now o.passed.next (phrase base ∷ σ) σ d.seen (square a.count ∷ κ) (ap (λ x. then x σ) ends_base.base_ends) ends_base.part (omega (arith, o.passed.seen, h))
      ∙ ap Some (sym (is ∙ ap (at TooManyParts) o.place))

  module _ {b h : Draft} (counted : Counted e b) (y : Pushed (part_of s) b h) where
    -- an atom that is one letter too many
    pub leaf_over : 31 ≤ a.count → (f : Fault) → f ≡ at TooManyLetters n → FailsRegular base d a f
    leaf_over m f is σ κ =
        let x = leaf_here o in
        let c = passed_counted o.passed counted in
        over_letter (length d.text.now) d.rest.now o.word b.rest.now c.next (phrase base ∷ σ) σ d.seen (square a.count ∷ κ) (ap (λ v. then v σ) ends_base.base_ends)
        (allowed c (ap (λ z. cond z (d.seen + 1) d.seen) ends_base.part))
        (ap (λ z. cond z (few_letters a.count) true) (can_be x.atom) ∙ le-ltb a.count 31 m)
        ∙ ap Some (sym (is ∙ ap (at TooManyLetters) o.place))

    pub leaf_letter : {u : Letters} {q : Piece} (i : ℕ) → i + 1 ≡ (count_of h) → Added i a u q → ReadRegular Base [] d h a u q
    leaf_letter {u} {q} i top z =
        let x = leaf_here o in
        let c = passed_counted o.passed counted in
        lettered d h a u q i x.formula (o.word ∷ []) (subst (Between d.rest.now (o.word ∷ [])) (sym y.rest) (between_one c.next)) (base_atom x.atom) (omega (arith, x.one, ap length c.parts, pushed_count y)) (omega (arith, x.one, c.seen, y.seen)) (extends_then (extends_passed c) (extends_pushed y)) (leaf_stands d b h o.word (part_of s) x c y) x.narrow top z

-- a { that is one letter too many
pub curly_over : {d e : Draft} {n : ℕ} (o : Opens d e Curly n) (a : Letters) → 31 ≤ a.count → (f : Fault) → f ≡ at TooManyLetters n → FailsRegular base d a f
curly_over {d} {e} {n} o a h f is σ κ =
    let c = behind_word o (sign OpenCurly) (opens_here o) in
    over_letter (length d.text.now) d.rest.now (sign OpenCurly) e.rest.now c.next (phrase base ∷ σ) (phrase state ∷ expect CloseCurly ∷ σ) d.seen (square a.count ∷ κ) refl refl (le-ltb a.count 31 h)
    ∙ ap Some (sym (is ∙ ap (at TooManyLetters) o.place))

module _ {d : Draft} (a : Letters) where
  -- { state }
  module _ {b : Draft} (c : Passed (sign OpenCurly) 0 d b) where
    module _ (room : a.count < 31) where
      opened_curly : (σ : List Goal) (κ : List Bracket) → judged d (phrase base ∷ σ) (square a.count ∷ κ) ≡ judged b (phrase state ∷ expect CloseCurly ∷ σ) (curly ∷ square (a.count + 1) ∷ κ)
      opened_curly σ κ = passed_on c (omega arith) (phrase base ∷ σ) (phrase state ∷ expect CloseCurly ∷ σ) (square a.count ∷ κ) refl (lt-ltb a.count 31 room)

      pub curly_fails : (f : Fault) → Fails state b f → FailsRegular base d a f
      curly_fails f x σ κ = opened_curly σ κ ∙ x (expect CloseCurly ∷ σ) (curly ∷ square (a.count + 1) ∷ κ) tt

      module _ {e : Draft} (x : ReadFormula State (phrase ands ∷ phrase ors ∷ []) b e) where
        pub curly_unclosed : (f : Fault) → Lacks CloseCurly e f → FailsRegular base d a f
        curly_unclosed f y σ κ = opened_curly σ κ ∙ state_unclosed x CloseCurly f y σ (curly ∷ square (a.count + 1) ∷ κ) tt

        pub curly_letter : {h : Draft} {u : Letters} {q : Piece} (i : ℕ) → Passed (sign CloseCurly) 0 e h → i + 1 ≡ (count_of h) → Added i a u q → ReadRegular Base [] d h a u q
        curly_letter {h} {u} {q} i y top z =
            lettered d h a u q i x.formula (sign OpenCurly ∷ x.words ++ sign CloseCurly ∷ []) (more c.next (between_join x.between (between_one y.next))) (base_curly x.derives) (omega (arith, ap length c.parts, x.count, ap length y.parts)) (omega (arith, c.seen, x.seen, y.seen)) (extends_then (extends_passed c) (extends_then x.extends (extends_passed y)))
            (subst (λ n. Stands h.text.now (held h) (n - 1) x.formula) (ap length (sym y.parts)) (stands_on (extends_passed y) x.formula (count_of e - 1) x.stands)) x.narrow top z

  -- ( reg )
  module _ {b : Draft} (c : Passed (sign Open) 0 d b) where
    opened_round : (σ : List Goal) (κ : List Bracket) → judged d (phrase base ∷ σ) (square a.count ∷ κ) ≡ judged b (phrase reg ∷ expect Close ∷ σ) (square a.count ∷ κ)
    opened_round σ κ = passed_on c (omega arith) (phrase base ∷ σ) (phrase reg ∷ expect Close ∷ σ) (square a.count ∷ κ) refl refl

    pub group_fails : (f : Fault) → FailsRegular reg b a f → FailsRegular base d a f
    group_fails f x σ κ = opened_round σ κ ∙ x (expect Close ∷ σ) κ

    module _ {e : Draft} {u : Letters} {p : Piece} (x : ReadRegular Reg (phrase asts ∷ phrase dots ∷ phrase bars ∷ []) b e a u p) where
      pub group_unclosed : (f : Fault) → Lacks Close e f → FailsRegular base d a f
      group_unclosed f y σ κ = opened_round σ κ ∙ reg_unclosed x Close f y σ κ

      pub group_read : {h : Draft} → Passed (sign Close) 0 e h → ReadRegular Base [] d h a u p
      group_read {h} y = record {
        regular = x.regular;
        words = sign Open ∷ x.words ++ sign Close ∷ [];
        between = more c.next (between_join x.between (between_one y.next));
        derives = base_round x.derives;
        count = omega (arith, ap length c.parts, x.count, ap length y.parts);
        seen = omega (arith, c.seen, x.seen, y.seen);
        extends = extends_then (extends_passed c) (extends_then x.extends (extends_passed y));
        letters = x.letters;
        rows = x.rows;
        labels = x.labels;
        built = x.built;
        stand = letters_on (extends_passed y) x.regular (count_of e) (count_of h) (labels_of u) a.count (omega (arith, ap length y.parts)) x.stand;
        narrow = x.narrow;
        over = λ σ κ. refl;
      }

-- [ reg ]
module _ {d b : Draft} (a : Letters) (none : a.count ≡ 0) (c : Passed (sign OpenSquare) 0 d b) where
  opened_square : (σ : List Goal) (κ : List Bracket) → judged d (expect OpenSquare ∷ phrase reg ∷ expect CloseSquare ∷ σ) κ ≡ judged b (phrase reg ∷ expect CloseSquare ∷ σ) (square a.count ∷ κ)
  opened_square σ κ =
      passed_on c (omega arith) (expect OpenSquare ∷ phrase reg ∷ expect CloseSquare ∷ σ) (phrase reg ∷ expect CloseSquare ∷ σ) κ refl refl
      ∙ ap (λ n. judged b (phrase reg ∷ expect CloseSquare ∷ σ) (square n ∷ κ)) (sym none)

  pub bracketed_fails : (f : Fault) → FailsRegular reg b a f → FailsBracketed d f
  bracketed_fails f x σ κ = opened_square σ κ ∙ x (expect CloseSquare ∷ σ) κ

  module _ {e : Draft} {u : Letters} {p : Piece} (x : ReadRegular Reg (phrase asts ∷ phrase dots ∷ phrase bars ∷ []) b e a u p) where
    pub bracketed_unclosed : (f : Fault) → Lacks CloseSquare e f → FailsBracketed d f
    bracketed_unclosed f y σ κ = opened_square σ κ ∙ reg_unclosed x CloseSquare f y σ κ

    pub bracketed_read : {h : Draft} → Passed (sign CloseSquare) 0 e h → (m : Automaton) → m.letters ≡ u → (Built x.regular 0 p u → u.count ≡ size x.regular → AutomatonOf x.regular m) → ReadBracketed d h m
    bracketed_read {h} y m is made = record {
      regular = x.regular;
      words = x.words;
      between = more c.next (between_join x.between (between_one y.next));
      derives = x.derives;
      count = omega (arith, ap length c.parts, x.count, ap length y.parts);
      seen = omega (arith, c.seen, x.seen, y.seen);
      extends = extends_then (extends_passed c) (extends_then x.extends (extends_passed y));
      short = omega (arith, x.letters, u.few);
      automaton = made (subst (λ o. Built x.regular o p u) none x.built) (omega (arith, x.letters));
      stand =
          subst (λ z. LettersStand h.text.now (held h) (count_of h) (labels_of z) 0 x.regular) (sym is)
          (letters_on (extends_passed y) x.regular (count_of e) (count_of h) (labels_of u) 0 (omega (arith, ap length y.parts))
          (subst (λ o. LettersStand e.text.now (held e) (count_of e) (labels_of u) o x.regular) none x.stand));
      narrow = x.narrow;
    }
