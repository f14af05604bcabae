-- The words that goals can stand for: every goals stand for some, and a step keeps them.
use Rattle.std.proofs.Common.{◌≡◌, Bool, true, false, cond, List, [], ◌∷◌, ◌++◌, Some, None, refl, ap, append_assoc, append-nil, rules}
use Rattle.logic.specs.Formulas.{Formula, top, Regular, letter}
use Rattle.grammar.specs.declared.Sign.{Sign}
use Rattle.grammar.specs.declared.Sign.TheVariants.{Open, Close, OpenSquare, CloseSquare, OpenCurly, CloseCurly, Dot, Bar, Star}
use Rattle.grammar.specs.declared.Key.{Key}
use Rattle.grammar.specs.declared.Key.TheVariants.{True, False, Not, And, Or, Path, Cycle}
use Rattle.grammar.specs.Words.{Word, sign, key, name}
use Rattle.grammar.specs.Grammar.{Atom, atom_name, atom_true, atom_false, Phrase, State, Conj, Unary, Reg, Seq, Starred, Base, Derives, state_is, state_or, conj_is, conj_and, unary_not, unary_path, unary_cycle, unary_atom, unary_round, reg_is, reg_or, seq_is, seq_then, star_is, star_more, base_atom, base_curly, base_round}
use Rattle.grammar.specs.Judging.{Kind, state, ors, conj, ands, unary, reg, bars, seq, dots, starred, asts, base, Goal, expect, phrase, is_sign, is_or, is_and, unary_at, base_at, then, step}
use Rattle.std.proofs.lemmas.Option.{same_Some}

abbrev FormulaWords : (Formula → Phrase) → List Word → Type 0
FormulaWords P us = (f : Formula) × Derives (P f) us

abbrev RegularWords : (Regular → Phrase) → List Word → Type 0
RegularWords P us = (r : Regular) × Derives (P r) us

-- the words carry every phrase in front of them on
abbrev GoesOn : (List Word → Type 0) → List Word → Type 0
GoesOn P vs = (us : List Word) → P us → P (us ++ vs)

abbrev WordsOf : Kind → List Word → Type 0
WordsOf state us = FormulaWords State us
WordsOf ors us = GoesOn (FormulaWords State) us
WordsOf conj us = FormulaWords Conj us
WordsOf ands us = GoesOn (FormulaWords Conj) us
WordsOf unary us = FormulaWords Unary us
WordsOf reg us = RegularWords Reg us
WordsOf bars us = GoesOn (RegularWords Reg) us
WordsOf seq us = RegularWords Seq us
WordsOf dots us = GoesOn (RegularWords Seq) us
WordsOf starred us = RegularWords Starred us
WordsOf asts us = GoesOn (RegularWords Starred) us
WordsOf base us = RegularWords Base us

abbrev pub Yields : List Goal → List Word → Type 0
Yields [] ws = ws ≡ []
Yields (expect s ∷ σ) ws = (vs : List Word) × (ws ≡ sign s ∷ vs) × Yields σ vs
Yields (phrase k ∷ σ) ws = (us : List Word) × (vs : List Word) × (ws ≡ us ++ vs) × WordsOf k us × Yields σ vs

-- a phrase, and then what carries it on
carried : (k t j : Kind) (σ : List Goal) (ws : List Word) → ((us vs : List Word) → WordsOf k us → WordsOf t vs → WordsOf j (us ++ vs)) → Yields (phrase k ∷ phrase t ∷ σ) ws → Yields (phrase j ∷ σ) ws
carried k t j σ ws glue (us, rest, e, d, y) = (us ++ y.0, y.1, rw (e, y.2, append_assoc), glue us y.0 d y.3, y.4)

as_state : (σ : List Goal) (ws : List Word) → Yields (phrase conj ∷ phrase ors ∷ σ) ws → Yields (phrase state ∷ σ) ws
as_state σ ws = carried conj ors state σ ws (λ us vs d t. t us (d.0, state_is d.1))

as_conj : (σ : List Goal) (ws : List Word) → Yields (phrase unary ∷ phrase ands ∷ σ) ws → Yields (phrase conj ∷ σ) ws
as_conj σ ws = carried unary ands conj σ ws (λ us vs d t. t us (d.0, conj_is d.1))

as_reg : (σ : List Goal) (ws : List Word) → Yields (phrase seq ∷ phrase bars ∷ σ) ws → Yields (phrase reg ∷ σ) ws
as_reg σ ws = carried seq bars reg σ ws (λ us vs d t. t us (d.0, reg_is d.1))

as_seq : (σ : List Goal) (ws : List Word) → Yields (phrase starred ∷ phrase dots ∷ σ) ws → Yields (phrase seq ∷ σ) ws
as_seq σ ws = carried starred dots seq σ ws (λ us vs d t. t us (d.0, seq_is d.1))

as_starred : (σ : List Goal) (ws : List Word) → Yields (phrase base ∷ phrase asts ∷ σ) ws → Yields (phrase starred ∷ σ) ws
as_starred σ ws = carried base asts starred σ ws (λ us vs d t. t us (d.0, star_is d.1))

pub sign_is : (s : Sign) (w : Word) → is_sign s w ≡ true → w ≡ sign s
sign_is s w e = search rules

pub or_is : (w : Word) → is_or w ≡ true → w ≡ key Or
or_is w e = search rules

pub and_is : (w : Word) → is_and w ≡ true → w ≡ key And
and_is w e = search rules

-- nothing carries on anything
nothing_more : (P : List Word → Type 0) → GoesOn P []
nothing_more P us d = rw append-nil d

-- a joint, what stands behind it, and what carries that on
joint_more : (P Q : List Word → Type 0) (w : Word) → ((us vs : List Word) → P us → Q vs → P (us ++ w ∷ vs)) → (vs ws : List Word) → Q vs → GoesOn P ws → GoesOn P (w ∷ (vs ++ ws))
joint_more P Q w join vs ws d on us e = rw append_assoc at (on (us ++ w ∷ vs) (join us vs e d))

module _ (σ : List Goal) (τ : List Goal) (ws : List Word) (y : Yields τ ws) where
  on : (π : List Goal) → Some π ≡ Some τ → Yields π ws
  on π e = rw (same_Some π τ e) y

  -- at a word that a goal of one sign, or of a joint, takes or passes
  sign_back_to : (s : Sign) (w : Word) → cond (is_sign s w) (Some σ) None ≡ Some τ → Yields (expect s ∷ σ) (w ∷ ws)
  sign_back_to s w e = (ws, rw (sign_is s w (search rules)), on σ (search rules))

  tail_back : (t : Kind) (π : List Goal) (test : Bool) (w j : Word) → (test ≡ true → w ≡ j) → (Yields π ws → Yields (phrase t ∷ σ) (j ∷ ws)) → WordsOf t [] → (step σ w ≡ Some τ → Yields σ (w ∷ ws)) → cond test (Some π) (step σ w) ≡ Some τ → Yields (phrase t ∷ σ) (w ∷ ws)
  tail_back t π true w j is more none rest e = rw (is refl) (more (on π e))
  tail_back t π false w j is more none rest e = ([], w ∷ ws, refl, none, rest e)

  -- a phrase that is one atom
  unary_one : (f : Formula) (w : Word) → Atom f w → Some σ ≡ Some τ → Yields (phrase unary ∷ σ) (w ∷ ws)
  unary_one f w a e = (w ∷ [], ws, refl, (f, unary_atom a), on σ e)

  base_one : (f : Formula) (w : Word) → Atom f w → Some σ ≡ Some τ → Yields (phrase base ∷ σ) (w ∷ ws)
  base_one f w a e = (w ∷ [], ws, refl, (letter f, base_atom a), on σ e)

  -- a phrase between two signs
  closed : (k j : Kind) (s : Sign) (w : Word) → ((us : List Word) → WordsOf k us → WordsOf j (w ∷ us ++ sign s ∷ [])) → Some (phrase k ∷ expect s ∷ σ) ≡ Some τ → Yields (phrase j ∷ σ) (w ∷ ws)
  closed k j s w wrap e =
      let x = on (phrase k ∷ expect s ∷ σ) e in
      let c = x.4 in
      let all = append_assoc x.0 (sign s ∷ []) c.0 in
      (w ∷ x.0 ++ sign s ∷ [], c.0, cc, wrap x.0 x.3, c.2)

  unary_sign_back : (s : Sign) → then (unary_at (sign s)) σ ≡ Some τ → Yields (phrase unary ∷ σ) (sign s ∷ ws)
  unary_sign_back s e = let round = closed state unary Close (sign Open) (λ us d. (d.0, unary_round d.1)) in search rules

  unary_key_back : (k : Key) → then (unary_at (key k)) σ ≡ Some τ → Yields (phrase unary ∷ σ) (key k ∷ ws)
  unary_key_back True e = unary_one top (key True) atom_true e
  unary_key_back False e = unary_one _ (key False) atom_false e
  unary_key_back Not e =
      let x = on (phrase unary ∷ σ) e in
      (key Not ∷ x.0, x.1, ap (λ l. key Not ∷ l) x.2, (_, unary_not x.3.1), x.4)
  unary_key_back And e = absurd cc
  unary_key_back Or e = absurd cc
  unary_key_back (Path q) e =
      let x = on (expect OpenSquare ∷ phrase reg ∷ expect CloseSquare ∷ phrase unary ∷ σ) e in
      let r = x.2 in
      let c = r.4 in
      let f = c.2 in
      let all = append_assoc r.0 (sign CloseSquare ∷ f.0) f.1 in
      (key (Path q) ∷ sign OpenSquare ∷ r.0 ++ sign CloseSquare ∷ f.0, f.1, cc, (_, unary_path r.3.1 f.3.1), f.4)
  unary_key_back (Cycle k) e =
      let x = on (expect OpenSquare ∷ phrase reg ∷ expect CloseSquare ∷ σ) e in
      let r = x.2 in
      let c = r.4 in
      let all = append_assoc r.0 (sign CloseSquare ∷ []) c.0 in
      (key (Cycle k) ∷ sign OpenSquare ∷ r.0 ++ sign CloseSquare ∷ [], c.0, cc, (_, unary_cycle r.3.1), c.2)

  pub unary_back : (w : Word) → then (unary_at w) σ ≡ Some τ → Yields (phrase unary ∷ σ) (w ∷ ws)
  unary_back (sign s) e = unary_sign_back s e
  unary_back (key k) e = unary_key_back k e
  unary_back (name w) e = unary_one _ (name w) atom_name e

  base_sign_back : (s : Sign) → then (base_at (sign s)) σ ≡ Some τ → Yields (phrase base ∷ σ) (sign s ∷ ws)
  base_sign_back s e =
      let round = closed reg base Close (sign Open) (λ us d. (d.0, base_round d.1)) in
      let curly = closed state base CloseCurly (sign OpenCurly) (λ us d. (letter d.0, base_curly d.1)) in
      search rules

  base_key_back : (k : Key) → then (base_at (key k)) σ ≡ Some τ → Yields (phrase base ∷ σ) (key k ∷ ws)
  base_key_back k e = let t = base_one _ (key True) atom_true in let f = base_one _ (key False) atom_false in search rules

  pub base_back : (w : Word) → then (base_at w) σ ≡ Some τ → Yields (phrase base ∷ σ) (w ∷ ws)
  base_back (sign s) e = base_sign_back s e
  base_back (key k) e = base_key_back k e
  base_back (name w) e = base_one _ (name w) atom_name e

-- one more behind a joint
joint_yields : (k t : Kind) (w : Word) (σ : List Goal) (ws : List Word) → ((vs us : List Word) → WordsOf k vs → WordsOf t us → WordsOf t (w ∷ (vs ++ us))) → Yields (phrase k ∷ phrase t ∷ σ) ws → Yields (phrase t ∷ σ) (w ∷ ws)
joint_yields k t w σ ws join x = let y = x.4 in (w ∷ (x.0 ++ y.0), y.1, rw (x.2, y.2, append_assoc), join x.0 y.0 x.3 y.3, y.4)

-- one more star
star_yields : (σ : List Goal) (ws : List Word) → Yields (phrase asts ∷ σ) ws → Yields (phrase asts ∷ σ) (sign Star ∷ ws)
star_yields σ ws x =
    (sign Star ∷ x.0, x.1, rw x.2, (λ us d. rw append_assoc at (x.3 (us ++ sign Star ∷ []) (_, star_more d.1))), x.4)

-- what a step leaves, with the word in front
pub backward : (σ : List Goal) (w : Word) (τ : List Goal) (ws : List Word) → Yields τ ws → step σ w ≡ Some τ → Yields σ (w ∷ ws)
backward [] w τ ws y e = absurd cc
backward (expect s ∷ σ) w τ ws y e = sign_back_to σ τ ws y s w e
backward (phrase state ∷ σ) w τ ws y e = as_state σ _ (as_conj (phrase ors ∷ σ) _ (unary_back (phrase ands ∷ phrase ors ∷ σ) τ ws y w e))
backward (phrase ors ∷ σ) w τ ws y e =
    tail_back σ τ ws y ors (phrase conj ∷ phrase ors ∷ σ) (is_or w) w (key Or) (or_is w)
    (joint_yields conj ors (key Or) σ ws (joint_more (FormulaWords State) (FormulaWords Conj) (key Or) (λ us vs d c. (_, state_or d.1 c.1)))) (nothing_more (FormulaWords State)) (backward σ w τ ws y) e
backward (phrase conj ∷ σ) w τ ws y e = as_conj σ _ (unary_back (phrase ands ∷ σ) τ ws y w e)
backward (phrase ands ∷ σ) w τ ws y e =
    tail_back σ τ ws y ands (phrase unary ∷ phrase ands ∷ σ) (is_and w) w (key And) (and_is w)
    (joint_yields unary ands (key And) σ ws (joint_more (FormulaWords Conj) (FormulaWords Unary) (key And) (λ us vs d c. (_, conj_and d.1 c.1)))) (nothing_more (FormulaWords Conj)) (backward σ w τ ws y) e
backward (phrase unary ∷ σ) w τ ws y e = unary_back σ τ ws y w e
backward (phrase reg ∷ σ) w τ ws y e =
    as_reg σ _ (as_seq (phrase bars ∷ σ) _ (as_starred (phrase dots ∷ phrase bars ∷ σ) _ (base_back (phrase asts ∷ phrase dots ∷ phrase bars ∷ σ) τ ws y w e)))
backward (phrase bars ∷ σ) w τ ws y e =
    tail_back σ τ ws y bars (phrase seq ∷ phrase bars ∷ σ) (is_sign Bar w) w (sign Bar) (sign_is Bar w)
    (joint_yields seq bars (sign Bar) σ ws (joint_more (RegularWords Reg) (RegularWords Seq) (sign Bar) (λ us vs d c. (_, reg_or d.1 c.1)))) (nothing_more (RegularWords Reg)) (backward σ w τ ws y) e
backward (phrase seq ∷ σ) w τ ws y e = as_seq σ _ (as_starred (phrase dots ∷ σ) _ (base_back (phrase asts ∷ phrase dots ∷ σ) τ ws y w e))
backward (phrase dots ∷ σ) w τ ws y e =
    tail_back σ τ ws y dots (phrase starred ∷ phrase dots ∷ σ) (is_sign Dot w) w (sign Dot) (sign_is Dot w)
    (joint_yields starred dots (sign Dot) σ ws (joint_more (RegularWords Seq) (RegularWords Starred) (sign Dot) (λ us vs d c. (_, seq_then d.1 c.1)))) (nothing_more (RegularWords Seq)) (backward σ w τ ws y) e
backward (phrase starred ∷ σ) w τ ws y e = as_starred σ _ (base_back (phrase asts ∷ σ) τ ws y w e)
backward (phrase asts ∷ σ) w τ ws y e =
    tail_back σ τ ws y asts (phrase asts ∷ σ) (is_sign Star w) w (sign Star) (sign_is Star w) (star_yields σ ws) (nothing_more (RegularWords Starred)) (backward σ w τ ws y) e
backward (phrase base ∷ σ) w τ ws y e = base_back σ τ ws y w e

abbrev SomeWords : List Goal → Type 0
SomeWords σ = (us : List Word) × Yields σ us

-- a phrase of some words in front
in_front : (k : Kind) (σ : List Goal) (us : List Word) → WordsOf k us → SomeWords σ → SomeWords (phrase k ∷ σ)
in_front k σ us d s = (us ++ s.0, (us, s.0, refl, d, s.1))

-- all goals can be met
pub finish : (σ : List Goal) → SomeWords σ
finish [] = ([], refl)
finish (expect s ∷ σ) = let f = finish σ in (sign s ∷ f.0, (f.0, refl, f.1))
finish (phrase state ∷ σ) = in_front state σ (key True ∷ []) (top, state_is (conj_is (unary_atom atom_true))) (finish σ)
finish (phrase ors ∷ σ) = in_front ors σ [] (nothing_more (FormulaWords State)) (finish σ)
finish (phrase conj ∷ σ) = in_front conj σ (key True ∷ []) (top, conj_is (unary_atom atom_true)) (finish σ)
finish (phrase ands ∷ σ) = in_front ands σ [] (nothing_more (FormulaWords Conj)) (finish σ)
finish (phrase unary ∷ σ) = in_front unary σ (key True ∷ []) (top, unary_atom atom_true) (finish σ)
finish (phrase reg ∷ σ) = in_front reg σ (key True ∷ []) (letter top, reg_is (seq_is (star_is (base_atom atom_true)))) (finish σ)
finish (phrase bars ∷ σ) = in_front bars σ [] (nothing_more (RegularWords Reg)) (finish σ)
finish (phrase seq ∷ σ) = in_front seq σ (key True ∷ []) (letter top, seq_is (star_is (base_atom atom_true))) (finish σ)
finish (phrase dots ∷ σ) = in_front dots σ [] (nothing_more (RegularWords Seq)) (finish σ)
finish (phrase starred ∷ σ) = in_front starred σ (key True ∷ []) (letter top, star_is (base_atom atom_true)) (finish σ)
finish (phrase asts ∷ σ) = in_front asts σ [] (nothing_more (RegularWords Starred)) (finish σ)
finish (phrase base ∷ σ) = in_front base σ (key True ∷ []) (letter top, base_atom atom_true) (finish σ)
