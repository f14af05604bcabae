-- A reader that walks over the words of a derived phrase stands behind it, with its parts and letters counted.
use Rattle.std.proofs.Common.{◌≡◌, ℕ, ◌+◌, ◌<◌, ◌≤◌, Bool, true, List, [], ◌∷◌, ◌++◌, Some, None, Option, refl, ap, ◌∙◌, append_assoc, arith, rules}
use Rattle.std.proofs.lemmas.Option.{option_and_then_some}
use Rattle.logic.specs.Formulas.{Formula, Regular, size, parts, letter_parts, Each, EachLetter}
use Rattle.grammar.specs.declared.Sign.TheVariants.{Open, Close, OpenSquare, CloseSquare, OpenCurly, CloseCurly, Dot, Bar, Star}
use Rattle.grammar.specs.declared.Key.TheVariants.{True, False, Not, And, Or, Path, Cycle}
use Rattle.grammar.specs.Words.{Word, sign, key, name}
use Rattle.grammar.specs.Grammar.{Atom, atom_name, atom_true, atom_false, Phrase, State, Conj, Unary, Reg, Seq, Starred, Base, Derives, state_is, state_or, conj_is, conj_and, unary_not, unary_path, unary_cycle, unary_atom, unary_round, reg_is, reg_or, seq_is, seq_then, star_is, star_more, base_atom, base_curly, base_round}
use Rattle.grammar.specs.Limits.{Bracket, square, curly, with_letter, after_word, with_word}
use Rattle.grammar.specs.Judging.{state, ors, conj, ands, unary, reg, bars, seq, dots, starred, asts, Goal, expect, phrase, unary_at, base_at, then, step, Standing, standing, letter_fits, part_allowed, letter_allowed, moved, move, Apart}

-- a test passes all numbers below n
abbrev pub Fits : (ℕ → Bool) → ℕ → Type 0
Fits t n = (i : ℕ) → i < n → t i ≡ true

module _ (few small : ℕ → Bool) where
  -- the reader after some words
  abbrev pub walk : Standing → List Word → Option Standing
  walk s [] = Some s
  walk s (w ∷ ws) = elim (move few small s w) [ Some t ↦ walk t ws | None ↦ None ]

  pub moves : (s : Standing) (w : Word) (τ : List Goal) → part_allowed few s.seen w ≡ true → letter_allowed small s.brackets w ≡ true → step s.goals w ≡ Some τ → move few small s w ≡ Some (moved τ s w)
  moves s w τ a b c = rw (a, b, c)

  pub walk_on : (s t : Standing) (w : Word) (ws : List Word) → move few small s w ≡ Some t → walk s (w ∷ ws) ≡ walk t ws
  walk_on s t w ws e = cc

  -- the first word of a walk that comes through, and the walk over the others
  pub walk_step : (s t : Standing) (w : Word) (ws : List Word) → walk s (w ∷ ws) ≡ Some t → (x : Standing) × (move few small s w ≡ Some x) × (walk x ws ≡ Some t)
  walk_step s t w ws e = option_and_then_some (λ x. walk x ws) (move few small s w) t e (λ x m h. (x, m, h))

  pass : (g τ : List Goal) (n : ℕ) (κ : List Bracket) (w : Word) (ws : List Word) → part_allowed few n w ≡ true → letter_allowed small κ w ≡ true → step g w ≡ Some τ → walk (standing g n κ) (w ∷ ws) ≡ walk (standing τ (with_word w n) (after_word w κ)) ws
  pass g τ n κ w ws a b c = walk_on (standing g n κ) (standing τ (with_word w n) (after_word w κ)) w ws (moves (standing g n κ) w τ a b c)

  count_is : (σ : List Goal) (κ : List Bracket) (vs : List Word) (n m : ℕ) → n ≡ m → walk (standing σ n κ) vs ≡ walk (standing σ m κ) vs
  count_is σ κ vs n m e = rw e

  letters_are : (σ : List Goal) (n : ℕ) (κ : List Bracket) (vs : List Word) (c d : ℕ) → c ≡ d → walk (standing σ n (square c ∷ κ)) vs ≡ walk (standing σ n (square d ∷ κ)) vs
  letters_are σ n κ vs c d e = rw e

  -- as many letters as the expression has fit
  abbrev pub Small : Regular → Type 0
  Small r = Fits small (size r)

  -- g opens as a unary would, with τ behind it
  abbrev pub UnaryFirst : List Goal → List Goal → Type 0
  UnaryFirst g τ = (w : Word) → step g w ≡ then (unary_at w) τ

  abbrev pub BaseFirst : List Goal → List Goal → Type 0
  BaseFirst g τ = (w : Word) → step g w ≡ then (base_at w) τ

  abbrev pub FormulaPasses : List Goal → Formula → List Word → Type 0
  FormulaPasses ρ f us = (g τ : List Goal) (n : ℕ) (κ : List Bracket) (vs : List Word) → UnaryFirst g (ρ ++ τ) → Apart κ → Fits few (n + parts f) → Each Small f → walk (standing g n κ) (us ++ vs) ≡ walk (standing (ρ ++ τ) (n + parts f) κ) vs

  abbrev pub RegularPasses : List Goal → Regular → List Word → Type 0
  RegularPasses ρ r us = (g τ : List Goal) (n c : ℕ) (κ : List Bracket) (vs : List Word) → BaseFirst g (ρ ++ τ) → Fits few (n + letter_parts r) → Fits small (c + size r) → EachLetter Small r → walk (standing g n (square c ∷ κ)) (us ++ vs) ≡ walk (standing (ρ ++ τ) (n + letter_parts r) (square (c + size r) ∷ κ)) vs

  -- what is left of a phrase that is read but may go on
  abbrev pub Passes : Phrase → List Word → Type 0
  Passes (State f) us = FormulaPasses (phrase ands ∷ phrase ors ∷ []) f us
  Passes (Conj f) us = FormulaPasses (phrase ands ∷ []) f us
  Passes (Unary f) us = FormulaPasses [] f us
  Passes (Reg r) us = RegularPasses (phrase asts ∷ phrase dots ∷ phrase bars ∷ []) r us
  Passes (Seq r) us = RegularPasses (phrase asts ∷ phrase dots ∷ []) r us
  Passes (Starred r) us = RegularPasses (phrase asts ∷ []) r us
  Passes (Base r) us = RegularPasses [] r us

  fewer : (t : ℕ → Bool) (m n : ℕ) → m ≤ n → Fits t n → Fits t m
  fewer t m n h f i l = f i (omega arith)

  apart_fits : (κ : List Bracket) → Apart κ → letter_fits small κ ≡ true
  apart_fits κ a = search rules

  apart_same : (κ : List Bracket) → Apart κ → with_letter κ ≡ κ
  apart_same κ a = search rules

  unary_one : {f : Formula} {w : Word} → Atom f w → FormulaPasses [] f (w ∷ [])
  unary_one (atom_name {w}) g τ n κ vs o a h s =
      pass g τ n κ (name w) vs (h n (omega arith)) (apart_fits κ a) (o (name w)) ∙ ap (λ k. walk (standing τ (n + 1) k) vs) (apart_same κ a)
  unary_one atom_true g τ n κ vs o a h s =
      pass g τ n κ (key True) vs (h n (omega arith)) (apart_fits κ a) (o (key True)) ∙ ap (λ k. walk (standing τ (n + 1) k) vs) (apart_same κ a)
  unary_one atom_false g τ n κ vs o a h s =
      pass g τ n κ (key False) vs (h n (omega arith)) (apart_fits κ a) (o (key False)) ∙ ap (λ k. walk (standing τ (n + 1) k) vs) (apart_same κ a)

  base_one : {f : Formula} {w : Word} → Atom f w → (g τ : List Goal) (n c : ℕ) (κ : List Bracket) (vs : List Word) → BaseFirst g τ → Fits few (n + parts f) → Fits small (c + 1) → walk (standing g n (square c ∷ κ)) (w ∷ vs) ≡ walk (standing τ (n + parts f) (square (c + 1) ∷ κ)) vs
  base_one (atom_name {w}) g τ n c κ vs o h s = pass g τ n (square c ∷ κ) (name w) vs (h n (omega arith)) (s c (omega arith)) (o (name w))
  base_one atom_true g τ n c κ vs o h s = pass g τ n (square c ∷ κ) (key True) vs (h n (omega arith)) (s c (omega arith)) (o (key True))
  base_one atom_false g τ n c κ vs o h s = pass g τ n (square c ∷ κ) (key False) vs (h n (omega arith)) (s c (omega arith)) (o (key False))

  regroup : (s : Standing) (us : List Word) (w : Word) (ws vs : List Word) → walk s ((us ++ w ∷ ws) ++ vs) ≡ walk s (us ++ w ∷ (ws ++ vs))
  regroup s us w ws vs = ap (walk s) (append_assoc us (w ∷ ws) vs)

  pub through : {a : Phrase} {us : List Word} → Derives a us → Passes a us
  through (state_is d) = λ g τ n κ vs o a h s. through d g (phrase ors ∷ τ) n κ vs o a h s
  through (state_or {f} {us = us} {vs = ws} d e) = λ g τ n κ vs o a h s.
      regroup (standing g n κ) us (key Or) ws vs
      ∙ through d g τ n κ (key Or ∷ (ws ++ vs)) o a (fewer few (n + parts f) _ (omega arith) h) s.0
      ∙ pass (phrase ands ∷ phrase ors ∷ τ) (phrase conj ∷ phrase ors ∷ τ) (n + parts f) κ (key Or) (ws ++ vs) (h (n + parts f) (omega arith)) refl refl
      ∙ through e (phrase conj ∷ phrase ors ∷ τ) (phrase ors ∷ τ) (n + parts f + 1) κ vs (λ w. refl) a (fewer few _ _ (omega arith) h) s.1
      ∙ count_is (phrase ands ∷ phrase ors ∷ τ) κ vs _ _ (omega arith)
  through (conj_is d) = λ g τ n κ vs o a h s. through d g (phrase ands ∷ τ) n κ vs o a h s
  through (conj_and {f} {us = us} {vs = ws} d e) = λ g τ n κ vs o a h s.
      regroup (standing g n κ) us (key And) ws vs
      ∙ through d g τ n κ (key And ∷ (ws ++ vs)) o a (fewer few (n + parts f) _ (omega arith) h) s.0
      ∙ pass (phrase ands ∷ τ) (phrase unary ∷ phrase ands ∷ τ) (n + parts f) κ (key And) (ws ++ vs) (h (n + parts f) (omega arith)) refl refl
      ∙ through e (phrase unary ∷ phrase ands ∷ τ) (phrase ands ∷ τ) (n + parts f + 1) κ vs (λ w. refl) a (fewer few _ _ (omega arith) h) s.1
      ∙ count_is (phrase ands ∷ τ) κ vs _ _ (omega arith)
  through (unary_not {f} {us} d) = λ g τ n κ vs o a h s.
      pass g (phrase unary ∷ τ) n κ (key Not) (us ++ vs) (h n (omega arith)) refl (o (key Not))
      ∙ through d (phrase unary ∷ τ) τ (n + 1) κ vs (λ w. refl) a (fewer few _ _ (omega arith) h) s
      ∙ count_is τ κ vs _ _ (omega arith)
  through (unary_path {q} {r} {us = us} {vs = ws} d e) = λ g τ n κ vs o a h s.
      pass g (expect OpenSquare ∷ phrase reg ∷ expect CloseSquare ∷ phrase unary ∷ τ) n κ (key (Path q)) (sign OpenSquare ∷ (us ++ sign CloseSquare ∷ ws) ++ vs) (h n (omega arith)) refl (o (key (Path q)))
      ∙ regroup (standing (phrase reg ∷ expect CloseSquare ∷ phrase unary ∷ τ) (n + 1) (square 0 ∷ κ)) us (sign CloseSquare) ws vs
      ∙ through d (phrase reg ∷ expect CloseSquare ∷ phrase unary ∷ τ) (expect CloseSquare ∷ phrase unary ∷ τ) (n + 1) 0 κ (sign CloseSquare ∷ (ws ++ vs)) (λ w. refl) (fewer few _ _ (omega arith) h) (fewer small _ _ (omega arith) s.0) s.1
      ∙ through e (phrase unary ∷ τ) τ (n + 1 + letter_parts r) κ vs (λ w. refl) a (fewer few _ _ (omega arith) h) s.2
      ∙ count_is τ κ vs _ _ (omega arith)
  through (unary_cycle {c} {r} {us} d) = λ g τ n κ vs o a h s.
      pass g (expect OpenSquare ∷ phrase reg ∷ expect CloseSquare ∷ τ) n κ (key (Cycle c)) (sign OpenSquare ∷ (us ++ sign CloseSquare ∷ []) ++ vs) (h n (omega arith)) refl (o (key (Cycle c)))
      ∙ regroup (standing (phrase reg ∷ expect CloseSquare ∷ τ) (n + 1) (square 0 ∷ κ)) us (sign CloseSquare) [] vs
      ∙ through d (phrase reg ∷ expect CloseSquare ∷ τ) (expect CloseSquare ∷ τ) (n + 1) 0 κ (sign CloseSquare ∷ vs) (λ w. refl) (fewer few _ _ (omega arith) h) (fewer small _ _ (omega arith) s.0) s.1
      ∙ count_is τ κ vs _ _ (omega arith)
  through (unary_atom x) = λ g τ n κ vs o a h s. unary_one x g τ n κ vs o a h s
  through (unary_round {f} {us} d) = λ g τ n κ vs o a h s.
      pass g (phrase state ∷ expect Close ∷ τ) n κ (sign Open) ((us ++ sign Close ∷ []) ++ vs) refl refl (o (sign Open))
      ∙ regroup (standing (phrase state ∷ expect Close ∷ τ) n κ) us (sign Close) [] vs
      ∙ through d (phrase state ∷ expect Close ∷ τ) (expect Close ∷ τ) n κ (sign Close ∷ vs) (λ w. refl) a h s
  through (reg_is d) = λ g τ n c κ vs o h l s. through d g (phrase bars ∷ τ) n c κ vs o h l s
  through (reg_or {r} {q} {us = us} {vs = ws} d e) = λ g τ n c κ vs o h l s.
      regroup (standing g n (square c ∷ κ)) us (sign Bar) ws vs
      ∙ through d g τ n c κ (sign Bar ∷ (ws ++ vs)) o (fewer few _ _ (omega arith) h) (fewer small _ _ (omega arith) l) s.0
      ∙ through e (phrase seq ∷ phrase bars ∷ τ) (phrase bars ∷ τ) (n + letter_parts r) (c + size r) κ vs (λ w. refl) (fewer few _ _ (omega arith) h) (fewer small _ _ (omega arith) l) s.1
      ∙ count_is (phrase asts ∷ phrase dots ∷ phrase bars ∷ τ) (square (c + size r + size q) ∷ κ) vs _ _ (omega arith)
      ∙ letters_are (phrase asts ∷ phrase dots ∷ phrase bars ∷ τ) (n + (letter_parts r + letter_parts q)) κ vs _ _ (omega arith)
  through (seq_is d) = λ g τ n c κ vs o h l s. through d g (phrase dots ∷ τ) n c κ vs o h l s
  through (seq_then {r} {q} {us = us} {vs = ws} d e) = λ g τ n c κ vs o h l s.
      regroup (standing g n (square c ∷ κ)) us (sign Dot) ws vs
      ∙ through d g τ n c κ (sign Dot ∷ (ws ++ vs)) o (fewer few _ _ (omega arith) h) (fewer small _ _ (omega arith) l) s.0
      ∙ through e (phrase starred ∷ phrase dots ∷ τ) (phrase dots ∷ τ) (n + letter_parts r) (c + size r) κ vs (λ w. refl) (fewer few _ _ (omega arith) h) (fewer small _ _ (omega arith) l) s.1
      ∙ count_is (phrase asts ∷ phrase dots ∷ τ) (square (c + size r + size q) ∷ κ) vs _ _ (omega arith)
      ∙ letters_are (phrase asts ∷ phrase dots ∷ τ) (n + (letter_parts r + letter_parts q)) κ vs _ _ (omega arith)
  through (star_is d) = λ g τ n c κ vs o h l s. through d g (phrase asts ∷ τ) n c κ vs o h l s
  through (star_more {r} {us} d) = λ g τ n c κ vs o h l s.
      regroup (standing g n (square c ∷ κ)) us (sign Star) [] vs ∙ through d g τ n c κ (sign Star ∷ vs) o h l s
  through (base_atom x) = λ g τ n c κ vs o h l s. base_one x g τ n c κ vs o h l
  through (base_curly {f} {us} d) = λ g τ n c κ vs o h l s.
      pass g (phrase state ∷ expect CloseCurly ∷ τ) n (square c ∷ κ) (sign OpenCurly) ((us ++ sign CloseCurly ∷ []) ++ vs) refl (l c (omega arith)) (o (sign OpenCurly))
      ∙ regroup (standing (phrase state ∷ expect CloseCurly ∷ τ) n (curly ∷ square (c + 1) ∷ κ)) us (sign CloseCurly) [] vs
      ∙ through d (phrase state ∷ expect CloseCurly ∷ τ) (expect CloseCurly ∷ τ) n (curly ∷ square (c + 1) ∷ κ) (sign CloseCurly ∷ vs) (λ w. refl) tt h s
  through (base_round {r} {us} d) = λ g τ n c κ vs o h l s.
      pass g (phrase reg ∷ expect Close ∷ τ) n (square c ∷ κ) (sign Open) ((us ++ sign Close ∷ []) ++ vs) refl refl (o (sign Open))
      ∙ regroup (standing (phrase reg ∷ expect Close ∷ τ) n (square c ∷ κ)) us (sign Close) [] vs
      ∙ through d (phrase reg ∷ expect Close ∷ τ) (expect Close ∷ τ) n c κ (sign Close ∷ vs) (λ w. refl) h l s
