-- A walk over the words tells whether some rule begins with them.
use Rattle.std.proofs.Common.{◌≡◌, ℕ, Bool, true, false, List, [], ◌∷◌, ◌++◌, Some, None, Option, sym, refl, ap, ◌∙◌, zero-add, arith, append-nil, rules}
use Rattle.logic.specs.Formulas.{Formula, Regular, parts, Each, EachLetter, name as named, top, bottom, neg, both, either, path, cycle, letter, seq, alt, star}
use Rattle.grammar.specs.Words.{Word}
use Rattle.grammar.specs.Grammar.{State, Derives, Begins}
use Rattle.grammar.specs.Judging.{state, ors, ands, phrase, Goal, step, Standing, standing, start, part_allowed, letter_allowed, moved, move_to, move}
use Rattle.grammar.proofs.Passing.{walk, moves, walk_step, Fits, Small, through}
use Rattle.grammar.proofs.Yielding.{Yields, backward, finish}
use Rattle.std.proofs.lemmas.Option.{same_Some}

-- what a move needs and gives
pub record Moved (few small : ℕ → Bool) (s : Standing) (w : Word) (t : Standing) : Type 0 where
  pub goals : List Goal
  pub steps : step s.goals w ≡ Some goals
  pub is : t ≡ moved goals s w
  pub part_fit : part_allowed few s.seen w ≡ true
  pub letter_fit : letter_allowed small s.brackets w ≡ true

pub told : (few small : ℕ → Bool) (s : Standing) (w : Word) (t : Standing) → move few small s w ≡ Some t → Moved few small s w t
told few small s w t e = go (part_allowed few s.seen w) refl (letter_allowed small s.brackets w) refl (step s.goals w) refl e
  where
    go : (a : Bool) → part_allowed few s.seen w ≡ a → (b : Bool) → letter_allowed small s.brackets w ≡ b → (o : Option (List Goal)) → step s.goals w ≡ o → move_to a b o s w ≡ Some t → Moved few small s w t
    go true p true q (Some τ) r h = record { goals = τ; steps = r; is = sym (same_Some (moved τ s w) t h); part_fit = p; letter_fit = q }
    go true p true q None r h = absurd cc
    go true p false q o r h = absurd cc
    go false p b q o r h = absurd cc

-- no limits
abbrev pub free : ℕ → Bool
free n = true

pub free_moves : (s : Standing) (w : Word) (τ : List Goal) → step s.goals w ≡ Some τ → move free free s w ≡ Some (moved τ s w)
free_moves s w τ e = moves free free s w τ (search rules) (search rules) e

pub move_free : (few small : ℕ → Bool) (s : Standing) (w : Word) (t : Standing) → move few small s w ≡ Some t → move free free s w ≡ Some t
move_free few small s w t e = let k = told few small s w t e in let m = free_moves s w k.goals k.steps in cc

module _ (few small : ℕ → Bool) where
  pub walk_join : (s t : Standing) (us vs : List Word) → walk few small s us ≡ Some t → walk few small s (us ++ vs) ≡ walk few small t vs
  walk_join s t [] vs e = ap (λ x. walk few small x vs) (same_Some s t e)
  walk_join s t (u ∷ us) vs e = let x = walk_step few small s t u us e in let r = walk_join x.0 t us vs x.2 in cc

  -- a walk over two lists stops between them
  pub walk_front : (s t : Standing) (us vs : List Word) → walk few small s (us ++ vs) ≡ Some t → (u : Standing) × (walk few small s us ≡ Some u) × (walk few small u vs ≡ Some t)
  walk_front s t [] vs e = (s, refl, e)
  walk_front s t (w ∷ us) vs e =
      let x = walk_step few small s t w (us ++ vs) e in
      let r = walk_front x.0 t us vs x.2 in
      (r.0, cc, r.2)

  pub walk_one : (s t : Standing) (w : Word) → walk few small s (w ∷ []) ≡ Some t → move few small s w ≡ Some t
  walk_one s t w e = let x = walk_step few small s t w [] e in x.1 ∙ x.2

  pub walk_free : (s t : Standing) (us : List Word) → walk few small s us ≡ Some t → walk free free s us ≡ Some t
  walk_free s t [] e = e
  walk_free s t (w ∷ us) e =
      let x = walk_step few small s t w us e in
      let m = move_free few small s w x.0 x.1 in
      let r = walk_free x.0 t us x.2 in
      cc

  -- words that the last goals stand for, with those of the walk in front
  walk_yields : (s t : Standing) (us vs : List Word) → walk few small s us ≡ Some t → Yields t.goals vs → Yields s.goals (us ++ vs)
  walk_yields s t [] vs e y = rw (same_Some s t e) y
  walk_yields s t (w ∷ us) vs e y =
      let x = walk_step few small s t w us e in
      let k = told few small s w x.0 x.1 in
      backward s.goals w k.goals (us ++ vs) (rw k.is at (walk_yields x.0 t us vs x.2 y)) k.steps

  -- where a walk comes through, some rule begins so
  pub begins : (t : Standing) (us : List Word) → walk few small start us ≡ Some t → Begins us
  begins t us e =
      let f = finish t.goals in
      let y = walk_yields start t us f.0 e f.1 in
      let all = append-nil y.0 in
      let e : us ++ f.0 ≡ y.0 = cc in
      (f.0, (y.3.0, rw e y.3.1))

-- Where P holds of all expressions, it holds of each in a formula; and what follows from P holds where P does.
mutual
  pub each_all : (P : Regular → Type 0) → ((r : Regular) → P r) → (f : Formula) → Each P f
  each_all P all (named w) = tt
  each_all P all top = tt
  each_all P all bottom = tt
  each_all P all (neg f) = each_all P all f
  each_all P all (both f g) = (each_all P all f, each_all P all g)
  each_all P all (either f g) = (each_all P all f, each_all P all g)
  each_all P all (path q r f) = (all r, each_letter_all P all r, each_all P all f)
  each_all P all (cycle c r) = (all r, each_letter_all P all r)

  each_letter_all : (P : Regular → Type 0) → ((r : Regular) → P r) → (r : Regular) → EachLetter P r
  each_letter_all P all (letter f) = each_all P all f
  each_letter_all P all (seq r q) = (each_letter_all P all r, each_letter_all P all q)
  each_letter_all P all (alt r q) = (each_letter_all P all r, each_letter_all P all q)
  each_letter_all P all (star r) = each_letter_all P all r

mutual
  pub each_map : (P Q : Regular → Type 0) → ((r : Regular) → P r → Q r) → (f : Formula) → Each P f → Each Q f
  each_map P Q t (named w) e = tt
  each_map P Q t top e = tt
  each_map P Q t bottom e = tt
  each_map P Q t (neg f) e = each_map P Q t f e
  each_map P Q t (both f g) e = (each_map P Q t f e.0, each_map P Q t g e.1)
  each_map P Q t (either f g) e = (each_map P Q t f e.0, each_map P Q t g e.1)
  each_map P Q t (path q r f) e = (t r e.0, each_letter_map P Q t r e.1, each_map P Q t f e.2)
  each_map P Q t (cycle c r) e = (t r e.0, each_letter_map P Q t r e.1)

  pub each_letter_map : (P Q : Regular → Type 0) → ((r : Regular) → P r → Q r) → (r : Regular) → EachLetter P r → EachLetter Q r
  each_letter_map P Q t (letter f) e = each_map P Q t f e
  each_letter_map P Q t (seq r q) e = (each_letter_map P Q t r e.0, each_letter_map P Q t q e.1)
  each_letter_map P Q t (alt r q) e = (each_letter_map P Q t r e.0, each_letter_map P Q t q e.1)
  each_letter_map P Q t (star r) e = each_letter_map P Q t r e

-- behind the words of a rule
abbrev pub behind : ℕ → Standing
behind n = standing (phrase ands ∷ phrase ors ∷ []) n []

-- a rule is walked over to its end
pub walked : (few small : ℕ → Bool) (f : Formula) (us : List Word) → Derives (State f) us → Fits few (parts f) → Each (Small few small) f → walk few small start us ≡ Some (behind (parts f))
walked few small f us d h s =
    ap (walk few small start) (sym (append-nil us))
    ∙ through few small d (phrase state ∷ []) [] 0 [] [] (λ w. refl) tt (λ i l. h i (omega arith)) s
    ∙ ap (λ n. Some (behind n)) (zero-add (parts f))

-- where some rule begins so, a walk without limits comes through
pub comes_through : (us : List Word) → Begins us → (t : Standing) × (walk free free start us ≡ Some t)
comes_through us b =
    let w = walked free free b.1.0 (us ++ b.0) b.1.1 (λ i h. refl) (each_all (Small free free) (λ r i h. refl) b.1.0) in
    let r = walk_front free free start (behind (parts b.1.0)) us b.0 w in
    (r.0, r.1)
