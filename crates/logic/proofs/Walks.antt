-- Words of a position automaton, sign by sign, and that they are what an expression matches.
use Rattle.std.proofs.Common.{◌≡◌, ℕ, zero, suc, ◌+◌, ◌<◌, ◌≤◌, ◌⊎◌, ◌↔◌, refl, ◌∙◌, inl, inr, ⊎_elim, arith, rules}
use Rattle.machine.specs.Model.{Model}
use Rattle.logic.specs.Formulas.{Formula, Regular, letter, seq, alt, star, size}
use Rattle.logic.specs.Meaning.{Power, Sat, Match}
use Rattle.logic.specs.Positions.{Positions, one, joined, choice, again, positions}

-- which signs hold at which place of a path
abbrev pub Reading : Type 1
Reading = ℕ → ℕ → Type 0

-- p is read at i, n more signs follow, and the word ends before j
abbrev pub From : Positions → Reading → ℕ → ℕ → ℕ → ℕ → Type 0
From a R zero p i j = R i p × a.last p × (j ≡ suc i)
From a R (suc n) p i j = R i p × ((q : ℕ) × a.follow p q × From a R n q (suc i) j)

-- a word is read from i on, and ends before j
abbrev pub Walk : Positions → Reading → ℕ → ℕ → Type 0
Walk a R i j = (a.null × (j ≡ i)) ⊎ ((p : ℕ) × a.first p × ((n : ℕ) × From a R n p i j))

-- the sign p of an expression whose letters are numbered from o on holds in s
abbrev pub Reads : Model → ℕ → Regular → ℕ → ℕ → Type 0
Reads m s (letter f) o p = (p ≡ o) × Sat m s f
Reads m s (seq r q) o p = Reads m s r o p ⊎ Reads m s q (o + size r) p
Reads m s (alt r q) o p = Reads m s r o p ⊎ Reads m s q (o + size r) p
Reads m s (star r) o p = Reads m s r o p

abbrev pub along : Model → (ℕ → ℕ) → Regular → ℕ → Reading
along m π r o k p = Reads m (π k) r o p

-- the signs of a stand from lo to hi
pub record Inside (a : Positions) (lo hi : ℕ) : Type 0 where
  pub first : (p : ℕ) → a.first p → (lo ≤ p) × (p < hi)
  pub last : (p : ℕ) → a.last p → (lo ≤ p) × (p < hi)
  pub before : (p q : ℕ) → a.follow p q → (lo ≤ p) × (p < hi)
  pub behind : (p q : ℕ) → a.follow p q → (lo ≤ q) × (q < hi)

pub inside : (r : Regular) (o : ℕ) → Inside (positions r o) o (o + size r)
inside (letter f) o = search rules
inside (seq r q) o = let a = inside r o in let b = inside q (o + size r) in search rules
inside (alt r q) o = let a = inside r o in let b = inside q (o + size r) in search rules
inside (star r) o = let a = inside r o in search rules

pub reads_inside : (m : Model) (s : ℕ) (r : Regular) (o p : ℕ) → Reads m s r o p → (o ≤ p) × (p < o + size r)
reads_inside m s (letter f) o p w = omega (arith, w.0)
reads_inside m s (seq r q) o p w = let a = reads_inside m s r o p in let b = reads_inside m s q (o + size r) p in search rules
reads_inside m s (alt r q) o p w = let a = reads_inside m s r o p in let b = reads_inside m s q (o + size r) p in search rules
reads_inside m s (star r) o p w = reads_inside m s r o p w

-- a word of a, whose signs are in D, is a word of c
pub carry :
    (a c : Positions) (R S : Reading) (D : ℕ → Type 0) →
    ((k p : ℕ) → D p → R k p → S k p) →
    ((p : ℕ) → D p → a.last p → c.last p) →
    ((p q : ℕ) → D p → a.follow p q → c.follow p q × D q) →
    (n p i j : ℕ) → D p → From a R n p i j → From c S n p i j
carry a c R S D reads last follow zero p i j d w = (reads i p d w.0, last p d w.1, w.2)
carry a c R S D reads last follow (suc n) p i j d w =
    let f : c.follow p w.1.0 × D w.1.0 = follow p w.1.0 d w.1.1 in
    (reads i p d w.0, (w.1.0, f.0, carry a c R S D reads last follow n w.1.0 (suc i) j f.1 w.1.2))

abbrev Both : Reading → Reading → Reading
Both R S k p = R k p ⊎ S k p

-- the signs of a stand below mid, and those of b from mid on
record Apart (a b : Positions) (R S : Reading) (lo mid hi : ℕ) : Type 0 where
  front : Inside a lo mid
  back : Inside b mid hi
  reads_front : (k p : ℕ) → R k p → p < mid
  reads_back : (k p : ℕ) → S k p → mid ≤ p

apart :
    (m : Model) (π : ℕ → ℕ) (r q : Regular) (o : ℕ) →
    Apart (positions r o) (positions q (o + size r)) (along m π r o) (along m π q (o + size r)) o (o + size r) (o + size r + size q)
apart m π r q o = record {
  front = inside r o;
  back = inside q (o + size r);
  reads_front = λ k p x. (reads_inside m (π k) r o p x).1;
  reads_back = λ k p x. (reads_inside m (π k) q (o + size r) p x).0;
}

module _ {a b : Positions} {R S : Reading} {lo mid hi : ℕ} (s : Apart a b R S lo mid hi) where
  choice_a : (n p i j : ℕ) → p < mid → From (choice a b) (Both R S) n p i j → From a R n p i j
  choice_a = carry (choice a b) a (Both R S) R (λ p. p < mid) (λ k p d w. search rules) (λ p d w. search rules) (λ p q d w. search rules)

  choice_b : (n p i j : ℕ) → mid ≤ p → From (choice a b) (Both R S) n p i j → From b S n p i j
  choice_b = carry (choice a b) b (Both R S) S (λ p. mid ≤ p) (λ k p d w. search rules) (λ p d w. search rules) (λ p q d w. search rules)

  a_choice : (n p i j : ℕ) → From a R n p i j → From (choice a b) (Both R S) n p i j
  a_choice n p i j = carry a (choice a b) R (Both R S) (λ p. Unit {0}) (λ k p d. inl) (λ p d. inl) (λ p q d x. (inl x, tt)) n p i j tt

  b_choice : (n p i j : ℕ) → From b S n p i j → From (choice a b) (Both R S) n p i j
  b_choice n p i j = carry b (choice a b) S (Both R S) (λ p. Unit {0}) (λ k p d. inr) (λ p d. inr) (λ p q d x. (inr x, tt)) n p i j tt

  choice_split : (i j : ℕ) → Walk (choice a b) (Both R S) i j → Walk a R i j ⊎ Walk b S i j
  choice_split i j (inl w) = ⊎_elim (λ n. inl (inl (n, w.1))) (λ n. inr (inl (n, w.1))) w.0
  choice_split i j (inr w) =
      ⊎_elim
      (λ f. inl (inr (w.0, f, (w.2.0, choice_a w.2.0 w.0 i j (s.front.first w.0 f).1 w.2.1))))
      (λ f. inr (inr (w.0, f, (w.2.0, choice_b w.2.0 w.0 i j (s.back.first w.0 f).0 w.2.1))))
      w.1

  choice_left : (i j : ℕ) → Walk a R i j → Walk (choice a b) (Both R S) i j
  choice_left i j w = search (rules, a_choice)

  choice_right : (i j : ℕ) → Walk b S i j → Walk (choice a b) (Both R S) i j
  choice_right i j w = search (rules, b_choice)

  -- a word that is in b stays there
  joined_b : (n p i j : ℕ) → mid ≤ p → From (joined a b) (Both R S) n p i j → From b S n p i j
  joined_b = carry (joined a b) b (Both R S) S (λ p. mid ≤ p) (λ k p d w. search rules) (λ p d w. search rules) (λ p q d w. search rules)

  b_joined : (n p i j : ℕ) → From b S n p i j → From (joined a b) (Both R S) n p i j
  b_joined n p i j = carry b (joined a b) S (Both R S) (λ p. Unit {0}) (λ k p d. inr) (λ p d. inl) (λ p q d x. (inr (inl x), tt)) n p i j tt

  -- a word that begins in a goes on in a up to some k, and what follows is a word of b
  joined_a : (n p i j : ℕ) → p < mid → From (joined a b) (Both R S) n p i j → (k : ℕ) × ((c : ℕ) × From a R c p i k) × Walk b S k j
  joined_a zero p i j h w =
      let r : R i p = search rules in
      ⊎_elim (λ l. absurd (omega (arith, s.back.last p l))) (λ l. (j, (zero, (r, l.1, w.2)), inl (l.0, refl))) w.1
  joined_a (suc n) p i j h w =
      let r : R i p = search rules in
      let q : ℕ = w.1.0 in
      ⊎_elim
      (λ f. let t = joined_a n q (suc i) j (s.front.behind p q f).1 w.1.2 in (t.0, (suc t.1.0, (r, (q, f, t.1.1))), t.2))
      (⊎_elim
      (λ f. absurd (omega (arith, s.back.before p q f)))
      (λ f. (suc i, (zero, (r, f.0, refl)), inr (q, f.1, (n, joined_b n q (suc i) j (s.back.first q f.1).0 w.1.2)))))
      w.1.1

  a_joined : (n p i k j : ℕ) → From a R n p i k → Walk b S k j → (c : ℕ) × From (joined a b) (Both R S) c p i j
  a_joined zero p i k j w (inl e) = (zero, (inl w.0, inr (e.0, w.1), e.1 ∙ w.2))
  a_joined zero p i k j w (inr f) = (suc f.2.0, (inl w.0, (f.0, inr (inr (w.1, f.1)), rw w.2 at (b_joined f.2.0 f.0 k j f.2.1))))
  a_joined (suc n) p i k j w e =
      let t = a_joined n w.1.0 (suc i) k j w.1.2 e in
      (suc t.0, (inl w.0, (w.1.0, inl w.1.1, t.1)))

  joined_split : (i j : ℕ) → Walk (joined a b) (Both R S) i j → (k : ℕ) × Walk a R i k × Walk b S k j
  joined_split i j (inl w) = (i, inl (w.0.0, refl), inl (w.0.1, w.1))
  joined_split i j (inr w) =
      ⊎_elim
      (λ f. let t = joined_a w.2.0 w.0 i j (s.front.first w.0 f).1 w.2.1 in (t.0, inr (w.0, f, t.1), t.2))
      (λ f. (i, inl (f.0, refl), inr (w.0, f.1, (w.2.0, joined_b w.2.0 w.0 i j (s.back.first w.0 f.1).0 w.2.1))))
      w.1

  joined_glue : (i k j : ℕ) → Walk a R i k → Walk b S k j → Walk (joined a b) (Both R S) i j
  joined_glue i k j (inl w) (inl v) = inl ((w.0, v.0), v.1 ∙ w.1)
  joined_glue i k j (inl w) (inr v) = inr (v.0, inr (w.0, v.1), (v.2.0, rw w.1 at (b_joined v.2.0 v.0 k j v.2.1)))
  joined_glue i k j (inr w) v = inr (w.0, inl w.1, a_joined w.2.0 w.0 i k j w.2.1 v)

module _ (a : Positions) (R : Reading) where
  -- the first round, and then the others
  again_a : (n p i j : ℕ) → From (again a) R n p i j → (k : ℕ) × ((c : ℕ) × From a R c p i k) × ((c : ℕ) × Power (Walk a R) c k j)
  again_a zero p i j w = (j, (zero, w), (zero, refl))
  again_a (suc n) p i j w =
      let q : ℕ = w.1.0 in
      let t = again_a n q (suc i) j w.1.2 in
      ⊎_elim
      (λ f. (t.0, (suc t.1.0, (w.0, (q, f, t.1.1))), t.2))
      (λ f. (suc i, (zero, (w.0, f.0, refl)), (suc t.2.0, (t.0, inr (q, f.1, t.1), t.2.1))))
      w.1.1

  a_again : (n p i k j : ℕ) → From a R n p i k → Walk (again a) R k j → (c : ℕ) × From (again a) R c p i j
  a_again zero p i k j w (inl e) = (zero, (w.0, w.1, e.1 ∙ w.2))
  a_again zero p i k j w (inr f) = (suc f.2.0, (w.0, (f.0, inr (w.1, f.1), rw w.2 at f.2.1)))
  a_again (suc n) p i k j w e =
      let t = a_again n w.1.0 (suc i) k j w.1.2 e in
      (suc t.0, (w.0, (w.1.0, inl w.1.1, t.1)))

  again_split : (i j : ℕ) → Walk (again a) R i j → (c : ℕ) × Power (Walk a R) c i j
  again_split i j (inl w) = (zero, w.1)
  again_split i j (inr w) =
      let t = again_a w.2.0 w.0 i j w.2.1 in
      (suc t.2.0, (t.0, inr (w.0, w.1, t.1), t.2.1))

  again_one : (i k j : ℕ) → Walk a R i k → Walk (again a) R k j → Walk (again a) R i j
  again_one i k j (inl w) v = rw w.1 at v
  again_one i k j (inr w) v = inr (w.0, w.1, a_again w.2.0 w.0 i k j w.2.1 v)

  again_glue : (c i j : ℕ) → Power (Walk a R) c i j → Walk (again a) R i j
  again_glue zero i j w = inl (tt, w)
  again_glue (suc c) i j w = again_one i w.0 j w.1 (again_glue c w.0 j w.2)

power_map : (R Q : ℕ → ℕ → Type 0) → ((i j : ℕ) → R i j → Q i j) → (c i j : ℕ) → Power R c i j → Power Q c i j
power_map R Q f zero i j w = w
power_map R Q f (suc c) i j w = (w.0, f i w.0 w.1, power_map R Q f c w.0 j w.2)

match_walk : (m : Model) (π : ℕ → ℕ) (r : Regular) (o i j : ℕ) → Match m π i j r → Walk (positions r o) (along m π r o) i j
match_walk m π (letter f) o i j w = inr (o, refl, (zero, ((refl, w.1), refl, w.0)))
match_walk m π (seq r q) o i j w =
    joined_glue (apart m π r q o) i w.0 j (match_walk m π r o i w.0 w.1) (match_walk m π q (o + size r) w.0 j w.2)
match_walk m π (alt r q) o i j w =
    ⊎_elim
    (λ x. choice_left (apart m π r q o) i j (match_walk m π r o i j x))
    (λ x. choice_right (apart m π r q o) i j (match_walk m π q (o + size r) i j x))
    w
match_walk m π (star r) o i j w =
    again_glue (positions r o) (along m π r o) w.0 i j
    (power_map (λ a b. Match m π a b r) (Walk (positions r o) (along m π r o)) (λ a b. match_walk m π r o a b) w.0 i j w.1)

one_letter : (m : Model) (π : ℕ → ℕ) (f : Formula) (o n p i j : ℕ) → From (one o) (along m π (letter f) o) n p i j → (j ≡ suc i) × Sat m (π i) f
one_letter m π f o zero p i j w = (w.2, w.0.1)
one_letter m π f o (suc n) p i j w = absurd w.1.1

walk_match : (m : Model) (π : ℕ → ℕ) (r : Regular) (o i j : ℕ) → Walk (positions r o) (along m π r o) i j → Match m π i j r
walk_match m π (letter f) o i j w = ⊎_elim (λ x. absurd x.0) (λ x. one_letter m π f o x.2.0 x.0 i j x.2.1) w
walk_match m π (seq r q) o i j w =
    let t = joined_split (apart m π r q o) i j w in
    (t.0, walk_match m π r o i t.0 t.1, walk_match m π q (o + size r) t.0 j t.2)
walk_match m π (alt r q) o i j w =
    ⊎_elim (λ x. inl (walk_match m π r o i j x)) (λ x. inr (walk_match m π q (o + size r) i j x)) (choice_split (apart m π r q o) i j w)
walk_match m π (star r) o i j w =
    let t = again_split (positions r o) (along m π r o) i j w in
    (t.0, power_map (Walk (positions r o) (along m π r o)) (λ a b. Match m π a b r) (λ a b. walk_match m π r o a b) t.0 i j t.1)

-- an interval matches an expression exactly when a word of its automaton is read there
pub walks : (m : Model) (π : ℕ → ℕ) (r : Regular) (o i j : ℕ) → Match m π i j r ↔ Walk (positions r o) (along m π r o) i j
walks m π r o i j = (match_walk m π r o i j, walk_match m π r o i j)
