-- Words of a position automaton by the number of their signs, each with its formula.
use Rattle.std.proofs.Common.{◌≡◌, ℕ, zero, suc, ◌+◌, ◌-◌, ◌<◌, ◌≤◌, ◌⊎◌, ◌↔◌, ◌++◌, length, get_or, refl, inl, inr, arith, length-append, add-zero}
use mathlib.Core.Logic.Iff
use Rattle.std.proofs.lemmas.List.{get_or_append_left, get_or-append_right}
use Rattle.std.proofs.lemmas.Bool.{cases_lt}
use Rattle.machine.specs.Model.{Model}
use Rattle.logic.specs.Formulas.{Formula, top, Regular, letter, seq, alt, star, size}
use Rattle.logic.specs.Meaning.{Sat, Match}
use Rattle.logic.specs.Positions.{Positions, positions, letters, letter_at, Run, Accepts, Next, End, Spelled, Ends}
use Rattle.logic.proofs.Walks.{Reading, From, Walk, Reads, along, inside, reads_inside, carry, walks}

pub letters_length : (r : Regular) → length (letters r) ≡ size r
letters_length (letter f) = refl
letters_length (seq r q) = omega (arith, length-append (letters r) (letters q), letters_length r, letters_length q)
letters_length (alt r q) = omega (arith, length-append (letters r) (letters q), letters_length r, letters_length q)
letters_length (star r) = letters_length r

at_front : (r q : Regular) (d : ℕ) → d < size r → get_or (letters r ++ letters q) d top ≡ get_or (letters r) d top
at_front r q d h = get_or_append_left (letters r) (letters q) top d (omega (arith, letters_length r))

at_back : (r q : Regular) (d : ℕ) → size r ≤ d → get_or (letters r ++ letters q) d top ≡ get_or (letters q) (d - size r) top
at_back r q d h = get_or-append_right (letters r) (letters q) (size r) d top (letters_length r) h

-- the letter at p of two expressions, one behind the other, whose letters are numbered from o on
pair_to :
    (m : Model) (s : ℕ) (r q : Regular) (o p : ℕ) →
    (Reads m s r o p → Sat m s (letter_at r (p - o))) →
    (Reads m s q (o + size r) p → Sat m s (letter_at q (p - (o + size r)))) →
    Reads m s r o p ⊎ Reads m s q (o + size r) p → Sat m s (get_or (letters r ++ letters q) (p - o) top)
pair_to m s r q o p f g (inl x) = let i = reads_inside m s r o p x in rw (at_front r q (p - o) (omega arith)) (f x)
pair_to m s r q o p f g (inr x) =
    let i = reads_inside m s q (o + size r) p x in
    let e : p - o - size r ≡ p - (o + size r) = omega arith in
    rw (at_back r q (p - o) (omega arith), e) (g x)

pair_from :
    (m : Model) (s : ℕ) (r q : Regular) (o p : ℕ) → o ≤ p → p < o + (size r + size q) →
    (p < o + size r → Sat m s (letter_at r (p - o)) → Reads m s r o p) →
    (o + size r ≤ p → p < o + size r + size q → Sat m s (letter_at q (p - (o + size r))) → Reads m s q (o + size r) p) →
    Sat m s (get_or (letters r ++ letters q) (p - o) top) → Reads m s r o p ⊎ Reads m s q (o + size r) p
pair_from m s r q o p lo hi f g w = elim (cases_lt p (o + size r)) [
  | inl h ↦ inl (f h (rw (at_front r q (p - o) (omega arith)) at w))
  | inr h ↦
      let e : p - o - size r ≡ p - (o + size r) = omega arith in
      inr (g h (omega arith) (rw (at_back r q (p - o) (omega arith), e) at w))
]

reads_sat : (m : Model) (s : ℕ) (r : Regular) (o p : ℕ) → Reads m s r o p → Sat m s (letter_at r (p - o))
reads_sat m s (letter f) o p w = let e : p - o ≡ 0 = omega (arith, w.0) in rw e w.1
reads_sat m s (seq r q) o p w = pair_to m s r q o p (reads_sat m s r o p) (reads_sat m s q (o + size r) p) w
reads_sat m s (alt r q) o p w = pair_to m s r q o p (reads_sat m s r o p) (reads_sat m s q (o + size r) p) w
reads_sat m s (star r) o p w = reads_sat m s r o p w

sat_reads : (m : Model) (s : ℕ) (r : Regular) (o p : ℕ) → o ≤ p → p < o + size r → Sat m s (letter_at r (p - o)) → Reads m s r o p
sat_reads m s (letter f) o p lo hi w = let e : p - o ≡ 0 = omega arith in (omega arith, rw e at w)
sat_reads m s (seq r q) o p lo hi w = pair_from m s r q o p lo hi (sat_reads m s r o p lo) (sat_reads m s q (o + size r) p) w
sat_reads m s (alt r q) o p lo hi w = pair_from m s r q o p lo hi (sat_reads m s r o p lo) (sat_reads m s q (o + size r) p) w
sat_reads m s (star r) o p lo hi w = sat_reads m s r o p lo hi w

-- the sign p reads what the letter at p says
reads_letter : (m : Model) (s : ℕ) (r : Regular) (p : ℕ) → p < size r → Reads m s r 0 p ↔ Sat m s (letter_at r p)
reads_letter m s r p h =
    let e : p - 0 ≡ p = omega arith in
    ((λ x. rw e at (reads_sat m s r 0 p x)), (λ x. sat_reads m s r 0 p (omega arith) (omega arith) (rw e x)))

-- the state at k satisfies the formula of p
abbrev sats : Model → (ℕ → ℕ) → (ℕ → Formula) → Reading
sats m π φ k p = Sat m (π k) (φ p)

-- what the automaton of r reads by R it reads by S
reread : (r : Regular) (R S : Reading) → ((k p : ℕ) → p < size r → R k p → S k p) → (i j : ℕ) → Walk (positions r 0) R i j → Walk (positions r 0) S i j
reread r R S f i j (inl w) = inl w
reread r R S f i j (inr w) =
    let a : Positions = positions r 0 in
    inr (
      w.0,
      w.1,
      (
        w.2.0,
        carry a a R S (λ p. p < size r) f (λ p d x. x) (λ p q d x. (x, omega (arith, (inside r 0).behind p q x)))
            w.2.0 w.0 i j (omega (arith, (inside r 0).first w.0 w.1)) w.2.1,
      ),
    )

matches : (m : Model) (π : ℕ → ℕ) (r : Regular) (i j : ℕ) → Match m π i j r ↔ Walk (positions r 0) (sats m π (letter_at r)) i j
matches m π r i j = Iff.trans (walks m π r 0 i j) (
  reread r (along m π r 0) (sats m π (letter_at r)) (λ k p h. (reads_letter m (π k) r p h).0) i j,
  reread r (sats m π (letter_at r)) (along m π r 0) (λ k p h. (reads_letter m (π k) r p h).1) i j,
)

-- the words of a that begin with p
abbrev starting : ℕ → Positions → Positions
starting p a = record { null = ⊥; first = λ q. q ≡ p; last = a.last; follow = a.follow }

abbrev cons : ℕ → (ℕ → ℕ) → ℕ → ℕ
cons p ρ zero = p
cons p ρ (suc d) = ρ d

module _ (m : Model) (π : ℕ → ℕ) (a : Positions) (φ : ℕ → Formula) where
  follow_cons : (p q i n : ℕ) (ρ : ℕ → ℕ) → a.follow p q → Run m π (starting q a) φ i n ρ → (d : ℕ) → d < suc n → a.follow (cons p ρ d) (ρ d)
  follow_cons p q i n ρ f w zero h = rw w.first f
  follow_cons p q i n ρ f w (suc d) h = w.follow d (omega arith)

  holds_cons : (p q i n : ℕ) (ρ : ℕ → ℕ) → Sat m (π i) (φ p) → Run m π (starting q a) φ (suc i) n ρ → (d : ℕ) → d ≤ suc n → Sat m (π (i + d)) (φ (cons p ρ d))
  holds_cons p q i n ρ x w zero h = rw add-zero x
  holds_cons p q i n ρ x w (suc d) h = let e : i + suc d ≡ suc i + d = omega arith in rw e (w.holds d (omega arith))

  run_cons : (p q i n : ℕ) (ρ : ℕ → ℕ) → Sat m (π i) (φ p) → a.follow p q → Run m π (starting q a) φ (suc i) n ρ → Run m π (starting p a) φ i (suc n) (cons p ρ)
  run_cons p q i n ρ x f w = record { first = refl; follow = follow_cons p q (suc i) n ρ f w; last = w.last; holds = holds_cons p q i n ρ x w }

  run_tail : (p i n : ℕ) (ρ : ℕ → ℕ) → Run m π (starting p a) φ i (suc n) ρ → Run m π (starting (ρ 1) a) φ (suc i) n (λ d. ρ (suc d))
  run_tail p i n ρ w = record {
    first = refl;
    follow = λ d h. w.follow (suc d) (omega arith);
    last = w.last;
    holds = λ d h. let e : suc i + d ≡ i + suc d = omega arith in rw e (w.holds (suc d) (omega arith));
  }

  run_head : (p i n : ℕ) (ρ : ℕ → ℕ) → Run m π (starting p a) φ i n ρ → Sat m (π i) (φ p)
  run_head p i n ρ w = rw (add-zero, w.first) at (w.holds 0 (omega arith))

  from_run : (n p i j : ℕ) → From a (sats m π φ) n p i j → (ρ : ℕ → ℕ) × (j ≡ suc (i + n)) × Run m π (starting p a) φ i n ρ
  from_run zero p i j w = ((λ _. p), omega (arith, w.2), record { first = refl; follow = λ d h. absurd (omega arith); last = w.1; holds = λ d h. let e : i + d ≡ i = omega arith in rw e w.0 })
  from_run (suc n) p i j w =
      let t = from_run n w.1.0 (suc i) j w.1.2 in
      (cons p t.0, omega (arith, t.1), run_cons p w.1.0 i n t.0 w.0 w.1.1 t.2)

  run_from : (n p i j : ℕ) (ρ : ℕ → ℕ) → j ≡ suc (i + n) → Run m π (starting p a) φ i n ρ → From a (sats m π φ) n p i j
  run_from zero p i j ρ e w = (run_head p i 0 ρ w, rw w.first at w.last, omega arith)
  run_from (suc n) p i j ρ e w =
      let f : a.follow p (ρ 1) = rw w.first at (w.follow 0 (omega arith)) in
      (run_head p i (suc n) ρ w, (ρ 1, f, run_from n (ρ 1) (suc i) j (λ d. ρ (suc d)) (omega arith) (run_tail p i n ρ w)))

  walk_accepts : (i j : ℕ) → Walk a (sats m π φ) i j → Accepts m π a φ i j
  walk_accepts i j (inl w) = inl w
  walk_accepts i j (inr w) =
      let t = from_run w.2.0 w.0 i j w.2.1 in
      let r = t.2 in
      inr (w.2.0, t.0, t.1, record { first = rw r.first w.1; follow = r.follow; last = r.last; holds = r.holds })

  accepts_walk : (i j : ℕ) → Accepts m π a φ i j → Walk a (sats m π φ) i j
  accepts_walk i j (inl w) = inl w
  accepts_walk i j (inr w) =
      let r = w.3 in
      inr (w.1 0, r.first, (w.0, run_from w.0 (w.1 0) i j w.1 w.2 (record { first = refl; follow = r.follow; last = r.last; holds = r.holds })))

  next_walk : (k p n j : ℕ) → Next m π a φ k p → From a (sats m π φ) n p k j → Walk a (sats m π φ) 0 j
  next_walk zero p n j s w = inr (p, s, (n, w))
  next_walk (suc k) p n j s w = next_walk k s.0 (suc n) j s.1 (s.2, (p, s.3, w))

  walk_on : (n p k j : ℕ) → Next m π a φ k p → From a (sats m π φ) n p k j → End m π a φ j
  walk_on zero p k j s w = rw w.2 (p, s, w.0, w.1)
  walk_on (suc n) p k j s w = walk_on n w.1.0 (suc k) j (p, s, w.0, w.1.1) w.1.2

  end_walk : (i : ℕ) → End m π a φ i → Walk a (sats m π φ) 0 i
  end_walk zero w = inl (w, refl)
  end_walk (suc i) w = next_walk i w.0 zero (suc i) w.1 (w.2, w.3, refl)

  walk_end : (i : ℕ) → Walk a (sats m π φ) 0 i → End m π a φ i
  walk_end i (inl w) = rw w.1 w.0
  walk_end i (inr w) = walk_on w.2.0 w.0 0 i w.1 w.2.1

pub spelled : Spelled
spelled m π r i j =
    let a : Positions = positions r 0 in
    Iff.trans (matches m π r i j) (walk_accepts m π a (letter_at r) i j, accepts_walk m π a (letter_at r) i j)

pub ends : Ends
ends m π r i =
    let a : Positions = positions r 0 in
    Iff.trans (end_walk m π a (letter_at r) i, walk_end m π a (letter_at r) i) (Iff.symm (matches m π r 0 i))
