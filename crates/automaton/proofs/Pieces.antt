-- Pieces that are built are the automata of larger and larger expressions.
use Rattle.std.proofs.Common.{◌≡◌, ℕ, ◌+◌, ◌<◌, ◌≤◌, Bool, true, false, ◌&&◌, ◌||◌, ◌⊎◌, ◌↔◌, List, get_or, sym, ap, ◌∙◌, subst, inl, inr, ⊎_elim, arith}
use mathlib.Core.Logic.Iff
use native.Mathlib.Decide.{dec_lt}
use Rattle.std.proofs.Math.Logic.{⊎_map}
use Rattle.std.proofs.lemmas.Bool.{true≢false, and_from, and_parts, or_cases, or_left, or_right}
use Rattle.logic.specs.Formulas.{Formula, Regular, letter, seq, alt, star, size}
use Rattle.logic.specs.Positions.{positions, joined, choice, again}
use Rattle.logic.proofs.Walks.{inside}
use Rattle.automaton.specs.Sets.{Bit, Linked}
use Rattle.automaton.specs.Built.{as_positions, rows_of, Same, Built}
use Rattle.automaton.specs.declared.Piece.{Piece}
use Rattle.automaton.specs.declared.store.Letters.{Letters}
use Rattle.automaton.proofs.Sets.{no_bit}

-- a piece stays built where letters are added and its rows are kept
pub built_kept :
    {r : Regular} {o : ℕ} {a : Piece} {e u : Letters} → Built r o a e → e.count ≤ u.count →
    ((p : ℕ) → o ≤ p → p < o + size r → get_or (rows_of u) p 0 ≡ get_or (rows_of e) p 0) → Built r o a u
built_kept {r = r} {o = o} B more same = record {
  room = omega (arith, B.room);
  null = B.null;
  first = B.first;
  last = B.last;
  follow = λ p q lo hi. subst (λ n. Bit n q ↔ (positions r o).follow p q) (sym (same p lo hi)) (B.follow p q lo hi);
}

-- the letters that a piece can end with are its own
pub last_inside : {r : Regular} {o : ℕ} {a : Piece} {e : Letters} → Built r o a e → (p : ℕ) → Bit a.last p → (o ≤ p) × (p < o + size r)
last_inside {r = r} {o = o} B p b = (inside r o).last p ((B.last p).0 b)

iff_or : {A B C D : Type 0} → A ↔ C → B ↔ D → (A ⊎ B) ↔ (C ⊎ D)
iff_or f g = (⊎_map f.0 g.0, ⊎_map f.1 g.1)

and_both : (x y : Bool) → ((x && y) ≡ true) ↔ ((x ≡ true) × (y ≡ true))
and_both x y = (and_parts x y, λ e. and_from x y e.0 e.1)

or_either : (x y : Bool) → ((x || y) ≡ true) ↔ ((x ≡ true) ⊎ (y ≡ true))
or_either x y = (or_cases x y, ⊎_elim (or_left x y) (or_right x y))

value_iff : {x y : Bool} {P : Type 0} → x ≡ y → (y ≡ true) ↔ P → (x ≡ true) ↔ P
value_iff e f = (λ t. f.0 (sym e ∙ t), λ p. e ∙ f.1 p)

pub chosen :
    (a b c : Piece) → c.nullable ≡ (a.nullable || b.nullable) → ((j : ℕ) → Bit c.first j ↔ (Bit a.first j ⊎ Bit b.first j)) →
    ((j : ℕ) → Bit c.last j ↔ (Bit a.last j ⊎ Bit b.last j)) → (rows : List ℕ) → Same 31 (as_positions c rows) (choice (as_positions a rows) (as_positions b rows))
chosen a b c null first last rows = record {
  null = value_iff null (or_either a.nullable b.nullable);
  first = first;
  last = last;
  follow = λ p q h. (inl, ⊎_elim (λ f. f) (λ f. f));
}

pub linked_joined :
    (a b c : Piece) (rows old : List ℕ) (n : ℕ) → n ≡ 31 → Linked rows old n a.last b.first → c.nullable ≡ (a.nullable && b.nullable) →
    ((j : ℕ) → Bit c.first j ↔ (Bit a.first j ⊎ ((a.nullable ≡ true) × Bit b.first j))) →
    ((j : ℕ) → Bit c.last j ↔ (Bit b.last j ⊎ ((b.nullable ≡ true) × Bit a.last j))) →
    Same 31 (as_positions c rows) (joined (as_positions a old) (as_positions b old))
linked_joined a b c rows old n long linked null first last = record {
  null = value_iff null (and_both a.nullable b.nullable);
  first = first;
  last = last;
  follow = λ p q h. Iff.trans (linked.done p q (omega arith)) (⊎_elim inl (λ l. inr (inr l)), ⊎_elim inl (λ l. l));
}

pub linked_again :
    (a c : Piece) (rows old : List ℕ) (n : ℕ) → n ≡ 31 → Linked rows old n a.last a.first → c.nullable ≡ true →
    c.first ≡ a.first → c.last ≡ a.last → Same 31 (as_positions c rows) (again (as_positions a old))
linked_again a c rows old n long linked null first last = record {
  null = (λ _. tt, λ _. null);
  first = λ p. (subst (λ n. Bit n p) first, subst (λ n. Bit n p) (sym first));
  last = λ p. (subst (λ n. Bit n p) last, subst (λ n. Bit n p) (sym last));
  follow = λ p q h. linked.done p q (omega arith);
}

pub letter_built :
    (f : Formula) (p : ℕ) (a : Piece) (e : Letters) → p < e.count → a.nullable ≡ false →
    ((j : ℕ) → Bit a.first j ↔ (j ≡ p)) → ((j : ℕ) → Bit a.last j ↔ (j ≡ p)) → get_or (rows_of e) p 0 ≡ 0 → Built (letter f) p a e
letter_built f p a e h n first last z = record {
  room = omega arith;
  null = (λ t. true≢false (sym t ∙ n), λ x. absurd x);
  first = first;
  last = last;
  follow = λ k q lo hi. let i : k ≡ p = omega arith in (λ b. no_bit (get_or (rows_of e) k 0) q (ap (λ j. get_or (rows_of e) j 0) i ∙ z) b, λ x. absurd x);
}

-- the rows of two pieces, one behind the other
pair_follow :
    {x y : Regular} {o : ℕ} {a b : Piece} {e : Letters} → Built x o a e → Built y (o + size x) b e → (p q : ℕ) → o ≤ p → p < o + (size x + size y) →
    Bit (get_or (rows_of e) p 0) q ↔ ((positions x o).follow p q ⊎ (positions y (o + size x)).follow p q)
pair_follow {x = x} {y = y} {o = o} A B p q lo hi = elim (dec_lt p (o + size x)) [
  | yes h ↦ (λ s. inl ((A.follow p q lo h).0 s), ⊎_elim (A.follow p q lo h).1 (λ g. absurd (omega (arith, (inside y (o + size x)).before p q g))))
  | no h ↦
      let g : o + size x ≤ p = omega arith in
      let u : p < o + size x + size y = omega arith in
      (λ s. inr ((B.follow p q g u).0 s), ⊎_elim (λ f. absurd (omega (arith, (inside x o).before p q f))) (B.follow p q g u).1)
]

pub alt_built :
    (x y : Regular) (o : ℕ) (a b c : Piece) (e : Letters) → Same 31 (as_positions c (rows_of e)) (choice (as_positions a (rows_of e)) (as_positions b (rows_of e))) →
    Built x o a e → Built y (o + size x) b e → Built (alt x y) o c e
alt_built x y o a b c e s A B = record {
  room = omega (arith, B.room);
  null = Iff.trans s.null (iff_or A.null B.null);
  first = λ p. Iff.trans (s.first p) (iff_or (A.first p) (B.first p));
  last = λ p. Iff.trans (s.last p) (iff_or (A.last p) (B.last p));
  follow = pair_follow A B;
}

pub seq_built :
    (x y : Regular) (o : ℕ) (a b c : Piece) (e u : Letters) → u.count ≡ e.count →
    Same 31 (as_positions c (rows_of u)) (joined (as_positions a (rows_of e)) (as_positions b (rows_of e))) → Built x o a e → Built y (o + size x) b e → Built (seq x y) o c u
seq_built x y o a b c e u count s A B = record {
  room = omega (arith, B.room);
  null = Iff.trans s.null (Iff.and A.null B.null);
  first = λ p. Iff.trans (s.first p) (iff_or (A.first p) (Iff.and A.null (B.first p)));
  last = λ p. Iff.trans (s.last p) (iff_or (B.last p) (Iff.and B.null (A.last p)));
  follow = λ p q lo hi.
      let rows : Bit (get_or (rows_of e) p 0) q ↔ ((positions x o).follow p q ⊎ (positions y (o + size x)).follow p q) = pair_follow A B p q lo hi in
      let link : (Bit a.last p × Bit b.first q) ↔ ((positions x o).last p × (positions y (o + size x)).first q) = Iff.and (A.last p) (B.first q) in
      let behind = ⊎_elim inl (λ f. inr (inl f)) in
      Iff.trans (s.follow p q (omega (arith, B.room, e.few))) (
        ⊎_elim (λ f. behind (rows.0 f)) (⊎_elim (λ f. behind (rows.0 f)) (λ l. inr (inr (link.0 l)))),
        ⊎_elim (λ f. inl (rows.1 (inl f))) (⊎_elim (λ f. inl (rows.1 (inr f))) (λ l. inr (inr (link.1 l)))),
      );
}

pub star_built :
    (x : Regular) (o : ℕ) (a c : Piece) (e u : Letters) → u.count ≡ e.count → Same 31 (as_positions c (rows_of u)) (again (as_positions a (rows_of e))) →
    Built x o a e → Built (star x) o c u
star_built x o a c e u count s A = record {
  room = omega (arith, A.room);
  null = s.null;
  first = λ p. Iff.trans (s.first p) (A.first p);
  last = λ p. Iff.trans (s.last p) (A.last p);
  follow = λ p q lo hi. Iff.trans (s.follow p q (omega (arith, A.room, e.few))) (iff_or (A.follow p q lo hi) (Iff.and (A.last p) (A.first q)));
}
