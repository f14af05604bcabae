-- How the steps are judged, each by the bytes of its own.
use Rattle.std.proofs.Common.{◌≡◌, ℕ, zero, suc, ◌+◌, ◌-◌, ◌*◌, ◌<◌, ◌≤◌, Bool, false, cond, ◌&&◌, eqb, ltb, List, [], length, get_or, take, drop, Some, None, Option, sym, refl, ap, ◌∙◌, inl, inr, add-zero, add-one, arith}
use Rattle.std.proofs.lemmas.Bool.{or_left, or_right, or_from, cases_lt, eq-eqb, ne_eqb}
use Rattle.fault.specs.declared.Reason.TheVariants.{BadEntry, CutShort}
use Rattle.fault.specs.Refusals.{at}
use Rattle.layout.specs.Descriptions.{Step}
use Rattle.layout.specs.Fields.{u16_at, state_count, step_at, step_there, step_in}
use Rattle.layout.specs.Judging.{first_fault, step_fault, in_order, some_leave}
use Rattle.layout.proofs.Faults.{first_each}
use Rattle.layout.proofs.Faultless.{good_step}
use Rattle.layout.proofs.Lookups.{ascends}
use Rattle.layout.proofs.Reading.{in_order_next}
use Rattle.sheet.specs.Fields.{EntriesAt, follows}
use Rattle.sheet.specs.Sheets.{Lowest}
use Rattle.sheet.proofs.Judged.{field_short, field_there, u16_in}

abbrev step_right : List ℕ → ℕ → Bool
step_right bytes i = ltb (step_in bytes i).from (state_count bytes) && (ltb (step_in bytes i).to (state_count bytes) && in_order bytes i)

pub step_short : (bytes : List ℕ) (i : ℕ) → length bytes < step_at bytes i + 6 → step_fault bytes i ≡ Some (at CutShort (length bytes))
step_short bytes i h = field_short bytes (step_at bytes i) 6 (step_right bytes i) (at BadEntry (step_at bytes i)) h

-- the states that the step before step i joins
abbrev pub joined_before : List ℕ → ℕ → Option (ℕ × ℕ)
joined_before bytes zero = None
joined_before bytes (suc i) = Some ((step_in bytes i).from, (step_in bytes i).to)

pub in_order_is : (bytes : List ℕ) (i : ℕ) → in_order bytes i ≡ follows (joined_before bytes i) ((step_in bytes i).from, (step_in bytes i).to)
in_order_is bytes zero = refl
in_order_is bytes (suc i) = let e : suc i - 1 ≡ i = omega arith in rw (e, ne_eqb (suc i) 0 (λ q. omega arith)) refl

-- the order of the steps, by the states that they join
right_is : (bytes : List ℕ) (i states : ℕ) (key : ℕ × ℕ) (last : Option (ℕ × ℕ)) → states ≡ state_count bytes → key ≡ ((step_in bytes i).from, (step_in bytes i).to) → last ≡ joined_before bytes i
    → step_right bytes i ≡ (ltb key.0 states && (ltb key.1 states && follows last key))
right_is bytes i states key last counted joins before =
    let e = step_in bytes i in
    ap (λ n. ltb e.from n && (ltb e.to n && in_order bytes i)) (sym counted)
    ∙ ap (λ b. ltb e.from states && (ltb e.to states && b)) (in_order_is bytes i)
    ∙ ap (λ l. ltb e.from states && (ltb e.to states && follows l (e.from, e.to))) (sym before)
    ∙ ap (λ p. ltb p.0 states && (ltb p.1 states && follows last p)) (sym joins)

step_inside : (o : ℕ) (bytes : List ℕ) → step_there (take 6 (drop o bytes)) 0 ≡ step_there bytes o
step_inside o bytes =
    let a = u16_in 6 0 o bytes (omega arith) ∙ ap (u16_at bytes) (add-zero o) in
    let b = u16_in 6 2 o bytes (omega arith) in
    let c = u16_in 6 4 o bytes (omega arith) in
    cc

module _ (bytes : List ℕ) (entries : List (List ℕ)) (o : ℕ) (is : EntriesAt 6 bytes o entries) (here : o ≡ step_at bytes 0) where
  pub step_is : (i : ℕ) → i < length entries → step_there (get_or entries i []) 0 ≡ step_in bytes i
  step_is i h =
      let e : o + 6 * i ≡ step_at bytes i = omega arith in
      ap (λ e. step_there e 0) (is i h) ∙ step_inside (o + 6 * i) bytes ∙ ap (step_there bytes) e

  pub joins_is : (i : ℕ) (key : ℕ × ℕ) → i < length entries → key ≡ ((step_there (get_or entries i []) 0).from, (step_there (get_or entries i []) 0).to) → key ≡ ((step_in bytes i).from, (step_in bytes i).to)
  joins_is i key h joins = joins ∙ ap {B = ℕ × ℕ} (λ (s : Step). (s.from, s.to)) (step_is i h)

  pub step_judged : (i states : ℕ) (key : ℕ × ℕ) (last : Option (ℕ × ℕ)) (right : Bool) → o + 6 * length entries ≤ length bytes → i < length entries
      → states ≡ state_count bytes → key ≡ ((step_there (get_or entries i []) 0).from, (step_there (get_or entries i []) 0).to) → last ≡ joined_before bytes i
      → right ≡ (ltb key.0 states && (ltb key.1 states && follows last key)) → step_fault bytes i ≡ cond right None (Some (at BadEntry (o + 6 * i)))
  step_judged i states key last right room h counted joins before is_right =
      let e : step_at bytes i ≡ o + 6 * i = omega arith in
      field_there bytes (step_at bytes i) 6 (step_right bytes i) (at BadEntry (step_at bytes i)) (omega arith)
      ∙ ap (λ k. cond (step_right bytes i) None (Some (at BadEntry k))) e
      ∙ ap (λ b. cond b None (Some (at BadEntry (o + 6 * i)))) (right_is bytes i states key last counted (joins_is i key h joins) before ∙ sym is_right)

none_leave : (bytes : List ℕ) (s m : ℕ) → ((i : ℕ) → i < m → (step_in bytes i).from ≡ s → ⊥) → some_leave bytes s m ≡ false
unfolding some_leave
none_leave bytes s zero h = refl
none_leave bytes s (suc m) h = or_from (some_leave bytes s m) (eqb (step_in bytes m).from s) (none_leave bytes s m (λ i b. h i (omega arith))) (ne_eqb (step_in bytes m).from s (h m (omega arith)))

-- no step before i leaves a later state than step i does
pub froms_ascend : (bytes : List ℕ) (m i j : ℕ) → first_fault m (step_fault bytes) ≡ None → i < j → j < m → (step_in bytes i).from ≤ (step_in bytes j).from
froms_ascend bytes m i j e h l =
    elim (ascends (step_in bytes) m (λ k b. in_order_next bytes k (good_step bytes (k + 1) (first_each m (step_fault bytes) e (k + 1) b)).order) i j h l) [ inl p ↦ omega arith | inr q ↦ omega (arith, q.0) ]

-- the lowest state that no step leaves, one step on
pub lowest_next : (bytes : List ℕ) (i low : ℕ) → first_fault (i + 1) (step_fault bytes) ≡ None → Lowest bytes i low → (step_in bytes i).from ≡ low → Lowest bytes (i + 1) (low + 1)
unfolding some_leave
lowest_next bytes i low e g h = record {
  below = λ s b. elim (cases_lt s low) [
    | inl l ↦ rw (add-one i) (or_left (some_leave bytes s i) (eqb (step_in bytes i).from s) (g.below s l))
    | inr k ↦ let q : low ≡ s = omega arith in rw (add-one i) (or_right (some_leave bytes s i) (eqb (step_in bytes i).from s) (eq-eqb (step_in bytes i).from s (h ∙ q)))
  ];
  here = none_leave bytes (low + 1) (i + 1) (λ j b f. elim (cases_lt j i) [
    | inl l ↦ let a = froms_ascend bytes (i + 1) j i e l (omega arith) in omega arith
    | inr k ↦ let q : j ≡ i = omega arith in omega (arith, ap (λ n. (step_in bytes n).from) q)
  ]);
}

pub lowest_same : (bytes : List ℕ) (i low : ℕ) → Lowest bytes i low → ((step_in bytes i).from ≡ low → ⊥) → Lowest bytes (i + 1) low
unfolding some_leave
lowest_same bytes i low g h = record {
  below = λ s b. rw (add-one i) (or_left (some_leave bytes s i) (eqb (step_in bytes i).from s) (g.below s b));
  here = rw (add-one i) (or_from (some_leave bytes low i) (eqb (step_in bytes i).from low) g.here (ne_eqb (step_in bytes i).from low h));
}
