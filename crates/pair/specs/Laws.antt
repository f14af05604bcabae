-- Two machines side by side keep the laws where each of them does.
use Rattle.std.proofs.Common.{◌≡◌, ℕ, ◌+◌, ◌*◌, ◌/◌, ◌%◌, ◌<◌, min, Bool, true, false, cond, ◌||◌, ◌⊎◌, List, ◌++◌, Some, None, Option, refl, ap, ◌∙◌, arith, length-append, rules}
use Rattle.std.proofs.lemmas.List.Folds.{list_any-append}
use Rattle.std.proofs.lemmas.Nat.{div-mul-add, mod-mul-add, rows}
use Rattle.std.specs.Str.{bytes_eq}
use Rattle.machine.specs.Model.{Model, Lawful, among, empty}
use Rattle.machine.proofs.Laws.{empty_lawful}
use Rattle.pair.specs.Pairs.{fewer, fits, left_moves, right_moves, side_by_side, pair_model}

pub among_append : (xs ys : List (List ℕ)) (w : List ℕ) → among (xs ++ ys) w ≡ (among xs w || among ys w)
among_append xs ys w = list_any-append (λ n. bytes_eq n w) xs ys

-- the fewer of two is one of the two
fewer_either : (x y : Option ℕ) (d : ℕ) → fewer x y ≡ Some d → (x ≡ Some d) ⊎ (y ≡ Some d)
fewer_either x y d e = search rules

fewer_some : (c : ℕ) (y : Option ℕ) → (d : ℕ) × (fewer (Some c) y ≡ Some d)
fewer_some c None = (c, refl)
fewer_some c (Some d) = (min c d, refl)

-- a state of the pair has a state on either side
sides : (p q s : ℕ) → s < p * q → (s / q < p) × (s % q < q)
sides p q s h = grind (arith, rows)

-- and two states, one on either side, have their state of the pair
joined : (p q u v : ℕ) → u < p → v < q → (u * q + v < p * q) × ((u * q + v) / q ≡ u) × ((u * q + v) % q ≡ v)
joined p q u v hu hv = (grind (arith, rows), div-mul-add u q v hv, mod-mul-add u q v hv)

side_by_side_lawful : {a b : Model} → Lawful a → Lawful b → fits a b ≡ true → Lawful (side_by_side a b)
side_by_side_lawful {a} {b} la lb small = record {
  few_states = search rules;
  few_names = search (rules, length-append);
  joins = λ s t d e.
      let f = fewer_either (left_moves a b s t) (right_moves a b s t) d in
      let ja = la.joins (s / b.states) (t / b.states) d in
      let jb = lb.joins (s % b.states) (t % b.states) d in
      search rules;
  leaves = λ s h.
      let at = sides a.states b.states s h in
      let out = la.leaves (s / b.states) at.0 in
      let u = out.0 in
      let t = u * b.states + s % b.states in
      let in-a = la.joins (s / b.states) u out.1 out.2 in
      let pl = joined a.states b.states u (s % b.states) in-a.1 at.1 in
      let moves = ap (a.step (s / b.states)) pl.1 ∙ out.2 in
      let some = fewer_some out.1 (right_moves a b s t) in
      (t, some.0, search rules);
  listed = λ s w e.
      let ka = la.listed (s / b.states) w in
      let kb = lb.listed (s % b.states) w in
      let in_both = among_append a.names b.names w in
      search rules;
}

pub pair_lawful : {a b : Model} → Lawful a → Lawful b → Lawful (pair_model a b)
pair_lawful {a} {b} la lb = go (fits a b) refl
  where
    go : (t : Bool) → fits a b ≡ t → Lawful (cond t (side_by_side a b) empty)
    go true e = side_by_side_lawful la lb e
    go false e = empty_lawful
