-- The bits of an expression's automaton accept what the expression matches.
use Rattle.std.proofs.Common.{◌≡◌, ℕ, zero, suc, ◌<◌, ◌≤◌, ◌↔◌, subst, inl, inr, zero-add, arith}
use mathlib.Core.Logic.Iff
use Rattle.machine.specs.Model.{Model}
use Rattle.logic.specs.Formulas.{Formula, Regular, size}
use Rattle.logic.specs.Meaning.{Match}
use Rattle.logic.specs.Positions.{Positions, positions, letter_at, Run, Accepts}
use Rattle.logic.proofs.Walks.{Inside, inside}
use Rattle.logic.proofs.Words.{spelled}
use Rattle.automaton.specs.Built.{as_positions, rows_of, Same, Built}
use Rattle.automaton.specs.Automata.{AutomatonOf, Spells}
use Rattle.automaton.specs.declared.Automaton.{Automaton}

pub built_automaton : (r : Regular) (a : Automaton) → Built r 0 a.whole a.letters → a.letters.count ≡ size r → AutomatonOf r a
built_automaton r a B count = record {
  count = count;
  null = B.null;
  first = B.first;
  last = B.last;
  follow = λ p q h. B.follow p q (omega arith) (omega arith);
}

-- where two automata agree on their own signs, they accept the same
module _ (m : Model) (π : ℕ → ℕ) (a b : Positions) (φ : ℕ → Formula) (n : ℕ) (s : Same n a b) (within : Inside b 0 n) where
  run_within : (i l : ℕ) (ρ : ℕ → ℕ) → Run m π a φ i l ρ → (d : ℕ) → d ≤ l → ρ d < n
  run_within i l ρ w zero h = (within.first (ρ 0) ((s.first (ρ 0)).0 w.first)).1
  run_within i l ρ w (suc d) h = (within.behind (ρ d) (ρ (suc d)) ((s.follow (ρ d) (ρ (suc d)) (run_within i l ρ w d (omega arith))).0 (w.follow d h))).1

  same_accepts : (i j : ℕ) → Accepts m π a φ i j → Accepts m π b φ i j
  same_accepts i j (inl w) = inl (s.null.0 w.0, w.1)
  same_accepts i j (inr w) =
      let ρ : ℕ → ℕ = w.1 in
      let r = w.3 in
      inr (
        w.0,
        ρ,
        w.2,
        record {
          first = (s.first (ρ 0)).0 r.first;
          follow = λ d h. (s.follow (ρ d) (ρ (suc d)) (run_within i w.0 ρ r d (omega arith))).0 (r.follow d h);
          last = (s.last (ρ w.0)).0 r.last;
          holds = r.holds;
        },
      )

  accepts_same : (i j : ℕ) → Accepts m π b φ i j → Accepts m π a φ i j
  accepts_same i j (inl w) = inl (s.null.1 w.0, w.1)
  accepts_same i j (inr w) =
      let ρ : ℕ → ℕ = w.1 in
      let r = w.3 in
      inr (
        w.0,
        ρ,
        w.2,
        record {
          first = (s.first (ρ 0)).1 r.first;
          follow = λ d h. (s.follow (ρ d) (ρ (suc d)) (within.before (ρ d) (ρ (suc d)) (r.follow d h)).1).1 (r.follow d h);
          last = (s.last (ρ w.0)).1 r.last;
          holds = r.holds;
        },
      )

-- the automaton of an expression spells exactly the intervals that match it
pub automaton_spells : {r : Regular} {a : Automaton} → AutomatonOf r a → (m : Model) (π : ℕ → ℕ) (i j : ℕ) → Match m π i j r ↔ Spells m π a (letter_at r) i j
automaton_spells {r = r} {a = a} A m π i j =
    let bits : Positions = as_positions a.whole (rows_of a.letters) in
    let b : Positions = positions r 0 in
    let s : Same (size r) bits b = record { null = A.null; first = A.first; last = A.last; follow = A.follow } in
    let within : Inside b 0 (size r) = subst (Inside b 0) (zero-add (size r)) (inside r 0) in
    Iff.trans (spelled m π r i j)
    (accepts_same m π bits b (letter_at r) (size r) s within i j, same_accepts m π bits b (letter_at r) (size r) s within i j)
