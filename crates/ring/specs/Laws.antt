-- A ring keeps the laws of a machine.
use Rattle.std.proofs.Common.{Some, None, Option, ◌≡◌, ℕ, ◌<◌, ◌≤◌, Bool, true, false, cond, refl, arith, rules}
use Rattle.machine.specs.Model.{Lawful, empty}
use Rattle.machine.proofs.Laws.{empty_lawful}
use Rattle.ring.specs.declared.dome.Dome.{Dome}
use Rattle.ring.specs.declared.Ring.{Ring}
use Rattle.ring.specs.Meanings.{dome_model, meaning_of}
use Rattle.ring.specs.Rings.{in_range, turning, ring_model}

bounds : (n c a : ℕ) → in_range n c a ≡ true → (3 ≤ n) × (n ≤ 360) × (c ≤ 3600) × (a < n)
bounds n c a e = search rules

turning_lawful : (n c a : ℕ) → in_range n c a ≡ true → Lawful (turning n c a)
turning_lawful n c a e =
    let b = bounds n c a e in
    record {
      few_states = omega arith;
      few_names = search rules;
      joins = λ s t d e. search rules;
      leaves = λ s h. (s, 1, search rules);
      listed = λ s w e. search rules;
    }

pub ring_model_lawful : (n c a : ℕ) → Lawful (ring_model n c a)
ring_model_lawful n c a = go (in_range n c a) refl
  where
    go : (b : Bool) → in_range n c a ≡ b → Lawful (cond b (turning n c a) empty)
    go true e = turning_lawful n c a e
    go false e = empty_lawful

pub ring_lawful : (r : Ring) → Lawful (meaning_of r)
ring_lawful r = go r.dome
  where
    go : (o : Option Dome) → Lawful (dome_model o)
    go None = empty_lawful
    go (Some d) = rw d.ok at (ring_model_lawful d.sectors d.turn d.aim)
