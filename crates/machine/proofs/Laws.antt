-- What the laws of machines give.
use Rattle.std.proofs.Common.{◌≡◌, ℕ, ◌≤◌, false, ◌⊎◌, List, None, rules}
use Rattle.machine.specs.Model.{Model, Lawful, empty}

pub empty_lawful : Lawful empty
empty_lawful = search rules

-- what is no state bears nothing
pub no_bears : (m : Model) → Lawful m → (s : ℕ) (w : List ℕ) → m.states ≤ s → m.bears s w ≡ false
no_bears m law s w h = let l = law.listed s w in search rules

-- and has no step
pub no_step : (m : Model) → Lawful m → (s t : ℕ) → (m.states ≤ s) ⊎ (m.states ≤ t) → m.step s t ≡ None
no_step m law s t h = let j = law.joins s t in search rules
