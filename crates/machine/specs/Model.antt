-- What a machine means. Every answer of a machine follows from its Model, and code above the machines knows nothing else of them.
use Rattle.std.specs.Prelude.{◌≡◌, ℕ, ◌<◌, ◌≤◌, Bool, true, false, List, [], length, Some, None, Option}
use Rattle.std.specs.List.{list_any}
use Rattle.std.specs.Str.{bytes_eq}

pub record Model : Type 0 where
  -- how many states there are, numbered from 0
  pub states : ℕ
  -- the names, each a list of bytes; one may stand twice
  pub names : List (List ℕ)
  -- whether a state bears a name
  pub bears : ℕ → List ℕ → Bool
  -- the seconds of the step from one state to another, if there is one
  pub step : ℕ → ℕ → Option ℕ

-- whether a word is one of some names
abbrev pub among : List (List ℕ) → List ℕ → Bool
among names w = list_any (λ n. bytes_eq n w) names

-- the laws that every machine keeps
pub record Lawful (m : Model) : Type 0 where
  pub few_states : m.states ≤ 1024
  pub few_names : length m.names ≤ 32
  -- a step joins two states, and its seconds have 16 bits
  pub joins : (s t d : ℕ) → m.step s t ≡ Some d → (s < m.states) × (t < m.states) × (d ≤ 65535)
  -- every state has a step out
  pub leaves : (s : ℕ) → s < m.states → (t : ℕ) × (d : ℕ) × (m.step s t ≡ Some d)
  -- only a state bears a name, and only one that is listed
  pub listed : (s : ℕ) (w : List ℕ) → m.bears s w ≡ true → (s < m.states) × (among m.names w ≡ true)

-- a machine without states and names
abbrev pub empty : Model
empty = record { states = 0; names = []; bears = λ s w. false; step = λ s t. None }
