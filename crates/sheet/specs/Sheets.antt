-- What examining and opening a sheet answers.
use Rattle.std.specs.Prelude.{◌≡◌, ℕ, ◌<◌, true, false, List, [], map, Some, None, Option}
use Rattle.std.specs.Ordering.{nat_cmp, ordering_then}
use Rattle.std.specs.declared.cmp.Ordering.{Ordering}
use Rattle.fault.specs.declared.Fault.{Fault}
use Rattle.layout.specs.Descriptions.{Step, Description}
use Rattle.layout.specs.Fields.{u32_at, step_there, described}
use Rattle.layout.specs.Judging.{some_leave, sheet_fault}
use Rattle.sheet.specs.declared.parts.Parts.{Parts}
use Rattle.sheet.specs.Fields.{words_in}

-- what the parts of a sheet say
abbrev pub said_by : Parts → Description
said_by parts = record {
  names = words_in parts.names.count parts.names.bytes.now;
  labels = map (λ entry. u32_at entry 0) parts.labels.now;
  steps = map (λ entry. step_there entry 0) parts.steps.now;
}

abbrev pub nothing : Description
nothing = record { names = []; labels = []; steps = [] }

-- what bytes describe: nothing if they have a fault
abbrev pub described_unless : Option Fault → List ℕ → Description
described_unless None bytes = described bytes
described_unless (Some f) bytes = nothing

abbrev pub found_in : List ℕ → Description
found_in bytes = described_unless (sheet_fault bytes) bytes

-- the lowest state that none of the first m steps leaves
pub record Lowest (bytes : List ℕ) (m low : ℕ) : Type 0 where
  pub below : (s : ℕ) → s < low → some_leave bytes s m ≡ true
  pub here : some_leave bytes low m ≡ false

-- a step by its two states
abbrev pub sought : ℕ → ℕ → Step
sought s t = record { from = s; to = t; seconds = 0 }

-- how a step compares with the states that are sought
abbrev pub compared : Step → ℕ → ℕ → Ordering
compared e s t = ordering_then (nat_cmp e.from s) (nat_cmp e.to t)
