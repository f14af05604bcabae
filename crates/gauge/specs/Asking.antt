-- Many step questions to one machine, at states drawn from a seed.
use Rattle.std.specs.Prelude.{ℕ, zero, suc, ◌+◌, ◌*◌, ◌/◌, ◌%◌, ◌^◌, cond, ◌==◌}
use Rattle.std.specs.Option.{unwrap_or}
use Rattle.machine.specs.Model.{Model}

-- the next number of a linear congruential generator
abbrev pub next : ℕ → ℕ
next x = (x * 6364136223846793005 + 1442695040888963407) % 2 ^ 64

-- what is asked of the machine at a drawn number
abbrev pub answer : Model → ℕ → ℕ
answer m x = unwrap_or (m.step (x / 2 ^ 20 % m.states) (x / 2 ^ 40 % m.states)) 0

-- the seconds of n questions, added up onto a total, in 64 bits
unfoldable pub asked : Model → ℕ → ℕ → ℕ → ℕ
asked m zero x total = total
asked m (suc n) x total = asked m n (next x) ((total + answer m x) % 2 ^ 64)

-- nothing is asked of a machine without states
abbrev pub asked_of : Model → ℕ → ℕ → ℕ
asked_of m count seed = cond (m.states == 0) 0 (asked m count seed 0)
