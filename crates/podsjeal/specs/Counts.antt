-- How many steps a machine has.
use Rattle.std.specs.Prelude.{ℕ, zero, suc, ◌+◌, cond, is_some}
use Rattle.machine.specs.Model.{Model}

-- f 0 + f 1 + ... + f (n - 1)
abbrev pub sum_below : ℕ → (ℕ → ℕ) → ℕ
sum_below zero f = 0
sum_below (suc n) f = sum_below n f + f n

-- 1 where there is a step from s to t, else 0
abbrev pub one_step : Model → ℕ → ℕ → ℕ
one_step m s t = cond (is_some (m.step s t)) 1 0

unfoldable pub steps_out : Model → ℕ → ℕ
steps_out m s = sum_below m.states (one_step m s)

unfoldable pub all_steps : Model → ℕ
all_steps m = sum_below m.states (steps_out m)
