-- One question of many.
use Rattle.std.proofs.Common.{◌≡◌, ℕ, suc, ◌+◌, ◌-◌, ◌%◌, ◌^◌, ◌<◌, ap, arith}
use Rattle.machine.specs.Model.{Model}
use Rattle.gauge.specs.Asking.{next, answer, asked}

pub asked_once : (m : Model) (n k x total : ℕ) → k < n → asked m (n - k) x total ≡ asked m (n - (k + 1)) (next x) ((total + answer m x) % 2 ^ 64)
unfolding asked
asked_once m n k x total h = ap (λ j. asked m j x total) {x = n - k} {y = suc (n - (k + 1))} (omega arith)
