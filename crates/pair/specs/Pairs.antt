-- What two machines side by side mean: in a step one side moves and the other stays.
use Rattle.std.specs.Prelude.{ℕ, ◌+◌, ◌*◌, ◌/◌, ◌%◌, min, Bool, false, cond, ◌&&◌, List, ◌++◌, length, Some, None, Option, ◌==◌, nat_le, nat_lt}
use Rattle.machine.specs.Model.{Model, among, empty}

-- at most 1,024 states and 32 names, counted together
abbrev pub fits : Model → Model → Bool
fits a b = nat_le (a.states * b.states) 1024 && nat_le (length a.names + length b.names) 32

-- with q states on the right, state s has the left side at s / q and the right side at s % q
abbrev pub left_at : Model → ℕ → ℕ
left_at b s = s / b.states

abbrev pub right_at : Model → ℕ → ℕ
right_at b s = s % b.states

-- the left side moves and the right side stays
abbrev pub left_moves : Model → Model → ℕ → ℕ → Option ℕ
left_moves a b s t = cond (right_at b s == right_at b t) (a.step (left_at b s) (left_at b t)) None

-- the right side moves and the left side stays
abbrev pub right_moves : Model → Model → ℕ → ℕ → Option ℕ
right_moves a b s t = cond (left_at b s == left_at b t) (b.step (right_at b s) (right_at b t)) None

-- of two ways to make a step, the one of fewer seconds
abbrev pub fewer : Option ℕ → Option ℕ → Option ℕ
fewer None y = y
fewer (Some c) None = Some c
fewer (Some c) (Some d) = Some (min c d)

abbrev pub within : Model → Model → ℕ → Bool
within a b s = nat_lt s (a.states * b.states)

abbrev pub pair_step : Model → Model → ℕ → ℕ → Option ℕ
pair_step a b s t = cond (within a b s && within a b t) (fewer (left_moves a b s t) (right_moves a b s t)) None

-- a name that both sides know is the left's
abbrev pub pair_bears : Model → Model → ℕ → List ℕ → Bool
pair_bears a b s w =
    cond (within a b s) (cond (among a.names w) (a.bears (left_at b s) w) (b.bears (right_at b s) w)) false

abbrev pub side_by_side : Model → Model → Model
side_by_side a b = record { states = a.states * b.states; names = a.names ++ b.names; bears = pair_bears a b; step = pair_step a b }

-- too large: no states and no names
abbrev pub pair_model : Model → Model → Model
pair_model a b = cond (fits a b) (side_by_side a b) empty
