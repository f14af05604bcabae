-- How large a pair is.
use Rattle.std.specs.Prelude.{◌≡◌, ◌+◌, ◌*◌, true, length}
use Rattle.machine.specs.Model.{Model}
use Rattle.pair.specs.Pairs.{fits}
use Rattle.pair.specs.declared.Size.{Size}

-- z is the size of a pair that is not too large
pub record IsSizeOf (a b : Model) (z : Size) : Type 0 where
  pub fitting : fits a b ≡ true
  pub states : z.states ≡ a.states * b.states
  pub names : z.names ≡ length a.names + length b.names
  pub right : z.right_states ≡ b.states
