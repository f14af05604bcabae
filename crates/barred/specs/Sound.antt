-- Bars that take no state's last open step.
use Rattle.std.specs.Prelude.{◌≡◌, ℕ, cond, None}
use Rattle.machine.specs.Model.{Model}
use Rattle.barred.specs.Bars.{Bars, is_open, barred_model, KeepsOut}

-- Where every state keeps an open step, the barred machine's steps are exactly the open ones, with the machine's own seconds.
abbrev pub ShowsOpen : Model → Bars → Type 0
ShowsOpen m bars = (s t : ℕ) → (barred_model m bars).step s t ≡ cond (is_open m bars s t) (m.step s t) None

-- The bars leave every state an open step, and the barred machine shows exactly the open steps.
pub record Sound (m : Model) (bars : Bars) : Type 0 where
  pub keeps : KeepsOut m bars
  pub shows : ShowsOpen m bars
