-- Which bars a call leaves, and when it is refused.
use Rattle.std.specs.Prelude.{ℕ, cond, not, [], ◌∷◌, ◌++◌, length, Some, None, Option, nat_le}
use Rattle.fault.specs.declared.Fault.{Fault}
use Rattle.fault.specs.declared.Reason.TheVariants.{NoSuchState, NotThatStep, OnlyWayOut, BarsUsedUp}
use Rattle.fault.specs.Refusals.{at}
use Rattle.machine.specs.Model.{Model}
use Rattle.machine.specs.declared.Machine.{Ghosts as Machine}
use Rattle.barred.specs.declared.store.Barred.{Barred}
use Rattle.barred.specs.Bars.{Bars, step_of, is_barred, is_open, has_other, without}

-- the steps that a barred machine bars
abbrev pub bars_of : {M : Type 0} {m : Machine M} → Barred M m → Bars
bars_of b = b.bars.items

-- why s and t are not both below the number of states, or else another fault
abbrev pub ends_fault : ℕ → ℕ → ℕ → Option Fault → Option Fault
ends_fault states s t other =
    cond (nat_le states s) (Some (at NoSuchState s))
    (cond (nat_le states t) (Some (at NoSuchState t)) other)

-- why the step from s to t cannot be barred, if it cannot
abbrev pub bar_fault : Model → Bars → ℕ → ℕ → Option Fault
bar_fault m bars s t =
    ends_fault m.states s t
    (cond (not (is_open m bars s t)) (Some (at NotThatStep s))
    (cond (not (has_other m bars s t)) (Some (at OnlyWayOut s))
    (cond (nat_le 64 (length bars)) (Some (at BarsUsedUp 64)) None)))

-- why it cannot be unbarred, if it cannot
abbrev pub unbar_fault : Model → Bars → ℕ → ℕ → Option Fault
unbar_fault m bars s t =
    ends_fault m.states s t (cond (not (is_barred bars s t)) (Some (at NotThatStep s)) None)

-- a refused call leaves the bars as they were
abbrev pub after : Option Fault → Bars → Bars → Bars
after None new old = new
after (Some f) new old = old

abbrev pub bar_after : Model → Bars → ℕ → ℕ → Bars
bar_after m bars s t = after (bar_fault m bars s t) (bars ++ (step_of s t ∷ [])) bars

abbrev pub unbar_after : Model → Bars → ℕ → ℕ → Bars
unbar_after m bars s t = after (unbar_fault m bars s t) (without bars s t) bars
