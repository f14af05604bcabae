-- What a machine without some of its steps means.
use Rattle.std.specs.Prelude.{◌≡◌, ℕ, zero, suc, ◌<◌, Bool, true, false, cond, not, ◌&&◌, ◌||◌, List, filter, is_some, None, Option, ◌==◌, slice_index_or}
use Rattle.std.specs.List.{list_any}
use Rattle.machine.specs.Model.{Model}
use Rattle.barred.specs.declared.steps.Step.{Step}

-- the barred steps, each by the state it leaves and the state it enters
abbrev pub Bars : Type 0
Bars = List Step

abbrev pub step_of : ℕ → ℕ → Step
step_of s t = record { from = s; to = t }

abbrev pub is_step : Step → ℕ → ℕ → Bool
is_step p s t = p.from == s && p.to == t

abbrev pub is_barred : Bars → ℕ → ℕ → Bool
is_barred bars s t = list_any (λ p. is_step p s t) bars

-- a step of the machine that is not barred
abbrev pub is_open : Model → Bars → ℕ → ℕ → Bool
is_open m bars s t = is_some (m.step s t) && not (is_barred bars s t)

abbrev pub some_below : ℕ → (ℕ → Bool) → Bool
some_below zero f = false
some_below (suc n) f = some_below n f || f n

-- some step out of s is open
unfoldable pub has_open : Model → Bars → ℕ → Bool
has_open m bars s = some_below m.states (is_open m bars s)

-- some step out of s is open, and it does not lead to t
unfoldable pub has_other : Model → Bars → ℕ → ℕ → Bool
has_other m bars s t = some_below m.states (λ u. is_open m bars s u && not (u == t))

-- bars that name all the steps of a state take none of them away
abbrev pub barred_step : Model → Bars → ℕ → ℕ → Option ℕ
barred_step m bars s t = cond (is_barred bars s t && has_open m bars s) None (m.step s t)

abbrev pub barred_model : Model → Bars → Model
barred_model m bars = record { states = m.states; names = m.names; bears = m.bears; step = barred_step m bars }

-- every state keeps an open step
abbrev pub KeepsOut : Model → Bars → Type 0
KeepsOut m bars = (s : ℕ) → s < m.states → has_open m bars s ≡ true

-- the bars but that of the step from s to t
abbrev pub without : Bars → ℕ → ℕ → Bars
without bars s t = filter (λ p. not (is_step p s t)) bars

-- every state that a barred step leaves is marked
abbrev pub Marked : List Bool → Bars → Type 0
Marked touched bars = (s t : ℕ) → is_barred bars s t ≡ true → slice_index_or touched s false ≡ true
