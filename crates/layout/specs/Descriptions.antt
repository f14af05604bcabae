-- What a mode sheet describes, which descriptions are proper, and the machine that a description means.
use Rattle.std.specs.Prelude.{◌≡◌, ℕ, ◌+◌, ◌/◌, ◌%◌, ◌^◌, ◌<◌, ◌≤◌, Bool, true, false, cond, ◌&&◌, ◌⊎◌, List, [], ◌∷◌, length, Some, None, Option, ◌==◌, ◌≢◌, slice_index, slice_index_or}
use Rattle.std.specs.Str.{bytes_eq}
use Rattle.machine.specs.Model.{Model}
use Rattle.machine.specs.Names.{is_name}

pub record Step : Type 0 where
  pub from : ℕ
  pub to : ℕ
  pub seconds : ℕ

pub record Description : Type 0 where
  pub names : List (List ℕ)
  -- for each state the set of names that it bears, as bits
  pub labels : List ℕ
  pub steps : List Step

abbrev pub no_step : Step
no_step = record { from = 0; to = 0; seconds = 0 }

abbrev pub name_of : Description → ℕ → List ℕ
name_of d i = slice_index_or d.names i []

abbrev pub label_of : Description → ℕ → ℕ
label_of d s = slice_index d.labels s

abbrev pub step_of : Description → ℕ → Step
step_of d i = slice_index_or d.steps i no_step

-- by the state that is left, and then by the state that is entered
abbrev pub Precedes : Step → Step → Type 0
Precedes e f = (e.from < f.from) ⊎ ((e.from ≡ f.from) × (e.to < f.to))

pub record Proper (d : Description) : Type 0 where
  pub some_states : 1 ≤ length d.labels
  pub few_states : length d.labels ≤ 1024
  pub few_names : length d.names ≤ 32
  pub named : (i : ℕ) → i < length d.names → (is_name (name_of d i) ≡ true) × (length (name_of d i) ≤ 16)
  pub distinct : (i j : ℕ) → i < j → j < length d.names → name_of d i ≢ name_of d j
  pub labelled : (s : ℕ) → s < length d.labels → label_of d s < 2 ^ length d.names
  pub few_steps : length d.steps ≤ 65535
  pub joins : (i : ℕ) → i < length d.steps → ((step_of d i).from < length d.labels) × ((step_of d i).to < length d.labels) × ((step_of d i).seconds ≤ 65535)
  pub ascending : (i : ℕ) → i + 1 < length d.steps → Precedes (step_of d i) (step_of d (i + 1))
  pub leaves : (s : ℕ) → s < length d.labels → (i : ℕ) × (i < length d.steps) × ((step_of d i).from ≡ s)

-- the place of a word among some names
abbrev pub place_from : ℕ → List (List ℕ) → List ℕ → Option ℕ
place_from b [] w = None
place_from b (n ∷ ns) w = cond (bytes_eq n w) (Some b) (place_from (b + 1) ns w)

abbrev pub has_bit : ℕ → ℕ → Bool
has_bit label b = label / 2 ^ b % 2 == 1

-- a state bears name b when bit b of its label is set
abbrev pub borne : Option ℕ → ℕ → Bool
borne None label = false
borne (Some b) label = has_bit label b

abbrev pub seconds_of : List Step → ℕ → ℕ → Option ℕ
seconds_of [] s t = None
seconds_of (e ∷ es) s t = cond (e.from == s && e.to == t) (Some e.seconds) (seconds_of es s t)

abbrev pub meaning : Description → Model
meaning d = record {
  states = length d.labels;
  names = d.names;
  bears = λ s w. borne (place_from 0 d.names w) (label_of d s);
  step = seconds_of d.steps;
}
