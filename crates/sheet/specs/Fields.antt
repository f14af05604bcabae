-- What stands behind each other in a sheet's bytes.
use Rattle.std.specs.Prelude.{◌≡◌, ℕ, zero, suc, ◌+◌, ◌*◌, ◌<◌, Bool, true, ◌&&◌, ◌||◌, List, [], ◌∷◌, length, take, drop, Some, None, Option, ◌==◌, nat_lt, slice_index_or}
use Rattle.fault.specs.declared.Fault.{Fault}
use Rattle.fault.specs.declared.Reason.TheVariants.{CutShort}
use Rattle.fault.specs.Refusals.{at}
use Rattle.layout.specs.Fields.{byte_at, word_at}
use Rattle.layout.specs.Judging.{field}

-- refused unless a field of this size is there
abbrev pub cut_fault : List ℕ → ℕ → ℕ → Option Fault
cut_fault bytes o size = field bytes o size true (at CutShort (length bytes))

-- what stands from an offset on, in entries of one size
abbrev pub EntriesAt : ℕ → List ℕ → ℕ → List (List ℕ) → Type 0
EntriesAt size bytes o entries = (i : ℕ) → i < length entries → slice_index_or entries i [] ≡ take size (drop (o + size * i) bytes)

-- the first n names, each behind its length byte
abbrev pub words_in : ℕ → List ℕ → List (List ℕ)
words_in zero bytes = []
words_in (suc n) bytes = word_at bytes 0 ∷ words_in n (drop (1 + byte_at bytes 0) bytes)

-- how many bytes they take
abbrev pub names_size : ℕ → List ℕ → ℕ
names_size zero bytes = 0
names_size (suc n) bytes = 1 + byte_at bytes 0 + names_size n (drop (1 + byte_at bytes 0) bytes)

-- a step comes after the one before it, if there is one, each by the states that it joins
abbrev pub follows : Option (ℕ × ℕ) → ℕ × ℕ → Bool
follows None key = true
follows (Some last) key = nat_lt last.0 key.0 || (last.0 == key.0 && nat_lt last.1 key.1)
