-- Which fault a sheet has: the first that is found from front to back.
use Rattle.std.specs.Prelude.{ℕ, zero, suc, ◌+◌, ◌-◌, ◌^◌, Bool, true, false, cond, not, ◌&&◌, ◌||◌, List, map, length, take, Some, None, codes, Option, ◌==◌, nat_le, nat_lt}
use Rattle.std.specs.List.{range_with_len}
use Rattle.std.specs.Str.{bytes_eq}
use Rattle.fault.specs.declared.Fault.{Fault}
use Rattle.fault.specs.declared.Reason.TheVariants.{BadMark, CutShort, BadCount, BadEntry, NoWayOut, LeftOver}
use Rattle.fault.specs.Refusals.{at}
use Rattle.machine.specs.Model.{Model, among, empty}
use Rattle.machine.specs.Names.{is_name}
use Rattle.layout.specs.Descriptions.{Step, meaning}
use Rattle.layout.specs.Fields.{byte_at, u16_at, state_count, name_count, name_at, name_in, label_at, label_in, step_count_at, step_count, step_at, step_in, sheet_end, described}

-- the first of two faults
infixr 2 ◌▹◌
abbrev pub ◌▹◌ : Option Fault → Option Fault → Option Fault
Some f ▹ later = Some f
None ▹ later = later

-- the fault of the first of n entries that has one
unfoldable pub first_fault : ℕ → (ℕ → Option Fault) → Option Fault
first_fault zero fault = None
first_fault (suc n) fault = first_fault n fault ▹ fault n

-- a field of some size at an offset is judged only when all its bytes are there
abbrev pub field : List ℕ → ℕ → ℕ → Bool → Fault → Option Fault
field bytes o size right fault =
    cond (nat_le (o + size) (length bytes)) (cond right None (Some fault)) (Some (at CutShort (length bytes)))

abbrev pub mark_fault : List ℕ → Option Fault
mark_fault bytes = field bytes 0 3 (bytes_eq (take 3 bytes) (codes "MOD")) (at BadMark 0)

abbrev pub version_fault : List ℕ → Option Fault
version_fault bytes = field bytes 3 2 (u16_at bytes 3 == 1) (at BadMark 3)

abbrev pub state_count_fault : List ℕ → Option Fault
state_count_fault bytes = field bytes 5 2 (nat_le 1 (state_count bytes) && nat_le (state_count bytes) 1024) (at BadCount 5)

abbrev pub name_count_fault : List ℕ → Option Fault
name_count_fault bytes = field bytes 7 1 (nat_le (name_count bytes) 32) (at BadCount 7)

abbrev pub header_fault : List ℕ → Option Fault
header_fault bytes = mark_fault bytes ▹ version_fault bytes ▹ state_count_fault bytes ▹ name_count_fault bytes

-- name i is the same as an earlier one
abbrev pub repeats : List ℕ → ℕ → Bool
repeats bytes i = among (map (name_in bytes) (range_with_len 0 i)) (name_in bytes i)

-- the length byte is judged before the word
abbrev pub name_fault : List ℕ → ℕ → Option Fault
name_fault bytes i =
    field bytes (name_at bytes i) 1 (nat_le 1 (byte_at bytes (name_at bytes i)) && nat_le (byte_at bytes (name_at bytes i)) 16) (at BadEntry (name_at bytes i))
    ▹ field bytes (name_at bytes i + 1) (byte_at bytes (name_at bytes i)) (is_name (name_in bytes i) && not (repeats bytes i)) (at BadEntry (name_at bytes i))

abbrev pub label_fault : List ℕ → ℕ → Option Fault
label_fault bytes s = field bytes (label_at bytes s) 4 (nat_lt (label_in bytes s) (2 ^ name_count bytes)) (at BadEntry (label_at bytes s))

abbrev pub step_count_fault : List ℕ → Option Fault
step_count_fault bytes = field bytes (step_count_at bytes) 2 true (at BadEntry (step_count_at bytes))

abbrev pub precedes : Step → Step → Bool
precedes e f = nat_lt e.from f.from || (e.from == f.from && nat_lt e.to f.to)

-- the step before it precedes it, if there is one
abbrev pub in_order : List ℕ → ℕ → Bool
in_order bytes i = i == 0 || precedes (step_in bytes (i - 1)) (step_in bytes i)

abbrev pub step_fault : List ℕ → ℕ → Option Fault
step_fault bytes i =
    field bytes (step_at bytes i) 6 (nat_lt (step_in bytes i).from (state_count bytes) && (nat_lt (step_in bytes i).to (state_count bytes) && in_order bytes i)) (at BadEntry (step_at bytes i))

-- one of the first m steps leaves s
unfoldable pub some_leave : List ℕ → ℕ → ℕ → Bool
some_leave bytes s zero = false
some_leave bytes s (suc i) = some_leave bytes s i || (step_in bytes i).from == s

abbrev pub way_out_fault : List ℕ → ℕ → Option Fault
way_out_fault bytes s = cond (some_leave bytes s (step_count bytes)) None (Some (at NoWayOut s))

abbrev pub end_fault : List ℕ → Option Fault
end_fault bytes = cond (nat_lt (sheet_end bytes) (length bytes)) (Some (at LeftOver (sheet_end bytes))) None

-- what follows the labels
unfoldable pub tail_fault : List ℕ → Option Fault
tail_fault bytes =
    step_count_fault bytes
    ▹ first_fault (step_count bytes) (step_fault bytes)
    ▹ first_fault (state_count bytes) (way_out_fault bytes)
    ▹ end_fault bytes

unfoldable pub sheet_fault : List ℕ → Option Fault
sheet_fault bytes =
    header_fault bytes
    ▹ first_fault (name_count bytes) (name_fault bytes)
    ▹ first_fault (state_count bytes) (label_fault bytes)
    ▹ tail_fault bytes

-- the machine that a sheet means: bytes with a fault mean one without states and names
abbrev pub meaning_unless : Option Fault → List ℕ → Model
meaning_unless None bytes = meaning (described bytes)
meaning_unless (Some f) bytes = empty

abbrev pub sheet_model : List ℕ → Model
sheet_model bytes = meaning_unless (sheet_fault bytes) bytes
