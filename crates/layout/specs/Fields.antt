-- Where the fields of a sheet stand, and what the bytes there say. A byte past the end counts as 0.
use Rattle.std.specs.Prelude.{ℕ, zero, suc, ◌+◌, ◌*◌, List, map, take, drop, slice_index}
use Rattle.std.specs.List.{range_with_len}
use Rattle.layout.specs.Descriptions.{Step, Description}

abbrev pub byte_at : List ℕ → ℕ → ℕ
byte_at bytes o = slice_index bytes o

abbrev pub u16_at : List ℕ → ℕ → ℕ
u16_at bytes o = byte_at bytes o + 256 * byte_at bytes (o + 1)

abbrev pub u32_at : List ℕ → ℕ → ℕ
u32_at bytes o = u16_at bytes o + 65536 * u16_at bytes (o + 2)

abbrev pub state_count : List ℕ → ℕ
state_count bytes = u16_at bytes 5

abbrev pub name_count : List ℕ → ℕ
name_count bytes = byte_at bytes 7

-- name i: its length byte stands here, its word behind it
unfoldable pub name_at : List ℕ → ℕ → ℕ
name_at bytes zero = 8
name_at bytes (suc i) = name_at bytes i + 1 + byte_at bytes (name_at bytes i)

abbrev pub word_at : List ℕ → ℕ → List ℕ
word_at bytes o = take (byte_at bytes o) (drop (o + 1) bytes)

abbrev pub name_in : List ℕ → ℕ → List ℕ
name_in bytes i = word_at bytes (name_at bytes i)

abbrev pub labels_at : List ℕ → ℕ
labels_at bytes = name_at bytes (name_count bytes)

abbrev pub label_at : List ℕ → ℕ → ℕ
label_at bytes s = labels_at bytes + 4 * s

abbrev pub label_in : List ℕ → ℕ → ℕ
label_in bytes s = u32_at bytes (label_at bytes s)

abbrev pub step_count_at : List ℕ → ℕ
step_count_at bytes = label_at bytes (state_count bytes)

abbrev pub step_count : List ℕ → ℕ
step_count bytes = u16_at bytes (step_count_at bytes)

abbrev pub step_at : List ℕ → ℕ → ℕ
step_at bytes i = step_count_at bytes + 2 + 6 * i

abbrev pub step_there : List ℕ → ℕ → Step
step_there bytes o = record { from = u16_at bytes o; to = u16_at bytes (o + 2); seconds = u16_at bytes (o + 4) }

abbrev pub step_in : List ℕ → ℕ → Step
step_in bytes i = step_there bytes (step_at bytes i)

abbrev pub sheet_end : List ℕ → ℕ
sheet_end bytes = step_at bytes (step_count bytes)

-- what the fields say, taken together
abbrev pub described : List ℕ → Description
described bytes = record {
  names = map (name_in bytes) (range_with_len 0 (name_count bytes));
  labels = map (label_in bytes) (range_with_len 0 (state_count bytes));
  steps = map (step_in bytes) (range_with_len 0 (step_count bytes));
}
