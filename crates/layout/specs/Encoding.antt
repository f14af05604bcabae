-- How a description is written down as bytes. Numbers are little-endian.
use Rattle.std.specs.Prelude.{ℕ, ◌/◌, ◌%◌, List, [], ◌∷◌, ◌++◌, length, codes}
use Rattle.std.specs.List.{flat_map}
use Rattle.layout.specs.Descriptions.{Step, Description}

abbrev pub two_bytes : ℕ → List ℕ
two_bytes x = (x % 256) ∷ ((x / 256) ∷ [])

abbrev pub four_bytes : ℕ → List ℕ
four_bytes x = two_bytes (x % 65536) ++ two_bytes (x / 65536)

abbrev pub name_entry : List ℕ → List ℕ
name_entry w = length w ∷ w

abbrev pub step_entry : Step → List ℕ
step_entry e = two_bytes e.from ++ (two_bytes e.to ++ two_bytes e.seconds)

abbrev pub encode : Description → List ℕ
encode d =
    codes "MOD" ++ (two_bytes 1 ++ (two_bytes (length d.labels) ++ ((length d.names ∷ []) ++ (flat_map name_entry d.names ++ (flat_map four_bytes d.labels ++ (two_bytes (length d.steps) ++ flat_map step_entry d.steps))))))
