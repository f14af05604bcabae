-- Numbers as bytes, and back.
use Rattle.std.proofs.Common.{◌≡◌, ℕ, ◌+◌, ◌/◌, ◌%◌, ◌<◌, ◌≤◌, List, ◌++◌, length, drop, ap, add-zero, add_assoc, arith, length-append, length-drop}
use Rattle.std.proofs.lemmas.List.{drop_more}
use Rattle.std.proofs.lemmas.List.Prefix.{at_reads}
use Rattle.layout.specs.Encoding.{two_bytes, four_bytes}
use Rattle.layout.specs.Fields.{byte_at, u16_at, u32_at}

-- every byte has 8 bits
abbrev pub Bytes : List ℕ → Type 0
Bytes bytes = (i : ℕ) → byte_at bytes i < 256

pub u16_below : (bytes : List ℕ) → Bytes bytes → (o : ℕ) → u16_at bytes o < 65536
u16_below bytes ok o = omega (arith, ok o, ok (o + 1))

-- the two bytes of a 16-bit number stand in front of the rest
pub two_bytes_at : (bytes : List ℕ) → Bytes bytes → (o : ℕ) → o + 2 ≤ length bytes → drop o bytes ≡ two_bytes (u16_at bytes o) ++ drop (o + 2) bytes
two_bytes_at bytes ok o h =
    let a = drop_more bytes o 0 (omega arith) in
    let b = drop_more bytes (o + 1) 0 (omega arith) in
    let l : u16_at bytes o % 256 ≡ byte_at bytes o = omega (arith, ok o) in
    let g : u16_at bytes o / 256 ≡ byte_at bytes (o + 1) = omega (arith, ok o) in
    let e = add_assoc o 1 1 in
    cc

pub four_bytes_at : (bytes : List ℕ) → Bytes bytes → (o : ℕ) → o + 4 ≤ length bytes → drop o bytes ≡ four_bytes (u32_at bytes o) ++ drop (o + 4) bytes
four_bytes_at bytes ok o h =
    let l : u32_at bytes o % 65536 ≡ u16_at bytes o = omega (arith, u16_below bytes ok o) in
    let g : u32_at bytes o / 65536 ≡ u16_at bytes (o + 2) = omega (arith, u16_below bytes ok o) in
    rw (l, g, two_bytes_at bytes ok o (omega arith), two_bytes_at bytes ok (o + 2) (omega arith), add_assoc o 2 2)

-- what stands behind offset o
pub room_behind : (bytes front rest : List ℕ) (o : ℕ) → drop o bytes ≡ front ++ rest → 0 < length front → o + length front ≤ length bytes
room_behind bytes front rest o e h = omega (arith, simp (length-drop, length-append) at (ap length e))

pub u16_behind : (bytes rest : List ℕ) (o x : ℕ) → drop o bytes ≡ two_bytes x ++ rest → u16_at bytes o ≡ x
u16_behind bytes rest o x e =
    let a = at_reads 0 bytes (two_bytes x) o rest e 0 (omega arith) in
    let b = at_reads 0 bytes (two_bytes x) o rest e 1 (omega arith) in
    omega (arith, rw add-zero at a, b)
