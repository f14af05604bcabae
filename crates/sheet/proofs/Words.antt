-- The names of a sheet, one behind the other.
use Rattle.std.proofs.Common.{◌≡◌, ℕ, zero, suc, ◌+◌, ◌≤◌, cond, List, [], ◌∷◌, map, length, take, drop, Some, None, refl, ap, ◌∙◌, add-zero, arith}
use Rattle.std.specs.List.{range_with_len, position_from}
use Rattle.std.specs.Str.{bytes_eq}
use Rattle.std.proofs.lemmas.List.{drop-drop, get_or-drop}
use Rattle.layout.specs.Descriptions.{place_from}
use Rattle.layout.specs.Fields.{byte_at, name_at, word_at, name_in}
use Rattle.layout.specs.Judging.{first_fault, name_fault}
use Rattle.layout.proofs.Faults.{first_each}
use Rattle.layout.proofs.Faultless.{good_name}
use Rattle.layout.proofs.Reading.{name_at_next}
use Rattle.sheet.specs.Fields.{words_in, names_size}

byte_behind : (bytes : List ℕ) (o : ℕ) → byte_at (drop o bytes) 0 ≡ byte_at bytes o
byte_behind bytes o = get_or-drop o bytes 0 0 ∙ ap (byte_at bytes) (add-zero o)

word_behind : (bytes : List ℕ) (o : ℕ) → word_at (drop o bytes) 0 ≡ word_at bytes o
word_behind bytes o =
    ap (λ k. take k (drop 1 (drop o bytes))) (byte_behind bytes o) ∙ ap (take (byte_at bytes o)) (drop-drop 1 o bytes)

next_behind : (bytes : List ℕ) (i : ℕ) → drop (1 + byte_at (drop (name_at bytes i) bytes) 0) (drop (name_at bytes i) bytes) ≡ drop (name_at bytes (i + 1)) bytes
next_behind bytes i =
    let o = name_at bytes i in
    let e : o + (1 + byte_at (drop o bytes) 0) ≡ name_at bytes (i + 1) = omega (arith, byte_behind bytes o, name_at_next bytes i) in
    drop-drop (1 + byte_at (drop o bytes) 0) o bytes ∙ ap (λ k. drop k bytes) e

pub words_are : (bytes : List ℕ) (i n : ℕ) → words_in n (drop (name_at bytes i) bytes) ≡ map (name_in bytes) (range_with_len i n)
words_are bytes i zero = refl
words_are bytes i (suc n) =
    ap (λ w. w ∷ words_in n (drop (1 + byte_at (drop (name_at bytes i) bytes) 0) (drop (name_at bytes i) bytes))) (word_behind bytes (name_at bytes i))
    ∙ ap (λ rest. name_in bytes i ∷ words_in n rest) (next_behind bytes i)
    ∙ ap (λ ws. name_in bytes i ∷ ws) (words_are bytes (i + 1) n)

pub names_end : (bytes : List ℕ) (i n : ℕ) → name_at bytes i + names_size n (drop (name_at bytes i) bytes) ≡ name_at bytes (i + n)
names_end bytes i zero = omega (arith, ap (name_at bytes) (add-zero i))
names_end bytes i (suc n) =
    let o = name_at bytes i in
    let e : i + 1 + n ≡ i + suc n = omega arith in
    omega (arith, byte_behind bytes o, name_at_next bytes i, ap (names_size n) (next_behind bytes i), names_end bytes (i + 1) n, ap (name_at bytes) e)

pub words_length : (n : ℕ) (bytes : List ℕ) → length (words_in n bytes) ≡ n
words_length zero bytes = refl
words_length (suc n) bytes = ap suc (words_length n (drop (1 + byte_at bytes 0) bytes))

pub place_position : (b : ℕ) (ns : List (List ℕ)) (w : List ℕ) → position_from (λ n. bytes_eq n w) b ns ≡ place_from b ns w
place_position b [] w = refl
place_position b (n ∷ ns) w = ap (λ o. cond (bytes_eq n w) (Some b) o) (place_position (b + 1) ns w)

-- names without a fault lie within the bytes
pub names_room : (bytes : List ℕ) (k : ℕ) → 8 ≤ length bytes → first_fault k (name_fault bytes) ≡ None → name_at bytes k ≤ length bytes
unfolding name_at
names_room bytes zero h e = h
names_room bytes (suc k) h e = (good_name bytes k (first_each (suc k) (name_fault bytes) e k (omega arith))).room
