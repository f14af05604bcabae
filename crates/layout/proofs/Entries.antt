-- Entries one behind the other.
use Rattle.std.proofs.Common.{◌≡◌, ℕ, zero, suc, ◌+◌, ◌<◌, ◌≤◌, List, ◌++◌, map, length, get_or, drop, append_assoc, add-zero, add-one, arith}
use Rattle.std.specs.List.{range_with_len, flat_map}
use Rattle.std.proofs.lemmas.List.Prefix.{front_rest}
use Rattle.std.proofs.lemmas.List.{drop_more, drop-drop}

-- Where each entry stands in front of the next one's place, all of them stand in front of the last place.
pub entries_from : {A : Type 0} (entry : A → List ℕ) (item : ℕ → A) (place : ℕ → ℕ) (bytes : List ℕ) (a n : ℕ) → ((i : ℕ) → a ≤ i → i < a + n → drop (place i) bytes ≡ entry (item i) ++ drop (place (i + 1)) bytes) → drop (place a) bytes ≡ flat_map entry (map item (range_with_len a n)) ++ drop (place (a + n)) bytes
entries_from entry item place bytes a zero each = rw add-zero
entries_from entry item place bytes a (suc n) each =
    let here = each a (omega arith) (omega arith) in
    let more = entries_from entry item place bytes (a + 1) n (λ i l h. each i (omega arith) (omega arith)) in
    let e : a + 1 + n ≡ a + suc n = omega arith in
    rw (here, more, e, append_assoc)

-- the first of the entries from i on
pub entry_behind : {A : Type 0} (entry : A → List ℕ) (xs : List A) (d : A) (bytes rest : List ℕ) (o i : ℕ) → i < length xs → drop o bytes ≡ flat_map entry (drop i xs) ++ rest → drop o bytes ≡ entry (get_or xs i d) ++ (flat_map entry (drop (i + 1) xs) ++ rest)
entry_behind entry xs d bytes rest o i h e = rw (e, drop_more xs i d h, append_assoc)

-- what stands behind the front
pub behind_more : (bytes front rest : List ℕ) (o : ℕ) → drop o bytes ≡ front ++ rest → drop (o + length front) bytes ≡ rest
behind_more bytes front rest o e = rw (← drop-drop (length front) o bytes) (front_rest (drop o bytes) front rest e)

-- Where entries stand behind the first place, and each place follows from the entry before it, the others stand behind each place.
pub entries_behind : {A : Type 0} (entry : A → List ℕ) (xs : List A) (d : A) (place : ℕ → ℕ) (bytes rest : List ℕ)
    → ((i : ℕ) (tail : List ℕ) → i < length xs → drop (place i) bytes ≡ entry (get_or xs i d) ++ tail → place (i + 1) ≡ place i + length (entry (get_or xs i d)))
    → drop (place 0) bytes ≡ flat_map entry xs ++ rest → (i : ℕ) → i ≤ length xs → drop (place i) bytes ≡ flat_map entry (drop i xs) ++ rest
entries_behind entry xs d place bytes rest next start zero h = start
entries_behind entry xs d place bytes rest next start (suc i) h =
    let before = entries_behind entry xs d place bytes rest next start i (omega arith) in
    let tail = flat_map entry (drop (i + 1) xs) ++ rest in
    let here = entry_behind entry xs d bytes rest (place i) i (omega arith) before in
    let at = next i tail (omega arith) here in
    rw (← add-one, at) (behind_more bytes (entry (get_or xs i d)) tail (place i) here)
