-- The bytes of a faultless sheet encode a proper description: the one that its fields say.
use Rattle.std.proofs.Common.{◌≡◌, ℕ, zero, suc, ◌+◌, ◌<◌, ◌≤◌, true, false, eqb, List, [], ◌++◌, map, length, get_or, take, drop, codes, sym, refl, ap, ◌∙◌, inl, inr, append-nil, zero-add, add-one, arith, rules}
use Rattle.std.specs.List.{range_with_len, flat_map}
use Rattle.std.specs.Str.{bytes_eq}
use Rattle.std.proofs.lemmas.Grind.{common_steps}
use Rattle.std.proofs.lemmas.List.Recursion.{or_at}
use Rattle.std.proofs.lemmas.List.FromFn.{length-map-range_with_len, get_or-map-range_with_len}
use Rattle.std.proofs.lemmas.Slice.Eq.{bytes_eq-Decides}
use Rattle.std.proofs.lemmas.List.{take-append-drop, drop-drop, drop_more, drop_all}
use Rattle.std.proofs.lemmas.Bool.{or_cases, false≢true}
use Rattle.machine.specs.Model.{among}
use Rattle.layout.specs.Descriptions.{Step, no_step, name_of, label_of, step_of, Precedes, Proper}
use Rattle.layout.specs.Encoding.{two_bytes, four_bytes, name_entry, step_entry, encode}
use Rattle.layout.specs.Fields.{byte_at, state_count, name_count, name_at, word_at, name_in, labels_at, label_at, label_in, step_count_at, step_count, step_at, step_in, sheet_end, described}
use Rattle.layout.specs.Judging.{precedes, repeats, in_order, some_leave}
use Rattle.layout.proofs.Numbers.{Bytes, u16_below, two_bytes_at, four_bytes_at}
use Rattle.layout.proofs.Entries.{entries_from}
use Rattle.layout.proofs.Faultless.{Faultless, GoodName, GoodLabel, GoodStep}

pub name_at_next : (bytes : List ℕ) (i : ℕ) → name_at bytes (i + 1) ≡ name_at bytes i + 1 + byte_at bytes (name_at bytes i)
unfolding name_at
name_at_next bytes i = ap (name_at bytes) (add-one i)

word_length : (bytes : List ℕ) (o : ℕ) → o + 1 + byte_at bytes o ≤ length bytes → length (word_at bytes o) ≡ byte_at bytes o
word_length bytes o h = grind (arith, common_steps)

-- an entry stands in front of the place of the next one
name_here : (bytes : List ℕ) (i : ℕ) → GoodName bytes i → drop (name_at bytes i) bytes ≡ name_entry (name_in bytes i) ++ drop (name_at bytes (i + 1)) bytes
name_here bytes i g =
    let o = name_at bytes i in
    let room = g.room in
    let len = word_length bytes o room in
    let split = take-append-drop (byte_at bytes o) (drop (o + 1) bytes) in
    let rest = drop-drop (byte_at bytes o) (o + 1) bytes in
    let first = drop_more bytes o 0 (omega arith) in
    let next = name_at_next bytes i in
    cc

label_here : (bytes : List ℕ) → Bytes bytes → (s : ℕ) → GoodLabel bytes s → drop (label_at bytes s) bytes ≡ four_bytes (label_in bytes s) ++ drop (label_at bytes (s + 1)) bytes
label_here bytes ok s g =
    let e : label_at bytes s + 4 ≡ label_at bytes (s + 1) = omega arith in
    rw (← e) (four_bytes_at bytes ok (label_at bytes s) g.room)

step_here : (bytes : List ℕ) → Bytes bytes → (i : ℕ) → GoodStep bytes i → drop (step_at bytes i) bytes ≡ step_entry (step_in bytes i) ++ drop (step_at bytes (i + 1)) bytes
step_here bytes ok i g =
    let o = step_at bytes i in
    let room = g.room in
    let a = two_bytes_at bytes ok o (omega arith) in
    let b = two_bytes_at bytes ok (o + 2) (omega arith) in
    let c = two_bytes_at bytes ok (o + 4) (omega arith) in
    let p : o + 2 + 2 ≡ o + 4 = omega arith in
    let q : o + 4 + 2 ≡ step_at bytes (i + 1) = omega arith in
    rw (a, b, p, c, q)

mark_here : (bytes : List ℕ) → take 3 bytes ≡ codes "MOD" → bytes ≡ codes "MOD" ++ drop 3 bytes
mark_here bytes e = let whole = take-append-drop 3 bytes in cc

-- what stands behind each part of the sheet
abbrev step_bytes : List ℕ → List ℕ
step_bytes bytes = flat_map step_entry (described bytes).steps

abbrev count_bytes : List ℕ → List ℕ
count_bytes bytes = two_bytes (step_count bytes) ++ step_bytes bytes

abbrev label_bytes : List ℕ → List ℕ
label_bytes bytes = flat_map four_bytes (described bytes).labels ++ count_bytes bytes

abbrev name_bytes : List ℕ → List ℕ
name_bytes bytes = flat_map name_entry (described bytes).names ++ label_bytes bytes

steps_suffix : (bytes : List ℕ) → Bytes bytes → Faultless bytes → drop (step_count_at bytes + 2) bytes ≡ step_bytes bytes
steps_suffix bytes ok g =
    let m = step_count bytes in
    let all = entries_from step_entry (step_in bytes) (step_at bytes) bytes 0 m (λ i _ h. step_here bytes ok i (g.step i (omega arith))) in
    let start : step_count_at bytes + 2 ≡ step_at bytes 0 = omega arith in
    let end : step_at bytes (0 + m) ≡ sheet_end bytes = omega arith in
    let none = drop_all (sheet_end bytes) bytes g.ends in
    rw (start, all, end, none, append-nil)

count_suffix : (bytes : List ℕ) → Bytes bytes → Faultless bytes → drop (step_count_at bytes) bytes ≡ count_bytes bytes
count_suffix bytes ok g = rw (two_bytes_at bytes ok (step_count_at bytes) g.count_room, steps_suffix bytes ok g)

labels_suffix : (bytes : List ℕ) → Bytes bytes → Faultless bytes → drop (labels_at bytes) bytes ≡ label_bytes bytes
labels_suffix bytes ok g =
    let n = state_count bytes in
    let all = entries_from four_bytes (label_in bytes) (label_at bytes) bytes 0 n (λ s _ h. label_here bytes ok s (g.label s (omega arith))) in
    let start : labels_at bytes ≡ label_at bytes 0 = omega arith in
    let end : label_at bytes (0 + n) ≡ step_count_at bytes = omega arith in
    let rest = count_suffix bytes ok g in
    cc

names_suffix : (bytes : List ℕ) → Bytes bytes → Faultless bytes → drop 8 bytes ≡ name_bytes bytes
unfolding name_at
names_suffix bytes ok g =
    let k = name_count bytes in
    let all = entries_from name_entry (name_in bytes) (name_at bytes) bytes 0 k (λ i _ h. name_here bytes i (g.name i (omega arith))) in
    rw (all, zero-add, labels_suffix bytes ok g)

-- the bytes are the encoding of what they say
pub encodes : (bytes : List ℕ) → Bytes bytes → Faultless bytes → encode (described bytes) ≡ bytes
encodes bytes ok g =
    let room = g.header.room in
    let mark = mark_here bytes g.header.mark in
    let version = two_bytes_at bytes ok 3 (omega arith) in
    let one = g.header.version in
    let states = two_bytes_at bytes ok 5 (omega arith) in
    let count = drop_more bytes 7 0 (omega arith) in
    let names = names_suffix bytes ok g in
    let n = length-map-range_with_len (label_in bytes) 0 (state_count bytes) in
    let k = length-map-range_with_len (name_in bytes) 0 (name_count bytes) in
    let m = length-map-range_with_len (step_in bytes) 0 (step_count bytes) in
    cc

pub name_reads : (bytes : List ℕ) (i : ℕ) → i < name_count bytes → name_of (described bytes) i ≡ name_in bytes i
name_reads bytes i h = get_or-map-range_with_len (name_in bytes) 0 (name_count bytes) i i [] h (zero-add i)

pub label_reads : (bytes : List ℕ) (s : ℕ) → s < state_count bytes → label_of (described bytes) s ≡ label_in bytes s
label_reads bytes s h = get_or-map-range_with_len (label_in bytes) 0 (state_count bytes) s s 0 h (zero-add s)

pub step_reads : (bytes : List ℕ) (i : ℕ) → i < step_count bytes → step_of (described bytes) i ≡ step_in bytes i
step_reads bytes i h = get_or-map-range_with_len (step_in bytes) 0 (step_count bytes) i i no_step h (zero-add i)

-- a name that stands earlier is among the earlier ones
pub among_at : (ns : List (List ℕ)) (i : ℕ) (w : List ℕ) → i < length ns → get_or ns i [] ≡ w → among ns w ≡ true
among_at ns i w h e = or_at (λ ms. among ms w) (λ n. bytes_eq n w) refl (λ _ _. refl) ns i [] h ((bytes_eq-Decides _ w).1 e)

apart : (bytes : List ℕ) (i j : ℕ) → i < j → repeats bytes j ≡ false → name_in bytes i ≡ name_in bytes j → ⊥
apart bytes i j h fresh e =
    let again = among_at (map (name_in bytes) (range_with_len 0 j)) i (name_in bytes j) in
    grind (arith, length-map-range_with_len (name_in bytes) 0 j, get_or-map-range_with_len (name_in bytes) 0 j i i [] h (zero-add i))

pub precedes_so : (e f : Step) → precedes e f ≡ true → Precedes e f
precedes_so e f h = search rules

pub in_order_next : (bytes : List ℕ) (i : ℕ) → in_order bytes (i + 1) ≡ true → Precedes (step_in bytes i) (step_in bytes (i + 1))
in_order_next bytes i h = search rules

pub one_leaves : (bytes : List ℕ) (s m : ℕ) → some_leave bytes s m ≡ true → (i : ℕ) × (i < m) × ((step_in bytes i).from ≡ s)
unfolding some_leave
one_leaves bytes s zero e = absurd (false≢true e)
one_leaves bytes s (suc m) e = elim (or_cases (some_leave bytes s m) (eqb (step_in bytes m).from s) e) [
  | inl y ↦ let r = one_leaves bytes s m y in (r.0, omega (arith, r.1), r.2)
  | inr n ↦ (m, omega arith, search rules)
]

pub proper : (bytes : List ℕ) → Bytes bytes → Faultless bytes → Proper (described bytes)
proper bytes ok g =
    let n = length-map-range_with_len (label_in bytes) 0 (state_count bytes) in
    let k = length-map-range_with_len (name_in bytes) 0 (name_count bytes) in
    let m = length-map-range_with_len (step_in bytes) 0 (step_count bytes) in
    let h = g.header in
    record {
      some_states = rw n h.some_states;
      few_states = rw n h.few_states;
      few_names = rw k h.few_names;
      named = λ i b.
          let lt : i < name_count bytes = omega (arith, k) in
          let good = g.name i lt in
          let high = good.high in
          let len = word_length bytes (name_at bytes i) good.room in
          rw (name_reads bytes i lt) (good.word, omega (arith, len));
      distinct = λ i j b c e.
          let lt : j < name_count bytes = omega (arith, k) in
          apart bytes i j b (g.name j lt).fresh (sym (name_reads bytes i (omega arith)) ∙ e ∙ name_reads bytes j lt);
      labelled = λ s b.
          let lt : s < state_count bytes = omega (arith, n) in
          rw (label_reads bytes s lt, k) (g.label s lt).bits;
      few_steps = omega (arith, m, u16_below bytes ok (step_count_at bytes));
      joins = λ i b.
          let lt : i < step_count bytes = omega (arith, m) in
          let good = g.step i lt in
          rw (step_reads bytes i lt, n) (good.from, good.to, omega (arith, u16_below bytes ok (step_at bytes i + 4)));
      ascending = λ i b.
          let lt : i + 1 < step_count bytes = omega (arith, m) in
          rw (step_reads bytes i (omega arith), step_reads bytes (i + 1) lt) (in_order_next bytes i (g.step (i + 1) lt).order);
      leaves = λ s b.
          let lt : s < state_count bytes = omega (arith, n) in
          let r = one_leaves bytes s (step_count bytes) (g.leaves s lt) in
          (r.0, omega (arith, m, r.1), ap (λ (e : Step). e.from) (step_reads bytes r.0 r.1) ∙ r.2);
    }
