-- The encoding of a proper description has no fault, and its fields say that description.
use Rattle.std.proofs.Common.{◌≡◌, ℕ, zero, suc, ◌+◌, ◌-◌, ◌/◌, ◌%◌, ◌<◌, ◌≤◌, true, false, eqb, List, [], ◌∷◌, ◌++◌, map, length, get_or, drop, sym, refl, ap, ◌∙◌, append-nil, add-zero, zero-add, add-one, arith, length-drop, rules}
use Rattle.std.specs.List.{range_with_len, flat_map}
use Rattle.std.specs.Str.{bytes_eq}
use Rattle.std.proofs.lemmas.List.FromFn.{fill_by_all, length-map-range_with_len, get_or-map-range_with_len}
use Rattle.std.proofs.lemmas.List.Prefix.{at_reads}
use Rattle.std.proofs.lemmas.List.{drop_all, take_at}
use Rattle.std.proofs.lemmas.Bool.{cases_lt, or_right}
use Rattle.std.proofs.lemmas.List.Recursion.{or_from_places}
use Rattle.std.proofs.lemmas.Slice.Eq.{bytes_eq-Decides}
use Rattle.machine.specs.Model.{among}
use Rattle.layout.specs.Descriptions.{Step, Description, no_step, name_of, label_of, step_of, Precedes, Proper}
use Rattle.layout.specs.Encoding.{two_bytes, four_bytes, name_entry, step_entry, encode}
use Rattle.layout.specs.Fields.{byte_at, u16_at, u32_at, state_count, name_count, name_at, word_at, name_in, labels_at, label_at, label_in, step_count_at, step_count, step_at, step_in, described}
use Rattle.layout.specs.Judging.{repeats, precedes, in_order, some_leave}
use Rattle.layout.proofs.Numbers.{room_behind, u16_behind}
use Rattle.layout.proofs.Entries.{entry_behind, behind_more, entries_behind}
use Rattle.layout.proofs.Faultless.{Faultless, GoodHeader, GoodName, GoodLabel, GoodStep}
use Rattle.layout.proofs.Reading.{name_at_next}

-- what the bytes of one entry say
word_behind : (bytes w tail : List ℕ) (o : ℕ) → drop o bytes ≡ name_entry w ++ tail → (byte_at bytes o ≡ length w) × (word_at bytes o ≡ w)
word_behind bytes w tail o e =
    let len = rw add-zero at (at_reads 0 bytes (name_entry w) o tail e 0 (omega arith)) in
    let word : drop (o + 1) bytes ≡ w ++ tail = behind_more bytes (length w ∷ []) (w ++ tail) o e in
    (len, rw (len, word, take_at w tail (length w) refl))

u32_behind : (bytes rest : List ℕ) (o x : ℕ) → drop o bytes ≡ four_bytes x ++ rest → u32_at bytes o ≡ x
u32_behind bytes rest o x e =
    let low = u16_behind bytes (two_bytes (x / 65536) ++ rest) o (x % 65536) e in
    let high = u16_behind bytes rest (o + 2) (x / 65536) (behind_more bytes (two_bytes (x % 65536)) (two_bytes (x / 65536) ++ rest) o e) in
    omega (arith, low, high)

step_behind : (bytes rest : List ℕ) (o : ℕ) (s : Step) → drop o bytes ≡ step_entry s ++ rest → (u16_at bytes o ≡ s.from) × (u16_at bytes (o + 2) ≡ s.to) × (u16_at bytes (o + 4) ≡ s.seconds)
step_behind bytes rest o s e =
    let second = behind_more bytes (two_bytes s.from) (two_bytes s.to ++ (two_bytes s.seconds ++ rest)) o e in
    let third = behind_more bytes (two_bytes s.from ++ two_bytes s.to) (two_bytes s.seconds ++ rest) o e in
    search u16_behind

precedes_true : (e f : Step) → Precedes e f → precedes e f ≡ true
precedes_true e f h = search rules

leave_true : (bytes : List ℕ) (s m i : ℕ) → i < m → (step_in bytes i).from ≡ s → some_leave bytes s m ≡ true
unfolding some_leave
leave_true bytes s zero i h e = absurd (omega arith)
leave_true bytes s (suc m) i h e = let c = cases_lt i m in let before = leave_true bytes s m i in search rules

module _ (d : Description) where
  abbrev bytes : List ℕ
  bytes = encode d

  abbrev step_bytes : List ℕ
  step_bytes = flat_map step_entry d.steps

  abbrev label_bytes : List ℕ
  label_bytes = flat_map four_bytes d.labels ++ (two_bytes (length d.steps) ++ step_bytes)

  states_read : state_count bytes ≡ length d.labels
  states_read = omega arith

  name_next : (i : ℕ) (tail : List ℕ) → i < length d.names → drop (name_at bytes i) bytes ≡ name_entry (name_of d i) ++ tail → name_at bytes (i + 1) ≡ name_at bytes i + length (name_entry (name_of d i))
  name_next i tail h e = omega (arith, name_at_next bytes i, (word_behind bytes (name_of d i) tail (name_at bytes i) e).0)

  names_behind : (i : ℕ) → i ≤ length d.names → drop (name_at bytes i) bytes ≡ flat_map name_entry (drop i d.names) ++ label_bytes
  unfolding name_at
  names_behind = entries_behind name_entry d.names [] (name_at bytes) bytes label_bytes name_next refl

  labels_start : drop (labels_at bytes) bytes ≡ label_bytes
  labels_start =
      let behind = names_behind (length d.names) (omega arith) in
      let none = drop_all (length d.names) d.names (omega arith) in
      cc

  labels_behind : (s : ℕ) → s ≤ length d.labels → drop (label_at bytes s) bytes ≡ flat_map four_bytes (drop s d.labels) ++ (two_bytes (length d.steps) ++ step_bytes)
  labels_behind =
      let e : label_at bytes 0 ≡ labels_at bytes = omega arith in
      entries_behind four_bytes d.labels 0 (label_at bytes) bytes (two_bytes (length d.steps) ++ step_bytes) (λ s tail h e. omega arith) (rw (e, labels_start))

  count_behind : drop (step_count_at bytes) bytes ≡ two_bytes (length d.steps) ++ step_bytes
  count_behind =
      let behind = labels_behind (length d.labels) (omega arith) in
      let none = drop_all (length d.labels) d.labels (omega arith) in
      let n = states_read in
      cc

  count_read : step_count bytes ≡ length d.steps
  count_read = u16_behind bytes step_bytes (step_count_at bytes) (length d.steps) count_behind

  steps_behind : (i : ℕ) → i ≤ length d.steps → drop (step_at bytes i) bytes ≡ flat_map step_entry (drop i d.steps) ++ []
  steps_behind =
      let e : step_at bytes 0 ≡ step_count_at bytes + 2 = omega arith in
      let start = behind_more bytes (two_bytes (length d.steps)) step_bytes (step_count_at bytes) count_behind in
      entries_behind step_entry d.steps no_step (step_at bytes) bytes [] (λ i tail h e. omega arith) (rw (e, start, append-nil))

  -- each entry, with what stands behind it
  name_here : (i : ℕ) → i < length d.names → drop (name_at bytes i) bytes ≡ name_entry (name_of d i) ++ (flat_map name_entry (drop (i + 1) d.names) ++ label_bytes)
  name_here i h = entry_behind name_entry d.names [] bytes label_bytes (name_at bytes i) i h (names_behind i (omega arith))

  label_here : (s : ℕ) → s < length d.labels → drop (label_at bytes s) bytes ≡ four_bytes (label_of d s) ++ (flat_map four_bytes (drop (s + 1) d.labels) ++ (two_bytes (length d.steps) ++ step_bytes))
  label_here s h = entry_behind four_bytes d.labels 0 bytes (two_bytes (length d.steps) ++ step_bytes) (label_at bytes s) s h (labels_behind s (omega arith))

  step_here : (i : ℕ) → i < length d.steps → drop (step_at bytes i) bytes ≡ step_entry (step_of d i) ++ (flat_map step_entry (drop (i + 1) d.steps) ++ [])
  step_here i h = entry_behind step_entry d.steps no_step bytes [] (step_at bytes i) i h (steps_behind i (omega arith))

  name_read : (i : ℕ) → i < length d.names → name_in bytes i ≡ name_of d i
  name_read i h = (word_behind bytes (name_of d i) _ (name_at bytes i) (name_here i h)).1

  label_read : (s : ℕ) → s < length d.labels → label_in bytes s ≡ label_of d s
  label_read s h = u32_behind bytes _ (label_at bytes s) (label_of d s) (label_here s h)

  step_read : (i : ℕ) → i < length d.steps → step_in bytes i ≡ step_of d i
  step_read i h = let r = step_behind bytes _ (step_at bytes i) (step_of d i) (step_here i h) in search rules

  pub says : described bytes ≡ d
  says =
      let n = fill_by_all (name_in bytes) d.names (name_count bytes) [] refl (λ i h. sym (name_read i h)) in
      let l = fill_by_all (label_in bytes) d.labels (state_count bytes) 0 (sym states_read) (λ s h. sym (label_read s (omega (arith, states_read)))) in
      let m = fill_by_all (step_in bytes) d.steps (step_count bytes) no_step (sym count_read) (λ i h. sym (step_read i (omega (arith, count_read)))) in
      search rules

module _ (d : Description) (p : Proper d) where
  good_header : GoodHeader (encode d)
  good_header =
      let n = states_read d in
      record { mark = refl; version = refl; some_states = search rules; few_states = search rules; few_names = p.few_names; room = omega arith }

  fresh : (i : ℕ) → i < length d.names → repeats (encode d) i ≡ false
  fresh i h =
      let name = name_in (encode d) in
      or_from_places (λ ns. among ns (name i)) (λ n. bytes_eq n (name i)) refl (λ _ _. refl) (map name (range_with_len 0 i)) []
      (λ j l.
      let lt : j < i = omega (arith, length-map-range_with_len name 0 i) in
      let at = get_or-map-range_with_len name 0 i j j [] lt (zero-add j) in
      let a = name_read d j (omega arith) in
      let b = name_read d i h in
      let new = p.distinct j i lt h in
      let same = bytes_eq-Decides (get_or (map name (range_with_len 0 i)) j []) (name i) in
      search rules)

  good_name : (i : ℕ) → i < length d.names → GoodName (encode d) i
  good_name i h =
      let o = name_at (encode d) i in
      let here = name_here d i h in
      let len = (word_behind (encode d) (name_of d i) _ o here).0 in
      let named = p.named i h in
      let room = room_behind (encode d) (name_entry (name_of d i)) _ o here (omega arith) in
      let read = name_read d i h in
      let new = fresh i h in
      search rules

  good_label : (s : ℕ) → s < length d.labels → GoodLabel (encode d) s
  good_label s h = record {
    room = room_behind (encode d) (four_bytes (label_of d s)) _ (label_at (encode d) s) (label_here d s h) (omega arith);
    bits = rw (label_read d s h) (p.labelled s h);
  }

  order : (i : ℕ) → i < length d.steps → in_order (encode d) i ≡ true
  order zero h = refl
  order (suc i) h =
      let e : suc i - 1 ≡ i = omega arith in
      let a = step_read d i (omega arith) in
      let b = step_read d (suc i) h in
      let q = precedes_true (step_of d i) (step_of d (suc i)) (rw add-one at (p.ascending i (omega arith))) in
      or_right (eqb (suc i) 0) (precedes (step_in (encode d) (suc i - 1)) (step_in (encode d) (suc i))) (cc)

  good_step : (i : ℕ) → i < length d.steps → GoodStep (encode d) i
  good_step i h =
      let r = step_behind (encode d) _ (step_at (encode d) i) (step_of d i) (step_here d i h) in
      let joins = p.joins i h in
      let room = room_behind (encode d) (step_entry (step_of d i)) _ (step_at (encode d) i) (step_here d i h) (omega arith) in
      let n = states_read d in
      let in_turn = order i h in
      search rules

  pub faultless : Faultless (encode d)
  faultless =
      let n = states_read d in
      let m = count_read d in
      record {
        header = good_header;
        name = λ i h. good_name i h;
        label = λ s h. good_label s (omega (arith, n));
        count_room = room_behind (encode d) (two_bytes (length d.steps)) (step_bytes d) (step_count_at (encode d)) (count_behind d) (omega arith);
        step = λ i h. good_step i (omega (arith, m));
        leaves = λ s h.
            let r = p.leaves s (omega (arith, n)) in
            leave_true (encode d) s (step_count (encode d)) r.0 (omega (arith, m, r.1)) (ap (λ (e : Step). e.from) (step_read d r.0 r.1) ∙ r.2);
        ends =
            let rest = steps_behind d (length d.steps) (omega arith) ∙ ap (λ es. flat_map step_entry es ++ []) (drop_all (length d.steps) d.steps (omega arith)) in
            omega (arith, m, length-drop (step_at (encode d) (length d.steps)) (encode d), ap length rest);
      }
