-- What it means, field by field, that a sheet has no fault.
use Rattle.std.proofs.Common.{◌≡◌, ℕ, ◌+◌, ◌^◌, ◌<◌, ◌≤◌, true, false, not, ◌&&◌, leb, List, length, take, None, codes, rules}
use Rattle.std.proofs.lemmas.Slice.Eq.{bytes_eq-Decides}
use Rattle.std.proofs.lemmas.Bool.{and_parts, not-true}
use Rattle.fault.specs.declared.Reason.TheVariants.{BadEntry}
use Rattle.fault.specs.Refusals.{at}
use Rattle.machine.specs.Names.{is_name}
use Rattle.layout.specs.Fields.{byte_at, u16_at, state_count, name_count, name_at, name_in, label_at, label_in, step_count_at, step_count, step_at, step_in, sheet_end}
use Rattle.layout.specs.Judging.{header_fault, repeats, name_fault, label_fault, in_order, step_fault, some_leave, way_out_fault, end_fault, field, tail_fault, sheet_fault}
use Rattle.layout.proofs.Faults.{then_none, field_none, first_each, first_none}

pub record GoodHeader (bytes : List ℕ) : Type 0 where
  pub mark : take 3 bytes ≡ codes "MOD"
  pub version : u16_at bytes 3 ≡ 1
  pub some_states : 1 ≤ state_count bytes
  pub few_states : state_count bytes ≤ 1024
  pub few_names : name_count bytes ≤ 32
  pub room : 8 ≤ length bytes

pub record GoodName (bytes : List ℕ) (i : ℕ) : Type 0 where
  pub low : 1 ≤ byte_at bytes (name_at bytes i)
  pub high : byte_at bytes (name_at bytes i) ≤ 16
  pub room : name_at bytes i + 1 + byte_at bytes (name_at bytes i) ≤ length bytes
  pub word : is_name (name_in bytes i) ≡ true
  pub fresh : repeats bytes i ≡ false

pub record GoodLabel (bytes : List ℕ) (s : ℕ) : Type 0 where
  pub room : label_at bytes s + 4 ≤ length bytes
  pub bits : label_in bytes s < 2 ^ name_count bytes

pub record GoodStep (bytes : List ℕ) (i : ℕ) : Type 0 where
  pub room : step_at bytes i + 6 ≤ length bytes
  pub from : (step_in bytes i).from < state_count bytes
  pub to : (step_in bytes i).to < state_count bytes
  pub order : in_order bytes i ≡ true

pub record Faultless (bytes : List ℕ) : Type 0 where
  pub header : GoodHeader bytes
  pub name : (i : ℕ) → i < name_count bytes → GoodName bytes i
  pub label : (s : ℕ) → s < state_count bytes → GoodLabel bytes s
  pub count_room : step_count_at bytes + 2 ≤ length bytes
  pub step : (i : ℕ) → i < step_count bytes → GoodStep bytes i
  pub leaves : (s : ℕ) → s < state_count bytes → some_leave bytes s (step_count bytes) ≡ true
  pub ends : length bytes ≤ sheet_end bytes

pub good_header : (bytes : List ℕ) → header_fault bytes ≡ None → GoodHeader bytes
good_header bytes e = let mark = bytes_eq-Decides (take 3 bytes) (codes "MOD") in search rules

header_none : (bytes : List ℕ) → GoodHeader bytes → header_fault bytes ≡ None
header_none bytes g = let mark = bytes_eq-Decides (take 3 bytes) (codes "MOD") in search rules

pub good_name : (bytes : List ℕ) (i : ℕ) → name_fault bytes i ≡ None → GoodName bytes i
good_name bytes i e =
    let o = name_at bytes i in
    let size_right = leb 1 (byte_at bytes o) && leb (byte_at bytes o) 16 in
    let word_right = is_name (name_in bytes i) && not (repeats bytes i) in
    let p = then_none (field bytes o 1 size_right (at BadEntry o)) (field bytes (o + 1) (byte_at bytes o) word_right (at BadEntry o)) e in
    let w = field_none bytes (o + 1) (byte_at bytes o) word_right (at BadEntry o) p.1 in
    record { low = search rules; high = search rules; room = w.0; word = (and_parts _ _ w.1).0; fresh = not-true _ (and_parts _ _ w.1).1 }

pub name_none : (bytes : List ℕ) (i : ℕ) → GoodName bytes i → name_fault bytes i ≡ None
name_none bytes i g = search rules

pub good_label : (bytes : List ℕ) (s : ℕ) → label_fault bytes s ≡ None → GoodLabel bytes s
good_label bytes s e = search rules

label_none : (bytes : List ℕ) (s : ℕ) → GoodLabel bytes s → label_fault bytes s ≡ None
label_none bytes s g = search rules

pub good_step : (bytes : List ℕ) (i : ℕ) → step_fault bytes i ≡ None → GoodStep bytes i
good_step bytes i e = search rules

step_none : (bytes : List ℕ) (i : ℕ) → GoodStep bytes i → step_fault bytes i ≡ None
step_none bytes i g = search rules

way_out : (bytes : List ℕ) (s : ℕ) → way_out_fault bytes s ≡ None → some_leave bytes s (step_count bytes) ≡ true
way_out bytes s e = search rules

pub way_out_none : (bytes : List ℕ) (s : ℕ) → some_leave bytes s (step_count bytes) ≡ true → way_out_fault bytes s ≡ None
way_out_none bytes s e = rw e

pub end_none : (bytes : List ℕ) → length bytes ≤ sheet_end bytes → end_fault bytes ≡ None
end_none bytes h = search rules

pub faultless : (bytes : List ℕ) → sheet_fault bytes ≡ None → Faultless bytes
unfolding sheet_fault tail_fault
faultless bytes e = record {
  header = good_header bytes (search rules);
  name = λ i b. good_name bytes i (first_each (name_count bytes) (name_fault bytes) (search rules) i b);
  label = λ i b. good_label bytes i (first_each (state_count bytes) (label_fault bytes) (search rules) i b);
  count_room = search rules;
  step = λ i b. good_step bytes i (first_each (step_count bytes) (step_fault bytes) (search rules) i b);
  leaves = λ s b. way_out bytes s (first_each (state_count bytes) (way_out_fault bytes) (search rules) s b);
  ends = search rules;
}

pub no_fault : (bytes : List ℕ) → Faultless bytes → sheet_fault bytes ≡ None
unfolding sheet_fault tail_fault
no_fault bytes g = search (rules, first_none, header_none, name_none, label_none, step_none)
