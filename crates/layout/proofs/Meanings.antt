-- What a sheet means keeps the laws of machines.
use Rattle.std.proofs.Common.{◌≡◌, ℕ, true, List, length, is_some, Some, None, Option, refl, rules}
use Rattle.std.proofs.lemmas.List.{get_or_past}
use Rattle.std.proofs.lemmas.Bool.{cases_lt}
use Rattle.fault.specs.declared.Fault.{Fault}
use Rattle.machine.specs.Model.{Lawful, empty}
use Rattle.machine.proofs.Laws.{empty_lawful}
use Rattle.layout.specs.Descriptions.{Description, label_of, step_of, Proper, place_from, borne, meaning}
use Rattle.layout.specs.Encoding.{encode}
use Rattle.layout.specs.Fields.{described}
use Rattle.layout.specs.Judging.{sheet_fault, meaning_unless, sheet_model}
use Rattle.layout.proofs.Numbers.{Bytes}
use Rattle.layout.proofs.Faultless.{faultless, no_fault}
use Rattle.layout.proofs.Lookups.{seconds_place, seconds_some, place_among}
use Rattle.layout.proofs.Reading.{encodes, proper}
use Rattle.layout.proofs.Writing as writing

borne_so : (o : Option ℕ) (label : ℕ) → borne o label ≡ true → (is_some o ≡ true) × (label ≡ 0 → ⊥)
borne_so o label e = search rules

pub meaning_lawful : (d : Description) → Proper d → Lawful (meaning d)
meaning_lawful d p = record {
  few_states = p.few_states;
  few_names = p.few_names;
  joins = λ s t x e. let r = seconds_place d.steps s t x e in let j = p.joins r.0 r.1 in search rules;
  leaves = λ s h.
      let r = p.leaves s h in
      let f = seconds_some d.steps r.0 s (step_of d r.0).to r.1 r.2 refl in
      ((step_of d r.0).to, f.0, f.1);
  listed = λ s w e.
      let b = borne_so (place_from 0 d.names w) (label_of d s) e in
      let one = place_among 0 d.names w in
      let c = cases_lt s (length d.labels) in
      let past = get_or_past d.labels s 0 in
      search rules;
}

pub sheet_lawful : (bytes : List ℕ) → Bytes bytes → Lawful (sheet_model bytes)
sheet_lawful bytes ok = go (sheet_fault bytes) refl
  where
    go : (o : Option Fault) → sheet_fault bytes ≡ o → Lawful (meaning_unless o bytes)
    go None e = meaning_lawful (described bytes) (proper bytes ok (faultless bytes e))
    go (Some f) e = empty_lawful

-- Bytes without a fault encode a proper description, and such an encoding has no fault and means what it describes.
pub faultless_encodes : (bytes : List ℕ) → Bytes bytes → sheet_fault bytes ≡ None → (d : Description) × Proper d × (encode d ≡ bytes)
faultless_encodes bytes ok e = let g = faultless bytes e in (described bytes, proper bytes ok g, encodes bytes ok g)

pub encoding_faultless : (bytes : List ℕ) (d : Description) → Proper d → encode d ≡ bytes → sheet_fault bytes ≡ None
encoding_faultless bytes d p e = rw (← e, no_fault (encode d) (writing.faultless d p))

pub encoding_means : (bytes : List ℕ) (d : Description) → Proper d → encode d ≡ bytes → sheet_model bytes ≡ meaning d
encoding_means bytes d p e =
    let fault = encoding_faultless bytes d p e in
    let says = writing.says d in
    cc

-- bytes that encode no proper description mean nothing
pub nothing_means : (bytes : List ℕ) → Bytes bytes → ((d : Description) → Proper d → encode d ≡ bytes → ⊥) → sheet_model bytes ≡ empty
nothing_means bytes ok none = go (sheet_fault bytes) refl
  where
    go : (o : Option Fault) → sheet_fault bytes ≡ o → meaning_unless o bytes ≡ empty
    go None e = let r = faultless_encodes bytes ok e in absurd (none r.0 r.1 r.2)
    go (Some f) e = refl
