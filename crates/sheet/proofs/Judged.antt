-- How an entry is judged by its own bytes.
use Rattle.std.proofs.Common.{◌≡◌, ℕ, ◌+◌, ◌<◌, ◌≤◌, Bool, cond, not, ◌&&◌, leb, List, [], map, length, get_or, take, drop, Some, None, refl, ap, ◌∙◌, arith}
use Rattle.std.specs.List.{range_with_len}
use Rattle.std.proofs.lemmas.Bool.{and_from, le-leb, lt-leb}
use Rattle.std.proofs.lemmas.List.{get_or-drop, get_or-take, get_or-map, length-map}
use Rattle.fault.specs.declared.Fault.{Fault}
use Rattle.fault.specs.declared.Reason.TheVariants.{BadEntry, CutShort}
use Rattle.fault.specs.Refusals.{at}
use Rattle.machine.specs.Model.{among}
use Rattle.machine.specs.Names.{is_name}
use Rattle.layout.specs.Fields.{byte_at, u16_at, name_at, name_in}
use Rattle.layout.specs.Judging.{field, repeats, name_fault}
use Rattle.layout.proofs.Faults.{field_right, none_then}
use Rattle.std.proofs.lemmas.List.FromFn.{fill_by_all}

pub field_short : (bytes : List ℕ) (o size : ℕ) (right : Bool) (f : Fault) → length bytes < o + size → field bytes o size right f ≡ Some (at CutShort (length bytes))
field_short bytes o size right f h = rw (lt-leb (o + size) (length bytes) h) refl

pub field_there : (bytes : List ℕ) (o size : ℕ) (right : Bool) (f : Fault) → o + size ≤ length bytes → field bytes o size right f ≡ cond right None (Some f)
field_there bytes o size right f h = rw (le-leb (o + size) (length bytes) h) refl

-- a name whose length is right and whose word is there
pub name_word : (bytes : List ℕ) (i : ℕ) → 1 ≤ byte_at bytes (name_at bytes i) → byte_at bytes (name_at bytes i) ≤ 16 → name_at bytes i + 1 + byte_at bytes (name_at bytes i) ≤ length bytes
    → name_fault bytes i ≡ cond (is_name (name_in bytes i) && not (repeats bytes i)) None (Some (at BadEntry (name_at bytes i)))
name_word bytes i low high room =
    let o = name_at bytes i in
    let l = field_right bytes o 1 (leb 1 (byte_at bytes o) && leb (byte_at bytes o) 16) (at BadEntry o) (omega arith) (and_from (leb 1 (byte_at bytes o)) (leb (byte_at bytes o) 16) (le-leb 1 (byte_at bytes o) low) (le-leb (byte_at bytes o) 16 high)) in
    none_then _ _ l ∙ field_there bytes (o + 1) (byte_at bytes o) (is_name (name_in bytes i) && not (repeats bytes i)) (at BadEntry o) room

-- where a word was read behind its length
pub name_read : (bytes other word : List ℕ) (i o size next n : ℕ) → o ≡ name_at bytes i → size ≡ byte_at bytes o → other ≡ bytes → next ≡ o + 1 → n ≡ size
    → (next + n ≤ length other) × (word ≡ take n (drop next other)) → (name_at bytes i + 1 + byte_at bytes (name_at bytes i) ≤ length bytes) × (word ≡ name_in bytes i)
name_read bytes other word i o size next n here is same behind count read =
    let size_is : n ≡ byte_at bytes (name_at bytes i) = count ∙ is ∙ ap (byte_at bytes) here in (
      omega (arith, read.0, ap length same),
      read.1 ∙ ap (λ b. take n (drop next b)) same ∙ ap (λ k. take n (drop k bytes)) (behind ∙ ap (λ k. k + 1) here) ∙ ap (λ k. take k (drop (name_at bytes i + 1) bytes)) size_is,
    )

pub name_right : (bytes sheet word : List ℕ) (words : List (List ℕ)) (i : ℕ) → sheet ≡ bytes → words ≡ map (name_in sheet) (range_with_len 0 i) → word ≡ name_in bytes i → (is_name word && not (among words word)) ≡ (is_name (name_in bytes i) && not (repeats bytes i))
name_right bytes sheet word words i same are is =
    ap (λ ws. is_name word && not (among ws word)) (are ∙ ap (λ b. map (name_in b) (range_with_len 0 i)) same) ∙ ap (λ w. is_name w && not (among (map (name_in bytes) (range_with_len 0 i)) w)) is

byte_in : (n j o : ℕ) (bytes : List ℕ) → j < n → byte_at (take n (drop o bytes)) j ≡ byte_at bytes (o + j)
byte_in n j o bytes h = get_or-take n (drop o bytes) j 0 h ∙ get_or-drop o bytes j 0

pub u16_in : (n j o : ℕ) (bytes : List ℕ) → j + 1 < n → u16_at (take n (drop o bytes)) j ≡ u16_at bytes (o + j)
u16_in n j o bytes h =
    let e : o + (j + 1) ≡ o + j + 1 = omega arith in
    omega (arith, byte_in n j o bytes (omega arith), byte_in n (j + 1) o bytes h, ap (byte_at bytes) e)

-- what the entries say, one by one
pub says_all : {X : Type 0} (f : List ℕ → X) (item : ℕ → X) (entries : List (List ℕ)) (n : ℕ) (d : X) → length entries ≡ n → ((i : ℕ) → i < n → f (get_or entries i []) ≡ item i) → map f entries ≡ map item (range_with_len 0 n)
says_all f item entries n d all each =
    fill_by_all item (map f entries) n d (length-map entries f ∙ all) (λ k h. get_or-map f entries k [] d (omega arith) ∙ each k h)
