-- Words are read from the front; what is behind them is shorter, and a text is scanned alike from any of its remainders.
use Rattle.std.proofs.Common.{◌≡◌, ℕ, zero, suc, ◌+◌, ◌-◌, ◌<◌, ◌≤◌, Bool, true, false, cond, eqb, List, [], ◌∷◌, ◌++◌, length, take, drop, Some, None, Option, sym, refl, ap, ◌∙◌, inl, inr, arith, length-drop, length-take-le, drop-drop, rules}
use Rattle.machine.specs.Names.{is_letter}
use Rattle.grammar.specs.declared.Sign.{Sign}
use Rattle.grammar.specs.declared.Key.{Key}
use Rattle.grammar.specs.Words.{Word, sign, name, sign_of, key_of, spelled, run, skip, read, short_word, long_word, word, no_word, scan_by, scan}
use Rattle.grammar.specs.Judging.{Between, none, more, Suffix}
use Rattle.std.proofs.lemmas.Option.{same_Some, some_pair_parts}
use Rattle.grammar.proofs.Options.{cases_Option}

pub suffix_then : {l m n : List ℕ} → Suffix m l → Suffix n m → Suffix n l
suffix_then {l} a b = (a.0 + b.0, omega (arith, a.1, b.1, ap length a.2 ∙ length-drop a.0 l), rw (b.2, a.2, drop-drop b.0 a.0 l))

pub skip_drops : (l : List ℕ) → Suffix (skip l) l
skip_drops [] = (0, omega arith, refl)
skip_drops (b ∷ bs) = go (eqb b 32) (skip_drops bs)
  where
    go : (t : Bool) → Suffix (skip bs) bs → Suffix (cond t (skip bs) (b ∷ bs)) (b ∷ bs)
    go true r = (suc r.0, omega (arith, r.1), r.2)
    go false r = (0, omega arith, refl)

run_some : (b : ℕ) (bs : List ℕ) → is_letter b ≡ true → run (b ∷ bs) ≡ suc (run bs)
run_some b bs e = search rules

run_within : (l : List ℕ) → run l ≤ length l
run_within [] = omega arith
run_within (b ∷ bs) = let h = run_within bs in search rules

-- what is behind a word
abbrev Behind : List ℕ → List ℕ → Type 0
Behind l m = (k : ℕ) × (0 < k) × (k ≤ length l) × (m ≡ drop k l)

pub read_drops : (l : List ℕ) (r : Word × List ℕ) → read l ≡ Some r → Behind l r.1
read_drops [] r e = absurd cc
read_drops (b ∷ bs) r e = by_sign (sign_of b) e
  where
    by_letter : (t : Bool) → is_letter b ≡ t → long_word t (b ∷ bs) ≡ Some r → Behind (b ∷ bs) r.1
    by_letter true t h = (run (b ∷ bs), omega (arith, run_some b bs t), run_within (b ∷ bs), sym (ap (λ x. x.1) (same_Some _ r h)))
    by_letter false t h = absurd cc

    by_sign : (o : Option Sign) → short_word o b bs ≡ Some r → Behind (b ∷ bs) r.1
    by_sign (Some s) h = (1, omega arith, omega arith, sym (ap (λ x. x.1) (same_Some _ r h)))
    by_sign None h = by_letter (is_letter b) refl h

pub read_shorter : (l : List ℕ) (r : Word × List ℕ) → read (skip l) ≡ Some r → length r.1 < length l
read_shorter l r e =
    let k = skip_drops l in
    let d = read_drops (skip l) r e in
    omega (arith, k.1, ap length k.2 ∙ length-drop k.0 l, d.1, d.2, ap length d.3 ∙ length-drop d.0 (skip l))

pub scan_fuel : (n m total : ℕ) (l : List ℕ) → length l < n → length l < m → scan_by n total l ≡ scan_by m total l
scan_fuel zero m total l h k = absurd (omega arith)
scan_fuel (suc n) zero total l h k = absurd (omega arith)
scan_fuel (suc n) (suc m) total l h k = elim (cases_Option (read (skip l))) [
  | inl e ↦ cc
  | inr r ↦
      let s = read_shorter l r.0 r.1 in
      let f = scan_fuel n m total r.0.1 (omega arith) (omega arith) in
      cc
]

-- a word read from the front is the first of the text
pub scan_found : (total : ℕ) (l : List ℕ) (r : Word × List ℕ) → read (skip l) ≡ Some r → scan total l ≡ word (total - length (skip l)) r.0 (scan total r.1)
unfolding scan
scan_found total l r e = let f = scan_fuel (length l) (suc (length r.1)) total r.1 (read_shorter l r e) (omega arith) in cc

-- where no word can be read, the text is over
pub scan_none : (total : ℕ) (l : List ℕ) → read (skip l) ≡ None → scan total l ≡ no_word total (skip l)
unfolding scan
scan_none total l e = cc

pub skip_skip : (l : List ℕ) → skip (skip l) ≡ skip l
skip_skip [] = refl
skip_skip (b ∷ bs) = let same = skip_skip bs in search rules

-- gaps at the front change nothing
pub scan_skip : (total : ℕ) (l : List ℕ) → scan total (skip l) ≡ scan total l
scan_skip total l =
    let same = skip_skip l in
    elim (cases_Option (read (skip l))) [
      | inl e ↦ let a = scan_none total l e in let b = scan_none total (skip l) (rw same e) in cc
      | inr r ↦ let a = scan_found total l r.0 r.1 in let b = scan_found total (skip l) r.0 (rw same r.1) in cc
    ]

-- the words up to m, and then those behind it
pub between_join : {l m n : List ℕ} {us vs : List Word} → Between l us m → Between m vs n → Between l (us ++ vs) n
between_join none b = b
between_join (more e a) b = more e (between_join a b)

pub between_one : {l m : List ℕ} {w : Word} → read (skip l) ≡ Some (w, m) → Between l (w ∷ []) m
between_one e = more e none

pub between_drops : {l m : List ℕ} {ws : List Word} → Between l ws m → Suffix m l
between_drops none = (0, omega arith, refl)
between_drops (more {l} {m} {rest} {w} e b) =
    let d = read_drops (skip l) (w, rest) e in suffix_then (skip_drops l) (suffix_then (d.0, d.2, d.3) (between_drops b))

pub between_shorter : {l m : List ℕ} {w : Word} {ws : List Word} → Between l (w ∷ ws) m → length m < length l
between_shorter (more {l} {m} {rest} {w} e b) =
    let s = between_drops b in omega (arith, read_shorter l (w, rest) e, s.1, ap length s.2 ∙ length-drop s.0 rest)

-- a name is the front of the text that it is read from
pub read_name : (l v m : List ℕ) → read l ≡ Some (name v, m) → take (length v) l ≡ v
read_name [] v m e = absurd cc
read_name (b ∷ bs) v m e = by_sign (sign_of b) e
  where
    l : List ℕ
    l = b ∷ bs

    front : List ℕ
    front = take (run l) l

    by_key : (o : Option Key) → spelled front o ≡ name v → take (length v) l ≡ v
    by_key (Some k) h = absurd cc
    by_key None h = let same : front ≡ v = cc in let long = length-take-le (run l) l (run_within l) in cc

    by_letter : (t : Bool) → long_word t l ≡ Some (name v, m) → take (length v) l ≡ v
    by_letter true h = by_key (key_of front) (some_pair_parts _ _ _ _ h).0
    by_letter false h = absurd cc

    by_sign : (o : Option Sign) → short_word o b bs ≡ Some (name v, m) → take (length v) l ≡ v
    by_sign (Some s) h = let p = some_pair_parts (sign s) (name v) bs m h in absurd cc
    by_sign None h = by_letter (is_letter b) h
