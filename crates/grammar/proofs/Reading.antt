-- What the judge says of a text whose first words are read, or whose next word cannot stand there.
use Rattle.std.proofs.Common.{◌≡◌, ℕ, ◌+◌, ◌-◌, ◌≤◌, Bool, true, false, ltb, List, [], ◌∷◌, ◌++◌, length, Some, None, Option, refl, ap, ◌∙◌, inl, inr, arith, lt-ltb, append-nil, rules}
use Rattle.fault.specs.declared.Fault.{Fault}
use Rattle.fault.specs.declared.Reason.TheVariants.{StrayByte, NotDerivable, TooManyParts, TooManyLetters}
use Rattle.fault.specs.Refusals.{at}
use Rattle.logic.specs.Formulas.{Formula, Regular, size, parts, letter_parts, Each, EachLetter}
use Rattle.grammar.specs.declared.Sign.TheVariants.{OpenSquare, CloseSquare}
use Rattle.grammar.specs.Words.{Word, sign, skip, read, Text, words, Whole, no_word, scan, text_of}
use Rattle.grammar.specs.Grammar.{State, Reg, Derives}
use Rattle.grammar.specs.Limits.{is_part, Bracket, square, after_word, with_word}
use Rattle.grammar.specs.Faults.{Narrow, Accepted}
use Rattle.grammar.specs.Judging.{reg, Goal, expect, phrase, step, may_end, Standing, standing, start, part_allowed, letter_allowed, move_to, move, few_parts, few_letters, reason, judge, judge_from, first_unknown, Apart, Between, none, more}
use Rattle.std.proofs.lemmas.List.{nil_from_length}
use Rattle.grammar.proofs.Options.{cases_Option}
use Rattle.grammar.proofs.Scanning.{scan_found, scan_none}
use Rattle.grammar.proofs.Passing.{Fits, Small, walk, moves, walk_step, UnaryFirst, BaseFirst, FormulaPasses, RegularPasses, through}
use Rattle.grammar.proofs.Walking.{each_map, each_letter_map, walked, behind}
use Rattle.grammar.proofs.Verdicts.{judge_walk}
use Rattle.grammar.proofs.Unknowns.{none_unknown}
use Rattle.std.proofs.lemmas.Option.{same_Some}

-- where a move leads does not depend on the goals before it
move_alike : (x y : Bool) (o : Option (List Goal)) (g h : List Goal) (n : ℕ) (κ : List Bracket) (w : Word) → move_to x y o (standing g n κ) w ≡ move_to x y o (standing h n κ) w
move_alike x y o g h n κ w = search rules

fits : (k n : ℕ) → n ≤ k → Fits (λ i. ltb i k) n
fits k n h i l = lt-ltb i k (omega arith)

module _ (total : ℕ) (l : List ℕ) where
  abbrev by_move : List ℕ → Option Standing → Fault → Option Fault
  by_move m o f = elim o [ Some u ↦ judge u (scan total m) | None ↦ Some f ]

  -- at a word
  judge_found : (w : Word) (m : List ℕ) (s : Standing) → read (skip l) ≡ Some (w, m) → judge s (scan total l) ≡ by_move m (move few_parts few_letters s w) (at (reason s w) (total - length (skip l)))
  judge_found w m s e = ap (judge s) (scan_found total l (w, m) e)

  -- goals that take the next word alike are judged alike
  pub alike : (g h : List Goal) (n : ℕ) (κ : List Bracket) → may_end g ≡ may_end h → ((w : Word) (m : List ℕ) → read (skip l) ≡ Some (w, m) → step g w ≡ step h w) → judge_from total l g n κ ≡ judge_from total l h n κ
  alike g h n κ ending same = elim (cases_Option (read (skip l))) [
    | inl e ↦ rw (scan_none total l e) (over (skip l))
    | inr r ↦
        let a = judge_found r.0.0 r.0.1 (standing g n κ) r.1 in
        let b = judge_found r.0.0 r.0.1 (standing h n κ) r.1 in
        let c = same r.0.0 r.0.1 r.1 in
        let d = move_alike (part_allowed few_parts n r.0.0) (letter_allowed few_letters κ r.0.0) (step h r.0.0) g h n κ r.0.0 in
        cc
  ]
    where
      over : (m : List ℕ) → judge (standing g n κ) (no_word total m) ≡ judge (standing h n κ) (no_word total m)
      over [] = rw ending
      over (b ∷ bs) = refl

  module _ (w : Word) (m : List ℕ) (e : read (skip l) ≡ Some (w, m)) (g τ : List Goal) (n : ℕ) (κ : List Bracket) (s : step g w ≡ Some τ) where
    -- past a word that may stand here
    pub on_word : part_allowed few_parts n w ≡ true → letter_allowed few_letters κ w ≡ true → judge_from total l g n κ ≡ judge_from total m τ (with_word w n) (after_word w κ)
    on_word a b =
        let f = judge_found w m (standing g n κ) e in
        let v = moves few_parts few_letters (standing g n κ) w τ a b s in
        cc

    -- at a part that is one too many
    pub over_part : is_part w ≡ true → 64 ≤ n → judge_from total l g n κ ≡ Some (at TooManyParts (total - length (skip l)))
    over_part p h =
        let x : part_allowed few_parts n w ≡ false = search rules in
        let f = judge_found w m (standing g n κ) e in
        cc

    -- at a letter that is one too many
    pub over_letter : part_allowed few_parts n w ≡ true → letter_allowed few_letters κ w ≡ false → judge_from total l g n κ ≡ Some (at TooManyLetters (total - length (skip l)))
    over_letter a b = let f = judge_found w m (standing g n κ) e in cc

  -- at a word for which there is no step
  pub no_place : (w : Word) (m : List ℕ) → read (skip l) ≡ Some (w, m) → (g : List Goal) (n : ℕ) (κ : List Bracket) → step g w ≡ None → judge_from total l g n κ ≡ Some (at NotDerivable (total - length (skip l)))
  no_place w m e g n κ s =
      let f = judge_found w m (standing g n κ) e in
      let stuck = no_move (part_allowed few_parts n w) (letter_allowed few_letters κ w) in
      cc
    where
      no_move : (x y : Bool) → move_to x y None (standing g n κ) w ≡ None
      no_move x y = search rules

  -- where no word is left, and one is wanted
  pub no_more : read (skip l) ≡ None → length (skip l) ≡ 0 → (g : List Goal) (n : ℕ) (κ : List Bracket) → may_end g ≡ false → judge_from total l g n κ ≡ Some (at NotDerivable (total - length (skip l)))
  no_more e z g n κ ending =
      let t = scan_none total l e in
      let nil = nil_from_length (skip l) z in
      let p : total - length (skip l) ≡ total = omega arith in
      cc

  -- at a byte that starts no word
  pub no_word_here : read (skip l) ≡ None → (length (skip l) ≡ 0 → ⊥) → (g : List Goal) (n : ℕ) (κ : List Bracket) → judge_from total l g n κ ≡ Some (at StrayByte (total - length (skip l)))
  no_word_here e z g n κ = ap (judge (standing g n κ)) (scan_none total l e) ∙ go (skip l) z
    where
      go : (m : List ℕ) → (length m ≡ 0 → ⊥) → judge (standing g n κ) (no_word total m) ≡ Some (at StrayByte (total - length m))
      go [] h = absurd (h refl)
      go (b ∷ bs) h = refl

-- over words that a reader walks over
pub judge_between : {l m : List ℕ} {ws : List Word} (total : ℕ) (s u : Standing) → Between l ws m → walk few_parts few_letters s ws ≡ Some u → judge s (scan total l) ≡ judge u (scan total m)
judge_between total s u (none {l}) e = rw (same_Some s u e)
judge_between total s u (more {l} {m} {rest} {w} {ws} r b) e =
    let x = walk_step few_parts few_letters s u w ws e in
    let f = scan_found total l (w, rest) r in
    let j = judge_between total x.0 u b x.2 in
    cc

module _ (total : ℕ) {l m : List ℕ} {us : List Word} (b : Between l us m) (g τ : List Goal) (n : ℕ) (κ : List Bracket) where
  -- past a formula
  pub formula_passed : (ρ : List Goal) (f : Formula) → FormulaPasses few_parts few_letters ρ f us → UnaryFirst few_parts few_letters g (ρ ++ τ) → Apart κ → n + parts f ≤ 64 → Each Narrow f → judge_from total l g n κ ≡ judge_from total m (ρ ++ τ) (n + parts f) κ
  formula_passed ρ f p o a h s =
      judge_between total (standing g n κ) (standing (ρ ++ τ) (n + parts f) κ) b
      (rw append-nil at (p g τ n κ [] o a (fits 64 (n + parts f) h) (each_map Narrow (Small few_parts few_letters) (λ r k. fits 31 (size r) k) f s)))

  -- past an expression
  pub regular_passed : (c : ℕ) (ρ : List Goal) (r : Regular) → RegularPasses few_parts few_letters ρ r us → BaseFirst few_parts few_letters g (ρ ++ τ) → n + letter_parts r ≤ 64 → c + size r ≤ 31 → EachLetter Narrow r → judge_from total l g n (square c ∷ κ) ≡ judge_from total m (ρ ++ τ) (n + letter_parts r) (square (c + size r) ∷ κ)
  regular_passed c ρ r p o h k s =
      judge_between total (standing g n (square c ∷ κ)) (standing (ρ ++ τ) (n + letter_parts r) (square (c + size r) ∷ κ)) b
      (rw append-nil at (p g τ n c κ [] o (fits 64 (n + letter_parts r) h) (fits 31 (c + size r) k) (each_letter_map Narrow (Small few_parts few_letters) (λ x j. fits 31 (size x) j) r s)))

-- past [ reg ]
pub bracketed_passed : (total : ℕ) {l m : List ℕ} {us : List Word} → Between l (sign OpenSquare ∷ us ++ sign CloseSquare ∷ []) m → (r : Regular) → Derives (Reg r) us → (τ : List Goal) (n : ℕ) (κ : List Bracket) → n + letter_parts r ≤ 64 → size r ≤ 31 → EachLetter Narrow r → judge_from total l (expect OpenSquare ∷ phrase reg ∷ expect CloseSquare ∷ τ) n κ ≡ judge_from total m τ (n + letter_parts r) κ
bracketed_passed total b r d τ n κ h k s =
    judge_between total (standing (expect OpenSquare ∷ phrase reg ∷ expect CloseSquare ∷ τ) n κ) (standing τ (n + letter_parts r) κ) b
    (through few_parts few_letters d (phrase reg ∷ expect CloseSquare ∷ τ) (expect CloseSquare ∷ τ) n 0 κ (sign CloseSquare ∷ []) (λ w. refl) (fits 64 (n + letter_parts r) h) (fits 31 (0 + size r) (omega arith)) (each_letter_map Narrow (Small few_parts few_letters) (λ x j. fits 31 (size x) j) r s))

-- the words of a text, some of which are read
pub words_between : {l m : List ℕ} {ws : List Word} (total : ℕ) → Between l ws m → words (scan total l) ≡ ws ++ words (scan total m)
words_between total none = refl
words_between total (more {l} {m} {rest} {w} e b) = let t = scan_found total l (w, rest) e in let r = words_between total b in cc

pub whole_between : {l m : List ℕ} {ws : List Word} (total : ℕ) → Between l ws m → Whole (scan total m) → Whole (scan total l)
whole_between total none h = h
whole_between total (more {l} {m} {rest} {w} e b) h = rw (scan_found total l (w, rest) e) (whole_between total b h)

-- a rule has no fault
pub rule_clean : (t : Text) (f : Formula) → Whole t → Derives (State f) (words t) → parts f ≤ 64 → Each Narrow f → judge start t ≡ None
rule_clean t f whole derives few narrow =
    judge_walk t start (behind (parts f)) whole
    (walked few_parts few_letters f (words t) derives (fits 64 (parts f) few) (each_map Narrow (Small few_parts few_letters) (λ r k. fits 31 (size r) k) f narrow)) refl

pub accepted_clean : (known : List ℕ → Bool) (bytes : List ℕ) (f : Formula) → Accepted known bytes f → (judge start (text_of bytes) ≡ None) × (first_unknown known (text_of bytes) ≡ None)
accepted_clean known bytes f a = (rule_clean (text_of bytes) f a.whole a.derives a.few a.narrow, none_unknown known (text_of bytes) a.named)
