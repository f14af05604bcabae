-- The judge finds the first fault, and none exactly where the text is a rule.
use Rattle.std.proofs.Common.{◌≡◌, ℕ, ◌+◌, ◌≤◌, Bool, true, false, List, [], ◌∷◌, ◌++◌, Some, None, Option, sym, refl, ◌∙◌, inl, inr, append_assoc, arith, append-nil, rules}
use Rattle.fault.specs.declared.Fault.{Fault}
use Rattle.fault.specs.declared.Reason.{Reason}
use Rattle.fault.specs.declared.Reason.TheVariants.{StrayByte, NotDerivable}
use Rattle.fault.specs.Refusals.{at}
use Rattle.grammar.specs.Words.{Word, Text, ends, stops, word, words, Whole}
use Rattle.grammar.specs.Grammar.{Derivable, Begins}
use Rattle.grammar.specs.Limits.{is_part, can_be_letter, Bracket, Full}
use Rattle.grammar.specs.Faults.{Front, nothing_read, read_on, Wrong, stray_byte, too_soon, no_rule, unknown, part_over, letter_over, later, NotAfter, FirstWrong}
use Rattle.grammar.specs.Judging.{Goal, step, may_end, Standing, start, part_allowed, letter_allowed, letter_fits, moved, move_to, move, few_parts, few_letters, reason_by, reason, judge}
use Rattle.std.proofs.lemmas.Bool.{cases_Bool}
use Rattle.grammar.proofs.Options.{cases_Option}
use Rattle.grammar.proofs.Passing.{walk, walk_on, walk_step, Small}
use Rattle.grammar.proofs.Walking.{told, free, walk_join, walk_front, walk_one, walk_free, free_moves, begins, comes_through, walked, each_all}
use Rattle.grammar.proofs.Places.{Above, wrong_above}
use Rattle.std.proofs.lemmas.Option.{same_Some}

-- the reader s has come over the words of the front b
pub record Reached (b : Front) (s : Standing) : Type 0 where
  pub came : walk few_parts few_letters start b.read ≡ Some s
  pub seen : b.seen ≡ s.seen
  pub brackets : b.brackets ≡ s.brackets

pub at_start : Reached nothing_read start
at_start = record { came = refl; seen = refl; brackets = refl }

pub reached_on : (b : Front) (s t : Standing) (w : Word) → Reached b s → move few_parts few_letters s w ≡ Some t → Reached (read_on b w) t
reached_on b s t w r e =
    let k = told few_parts few_letters s w t e in
    let came = walk_join few_parts few_letters start s b.read (w ∷ []) r.came in
    let next = walk_on few_parts few_letters s t w [] e in
    search rules

-- where the goals have no step, no rule goes on so
no_step : (b : Front) (s : Standing) (w : Word) → Reached b s → step s.goals w ≡ None → Begins (b.read ++ w ∷ []) → ⊥
no_step b s w r e g =
    let t = comes_through (b.read ++ w ∷ []) g in
    let f = walk_front free free start t.0 b.read (w ∷ []) t.1 in
    let k = told free free f.0 w t.0 (walk_one free free f.0 t.0 w f.2) in
    let same = walk_free few_parts few_letters start s b.read r.came in
    cc (k.steps)

goes_on : (b : Front) (s : Standing) (w : Word) (τ : List Goal) → Reached b s → step s.goals w ≡ Some τ → Begins (b.read ++ w ∷ [])
goes_on b s w τ r e =
    let m = free_moves s w τ e in
    let j = walk_join free free start s b.read (w ∷ []) (walk_free few_parts few_letters start s b.read r.came) in
    begins free free (moved τ s w) (b.read ++ w ∷ []) (cc)

front_begins : (b : Front) (s : Standing) → Reached b s → Begins b.read
front_begins b s r = begins few_parts few_letters s b.read r.came

-- where the goals cannot end, the words are no rule
no_end : (b : Front) (s : Standing) → Reached b s → may_end s.goals ≡ false → Derivable b.read → ⊥
no_end b s r e d =
    let w = walked free free d.0 b.read d.1 (λ i h. refl) (each_all (Small free free) (λ x i h. refl) d.0) in
    let same = walk_free few_parts few_letters start s b.read r.came in
    cc

abbrev pub anything : List ℕ → Bool
anything w = true

-- a word that may stand here is not one too many
part_few : (b : Front) (s : Standing) (w : Word) → Reached b s → part_allowed few_parts s.seen w ≡ true → is_part w ≡ true → 64 ≤ b.seen → ⊥
part_few b s w r a p h = search rules

full_over : (κ : List Bracket) → Full κ → letter_fits few_letters κ ≡ true → ⊥
full_over κ f t = search rules

letter_few : (b : Front) (s : Standing) (w : Word) → Reached b s → letter_allowed few_letters s.brackets w ≡ true → can_be_letter w ≡ true → Full b.brackets → ⊥
letter_few b s w r a p h = search (rules, full_over)

-- one that may not is
part_many : (b : Front) (s : Standing) (w : Word) → Reached b s → part_allowed few_parts s.seen w ≡ false → (is_part w ≡ true) × (64 ≤ b.seen)
part_many b s w r a = search rules

over_full : (κ : List Bracket) → letter_fits few_letters κ ≡ false → Full κ
over_full κ t = search rules

letter_many : (b : Front) (s : Standing) (w : Word) → Reached b s → letter_allowed few_letters s.brackets w ≡ false → (can_be_letter w ≡ true) × Full b.brackets
letter_many b s w r a = search (rules, over_full)

-- Where a word may stand, nothing is wrong there: what is wrong is wrong later.
only_later : (b : Front) (s u : Standing) (p : ℕ) (w : Word) (t : Text) (why : Reason) (q : ℕ) → Reached b s → move few_parts few_letters s w ≡ Some u → Wrong anything b (word p w t) why q → Wrong anything (read_on b w) t why q
only_later b s u p w t why q r e (no_rule x y) = let k = told few_parts few_letters s w u e in absurd (y (goes_on b s w k.goals r k.steps))
only_later b s u p w t why q r e (unknown x) = absurd cc
only_later b s u p w t why q r e (part_over x y) = let k = told few_parts few_letters s w u e in absurd (part_few b s w r k.part_fit x y)
only_later b s u p w t why q r e (letter_over x y) = let k = told few_parts few_letters s w u e in absurd (letter_few b s w r k.letter_fit x y)
only_later b s u p w t why q r e (later x) = x

module _ (b : Front) (s : Standing) (p : ℕ) (w : Word) (t : Text) (r : Reached b s) where
  -- a word that may not stand here, by what is wrong with it
  stopped : (x y : Bool) (o : Option (List Goal)) → part_allowed few_parts s.seen w ≡ x → letter_allowed few_letters s.brackets w ≡ y → step s.goals w ≡ o → move_to x y o s w ≡ None → Wrong anything b (word p w t) (reason_by x o) p
  stopped x y None i j k e = no_rule (front_begins b s r) (no_step b s w r k)
  stopped true true (Some τ) i j k e = absurd cc
  stopped true false (Some τ) i j k e = let m = letter_many b s w r j in letter_over m.0 m.1
  stopped false y (Some τ) i j k e = let m = part_many b s w r i in part_over m.0 m.1

-- and everything else that is wrong comes no earlier
no_earlier : (b : Front) (s : Standing) (p : ℕ) (w : Word) (t : Text) → Reached b s → (x y : Bool) (o : Option (List Goal)) → part_allowed few_parts s.seen w ≡ x → letter_allowed few_letters s.brackets w ≡ y → step s.goals w ≡ o → Above (p + 1) t → (why : Reason) (q : ℕ) → Wrong anything b (word p w t) why q → NotAfter (at (reason_by x o) p) (at why q)
no_earlier b s p w t r x y None i j k a why q (no_rule g h) = inr (refl, omega arith)
no_earlier b s p w t r x y (Some τ) i j k a why q (no_rule g h) = absurd (h (goes_on b s w τ r k))
no_earlier b s p w t r x y o i j k a why q (unknown g) = absurd cc
no_earlier b s p w t r x y o i j k a why q (part_over g h) = let few = part_few b s w r in search rules
no_earlier b s p w t r x y o i j k a why q (letter_over g h) = search rules
no_earlier b s p w t r x y o i j k a why q (later g) = inl (omega (arith, wrong_above (p + 1) a g))

-- the judge finds the first fault
pub judged : (t : Text) (b : Front) (s : Standing) (lo : ℕ) → Above lo t → Reached b s → (f : Fault) → judge s t ≡ Some f → FirstWrong anything b t f
judged (ends p) b s lo a r f e = elim (cases_Bool (may_end s.goals)) [
  | inl m ↦ absurd (search rules)
  | inr m ↦
      let same : at NotDerivable p ≡ f = search rules in
      rw (← same) (record { wrong = too_soon (front_begins b s r) (no_end b s r m); first = only })
]
  where
    only : (why : Reason) (q : ℕ) → Wrong anything b (ends p) why q → NotAfter (at NotDerivable p) (at why q)
    only why q (too_soon x y) = inr (refl, omega arith)
judged (stops p) b s lo a r f e = rw (← same_Some _ f e) (record { wrong = stray_byte; first = only })
  where
    only : (why : Reason) (q : ℕ) → Wrong anything b (stops p) why q → NotAfter (at StrayByte p) (at why q)
    only why q stray_byte = inr (refl, omega arith)
judged (word p w t) b s lo a r f e = elim (cases_Option (move few_parts few_letters s w)) [
  | inl m ↦
      let stops_here : judge s (word p w t) ≡ Some (at (reason s w) p) = cc in
      let same = same_Some _ f (sym stops_here ∙ e) in
      rw (← same) (record { wrong = stopped b s p w t r _ _ _ refl refl refl m; first = no_earlier b s p w t r _ _ _ refl refl refl a.1 })
  | inr u ↦
      let i = judged t (read_on b w) u.0 (p + 1) a.1 (reached_on b s u.0 w r u.1) f (cc) in
      record { wrong = later i.wrong; first = λ why q x. i.first why q (only_later b s u.0 p w t why q r u.1 x) }
]

-- where it finds none in a text whose words are a rule, nothing is wrong
pub clean : (t : Text) (b : Front) (s : Standing) → Reached b s → Derivable (b.read ++ words t) → judge s t ≡ None → (why : Reason) (q : ℕ) → Wrong anything b t why q → ⊥
clean (ends p) b s r d e why q (too_soon x y) = y (rw append-nil at d)
clean (stops p) b s r d e why q x = absurd cc
clean (word p w t) b s r d e why q x = elim (cases_Option (move few_parts few_letters s w)) [
  | inl m ↦ let stops_here : Some (at (reason s w) p) ≡ None = cc in absurd cc
  | inr u ↦ clean t (read_on b w) u.0 (reached_on b s u.0 w r u.1) (rw append_assoc d) (cc) why q (only_later b s u.0 p w t why q r u.1 x)
]

-- over the words of a whole text the judge walks to its end
pub judge_walk : (t : Text) (s u : Standing) → Whole t → walk few_parts few_letters s (words t) ≡ Some u → may_end u.goals ≡ true → judge s t ≡ None
judge_walk (ends p) s u h e m = rw (same_Some s u e, m)
judge_walk (stops p) s u h e m = absurd h
judge_walk (word p w t) s u h e m =
    let x = walk_step few_parts few_letters s u w (words t) e in let rest = judge_walk t x.0 u h x.2 m in cc
