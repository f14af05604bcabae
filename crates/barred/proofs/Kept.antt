-- No call takes a state's last open step.
use Rattle.std.proofs.Common.{Err, ◌≡◌, ℕ, ◌<◌, Bool, true, false, cond, not, ◌&&◌, ◌||◌, eqb, ◌⊎◌, [], ◌∷◌, ◌++◌, length, is_some, Some, None, Option, sym, refl, inl, inr, arith, rules}
use Rattle.std.proofs.lemmas.Bool.{and_from, and_left, and_parts, and_right, cases_eq, cases_lt, eqb-false, false≢true, ne_eqb, not_from_false, not-true}
use Rattle.fault.specs.declared.Fault.{Fault}
use Rattle.fault.specs.Refusals.{unless}
use Rattle.machine.specs.Model.{Model, Lawful}
use Rattle.machine.proofs.Laws.{no_step}
use Rattle.barred.specs.declared.steps.Step.{Step}
use Rattle.barred.specs.Bars.{Bars, step_of, KeepsOut, is_step, is_barred, is_open, has_open, has_other, without}
use Rattle.barred.specs.Sound.{Sound}
use Rattle.barred.specs.Barring.{bar_fault, unbar_fault, after}
use Rattle.barred.specs.Laws.{some_below_where, open_where}
use Rattle.barred.proofs.Below.{some_below_true}
use Rattle.barred.proofs.Listed.{is_barred_push, is_barred_without}

open_from : (m : Model) (bars : Bars) (s t : ℕ) → t < m.states → is_open m bars s t ≡ true → has_open m bars s ≡ true
unfolding has_open
open_from m bars s t h e = some_below_true m.states t (is_open m bars s) h e

-- where every state keeps an open step, a step is shown exactly if it is open
pub sound_from_keeps : {m : Model} {bars : Bars} → Lawful m → KeepsOut m bars → Sound m bars
sound_from_keeps {m} {bars} law keeps = record {
  keeps = keeps;
  shows = λ s t. shown (is_barred bars s t) (has_open m bars s) (m.step s t) (elim (cases_lt s m.states) [ inl h ↦ inl (keeps s h) | inr h ↦ inr (no_step m law s t (inl h)) ]);
}
  where
    shown : (b h : Bool) (o : Option ℕ) → (h ≡ true) ⊎ (o ≡ None) → cond (b && h) None o ≡ cond (is_some o && not b) o None
    shown b h (Some d) (inr e) = let z : ◌≡◌ {A = ℕ} 0 1 = cc in absurd (omega arith)
    shown b false (Some d) (inl e) = absurd (false≢true e)
    shown true true (Some d) (inl e) = refl
    shown false true (Some d) (inl e) = refl
    shown true true None e = refl
    shown true false None e = refl
    shown false h None e = refl

pub keeps_none : {m : Model} → Lawful m → KeepsOut m []
keeps_none {m} law s h =
    let w = law.leaves s h in
    let j = law.joins s w.0 w.1 w.2 in
    open_from m [] s w.0 j.1 (rw w.2)

-- an open step stays open under a bar of another step
open_push : (m : Model) (bars : Bars) (p : Step) (s t : ℕ) → is_open m bars s t ≡ true → is_step p s t ≡ false → is_open m (bars ++ (p ∷ [])) s t ≡ true
open_push m bars p s t e f = rw (is_barred_push bars p s t, f) (go (is_some (m.step s t)) (is_barred bars s t) e)
  where
    go : (o b : Bool) → (o && not b) ≡ true → (o && not (b || false)) ≡ true
    go true true h = h
    go true false h = h
    go false b h = h

-- and it stays open where bars are taken out
open_without : (m : Model) (bars : Bars) (s t x y : ℕ) → is_open m bars x y ≡ true → is_open m (without bars s t) x y ≡ true
open_without m bars s t x y e =
    let parts = and_parts (is_some (m.step x y)) (not (is_barred bars x y)) e in
    let free = is_barred_without bars s t x y (not-true (is_barred bars x y) parts.1) in
    and_from (is_some (m.step x y)) (not (is_barred (without bars s t) x y)) parts.0 (not_from_false (is_barred (without bars s t) x y) free)

keeps_push : (m : Model) (bars : Bars) → KeepsOut m bars → (s t : ℕ) → has_other m bars s t ≡ true → KeepsOut m (bars ++ (step_of s t ∷ []))
unfolding has_other
keeps_push m bars keeps s t e x h = elim (cases_eq x s) [
  | inl same ↦
      let w = some_below_where m.states (λ u. is_open m bars s u && not (eqb u t)) e in
      let parts = and_parts (is_open m bars s w.0) (not (eqb w.0 t)) w.2 in
      let another = and_right (eqb s s) (eqb t w.0) (ne_eqb t w.0 (λ q. eqb-false w.0 t (not-true (eqb w.0 t) parts.1) (sym q))) in
      rw same (open_from m (bars ++ (step_of s t ∷ [])) s w.0 w.1 (open_push m bars (step_of s t) s w.0 parts.0 another))
  | inr other ↦
      let w = open_where m bars x (keeps x h) in
      let another = and_left (eqb s x) (eqb t w.0) (ne_eqb s x (λ q. other (sym q))) in
      open_from m (bars ++ (step_of s t ∷ [])) x w.0 w.1 (open_push m bars (step_of s t) x w.0 w.2 another)
]

keeps_without : (m : Model) (bars : Bars) → KeepsOut m bars → (s t : ℕ) → KeepsOut m (without bars s t)
keeps_without m bars keeps s t x h =
    let w = open_where m bars x (keeps x h) in
    open_from m (without bars s t) x w.0 w.1 (open_without m bars s t x w.0 w.2)

pub bar_granted : (m : Model) (bars : Bars) (s t : ℕ) → None ≡ bar_fault m bars s t → (s < m.states) × (has_other m bars s t ≡ true) × (length bars < 64)
bar_granted m bars s t e = search rules

pub unbar_granted : (m : Model) (bars : Bars) (s t : ℕ) → None ≡ unbar_fault m bars s t → s < m.states
unbar_granted m bars s t e = search rules

pub sound_push : {m : Model} → Lawful m → (bars : Bars) (s t : ℕ) → None ≡ bar_fault m bars s t → (more : Bars) → more ≡ bars ++ (step_of s t ∷ []) → Sound m bars → Sound m more
sound_push {m} law bars s t e more is sound = rw is (sound_from_keeps law (keeps_push m bars sound.keeps s t (bar_granted m bars s t e).1))

pub sound_without : {m : Model} → Lawful m → (bars : Bars) (s t : ℕ) (rest : Bars) → rest ≡ without bars s t → Sound m bars → Sound m rest
sound_without {m} law bars s t rest is sound = rw is (sound_from_keeps law (keeps_without m bars sound.keeps s t))

-- what a check's answer says of the fault
pub refused_keeps : {A : Type 0} (fault : Option Fault) (x : A) (f : Fault) (new old : Bars) → Err f ≡ unless fault x → old ≡ after fault new old
refused_keeps None x f new old e = absurd (cc)
refused_keeps (Some f') x f new old e = refl
