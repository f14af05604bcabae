-- The fault of what follows the labels, where it is read at an offset of the same bytes.
use Rattle.std.proofs.Common.{◌≡◌, ℕ, ◌<◌, ◌≤◌, List, length, Some, None, sym, ap, ◌∙◌, subst, arith}
use Rattle.std.proofs.lemmas.Bool.{lt-ltb}
use Rattle.fault.specs.declared.Fault.{Fault}
use Rattle.fault.specs.declared.Reason.TheVariants.{NoWayOut, LeftOver}
use Rattle.fault.specs.Refusals.{at}
use Rattle.layout.specs.Fields.{u16_at, state_count, step_count_at, step_count, step_at, sheet_end}
use Rattle.layout.specs.Judging.{◌▹◌, first_fault, step_count_fault, step_fault, way_out_fault, end_fault, tail_fault}
use Rattle.layout.proofs.Faults.{some_then, none_then, first_here, first_none}
use Rattle.layout.proofs.Faultless.{way_out_none, end_none}
use Rattle.sheet.specs.Fields.{cut_fault}
use Rattle.sheet.specs.Sheets.{Lowest}
use Rattle.sheet.proofs.Surveys.{first_same}

module _ (bytes : List ℕ) (o : ℕ) (here : o ≡ step_count_at bytes) where
  pub count_judged : cut_fault bytes o 2 ≡ step_count_fault bytes
  count_judged = ap (λ k. cut_fault bytes k 2) here

  pub tail_count : (f : Fault) → cut_fault bytes o 2 ≡ Some f → tail_fault bytes ≡ Some f
  unfolding tail_fault
  tail_count f e = some_then (step_count_fault bytes) _ f (sym count_judged ∙ e)

  module _ (there : cut_fault bytes o 2 ≡ None) (other : List ℕ) (count : ℕ) (same : other ≡ bytes) (value : count ≡ u16_at bytes o) where
    pub counted : count ≡ step_count bytes
    counted = value ∙ ap (u16_at bytes) here

    steps_same : first_fault count (step_fault other) ≡ first_fault (step_count bytes) (step_fault bytes)
    steps_same = first_same step_fault bytes other count (step_count bytes) same counted

    pub tail_from : tail_fault bytes ≡ (first_fault (step_count bytes) (step_fault bytes) ▹ first_fault (state_count bytes) (way_out_fault bytes) ▹ end_fault bytes)
    unfolding tail_fault
    tail_from = none_then (step_count_fault bytes) _ (sym count_judged ∙ there)

    pub tail_steps : (f : Fault) → first_fault count (step_fault other) ≡ Some f → tail_fault bytes ≡ Some f
    tail_steps f e = tail_from ∙ some_then (first_fault (step_count bytes) (step_fault bytes)) _ f (sym steps_same ∙ e)

    module _ (none : first_fault count (step_fault other) ≡ None) (low : ℕ) (lowest : Lowest other count low) where
      ways_from : tail_fault bytes ≡ (first_fault (state_count bytes) (way_out_fault bytes) ▹ end_fault bytes)
      ways_from = tail_from ∙ none_then (first_fault (step_count bytes) (step_fault bytes)) _ (sym steps_same ∙ none)

      lowest_of : Lowest bytes (step_count bytes) low
      lowest_of = subst (λ (n : ℕ). Lowest bytes n low) counted (subst (λ (b : List ℕ). Lowest b count low) same lowest)

      pub tail_way : low < state_count bytes → tail_fault bytes ≡ Some (at NoWayOut low)
      tail_way h =
          let stuck : way_out_fault bytes low ≡ Some (at NoWayOut low) = rw lowest_of.here in
          let before = first_none low (way_out_fault bytes) (λ i b. way_out_none bytes i (lowest_of.below i b)) in
          ways_from ∙ some_then (first_fault (state_count bytes) (way_out_fault bytes)) _ (at NoWayOut low) (first_here (state_count bytes) low (way_out_fault bytes) (at NoWayOut low) h before stuck)

      pub tail_end : state_count bytes ≤ low → tail_fault bytes ≡ end_fault bytes
      tail_end h =
          ways_from ∙ none_then (first_fault (state_count bytes) (way_out_fault bytes)) _ (first_none (state_count bytes) (way_out_fault bytes) (λ i b. way_out_none bytes i (lowest_of.below i (omega arith))))

      module _ (place : ℕ) (end : place ≡ step_at other count) where
        place_is : place ≡ sheet_end bytes
        place_is = end ∙ ap (λ b. step_at b count) same ∙ ap (step_at bytes) counted

        pub tail_over : state_count bytes ≤ low → place < length other → tail_fault bytes ≡ Some (at LeftOver place)
        tail_over h l =
            let more : sheet_end bytes < length bytes = omega (arith, place_is, ap length same) in
            let over : end_fault bytes ≡ Some (at LeftOver (sheet_end bytes)) = rw (lt-ltb (sheet_end bytes) (length bytes) more) in
            tail_end h ∙ over ∙ ap (λ k. Some (at LeftOver k)) (sym place_is)

        pub tail_right : state_count bytes ≤ low → length other ≤ place → tail_fault bytes ≡ None
        tail_right h l = tail_end h ∙ end_none bytes (omega (arith, place_is, ap length same))
