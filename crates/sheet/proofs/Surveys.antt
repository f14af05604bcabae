-- The fault of a sheet, part by part.
use Rattle.std.proofs.Common.{◌≡◌, ℕ, List, map, Some, None, Option, sym, ap, ◌∙◌}
use Rattle.std.specs.List.{range_with_len}
use Rattle.fault.specs.declared.Fault.{Fault}
use Rattle.layout.specs.Descriptions.{Step, Description}
use Rattle.layout.specs.Fields.{state_count, name_count, label_in, described}
use Rattle.layout.specs.Judging.{◌▹◌, first_fault, header_fault, name_fault, label_fault, tail_fault, sheet_fault}
use Rattle.layout.proofs.Faults.{some_then, none_then}

module _ (bytes : List ℕ) where
  pub sheet_header : (f : Fault) → header_fault bytes ≡ Some f → sheet_fault bytes ≡ Some f
  unfolding sheet_fault
  sheet_header f e = some_then (header_fault bytes) _ f e

  names_from : header_fault bytes ≡ None → sheet_fault bytes ≡ (first_fault (name_count bytes) (name_fault bytes) ▹ first_fault (state_count bytes) (label_fault bytes) ▹ tail_fault bytes)
  unfolding sheet_fault
  names_from e = none_then (header_fault bytes) _ e

  pub sheet_names : (f : Fault) → header_fault bytes ≡ None → first_fault (name_count bytes) (name_fault bytes) ≡ Some f → sheet_fault bytes ≡ Some f
  sheet_names f e n = names_from e ∙ some_then (first_fault (name_count bytes) (name_fault bytes)) _ f n

  labels_from : header_fault bytes ≡ None → first_fault (name_count bytes) (name_fault bytes) ≡ None → sheet_fault bytes ≡ (first_fault (state_count bytes) (label_fault bytes) ▹ tail_fault bytes)
  labels_from e n = names_from e ∙ none_then (first_fault (name_count bytes) (name_fault bytes)) _ n

  pub sheet_labels : (f : Fault) → header_fault bytes ≡ None → first_fault (name_count bytes) (name_fault bytes) ≡ None → first_fault (state_count bytes) (label_fault bytes) ≡ Some f → sheet_fault bytes ≡ Some f
  sheet_labels f e n l = labels_from e n ∙ some_then (first_fault (state_count bytes) (label_fault bytes)) _ f l

  pub sheet_tail : header_fault bytes ≡ None → first_fault (name_count bytes) (name_fault bytes) ≡ None → first_fault (state_count bytes) (label_fault bytes) ≡ None → sheet_fault bytes ≡ tail_fault bytes
  sheet_tail e n l = labels_from e n ∙ none_then (first_fault (state_count bytes) (label_fault bytes)) _ l

pub first_same : (judge : List ℕ → ℕ → Option Fault) (bytes other : List ℕ) (n m : ℕ) → other ≡ bytes → n ≡ m → first_fault n (judge other) ≡ first_fault m (judge bytes)
first_same judge bytes other n m same counted = ap (λ b. first_fault n (judge b)) same ∙ ap (λ k. first_fault k (judge bytes)) counted

-- the parts, each judged of the same bytes by the part before it
module _ (bytes b0 : List ℕ) (s0 : b0 ≡ bytes) where
  pub header_refused : (f : Fault) → header_fault b0 ≡ Some f → sheet_fault bytes ≡ Some f
  header_refused f e = sheet_header bytes f (ap header_fault (sym s0) ∙ e)

  module _ (b1 : List ℕ) (s1 : b1 ≡ b0) (states count : ℕ) (header : (header_fault b0 ≡ None) × (◌≡◌ {A = ℕ × ℕ} (states, count) (state_count b0, name_count b0))) where
    headed : header_fault bytes ≡ None
    headed = ap header_fault (sym s0) ∙ header.0

    pub states_are : states ≡ state_count bytes
    states_are = ap (λ (p : ℕ × ℕ). p.0) header.1 ∙ ap state_count s0

    pub names_are : count ≡ name_count bytes
    names_are = ap (λ (p : ℕ × ℕ). p.1) header.1 ∙ ap name_count s0

    names_same : first_fault count (name_fault b1) ≡ first_fault (name_count bytes) (name_fault bytes)
    names_same = first_same name_fault bytes b1 count (name_count bytes) (s1 ∙ s0) names_are

    pub names_refused : (f : Fault) → first_fault count (name_fault b1) ≡ Some f → sheet_fault bytes ≡ Some f
    names_refused f e = sheet_names bytes f headed (sym names_same ∙ e)

    module _ (b2 : List ℕ) (s2 : b2 ≡ b1) (named : first_fault count (name_fault b1) ≡ None) where
      labels_same : first_fault states (label_fault b2) ≡ first_fault (state_count bytes) (label_fault bytes)
      labels_same = first_same label_fault bytes b2 states (state_count bytes) (s2 ∙ s1 ∙ s0) states_are

      pub labels_refused : (f : Fault) → first_fault states (label_fault b2) ≡ Some f → sheet_fault bytes ≡ Some f
      labels_refused f e = sheet_labels bytes f headed (sym names_same ∙ named) (sym labels_same ∙ e)

      pub labels_said : (xs : List ℕ) → xs ≡ map (label_in b2) (range_with_len 0 states) → xs ≡ (described bytes).labels
      labels_said xs e = e ∙ ap (λ b. map (label_in b) (range_with_len 0 states)) (s2 ∙ s1 ∙ s0) ∙ ap (λ n. map (label_in bytes) (range_with_len 0 n)) states_are

      pub tail_left : (b3 : List ℕ) → b3 ≡ b2 → first_fault states (label_fault b2) ≡ None → sheet_fault bytes ≡ tail_fault b3
      tail_left b3 s3 e = sheet_tail bytes headed (sym names_same ∙ named) (sym labels_same ∙ e) ∙ ap tail_fault (sym (s3 ∙ s2 ∙ s1 ∙ s0))

pub same_description : (d e : Description) → d.names ≡ e.names → d.labels ≡ e.labels → d.steps ≡ e.steps → d ≡ e
same_description d e n l s =
    let one : List (List ℕ) → Description = λ x. record { names = x; labels = d.labels; steps = d.steps } in
    let two : List ℕ → Description = λ x. record { names = e.names; labels = x; steps = d.steps } in
    let three : List Step → Description = λ x. record { names = e.names; labels = e.labels; steps = x } in
    ap one n ∙ ap two l ∙ ap three s
