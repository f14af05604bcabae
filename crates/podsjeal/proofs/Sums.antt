-- What a chain over the numbers below n adds up.
use Rattle.std.proofs.Common.{◌≡◌, ℕ, zero, suc, ◌+◌, ◌≤◌, Bool, true, false, cond, map, sum, refl, sym, ap, ◌∙◌, add-one, arith}
use Rattle.std.specs.List.{range_with_len}
use Rattle.std.proofs.lemmas.List.FromFn.{sum_by-map-range_with_len_more}
use Rattle.podsjeal.specs.Counts.{sum_below}

pub sum_below_made : (n : ℕ) (f : ℕ → ℕ) → sum (map f (range_with_len 0 n)) ≡ sum_below n f
sum_below_made zero f = refl
sum_below_made (suc n) f =
    ap (λ k. sum (map f (range_with_len 0 k))) (sym (add-one n)) ∙ sum_by-map-range_with_len_more (λ x. x) f 0 n n (omega arith) ∙ ap (λ k. k + f n) (sum_below_made n f)

-- tests added up are no more than there are
pub sum_few : (n : ℕ) (p : ℕ → Bool) → sum_below n (λ k. cond (p k) 1 0) ≤ n
sum_few zero p = omega arith
sum_few (suc n) p = few (p n) (sum_few n p)
  where
    few : (b : Bool) → sum_below n (λ k. cond (p k) 1 0) ≤ n → sum_below n (λ k. cond (p k) 1 0) + cond b 1 0 ≤ suc n
    few true h = omega (arith, h)
    few false h = omega (arith, h)
