-- Whether a test passes at some number below another.
use Rattle.std.proofs.Common.{[], ◌∷◌, ◌++◌, refl, ◌||◌, ◌≡◌, ℕ, zero, suc, ◌+◌, ◌<◌, Bool, true, false, sym, ap, ◌∙◌, inl, inr, add-one, arith}
use Rattle.std.proofs.lemmas.Bool.{cases_lt, or_from, or_left, or_right}
use mathlib.Core.Bool.{or-false}
use Rattle.std.specs.List.{list_any, range_with_len}
use Rattle.std.proofs.lemmas.List.Folds.{list_any-append}
use Rattle.barred.specs.Bars.{some_below}

pub some_below_true : (n t : ℕ) (f : ℕ → Bool) → t < n → f t ≡ true → some_below n f ≡ true
some_below_true zero t f h e = absurd (omega arith)
some_below_true (suc n) t f h e = elim (cases_lt t n) [
  | inl l ↦ or_left (some_below n f) (f n) (some_below_true n t f l e)
  | inr k ↦ let same : n ≡ t = omega arith in or_right (some_below n f) (f n) (ap f same ∙ e)
]

pub some_below_more : (n : ℕ) (f : ℕ → Bool) → some_below n f ≡ false → f n ≡ false → some_below (n + 1) f ≡ false
some_below_more n f none here = rw add-one (or_from (some_below n f) (f n) none here)

pub some_below_all : (n t : ℕ) (f : ℕ → Bool) → t ≡ n → some_below t f ≡ false → false ≡ some_below n f
some_below_all n t f e none = sym (rw e at none)

range_more : (a n j : ℕ) → a + n ≡ j → range_with_len a (suc n) ≡ range_with_len a n ++ (j ∷ [])
range_more a zero j e = let same : a ≡ j = omega arith in ap (λ k. k ∷ []) same
range_more a (suc n) j e = ap (λ ks. a ∷ ks) (range_more (a + 1) n j (omega arith))

-- the library's word for it
pub some_below_any : (n : ℕ) (f : ℕ → Bool) → list_any f (range_with_len 0 n) ≡ some_below n f
some_below_any zero f = refl
some_below_any (suc n) f =
    ap (list_any f) (range_more 0 n n (omega arith)) ∙ list_any-append f (range_with_len 0 n) (n ∷ []) ∙ (λ i. some_below_any n f i || or-false (f n) i)
