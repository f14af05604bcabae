-- The first names of a list with one more.
use Rattle.std.proofs.Common.{◌≡◌, ℕ, ◌+◌, List, [], ◌∷◌, ◌++◌, map, take, Bor, ◌∙◌, ap, sym, arith, Some, None, Option, inl, inr}
use Rattle.std.specs.List.{slice_get}
use Rattle.std.specs.Option.{option_map}
use Rattle.std.proofs.lemmas.List.{map-append, take_all, take_more}
use Rattle.std.proofs.lemmas.Option.{slice_get_cases, slice_get_within, get_or_from_slice_get}

one_more : {X : Type 0} (xs : List X) (i : ℕ) (x : X) → slice_get xs i ≡ Some x → take (i + 1) xs ≡ take i xs ++ (x ∷ [])
one_more {X} xs i x e =
    take_more xs i x (slice_get_within xs i x e) ∙ ap {B = List X} (λ y. take i xs ++ (y ∷ [])) (get_or_from_slice_get xs i x x e)

-- the names so far, with the one at i
pub name_more : (ns : List (List ℕ)) (i : ℕ) (o : Option (Bor (List ℕ))) (x : Bor (List ℕ)) (xs : List (Bor (List ℕ))) → option_map (λ x. x.now) o ≡ slice_get ns i → o ≡ Some x → map (λ x. x.now) xs ≡ take i ns → map (λ x. x.now) (xs ++ (x ∷ [])) ≡ take (i + 1) ns
name_more ns i o x xs e f h =
    map-append (λ (x : Bor (List ℕ)). x.now) xs (x ∷ [])
    ∙ ap {B = List (List ℕ)} (λ l. l ++ (x.now ∷ [])) h
    ∙ sym (one_more ns i x.now (sym e ∙ ap (λ (p : Option (Bor (List ℕ))). option_map (λ x. x.now) p) f))

-- there is none at i
pub name_none : (ns : List (List ℕ)) (i : ℕ) → slice_get ns i ≡ None → take i ns ≡ take (i + 1) ns
name_none ns i e =
    elim (slice_get_cases ns i).1 [
      | inl s ↦ cc
      | inr s ↦ take_all i ns s.0 ∙ sym (take_all (i + 1) ns (omega arith))
    ]
