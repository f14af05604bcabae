-- The place of a word among some names, name by name.
use Rattle.std.proofs.Common.{◌≡◌, ℕ, suc, ◌+◌, ◌<◌, Bool, true, false, cond, List, [], ◌∷◌, ◌++◌, length, get_or, take, drop, Some, None, sym, ap, ◌∙◌, add-zero, zero-add, arith}
use Rattle.std.specs.Str.{bytes_eq}
use Rattle.std.proofs.lemmas.List.{take-append-drop, drop_more, take_more, length-take-le}
use Rattle.layout.specs.Descriptions.{place_from}

pub place_front : (b : ℕ) (xs ys : List (List ℕ)) (w : List ℕ) → place_from b xs w ≡ None → place_from b (xs ++ ys) w ≡ place_from (b + length xs) ys w
place_front b [] ys w e = ap (λ k. place_from k ys w) (sym (add-zero b))
place_front b (x ∷ xs) ys w e = go (bytes_eq x w) e (place_front (b + 1) xs ys w)
  where
    go : (y : Bool) → cond y (Some b) (place_from (b + 1) xs w) ≡ None
        → (place_from (b + 1) xs w ≡ None → place_from (b + 1) (xs ++ ys) w ≡ place_from (b + 1 + length xs) ys w)
        → cond y (Some b) (place_from (b + 1) (xs ++ ys) w) ≡ place_from (b + suc (length xs)) ys w
    go true e more = let z : ◌≡◌ {A = ℕ} 0 1 = cc in absurd (omega arith)
    go false e more = more e ∙ ap (λ k. place_from k ys w) {x = b + 1 + length xs} {y = b + suc (length xs)} (omega arith)

pub place_here : (ns : List (List ℕ)) (i : ℕ) (w : List ℕ) → i < length ns → place_from 0 (take i ns) w ≡ None → bytes_eq (get_or ns i []) w ≡ true → place_from 0 ns w ≡ Some i
place_here ns i w h e y =
    let long : 0 + length (take i ns) ≡ i = zero-add (length (take i ns)) ∙ length-take-le i ns (omega arith) in
    ap (λ xs. place_from 0 xs w) (sym (take-append-drop i ns))
    ∙ place_front 0 (take i ns) (drop i ns) w e
    ∙ ap (λ xs. place_from (0 + length (take i ns)) xs w) (drop_more ns i [] h)
    ∙ ap (λ t. cond t (Some (0 + length (take i ns))) (place_from (0 + length (take i ns) + 1) (drop (i + 1) ns) w)) y
    ∙ ap Some long

pub place_next : (ns : List (List ℕ)) (i : ℕ) (w : List ℕ) → i < length ns → place_from 0 (take i ns) w ≡ None → bytes_eq (get_or ns i []) w ≡ false → place_from 0 (take (i + 1) ns) w ≡ None
place_next ns i w h e n =
    ap (λ xs. place_from 0 xs w) (take_more ns i [] h)
    ∙ place_front 0 (take i ns) (get_or ns i [] ∷ []) w e
    ∙ ap (λ t. cond t (Some (0 + length (take i ns))) None) n
