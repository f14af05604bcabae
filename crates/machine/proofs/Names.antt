-- A word's bytes from one index on.
use Rattle.std.proofs.Common.{◌≡◌, ℕ, ◌+◌, ◌-◌, ◌<◌, ◌&&◌, List, [], ◌∷◌, length, get_or, take, drop, add-one, arith, drop-cons}
use Rattle.machine.specs.Names.{continues, all_continue, is_letter, is_word}
use Rattle.std.proofs.lemmas.List.{take_rest}

pub all_continue_next : (bs : List ℕ) (i : ℕ) → i < length bs → all_continue (drop i bs) ≡ (continues (get_or bs i 0) && all_continue (drop (i + 1) bs))
all_continue_next bs i h = rw (add-one, drop-cons bs i 0)

pub is_word_parts : (bs : List ℕ) → 0 < length bs → is_word bs ≡ (is_letter (get_or bs 0 0) && all_continue (take (length bs - 1) (drop 1 bs)))
is_word_parts [] h = absurd (omega arith)
is_word_parts (b ∷ bs) h = rw (take_rest (b ∷ bs) 1)
