-- Which words can be names: a letter, then letters, digits and underscores, and no key word of the rules.
use Rattle.std.specs.Prelude.{ℕ, Bool, false, not, ◌&&◌, ◌||◌, List, [], ◌∷◌, codes, ◌==◌, nat_le}
use Rattle.std.specs.List.{list_all}
use Rattle.machine.specs.Model.{among}

-- A to Z, a to z
abbrev pub is_letter : ℕ → Bool
is_letter b = (nat_le 65 b && nat_le b 90) || (nat_le 97 b && nat_le b 122)

-- 0 to 9
abbrev pub is_digit : ℕ → Bool
is_digit b = nat_le 48 b && nat_le b 57

-- what a word may go on with
abbrev pub continues : ℕ → Bool
continues b = is_letter b || (is_digit b || b == 95)

abbrev pub all_continue : List ℕ → Bool
all_continue = list_all continues

abbrev pub is_word : List ℕ → Bool
is_word [] = false
is_word (b ∷ bs) = is_letter b && all_continue bs

-- the key words of the rules
abbrev pub is_connective : List ℕ → Bool
is_connective w = among (codes "true" ∷ codes "false" ∷ codes "not" ∷ codes "and" ∷ codes "or" ∷ []) w

abbrev pub is_operator : List ℕ → Bool
is_operator w = among (codes "EF" ∷ codes "AF" ∷ codes "EG" ∷ codes "AG" ∷ codes "LOOP" ∷ codes "SAT" ∷ []) w

abbrev pub is_name : List ℕ → Bool
is_name w = is_word w && not (is_connective w || is_operator w)
