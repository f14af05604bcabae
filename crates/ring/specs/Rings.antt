-- What a ring means: sectors numbered round, a turn to either neighbour, and a wait in place.
use Rattle.std.specs.Prelude.{ℕ, ◌+◌, Bool, cond, ◌&&◌, ◌||◌, List, [], ◌∷◌, Some, None, codes, Option, ◌==◌, nat_le, nat_lt}
use Rattle.std.specs.Str.{bytes_eq}
use Rattle.machine.specs.Model.{Model, empty}

-- n sectors, c seconds for a turn, an aim a
abbrev pub in_range : ℕ → ℕ → ℕ → Bool
in_range n c a = nat_le 3 n && (nat_le n 360 && (nat_le 1 c && (nat_le c 3600 && nat_lt a n)))

-- t comes right after s, going round
abbrev pub follows : ℕ → ℕ → ℕ → Bool
follows n s t = t == s + 1 || (s + 1 == n && t == 0)

abbrev pub neighbours : ℕ → ℕ → ℕ → Bool
neighbours n s t = follows n s t || follows n t s

abbrev pub ring_step : ℕ → ℕ → ℕ → ℕ → Option ℕ
ring_step n c s t = cond (nat_lt s n && nat_lt t n) (cond (s == t) (Some 1) (cond (neighbours n s t) (Some c) None)) None

-- sector 0 bears home, and the aim bears aim
abbrev pub ring_bears : ℕ → ℕ → List ℕ → Bool
ring_bears a s w = (s == 0 && bytes_eq (codes "home") w) || (s == a && bytes_eq (codes "aim") w)

abbrev pub turning : ℕ → ℕ → ℕ → Model
turning n c a = record { states = n; names = codes "home" ∷ codes "aim" ∷ []; bears = ring_bears a; step = ring_step n c }

-- out of range: no states and no names
abbrev pub ring_model : ℕ → ℕ → ℕ → Model
ring_model n c a = cond (in_range n c a) (turning n c a) empty
