-- The lines of a file.
use Rattle.std.specs.Prelude.{◌≡◌, ◌≢◌, ℕ, cond, List, [], ◌∷◌, ◌++◌, All, ◌==◌}
use Rattle.std.specs.List.{flat_map}

-- the bytes before the first line feed, or all
abbrev pub first_line : List ℕ → List ℕ
first_line [] = []
first_line (b ∷ bs) = cond (b == 10) [] (b ∷ first_line bs)

-- the bytes behind the first line feed
abbrev pub behind_line : List ℕ → List ℕ
behind_line [] = []
behind_line (b ∷ bs) = cond (b == 10) bs (behind_line bs)

-- a byte in front of the first of some lines, or as a line of its own
abbrev pub on_first : ℕ → List (List ℕ) → List (List ℕ)
on_first b [] = (b ∷ []) ∷ []
on_first b (line ∷ more) = (b ∷ line) ∷ more

-- the lines without their line feeds; a last line feed begins no further line
abbrev pub lines_of : List ℕ → List (List ℕ)
lines_of [] = []
lines_of (b ∷ bs) = cond (b == 10) ([] ∷ lines_of bs) (on_first b (lines_of bs))

-- the bytes, with a line feed behind a last line that has none
abbrev pub closed : List ℕ → List ℕ
closed [] = []
closed (b ∷ []) = cond (b == 10) (10 ∷ []) (b ∷ 10 ∷ [])
closed (b ∷ c ∷ bs) = b ∷ closed (c ∷ bs)

-- lines as the bytes of a file, each with a line feed behind it
abbrev pub written : List (List ℕ) → List ℕ
written lines = flat_map (λ line. line ++ 10 ∷ []) lines

-- no line holds a line feed, and written again they are the bytes
pub record AreLinesOf (bytes : List ℕ) (lines : List (List ℕ)) : Type 0 where
  pub unbroken : All (λ line. All (λ b. b ≢ 10) line) lines
  pub same : written lines ≡ closed bytes
