-- Which machine a word of the command line names.
use Rattle.std.specs.Prelude.{◌≡◌, ℕ, ◌<◌, ◌^◌, true, List, ◌++◌, length, codes}
use Rattle.std.specs.Str.{all_ascii_digits}
use Rattle.std.specs.Str.Parse.{digits_value}
use Rattle.podsjeal.specs.declared.request.Request.{Request}
use Rattle.podsjeal.specs.declared.request.Request.TheVariants.{Sheet, Ring}

-- the bytes are decimal digits, one at least, and stand for n, which has 64 bits
pub record IsDecimal (digits : List ℕ) (n : ℕ) : Type 0 where
  pub only : all_ascii_digits digits ≡ true
  pub some : 0 < length digits
  pub value : digits_value 10 digits ≡ n
  pub fits : n < 2 ^ 64

-- N,C,A
pub record IsTriple (word : List ℕ) (n c a : ℕ) : Type 0 where
  pub first : List ℕ
  pub second : List ℕ
  pub third : List ℕ
  pub split : word ≡ first ++ (codes "," ++ (second ++ (codes "," ++ third)))
  pub sectors : IsDecimal first n
  pub turn : IsDecimal second c
  pub aim : IsDecimal third a

-- ring:N,C,A
abbrev pub IsRing : List ℕ → ℕ → ℕ → ℕ → Type 0
IsRing word n c a = (numbers : List ℕ) × (word ≡ codes "ring:" ++ numbers) × IsTriple numbers n c a

-- sheet:FILE or ring:N,C,A
abbrev pub Names : List ℕ → Request → Type 0
Names word (Sheet path) = word ≡ codes "sheet:" ++ path.now
Names word (Ring n c a) = IsRing word n c a

abbrev pub NamesNone : List ℕ → Type 0
NamesNone word = (r : Request) → Names word r → ⊥
