-- The words of a text, each with its offset.
use Rattle.std.specs.Prelude.{ℕ, zero, suc, ◌-◌, Bool, true, false, cond, List, [], ◌∷◌, length, take, drop, Some, None, codes, Option, ◌==◌}
use Rattle.std.specs.Str.{bytes_eq}
use Rattle.machine.specs.Names.{is_letter, continues}
use Rattle.logic.specs.declared.Quantifier.TheVariants.{EF, AF, EG, AG}
use Rattle.logic.specs.declared.Cycle.TheVariants.{Loop, Sat}
use Rattle.grammar.specs.declared.Sign.{Sign}
use Rattle.grammar.specs.declared.Sign.TheVariants.{Open, Close, OpenSquare, CloseSquare, OpenCurly, CloseCurly, Dot, Bar, Star}
use Rattle.grammar.specs.declared.Key.{Key}
use Rattle.grammar.specs.declared.Key.TheVariants.{True, False, Not, And, Or, Path, Cycle}

pub data Word : Type 0 where
  sign : Sign → Word
  key : Key → Word
  name : List ℕ → Word

-- the sign that a byte is: ( ) [ ] { } . | *
abbrev pub sign_of : ℕ → Option Sign
sign_of b =
    cond (b == 40) (Some Open) (cond (b == 41) (Some Close) (cond (b == 91) (Some OpenSquare) (cond (b == 93) (Some CloseSquare) (cond (b == 123) (Some OpenCurly) (cond (b == 125) (Some CloseCurly) (cond (b == 46) (Some Dot) (cond (b == 124) (Some Bar) (cond (b == 42) (Some Star) None))))))))

-- the operator word that some letters spell
abbrev pub operator_of : List ℕ → Option Key
operator_of w =
    cond (bytes_eq (codes "EF") w) (Some (Path EF)) (cond (bytes_eq (codes "AF") w) (Some (Path AF)) (cond (bytes_eq (codes "EG") w) (Some (Path EG)) (cond (bytes_eq (codes "AG") w) (Some (Path AG)) (cond (bytes_eq (codes "LOOP") w) (Some (Cycle Loop)) (cond (bytes_eq (codes "SAT") w) (Some (Cycle Sat)) None)))))

-- the key word that some letters spell
abbrev pub key_of : List ℕ → Option Key
key_of w =
    cond (bytes_eq (codes "true") w) (Some True) (cond (bytes_eq (codes "false") w) (Some False) (cond (bytes_eq (codes "not") w) (Some Not) (cond (bytes_eq (codes "and") w) (Some And) (cond (bytes_eq (codes "or") w) (Some Or) (operator_of w)))))

-- a word of letters, digits and underscores: a key word, or else a name
abbrev pub spelled : List ℕ → Option Key → Word
spelled w (Some k) = key k
spelled w None = name w

-- how many bytes at the front a word can go on with
abbrev pub run : List ℕ → ℕ
run [] = 0
run (b ∷ bs) = cond (continues b) (suc (run bs)) 0

-- the text behind the gaps at its front; byte 32 is a gap
abbrev pub skip : List ℕ → List ℕ
skip [] = []
skip (b ∷ bs) = cond (b == 32) (skip bs) (b ∷ bs)

abbrev pub long_word : Bool → List ℕ → Option (Word × List ℕ)
long_word true l = Some (spelled (take (run l) l) (key_of (take (run l) l)), drop (run l) l)
long_word false l = None

abbrev pub short_word : Option Sign → ℕ → List ℕ → Option (Word × List ℕ)
short_word (Some s) b bs = Some (sign s, bs)
short_word None b bs = long_word (is_letter b) (b ∷ bs)

-- the word that a text without gaps at its front begins with, and the text behind it
abbrev pub read : List ℕ → Option (Word × List ℕ)
read [] = None
read (b ∷ bs) = short_word (sign_of b) b bs

-- a text as its words, each at its offset; behind them the text ends, or stops at a byte that starts no word
pub data Text : Type 0 where
  ends : ℕ → Text
  stops : ℕ → Text
  word : ℕ → Word → Text → Text

abbrev pub no_word : ℕ → List ℕ → Text
no_word total [] = ends total
no_word total (b ∷ bs) = stops (total - length (b ∷ bs))

-- the last bytes l of a text of total bytes, read word by word; fuel, above the number of bytes, bounds the words
abbrev pub scan_by : ℕ → ℕ → List ℕ → Text
scan_by zero total l = ends total
scan_by (suc fuel) total l =
    elim (read (skip l)) [ Some r ↦ word (total - length (skip l)) r.0 (scan_by fuel total r.1) | None ↦ no_word total (skip l) ]

unfoldable pub scan : ℕ → List ℕ → Text
scan total l = scan_by (suc (length l)) total l

abbrev pub text_of : List ℕ → Text
text_of bytes = scan (length bytes) bytes

-- the words without their offsets
abbrev pub words : Text → List Word
words (ends p) = []
words (stops p) = []
words (word p w t) = w ∷ words t

-- no byte stands where a word would have to start
abbrev pub Whole : Text → Type 0
Whole (ends p) = Unit {0}
Whole (stops p) = ⊥
Whole (word p w t) = Whole t
