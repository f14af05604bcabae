-- Which texts are rules for a machine, and the fault of a text that is none.
use Rattle.std.specs.Prelude.{◌≡◌, ℕ, ◌<◌, ◌≤◌, Bool, true, false, ◌⊎◌, List, [], ◌∷◌, ◌++◌, length}
use Rattle.fault.specs.declared.Fault.{Fault}
use Rattle.fault.specs.declared.Reason.{Reason}
use Rattle.fault.specs.declared.Reason.TheVariants.{TextTooLong, StrayByte, NotDerivable, UnknownName, TooManyParts, TooManyLetters}
use Rattle.fault.specs.Numbers.{number_of}
use Rattle.fault.specs.Refusals.{at}
use Rattle.logic.specs.Formulas.{Formula, Regular, size, parts, Each}
use Rattle.grammar.specs.Words.{Word, sign, key, name, Text, ends, stops, word, words, Whole, text_of}
use Rattle.grammar.specs.Grammar.{State, Derives, Derivable, Begins}
use Rattle.grammar.specs.Limits.{is_part, can_be_letter, Bracket, after_word, with_word, Full}

-- every name of the text is known
abbrev pub Known : (List ℕ → Bool) → Text → Type 0
Known known (ends p) = Unit {0}
Known known (stops p) = Unit {0}
Known known (word p (sign s) t) = Known known t
Known known (word p (key k) t) = Known known t
Known known (word p (name w) t) = (known w ≡ true) × Known known t

-- the expression has at most 31 letters
abbrev pub Narrow : Regular → Type 0
Narrow r = size r ≤ 31

-- the bytes are a rule that stands for f, where these names are known
pub record Accepted (known : List ℕ → Bool) (bytes : List ℕ) (f : Formula) : Type 0 where
  pub short : length bytes ≤ 255
  pub whole : Whole (text_of bytes)
  pub derives : Derives (State f) (words (text_of bytes))
  pub named : Known known (text_of bytes)
  pub few : parts f ≤ 64
  pub narrow : Each Narrow f

-- what has been read in front of a place: the words, how many parts are among them, which brackets are open
pub record Front : Type 0 where
  pub read : List Word
  pub seen : ℕ
  pub brackets : List Bracket

abbrev pub nothing_read : Front
nothing_read = record { read = []; seen = 0; brackets = [] }

abbrev pub read_on : Front → Word → Front
read_on b w = record { read = b.read ++ w ∷ []; seen = with_word w b.seen; brackets = after_word w b.brackets }

-- what is wrong with a text, and where
pub data Wrong (known : List ℕ → Bool) : Front → Text → Reason → ℕ → Type 0 where
  stray_byte : {b : Front} {p : ℕ} → Wrong known b (stops p) StrayByte p
  -- the text ends too soon
  too_soon : {b : Front} {p : ℕ} → Begins b.read → (Derivable b.read → ⊥) → Wrong known b (ends p) NotDerivable p
  -- some rule begins with the words before this one, and none with this one too
  no_rule : {b : Front} {p : ℕ} {w : Word} {t : Text} → Begins b.read → (Begins (b.read ++ w ∷ []) → ⊥) → Wrong known b (word p w t) NotDerivable p
  unknown : {b : Front} {p : ℕ} {w : List ℕ} {t : Text} → known w ≡ false → Wrong known b (word p (name w) t) UnknownName p
  -- a part behind 64 others
  part_over : {b : Front} {p : ℕ} {w : Word} {t : Text} → is_part w ≡ true → 64 ≤ b.seen → Wrong known b (word p w t) TooManyParts p
  -- a letter behind 31 others of its expression
  letter_over : {b : Front} {p : ℕ} {w : Word} {t : Text} → can_be_letter w ≡ true → Full b.brackets → Wrong known b (word p w t) TooManyLetters p
  later : {b : Front} {p : ℕ} {w : Word} {t : Text} {why : Reason} {q : ℕ} → Wrong known (read_on b w) t why q → Wrong known b (word p w t) why q

-- the smaller place comes first, and at one place the smaller number
abbrev pub NotAfter : Fault → Fault → Type 0
NotAfter f g = (f.place < g.place) ⊎ ((f.place ≡ g.place) × (number_of f.reason ≤ number_of g.reason))

-- the fault is the first of all that are wrong with a text
pub record FirstWrong (known : List ℕ → Bool) (b : Front) (t : Text) (f : Fault) : Type 0 where
  pub wrong : Wrong known b t f.reason f.place
  pub first : (why : Reason) (p : ℕ) → Wrong known b t why p → NotAfter f (at why p)

-- the fault of bytes that are no rule
abbrev pub Refused : (List ℕ → Bool) → List ℕ → Fault → Type 0
Refused known bytes f = ((255 < length bytes) × (f ≡ at TextTooLong 255)) ⊎ ((length bytes ≤ 255) × FirstWrong known nothing_read (text_of bytes) f)
