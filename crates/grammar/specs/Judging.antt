-- The same a word at a time: what may stand at each place, as a stack of goals, and the first place where that fails.
use Rattle.std.specs.Prelude.{◌≡◌, ℕ, ◌≤◌, Bool, true, false, cond, ◌&&◌, ◌||◌, List, [], ◌∷◌, ◌++◌, length, drop, Some, None, Option, ◌==◌, nat_lt}
use Rattle.fault.specs.declared.Fault.{Fault}
use Rattle.fault.specs.declared.Reason.{Reason}
use Rattle.fault.specs.declared.Reason.TheVariants.{StrayByte, NotDerivable, UnknownName, TooManyParts, TooManyLetters}
use Rattle.fault.specs.Numbers.{number_of}
use Rattle.fault.specs.Refusals.{at}
use Rattle.grammar.specs.declared.Sign.{Sign}
use Rattle.grammar.specs.declared.Sign.TheVariants.{Open, Close, OpenSquare, CloseSquare, OpenCurly, CloseCurly, Dot, Bar, Star}
use Rattle.grammar.specs.declared.Key.{Key}
use Rattle.grammar.specs.declared.Key.TheVariants.{True, False, Not, And, Or, Path, Cycle}
use Rattle.grammar.specs.Words.{Word, sign, key, name, skip, read, Text, ends, stops, word, scan}
use Rattle.grammar.specs.Limits.{is_part, can_be_letter, Bracket, square, curly, after_word, with_word}

-- a phrase that is still to come; one that ends in s is what may go on, as { or conj }
pub data Kind : Type 0 where
  state ors conj ands unary reg bars seq dots starred asts base : Kind

pub data Goal : Type 0 where
  expect : Sign → Goal
  phrase : Kind → Goal

abbrev pub sign_code : Sign → ℕ
sign_code Open = 0
sign_code Close = 1
sign_code OpenSquare = 2
sign_code CloseSquare = 3
sign_code OpenCurly = 4
sign_code CloseCurly = 5
sign_code Dot = 6
sign_code Bar = 7
sign_code Star = 8

abbrev pub is_sign : Sign → Word → Bool
is_sign s (sign t) = sign_code s == sign_code t
is_sign s (key k) = false
is_sign s (name w) = false

abbrev pub key_is_or : Key → Bool
key_is_or True = false
key_is_or False = false
key_is_or Not = false
key_is_or And = false
key_is_or Or = true
key_is_or (Path q) = false
key_is_or (Cycle c) = false

abbrev pub key_is_and : Key → Bool
key_is_and True = false
key_is_and False = false
key_is_and Not = false
key_is_and And = true
key_is_and Or = false
key_is_and (Path q) = false
key_is_and (Cycle c) = false

abbrev pub is_or : Word → Bool
is_or (sign s) = false
is_or (key k) = key_is_or k
is_or (name w) = false

abbrev pub is_and : Word → Bool
is_and (sign s) = false
is_and (key k) = key_is_and k
is_and (name w) = false

-- what is left of a unary, or of a base, after its first word
abbrev pub unary_sign : Sign → Option (List Goal)
unary_sign Open = Some (phrase state ∷ expect Close ∷ [])
unary_sign Close = None
unary_sign OpenSquare = None
unary_sign CloseSquare = None
unary_sign OpenCurly = None
unary_sign CloseCurly = None
unary_sign Dot = None
unary_sign Bar = None
unary_sign Star = None

abbrev pub unary_key : Key → Option (List Goal)
unary_key True = Some []
unary_key False = Some []
unary_key Not = Some (phrase unary ∷ [])
unary_key And = None
unary_key Or = None
unary_key (Path q) = Some (expect OpenSquare ∷ phrase reg ∷ expect CloseSquare ∷ phrase unary ∷ [])
unary_key (Cycle c) = Some (expect OpenSquare ∷ phrase reg ∷ expect CloseSquare ∷ [])

abbrev pub unary_at : Word → Option (List Goal)
unary_at (sign s) = unary_sign s
unary_at (key k) = unary_key k
unary_at (name w) = Some []

abbrev pub base_sign : Sign → Option (List Goal)
base_sign Open = Some (phrase reg ∷ expect Close ∷ [])
base_sign Close = None
base_sign OpenSquare = None
base_sign CloseSquare = None
base_sign OpenCurly = Some (phrase state ∷ expect CloseCurly ∷ [])
base_sign CloseCurly = None
base_sign Dot = None
base_sign Bar = None
base_sign Star = None

abbrev pub base_key : Key → Option (List Goal)
base_key True = Some []
base_key False = Some []
base_key Not = None
base_key And = None
base_key Or = None
base_key (Path q) = None
base_key (Cycle c) = None

abbrev pub base_at : Word → Option (List Goal)
base_at (sign s) = base_sign s
base_at (key k) = base_key k
base_at (name w) = Some []

abbrev pub then : Option (List Goal) → List Goal → Option (List Goal)
then (Some ρ) σ = Some (ρ ++ σ)
then None σ = None

-- what is left of the goals after the word
abbrev pub step : List Goal → Word → Option (List Goal)
step [] w = None
step (expect s ∷ σ) w = cond (is_sign s w) (Some σ) None
step (phrase state ∷ σ) w = then (unary_at w) (phrase ands ∷ phrase ors ∷ σ)
step (phrase ors ∷ σ) w = cond (is_or w) (Some (phrase conj ∷ phrase ors ∷ σ)) (step σ w)
step (phrase conj ∷ σ) w = then (unary_at w) (phrase ands ∷ σ)
step (phrase ands ∷ σ) w = cond (is_and w) (Some (phrase unary ∷ phrase ands ∷ σ)) (step σ w)
step (phrase unary ∷ σ) w = then (unary_at w) σ
step (phrase reg ∷ σ) w = then (base_at w) (phrase asts ∷ phrase dots ∷ phrase bars ∷ σ)
step (phrase bars ∷ σ) w = cond (is_sign Bar w) (Some (phrase seq ∷ phrase bars ∷ σ)) (step σ w)
step (phrase seq ∷ σ) w = then (base_at w) (phrase asts ∷ phrase dots ∷ σ)
step (phrase dots ∷ σ) w = cond (is_sign Dot w) (Some (phrase starred ∷ phrase dots ∷ σ)) (step σ w)
step (phrase starred ∷ σ) w = then (base_at w) (phrase asts ∷ σ)
step (phrase asts ∷ σ) w = cond (is_sign Star w) (Some (phrase asts ∷ σ)) (step σ w)
step (phrase base ∷ σ) w = then (base_at w) σ

-- whether the goals may stand for no word
abbrev pub may_end : List Goal → Bool
may_end [] = true
may_end (expect s ∷ σ) = false
may_end (phrase state ∷ σ) = false
may_end (phrase ors ∷ σ) = may_end σ
may_end (phrase conj ∷ σ) = false
may_end (phrase ands ∷ σ) = may_end σ
may_end (phrase unary ∷ σ) = false
may_end (phrase reg ∷ σ) = false
may_end (phrase bars ∷ σ) = may_end σ
may_end (phrase seq ∷ σ) = false
may_end (phrase dots ∷ σ) = may_end σ
may_end (phrase starred ∷ σ) = false
may_end (phrase asts ∷ σ) = may_end σ
may_end (phrase base ∷ σ) = false

-- where a reader stands: what is to come, how many parts there were, which brackets are open
pub record Standing : Type 0 where
  pub goals : List Goal
  pub seen : ℕ
  pub brackets : List Bracket

-- whether one letter more may stand in the expression that is open
abbrev pub letter_fits : (ℕ → Bool) → List Bracket → Bool
letter_fits small [] = true
letter_fits small (square n ∷ bs) = small n
letter_fits small (curly ∷ bs) = true

abbrev pub part_allowed : (ℕ → Bool) → ℕ → Word → Bool
part_allowed few n w = cond (is_part w) (few n) true

abbrev pub letter_allowed : (ℕ → Bool) → List Bracket → Word → Bool
letter_allowed small bs w = cond (can_be_letter w) (letter_fits small bs) true

-- the reader one word on, where few and small say how many parts and letters may stand before one more
abbrev pub moved : List Goal → Standing → Word → Standing
moved τ s w = record { goals = τ; seen = with_word w s.seen; brackets = after_word w s.brackets }

abbrev pub move_to : Bool → Bool → Option (List Goal) → Standing → Word → Option Standing
move_to true true (Some τ) s w = Some (moved τ s w)
move_to true true None s w = None
move_to true false o s w = None
move_to false b o s w = None

abbrev pub move : (ℕ → Bool) → (ℕ → Bool) → Standing → Word → Option Standing
move few small s w = move_to (part_allowed few s.seen w) (letter_allowed small s.brackets w) (step s.goals w) s w

abbrev pub few_parts : ℕ → Bool
few_parts n = nat_lt n 64

abbrev pub few_letters : ℕ → Bool
few_letters n = nat_lt n 31

abbrev pub reason_by : Bool → Option (List Goal) → Reason
reason_by b None = NotDerivable
reason_by true (Some τ) = TooManyLetters
reason_by false (Some τ) = TooManyParts

-- why the word cannot stand here, where it cannot
abbrev pub reason : Standing → Word → Reason
reason s w = reason_by (part_allowed few_parts s.seen w) (step s.goals w)

-- the first fault from here on, unknown names apart
abbrev pub judge : Standing → Text → Option Fault
judge s (ends p) = cond (may_end s.goals) None (Some (at NotDerivable p))
judge s (stops p) = Some (at StrayByte p)
judge s (word p w t) = elim (move few_parts few_letters s w) [ Some u ↦ judge u t | None ↦ Some (at (reason s w) p) ]

-- the start: a state formula is to come
abbrev pub start : Standing
start = record { goals = phrase state ∷ []; seen = 0; brackets = [] }

abbrev pub standing : List Goal → ℕ → List Bracket → Standing
standing σ n κ = record { goals = σ; seen = n; brackets = κ }

-- the first fault in the last bytes l of a text of total bytes
abbrev pub judge_from : ℕ → List ℕ → List Goal → ℕ → List Bracket → Option Fault
judge_from total l σ n κ = judge (standing σ n κ) (scan total l)

-- the innermost bracket is no [, so that no letter is counted
abbrev pub Apart : List Bracket → Type 0
Apart [] = Unit {0}
Apart (square n ∷ κ) = ⊥
Apart (curly ∷ κ) = Unit {0}

-- the place of the first name that is not known
abbrev pub first_unknown : (List ℕ → Bool) → Text → Option ℕ
first_unknown known (ends p) = None
first_unknown known (stops p) = None
first_unknown known (word p (sign s) t) = first_unknown known t
first_unknown known (word p (key k) t) = first_unknown known t
first_unknown known (word p (name w) t) = cond (known w) (first_unknown known t) (Some p)

-- whether an unknown name at p comes before the fault
abbrev pub name_first : ℕ → Fault → Bool
name_first p f = nat_lt p f.place || (p == f.place && nat_lt 10 (number_of f.reason))

-- the first of a fault and an unknown name
abbrev pub first_of : Option Fault → Option ℕ → Option Fault
first_of None None = None
first_of None (Some p) = Some (at UnknownName p)
first_of (Some f) None = Some f
first_of (Some f) (Some p) = cond (name_first p f) (Some (at UnknownName p)) (Some f)

-- the words from the bytes l up to the bytes m
pub data Between : List ℕ → List Word → List ℕ → Type 0 where
  none : {l : List ℕ} → Between l [] l
  more : {l m rest : List ℕ} {w : Word} {ws : List Word} → read (skip l) ≡ Some (w, rest) → Between rest ws m → Between l (w ∷ ws) m

-- m is what is left of l behind its first bytes
abbrev pub Suffix : List ℕ → List ℕ → Type 0
Suffix m l = (k : ℕ) × (k ≤ length l) × (m ≡ drop k l)
