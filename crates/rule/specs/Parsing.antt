-- What the parsers answer: a phrase with its tree, or the first fault.
use Rattle.std.specs.Prelude.{◌≡◌, ℕ, ◌+◌, ◌-◌, ◌<◌, ◌≤◌, Bool, true, false, List, [], ◌∷◌, ◌++◌, length, Some, None, Ok, Err, Option, Result, ◌≢◌, slice_index}
use Rattle.fault.specs.declared.Fault.{Fault}
use Rattle.fault.specs.declared.Reason.TheVariants.{TooManyParts}
use Rattle.fault.specs.Refusals.{at}
use Rattle.logic.specs.Formulas.{Formula, Regular, size, parts, letter_parts, Each, EachLetter}
use Rattle.automaton.specs.declared.Automaton.{Automaton}
use Rattle.automaton.specs.declared.Piece.{Piece}
use Rattle.automaton.specs.declared.store.Letters.{Letters}
use Rattle.automaton.specs.Automata.{AutomatonOf}
use Rattle.automaton.specs.Built.{Built, rows_of, labels_of}
use Rattle.grammar.specs.declared.Key.{Key}
use Rattle.grammar.specs.declared.Sign.{Sign}
use Rattle.grammar.specs.declared.Sign.TheVariants.{OpenSquare, CloseSquare}
use Rattle.grammar.specs.Words.{Word, sign, key, skip, words as words_of, Whole, text_of}
use Rattle.grammar.specs.Grammar.{Phrase, State, Reg, Derives}
use Rattle.grammar.specs.Limits.{Bracket, square}
use Rattle.grammar.specs.Faults.{Narrow}
use Rattle.grammar.specs.Judging.{Kind, unary, reg, base, Goal, expect, phrase, step, may_end, judge_from, Between, Apart}
use Rattle.rule.specs.declared.part.Part.{Part}
use Rattle.rule.specs.declared.store.Draft.{Draft}
use Rattle.rule.specs.declared.opening.Opening.{Opening}
use Rattle.rule.specs.Openings.{opening_of}
use Rattle.rule.specs.Drafts.{held, count_of, place_of, Next, Passed}
use Rattle.rule.specs.Trees.{Stands, LettersStand}

-- the first fault of what a draft has still to read, where these goals are to come and these brackets are open
abbrev pub judged : Draft → List Goal → List Bracket → Option Fault
judged d σ κ = judge_from (length d.text.now) d.rest.now σ d.seen κ

-- e goes on from d: the same text, and the same parts with more behind them
pub record Extends (d e : Draft) : Type 0 where
  pub text : e.text.now ≡ d.text.now
  pub more : (ps : List Part) × (held e ≡ held d ++ ps)

-- whatever may follow in the goals ρ, none of it does here
abbrev pub Over : List Goal → Draft → Type 0
Over ρ e = (σ : List Goal) (κ : List Bracket) → judged e (ρ ++ σ) κ ≡ judged e σ κ

-- from d to e a formula was read, whose parts e has behind those of d, the formula's own part last
pub record ReadFormula (P : Formula → Phrase) (ρ : List Goal) (d e : Draft) : Type 0 where
  pub formula : Formula
  pub words : List Word
  pub between : Between d.rest.now words e.rest.now
  pub derives : Derives (P formula) words
  pub count : count_of e ≡ count_of d + parts formula
  pub seen : e.seen ≡ d.seen + parts formula
  pub extends : Extends d e
  pub stands : Stands e.text.now (held e) (count_of e - 1) formula
  pub narrow : Each Narrow formula
  pub over : Over ρ e

-- the first fault of what is left, if such a phrase is to come, whatever is to follow
abbrev pub Fails : Kind → Draft → Fault → Type 0
Fails k d f = (σ : List Goal) (κ : List Bracket) → Apart κ → judged d (phrase k ∷ σ) κ ≡ Some f

-- from d to e an expression or a piece of one was read, whose letters b has behind those of a
pub record ReadRegular (P : Regular → Phrase) (ρ : List Goal) (d e : Draft) (a b : Letters) (piece : Piece) : Type 0 where
  pub regular : Regular
  pub words : List Word
  pub between : Between d.rest.now words e.rest.now
  pub derives : Derives (P regular) words
  pub count : count_of e ≡ count_of d + letter_parts regular
  pub seen : e.seen ≡ d.seen + letter_parts regular
  pub extends : Extends d e
  pub letters : b.count ≡ a.count + size regular
  pub rows : (k : ℕ) → k < a.count → slice_index (rows_of b) k ≡ slice_index (rows_of a) k
  pub labels : (k : ℕ) → k < a.count → slice_index (labels_of b) k ≡ slice_index (labels_of a) k
  pub built : Built regular a.count piece b
  pub stand : LettersStand e.text.now (held e) (count_of e) (labels_of b) a.count regular
  pub narrow : EachLetter Narrow regular
  pub over : Over ρ e

abbrev pub FailsRegular : Kind → Draft → Letters → Fault → Type 0
FailsRegular k d a f = (σ : List Goal) (κ : List Bracket) → judged d (phrase k ∷ σ) (square a.count ∷ κ) ≡ Some f

-- from d to e [ reg ] was read, and a is its automaton
pub record ReadBracketed (d e : Draft) (a : Automaton) : Type 0 where
  pub regular : Regular
  pub words : List Word
  pub between : Between d.rest.now (sign OpenSquare ∷ words ++ sign CloseSquare ∷ []) e.rest.now
  pub derives : Derives (Reg regular) words
  pub count : count_of e ≡ count_of d + letter_parts regular
  pub seen : e.seen ≡ d.seen + letter_parts regular
  pub extends : Extends d e
  pub short : size regular ≤ 31
  pub automaton : AutomatonOf regular a
  pub stand : LettersStand e.text.now (held e) (count_of e) (labels_of a.letters) 0 regular
  pub narrow : EachLetter Narrow regular

abbrev pub FailsBracketed : Draft → Fault → Type 0
FailsBracketed d f = (σ : List Goal) (κ : List Bracket) → judged d (expect OpenSquare ∷ phrase reg ∷ expect CloseSquare ∷ σ) κ ≡ Some f

-- the fault of a text whose next word cannot stand there, or that ends there too soon
abbrev pub Unexpected : Draft → Fault → Type 0
Unexpected d f = (g : List Goal) (κ : List Bracket) → (length (skip d.rest.now) ≡ 0 → may_end g ≡ false) → ((w : Word) (m : List ℕ) → Next d.rest.now w m → step g w ≡ None) → judged d g κ ≡ Some f

-- the first fault of what is left, if this sign is to come, whatever is to follow
abbrev pub Lacks : Sign → Draft → Fault → Type 0
Lacks s d f = (σ : List Goal) (κ : List Bracket) → judged d (expect s ∷ σ) κ ≡ Some f

-- the first fault of what is left, whether a formula or a letter is to come
abbrev pub OpensNothing : Draft → Fault → Type 0
OpensNothing d f = Fails unary d f × ((a : Letters) → FailsRegular base d a f)

-- the next word is another
abbrev pub Other : Word → Draft → Type 0
Other v d = (w : Word) (m : List ℕ) → Next d.rest.now w m → w ≢ v

-- the next word was the sign, or it is another, and nothing changes
abbrev pub Signed : Sign → Draft → Draft → Bool → Type 0
Signed s d e true = Passed (sign s) 0 d e
Signed s d e false = Other (sign s) d × (e ≡ d)

-- the next word was the joint, which is one part more; or it is another, and nothing changes
abbrev pub Joined : Key → Draft → Draft → Result Bool Fault → Type 0
Joined k d e (Ok true) = Passed (key k) 1 d e
Joined k d e (Ok false) = Other (key k) d × (e ≡ d)
Joined k d e (Err f) = (m : List ℕ) × Next d.rest.now (key k) m × (64 ≤ d.seen) × (f ≡ at TooManyParts (place_of d))

-- e is behind a word at this place that opens this
pub record Opens (d e : Draft) (o : Opening) (p : ℕ) : Type 0 where
  pub word : Word
  pub passed : Passed word 0 d e
  pub place : p ≡ place_of d
  pub opens : opening_of p word ≡ Some o

-- the bytes are a rule but for its names, and these are its parts
pub record ReadWhole (bytes : List ℕ) (ps : List Part) : Type 0 where
  pub formula : Formula
  pub whole_text : Whole (text_of bytes)
  pub derives : Derives (State formula) (words_of (text_of bytes))
  pub few : parts formula ≤ 64
  pub narrow : Each Narrow formula
  pub stands : Stands bytes ps (length ps - 1) formula
  pub count : length ps ≡ parts formula
