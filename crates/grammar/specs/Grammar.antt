-- The grammar of rules, with the tree that each phrase stands for.
use Rattle.std.specs.Prelude.{ℕ, List, [], ◌∷◌, ◌++◌}
use Rattle.logic.specs.declared.Quantifier.{Quantifier}
use Rattle.logic.specs.declared.Cycle.{Cycle as Cyclic}
use Rattle.logic.specs.Formulas.{Formula, name as named, top, bottom, neg, both, either, path, cycle, Regular, letter, seq, alt, star}
use Rattle.grammar.specs.declared.Sign.TheVariants.{Open, Close, OpenSquare, CloseSquare, OpenCurly, CloseCurly, Dot, Bar, Star}
use Rattle.grammar.specs.declared.Key.TheVariants.{True, False, Not, And, Or, Path, Cycle}
use Rattle.grammar.specs.Words.{Word, sign, key, name}

-- atom = name | true | false
pub data Atom : Formula → Word → Type 0 where
  atom_name : {w : List ℕ} → Atom (named w) (name w)
  atom_true : Atom top (key True)
  atom_false : Atom bottom (key False)

-- the kinds of phrases, each with its tree
pub data Phrase : Type 0 where
  State Conj Unary : Formula → Phrase
  Reg Seq Starred Base : Regular → Phrase

pub data Derives : Phrase → List Word → Type 0 where
  -- state = conj { or conj }
  state_is : {f : Formula} {us : List Word} → Derives (Conj f) us → Derives (State f) us
  state_or : {f g : Formula} {us vs : List Word} → Derives (State f) us → Derives (Conj g) vs → Derives (State (either f g)) (us ++ key Or ∷ vs)
  -- conj = unary { and unary }
  conj_is : {f : Formula} {us : List Word} → Derives (Unary f) us → Derives (Conj f) us
  conj_and : {f g : Formula} {us vs : List Word} → Derives (Conj f) us → Derives (Unary g) vs → Derives (Conj (both f g)) (us ++ key And ∷ vs)
  -- unary = not unary | quantifier [ reg ] unary | cycle [ reg ] | atom | ( state )
  unary_not : {f : Formula} {us : List Word} → Derives (Unary f) us → Derives (Unary (neg f)) (key Not ∷ us)
  unary_path : {q : Quantifier} {r : Regular} {f : Formula} {us vs : List Word} → Derives (Reg r) us → Derives (Unary f) vs → Derives (Unary (path q r f)) (key (Path q) ∷ sign OpenSquare ∷ us ++ sign CloseSquare ∷ vs)
  unary_cycle : {c : Cyclic} {r : Regular} {us : List Word} → Derives (Reg r) us → Derives (Unary (cycle c r)) (key (Cycle c) ∷ sign OpenSquare ∷ us ++ sign CloseSquare ∷ [])
  unary_atom : {f : Formula} {w : Word} → Atom f w → Derives (Unary f) (w ∷ [])
  unary_round : {f : Formula} {us : List Word} → Derives (State f) us → Derives (Unary f) (sign Open ∷ us ++ sign Close ∷ [])
  -- reg = seq { | seq }
  reg_is : {r : Regular} {us : List Word} → Derives (Seq r) us → Derives (Reg r) us
  reg_or : {r q : Regular} {us vs : List Word} → Derives (Reg r) us → Derives (Seq q) vs → Derives (Reg (alt r q)) (us ++ sign Bar ∷ vs)
  -- seq = star { . star }
  seq_is : {r : Regular} {us : List Word} → Derives (Starred r) us → Derives (Seq r) us
  seq_then : {r q : Regular} {us vs : List Word} → Derives (Seq r) us → Derives (Starred q) vs → Derives (Seq (seq r q)) (us ++ sign Dot ∷ vs)
  -- star = base { * }
  star_is : {r : Regular} {us : List Word} → Derives (Base r) us → Derives (Starred r) us
  star_more : {r : Regular} {us : List Word} → Derives (Starred r) us → Derives (Starred (star r)) (us ++ sign Star ∷ [])
  -- base = letter | ( reg ), letter = atom | { state }
  base_atom : {f : Formula} {w : Word} → Atom f w → Derives (Base (letter f)) (w ∷ [])
  base_curly : {f : Formula} {us : List Word} → Derives (State f) us → Derives (Base (letter f)) (sign OpenCurly ∷ us ++ sign CloseCurly ∷ [])
  base_round : {r : Regular} {us : List Word} → Derives (Reg r) us → Derives (Base r) (sign Open ∷ us ++ sign Close ∷ [])

-- the words are a rule
abbrev pub Derivable : List Word → Type 0
Derivable ws = (f : Formula) × Derives (State f) ws

-- some rule begins with these words
abbrev pub Begins : List Word → Type 0
Begins us = (vs : List Word) × Derivable (us ++ vs)
