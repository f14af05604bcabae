-- What the parts of a rule stand for.
use Rattle.std.specs.Prelude.{◌≡◌, ℕ, ◌+◌, ◌<◌, List, length, take, drop, slice_index, slice_index_or}
use Rattle.logic.specs.Formulas.{Formula, name, top, bottom, neg, both, either, path, cycle, Regular, letter, seq, alt, star, size}
use Rattle.automaton.specs.declared.Automaton.{Automaton}
use Rattle.automaton.specs.Automata.{AutomatonOf}
use Rattle.automaton.specs.Built.{labels_of}
use Rattle.rule.specs.declared.part.Part.{Part}
use Rattle.rule.specs.declared.part.Part.TheVariants.{Name, True, False, Not, And, Or, Path, Cycle}

-- part k is p
abbrev pub Is : List Part → ℕ → Part → Type 0
Is ps k p = (k < length ps) × (slice_index_or ps k True ≡ p)

abbrev mutual
  -- part k stands for the formula, where t is the text; it names smaller parts only
  pub Stands : List ℕ → List Part → ℕ → Formula → Type 0
  Stands t ps k (name w) = (i : ℕ) × (n : ℕ) × Is ps k (Name i n) × (take n (drop i t) ≡ w)
  Stands t ps k top = Is ps k True
  Stands t ps k bottom = Is ps k False
  Stands t ps k (neg f) = (i : ℕ) × Is ps k (Not i) × (i < k) × Stands t ps i f
  Stands t ps k (both f g) = (i : ℕ) × (j : ℕ) × Is ps k (And i j) × (i < k) × (j < k) × Stands t ps i f × Stands t ps j g
  Stands t ps k (either f g) = (i : ℕ) × (j : ℕ) × Is ps k (Or i j) × (i < k) × (j < k) × Stands t ps i f × Stands t ps j g
  Stands t ps k (path q r f) = (a : Automaton) × (i : ℕ) × Is ps k (Path q a i) × (i < k) × Stands t ps i f × AutomatonOf r a × LettersStand t ps k (labels_of a.letters) 0 r
  Stands t ps k (cycle c r) = (a : Automaton) × Is ps k (Cycle c a) × AutomatonOf r a × LettersStand t ps k (labels_of a.letters) 0 r

  -- each letter of r, numbered from o on, stands for a part below k, and that part for the letter's formula
  pub LettersStand : List ℕ → List Part → ℕ → List ℕ → ℕ → Regular → Type 0
  LettersStand t ps k ls o (letter f) = (slice_index ls o < k) × Stands t ps (slice_index ls o) f
  LettersStand t ps k ls o (seq r q) = LettersStand t ps k ls o r × LettersStand t ps k ls (o + size r) q
  LettersStand t ps k ls o (alt r q) = LettersStand t ps k ls o r × LettersStand t ps k ls (o + size r) q
  LettersStand t ps k ls o (star r) = LettersStand t ps k ls o r
