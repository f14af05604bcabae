-- What a draft of a rule holds, and how it grows.
use Rattle.std.specs.Prelude.{◌≡◌, ℕ, ◌+◌, ◌-◌, List, [], ◌∷◌, ◌++◌, length, Some}
use Rattle.grammar.specs.Words.{Word, skip, read}
use Rattle.rule.specs.declared.part.Part.{Part}
use Rattle.rule.specs.declared.store.Draft.{Draft}

abbrev pub held : Draft → List Part
held d = d.parts.items

abbrev pub count_of : Draft → ℕ
count_of d = length (held d)

-- where the next word starts, or the text stops
abbrev pub place_of : Draft → ℕ
place_of d = length d.text.now - length (skip d.rest.now)

-- the word at l is w, and m is behind it
abbrev pub Next : List ℕ → Word → List ℕ → Type 0
Next l w m = read (skip l) ≡ Some (w, m)

-- e is behind the word w, and has seen n part words more
pub record Passed (w : Word) (n : ℕ) (d e : Draft) : Type 0 where
  pub next : Next d.rest.now w e.rest.now
  pub seen : e.seen ≡ d.seen + n
  pub text : e.text.now ≡ d.text.now
  pub parts : held e ≡ held d

-- one part word more was seen
pub record Counted (d e : Draft) : Type 0 where
  pub seen : e.seen ≡ d.seen + 1
  pub text : e.text.now ≡ d.text.now
  pub rest : e.rest.now ≡ d.rest.now
  pub parts : held e ≡ held d

-- one part more stands behind the others
pub record Pushed (p : Part) (d e : Draft) : Type 0 where
  pub parts : held e ≡ held d ++ p ∷ []
  pub text : e.text.now ≡ d.text.now
  pub rest : e.rest.now ≡ d.rest.now
  pub seen : e.seen ≡ d.seen
