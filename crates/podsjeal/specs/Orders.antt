-- What a command line asks for.
use Rattle.std.specs.Prelude.{◌≡◌, ℕ, List, [], ◌∷◌, ◌++◌, codes}
use Rattle.podsjeal.specs.declared.command.Command.TheVariants.{Examine, Rules}
use Rattle.podsjeal.specs.declared.order.Subject.{Subject}
use Rattle.podsjeal.specs.declared.order.Subject.TheVariants.{One, Pair}
use Rattle.podsjeal.specs.declared.order.Order.{Order}
use Rattle.podsjeal.specs.declared.order.Order.TheVariants.{Help, On}
use Rattle.podsjeal.specs.Requests.{Names}

-- one word, or `pair` and two
abbrev pub AreAbout : List (List ℕ) → Subject → Type 0
AreAbout words (One r) = (w : List ℕ) × (words ≡ w ∷ []) × Names w r
AreAbout words (Pair r s) = (v : List ℕ) × (w : List ℕ) × (words ≡ codes "pair" ∷ v ∷ w ∷ []) × Names v r × Names w s

-- the last word is the file of rules, and those before it are about a machine
abbrev pub AreForRules : List (List ℕ) → List ℕ → Subject → Type 0
AreForRules words file s = (rest : List (List ℕ)) × (words ≡ rest ++ file ∷ []) × AreAbout rest s

-- what follows --help is not read
abbrev pub Asks : List (List ℕ) → Order → Type 0
Asks words Help = (rest : List (List ℕ)) × (words ≡ codes "--help" ∷ rest)
Asks words (On Examine s) = (rest : List (List ℕ)) × (words ≡ codes "examine" ∷ rest) × AreAbout rest s
Asks words (On (Rules file) s) = (rest : List (List ℕ)) × (words ≡ codes "rules" ∷ rest) × AreForRules rest file.now s

abbrev pub AreAboutNone : List (List ℕ) → Type 0
AreAboutNone words = (s : Subject) → AreAbout words s → ⊥

abbrev pub AreForNone : List (List ℕ) → Type 0
AreForNone words = (file : List ℕ) (s : Subject) → AreForRules words file s → ⊥

abbrev pub AskNothing : List (List ℕ) → Type 0
AskNothing words = (o : Order) → Asks words o → ⊥
