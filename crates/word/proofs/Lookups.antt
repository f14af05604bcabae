-- Looking names up, a word at a time.
use Rattle.std.proofs.Common.{◌≡◌, ℕ, ◌-◌, ◌<◌, ◌≤◌, Bool, true, false, cond, List, [], ◌∷◌, length, Some, None, sym, refl, ap, ◌∙◌, arith, Bor}
use Rattle.grammar.specs.Words.{Word, name, skip, read, Text, word, no_word, scan, text_of}
use Rattle.grammar.specs.Judging.{first_unknown}
use Rattle.word.specs.declared.Token.{Token}
use Rattle.word.specs.declared.Token.TheVariants.{Sign, Key, Name}
use Rattle.word.specs.Tokens.{word_of}
use Rattle.grammar.proofs.Places.{skip_length}
use Rattle.grammar.proofs.Scanning.{read_shorter, scan_found, scan_none, scan_skip, skip_skip}

-- the names in front of the rest are known
pub record Looked (known : List ℕ → Bool) (l rest : List ℕ) : Type 0 where
  pub bare : skip rest ≡ rest
  pub short : length rest ≤ length l
  pub so_far : first_unknown known (text_of l) ≡ first_unknown known (scan (length l) rest)

module _ (known : List ℕ → Bool) (l : List ℕ) where
  pub looked_none : Looked known l (skip l)
  looked_none = record { bare = skip_skip l; short = skip_length l; so_far = ap (first_unknown known) (sym (scan_skip (length l) l)) }

  module _ (rest : List ℕ) (k : Looked known l rest) where
    found : (w : Word) (next : List ℕ) → read rest ≡ Some (w, next) → scan (length l) rest ≡ word (length l - length rest) w (scan (length l) next)
    found w next e =
        scan_found (length l) rest (w, next) (ap read k.bare ∙ e)
        ∙ ap (λ m. word (length l - length m) w (scan (length l) next)) k.bare

    pub looked_less : (w : Word) (next : List ℕ) → read rest ≡ Some (w, next) → length (skip next) < length rest
    looked_less w next e = omega (arith, skip_length next, read_shorter rest (w, next) (ap read k.bare ∙ e))

    past : (token : Token) → ((r : Bor (List ℕ)) → token ≡ Name r → known r.now ≡ true) → (t : Text) → first_unknown known (word (length l - length rest) (word_of token) t) ≡ first_unknown known t
    past (Sign s) h t = refl
    past (Key k) h t = refl
    past (Name r) h t = ap (λ b. cond b (first_unknown known t) (Some (length l - length rest))) (h r refl)

    -- past a word that is no unknown name
    pub looked_more : (token : Token) (next : List ℕ) → read rest ≡ Some (word_of token, next) → ((r : Bor (List ℕ)) → token ≡ Name r → known r.now ≡ true) → Looked known l (skip next)
    looked_more token next e named = record {
      bare = skip_skip next;
      short = omega (arith, k.short, looked_less (word_of token) next e);
      so_far = k.so_far ∙ ap (first_unknown known) (found (word_of token) next e) ∙ past token named (scan (length l) next) ∙ ap (first_unknown known) (sym (scan_skip (length l) next));
    }

    -- at an unknown name
    pub looked_found : (w next : List ℕ) → read rest ≡ Some (name w, next) → known w ≡ false → first_unknown known (text_of l) ≡ Some (length l - length rest)
    looked_found w next e u =
        k.so_far ∙ ap (first_unknown known) (found (name w) next e)
        ∙ ap (λ b. cond b (first_unknown known (scan (length l) next)) (Some (length l - length rest))) u

    over : (m : List ℕ) → first_unknown known (no_word (length l) m) ≡ None
    over [] = refl
    over (b ∷ bs) = refl

    -- where no word is left
    pub looked_all : read rest ≡ None → first_unknown known (text_of l) ≡ None
    looked_all e =
        k.so_far ∙ ap (first_unknown known) (scan_none (length l) rest (ap read k.bare ∙ e)) ∙ over (skip rest)
