-- What the words of a command line name.
use Rattle.std.proofs.Common.{◌≡◌, ℕ, ◌<◌, true, ◌&&◌, List, [], ◌∷◌, ◌++◌, length, get_or, codes, Bor, Some, None, Ok, Err, Option, Result, MatchOption, refl, ap, sym, subst, ◌∙◌, arith}
use Rattle.std.specs.Char.{is_ascii_digit}
use Rattle.std.specs.List.{list_all}
use Rattle.std.specs.Result.{result_ok}
use Rattle.std.specs.Str.{all_ascii_digits}
use Rattle.std.specs.Str.Parse.{digits_value, ParsesUnsigned}
use Rattle.std.proofs.lemmas.Str.Parse.{numerals_by_value, tells_all_ascii_digits, IsNumeralModel, parse_digits, not_in_digits}
use Rattle.std.proofs.lemmas.Str.Pattern.{IsSplitOnceResult, split_after}
use Rattle.podsjeal.specs.Requests.{IsDecimal, IsTriple, IsRing}

pub all_digits : (bs : List ℕ) → list_all is_ascii_digit bs ≡ all_ascii_digits bs
all_digits [] = refl
all_digits (b ∷ bs) = ap (λ r. is_ascii_digit b && r) (all_digits bs)

own : IsNumeralModel (λ ds. all_ascii_digits ds ≡ true) (digits_value 10)
own = numerals_by_value _ tells_all_ascii_digits

-- what `parse` gives for digits
pub decimal_parsed : {E : Type 0} (bs : List ℕ) (r : Result ℕ E) → ParsesUnsigned 64 10 bs r → all_ascii_digits bs ≡ true → MatchOption (result_ok r) ((n : ℕ) → IsDecimal bs n → ⊥) (IsDecimal bs)
decimal_parsed {E} bs (Ok x) h p =
    let e = parse_digits own {E = E} 64 bs (Ok x) h p in
    record { only = p; some = e.0.0; value = sym e.1; fits = omega (arith, e.0.1, e.1) }
decimal_parsed {E} bs (Err x) h p =
    let e = parse_digits own {E = E} 64 bs (Err x) h p in
    λ n d. e (d.some, omega (arith, d.value, d.fits))

-- no comma is a digit
no_comma : (bs : List ℕ) → all_ascii_digits bs ≡ true → (i : ℕ) → i < length bs → get_or bs i 0 ≡ 44 → ⊥
no_comma bs p = not_in_digits own bs 44 p (λ r. absurd (omega arith))

-- C,A
pub record IsDouble (word : List ℕ) (c a : ℕ) : Type 0 where
  pub second : List ℕ
  pub third : List ℕ
  pub split : word ≡ second ++ (44 ∷ third)
  pub turn : IsDecimal second c
  pub aim : IsDecimal third a

-- where the first comma of three numbers is found
pub triple_cut : (word : List ℕ) (r : Option (Bor (List ℕ) × Bor (List ℕ))) → IsSplitOnceResult 44 word r → (n c a : ℕ) → IsTriple word n c a → MatchOption r ⊥ (λ x. IsDecimal x.0.now n × IsDouble x.1.now c a)
triple_cut word None h n c a t = split_after 44 word t.first _ None h (omega arith) t.split (no_comma t.first t.sectors.only)
triple_cut word (Some x) h n c a t =
    let e = split_after 44 word t.first _ (Some x) h (omega arith) t.split (no_comma t.first t.sectors.only) in
    (subst (λ w. IsDecimal w n) (sym e.0) t.sectors, record { second = t.second; third = t.third; split = e.1; turn = t.turn; aim = t.aim })

-- and the second
pub double_cut : (word : List ℕ) (r : Option (Bor (List ℕ) × Bor (List ℕ))) → IsSplitOnceResult 44 word r → (c a : ℕ) → IsDouble word c a → MatchOption r ⊥ (λ x. IsDecimal x.0.now c × IsDecimal x.1.now a)
double_cut word None h c a t = split_after 44 word t.second t.third None h (omega arith) t.split (no_comma t.second t.turn.only)
double_cut word (Some x) h c a t =
    let e = split_after 44 word t.second t.third (Some x) h (omega arith) t.split (no_comma t.second t.turn.only) in
    (subst (λ w. IsDecimal w c) (sym e.0) t.turn, subst (λ w. IsDecimal w a) (sym e.1) t.aim)

-- what holds where there is no value
pub at_none : {X A : Type 0} (P : X → Type 0) (o : Option X) → o ≡ None → A → MatchOption o A P
at_none P None e a = a
at_none P (Some x) e a = absurd (cc e)

-- three numbers behind `ring:`
pub ring_behind : (word rest : List ℕ) (o : Option (ℕ × ℕ × ℕ)) → word ≡ codes "ring:" ++ rest → MatchOption o ((n c a : ℕ) → IsTriple rest n c a → ⊥) (λ t. IsTriple rest t.0 t.1 t.2) → MatchOption o ((n c a : ℕ) → IsRing word n c a → ⊥) (λ t. IsRing word t.0 t.1 t.2)
ring_behind word rest (Some t) e h = (rest, e, h)
ring_behind word rest None e h = λ n c a r.
    let same : r.0 ≡ rest = cc (sym r.1 ∙ e) in
    h n c a (subst (λ w. IsTriple w n c a) same r.2)
