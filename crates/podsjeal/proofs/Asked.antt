-- What the words of a command line ask for.
use Rattle.std.proofs.Common.{◌≡◌, ℕ, ◌≤◌, ◌<◌, List, [], ◌∷◌, ◌++◌, length, Bor, get_or, map, codes, String, Global, Ok, Err, Result, MatchResult, ap, sym, subst, ◌∙◌, arith}
use Rattle.std.specs.String.{string_bytes}
use Rattle.std.proofs.lemmas.List.{map-append, same_from_push}
use Rattle.podsjeal.specs.declared.command.Command.TheVariants.{Examine, Rules}
use Rattle.podsjeal.specs.declared.order.Order.{Order}
use Rattle.podsjeal.specs.declared.order.Order.TheVariants.{Help, On}
use Rattle.podsjeal.specs.declared.order.Subject.{Subject}
use Rattle.podsjeal.specs.Orders.{AreAbout, AreAboutNone, AreForRules, AreForNone, Asks, AskNothing}

abbrev texts : List (String Global) → List (List ℕ)
texts = map (λ (w : String Global). string_bytes w)

pub first_is : (words rest : List (String Global)) (first : String Global) (text : List ℕ) → words ≡ first ∷ rest → string_bytes first ≡ text → texts words ≡ text ∷ texts rest
first_is words rest first text e f = ap texts e ∙ ap {B = List (List ℕ)} (λ w. w ∷ texts rest) f

none_examine : (words rest : List (List ℕ)) (o : Order) → words ≡ codes "examine" ∷ rest → AreAboutNone rest → Asks words o → ⊥
none_examine words rest Help e h a = absurd (cc (sym a.1 ∙ e))
none_examine words rest (On Examine s) e h a = h s (subst (λ ts. AreAbout ts s) (cc (sym a.1 ∙ e)) a.2)
none_examine words rest (On (Rules f) s) e h a = absurd (cc (sym a.1 ∙ e))

none_rules : (words rest : List (List ℕ)) (o : Order) → words ≡ codes "rules" ∷ rest → AreForNone rest → Asks words o → ⊥
none_rules words rest Help e h a = absurd (cc (sym a.1 ∙ e))
none_rules words rest (On Examine s) e h a = absurd (cc (sym a.1 ∙ e))
none_rules words rest (On (Rules f) s) e h a = h f.now s (subst (λ ts. AreForRules ts f.now s) (cc (sym a.1 ∙ e)) a.2)

pub asks_examine : {E : Type 0} (words rest : List (String Global)) (r : Result Order E) → texts words ≡ codes "examine" ∷ texts rest → MatchResult r (λ order. (s : Subject) × (order ≡ On Examine s) × AreAbout (texts rest) s) (λ _. AreAboutNone (texts rest)) → MatchResult r (Asks (texts words)) (λ _. AskNothing (texts words))
asks_examine words rest (Ok o) e h = subst (Asks (texts words)) (sym h.1) (texts rest, e, h.2)
asks_examine words rest (Err x) e h = λ o. none_examine (texts words) (texts rest) o e h

pub asks_rules : {E : Type 0} (words rest : List (String Global)) (r : Result Order E) → texts words ≡ codes "rules" ∷ texts rest → MatchResult r (λ order. (f : Bor (List ℕ)) × (s : Subject) × (order ≡ On (Rules f) s) × AreForRules (texts rest) f.now s) (λ _. AreForNone (texts rest)) → MatchResult r (Asks (texts words)) (λ _. AskNothing (texts words))
asks_rules words rest (Ok o) e h = subst (Asks (texts words)) (sym h.2) (texts rest, e, h.3)
asks_rules words rest (Err x) e h = λ o. none_rules (texts words) (texts rest) o e h

pub for_rules : {E : Type 0} (words machine : List (String Global)) (file : String Global) (f : Bor (List ℕ)) (r : Result Order E) → words ≡ machine ++ file ∷ [] → f.now ≡ string_bytes file → MatchResult r (λ order. (s : Subject) × (order ≡ On (Rules f) s) × AreAbout (texts machine) s) (λ _. AreAboutNone (texts machine)) → MatchResult r (λ order. (f : Bor (List ℕ)) × (s : Subject) × (order ≡ On (Rules f) s) × AreForRules (texts words) f.now s) (λ _. AreForNone (texts words))
for_rules words machine file f (Ok o) e fe h =
    (f, h.0, h.1, (texts machine, ap texts e ∙ map-append (λ (w : String Global). string_bytes w) machine (file ∷ []) ∙ ap {B = List (List ℕ)} (λ t. texts machine ++ t ∷ []) (sym fe), h.2))
for_rules words machine file f (Err x) e fe h = λ g s a.
    let whole : texts words ≡ texts machine ++ string_bytes file ∷ [] = ap texts e ∙ map-append (λ (w : String Global). string_bytes w) machine (file ∷ []) in
    h s (subst (λ ts. AreAbout ts s) (same_from_push a.0 (texts machine) g (string_bytes file) (sym a.1 ∙ whole)).0 a.2)

pub one_is : (words : List (String Global)) (w : String Global) → 1 ≤ length words → length words < 2 → w ≡ get_or words 0 w → texts words ≡ string_bytes w ∷ []
one_is [] w l m e = absurd (omega arith)
one_is (x ∷ []) w l m e = ap {B = List (List ℕ)} (λ (y : String Global). string_bytes y ∷ []) (sym e)
one_is (x ∷ y ∷ ws) w l m e = absurd (omega arith)

pub three_is : (words : List (String Global)) (u v w : String Global) → 3 ≤ length words → length words < 4 → u ≡ get_or words 0 u → v ≡ get_or words 1 v → w ≡ get_or words 2 w → texts words ≡ string_bytes u ∷ string_bytes v ∷ string_bytes w ∷ []
three_is [] u v w l m d e f = absurd (omega arith)
three_is (x ∷ []) u v w l m d e f = absurd (omega arith)
three_is (x ∷ y ∷ []) u v w l m d e f = absurd (omega arith)
three_is (x ∷ y ∷ z ∷ []) u v w l m d e f = cc
three_is (x ∷ y ∷ z ∷ t ∷ ws) u v w l m d e f = absurd (omega arith)
