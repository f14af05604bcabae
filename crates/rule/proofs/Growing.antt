-- What parts stand for stays so while more parts come behind them.
use Rattle.std.proofs.Common.{◌≡◌, ℕ, ◌+◌, ◌<◌, ◌≤◌, List, [], ◌∷◌, ◌++◌, length, get_or, sym, ap, ◌∙◌, subst, append_assoc, arith, length-append, length-drop}
use lib.ListN.{get_or-append}
use Rattle.std.proofs.Math.Seq.{get_or-append_seam}
use Rattle.logic.specs.Formulas.{Formula, name, top, bottom, neg, both, either, path, cycle, Regular, letter, seq, alt, star, size, parts}
use Rattle.automaton.specs.Built.{labels_of}
use Rattle.grammar.specs.Words.{Word}
use Rattle.grammar.specs.Judging.{Between, more}
use Rattle.grammar.proofs.Scanning.{between_drops, between_one, between_shorter}
use Rattle.std.proofs.lemmas.List.{append-nil}
use Rattle.rule.specs.declared.part.Part.{Part}
use Rattle.rule.specs.declared.part.Part.TheVariants.{True}
use Rattle.rule.specs.declared.store.Draft.{Draft}
use Rattle.rule.specs.Trees.{Is, Stands, LettersStand}
use Rattle.rule.specs.Drafts.{held, count_of, Passed, Pushed}
use Rattle.rule.specs.Parsing.{Extends}

is_more : (ps qs : List Part) (k : ℕ) (p : Part) → Is ps k p → Is (ps ++ qs) k p
is_more ps qs k p x = (omega (arith, x.0, length-append ps qs), get_or-append ps qs True k x.0 ∙ x.1)

mutual
  pub stands_more : (t : List ℕ) (ps qs : List Part) (f : Formula) (k : ℕ) → Stands t ps k f → Stands t (ps ++ qs) k f
  stands_more t ps qs (name w) k x = (x.0, x.1, is_more ps qs k _ x.2, x.3)
  stands_more t ps qs top k x = is_more ps qs k _ x
  stands_more t ps qs bottom k x = is_more ps qs k _ x
  stands_more t ps qs (neg f) k x = (x.0, is_more ps qs k _ x.1, x.2, stands_more t ps qs f x.0 x.3)
  stands_more t ps qs (both f g) k x = (x.0, x.1, is_more ps qs k _ x.2, x.3, x.4, stands_more t ps qs f x.0 x.5, stands_more t ps qs g x.1 x.6)
  stands_more t ps qs (either f g) k x = (x.0, x.1, is_more ps qs k _ x.2, x.3, x.4, stands_more t ps qs f x.0 x.5, stands_more t ps qs g x.1 x.6)
  stands_more t ps qs (path q r f) k x = (x.0, x.1, is_more ps qs k _ x.2, x.3, stands_more t ps qs f x.1 x.4, x.5, letters_more t ps qs r k k (labels_of x.0.letters) 0 (omega arith) x.6)
  stands_more t ps qs (cycle c r) k x = (x.0, is_more ps qs k _ x.1, x.2, letters_more t ps qs r k k (labels_of x.0.letters) 0 (omega arith) x.3)

  pub letters_more : (t : List ℕ) (ps qs : List Part) (r : Regular) (k j : ℕ) (ls : List ℕ) (o : ℕ) → k ≤ j → LettersStand t ps k ls o r → LettersStand t (ps ++ qs) j ls o r
  letters_more t ps qs (letter f) k j ls o h x = (omega (arith, x.0), stands_more t ps qs f (get_or ls o 0) x.1)
  letters_more t ps qs (seq r q) k j ls o h x = (letters_more t ps qs r k j ls o h x.0, letters_more t ps qs q k j ls (o + size r) h x.1)
  letters_more t ps qs (alt r q) k j ls o h x = (letters_more t ps qs r k j ls o h x.0, letters_more t ps qs q k j ls (o + size r) h x.1)
  letters_more t ps qs (star r) k j ls o h x = letters_more t ps qs r k j ls o h x

-- the same letters under labels that are the same from o on
pub letters_named : (t : List ℕ) (ps : List Part) (r : Regular) (k : ℕ) (ls ms : List ℕ) (o : ℕ) → ((p : ℕ) → o ≤ p → p < o + size r → get_or ms p 0 ≡ get_or ls p 0) → LettersStand t ps k ls o r → LettersStand t ps k ms o r
letters_named t ps (letter f) k ls ms o same x =
    subst (λ i. (i < k) × Stands t ps i f) (sym (same o (omega arith) (omega arith))) x
letters_named t ps (seq r q) k ls ms o same x = (
  letters_named t ps r k ls ms o (λ p lo hi. same p lo (omega arith)) x.0,
  letters_named t ps q k ls ms (o + size r) (λ p lo hi. same p (omega arith) (omega arith)) x.1,
)
letters_named t ps (alt r q) k ls ms o same x = (
  letters_named t ps r k ls ms o (λ p lo hi. same p lo (omega arith)) x.0,
  letters_named t ps q k ls ms (o + size r) (λ p lo hi. same p (omega arith) (omega arith)) x.1,
)
letters_named t ps (star r) k ls ms o same x = letters_named t ps r k ls ms o same x

-- drafts
pub pushed_count : {p : Part} {d e : Draft} → Pushed p d e → count_of e ≡ count_of d + 1
pushed_count {p} {d} y = omega (arith, ap length y.parts, length-append (held d) (p ∷ []))

pub extends_then : {d e f : Draft} → Extends d e → Extends e f → Extends d f
extends_then {d} {e} {f} x y = record {
  text = y.text ∙ x.text;
  more = (x.more.0 ++ y.more.0, y.more.1 ∙ ap (λ ps. ps ++ y.more.0) x.more.1 ∙ append_assoc (held d) x.more.0 y.more.0);
}

pub extends_passed : {w : Word} {n : ℕ} {d e : Draft} → Passed w n d e → Extends d e
extends_passed {w} {n} {d} {e} p = record { text = p.text; more = ([], p.parts ∙ sym (append-nil (held d))) }

pub extends_pushed : {p : Part} {d e : Draft} → Pushed p d e → Extends d e
extends_pushed {p} x = record { text = x.text; more = (p ∷ [], x.parts) }

-- what stood in d stands in e
pub stands_on : {d e : Draft} → Extends d e → (f : Formula) (k : ℕ) → Stands d.text.now (held d) k f → Stands e.text.now (held e) k f
stands_on {d} {e} x f k s =
    subst (λ t. Stands t (held e) k f) (sym x.text)
    (subst (λ ps. Stands d.text.now ps k f) (sym x.more.1) (stands_more d.text.now (held d) x.more.0 f k s))

pub letters_on : {d e : Draft} → Extends d e → (r : Regular) (k j : ℕ) (ls : List ℕ) (o : ℕ) → k ≤ j → LettersStand d.text.now (held d) k ls o r → LettersStand e.text.now (held e) j ls o r
letters_on {d} {e} x r k j ls o h s =
    subst (λ t. LettersStand t (held e) j ls o r) (sym x.text)
    (subst (λ ps. LettersStand d.text.now ps j ls o r) (sym x.more.1) (letters_more d.text.now (held d) x.more.0 r k j ls o h s))

-- the part that was pushed
pub is_pushed : {p : Part} {d e : Draft} → Pushed p d e → Is (held e) (count_of d) p
is_pushed {p} {d} {e} x = (omega (arith, pushed_count x), ap (λ ps. get_or ps (count_of d) True) x.parts ∙ get_or-append_seam (held d) p [] True)

-- every formula has a part
pub some_part : (f : Formula) → 0 < parts f
some_part (name w) = omega arith
some_part top = omega arith
some_part bottom = omega arith
some_part (neg f) = omega arith
some_part (both f g) = omega arith
some_part (either f g) = omega arith
some_part (path q r f) = omega arith
some_part (cycle c r) = omega arith

-- what is left gets shorter
pub next_shorter : {w : Word} {n : ℕ} {d e : Draft} → Passed w n d e → length e.rest.now < length d.rest.now
next_shorter p = between_shorter (between_one p.next)

pub further_shorter : {w : Word} {n : ℕ} {d e : Draft} {l : List ℕ} {us : List Word} → Passed w n d e → Between e.rest.now us l → length l < length d.rest.now
further_shorter p b = between_shorter (more p.next b)

pub behind_shorter : {w : Word} {n : ℕ} {d e : Draft} {l : List ℕ} {us : List Word} → Between l us d.rest.now → Passed w n d e → length e.rest.now < length l
behind_shorter {l = l} b p =
    let s = between_drops b in omega (arith, ap length s.2 ∙ length-drop s.0 l, next_shorter p)
