use Rattle.std.proofs.Common.{rules, ◌≡◌, ℕ, List, [], ◌∷◌, codes, ap, sym, ◌∙◌}
use Rattle.std.specs.String.{string_bytes}
use Rattle.podsjeal.specs.declared.order.Order.{Order}
use Rattle.podsjeal.specs.declared.order.Order.TheVariants.{On}
use Rattle.podsjeal.specs.declared.order.Subject.TheVariants.{One, Pair}
use Rattle.podsjeal.proofs.Asked.{one_is, three_is}
use Rattle.podsjeal.proofs.order.on.Goals.{in-len1+in_ok-try_from-in-len1, in-len3+in_ok-try_from-in-len3+in_ok-try_from-in-len3-2}
use Rattle.podsjeal.proofs.order.on.Goals as goal

pub returns : goal.returns
returns c =
    let words = c.args.words.now in
    elim c.if-words-lt2.branch [
      | in-len1+in_ok-try_from-in-len1 w ↦
          let one = one_is words w.word-item.result w.in-len1.len_at_least w.in-len1.len_below w.word-item.is in
          let same = ap {B = List (List ℕ)} (λ t. t ∷ []) (sym w.as_str.ensures.value) in
          (One w.in_ok-try_from-in-len1.field-0, ap {B = Order} (On c.args.command) w.subject-is, (w.as_str.result.now, one ∙ same, w.in_ok-try_from-in-len1.ensures))
      | in-len3+in_ok-try_from-in-len3+in_ok-try_from-in-len3-2 w ↦
          let pair : w.as_str-then-words-lt4.result.now ≡ codes "pair" = search rules in
          let three = three_is words w.pair-item.result w.left-item.result w.right-item.result w.in-len3.len_at_least w.in-len3.len_below w.pair-item.is w.left-item.is w.right-item.is in
          let first = ap {B = List (List ℕ)} (λ t. t ∷ string_bytes w.left-item.result ∷ string_bytes w.right-item.result ∷ []) (sym w.as_str-then-words-lt4.ensures.value ∙ pair) in
          let second = ap {B = List (List ℕ)} (λ t. codes "pair" ∷ t ∷ string_bytes w.right-item.result ∷ []) (sym w.as_str-in-len3.ensures.value) in
          let third = ap {B = List (List ℕ)} (λ t. codes "pair" ∷ w.as_str-in-len3.result.now ∷ t ∷ []) (sym w.as_str-in-len3-2.ensures.value) in
          (Pair w.in_ok-try_from-in-len3.field-0 w.in_ok-try_from-in-len3-2.field-0, ap {B = Order} (On c.args.command) w.subject-is, (w.as_str-in-len3.result.now, w.as_str-in-len3-2.result.now, three ∙ first ∙ second ∙ third, w.in_ok-try_from-in-len3.ensures, w.in_ok-try_from-in-len3-2.ensures))
    ]
