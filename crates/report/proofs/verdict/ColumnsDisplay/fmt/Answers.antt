use Rattle.std.proofs.Common.{◌≡◌, ℕ, ◌<◌, List, [], ◌∷◌, get_or, sym, refl, ap, ◌∙◌, arith}
use lib.Utf8.{encode}
use Rattle.std.proofs.lemmas.List.{map_more}
use Rattle.std.proofs.lemmas.Str.Ascii.{encode_ascii}
use Rattle.std.proofs.Output.{has_written_append, has_written_of_eq}
use Rattle.report.specs.Verdicts.{column_of}
use Rattle.report.proofs.Columns.{column_small}
use Rattle.report.proofs.verdict.ColumnsDisplay.fmt.Goals as goal

pub loop-b-preserved : goal.loop-b-preserved
loop-b-preserved g c plain =
    let text = c.args.self.now.text.now in
    let i = c.loop-b.b-index in
    let shown = column_of (get_or text i 0) in
    let code : c.from.result ≡ shown = c.from.ensures ∙ c.column.ensures in
    let small : c.from.result < 128 = omega (arith, code, column_small (get_or text i 0)) in
    let one : encode c.from.result ≡ shown ∷ [] = encode_ascii c.from.result small ∙ ap {B = List ℕ} (λ x. x ∷ []) code in
    let so_far = c.loop-b.invariant plain in
    let next = has_written_of_eq _ _ _ _ _ one (c.in_ok-write_char.ensures.writes so_far.plain refl) in
    let more = sym (map_more column_of text i 0 c.loop-b-test.true) in
    has_written_of_eq _ _ _ _ _ more (has_written_append _ _ _ _ _ _ so_far next)
