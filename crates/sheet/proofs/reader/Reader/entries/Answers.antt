use Rattle.std.proofs.Common.{◌*◌, ◌/◌, [], drop, length, get_or, take, ap, ◌∙◌, arith}
use Rattle.std.proofs.lemmas.List.{drop-drop, length-take-le}
use Rattle.sheet.proofs.Chunks.{entry_at}
use Rattle.sheet.proofs.reader.Reader.entries.Goals as goal

pub returns-clause-entries : goal.returns-clause-entries
returns-clause-entries g c i h =
    let rest = c.rest.result.now in
    let n = g.row.N in
    ap (λ xs. get_or (take c.min.result xs) i []) c.as_chunks.ensures.front
    ∙ entry_at n (length rest / n) c.min.result i rest (omega (arith, length-take-le c.min.result c.as_chunks.result.0.now (omega (arith, c.min.ensures)))) (omega (arith, c.min.ensures, c.as_chunks.ensures.front_len))
    ∙ ap (λ xs. take n (drop (n * i) xs)) c.rest.ensures ∙ ap (take n) (drop-drop (n * i) c.args.self.now.place c.args.self.now.bytes.now)
