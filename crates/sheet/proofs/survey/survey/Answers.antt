use Rattle.std.proofs.Common.{map, ap, ◌∙◌}
use Rattle.std.specs.List.{range_with_len}
use Rattle.std.proofs.lemmas.Result.{err_from_is_err_and}
use Rattle.layout.specs.Fields.{state_count, name_count, name_in, described}
use Rattle.layout.specs.Judging.{first_fault, header_fault, name_fault}
use Rattle.sheet.proofs.Surveys.{header_refused, names_refused, labels_refused, names_are, labels_said, tail_left, same_description}
use Rattle.fault.proofs.Refusals.{accepted, refused}
use Rattle.sheet.proofs.survey.survey.Goals as goal

pub returns-in_err-states : goal.returns-in_err-states
returns-in_err-states c =
    let b0 = c.new-reader.result.bytes.now in
    let f = refused (header_fault b0) (state_count b0, name_count b0) _ c.in_err-states.ensures.judged in
    let p = err_from_is_err_and c.from_residual.result c.from_residual.ensures.1 in
    rw (p.1, p.2) (header_refused c.args.bytes.now b0 c.new-reader.ensures.bytes _ f)

pub returns-in_err-names : goal.returns-in_err-names
returns-in_err-names c =
    let b0 = c.new-reader.result.bytes.now in
    let b1 = c.header.new.reader.bytes.now in
    let h = accepted (header_fault b0) (state_count b0, name_count b0) _ c.in_ok-states.ensures.judged in
    let f = refused (first_fault c.in_ok-states.count (name_fault b1)) tt _ c.in_err-names.ensures.judged in
    let p = err_from_is_err_and c.from_residual-in_err-names.result c.from_residual-in_err-names.ensures.1 in
    rw (p.1, p.2) (names_refused c.args.bytes.now b0 c.new-reader.ensures.bytes b1 c.in_ok-states.ensures.moved.bytes c.in_ok-states.states c.in_ok-states.count h _ f)

pub returns-in_err-labels : goal.returns-in_err-labels
returns-in_err-labels c =
    let b0 = c.new-reader.result.bytes.now in
    let b1 = c.header.new.reader.bytes.now in
    let h = accepted (header_fault b0) (state_count b0, name_count b0) _ c.in_ok-states.ensures.judged in
    let n = accepted (first_fault c.in_ok-states.count (name_fault b1)) tt _ c.in_ok-names.ensures.judged in
    let p = err_from_is_err_and c.from_residual-in_err-labels.result c.from_residual-in_err-labels.ensures.1 in
    rw (p.1, p.2) (labels_refused c.args.bytes.now b0 c.new-reader.ensures.bytes b1 c.in_ok-states.ensures.moved.bytes c.in_ok-states.states c.in_ok-states.count h c.names.new.reader.bytes.now c.in_ok-names.ensures.moved.bytes n.0 _ c.in_err-labels.ensures.judged)

pub returns-in_err-steps : goal.returns-in_err-steps
returns-in_err-steps c =
    let b0 = c.new-reader.result.bytes.now in
    let b1 = c.header.new.reader.bytes.now in
    let h = accepted (header_fault b0) (state_count b0, name_count b0) _ c.in_ok-states.ensures.judged in
    let n = accepted (first_fault c.in_ok-states.count (name_fault b1)) tt _ c.in_ok-names.ensures.judged in
    let left = tail_left c.args.bytes.now b0 c.new-reader.ensures.bytes b1 c.in_ok-states.ensures.moved.bytes c.in_ok-states.states c.in_ok-states.count h c.names.new.reader.bytes.now c.in_ok-names.ensures.moved.bytes n.0 c.labels.new.reader.bytes.now c.in_ok-labels.ensures.moved.bytes c.in_ok-labels.ensures.judged.0 in
    let p = err_from_is_err_and c.from_residual-in_err-steps.result c.from_residual-in_err-steps.ensures.1 in
    rw (p.1, p.2) (left ∙ c.in_err-steps.ensures)

pub returns : goal.returns
returns c =
    let bytes = c.args.bytes.now in
    let b0 = c.new-reader.result.bytes.now in
    let s0 = c.new-reader.ensures.bytes in
    let b1 = c.header.new.reader.bytes.now in
    let b2 = c.names.new.reader.bytes.now in
    let h = accepted (header_fault b0) (state_count b0, name_count b0) _ c.in_ok-states.ensures.judged in
    let n = accepted (first_fault c.in_ok-states.count (name_fault b1)) tt _ c.in_ok-names.ensures.judged in
    let left = tail_left bytes b0 s0 b1 c.in_ok-states.ensures.moved.bytes c.in_ok-states.states c.in_ok-states.count h b2 c.in_ok-names.ensures.moved.bytes n.0 c.labels.new.reader.bytes.now c.in_ok-labels.ensures.moved.bytes c.in_ok-labels.ensures.judged.0 in
    let count = names_are bytes b0 s0 b1 c.in_ok-states.ensures.moved.bytes c.in_ok-states.states c.in_ok-states.count h in
    let labels = labels_said bytes b0 s0 b1 c.in_ok-states.ensures.moved.bytes c.in_ok-states.states c.in_ok-states.count h b2 c.in_ok-names.ensures.moved.bytes n.0 _ c.in_ok-labels.ensures.judged.1 in
    let steps = c.in_ok-steps.ensures.1 ∙ ap (λ b. (described b).steps) (c.in_ok-labels.ensures.moved.bytes ∙ c.in_ok-names.ensures.moved.bytes ∙ c.in_ok-states.ensures.moved.bytes ∙ s0) in
    (left ∙ c.in_ok-steps.ensures.0, same_description _ (described bytes) (c.first-names.ensures ∙ ap (λ k. map (name_in bytes) (range_with_len 0 k)) count) labels steps)
