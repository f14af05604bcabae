use Rattle.std.proofs.Common.{◌+◌, length, drop, sym, ap, ◌∙◌, add-one, arith, rules}
use Rattle.std.proofs.lemmas.List.{take_all, take_rest, drop_all}
use Rattle.report.proofs.Splits.{Ends, line_is, behind_is}
use Rattle.report.proofs.line.split_line.Goals as goal

pub returns-in-Some : goal.returns-in-Some
returns-in-Some c =
    let bytes = c.args.bytes.now in
    let end = c.in-Some.end in
    let ends : Ends bytes end = record { within = search rules; before = search rules; found = search rules } in
    record {
      line = line_is bytes end ends;
      behind = take_rest bytes (end + 1) ∙ ap (λ k. drop k bytes) (add-one end) ∙ behind_is bytes end ends;
      shorter = search rules;
    }

pub returns-in-None : goal.returns-in-None
returns-in-None c =
    let bytes = c.args.bytes.now in
    let end = length bytes in
    let ends : Ends bytes end = record { within = omega arith; before = search rules; found = λ h. absurd (omega arith) } in
    record {
      line = sym (take_all end bytes (omega arith)) ∙ line_is bytes end ends;
      behind = sym (drop_all (end + 1) bytes (omega arith)) ∙ ap (λ k. drop k bytes) (add-one end) ∙ behind_is bytes end ends;
      shorter = search rules;
    }
