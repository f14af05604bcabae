use Rattle.std.proofs.Common.{◌+◌, sym, ap, refl, ◌∙◌, arith}
use Rattle.std.proofs.lemmas.Result.{err_from_is_err_and}
use Rattle.layout.specs.Fields.{name_at}
use Rattle.layout.specs.Judging.{first_fault, name_fault}
use Rattle.layout.proofs.Faults.{first_more, first_here}
use Rattle.fault.proofs.Refusals.{accepted, refused}
use Rattle.sheet.proofs.survey.names.Goals as goal

pub loop-i-init : goal.loop-i-init
unfolding name_at first_fault
loop-i-init c = (refl, omega (arith, c.requires.here, c.args.reader.now.within), c.requires.here, refl)

pub returns-in_err-name_entry-clause-judged : goal.returns-in_err-name_entry-clause-judged
returns-in_err-name_entry-clause-judged c =
    let bytes = c.args.reader.now.bytes.now in
    let i = c.loop-i.i in
    let p = err_from_is_err_and c.from_residual.result c.from_residual.ensures.1 in
    let f = refused (name_fault c.loop-i.reader.bytes.now i) tt _ c.in_err-name_entry.ensures.judged in
    rw (p.1, p.2, first_here c.args.count i (name_fault bytes) _ (omega arith) c.loop-i.invariant.3 (ap (λ b. name_fault b i) (sym c.loop-i.invariant.0) ∙ f))

pub loop-i-preserved : goal.loop-i-preserved
loop-i-preserved c =
    let bytes = c.args.reader.now.bytes.now in
    let i = c.loop-i.i in
    let same = c.loop-i.invariant.0 in
    let a = accepted (name_fault c.loop-i.reader.bytes.now i) tt _ c.in_ok-name_entry.ensures.judged in (
      c.in_ok-name_entry.ensures.moved.bytes ∙ same,
      c.loop-i.invariant.1,
      c.in_ok-name_entry.ensures.moved.place ∙ ap (λ b. name_at b (i + 1)) same,
      first_more i (name_fault bytes) c.loop-i.invariant.3 (ap (λ b. name_fault b i) (sym same) ∙ a.0),
    )
