use Rattle.std.proofs.Common.{◌≡◌, ℕ, sym, ◌∙◌, arith}
use Rattle.layout.proofs.Meanings.{faultless_encodes, encoding_faultless}
use Rattle.sheet.proofs.examination.examine.Goals as goal

pub returns-in_err-survey-clause-accepts : goal.returns-in_err-survey-clause-accepts
returns-in_err-survey-clause-accepts c d q e =
    let other = sym (encoding_faultless c.args.bytes.now d q e) ∙ c.in_err-survey.ensures in
    let z : ◌≡◌ {A = ℕ} 0 1 = cc in
    absurd (omega arith)

pub returns-clause-encodes : goal.returns-clause-encodes
returns-clause-encodes c _ = faultless_encodes c.args.bytes.now (λ i. omega (arith, c.type_inv.bytes i)) c.in_ok-survey.ensures.0
