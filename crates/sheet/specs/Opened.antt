-- What opening a sheet answers.
use Rattle.std.specs.Prelude.{◌≡◌, ℕ, List, Some, None, Result, MatchResult}
use Rattle.fault.specs.declared.Fault.{Fault}
use Rattle.layout.specs.Judging.{sheet_fault}
use Rattle.sheet.specs.declared.opened.Sheet.{Sheet}

-- the sheet that the bytes are, unless they have a fault
abbrev pub Opens : List ℕ → Result Sheet Fault → Type 0
Opens bytes r = MatchResult r (λ s. (sheet_fault bytes ≡ None) × (s.bytes.now ≡ bytes)) (λ f. sheet_fault bytes ≡ Some f)
