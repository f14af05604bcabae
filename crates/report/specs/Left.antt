-- The lines that an iterator over lines has left.
use Rattle.std.specs.Prelude.{ℕ, List}
use Rattle.report.specs.Lines.{lines_of}
use Rattle.report.specs.declared.left.Lines.{Lines}

abbrev pub left_of : Lines → List (List ℕ)
left_of s = lines_of s.rest.now
