-- The names that an iterator over names has left.
use Rattle.std.specs.Prelude.{ℕ, List}
use Rattle.sheet.specs.declared.names.Names.{Names}
use Rattle.sheet.specs.Fields.{words_in}

abbrev pub names_of : Names → List (List ℕ)
names_of s = words_in s.count s.bytes.now
