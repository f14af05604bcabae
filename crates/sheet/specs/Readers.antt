-- How a reader goes on.
use Rattle.std.specs.Prelude.{◌≡◌, ℕ}
use Rattle.sheet.specs.declared.reader.Reader.{Reader}

-- e reads on in the bytes of d, at this place
pub record ReadsOn (d e : Reader) (o : ℕ) : Type 0 where
  pub bytes : e.bytes.now ≡ d.bytes.now
  pub place : e.place ≡ o
