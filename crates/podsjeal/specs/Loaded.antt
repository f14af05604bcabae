-- What is read of a word of the command line.
use Rattle.std.specs.Prelude.{◌≡◌, ⊤}
use Rattle.ring.specs.Rings.{ring_model}
use Rattle.ring.specs.Meanings.{meaning_of}
use Rattle.podsjeal.specs.declared.request.Request.{Request}
use Rattle.podsjeal.specs.declared.request.Request.TheVariants.{Sheet, Ring}
use Rattle.podsjeal.specs.declared.source.Source.{Source}
use Rattle.podsjeal.specs.declared.source.Source.TheVariants.{Sheet as SheetRead, Ring as RingRead}

-- the ring that the numbers mean, or some file's bytes
abbrev pub LoadedFor : Request → Source → Type 0
LoadedFor (Ring n c a) (RingRead r) = meaning_of r ≡ ring_model n c a
LoadedFor (Sheet path) (SheetRead bytes) = ⊤
LoadedFor (Ring n c a) (SheetRead bytes) = ⊥
LoadedFor (Sheet path) (RingRead r) = ⊥
