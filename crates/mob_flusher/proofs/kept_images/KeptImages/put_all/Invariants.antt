use Rattle.std.proofs.Common.{ℕ, take}
use Rattle.page_format.specs.Pages.{Contents}
use Rattle.mob_buffer.specs.Buffer.{AreOf, Objects, with_all}
use Rattle.mob_flusher.specs.KeptImages.{AreImages}
use Rattle.mob_flusher.proofs.kept_images.KeptImages.put_all.Given as goal

-- the objects of the writes so far stand in the images
abbrev pub invariant-loop-write : goal.invariant-loop-write
invariant-loop-write l = (objects : Objects) (repo : ℕ) (base : Contents) → AreOf repo l.fn.writes → AreImages l.fn.self objects repo base → AreImages l.self (with_all objects (take l.write-index l.fn.writes)) repo base
