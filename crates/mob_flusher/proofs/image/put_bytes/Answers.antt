use Rattle.mob_flusher.proofs.Fits.{put_fits, put_has}
use Rattle.mob_flusher.proofs.image.put_bytes.Goals as goal

pub returns-clause-never_full : goal.returns-clause-never_full
returns-clause-never_full c = λ full. put_fits c.args.image.now c.args.slot c.args.bytes.now c.requires.objects c.requires.slot c.requires.object (c.put.ensures.full full)

pub returns-clause-objects : goal.returns-clause-objects
returns-clause-objects c = put_has c.put.result c.args.image.now c.put.new.self c.args.slot c.args.bytes.now c.put.ensures.ok c.put.ensures.fits c.put.ensures.err c.requires.objects c.requires.slot c.requires.object
