use Rattle.mob_flusher.proofs.ImagesKept.{image_number, put_none, put_some}
use Rattle.mob_flusher.proofs.kept_images.KeptImages.put.Goals as goal

pub put_back-requires-clause-number : goal.put_back-requires-clause-number
put_back-requires-clause-number c = image_number c.args.self.now c.args.oref.page c.in-Some.image c.in-Some.ensures.taken

pub returns-in-Some : goal.returns-in-Some
returns-in-Some c = put_some c.args.oref c.args.object.now c.args.self.now c.take.new.self c.put_back.new.self c.in-Some.image c.in-Some.ensures.taken c.take.ensures.others c.put_back.ensures

pub returns-in-None : goal.returns-in-None
returns-in-None c = put_none c.args.oref c.args.object.now c.args.self.now c.take.new.self c.take.ensures.others
