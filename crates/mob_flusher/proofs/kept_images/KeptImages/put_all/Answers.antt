use Rattle.std.proofs.Common.{◌<◌, ◌≤◌, ◌∙◌, List, length, get_or, ap, subst}
use Rattle.std.proofs.lemmas.List.{take_all}
use Rattle.thor_value.specs.declared.names.Oref.{Oref}
use Rattle.thor_value.specs.declared.values.Obj.{Obj}
use Rattle.mob_buffer.specs.Buffer.{with_all}
use Rattle.mob_flusher.specs.KeptImages.{AreImages}
use Rattle.mob_flusher.proofs.ImagesKept.{images_next, is_of_at}
use Rattle.mob_flusher.proofs.kept_images.KeptImages.put_all.Goals as goal

pub put-requires-clause-slot : goal.put-requires-clause-slot
put-requires-clause-slot c =
    let within : c.loop-write.write-index < length c.args.writes.now = subst (λ (l : List (Oref × Obj)). c.loop-write.write-index < length l) c.as_slice-write-items.ensures c.loop-write-test.true in
    (is_of_at c.requires.0 c.args.writes.now c.loop-write.write-index c.write-item.result c.requires.1 within (c.write-item.is ∙ ap (λ (l : List (Oref × Obj)). get_or l c.loop-write.write-index c.write-item.result) c.as_slice-write-items.ensures)).name.slot

pub put-requires-clause-object : goal.put-requires-clause-object
put-requires-clause-object c =
    let within : c.loop-write.write-index < length c.args.writes.now = subst (λ (l : List (Oref × Obj)). c.loop-write.write-index < length l) c.as_slice-write-items.ensures c.loop-write-test.true in
    (is_of_at c.requires.0 c.args.writes.now c.loop-write.write-index c.write-item.result c.requires.1 within (c.write-item.is ∙ ap (λ (l : List (Oref × Obj)). get_or l c.loop-write.write-index c.write-item.result) c.as_slice-write-items.ensures)).object

pub loop-write-preserved : goal.loop-write-preserved
loop-write-preserved c = λ objects repo base all was.
    let within : c.loop-write.write-index < length c.args.writes.now = subst (λ (l : List (Oref × Obj)). c.loop-write.write-index < length l) c.as_slice-write-items.ensures c.loop-write-test.true in
    images_next objects repo base c.args.writes.now c.loop-write.write-index c.write-item.result c.loop-write.self c.put.new.self within (c.write-item.is ∙ ap (λ (l : List (Oref × Obj)). get_or l c.loop-write.write-index c.write-item.result) c.as_slice-write-items.ensures) all (c.loop-write.invariant objects repo base all was) c.put.ensures

pub returns : goal.returns
returns c = λ objects repo base all was.
    let past : length c.args.writes.now ≤ c.loop-write.write-index = subst (λ (l : List (Oref × Obj)). length l ≤ c.loop-write.write-index) c.as_slice-write-items.ensures c.loop-write-test.false in
    subst (λ (ws : List (Oref × Obj)). AreImages c.loop-write.self (with_all objects ws) repo base) (take_all c.loop-write.write-index c.args.writes.now past) (c.loop-write.invariant objects repo base all was)
