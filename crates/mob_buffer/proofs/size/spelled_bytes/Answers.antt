use Rattle.std.proofs.Common.{◌<◌, ◌∙◌, List, length, get_or, ap, subst}
use Rattle.thor_value.specs.declared.names.Oref.{Oref}
use Rattle.thor_value.specs.declared.values.Obj.{Obj}
use Rattle.mob_buffer.proofs.Sizes.{told_next}
use Rattle.mob_buffer.proofs.Writes.{stands_at}
use Rattle.mob_buffer.proofs.size.spelled_bytes.Goals as goal

pub spelled_size-requires : goal.spelled_size-requires
spelled_size-requires c =
    let within : c.loop-write.write-index < length c.args.writes.now = subst (λ (l : List (Oref × Obj)). c.loop-write.write-index < length l) c.as_slice-write-items.ensures c.loop-write-test.true in
    (stands_at c.args.writes.now c.loop-write.write-index c.write-item.result c.requires within (c.write-item.is ∙ ap (λ (l : List (Oref × Obj)). get_or l c.loop-write.write-index c.write-item.result) c.as_slice-write-items.ensures)).1

pub loop-write-preserved : goal.loop-write-preserved
loop-write-preserved c =
    let within : c.loop-write.write-index < length c.args.writes.now = subst (λ (l : List (Oref × Obj)). c.loop-write.write-index < length l) c.as_slice-write-items.ensures c.loop-write-test.true in
    told_next c.args.writes.now c.loop-write.write-index c.write-item.result c.loop-write.size c.from.result c.saturating_add-size.result within (c.write-item.is ∙ ap (λ (l : List (Oref × Obj)). get_or l c.loop-write.write-index c.write-item.result) c.as_slice-write-items.ensures) c.loop-write.invariant (c.from.ensures ∙ c.spelled_size.ensures.value) c.saturating_add-size.ensures
