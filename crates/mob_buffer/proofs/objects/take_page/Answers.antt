use Rattle.std.proofs.Common.{◌≡◌, ℕ, ◌+◌, ◌∙◌, ap, sym, subst, arith}
use Rattle.std.specs.Map.{remove_entry}
use Rattle.lru.specs.LruCache.{LruCache, lru_cache}
use Rattle.thor_value.specs.declared.names.Oref.{Oref}
use Rattle.thor_value.specs.declared.values.Obj.{Obj}
use Rattle.mob_buffer.specs.Buffer.{AreOf, Objects, bytes_of, same_name}
use Rattle.mob_buffer.specs.Kept.{size_at}
use Rattle.mob_buffer.proofs.Pages.{all_slots, bytes_left, named, no_slots, of_slots, slot_taken, without_slots}
use Rattle.mob_buffer.proofs.objects.take_page.Goals as goal

pub loop-slot-init : goal.loop-slot-init
loop-slot-init c =
    let same = no_slots c.args.objects.now.entries c.args.page in
    (ap (λ (r : Objects). lru_cache r c.args.objects.now.cap) (sym same), omega (arith, ap bytes_of same))

pub take_object-bytes-requires : goal.take_object-bytes-requires
take_object-bytes-requires c =
    (c.args.repo, subst (AreOf c.args.repo) (sym (ap (λ (o : LruCache Oref Obj). o.entries) c.loop-slot.invariant.0)) (of_slots c.args.repo c.args.page c.loop-slot.slot c.args.objects.now.entries c.requires.one_repo))

pub overflow_add-bytes : goal.overflow_add-bytes
overflow_add-bytes c =
    let left = bytes_left (without_slots c.args.objects.now.entries c.args.page c.loop-slot.slot) (named c.args.repo c.args.page c.loop-slot.slot) in
    let taken = c.take_object-bytes.ensures.bytes ∙ ap (λ (o : LruCache Oref Obj). size_at o.entries (named c.args.repo c.args.page c.loop-slot.slot)) c.loop-slot.invariant.0 in
    omega (arith, left, taken, c.loop-slot.invariant.1, c.requires.few)

pub loop-slot-preserved : goal.loop-slot-preserved
loop-slot-preserved c =
    let held = ap (λ (o : LruCache Oref Obj). o.entries) c.loop-slot.invariant.0 in
    let left = bytes_left (without_slots c.args.objects.now.entries c.args.page c.loop-slot.slot) (named c.args.repo c.args.page c.loop-slot.slot) in
    let taken = c.take_object-bytes.ensures.bytes ∙ ap (λ (r : Objects). size_at r (named c.args.repo c.args.page c.loop-slot.slot)) held in
    let next = slot_taken c.args.repo c.args.page c.loop-slot.slot c.args.objects.now.entries c.requires.one_repo c.len.ensures.valid.0 in (
      c.take_object-bytes.ensures.objects
          ∙ ap (λ (o : LruCache Oref Obj). lru_cache (remove_entry (same_name (named c.args.repo c.args.page c.loop-slot.slot)) o.entries) o.cap) c.loop-slot.invariant.0
          ∙ ap (λ (r : Objects). lru_cache r c.args.objects.now.cap) next,
      omega (arith, left, taken, ap bytes_of next, c.loop-slot.invariant.1),
    )

pub returns-clause-objects : goal.returns-clause-objects
returns-clause-objects c =
    let end : c.loop-slot.slot ≡ 12 = omega (arith, c.loop-slot-test.false, c.loop-slot.auto) in
    c.loop-slot.invariant.0
    ∙ ap (λ (n : ℕ). lru_cache (without_slots c.args.objects.now.entries c.args.page n) c.args.objects.now.cap) end
    ∙ ap (λ (r : Objects). lru_cache r c.args.objects.now.cap) (all_slots c.args.repo c.args.page c.args.objects.now.entries c.requires.one_repo)

pub returns-clause-bytes : goal.returns-clause-bytes
returns-clause-bytes c =
    let end : c.loop-slot.slot ≡ 12 = omega (arith, c.loop-slot-test.false, c.loop-slot.auto) in
    ap (λ (r : Objects). c.loop-slot.bytes + bytes_of r) (sym (all_slots c.args.repo c.args.page c.args.objects.now.entries c.requires.one_repo))
    ∙ ap (λ (n : ℕ). c.loop-slot.bytes + bytes_of (without_slots c.args.objects.now.entries c.args.page n)) (sym end)
    ∙ c.loop-slot.invariant.1
