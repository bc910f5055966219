use Rattle.std.proofs.Common.{arith, rules, ◌≡◌, ◌∙◌, ap, length, take}
use Rattle.std.proofs.lemmas.List.{take_all, drop_all, append-nil}
use Rattle.log_frame.proofs.log.read_disk.Goals as goal

pub returns-clause-all : goal.returns-clause-all
returns-clause-all g c = λ bytes told.
    let items = c.in_ok-bytes.bytes.items in
    let long : c.in_ok-len.len ≡ length bytes = c.in_ok-len.ensures.bytes bytes told in
    let size : length items ≡ length bytes = c.in_ok-bytes.ensures.len ∙ long in
    let room : c.in_ok-bytes.bytes.len ≡ length items = search rules in
    let read : c.read_at.new.into ≡ take (length c.deref_mut.result.now) bytes = c.in_ok-read_at.ensures.bytes bytes (c.len.ensures.content ∙ told) in
    let whole : c.read_at.new.into ≡ bytes = read ∙ take_all (length c.deref_mut.result.now) bytes (omega (arith, size, ap length c.deref_mut.ensures.value)) in
    rw (whole, drop_all (length bytes) items (omega (arith, size)), append-nil bytes) (take_all c.in_ok-bytes.bytes.len bytes (omega (arith, room, size)))
