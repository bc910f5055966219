use Rattle.std.proofs.Common.{arith, rules, ◌≡◌, ◌∙◌, ap, length, take, drop, ℕ}
use Rattle.std.proofs.lemmas.List.{take_all, drop_all, append-nil, length-take-le, length-drop}
use Rattle.page_format.specs.Formats.{page_size_in}
use Rattle.page_store.specs.Sides.{place_in, side_bytes_in}
use Rattle.page_store.proofs.device.read_bytes.Goals as goal

pub returns-clause-bytes : goal.returns-clause-bytes
returns-clause-bytes g c = λ disk told.
    let f = c.args.format in
    let size_of : ℕ = page_size_in f in
    let items = c.in_ok-bytes.bytes.items in
    let size : length items ≡ size_of = c.in_ok-bytes.ensures.len in
    let room : c.in_ok-bytes.bytes.len ≡ length items = search rules in
    let within = c.requires.within disk told in
    let long : length (side_bytes_in f disk c.args.page c.args.side) ≡ size_of = length-take-le size_of (drop (place_in f c.args.page c.args.side) disk) (omega (arith, within, length-drop (place_in f c.args.page c.args.side) disk)) in
    let read : c.read_at.new.into ≡ take (length c.deref_mut.result.now) (drop c.place_in.result disk) = c.in_ok-read_at.ensures.bytes disk told in
    let n : length c.deref_mut.result.now ≡ size_of = ap length c.deref_mut.ensures.value ∙ size in
    let whole : c.read_at.new.into ≡ side_bytes_in f disk c.args.page c.args.side = read ∙ ap (λ (k : ℕ). take k (drop c.place_in.result disk)) n ∙ ap (λ (k : ℕ). take size_of (drop k disk)) c.place_in.ensures.place in
    rw (whole, drop_all (length (side_bytes_in f disk c.args.page c.args.side)) items (omega (arith, size, long)), append-nil (side_bytes_in f disk c.args.page c.args.side)) (take_all c.in_ok-bytes.bytes.len (side_bytes_in f disk c.args.page c.args.side) (omega (arith, room, size, long)))
