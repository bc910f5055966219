use Rattle.std.proofs.Common.{◌≡◌, ◌++◌, ◌+◌, ◌-◌, List, ℕ, ap, ◌∙◌, length, arith, replicate}
use Rattle.page_format.specs.Pages.{head}
use Rattle.page_format.proofs.splice.spelled.Goals as goal

pub returns : goal.returns
returns c =
    let one = c.in_ok-extend_from_slice.ensures in
    let two = c.in_ok-extend_from_slice-2.ensures in
    let top : c.extend_from_slice.new.self.items ≡ head c.args.number c.args.count = one.items ∙ ap (λ (t : List ℕ). t ++ c.head_bytes.result) c.in_ok-bytes.ensures.items ∙ c.head_bytes.ensures in
    let zeros : replicate (16384 - 8 - length c.args.entries.now) 0 ≡ replicate (16384 - (8 + length c.args.entries.now)) 0 = ap (λ (n : ℕ). replicate n 0) (omega arith) in
    c.in_ok-add_zeros.ensures ∙ ap (λ (t : List ℕ). t ++ replicate (16384 - 8 - length c.args.entries.now) 0) (two.items ∙ ap (λ (t : List ℕ). t ++ c.args.entries.now) top)
    ∙ ap (λ (t : List ℕ). (head c.args.number c.args.count ++ c.args.entries.now) ++ t) zeros
