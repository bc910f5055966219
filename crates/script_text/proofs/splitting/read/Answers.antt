use Rattle.std.proofs.Common.{◌≡◌, ◌∷◌, ◌+◌, ◌≤◌, fold, length, arith, rules, subst}
use Rattle.std.specs.Vec.Iter.{into_iter_items}
use Rattle.script_text.specs.declared.reader.Reader.TheVariants.{Start}
use Rattle.script_text.specs.Sections.{step, depth_of}
use Rattle.script_text.proofs.Depths.{step_depth}
use Rattle.script_text.proofs.splitting.read.Goals as goal

pub loop-token-preserved : goal.loop-token-preserved
loop-token-preserved c =
    let ahead : into_iter_items c.loop-token.token-iterator ≡ c.in-Some.token ∷ into_iter_items c.next.new.self = search rules in
    let next = c.in_ok-go_on.ensures in
    let depth = step_depth c.loop-token.reader c.in-Some.token in
    let before : depth_of c.loop-token.reader + length (c.in-Some.token ∷ into_iter_items c.next.new.self) ≤ length c.args.tokens =
    subst (λ items. depth_of c.loop-token.reader + length items ≤ length c.args.tokens) ahead c.loop-token.invariant.depth in
    record {
      read = rw (next) (subst (λ items. fold step c.loop-token.reader items ≡ fold step Start c.args.tokens) ahead c.loop-token.invariant.read);
      depth = rw (next) (omega (arith, depth, before));
    }
