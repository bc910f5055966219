use Rattle.std.proofs.Common.{refl, ◌∙◌}
use Rattle.store_opening.proofs.Joining.{in_loop}
use Rattle.store_opening.proofs.Numbering.{count_more, each_more, members_more, standing_all}
use Rattle.store_opening.specs.Joined.{IsKept}
use Rattle.store_opening.proofs.standing.standing_of.Goals as goal

pub loop-read-preserved : goal.loop-read-preserved
loop-read-preserved c =
    let store = c.args.store.now in
    let i = c.loop-read.read-index in
    let before = c.loop-read.standing.items in
    let inv = c.loop-read.invariant in (
      members_more store i before c.read-item.result _ c.push.new.self.items c.loop-read-test.true c.read-item.is c.in_ok-push.ensures.items inv.0 inv.1 (c.in_ok-repo.ensures ∙ (c.len.ensures ∙ c.loop-read.standing.ok.0)) refl,
      count_more before c.push.new.self.items _ i c.in_ok-push.ensures.items inv.1,
      each_more store before c.push.new.self.items _ c.in_ok-push.ensures.items inv.2
          (record {
            kept = in_loop IsKept store i c.read-item.result c.requires.each c.loop-read-test.true c.read-item.is;
            upgrades = c.in_ok-settled.ensures.upgrades;
            threshold = c.in_ok-settled.ensures.threshold;
          }),
    )

pub returns : goal.returns
returns c = standing_all c.args.store.now c.loop-read.read-index c.loop-read.standing.items c.loop-read-test.false c.loop-read.invariant.0 c.loop-read.invariant.2
