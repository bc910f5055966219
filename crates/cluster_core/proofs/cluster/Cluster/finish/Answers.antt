use Rattle.cluster_core.proofs.Ending.{ran_left, ran_right, ran_told}
use Rattle.cluster_core.proofs.cluster.Cluster.finish.Goals as goal

pub returns-clause-right : goal.returns-clause-right
returns-clause-right g c = ran_right g.O.Opening.run c.close_all-parts.result.1 c.gathered.result c.gathered.ensures.traces c.close_all-parts.ensures.right

pub returns-clause-told : goal.returns-clause-told
returns-clause-told g c = ran_told _ c.close_all-parts.result.1 c.gathered.result c.gathered.ensures.traces c.close_all-parts.ensures.told

pub returns-clause-left : goal.returns-clause-left
returns-clause-left g c = ran_left g.P.Parts.disks g.O.Opening.run c.close_all-parts.result.0.items c.close_all-parts.result.1 c.gathered.result c.gathered.ensures.traces c.close_all-parts.ensures.left
