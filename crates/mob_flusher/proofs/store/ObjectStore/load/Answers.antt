use Rattle.mob_flusher.proofs.ImagesKept.{show_writes}
use Rattle.mob_flusher.proofs.Writes.{has_writes}
use Rattle.mob_flusher.proofs.store.ObjectStore.load.Goals as goal

pub put_all-requires : goal.put_all-requires
put_all-requires c = (c.requires.one_repo.0, c.requires.one_repo.2)

pub invariant_of-self : goal.invariant_of-self
invariant_of-self c = rw c.in_err-load_all.ensures.err c.self.invariant

pub invariant_of-self-2 : goal.invariant_of-self-2
invariant_of-self-2 c =
    let one = rw (← c.self.view_is) at c.requires.one_repo in
    show_writes (record { pages = c.self.inside.pages; mob = c.self.inside.mob }) c.args.writes.now c.self.inside.images c.put_all.new.self c.load_all.new.self one c.in_ok-load_all.ensures.ok c.put_all.ensures c.self.invariant

pub returns-clause-map : goal.returns-clause-map
returns-clause-map c = rw (← c.self.view_is) (has_writes (record { pages = c.self.inside.pages; mob = c.self.inside.mob }) c.args.writes.now c.load_all.new.self c.in_ok-load_all.ensures.ok)
