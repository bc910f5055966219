use Rattle.top_judging.proofs.auditing.audited_of.Goals as goal

pub opened_store-requires : goal.opened_store-requires
opened_store-requires c = c.requires.few 0
