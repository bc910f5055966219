use Rattle.std.proofs.Common.{sym}
use Rattle.client_cache.specs.Slots.{kept_in, written_in}
use Rattle.client_cache.proofs.Bare.{bare-kept, bare-written, told-left}
use Rattle.client_cache.proofs.held_pages.HeldPages.drop_bare.Goals as goal

pub returns-then-is_bare-clause-kept : goal.returns-then-is_bare-clause-kept
returns-then-is_bare-clause-kept c = rw (c.remove.ensures, ← c.self.view_is) (told-left kept_in c.args.page c.self.inside.pages.entries c.len-count.ensures.valid.0 (sym (rw (← c.self.view_is) at c.if-is_bare.ensures)) bare-kept)

pub returns-then-is_bare-clause-written : goal.returns-then-is_bare-clause-written
returns-then-is_bare-clause-written c = rw (c.remove.ensures, ← c.self.view_is) (told-left written_in c.args.page c.self.inside.pages.entries c.len-count.ensures.valid.0 (sym (rw (← c.self.view_is) at c.if-is_bare.ensures)) bare-written)
