use Rattle.std.proofs.Common.{List, [], ap, subst, sym, ◌∙◌}
use Rattle.std.specs.Prelude.{IsTrue}
use Rattle.commit_log.specs.Recovered.{is_whole}
use Rattle.log_codec.specs.Checkpoint.{StateFits}
use Rattle.log_codec.specs.declared.state.State.{State}
use Rattle.page_format.specs.declared.format.StoreFormat.TheVariants.{Two}
use Rattle.recovery.proofs.Migrated.{moved_fits, moved_whole, own_put}
use Rattle.thor_value.specs.declared.names.Oref.{Oref}
use Rattle.thor_value.specs.declared.values.Obj.{Obj}
use Rattle.recovery.proofs.migrating.with_objects.Goals as goal

pub returns-in-Ok-clause-moved : goal.returns-in-Ok-clause-moved
returns-in-Ok-clause-moved c = c.on_no_page.ensures ∙ ap (λ (ws : List (Oref × Obj)). record c.args.state { format = Two; installed = []; mob = ws }) c.in-Ok.ensures.merged

pub returns-in-Ok-clause-fits : goal.returns-in-Ok-clause-fits
returns-in-Ok-clause-fits c = subst StateFits (sym c.on_no_page.ensures) (moved_fits c.args.state c.in-Ok.objects c.requires.fits (own_put c.args.state.repo c.args.paged c.args.state.mob c.in-Ok.objects c.in-Ok.ensures.merged c.requires.paged c.requires.buffer) c.in-Ok.ensures.distinct)

pub returns-in-Ok-clause-whole : goal.returns-in-Ok-clause-whole
returns-in-Ok-clause-whole c = subst (λ (s : State). IsTrue (is_whole s)) (sym c.on_no_page.ensures) (moved_whole c.args.state c.in-Ok.objects (own_put c.args.state.repo c.args.paged c.args.state.mob c.in-Ok.objects c.in-Ok.ensures.merged c.requires.paged c.requires.buffer) c.requires.whole)
