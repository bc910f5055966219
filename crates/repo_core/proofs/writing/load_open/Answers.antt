use Rattle.log_entries.specs.declared.request.Request.{Request}
use Rattle.std.proofs.Common.{ap, refl, sym, ◌∙◌, ◌≡◌}
use Rattle.std.specs.Option.{option_copied}
use Rattle.std.specs.Prelude.{None, Some}
use Rattle.repo_core.proofs.Told.{walked}
use Rattle.law_repo_memory.proofs.Reopening.{reopens-begin, reopens-end}
use Rattle.thor_value.specs.Names.{ts_cmp}
use Rattle.two_phase.specs.Walks.{behind, first_open}
use Rattle.repo_core.proofs.writing.load_open.Goals as goal

pub returns-in_default-clause-reopens : goal.returns-in_default-clause-reopens
returns-in_default-clause-reopens c =
    let none : first_open (behind ts_cmp c.loop.after c.args.table.now.transactions.pairs) ≡ None = sym c.next_open.ensures ∙ ap option_copied c.in_default.is in
    reopens-end c.args.repo c.args.table.now c.args.memory.now c.args.repo c.requires.fits c.loop.memory c.loop.after c.loop.invariant.to none

pub loop-init : goal.loop-init
loop-init c = record { sessions = refl; requested = refl; to = reopens-begin c.args.repo c.args.table.now c.args.memory.now c.requires.empty.0 c.requires.empty.1 }

pub loop-preserved : goal.loop-preserved
loop-preserved c =
    let q : Request = c.in-Some.request.now in
    let found : first_open (behind ts_cmp c.loop.after c.args.table.now.transactions.pairs) ≡ Some q = sym c.next_open.ensures ∙ ap option_copied c.in-Some.is in
    record {
      sessions = c.load_other.ensures.sessions ∙ c.loop.invariant.sessions;
      requested = c.load_other.ensures.requested ∙ c.loop.invariant.requested;
      to = walked c.args.repo c.args.table.now c.args.memory.now c.loop.memory c.load_other.new.memory c.loop.after q c.requires.fits c.loop.invariant.to found c.load_other.ensures.own c.in_ok-load_other.ensures.other c.load_other.ensures.requested c.load_other.ensures.drawn;
    }
