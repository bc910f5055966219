use Rattle.repo_core.proofs.Failing.{failed_between, fewer_between, stopped_memory}
use Rattle.repo_refusals.specs.declared.refusal.Refusal.TheVariants.{Stopped as IsStopped}
use Rattle.log_entries.specs.declared.entry.Entry.TheVariants.{Life, Prepared}
use Rattle.log_entries.specs.declared.entry.Entry.{Entry}
use Rattle.repo_sessions.specs.Sessions.{ended}
use Rattle.repo_core.proofs.Entered.{goes_down, on_err1}
use Rattle.repo_core.proofs.Moves.{told_then}
use Rattle.repo_core.specs.Refusing.{GoesDown}
use Rattle.repo_core.specs.Shown.{Shown, shown}
use Rattle.repo_durable.specs.Kept.{disks_of, is_up}
use Rattle.std.proofs.Common.{IsErrOf, OnOk, Some, ap, false, rules, subst, refl, sym, true, ◌∙◌, ◌≡◌}
use Rattle.std.specs.Prelude.{OnErr}
use Rattle.repo_volatile.specs.Volatile.{Memory, entered}
use Rattle.repo_core.proofs.Failing.{counts_between, err_shown}
use Rattle.repo_durable.proofs.Counting.{err_through, if_err_any, stays_then}
use Rattle.repo_durable.proofs.Returning.{on_ok_any}
use Rattle.repo_core.proofs.Readable.{shown_has}
use Rattle.repo_state.specs.Keeps.{Keeps}
use Rattle.repo_state.specs.declared.held.Held.{Held}
use Rattle.repo_core.proofs.Falls.{keeps_up}
use Rattle.repo_core.specs.Calls.{IsTold}
use Rattle.repo_core.specs.Telling.{Tells}
use Rattle.law_repo_memory.specs.Coming.{Moves}
use Rattle.repo_trace.specs.Recorded.{Recorded}
use Rattle.std.proofs.Common.{length, ℕ}
use Rattle.repo_durable.proofs.Failing.{fewer_none, fewer_then}
use Rattle.repo_core.proofs.Objects.{rested_objects, written_objects}
use Rattle.repo_core.proofs.Told.{on_ok}
use Rattle.repo_core.specs.Objects.{ObjectsTake}
use Rattle.repo_state.specs.Entering.{loaded}
use Rattle.std.proofs.Common.{[]}
use Rattle.repo_core.proofs.repo.Repo.write.Goals as goal

pub returns-clause-ended : goal.returns-clause-ended
returns-clause-ended g c = λ n is.
    let same : c.in_ok-entry.entry ≡ Life n = c.in_ok-entry.ensures.ok.0 ∙ is in
    let began : c.self.inside.memory ≡ c.args.self.now.memory = ap (λ (s : Shown). s.memory) c.self.view_is in
    let told : OnOk c.tell-told.result (c.tell-told.new.memory.sessions ≡ ended c.self.inside.memory.sessions) = c.tell-told.ensures.ended n same in
    subst (λ (m : Memory). OnOk c.record.result (c.tell-told.new.memory.sessions ≡ ended m.sessions)) began
    (told_then c.record.result c.tell-told.result (c.tell-told.new.memory.sessions ≡ ended c.self.inside.memory.sessions) c.record.ensures.told told)

pub returns-clause-memory : goal.returns-clause-memory
returns-clause-memory g c = λ q is.
    let same : c.in_ok-entry.entry ≡ Prepared q = c.in_ok-entry.ensures.ok.0 ∙ is in
    let began : c.self.inside.memory ≡ c.args.self.now.memory = ap (λ (s : Shown). s.memory) c.self.view_is in
    let told : OnOk c.tell-told.result (c.tell-told.new.memory ≡ entered c.self.inside.memory q false) = c.tell-told.ensures.prepared q same in
    subst (λ (m : Memory). OnOk c.record.result (c.tell-told.new.memory ≡ entered m q false)) began
    (told_then c.record.result c.tell-told.result (c.tell-told.new.memory ≡ entered c.self.inside.memory q false) c.record.ensures.told told)

pub returns-clause-left : goal.returns-clause-left
returns-clause-left g c =
    let i = c.self.inside in
    let s = c.append.new.self in
    let n = c.record.new.stable in
    let e = c.in_ok-entry.entry in
    let same : e ≡ c.args.entry = c.in_ok-entry.ensures.ok.0 in
    let x : Shown = shown g.P.Parts.disks i.stable i.memory i.trace i.opened_in in
    let y : Shown = shown g.P.Parts.disks n c.tell-told.new.memory c.record.new.trace i.opened_in in
    let up : is_up i.stable ≡ true = ap (λ (s : Shown). s.is_up) c.self.view_is ∙ c.requires.up in
    subst (λ (s : Shown). OnErr c.record.result (GoesDown s y (Some c.args.entry))) c.self.view_is
    (on_err1 c.record.result _ _ c.record.ensures.left
    (λ falls. subst (λ (d : Entry). GoesDown x y (Some d)) same (goes_down s n x y e up (sym c.append.ensures.held) refl refl refl falls c.tell-told.ensures.lasts)))

pub returns-in_err-entry-clause-stopped : goal.returns-in_err-entry-clause-stopped
returns-in_err-entry-clause-stopped g c = λ n is.
    let i = c.self.inside in
    let wrong : IsErrOf c.append.result (IsStopped n) = search rules in
    failed_between (disks_of g.P.Parts.disks i.stable) (disks_of g.P.Parts.disks c.append.new.self) c.args.self.now (shown g.P.Parts.disks c.append.new.self i.memory c.reserve.new.self i.opened_in)
    (ap (λ (s : Shown). s.faults) c.self.view_is) refl (c.append.ensures.stopped n wrong)

pub returns-clause-stopped : goal.returns-clause-stopped
returns-clause-stopped g c = λ n is. stopped_memory c.record.result n _ c.record.ensures.refusal is

pub returns-in_err-entry-clause-quiet : goal.returns-in_err-entry-clause-quiet
returns-in_err-entry-clause-quiet g c =
    let i = c.self.inside in
    err_shown c.from_residual.result (disks_of g.P.Parts.disks i.stable) (disks_of g.P.Parts.disks c.append.new.self) c.args.self.now (shown g.P.Parts.disks c.append.new.self i.memory c.reserve.new.self i.opened_in) (ap (λ (s : Shown). s.faults) c.self.view_is) refl (err_through c.append.result c.from_residual.result _ (λ r wrong. search rules) c.append.ensures.quiet)

pub returns-clause-steady : goal.returns-clause-steady
returns-clause-steady g c =
    let i = c.self.inside in
    on_ok_any c.record.result _ (counts_between (disks_of g.P.Parts.disks i.stable) (disks_of g.P.Parts.disks c.record.new.stable) c.args.self.now (shown g.P.Parts.disks c.record.new.stable c.tell-told.new.memory c.record.new.trace i.opened_in) (ap (λ (s : Shown). s.faults) c.self.view_is) refl (stays_then (disks_of g.P.Parts.disks i.stable) (disks_of g.P.Parts.disks c.append.new.self) (disks_of g.P.Parts.disks c.record.new.stable) c.in_ok-entry.ensures.steady c.record.ensures.faults))

pub returns-clause-quiet : goal.returns-clause-quiet
returns-clause-quiet g c =
    let i = c.self.inside in
    if_err_any c.record.result _ (counts_between (disks_of g.P.Parts.disks i.stable) (disks_of g.P.Parts.disks c.record.new.stable) c.args.self.now (shown g.P.Parts.disks c.record.new.stable c.tell-told.new.memory c.record.new.trace i.opened_in) (ap (λ (s : Shown). s.faults) c.self.view_is) refl (stays_then (disks_of g.P.Parts.disks i.stable) (disks_of g.P.Parts.disks c.append.new.self) (disks_of g.P.Parts.disks c.record.new.stable) c.in_ok-entry.ensures.steady c.record.ensures.faults))

pub returns-in_err-entry-clause-readable : goal.returns-in_err-entry-clause-readable
returns-in_err-entry-clause-readable g c = λ has.
    let i = c.self.inside in
    c.append.ensures.readable (shown_has g.P.Parts.disks i.stable i.memory i.trace i.opened_in c.args.self.now c.self.view_is has)

pub returns-clause-readable : goal.returns-clause-readable
returns-clause-readable g c = λ has.
    let i = c.self.inside in
    c.record.ensures.readable (c.append.ensures.readable (shown_has g.P.Parts.disks i.stable i.memory i.trace i.opened_in c.args.self.now c.self.view_is has))

pub tell-told-requires-clause-keeps : goal.tell-told-requires-clause-keeps
tell-told-requires-clause-keeps g c = subst Keeps (sym c.held.ensures) (keeps_up g.P.Parts.disks c.append.new.self c.append.ensures.kept c.in_ok-entry.ensures.ok.1.stays_up)

pub returns-clause-moves : goal.returns-clause-moves
returns-clause-moves g c =
    let i = c.self.inside in
    let e = c.in_ok-entry.entry in
    let m = c.tell-told.new.memory in
    subst (λ (s : Shown). IsTold s.memory c.args.entry → OnOk c.record.result (Moves s.held s.memory c.args.entry m)) c.self.view_is
    (subst (λ (d : Entry). IsTold i.memory d → OnOk c.record.result (Moves i.stable.held i.memory d m)) c.in_ok-entry.ensures.ok.0
    (λ is. subst (λ (h : Held). OnOk c.record.result (Moves h i.memory e m)) (c.held.ensures ∙ c.append.ensures.held)
    (told_then c.record.result c.tell-told.result (Moves c.held.result.now i.memory e m) c.record.ensures.told (c.tell-told.ensures.moves is))))

pub returns-clause-tells : goal.returns-clause-tells
returns-clause-tells g c =
    let i = c.self.inside in
    let e = c.in_ok-entry.entry in
    let m = c.tell-told.new.memory.sessions in
    let at : c.place.result ≡ length i.trace.history = c.place.ensures ∙ ap (λ (t : Recorded). length t.history) c.reserve.ensures in
    subst (λ (s : Shown). OnOk c.record.result (Tells s.held s.memory.sessions (length s.trace.history) c.args.entry m)) c.self.view_is
    (subst (λ (d : Entry). OnOk c.record.result (Tells i.stable.held i.memory.sessions (length i.trace.history) d m)) c.in_ok-entry.ensures.ok.0
    (subst (λ (n : ℕ). OnOk c.record.result (Tells i.stable.held i.memory.sessions n e m)) at
    (subst (λ (h : Held). OnOk c.record.result (Tells h i.memory.sessions c.place.result e m)) (c.held.ensures ∙ c.append.ensures.held)
    (told_then c.record.result c.tell-told.result (Tells c.held.result.now i.memory.sessions c.place.result e m) c.record.ensures.told c.tell-told.ensures.tells))))

pub returns-in_err-entry-clause-counts : goal.returns-in_err-entry-clause-counts
returns-in_err-entry-clause-counts g c =
    let i = c.self.inside in
    fewer_between (disks_of g.P.Parts.disks i.stable) (disks_of g.P.Parts.disks c.append.new.self) c.args.self.now (shown g.P.Parts.disks c.append.new.self i.memory c.reserve.new.self i.opened_in) (ap (λ (s : Shown). s.faults) c.self.view_is) refl c.append.ensures.goes.faults

pub returns-clause-counts : goal.returns-clause-counts
returns-clause-counts g c =
    let i = c.self.inside in
    let old = disks_of g.P.Parts.disks i.stable in
    let mid = disks_of g.P.Parts.disks c.append.new.self in
    let now = disks_of g.P.Parts.disks c.record.new.stable in
    fewer_between old now c.args.self.now (shown g.P.Parts.disks c.record.new.stable c.tell-told.new.memory c.record.new.trace i.opened_in) (ap (λ (s : Shown). s.faults) c.self.view_is) refl (fewer_then old.faults mid.faults now.faults c.append.ensures.goes.faults (fewer_none mid.faults now.faults c.record.ensures.faults))

pub returns-clause-objects : goal.returns-clause-objects
returns-clause-objects g c =
    let i = c.self.inside in
    let s = c.append.new.self in
    let n = c.record.new.stable in
    subst (λ (x : Shown). OnOk c.record.result (ObjectsTake (loaded x.held c.args.entry) x (shown g.P.Parts.disks n c.tell-told.new.memory c.record.new.trace i.opened_in))) c.self.view_is
    (on_ok c.record.result _ _
    (λ held. written_objects g.P.Parts.disks i.stable s n c.in_ok-entry.entry c.args.entry c.in_ok-entry.ensures.ok.0 c.append.ensures.readable c.in_ok-entry.ensures.ok.1.stays_up c.append.ensures.held c.append.ensures.pages c.record.ensures.pages held) c.record.ensures.held)

pub returns-clause-rested : goal.returns-clause-rested
returns-clause-rested g c =
    let i = c.self.inside in
    let s = c.append.new.self in
    let n = c.record.new.stable in
    subst (λ (x : Shown). OnErr c.record.result (ObjectsTake [] x (shown g.P.Parts.disks n c.tell-told.new.memory c.record.new.trace i.opened_in))) c.self.view_is
    (on_err1 c.record.result _ _ c.record.ensures.left
    (λ falls. rested_objects g.P.Parts.disks i.stable s n c.in_ok-entry.entry c.in_ok-entry.ensures.ok.1.stays_up c.append.ensures.held c.append.ensures.pages c.record.ensures.pages falls))
