-- What a running try has read, as far as it isn't sent (this project's).
use Rattle.client_state.specs.declared.phase.Phase.TheVariants.{Asking, Beginning, Between, Drawn, Evaluated, Evaluating, Preparing, Transforming}
use Rattle.client_state.specs.declared.phase.Phase.{Phase}
use Rattle.client_state.specs.declared.transaction.Share.{Share}
use Rattle.client_state.specs.declared.transform.Transform.{Transform}
use Rattle.std.specs.List.{list_any}
use Rattle.std.specs.Prelude.{Bool, List, false, is_some, nat_eq, ◌&&◌, ◌≡◌, ◌||◌}
use Rattle.thor_value.specs.FiniteMap.{get, has}
use Rattle.thor_value.specs.Names.{same_oref}
use Rattle.thor_value.specs.declared.names.Oref.{Oref}

-- whether a share has read an object of its repository
abbrev pub share_reads : Oref → Share → Bool
share_reads x s = nat_eq s.repo x.repo && list_any (same_oref x) s.ros

-- whether one of some shares has
abbrev pub shares_have_read : List Share → Oref → Bool
shares_have_read shares x = list_any (share_reads x) shares

-- whether a transform has looked at an object
abbrev pub has_looked_at : Transform → Oref → Bool
has_looked_at t x = same_oref t.oref x || is_some (get t.parts.objects x)

-- whether the running try has read an object, and its repository has not prepared it
abbrev pub phase_reads : Phase → Oref → Bool
phase_reads Between x = false
phase_reads Beginning x = false
phase_reads (Evaluating run awaited) x = has run.machine.reads x
phase_reads (Transforming run transform) x = has run.machine.reads x || has_looked_at transform x
phase_reads (Evaluated transaction) x = shares_have_read transaction.shares.items x
phase_reads (Drawn t transaction) x = shares_have_read transaction.shares.items x
phase_reads (Preparing t transaction coordinator prepared) x = shares_have_read transaction.shares.items x
phase_reads (Asking sent answers) x = false

-- The running try has read none of these objects.
abbrev pub ReadsNone : Phase → List Oref → Type 0
ReadsNone phase names = list_any (phase_reads phase) names ≡ false
