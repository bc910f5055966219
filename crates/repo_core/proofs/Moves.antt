-- Objects that move, and what a restart tells.
use Rattle.log_entries.specs.declared.entry.Entry.TheVariants.{Life}
use Rattle.log_entries.specs.declared.entry.Entry.{Entry}
use Rattle.repo_state.specs.Entering.{entered}
use Rattle.repo_state.specs.declared.held.Held.{Held}
use Rattle.repo_core.specs.Behind.{HasMoved, IsRestarted, MovesObjects}
use Rattle.repo_durable.specs.Flushes.{HasFlushed}
use Rattle.std.proofs.Common.{Err, Ok, OnOk, Result, ap, inl, inr, refl, subst, ℕ, ◌∙◌, ◌≡◌}
use Rattle.thor_value.specs.declared.memory.NoMemory.{NoMemory}
use Rattle.repo_trace.specs.Recorded.{Recorded, with_entry}
use Rattle.repo_refusals.specs.declared.refusal.Refusal.{Refusal}

pub moves_none : (h : Held) → MovesObjects h h
moves_none h = refl

pub moves_on : (a b c : Held) → MovesObjects a b → MovesObjects b c → MovesObjects a c
moves_on a b c p q = q ∙ ap (λ (h : Held). record h { objects = c.objects }) p

pub moved_then : (a b c : Held) (e : Entry) → MovesObjects a b → HasFlushed a.objects.mob.objects b.objects.mob.objects → c ≡ entered b e → HasMoved a e c
moved_then a b c e moves flushed is = record { between = b; moves = moves; flushed = flushed; entered = is }

pub held_then : (old new : Recorded) (n : ℕ) → new ≡ with_entry old (Life n) → IsRestarted old new
held_then old new n begun = record { before = old; life = n; recovered = inl refl; begun = begun }

pub pending_then : (old mid new : Recorded) (e : Entry) (n : ℕ) → mid ≡ with_entry old e → new ≡ with_entry mid (Life n) → IsRestarted old new
pending_then old mid new e n taken begun = record { before = mid; life = n; recovered = inr (e, taken); begun = begun }

-- what was told stands, where an entry was recorded
pub told_then : (r : Result ℕ Refusal) (told : Result (Unit {0}) NoMemory) (A : Type 0) → OnOk r (told ≡ Ok tt) → OnOk told A → OnOk r A
told_then (Ok place) told A is on = subst (λ (t : Result (Unit {0}) NoMemory). OnOk t A) is on
told_then (Err e) told A is on = tt
