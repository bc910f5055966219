-- How repositories stand.
use Rattle.log_entries.specs.declared.entry.Entry.{Entry}
use Rattle.repo_state.specs.declared.held.Held.{Held}
use Rattle.spec_history.specs.History.{Base}
use Rattle.repo_core.specs.Shown.{Shown}
use Rattle.law_repo_calls.specs.Seen.{IsWhole, StandsRight, phase, phase_from, seen}
use Rattle.law_repo_memory.specs.Running.{IsInAgreement, Repository}
use Rattle.law_repo_runs.specs.Standing.{Down, IsRight, Torn, Up}
use Rattle.std.proofs.Common.{Bool, Option, ap, false, refl, subst, sym, true, ◌∙◌, ◌≡◌}
use Rattle.repo_trace.specs.Recorded.{Recorded}
use Rattle.repo_volatile.specs.Volatile.{Memory}

abbrev pub made_of_parts : Held → Memory → Recorded → Repository
made_of_parts h m t = record { held = h; memory = m; trace = t }

pub same_seen : (x y : Shown) → y.held ≡ x.held → y.memory ≡ x.memory → y.trace ≡ x.trace → seen y ≡ seen x
same_seen x y h m t =
    ap (λ (a : Held). made_of_parts a y.memory y.trace) h ∙ (ap (λ (a : Memory). made_of_parts x.held a y.trace) m ∙ ap (λ (a : Recorded). made_of_parts x.held x.memory a) t)

pub same_phase : (x y : Shown) → y.is_up ≡ x.is_up → y.is_torn ≡ x.is_torn → y.pending ≡ x.pending → phase y ≡ phase x
same_phase x y u t p =
    ap (λ (a : Bool). phase_from a y.is_torn y.pending) u ∙ (ap (λ (a : Bool). phase_from x.is_up a y.pending) t ∙ ap (λ (a : Option Entry). phase_from x.is_up x.is_torn a) p)

pub up_phase : (x : Shown) → x.is_up ≡ true → phase x ≡ Up
up_phase x u = ap (λ (a : Bool). phase_from a x.is_torn x.pending) u

pub torn_phase : (x : Shown) → x.is_up ≡ false → x.is_torn ≡ true → phase x ≡ Torn
torn_phase x u t = ap (λ (a : Bool). phase_from a x.is_torn x.pending) u ∙ ap (λ (a : Bool). phase_from false a x.pending) t

pub down_phase : (x : Shown) (o : Option Entry) → x.is_up ≡ false → x.is_torn ≡ false → x.pending ≡ o → phase x ≡ Down o
down_phase x o u t p =
    ap (λ (a : Bool). phase_from a x.is_torn x.pending) u ∙ (ap (λ (a : Bool). phase_from false a x.pending) t ∙ ap (λ (a : Option Entry). phase_from false false a) p)

whole_down : (t : Bool) (p : Option Entry) → IsWhole (phase_from false t p) → t ≡ false
whole_down true p w = absurd w
whole_down false p w = refl

pub not_torn : (x : Shown) → x.is_up ≡ false → IsWhole (phase x) → x.is_torn ≡ false
not_torn x u w = whole_down x.is_torn x.pending (subst (λ (a : Bool). IsWhole (phase_from a x.is_torn x.pending)) u w)

pub whole_up : (x : Shown) → x.is_up ≡ true → IsWhole (phase x)
whole_up x u = subst IsWhole (sym (up_phase x u)) tt

pub whole_not_torn : (x : Shown) → x.is_torn ≡ false → IsWhole (phase x)
whole_not_torn x t = by x.is_up refl
  where
    by : (u : Bool) → x.is_up ≡ u → IsWhole (phase x)
    by true u = whole_up x u
    by false u = subst IsWhole (sym (down_phase x x.pending u t refl)) tt

-- while it is up, memory and history agree, and so do its sessions
pub right_up : (b : Base) (x : Shown) → StandsRight b x → x.is_up ≡ true → IsRight b (seen x) Up
right_up b x k u = subst (IsRight b (seen x)) (up_phase x u) k.right

pub agreement : (b : Base) (x : Shown) → StandsRight b x → x.is_up ≡ true → IsInAgreement b (seen x)
agreement b x k u = (right_up b x k u).stands.0

pub limit_up : (b : Base) (x : Shown) → StandsRight b x → x.is_up ≡ true → x.held.objects.mob.limit ≡ b.limit
limit_up b x k u = k.limit (whole_up x u)
