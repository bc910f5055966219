-- A stop that falls at once, or is armed.
use Rattle.repo_durable.specs.Kept.{is_torn_in, is_up_in, lowered, pending_in}
use Rattle.repo_durable.specs.declared.stable.Phase.TheVariants.{Down, Torn, Up}
use Rattle.repo_durable.specs.declared.stable.Phase.{Phase}
use Rattle.std.proofs.Common.{Bool, ap, cond, false, refl, true, ◌∙◌, ◌≡◌}
use Rattle.std.specs.Prelude.{None}

down_pending : (p : Phase) → is_up_in p ≡ false → pending_in (lowered p) ≡ pending_in p
down_pending (Up log) d = absurd (cc)
down_pending (Down e) d = refl
down_pending (Torn e) d = refl

up_pending : (p : Phase) → is_up_in p ≡ true → (pending_in p ≡ None) × (pending_in (lowered p) ≡ None) × (is_torn_in p ≡ false) × (is_torn_in (lowered p) ≡ false)
up_pending (Up log) u = (refl, refl, refl, refl)
up_pending (Down e) u = absurd (cc)
up_pending (Torn e) u = absurd (cc)

-- of one that is up nothing is being written
pub none_up : (p : Phase) → is_up_in p ≡ true → pending_in p ≡ None
none_up p u = (up_pending p u).0

same_torn : (p : Phase) → is_torn_in (lowered p) ≡ is_torn_in p
same_torn (Up log) = refl
same_torn (Down e) = refl
same_torn (Torn e) = refl

pub stop_pending : (z : Bool) (p q : Phase) → q ≡ cond z (lowered p) p → is_up_in p ≡ false → pending_in q ≡ pending_in p
stop_pending true p q is d = ap pending_in is ∙ down_pending p d
stop_pending false p q is d = ap pending_in is

pub stop_none : (z : Bool) (p q : Phase) → q ≡ cond z (lowered p) p → is_up_in p ≡ true → pending_in q ≡ None
stop_none true p q is u = ap pending_in is ∙ (up_pending p u).1
stop_none false p q is u = ap pending_in is ∙ (up_pending p u).0

pub stop_torn : (z : Bool) (p q : Phase) → q ≡ cond z (lowered p) p → is_torn_in q ≡ is_torn_in p
stop_torn true p q is = ap is_torn_in is ∙ same_torn p
stop_torn false p q is = ap is_torn_in is

pub stop_whole : (z : Bool) (p q : Phase) → q ≡ cond z (lowered p) p → is_up_in p ≡ true → is_torn_in q ≡ false
stop_whole true p q is u = ap is_torn_in is ∙ (up_pending p u).3
stop_whole false p q is u = ap is_torn_in is ∙ (up_pending p u).2
