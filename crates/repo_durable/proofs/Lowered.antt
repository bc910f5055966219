-- What a repository that was taken down was.
use Rattle.log_entries.specs.declared.entry.Entry.{Entry}
use Rattle.log_frame.specs.Log.{Place}
use Rattle.repo_durable.specs.Kept.{is_torn_in, is_up_in, lowered, pending_in}
use Rattle.repo_durable.specs.declared.stable.Phase.TheVariants.{Down, Torn, Up}
use Rattle.repo_durable.specs.declared.stable.Phase.{Phase}
use Rattle.std.proofs.Common.{None, Option, false, refl, true, ◌≡◌}

-- it isn't up
pub none_up : (p : Phase) (log : Place) → lowered p ≡ Up log → ⊥
none_up (Up l) log is = cc
none_up (Down e) log is = cc
none_up (Torn e) log is = cc

-- and it is down, not torn
pub none_torn : (p : Phase) (e : Option Entry) → lowered p ≡ Down e → is_torn_in p ≡ false
none_torn (Up l) e is = refl
none_torn (Down d) e is = refl
none_torn (Torn d) e is = absurd (cc)

-- one that was up has nothing pending
pub none_pending : (p : Phase) → is_up_in p ≡ true → (pending_in (lowered p) ≡ None) × (is_torn_in (lowered p) ≡ false)
none_pending (Up l) up = (refl, refl)
none_pending (Down e) up = absurd (cc)
none_pending (Torn e) up = absurd (cc)

-- what is pending where it was taken down
pub pending_of : (p : Phase) (e : Option Entry) → lowered p ≡ Down e → pending_in p ≡ e
pending_of (Up l) e is = cc
pending_of (Down d) e is = cc
pending_of (Torn d) e is = absurd (cc)
