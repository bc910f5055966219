-- What a restart takes.
use Rattle.log_entries.specs.declared.entry.Entry.{Entry}
use Rattle.repo_core.specs.Objects.{ObjectsTake, writes_in}
use Rattle.repo_state.specs.Entering.{entered, loaded}
use Rattle.repo_core.proofs.Refused.{moved_none, moved_on}
use Rattle.repo_core.specs.Behind.{MovesObjects}
use Rattle.repo_core.specs.Refusing.{GoesDown, Moved}
use Rattle.repo_core.specs.Restarting.{AllTold, ComesUp, DropsEarlier, Recovers, StaysDown, Takes, TakesNone, content_of, life_behind}
use Rattle.repo_core.specs.Shown.{Shown, shown}
use Rattle.law_repo_memory.specs.Coming.{BeginsLife}
use Rattle.law_repo_memory.specs.Running.{came_with}
use Rattle.disk_trait.specs.AllDisks.{TellsAll}
use Rattle.disk_trait.specs.Disks.{Disks}
use Rattle.repo_durable.specs.declared.stable.Stable.{Stable}
use Rattle.repo_durable.specs.Kept.{disks_of, is_torn_in, is_up_in, lowered, pending_in}
use Rattle.repo_durable.specs.declared.stable.Phase.TheVariants.{Down, Torn, Up}
use Rattle.repo_durable.specs.declared.stable.Phase.{Phase}
use Rattle.repo_durable.specs.Taking.{TakesFrom}
use Rattle.repo_durable.specs.declared.recovering.Taken.TheVariants as taken
use Rattle.repo_durable.specs.declared.recovering.Taken.{Taken}
use Rattle.std.proofs.Common.{Err, List, Ok, OnOk, Option, Result, ap, arith, false, inl, inr, refl, subst, suc, sym, zero, ◌<◌, ◌∙◌, ◌≡◌, ℕ}
use Rattle.std.specs.Prelude.{None, Some, [], ◌⊎◌}
use Rattle.repo_trace.specs.Recorded.{Recorded, with_entry}
use Rattle.repo_volatile.specs.Volatile.{Memory, Outlasts}

-- nothing beside what was held
pub takes_held : (x y : Shown) → x.is_torn ≡ false → MovesObjects x.held y.held → y.held.objects.mob.limit ≡ x.held.objects.mob.limit → y.trace ≡ x.trace → y.memory ≡ x.memory → ObjectsTake [] x y → Takes x y
takes_held x y whole moves limit trace memory objects = record {
  taken = None;
  was = tt;
  whole = whole;
  moved = y.held;
  moves = moves;
  held = refl;
  trace = trace;
  requested = ap (λ (m : Memory). m.requested) memory;
  sessions = ap (λ (m : Memory). m.sessions) memory;
  limit = limit;
  objects = objects;
}

-- the pending entry, too
pub takes_pending : (x y z : Shown) (e : Entry) → x.is_torn ≡ false → x.is_up ≡ false → x.pending ≡ Some e → MovesObjects x.held y.held → y.held.objects.mob.limit ≡ x.held.objects.mob.limit → y.trace ≡ x.trace → y.memory ≡ x.memory
    → z.held ≡ entered y.held e → z.held.objects.mob.limit ≡ y.held.objects.mob.limit → z.trace ≡ with_entry y.trace e → z.memory.requested ≡ came_with y.memory.requested e → z.memory.sessions ≡ y.memory.sessions → ObjectsTake (loaded x.held e) x z → Takes x z
takes_pending x y z e whole down is moves limit trace memory held stays recorded requested sessions objects = record {
  taken = Some e;
  was = (down, is);
  whole = whole;
  moved = y.held;
  moves = moves;
  held = held;
  trace = recorded ∙ ap (λ (r : Recorded). with_entry r e) trace;
  requested = requested ∙ ap (λ (m : Memory). came_with m.requested e) memory;
  sessions = sessions ∙ ap (λ (m : Memory). m.sessions) memory;
  limit = stays ∙ limit;
  objects = objects;
}

-- an entry is pending where it is down, and not torn
pub down_with_it : (p : Phase) (e : Entry) → pending_in p ≡ Some e → is_torn_in p ≡ false → is_up_in p ≡ false
down_with_it (Up log) e is whole = absurd (cc)
down_with_it (Down o) e is whole = refl
down_with_it (Torn d) e is whole = absurd (cc)

-- ---- nothing was taken

torn_before : (p q : Phase) → q ≡ lowered p → is_torn_in q ≡ false → is_torn_in p ≡ false
torn_before p q is whole = by p (sym (ap is_torn_in is) ∙ whole)
  where
    by : (p : Phase) → is_torn_in (lowered p) ≡ false → is_torn_in p ≡ false
    by (Up log) w = refl
    by (Down o) w = refl
    by (Torn e) w = w

pending_before : (p q : Phase) → q ≡ lowered p → is_torn_in q ≡ false → (pending_in q ≡ None) ⊎ ((is_up_in p ≡ false) × (pending_in q ≡ pending_in p))
pending_before p q is whole = by p is
  where
    by : (p : Phase) → q ≡ lowered p → (pending_in q ≡ None) ⊎ ((is_up_in p ≡ false) × (pending_in q ≡ pending_in p))
    by (Up log) is = inl (ap pending_in is)
    by (Down o) is = inr (refl, ap pending_in is)
    by (Torn e) is = inr (refl, ap pending_in is)

-- the log wasn't taken over
pub none_taken : (x y : Shown) (p q : Phase) → q ≡ lowered p → x.is_up ≡ is_up_in p → x.is_torn ≡ is_torn_in p → x.pending ≡ pending_in p → y.is_torn ≡ is_torn_in q → y.pending ≡ pending_in q
    → y.held ≡ x.held → Outlasts x.memory y.memory → y.trace ≡ x.trace → ObjectsTake [] x y → TakesNone x y
none_taken x y p q is up torn pending torn' pending' held lasts trace objects = record {
  torn = λ w. torn ∙ torn_before p q is (sym torn' ∙ w);
  held = λ w. moved_none x y held;
  memory = lasts;
  pending = λ w. by (pending_before p q is (sym torn' ∙ w));
  trace = trace;
  objects = objects;
}
  where
    by : (pending_in q ≡ None) ⊎ ((is_up_in p ≡ false) × (pending_in q ≡ pending_in p)) → (y.pending ≡ None) ⊎ ((x.is_up ≡ false) × (y.pending ≡ x.pending))
    by (inl none) = inl (pending' ∙ none)
    by (inr same) = inr (up ∙ same.0, pending' ∙ (same.1 ∙ sym pending))

-- the pending entry wasn't taken
pub pending_falls : (x y z : Shown) (e : Entry) → x.is_torn ≡ false → x.is_up ≡ false → x.pending ≡ Some e → Moved x y → y.memory ≡ x.memory → y.trace ≡ x.trace → GoesDown y z (Some e) → z.trace ≡ y.trace → ObjectsTake [] x z → TakesNone x z
pending_falls x y z e whole down is moved memory trace falls recorded objects = record {
  torn = λ w. whole;
  held = λ w. moved_on x y z moved (falls.held w);
  memory = subst (λ (m : Memory). Outlasts m z.memory) memory falls.memory;
  pending = λ w. by (falls.pending w);
  trace = recorded ∙ trace;
  objects = objects;
}
  where
    by : (z.pending ≡ None) ⊎ (z.pending ≡ Some e) → (z.pending ≡ None) ⊎ ((x.is_up ≡ false) × (z.pending ≡ x.pending))
    by (inl none) = inl none
    by (inr same) = inr (down, same ∙ sym is)

-- ---- a restart

abbrev pub recovers_so : (x y z : Shown) → Takes x y → y.opened_in ≡ x.opened_in → DropsEarlier y z → z.memory ≡ y.memory → z.trace ≡ y.trace → Recovers x z
recovers_so x y z takes opened drops memory trace = record { taking = y; takes = takes; opened = opened; drops = drops; memory = memory; trace = trace }

pub comes_up_so : (x y z w : Shown) (takes : Takes x y) → y.opened_in ≡ x.opened_in → DropsEarlier y z → z.memory ≡ y.memory → z.trace ≡ y.trace
    → w.held ≡ entered z.held (life_behind z) → BeginsLife z.held z.memory w.memory → w.trace ≡ with_entry z.trace (life_behind z) → ObjectsTake (writes_in x.held takes.taken) x w → ComesUp x w
comes_up_so x y z w takes opened drops memory trace held begins recorded objects = record { between = z; recovers = recovers_so x y z takes opened drops memory trace; held = held; memory = begins; trace = recorded; objects = objects }

pub fails_so : (x y z w : Shown) (takes : Takes x y) → y.opened_in ≡ x.opened_in → DropsEarlier y z → z.memory ≡ y.memory → z.trace ≡ y.trace
    → GoesDown z w (Some (life_behind z)) → w.trace ≡ z.trace → ObjectsTake (writes_in x.held takes.taken) x w → StaysDown x w
fails_so x y z w takes opened drops memory trace falls recorded objects = inr (record { between = z; recovers = recovers_so x y z takes opened drops memory trace; falls = falls; trace = recorded; objects = objects })

-- ---- behind a pending entry that was taken

pub on_ok4 : {X E : Type 0} (r : Result X E) (A B C D F : Type 0) → OnOk r A → OnOk r B → OnOk r C → OnOk r D → (A → B → C → D → F) → OnOk r F
on_ok4 (Ok x) A B C D F a b c d f = f a b c d
on_ok4 (Err e) A B C D F a b c d f = tt

pub taken_from : (p : Option Entry) (t : Taken) (e : Entry) → t ≡ taken.Pending e → TakesFrom p t → p ≡ Some e
taken_from p t e is from = subst (TakesFrom p) is from

pub takes_after : (x y z : Shown) (p : Phase) (t : Taken) (e : Entry) → x.is_torn ≡ is_torn_in p → x.is_up ≡ is_up_in p → x.pending ≡ pending_in p → is_torn_in p ≡ false → TakesFrom (pending_in p) t → t ≡ taken.Pending e
    → MovesObjects x.held y.held → y.held.objects.mob.limit ≡ x.held.objects.mob.limit → y.trace ≡ x.trace → y.memory ≡ x.memory
    → z.held ≡ entered y.held e → z.held.objects.mob.limit ≡ y.held.objects.mob.limit → z.trace ≡ with_entry y.trace e → z.memory.requested ≡ came_with y.memory.requested e → z.memory.sessions ≡ y.memory.sessions → ObjectsTake (loaded x.held e) x z → Takes x z
takes_after x y z p t e torn up pending whole from is moves limit trace memory held stays recorded requested sessions objects =
    let there : pending_in p ≡ Some e = taken_from (pending_in p) t e is from in
    takes_pending x y z e (torn ∙ whole) (up ∙ down_with_it p e there whole) (pending ∙ there) moves limit trace memory held stays recorded requested sessions objects

-- ---- what is told of disks

told_by : (P : ℕ → Option (List ℕ)) (Q : ℕ → Option (List ℕ)) → P 0 ≡ Q 0 → P 1 ≡ Q 1 → P 2 ≡ Q 2 → (d : ℕ) → d < 3 → P d ≡ Q d
told_by P Q zeroth first second zero within = zeroth
told_by P Q zeroth first second (suc zero) within = first
told_by P Q zeroth first second (suc (suc zero)) within = second
told_by P Q zeroth first second (suc (suc (suc n))) within = absurd (omega (arith, within))

-- what is shown as told is told by the disks
pub tells_shown : {P : Type 0} (disks : P → Disks) (store : Stable P) (M : Memory) (t : Recorded) (n : ℕ) (x : Shown) → shown disks store M t n ≡ x → AllTold x → TellsAll (disks_of disks store)
tells_shown disks store M t n x is told = λ d within.
    let there = subst AllTold (sym is) told d within in
    (there.0, sym (told_by (content_of (shown disks store M t n)) (disks_of disks store).content refl refl refl d within) ∙ there.1)
