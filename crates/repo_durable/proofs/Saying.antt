-- What the disks say stays so through each call.
use Rattle.log_entries.specs.declared.entry.Entry.{Entry}
use Rattle.disk_trait.proofs.Several.{all_now, goes_one}
use Rattle.disk_trait.specs.AllDisks.{GoesOn, LeavesAll, MayLeaveAll, TellsAll}
use Rattle.disk_trait.specs.Disks.{Disks, MayLeave, NoNewImage, OnDisk, SameDisks, WhereTold}
use Rattle.disk_trait.specs.Fuse.{with_falls}
use Rattle.disk_trait.specs.Fused.{armed, fused_disks, parts_of}
use Rattle.disk_trait.specs.declared.fused.Fused.{Fused}
use Rattle.repo_state.specs.Keeps.{Keeps}
use Rattle.repo_state.specs.Said.{said, spelled}
use Rattle.repo_state.specs.declared.held.Held.{Held}
use Rattle.log_codec.specs.declared.body.Body.TheVariants.{Entry as AnEntry, Installed}
use Rattle.log_codec.specs.declared.body.Body.{Body}
use Rattle.log_codec.specs.declared.state.State.{State}
use Rattle.log_frame.specs.Log.{Place, Stands}
use Rattle.mob_flusher.specs.Images.{IsFlushed}
use Rattle.repo_durable.proofs.Opened.{holds_same}
use Rattle.page_store.specs.Sides.{KeepsSides, ReachesSides}
use Rattle.page_store.specs.Store.{Agrees}
use Rattle.repo_durable.proofs.Pages.{Reach, or_put, or_same, reach_open, reach_still, tells_before}
use Rattle.repo_durable.proofs.Remembering.{entry_sides, remembers_after, remembers_itself}
use Rattle.repo_durable.specs.Kept.{IsKept, IsOpen, IsOpenIn, disks_of, down, down_with, held_of, is_torn, is_torn_in, is_up_in, lowered, pending, pending_in}
use Rattle.repo_durable.specs.Pages.{AreOrPages, IsPageOn}
use Rattle.repo_durable.specs.Remembering.{Remembers}
use Rattle.repo_durable.specs.Saying.{ImagesSay, IsAhead, IsAheadIn, IsSaid, LogSays, SaysIn}
use Rattle.repo_durable.specs.declared.stable.Phase.TheVariants.{Down, Torn, Up}
use Rattle.repo_durable.specs.declared.stable.Phase.{Phase}
use Rattle.repo_durable.specs.declared.stable.Stable.{Stable}
use Rattle.commit_log.proofs.Holding.{is_log, stands_of}
use Rattle.commit_log.specs.Holds.{Holds, SaysEither, SaysOneOf, Under, beside}
use Rattle.commit_log.specs.Recovered.{after, stands}
use Rattle.std.proofs.Common.{List, None, Option, Some, ap, arith, false, inl, inr, refl, subst, sym, true, ◌<◌, ◌∙◌, ◌≡◌, ◌≢◌, ℕ}
use Rattle.std.specs.BTreeMap.{insert_entry}
use Rattle.std.specs.Ordering.{nat_cmp}
use Rattle.log_frame.specs.Log.{read_log}

-- ---- disks that tell

tells_same : (old new : Disks) → SameDisks old new → TellsAll new → TellsAll old
tells_same old new same tells = λ d within. ((tells d within).0, sym (same.content d) ∙ (tells d within).1)

-- ---- images of the logs

-- images of the two logs alone tell the state
pub log_says : (disks : Disks) (place : Place) (s : State) → Holds disks place s → TellsAll disks → (images : ℕ → List ℕ) → ((d : ℕ) → d < 2 → disks.images disks.time d (images d)) → stands images ≡ Some s
log_says disks place s holds tells images left =
    let d = place.disk in
    let logs : beside d < 2 = is_log d holds.within in
    let log = tells d (omega (arith, holds.within)) in
    let other = tells (beside d) (omega (arith, logs)) in
    let agrees = holds.agrees log.0 log.1 in
    let h = holds.told log.0 other.0 log.1 other.1 agrees.opened agrees.stands in
    let here : images d ≡ log.0 = holds.settled d (omega (arith, holds.within)) log.0 log.1 (images d) (left d holds.within) in
    let there : images (beside d) ≡ other.0 = holds.settled (beside d) (omega (arith, logs)) other.0 other.1 (images (beside d)) (left (beside d) logs) in
    stands_of d images agrees.opened s holds.within
    (subst (λ (l : List ℕ). Stands l agrees.opened) (sym here) agrees.stands)
    (subst (λ (l : List ℕ). Under d agrees.opened.sequence (read_log l)) (sym there) h.under)
    h.state

not_pages : (d : ℕ) → d < 2 → d ≢ 2
not_pages d within = λ same. let no : 2 < 2 = omega (arith, same, within) in omega (arith, no)

-- calls on the disk of pages leave the logs
logs_left : (old new : Disks) → OnDisk old new 2 → (images : ℕ → List ℕ) → MayLeaveAll new new.time images → (d : ℕ) → d < 2 → old.images old.time d (images d)
logs_left old new alone images left d within = alone.others_images new.time d (images d) (not_pages d within) alone.later (omega arith) (left d (omega (arith, within)))

-- what a state that says what is held has in use
reach_said : (held : Held) (s : State) (image : List ℕ) → Remembers s (said held) → ReachesSides held.objects.pages.sides image → ReachesSides s.installed image
reach_said held s image r reach = subst (λ (ps : List (ℕ × ℕ)). ReachesSides ps image) (sym r.installed) reach

-- behind an entry
reach_entered : (held : Held) (e : Entry) (s : State) (image : List ℕ) → Remembers s (after (said held) (AnEntry e)) → ReachesSides held.objects.pages.sides image → ReachesSides s.installed image
reach_entered held e s image r reach = subst (λ (ps : List (ℕ × ℕ)). ReachesSides ps image) (sym (r.installed ∙ entry_sides (said held) e)) reach

-- and behind a page that came into use
reach_installed : (held : Held) (page side : ℕ) (s : State) (image : List ℕ) → Remembers s (said held) → ReachesSides (insert_entry nat_cmp held.objects.pages.sides page side) image → ReachesSides (after s (Installed page side)).installed image
reach_installed held page side s image r reach = subst (λ (ps : List (ℕ × ℕ)). ReachesSides (insert_entry nat_cmp ps page side) image) (sym r.installed) reach

-- ---- which of its sides in use are held in use

or_said : (held : Held) (s : State) (image : List ℕ) → Remembers s (said held) → AreOrPages held.objects.pages.sides s.installed image
or_said held s image r = or_same held.objects.pages.sides s.installed image r.installed

or_entered : (held : Held) (e : Entry) (s : State) (image : List ℕ) → Remembers s (after (said held) (AnEntry e)) → AreOrPages held.objects.pages.sides s.installed image
or_entered held e s image r = or_same held.objects.pages.sides s.installed image (r.installed ∙ entry_sides (said held) e)

or_installed : (held : Held) (page side : ℕ) (s : State) (image : List ℕ) → Remembers s (said held) → IsPageOn image page side → AreOrPages held.objects.pages.sides (after s (Installed page side)).installed image
or_installed held page side s image r is = or_put held.objects.pages.sides s.installed image page side is (or_said held s image r)

sides_said : (held now' : Held) → said now' ≡ said held → now'.objects.pages.sides ≡ held.objects.pages.sides
sides_said held now' same = ap (λ (s : State). s.installed) same

-- what images keep of the sides that are held in use
keeps_reached : (disks : Disks) (held now' : Held) → said now' ≡ said held → Reach disks held.objects.pages.sides → TellsAll disks → (images : ℕ → List ℕ) → MayLeaveAll disks disks.time images → WhereTold disks 2 (λ disk. KeepsSides now'.objects.pages.sides disk (images 2))
keeps_reached disks held now' same reach tells images left disk told =
    subst (λ (ps : List (ℕ × ℕ)). KeepsSides ps disk (images 2)) (sym (sides_said held now' same)) (reach.keeps tells (images 2) (left 2 (omega arith)) disk told)

same_said : (a b : State) (s : State) → b ≡ a → Remembers s a → Remembers s b
same_said a b s is r = subst (Remembers s) (sym is) r

-- the open log says what is held, and so does each image, where the disk of pages was called at most
pub images_beside : (old new : Disks) (log : Place) (held now' : Held) → LogSays old log (said held) → OnDisk old new 2 → said now' ≡ said held → Reach new held.objects.pages.sides → ImagesSay new now' None
images_beside old new log held now' stood alone same reach = record {
  each = λ tells images left.
      let told = tells_before old new (goes_one old new 2 alone) tells in
      record { state = stood.state; stands = log_says old log stood.state stood.holds told images (logs_left old new alone images left); says = inl (same_said (said held) (said now') stood.state same (stood.says told)); reaches = reach_said held stood.state (images 2) (stood.says told) (reach.reaches tells (images 2) (left 2 (omega arith))); spells = or_said now' stood.state (images 2) (same_said (said held) (said now') stood.state same (stood.says told)) };
  keeps = keeps_reached new held now' same reach;
}

-- where no disk was called
pub images_of_log : (disks : Disks) (log : Place) (held now' : Held) → LogSays disks log (said held) → said now' ≡ said held → Reach disks held.objects.pages.sides → ImagesSay disks now' None
images_of_log disks log held now' stood same reach = record {
  each = λ tells images left.
      record { state = stood.state; stands = log_says disks log stood.state stood.holds tells images (λ d within. left d (omega (arith, within))); says = inl (same_said (said held) (said now') stood.state same (stood.says tells)); reaches = reach_said held stood.state (images 2) (stood.says tells) (reach.reaches tells (images 2) (left 2 (omega arith))); spells = or_said now' stood.state (images 2) (same_said (said held) (said now') stood.state same (stood.says tells)) };
  keeps = keeps_reached disks held now' same reach;
}

-- where an entry is ahead
pub images_ahead : (disks : Disks) (log : Place) (held : Held) (e : Entry) → LogSays disks log (after (said held) (AnEntry e)) → Reach disks held.objects.pages.sides → ImagesSay disks held (Some e)
images_ahead disks log held e stood reach = record {
  each = λ tells images left.
      record { state = stood.state; stands = log_says disks log stood.state stood.holds tells images (λ d within. left d (omega (arith, within))); says = inr (stood.says tells); reaches = reach_entered held e stood.state (images 2) (stood.says tells) (reach.reaches tells (images 2) (left 2 (omega arith))); spells = or_entered held e stood.state (images 2) (stood.says tells) };
  keeps = λ tells images left. reach.keeps tells (images 2) (left 2 (omega arith));
}

-- ---- an entry

pub images_written : (old new : Disks) (log : Place) (held : Held) (e : Entry) → LogSays old log (said held) → GoesOn old new → ((s : State) → Holds old log s → TellsAll old → LeavesAll old new (SaysOneOf s (AnEntry e))) → Reach new held.objects.pages.sides → ImagesSay new held (Some e)
images_written old new log held e stood goes any reach = record {
  each = λ tells images left.
      let told = tells_before old new goes tells in
      let there = reach.reaches tells (images 2) (left 2 (omega arith)) in
      elim (all_now old new (SaysOneOf stood.state (AnEntry e)) (any stood.state stood.holds told) images left) [
        | inl before ↦ record { state = stood.state; stands = before; says = inl (stood.says told); reaches = reach_said held stood.state (images 2) (stood.says told) there; spells = or_said held stood.state (images 2) (stood.says told) }
        | inr more ↦ (let says = remembers_after stood.state (said held) (AnEntry e) (stood.says told) in
            record { state = after stood.state (AnEntry e); stands = more; says = inr says; reaches = reach_entered held e (after stood.state (AnEntry e)) (images 2) says there; spells = or_entered held e (after stood.state (AnEntry e)) (images 2) says })
      ];
  keeps = λ tells images left. reach.keeps tells (images 2) (left 2 (omega arith));
}

pub log_more : (old new : Disks) (log log' : Place) (a : State) (b : Body) → LogSays old log a → GoesOn old new → ((s : State) → Holds old log s → Holds new log' (after s b)) → LogSays new log' (after a b)
log_more old new log log' a b stood goes more = record {
  state = after stood.state b;
  holds = more stood.state stood.holds;
  says = λ tells. remembers_after stood.state a b (stood.says (tells_before old new goes tells));
}

pub log_same : (disks : Disks) (log : Place) (a b : State) → LogSays disks log a → b ≡ a → LogSays disks log b
log_same disks log a b stood is = subst (LogSays disks log) (sym is) stood

-- ---- pages

-- the disk of pages was called, and is settled
pub log_beside : (old new : Disks) (log : Place) (a : State) → LogSays old log a → OnDisk old new 2 → ((s : State) → Holds old log s → Holds new log s) → LogSays new log a
log_beside old new log a stood alone holds = record {
  state = stood.state;
  holds = holds stood.state stood.holds;
  says = λ tells. stood.says (tells_before old new (goes_one old new 2 alone) tells);
}

-- a page was being put in use
pub images_installing : (old new : Disks) (log : Place) (held : Held) (page side repo : ℕ) → LogSays old log (said held) → IsFlushed held.objects repo page side → GoesOn old new → ((s : State) → Holds old log s → TellsAll old → LeavesAll old new (SaysOneOf s (Installed page side))) → Reach new held.objects.pages.sides → Reach new (insert_entry nat_cmp held.objects.pages.sides page side) → (TellsAll new → (image : List ℕ) → MayLeave new 2 image → IsPageOn image page side)
    → (TellsAll new → (image : List ℕ) → MayLeave new 2 image → Agrees held.objects.pages image) → ImagesSay new held None
images_installing old new log held page side repo stood flushed goes any reach more_reach is agrees = record {
  each = λ tells images left.
      let told = tells_before old new goes tells in
      elim (all_now old new (SaysOneOf stood.state (Installed page side)) (any stood.state stood.holds told) images left) [
        | inl before ↦ record { state = stood.state; stands = before; says = inl (stood.says told); reaches = reach_said held stood.state (images 2) (stood.says told) (reach.reaches tells (images 2) (left 2 (omega arith))); spells = or_said held stood.state (images 2) (stood.says told) }
        | inr more ↦ record {
          state = after stood.state (Installed page side);
          stands = more;
          says = inr (record { page = page; side = side; repo = repo; flushed = flushed; agrees = agrees tells (images 2) (left 2 (omega arith)); says = remembers_after stood.state (said held) (Installed page side) (stood.says told) });
          reaches = reach_installed held page side stood.state (images 2) (stood.says told) (more_reach.reaches tells (images 2) (left 2 (omega arith)));
          spells = or_installed held page side stood.state (images 2) (stood.says told) (is tells (images 2) (left 2 (omega arith)));
        }
      ];
  keeps = λ tells images left. reach.keeps tells (images 2) (left 2 (omega arith));
}

-- ---- a checkpoint

-- what a checkpoint spells is what is held
pub remembers_spelled : (h : Held) → Keeps h → Remembers (spelled h) (said h)
remembers_spelled h keeps = record { rest = refl; next = keeps.next; kept = λ t is. is; installed = refl; objects = λ x. refl }

remembers_spelt : (h : Held) (t : State) → t ≡ spelled h → Keeps h → Remembers t (said h)
remembers_spelt h t is keeps = subst (λ (s : State). Remembers s (said h)) (sym is) (remembers_spelled h keeps)

pub images_checkpointed : (old new : Disks) (log : Place) (held : Held) (t : State) → t ≡ spelled held → LogSays old log (said held) → Keeps held → GoesOn old new → ((s : State) → Holds old log s → TellsAll old → LeavesAll old new (SaysEither s t)) → Reach new held.objects.pages.sides → ImagesSay new held None
images_checkpointed old new log held t is stood keeps goes any reach = record {
  each = λ tells images left.
      let told = tells_before old new goes tells in
      elim (all_now old new (SaysEither stood.state t) (any stood.state stood.holds told) images left) [
        | inl before ↦ record { state = stood.state; stands = before; says = inl (stood.says told); reaches = reach_said held stood.state (images 2) (stood.says told) (reach.reaches tells (images 2) (left 2 (omega arith))); spells = or_said held stood.state (images 2) (stood.says told) }
        | inr more ↦ record { state = t; stands = more; says = inl (remembers_spelt held t is keeps); reaches = reach_said held t (images 2) (remembers_spelt held t is keeps) (reach.reaches tells (images 2) (left 2 (omega arith))); spells = or_said held t (images 2) (remembers_spelt held t is keeps) }
      ];
  keeps = λ tells images left. reach.keeps tells (images 2) (left 2 (omega arith));
}

pub log_anew : (disks : Disks) (log : Place) (held : Held) (t : State) → t ≡ spelled held → Keeps held → Holds disks log t → LogSays disks log (said held)
log_anew disks log held t is keeps holds = record { state = t; holds = holds; says = λ tells. remembers_spelt held t is keeps }

-- ---- by whether it is up

-- it goes down
pub says_lowered : (disks : Disks) (held : Held) (phase : Phase) → IsOpenIn disks held phase → SaysIn disks held phase → SaysIn disks held (lowered phase)
says_lowered disks held (Up log) stood says = images_of_log disks log held held says refl (reach_open disks log held stood)
says_lowered disks held (Down pending) stood says = says
says_lowered disks held (Torn e) stood says = tt

pub said_down : {P : Type 0} (disks : P → Disks) (store : Stable P) → IsKept disks store → IsSaid disks store → IsSaid disks (down store)
said_down disks store kept is = record { says = says_lowered (disks_of disks store) store.held store.phase kept.stands is.says }

-- with an entry that is ahead
pub says_pending : (disks : Disks) (held : Held) (phase : Phase) (e : Entry) → IsOpenIn disks held phase → IsAheadIn disks held e phase → ImagesSay disks held (Some e)
says_pending disks held (Up log) e stood ahead = images_ahead disks log held e ahead (reach_open disks log held stood)
says_pending disks held (Down pending) e stood ahead = absurd ahead
says_pending disks held (Torn f) e stood ahead = absurd ahead

-- the clock was asked
pub says_same : (old new : Disks) (held : Held) (phase : Phase) → SaysIn old held phase → SameDisks old new → SaysIn new held phase
says_same old new held (Up log) says same = record { state = says.state; holds = holds_same old new log says.state says.holds same; says = λ tells. says.says (tells_same old new same tells) }
says_same old new held (Down pending) says same = record {
  each = λ tells images left. says.each (tells_same old new same tells) images (λ d within. subst (λ (m : ℕ). old.images m d (images d)) same.time (same.images new.time d (images d) (left d within)));
  keeps = λ tells images left disk told. says.keeps (tells_same old new same tells) images (λ d within. subst (λ (m : ℕ). old.images m d (images d)) same.time (same.images new.time d (images d) (left d within))) disk (sym (same.content 2) ∙ told);
}
says_same old new held (Torn e) says same = tt

-- what is held moved, and says the same
pub says_moved : (disks : Disks) (held now' : Held) (phase : Phase) → is_up_in phase ≡ true → SaysIn disks held phase → ((s : State) → Remembers s (said held) → Remembers s (said now')) → SaysIn disks now' phase
says_moved disks held now' (Up log) up says moves = record { state = says.state; holds = says.holds; says = λ tells. moves says.state (says.says tells) }
says_moved disks held now' (Down pending) up says moves = cc
says_moved disks held now' (Torn e) up says moves = cc

-- the log of one that is up
pub log_of_up : (disks : Disks) (held : Held) (phase : Phase) (log : Place) → SaysIn disks held phase → phase ≡ Up log → LogSays disks log (said held)
log_of_up disks held (Up p) log says is = let same : p ≡ log = cc in subst (λ (x : Place). LogSays disks x (said held)) same says
log_of_up disks held (Down pending) log says is = cc
log_of_up disks held (Torn e) log says is = cc

-- it was taken out
pub taken_says : {P : Type 0} (disks : P → Disks) (old now' : Stable P) (log : Place) → old.phase ≡ Up log → now' ≡ down_with old None → IsSaid disks old → LogSays (disks_of disks now') log (said now'.held)
taken_says {P = P} disks old now' log is same said_old =
    subst (λ (s : Stable P). LogSays (disks_of disks s) log (said s.held)) (sym same) (log_of_up (disks_of disks old) old.held old.phase log said_old.says is)

-- it is put back
pub said_up : {P : Type 0} (disks : P → Disks) (mid now' : Stable P) (log : Place) → now' ≡ record mid { phase = Up log } → LogSays (disks_of disks mid) log (said mid.held) → IsSaid disks now'
said_up disks mid now' log same stood = subst (IsSaid disks) (sym same) (record { says = stood })

pub ahead_up : {P : Type 0} (disks : P → Disks) (mid now' : Stable P) (log : Place) (e : Entry) → now' ≡ record mid { phase = Up log } → LogSays (disks_of disks mid) log (after (said mid.held) (AnEntry e)) → IsAhead disks now' e
ahead_up {P = P} disks mid now' log e same stood = subst (λ (s : Stable P). IsAhead disks s e) (sym same) (record { ahead = stood })

-- it is down
pub said_resting : {P : Type 0} (disks : P → Disks) (mid now' : Stable P) (pending : Option Entry) → now' ≡ record mid { phase = Down pending } → ImagesSay (disks_of disks mid) mid.held pending → IsSaid disks now'
said_resting disks mid now' pending same stood = subst (IsSaid disks) (sym same) (record { says = stood })

pub said_torn : {P : Type 0} (disks : P → Disks) (mid now' : Stable P) (e : Entry) → now' ≡ record mid { phase = Torn e } → IsSaid disks now'
said_torn disks mid now' e same = subst (IsSaid disks) (sym same) (record { says = tt })

-- an entry was entered that was ahead
pub says_entered : (disks : Disks) (held now' : Held) (phase : Phase) (e : Entry) → said now' ≡ after (said held) (AnEntry e) → IsAheadIn disks held e phase → SaysIn disks now' phase
says_entered disks held now' (Up log) e is ahead = log_same disks log (after (said held) (AnEntry e)) (said now') ahead is
says_entered disks held now' (Down pending) e is ahead = absurd ahead
says_entered disks held now' (Torn f) e is ahead = absurd ahead

-- the stop is armed, or taken back
pub said_armed : {P : Type 0} (disks : P → Disks) (store : Stable P) (parts : Fused P) (calls : ℕ) → parts ≡ armed store.parts calls → IsSaid disks store → IsSaid disks (record store { parts = parts })
said_armed {P = P} disks store parts calls same is = subst (λ (p : Fused P). IsSaid disks (record store { parts = p })) (sym same) (record { says = is.says })

-- parts that carry a stop
log_falls : (disks : Disks) (falls : List ℕ) (log : Place) (a : State) → LogSays disks log a → LogSays (with_falls disks falls) log a
log_falls disks falls log a stood = record {
  state = stood.state;
  holds = record { within = stood.holds.within; settled = stood.holds.settled; agrees = stood.holds.agrees; told = stood.holds.told };
  says = stood.says;
}

pub log_fused : {P : Type 0} (disks : P → Disks) (parts : P) (fused : Fused P) (log : Place) (a : State) → parts_of fused ≡ parts → LogSays (disks parts) log a → LogSays (fused_disks disks fused) log a
log_fused {P = P} disks parts fused log a same stood = log_falls (disks fused.parts) fused.fuse.falls log a (subst (λ (p : P). LogSays (disks p) log a) (sym same) stood)

-- a log that holds just this state
pub log_just : (disks : Disks) (log : Place) (a : State) → Holds disks log a → LogSays disks log a
log_just disks log a holds = record { state = a; holds = holds; says = λ tells. remembers_itself a }

-- ---- the same, of stores

pub said_same : {P : Type 0} (disks : P → Disks) (old new : Stable P) → new ≡ old → IsSaid disks old → IsSaid disks new
said_same disks old new same is = subst (IsSaid disks) (sym same) is

pub said_lowered : {P : Type 0} (disks : P → Disks) (old new : Stable P) → new ≡ down old → IsKept disks old → IsSaid disks old → IsSaid disks new
said_lowered disks old new same kept is = subst (IsSaid disks) (sym same) (said_down disks old kept is)

pub said_pending : {P : Type 0} (disks : P → Disks) (old new : Stable P) (e : Entry) → new ≡ down_with old (Some e) → IsKept disks old → IsAhead disks old e → IsSaid disks new
said_pending disks old new e same kept ahead = said_resting disks old new (Some e) same (says_pending (disks_of disks old) old.held old.phase e kept.stands ahead.ahead)

-- one that is down
abbrev pub phase_of : {P : Type 0} → Stable P → Phase
phase_of store = store.phase

pub said_in_phase : {P : Type 0} (disks : P → Disks) (store : Stable P) (pending : Option Entry) → store.phase ≡ Down pending → ImagesSay (disks_of disks store) store.held pending → IsSaid disks store
said_in_phase disks store pending is says = record { says = subst (SaysIn (disks_of disks store) store.held) (sym is) says }

-- ---- images

says_images : (disks : Disks) (held : Held) (phase : Phase) → is_torn_in phase ≡ false → IsOpenIn disks held phase → SaysIn disks held phase → ImagesSay disks held (pending_in phase)
says_images disks held (Up log) whole stood says = images_of_log disks log held held says refl (reach_open disks log held stood)
says_images disks held (Down pending) whole stood says = says
says_images disks held (Torn e) whole stood says = cc

-- whether it is up or down, images say what it holds
pub images_of : {P : Type 0} (disks : P → Disks) (store : Stable P) → is_torn store ≡ false → IsKept disks store → IsSaid disks store → ImagesSay (disks_of disks store) (held_of store) (pending store)
images_of disks store whole kept is = says_images (disks_of disks store) store.held store.phase whole kept.stands is.says

-- falls of the schedule's stop leave no other image
pub images_inside : (disks : Disks) (falls : List ℕ) (h : Held) (pending : Option Entry) → ImagesSay (with_falls disks falls) h pending → ImagesSay disks h pending
images_inside disks falls h pending says = record { each = says.each; keeps = says.keeps }

-- the log was taken out, and is let go of
pub said_out : {P : Type 0} (disks : P → Disks) (old mid : Stable P) (log : Place) → old.phase ≡ Up log → mid ≡ down_with old None → IsOpen (disks_of disks old) log old.held → IsSaid disks old → IsSaid disks mid
said_out disks old mid log is same stood said_old =
    subst (IsSaid disks) (sym same) (record { says = images_of_log (disks_of disks old) log old.held old.held (log_of_up (disks_of disks old) old.held old.phase log said_old.says is) refl (reach_open (disks_of disks old) log old.held stood) })

keeps_out : {P : Type 0} (old mid : Stable P) → mid ≡ down_with old None → Keeps old.held → Keeps mid.held
keeps_out {P = P} old mid same keeps = subst (λ (s : Stable P). Keeps s.held) (sym same) keeps

-- a checkpoint failed
pub said_begun : {P : Type 0} (disks : P → Disks) (old mid : Stable P) (parts : Fused P) (log : Place) (t : State) → old.phase ≡ Up log → mid ≡ down_with old None → IsSaid disks old → IsOpen (disks_of disks mid) log mid.held → t ≡ spelled mid.held
    → NoNewImage (disks_of disks mid) (fused_disks disks parts) 2 → (fused_disks disks parts).content 2 ≡ (disks_of disks mid).content 2 → GoesOn (disks_of disks mid) (fused_disks disks parts) → ((s : State) → Holds (disks_of disks mid) log s → TellsAll (disks_of disks mid) → LeavesAll (disks_of disks mid) (fused_disks disks parts) (SaysEither s t)) → IsSaid disks (record mid { parts = parts })
said_begun disks old mid parts log t is same said_old stood spelt still content goes any =
    said_in_phase disks (record mid { parts = parts }) None (ap phase_of same)
    (images_checkpointed (disks_of disks mid) (fused_disks disks parts) log mid.held t spelt (taken_says disks old mid log is same said_old) stood.keeps goes any
    (reach_still (disks_of disks mid) (fused_disks disks parts) mid.held.objects.pages.sides goes still content (reach_open (disks_of disks mid) log mid.held stood)))

-- or began a log
pub said_anew : {P : Type 0} (disks : P → Disks) (old mid new : Stable P) (parts : Fused P) (log : Place) (t : State) → mid ≡ down_with old None → Keeps old.held → t ≡ spelled mid.held → new ≡ record mid { parts = parts; phase = Up log } → Holds (fused_disks disks parts) log t → IsSaid disks new
said_anew disks old mid new parts log t same keeps spelt put holds =
    said_up disks (record mid { parts = parts }) new log put (log_anew (fused_disks disks parts) log mid.held t spelt (keeps_out old mid same keeps) holds)

-- a page couldn't be read
pub said_unread : {P : Type 0} (disks : P → Disks) (old mid : Stable P) (parts : Fused P) (held : Held) (log : Place) → old.phase ≡ Up log → mid ≡ down_with old None → IsSaid disks old → IsOpen (disks_of disks mid) log mid.held → OnDisk (disks_of disks mid) (fused_disks disks parts) 2 → NoNewImage (disks_of disks mid) (fused_disks disks parts) 2 → (fused_disks disks parts).content 2 ≡ (disks_of disks mid).content 2 → said held ≡ said mid.held → IsSaid disks (record mid { parts = parts; held = held })
said_unread disks old mid parts held log is same said_old stood alone still content kept =
    said_in_phase disks (record mid { parts = parts; held = held }) None (ap phase_of same)
    (images_beside (disks_of disks mid) (fused_disks disks parts) log mid.held held (taken_says disks old mid log is same said_old) alone kept
    (reach_still (disks_of disks mid) (fused_disks disks parts) mid.held.objects.pages.sides (goes_one (disks_of disks mid) (fused_disks disks parts) 2 alone) still content (reach_open (disks_of disks mid) log mid.held stood)))
