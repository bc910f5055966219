-- Sides in use that are pages stay so through each call.
use Rattle.log_entries.specs.declared.entry.Entry.{Entry}
use Rattle.disk_trait.specs.AllDisks.{GoesOn, MayLeaveAll, ReadsAs, TellsAll}
use Rattle.disk_trait.specs.Disks.{Disks, Leaves, OnDisk, WhereTold}
use Rattle.disk_trait.specs.Fused.{armed, fused_disks, parts_of}
use Rattle.disk_trait.specs.declared.fused.Fused.{Fused}
use Rattle.repo_state.specs.Said.{said}
use Rattle.repo_state.specs.declared.held.Held.{Held}
use Rattle.log_codec.specs.declared.body.Body.TheVariants.{Installed}
use Rattle.log_codec.specs.declared.state.State.{State}
use Rattle.log_frame.specs.Log.{Place}
use Rattle.mob_buffer.specs.Buffer.{Objects}
use Rattle.mob_flusher.specs.Images.{IsFlushed}
use Rattle.mob_flusher.specs.Map.{Kept}
use Rattle.mob_flusher.specs.declared.store.Flushed.TheVariants.{Nothing}
use Rattle.mob_flusher.specs.declared.store.Flushed.{Flushed}
use Rattle.page_store.specs.Sides.{KeepsSides}
use Rattle.page_store.specs.Store.{IsDamage}
use Rattle.page_store.specs.declared.fault.StoreFault.TheVariants.{Damaged}
use Rattle.page_store.specs.declared.fault.StoreFault.{StoreFault}
use Rattle.repo_durable.proofs.Pages.{keeps_written, one_disk, page_flushed, pages_kept, pages_or, pages_put, reads_of}
use Rattle.repo_durable.proofs.Saying.{log_says}
use Rattle.repo_durable.specs.Kept.{IsOpen, disks_of, down, down_with, held_of, is_torn, is_torn_in, is_up_in, lowered, parts_in, torn}
use Rattle.repo_durable.specs.Pages.{ArePages, HasPages, PagesTold}
use Rattle.repo_durable.specs.Saying.{ImagesSay, IsSaid, ReadIsLeft, SaysIn}
use Rattle.repo_durable.specs.declared.stable.Phase.TheVariants.{Down, Torn, Up}
use Rattle.repo_durable.specs.declared.stable.Phase.{Phase}
use Rattle.repo_durable.specs.declared.stable.Stable.{Stable}
use Rattle.commit_log.specs.Holds.{Holds}
use Rattle.commit_log.specs.Recovered.{after, stands}
use Rattle.std.proofs.Common.{Bool, Err, IfSome, List, None, Ok, Option, Result, Some, [], ap, arith, false, is_some, refl, subst, suc, sym, true, zero, ℕ, ◌<◌, ◌∙◌, ◌∷◌, ◌≡◌}
use Rattle.std.specs.BTreeMap.{insert_entry}
use Rattle.std.specs.Ordering.{nat_cmp}
use Rattle.std.specs.Prelude.{slice_get}

-- ---- disks that tell

pub told_at : (o : Option (List ℕ)) → is_some o ≡ true → (bytes : List ℕ) × (o ≡ Some bytes)
told_at (Some bytes) told = (bytes, refl)
told_at None told = cc

pub is_told : (o : Option (List ℕ)) (bytes : List ℕ) → o ≡ Some bytes → is_some o ≡ true
is_told o bytes told = ap is_some told

-- each disk tells
pub all_told : (torn : Bool) (sides : List (ℕ × ℕ)) (disks : Disks) → PagesTold torn sides disks → TellsAll disks
all_told broken sides disks has zero within = told_at (disks.content 0) has.first_told
all_told broken sides disks has (suc zero) within = told_at (disks.content 1) has.second_told
all_told broken sides disks has (suc (suc zero)) within = told_at (disks.content 2) has.pages_told
all_told broken sides disks has (suc (suc (suc d))) within = let none : ⊥ = omega (arith, within) in absurd none

-- disks that tell, and their sides are pages
pub told_pages : (torn : Bool) (sides : List (ℕ × ℕ)) (disks : Disks) → TellsAll disks → WhereTold disks 2 (ArePages sides) → PagesTold torn sides disks
told_pages broken sides disks tells are = record {
  first_told = is_told (disks.content 0) (tells 0 (omega arith)).0 (tells 0 (omega arith)).1;
  second_told = is_told (disks.content 1) (tells 1 (omega arith)).0 (tells 1 (omega arith)).1;
  pages_told = is_told (disks.content 2) (tells 2 (omega arith)).0 (tells 2 (omega arith)).1;
  are = λ whole. are;
}

-- parts that carry a stop
pub fused_has : {P : Type 0} (disks : P → Disks) (parts : P) (fused : Fused P) (torn : Bool) (sides : List (ℕ × ℕ)) → parts_of fused ≡ parts → TellsAll (disks parts) → WhereTold (disks parts) 2 (ArePages sides) → PagesTold torn sides (fused_disks disks fused)
fused_has {P = P} disks parts fused broken sides same tells are = subst (λ (p : P). PagesTold broken sides (disks p)) (sym same) (told_pages broken sides (disks parts) tells are)

abbrev pub SameTold : Disks → Disks → Type 0
SameTold old new = (d : ℕ) → is_some (new.content d) ≡ is_some (old.content d)

-- what is told stays so, and the sides are pages
pub told_on : (torn now' : Bool) (sides after' : List (ℕ × ℕ)) (old new : Disks) → SameTold old new → (now' ≡ false → WhereTold new 2 (ArePages after')) → PagesTold torn sides old → PagesTold now' after' new
told_on broken now' sides after' old new told are has = record {
  first_told = told 0 ∙ has.first_told;
  second_told = told 1 ∙ has.second_told;
  pages_told = told 2 ∙ has.pages_told;
  are = are;
}

-- the disk of pages and the sides are the same
pub told_still : (torn now' : Bool) (sides after' : List (ℕ × ℕ)) (old new : Disks) → SameTold old new → new.content 2 ≡ old.content 2 → after' ≡ sides → (now' ≡ false → torn ≡ false) → PagesTold torn sides old → PagesTold now' after' new
told_still broken now' sides after' old new told content same whole has =
    told_on broken now' sides after' old new told
    (λ is disk told. subst (λ (ps : List (ℕ × ℕ)). ArePages ps disk) (sym same) (has.are (whole is) disk (sym content ∙ told))) has

-- of a repository
pub still_has : {P : Type 0} (disks : P → Disks) (old new : Stable P) → SameTold (disks_of disks old) (disks_of disks new) → (disks_of disks new).content 2 ≡ (disks_of disks old).content 2 → (held_of new).objects.pages.sides ≡ (held_of old).objects.pages.sides
    → (is_torn new ≡ false → is_torn old ≡ false) → HasPages disks old → HasPages disks new
still_has disks old new told content same whole has =
    told_still (is_torn old) (is_torn new) (held_of old).objects.pages.sides (held_of new).objects.pages.sides (disks_of disks old) (disks_of disks new) told content same whole has

-- ---- no disk is called

pub same_has : {P : Type 0} (disks : P → Disks) (old new : Stable P) → new ≡ old → HasPages disks old → HasPages disks new
same_has disks old new same has = subst (HasPages disks) (sym same) has

whole_lowered : (p : Phase) → is_torn_in (lowered p) ≡ false → is_torn_in p ≡ false
whole_lowered (Up log) whole = refl
whole_lowered (Down e) whole = refl
whole_lowered (Torn e) whole = whole

-- it goes down
pub down_has : {P : Type 0} (disks : P → Disks) (old new : Stable P) → new ≡ down old → HasPages disks old → HasPages disks new
down_has {P = P} disks old new same has =
    subst (HasPages disks) (sym same) (still_has disks old (down old) (λ d. refl) refl refl (whole_lowered old.phase) has)

whole_up : (p : Phase) → is_up_in p ≡ true → is_torn_in p ≡ false
whole_up (Up log) up = refl
whole_up (Down e) up = refl
whole_up (Torn e) up = absurd (cc)

-- with an entry pending
pub pending_has : {P : Type 0} (disks : P → Disks) (old new : Stable P) (e : Option Entry) → new ≡ down_with old e → is_up_in old.phase ≡ true → HasPages disks old → HasPages disks new
pending_has disks old new e same up has =
    subst (HasPages disks) (sym same) (still_has disks old (down_with old e) (λ d. refl) refl refl (λ whole. whole_up old.phase up) has)

pub never_torn : true ≡ false → ⊥
never_torn is = cc

-- torn
pub torn_has : {P : Type 0} (disks : P → Disks) (old new : Stable P) (e : Entry) → new ≡ torn old e → HasPages disks old → HasPages disks new
torn_has disks old new e same has =
    subst (HasPages disks) (sym same) (still_has disks old (torn old e) (λ d. refl) refl refl (λ whole. absurd (never_torn whole)) has)

-- torn, whatever is held
pub fails_has : {P : Type 0} (disks : P → Disks) (store new : Stable P) (held : Held) (e : Entry) → new ≡ torn (record store { held = held }) e → HasPages disks store → HasPages disks new
fails_has disks store new held e same has =
    subst (HasPages disks) (sym same)
    (told_on (is_torn store) true store.held.objects.pages.sides held.objects.pages.sides (disks_of disks store) (disks_of disks store) (λ d. refl) (λ whole. absurd (never_torn whole)) has)

-- the stop is armed, or taken back
pub armed_has : {P : Type 0} (disks : P → Disks) (store : Stable P) (parts : Fused P) (calls : ℕ) → parts ≡ armed store.parts calls → HasPages disks store → HasPages disks (record store { parts = parts })
armed_has {P = P} disks store parts calls same has =
    subst (λ (p : Fused P). HasPages disks (record store { parts = p })) (sym same) (still_has disks store (record store { parts = armed store.parts calls }) (λ d. refl) refl refl (λ whole. whole) has)

-- what is held moved, and its sides are the same
pub moved_has : {P : Type 0} (disks : P → Disks) (store : Stable P) (held : Held) → held.objects.pages.sides ≡ store.held.objects.pages.sides → HasPages disks store → HasPages disks (record store { held = held })
moved_has disks store held same has = still_has disks store (record store { held = held }) (λ d. refl) refl same (λ whole. whole) has

-- the parts and the phase are the same, and of what is held the sides in use
pub alike_has : {P : Type 0} (disks : P → Disks) (old new : Stable P) → parts_in new ≡ parts_in old → new.phase ≡ old.phase → (held_of new).objects.pages.sides ≡ (held_of old).objects.pages.sides → HasPages disks old → HasPages disks new
alike_has {P = P} disks old new parts phase sides has =
    still_has disks old new (λ d. ap (λ (p : Fused P). is_some ((fused_disks disks p).content d)) parts) (ap (λ (p : Fused P). (fused_disks disks p).content 2) parts) sides (λ whole. sym (ap is_torn_in phase) ∙ whole) has

-- all that is held but for its table
pub tabled_has : {P : Type 0} (disks : P → Disks) (old new : Stable P) → parts_in new ≡ parts_in old → new.phase ≡ old.phase → held_of new ≡ record (held_of old) { table = (held_of new).table } → HasPages disks old → HasPages disks new
tabled_has disks old new parts phase held has = alike_has disks old new parts phase (ap (λ (h : Held). h.objects.pages.sides) held) has

-- ---- the log is taken out and put back

up_of : (p : Phase) (log : Place) → p ≡ Up log → is_up_in p ≡ true
up_of p log is = ap is_up_in is

pub out_has : {P : Type 0} (disks : P → Disks) (old mid : Stable P) (log : Place) → old.phase ≡ Up log → mid ≡ down_with old None → HasPages disks old → HasPages disks mid
out_has disks old mid log is same has = pending_has disks old mid None same (up_of old.phase log is) has

pub whole_out : {P : Type 0} (old mid : Stable P) → mid ≡ down_with old None → is_torn mid ≡ false
whole_out {P = P} old mid same = ap (λ (s : Stable P). is_torn s) same

-- the log is back, or an entry is pending
pub back_has : {P : Type 0} (disks : P → Disks) (mid new : Stable P) (phase : Phase) → new ≡ record mid { phase = phase } → is_torn mid ≡ false → HasPages disks mid → HasPages disks new
back_has {P = P} disks mid new phase same whole has =
    subst (HasPages disks) (sym same) (still_has disks mid (record mid { phase = phase }) (λ d. refl) refl refl (λ now'. whole) has)

-- ---- a page is written

-- it was written, and isn't in use yet
pub written_has : {P : Type 0} (disks : P → Disks) (store : Stable P) (parts : Fused P) (held : Held) → SameTold (disks_of disks store) (fused_disks disks parts) → OnDisk (disks_of disks store) (fused_disks disks parts) 2
    → WhereTold (disks_of disks store) 2 (λ disk. Leaves (disks_of disks store) (fused_disks disks parts) 2 (KeepsSides store.held.objects.pages.sides disk))
    → ((bytes : ℕ → List ℕ) → ReadsAs (fused_disks disks parts) bytes → MayLeaveAll (fused_disks disks parts) (fused_disks disks parts).time bytes) → said held ≡ said store.held → HasPages disks store → HasPages disks (record store { parts = parts; held = held })
written_has disks store parts held told alone any left same has =
    let old = disks_of disks store in
    let new = fused_disks disks parts in
    let sides : held.objects.pages.sides ≡ store.held.objects.pages.sides = ap (λ (s : State). s.installed) same in
    let were = all_told (is_torn store) store.held.objects.pages.sides old has in
    let before = were 2 (omega arith) in
    told_on (is_torn store) (is_torn store) store.held.objects.pages.sides held.objects.pages.sides old new told
    (λ whole disk is.
    let tells : TellsAll new = λ d within. told_at (new.content d) (told d ∙ is_told (old.content d) (were d within).0 (were d within).1) in
    let keeps = keeps_written old new store.held.objects.pages.sides alone any left tells before.0 before.1 disk is in
    subst (λ (ps : List (ℕ × ℕ)). ArePages ps disk) (sym sides) (pages_kept store.held.objects.pages.sides before.0 disk keeps (has.are whole before.0 before.1))) has

-- it is in use
pub put_has : {P : Type 0} (disks : P → Disks) (store : Stable P) (parts : Fused P) (held : Held) (log : Place) (repo page side : ℕ) → SameTold (disks_of disks store) (fused_disks disks parts) → (fused_disks disks parts).content 2 ≡ (disks_of disks store).content 2
    → IsOpen (disks_of disks store) log store.held → IsFlushed store.held.objects repo page side → said held ≡ after (said store.held) (Installed page side) → HasPages disks store → HasPages disks (record store { parts = parts; held = held })
put_has disks store parts held log repo page side told content stood flushed same has =
    let old = disks_of disks store in
    let new = fused_disks disks parts in
    let was = store.held.objects.pages.sides in
    let sides : held.objects.pages.sides ≡ insert_entry nat_cmp was page side = ap (λ (s : State). s.installed) same in
    told_on (is_torn store) (is_torn store) was held.objects.pages.sides old new told
    (λ whole disk is.
    let before = sym content ∙ is in
    subst (λ (ps : List (ℕ × ℕ)). ArePages ps disk) (sym sides) (pages_put was disk page side (page_flushed old log store.held repo page side stood flushed disk before) (has.are whole disk before))) has

-- ---- damage

-- sides in use that are pages aren't damaged
pub never_damage : (torn : Bool) (sides : List (ℕ × ℕ)) (disks : Disks) (page place : ℕ) → torn ≡ false → PagesTold torn sides disks → IsDamage disks sides page place → ⊥
never_damage broken sides disks page place whole has damage =
    let pages = told_at (disks.content 2) has.pages_told in
    let there = has.are whole pages.0 pages.1 page damage.side damage.in_use in
    damage.none pages.0 pages.1 there.0 there.1

-- nor is the page of the oldest object, where a flush of none does nothing
pub never_oldest : (objects : Objects) (disks : Disks) (broken : Bool) (sides : List (ℕ × ℕ)) (place : ℕ) (result : Result Flushed StoreFault) → result ≡ Err (Damaged place) → (objects ≡ [] → result ≡ Ok Nothing) → broken ≡ false → PagesTold broken sides disks
    → IfSome (slice_get objects 0) (λ q. IsDamage disks sides q.0.page place) → ⊥
never_oldest [] disks broken sides place result is empty whole has damage = (let done = empty refl in cc)
never_oldest (q ∷ qs) disks broken sides place result is empty whole has damage = never_damage broken sides disks q.0.page place whole has damage

-- ---- a restart

-- what a read gives behind it has the sides that were in use
pub read_keeps : (old new : Disks) (h : Held) (pending : Option Entry) → ImagesSay old h pending → ReadIsLeft old new → TellsAll old → TellsAll new → WhereTold old 2 (λ before. WhereTold new 2 (KeepsSides h.objects.pages.sides before))
read_keeps old new h pending says read were tells before was disk told =
    let now' = reads_of new tells in
    let same : now'.0 2 ≡ disk = one_disk (new.content 2) (now'.0 2) disk (now'.1 2 (omega arith)) told in
    subst (KeepsSides h.objects.pages.sides before) same (says.keeps were now'.0 (read now'.0 now'.1) before was)

-- it stays down
pub stays_told : (torn : Bool) (old new : Disks) (h : Held) (pending : Option Entry) → ImagesSay old h pending → ReadIsLeft old new → SameTold old new → torn ≡ false → PagesTold torn h.objects.pages.sides old → PagesTold false h.objects.pages.sides new
stays_told broken old new h pending says read told whole has =
    let were = all_told broken h.objects.pages.sides old has in
    let before = were 2 (omega arith) in
    let tells : TellsAll new = λ d within. told_at (new.content d) (told d ∙ is_told (old.content d) (were d within).0 (were d within).1) in
    told_on broken false h.objects.pages.sides h.objects.pages.sides old new told
    (λ is disk there. pages_kept h.objects.pages.sides before.0 disk (read_keeps old new h pending says read were tells before.0 before.1 disk there) (has.are whole before.0 before.1)) has

one_state : (s t : State) (o : Option State) → o ≡ Some s → o ≡ Some t → s ≡ t
one_state s t o a b = cc

-- it comes up with what was found
pub comes_told : (torn : Bool) (old new : Disks) (h found : Held) (pending : Option Entry) (log : Place) → ImagesSay old h pending → ReadIsLeft old new → ReadIsLeft new new → Holds new log (said found) → SameTold old new → torn ≡ false → PagesTold torn h.objects.pages.sides old → PagesTold false found.objects.pages.sides new
comes_told broken old new h found pending log says read here holds told whole has =
    let sides = h.objects.pages.sides in
    let were = all_told broken sides old has in
    let before = were 2 (omega arith) in
    let tells : TellsAll new = λ d within. told_at (new.content d) (told d ∙ is_told (old.content d) (were d within).0 (were d within).1) in
    let now' = reads_of new tells in
    let there = here now'.0 now'.1 in
    let one = says.each were now'.0 (read now'.0 now'.1) in
    let stood : stands now'.0 ≡ Some (said found) = log_says new log (said found) holds tells now'.0 (λ d within. there d (omega (arith, within))) in
    let same : one.state ≡ said found = one_state one.state (said found) (stands now'.0) one.stands stood in
    told_on broken false sides found.objects.pages.sides old new told
    (λ is disk read_as.
    let reads : now'.0 2 ≡ disk = one_disk (new.content 2) (now'.0 2) disk (now'.1 2 (omega arith)) read_as in
    let keeps = says.keeps were now'.0 (read now'.0 now'.1) before.0 before.1 in
    subst (ArePages found.objects.pages.sides) reads
    (subst (λ (s : State). ArePages s.installed (now'.0 2)) same (pages_or sides one.state.installed before.0 (now'.0 2) keeps one.spells (has.are whole before.0 before.1)))) has

-- what is found is taken over
pub found_has : {P : Type 0} (disks : P → Disks) (old new : Stable P) (found : Held) (log : Place) → new.parts ≡ old.parts → new.phase ≡ Up log → new.held.objects ≡ found.objects → PagesTold false found.objects.pages.sides (disks_of disks old) → HasPages disks new
found_has {P = P} disks old new found log parts phase objects has =
    let there : PagesTold false found.objects.pages.sides (disks_of disks new) = subst (λ (p : Fused P). PagesTold false found.objects.pages.sides (fused_disks disks p)) (sym parts) has in
    let taken : PagesTold false new.held.objects.pages.sides (disks_of disks new) = subst (λ (k : Kept). PagesTold false k.pages.sides (disks_of disks new)) (sym objects) there in
    subst (λ (b : Bool). PagesTold b new.held.objects.pages.sides (disks_of disks new)) (sym (ap is_torn_in phase)) taken

-- or isn't
pub rests_has : {P : Type 0} (disks : P → Disks) (old new : Stable P) (pending : Option Entry) → new ≡ record old { phase = Down pending } → PagesTold false old.held.objects.pages.sides (disks_of disks old) → HasPages disks new
rests_has disks old new pending same has = subst (HasPages disks) (sym same) has

-- nothing was recovered
pub stayed_has : {P : Type 0} (disks : P → Disks) (old new : Stable P) (p : Phase) → IsSaid disks old → old.phase ≡ lowered p → is_torn old ≡ false → ReadIsLeft (disks_of disks old) (disks_of disks new) → GoesOn (disks_of disks old) (disks_of disks new) → held_of new ≡ held_of old → new.phase ≡ old.phase → HasPages disks old → HasPages disks new
stayed_has {P = P} disks old new p is down whole read goes held phase has =
    let there : PagesTold false old.held.objects.pages.sides (disks_of disks new) = by p down in
    let same : PagesTold false new.held.objects.pages.sides (disks_of disks new) = subst (λ (h : Held). PagesTold false h.objects.pages.sides (disks_of disks new)) (sym held) there in
    subst (λ (b : Bool). PagesTold b new.held.objects.pages.sides (disks_of disks new)) (sym (ap is_torn_in phase ∙ whole)) same
  where
    by : (q : Phase) → old.phase ≡ lowered q → PagesTold false old.held.objects.pages.sides (disks_of disks new)
    by (Up log) d = stays_told (is_torn old) (disks_of disks old) (disks_of disks new) old.held None (subst (SaysIn (disks_of disks old) old.held) d is.says) read goes.told whole has
    by (Down e) d = stays_told (is_torn old) (disks_of disks old) (disks_of disks new) old.held e (subst (SaysIn (disks_of disks old) old.held) d is.says) read goes.told whole has
    by (Torn e) d = absurd (never_torn (sym (ap is_torn_in d) ∙ whole))

-- what was recovered, and what was held
pub restarted_has : {P : Type 0} (disks : P → Disks) (old new : Stable P) (pending : Option Entry) (found : Held) (log : Place) → IsSaid disks old → old.phase ≡ Down pending → ReadIsLeft (disks_of disks old) (disks_of disks new) → ReadIsLeft (disks_of disks new) (disks_of disks new) → Holds (disks_of disks new) log (said found)
    → GoesOn (disks_of disks old) (disks_of disks new) → held_of new ≡ held_of old → HasPages disks old → PagesTold false found.objects.pages.sides (disks_of disks new) × PagesTold false (held_of new).objects.pages.sides (disks_of disks new)
restarted_has disks old new pending found log is down read here holds goes held has =
    let says : ImagesSay (disks_of disks old) old.held pending = subst (SaysIn (disks_of disks old) old.held) down is.says in
    let whole : is_torn old ≡ false = ap is_torn_in down in
    let stays : PagesTold false old.held.objects.pages.sides (disks_of disks new) = stays_told (is_torn old) (disks_of disks old) (disks_of disks new) old.held pending says read goes.told whole has in (
      comes_told (is_torn old) (disks_of disks old) (disks_of disks new) old.held found pending log says read here holds goes.told whole has,
      subst (λ (h : Held). PagesTold false h.objects.pages.sides (disks_of disks new)) (sym held) stays,
    )

-- one that isn't torn doesn't become so
pub torn_never : {P : Type 0} (store : Stable P) (e : Entry) → is_torn store ≡ false → store.phase ≡ Torn e → ⊥
torn_never store e whole is = never_torn (sym (ap is_torn_in is) ∙ whole)
