-- What one call on a disk in memory does to the parts.
use Rattle.std.proofs.Common.{◌≡◌, ◌≢◌, ℕ, ◌+◌, ◌-◌, ◌^◌, ◌<◌, ◌≤◌, min, Bool, true, false, List, [], ◌∷◌, length, set, get_or, Option, Some, None, Result, Ok, Err, is_some, IsErr, IsErrOf, IfOk, OnOk, if◌then◌else◌, ◌==◌, refl, ap, sym, ◌∙◌, subst, arith, zero, suc, inl, inr, slice_get, take, drop}
use Rattle.std.proofs.lemmas.Bool.{cases_eq}
use Rattle.std.proofs.lemmas.Option.{slice_get_within, slice_get-get_or}
use Rattle.std.specs.List.{All}
use Rattle.disk_trait.specs.Images.{Image}
use Rattle.disk_trait.specs.Change.{put_back}
use Rattle.disk_trait.specs.Disks.{OnDisk, Torn, written}
use Rattle.disk_trait.specs.Calls.{IsCall, Reads, Writes, Syncs, TellsLength, Restarts}
use Rattle.disk_trait.specs.Record.{ImageNow, ImageAt, undone, newest, picked, torn, synced_of, ranges_of}
use Rattle.disk_trait.specs.Kept.{Kept, noted, failed_at, WroteTo, RestartedTo, IsSound, Ended, IsTurn}
use Rattle.disk_trait.specs.Mem.{bytes_of, faults_of, images_of, told, MemCall, turn_of}
use Rattle.disk_trait.specs.declared.record.Did.{Did}
use Rattle.disk_trait.specs.declared.record.Did.TheVariants.{Failed as FailedCall, Read, Length, Wrote, Synced, Restarted}
use Rattle.disk_trait.specs.declared.parts.Outage.{Outage}
use Rattle.disk_trait.specs.declared.parts.Outage.TheVariants.{Failed, NoMemory}
use Rattle.disk_trait.specs.MemLaws.{now_at, sound_at}
use Rattle.disk_trait.proofs.Moments.{at_now, at_before, before_at}
use Rattle.disk_trait.proofs.ImageLaws.{image_settled, image_synced, image_torn, image_before, is_before, torn_from}

-- a list of disks at the place of a write, and elsewhere
pub slice_get-set_same : {X : Type 0} (xs : List X) (i : ℕ) (x : X) → i < length xs → slice_get (set xs i x) i ≡ Some x
slice_get-set_same [] i x within = absurd (omega arith)
slice_get-set_same (y ∷ xs) zero x within = refl
slice_get-set_same (y ∷ xs) (suc i) x within = slice_get-set_same xs i x (omega arith)

pub slice_get-set_other : {X : Type 0} (xs : List X) (i j : ℕ) (x : X) → j ≢ i → slice_get (set xs i x) j ≡ slice_get xs j
slice_get-set_other [] i j x other = refl
slice_get-set_other (y ∷ xs) zero zero x other = absurd (other refl)
slice_get-set_other (y ∷ xs) zero (suc j) x other = refl
slice_get-set_other (y ∷ xs) (suc i) zero x other = refl
slice_get-set_other (y ∷ xs) (suc i) (suc j) x other = slice_get-set_other xs i j x (λ e. other (ap suc e))

-- a call that ended at this moment: the past stays
pub record Step (moment : ℕ) (old new : Kept) : Type 0 where
  pub at_before : (m : ℕ) (image : List ℕ) → m < moment → ImageAt m new.calls new.bytes image → ImageAt m old.calls old.bytes image
  pub before_at : (m : ℕ) (image : List ℕ) → m < moment → ImageAt m old.calls old.bytes image → ImageAt m new.calls new.bytes image
  pub newest : newest new.calls ≤ moment
  pub faults : min old.faults (2 ^ 64 - 1) ≤ min new.faults (2 ^ 64 - 1)

step_same : (moment : ℕ) (old : Kept) → IsSound moment old → Step (moment + 1) old old
step_same moment old sound = record { at_before = λ m image earlier left. left; before_at = λ m image earlier left. left; newest = omega (arith, sound.past); faults = omega arith }

step_by : (moment : ℕ) (old new : Kept) (did : Did) → new.calls ≡ record { time = moment + 1; did = did } ∷ old.calls → undone did new.bytes ≡ old.bytes → min old.faults (2 ^ 64 - 1) ≤ min new.faults (2 ^ 64 - 1) → Step (moment + 1) old new
step_by moment old new did noted_so back more = record {
  at_before = λ m image earlier left. at_before m (record { time = moment + 1; did = did }) old.calls old.bytes new.bytes image earlier back (subst (λ calls. ImageAt m calls new.bytes image) noted_so left);
  before_at = λ m image earlier left. subst (λ calls. ImageAt m calls new.bytes image) (sym noted_so) (before_at m (record { time = moment + 1; did = did }) old.calls old.bytes new.bytes image earlier back left);
  newest = rw noted_so (omega arith);
  faults = more;
}

-- The disks after a call on one of them.
module _ (before : List Kept) (moment clock disk : ℕ) (old : Kept) (stood : slice_get before disk ≡ Some old) (sound : All (IsSound moment) before) where
  within : disk < length before
  within = slice_get_within before disk old stood

  sound_old : IsSound moment old
  sound_old = sound_at moment before disk old sound stood

  -- the other disks leave at the next moment what they leave now
  later_same : (m d : ℕ) (image : List ℕ) → moment ≤ m → images_of m (slice_get before d) image → images_of moment (slice_get before d) image
  later_same m d image from left = by_disk (slice_get before d) refl left
    where
      by_disk : (o : Option Kept) → slice_get before d ≡ o → images_of m o image → images_of moment o image
      by_disk None is h = h
      by_disk (Some one) is h =
          let fine = sound_at moment before d one sound is in
          now_at moment one.calls one.bytes image fine.past (at_now m one.calls one.bytes image (omega (arith, fine.past)) h)

  later_kept : (m d : ℕ) (image : List ℕ) → moment ≤ m → images_of moment (slice_get before d) image → images_of m (slice_get before d) image
  later_kept m d image from left = by_disk (slice_get before d) refl left
    where
      by_disk : (o : Option Kept) → slice_get before d ≡ o → images_of moment o image → images_of m o image
      by_disk None is h = h
      by_disk (Some one) is h =
          let fine = sound_at moment before d one sound is in
          now_at m one.calls one.bytes image (omega (arith, fine.past)) (at_now moment one.calls one.bytes image fine.past h)

  module _ (new : Kept) where
    after : List Kept
    after = set before disk new

    here : slice_get (set before disk new) disk ≡ Some new
    here = slice_get-set_same before disk new within

    there : (d : ℕ) → d ≢ disk → slice_get (set before disk new) d ≡ slice_get before d
    there d other = slice_get-set_other before disk d new other

    pub mem_alone : Step (moment + 1) old new → OnDisk (told before moment clock) (told (set before disk new) (moment + 1) clock) disk
    mem_alone step = record {
      later = omega arith;
      past = λ m d image early left. elim (cases_eq d disk) [
        | inl same ↦ subst (λ n. images_of m (slice_get before n) image) (sym same) (subst (λ o. images_of m o image) (sym stood) (step.at_before m image (omega arith) (subst (λ o. images_of m o image) here (subst (λ n. images_of m (slice_get (set before disk new) n) image) same left))))
        | inr other ↦ subst (λ o. images_of m o image) (there d other) left
      ];
      kept = λ m d image early left. elim (cases_eq d disk) [
        | inl same ↦ subst (λ n. images_of m (slice_get (set before disk new) n) image) (sym same) (subst (λ o. images_of m o image) (sym here) (step.before_at m image (omega arith) (subst (λ o. images_of m o image) stood (subst (λ n. images_of m (slice_get before n) image) same left))))
        | inr other ↦ subst (λ o. images_of m o image) (sym (there d other)) left
      ];
      told = ap (λ o. is_some (bytes_of o)) here ∙ sym (ap (λ o. is_some (bytes_of o)) stood);
      others = λ d other. ap bytes_of (there d other);
      others_images = λ m d image other from to left. later_same m d image from (subst (λ o. images_of m o image) (there d other) left);
      others_kept = λ m d image other from to left. subst (λ o. images_of m o image) (sym (there d other)) (later_kept m d image from left);
      others_faults = λ d other. ap faults_of (there d other);
      faults_stay = rw (here, stood) step.faults;
      clock = refl;
    }

    -- what a crash now may leave of the disk, at the level of its record
    new_now : (image : List ℕ) → newest new.calls ≤ moment + 1 → images_of (moment + 1) (slice_get (set before disk new) disk) image → ImageNow new.calls new.bytes image
    new_now image past left = at_now (moment + 1) new.calls new.bytes image past (subst (λ o. images_of (moment + 1) o image) here left)

    old_now : (image : List ℕ) → ImageNow old.calls old.bytes image → images_of moment (slice_get before disk) image
    old_now image left = subst (λ o. images_of moment o image) (sym stood) (now_at moment old.calls old.bytes image sound_old.past left)

    crash_by : newest new.calls ≤ moment + 1 → ((image : List ℕ) → ImageNow new.calls new.bytes image → ImageNow old.calls old.bytes image) → (image : List ℕ) → images_of (moment + 1) (slice_get (set before disk new) disk) image → images_of moment (slice_get before disk) image
    crash_by past leads image left = old_now image (leads image (new_now image past left))

    content_by : new.bytes ≡ old.bytes → bytes_of (slice_get (set before disk new) disk) ≡ bytes_of (slice_get before disk)
    content_by same = rw (here, stood) (ap Some same)

    old_told : (bytes : List ℕ) → bytes_of (slice_get before disk) ≡ Some bytes → old.bytes ≡ bytes
    old_told bytes is = let e : bytes_of (Some old) ≡ Some bytes = subst (λ o. bytes_of o ≡ Some bytes) stood is in cc

    new_told : (bytes : List ℕ) → bytes_of (slice_get (set before disk new) disk) ≡ Some bytes → new.bytes ≡ bytes
    new_told bytes is = let e : bytes_of (Some new) ≡ Some bytes = subst (λ o. bytes_of o ≡ Some bytes) here is in cc

    same_faults : new.faults ≡ old.faults → faults_of (slice_get (set before disk new) disk) ≡ faults_of (slice_get before disk)
    same_faults same = rw (here, stood) (ap (λ n. min n (2 ^ 64 - 1)) same)

    call_ok : {T : Type 0} (answer : T) → Step (moment + 1) old new → new.faults ≡ old.faults → IsCall {T = T} (told before moment clock) (told (set before disk new) (moment + 1) clock) disk (Ok answer)
    call_ok answer step same = record { alone = mem_alone step; one_moment = omega arith; ticks = λ below. refl; failed = λ is. cc; steady = same_faults same; wanting = λ is. cc }

    step_failed : new ≡ failed_at old (moment + 1) → Step (moment + 1) old new
    step_failed is = step_by moment old new FailedCall (ap (λ (k : Kept). k.calls) is) (ap (λ (k : Kept). k.bytes) is) (omega (arith, ap (λ (k : Kept). k.faults) is))

    call_failed : {T : Type 0} → new ≡ failed_at old (moment + 1) → IsCall {T = T} (told before moment clock) (told (set before disk new) (moment + 1) clock) disk (Err Failed)
    call_failed is = record {
      alone = mem_alone (step_failed is);
      one_moment = omega arith;
      ticks = tt;
      failed = λ same. rw (here, stood) (λ below. omega (arith, ap (λ (k : Kept). k.faults) is));
      steady = tt;
      wanting = λ same. cc;
    }

    step_none : new ≡ old → Step (moment + 1) old new
    step_none is = subst (λ k. Step (moment + 1) old k) (sym is) (step_same moment old sound_old)

    call_none : {T : Type 0} → new ≡ old → IsCall {T = T} (told before moment clock) (told (set before disk new) (moment + 1) clock) disk (Err NoMemory)
    call_none is = record { alone = mem_alone (step_none is); one_moment = omega arith; ticks = tt; failed = λ same. cc; steady = tt; wanting = λ same. same_faults (ap (λ (k : Kept). k.faults) is) }

    failed_now : new ≡ failed_at old (moment + 1) → (image : List ℕ) → ImageNow new.calls new.bytes image → ImageNow old.calls old.bytes image
    failed_now is image left = subst (λ (k : Kept). ImageNow k.calls k.bytes image) is left

    none_now : new ≡ old → (image : List ℕ) → ImageNow new.calls new.bytes image → ImageNow old.calls old.bytes image
    none_now is image left = subst (λ (k : Kept). ImageNow k.calls k.bytes image) is left

    failed_crash : new ≡ failed_at old (moment + 1) → (image : List ℕ) → images_of (moment + 1) (slice_get (set before disk new) disk) image → images_of moment (slice_get before disk) image
    failed_crash is = crash_by (step_failed is).newest (failed_now is)

    none_crash : new ≡ old → (image : List ℕ) → images_of (moment + 1) (slice_get (set before disk new) disk) image → images_of moment (slice_get before disk) image
    none_crash is = crash_by (step_none is).newest (none_now is)

    step_did : (did : Did) → new ≡ noted old (moment + 1) did → undone did old.bytes ≡ old.bytes → Step (moment + 1) old new
    step_did did is back = step_by moment old new did (ap (λ (k : Kept). k.calls) is) (ap (undone did) (ap (λ (k : Kept). k.bytes) is) ∙ back) (omega (arith, ap (λ (k : Kept). k.faults) is))

    pub mem_read_at : {T : Type 0} (at : ℕ) (into out : List ℕ) (result : Result T Outage) → Ended old new (moment + 1) (new ≡ noted old (moment + 1) (Read at (length into))) result → OnOk result (out ≡ take (length into) (drop at old.bytes)) → Reads (told before moment clock) (told (set before disk new) (moment + 1) clock) disk at into out result
    mem_read_at at into out (Ok answer) is bytes =
        let step = step_did (Read at (length into)) is refl in
        record {
          call = call_ok answer step (ap (λ (k : Kept). k.faults) is);
          bytes = λ stood_there told_so. bytes ∙ ap (λ (l : List ℕ). take (length into) (drop at l)) (old_told stood_there told_so);
          content = content_by (ap (λ (k : Kept). k.bytes) is);
          crash = crash_by step.newest (λ image left. subst (λ (k : Kept). ImageNow k.calls k.bytes image) is left);
        }
    mem_read_at at into out (Err Failed) is bytes = record { call = call_failed is; bytes = tt; content = content_by (ap (λ (k : Kept). k.bytes) is); crash = failed_crash is }
    mem_read_at at into out (Err NoMemory) is bytes = record { call = call_none is; bytes = tt; content = content_by (ap (λ (k : Kept). k.bytes) is); crash = none_crash is }

    pub mem_len : (result : Result ℕ Outage) → Ended old new (moment + 1) (new ≡ noted old (moment + 1) Length) result → IfOk result (λ n. n ≡ length old.bytes) → TellsLength (told before moment clock) (told (set before disk new) (moment + 1) clock) disk result
    mem_len (Ok n) is long =
        let step = step_did Length is refl in
        record {
          call = call_ok n step (ap (λ (k : Kept). k.faults) is);
          bytes = λ bytes told_so. long ∙ ap length (old_told bytes told_so);
          content = content_by (ap (λ (k : Kept). k.bytes) is);
          crash = crash_by step.newest (λ image left. subst (λ (k : Kept). ImageNow k.calls k.bytes image) is left);
        }
    mem_len (Err Failed) is long = record { call = call_failed is; bytes = tt; content = content_by (ap (λ (k : Kept). k.bytes) is); crash = failed_crash is }
    mem_len (Err NoMemory) is long = record { call = call_none is; bytes = tt; content = content_by (ap (λ (k : Kept). k.bytes) is); crash = none_crash is }

    pub mem_sync : {T : Type 0} (result : Result T Outage) → Ended old new (moment + 1) (new ≡ noted old (moment + 1) Synced) result → Syncs (told before moment clock) (told (set before disk new) (moment + 1) clock) disk result
    mem_sync (Ok answer) is =
        let step = step_did Synced is refl in
        let same = ap (λ (k : Kept). k.bytes) is in
        let only : (image : List ℕ) → ImageNow new.calls new.bytes image → image ≡ new.bytes = λ image left.
        image_settled old.bytes image (subst (λ (k : Kept). ImageNow k.calls k.bytes image) is left) ∙ sym same in
        record {
          call = call_ok answer step (ap (λ (k : Kept). k.faults) is);
          settled = λ bytes told_so image left. only image (new_now image step.newest left) ∙ new_told bytes told_so;
          content = content_by same;
          crash = crash_by step.newest (λ image left. subst (ImageNow old.calls old.bytes) (sym (only image left ∙ same)) sound_old.image);
        }
    mem_sync (Err Failed) is = record { call = call_failed is; settled = tt; content = content_by (ap (λ (k : Kept). k.bytes) is); crash = failed_crash is }
    mem_sync (Err NoMemory) is = record { call = call_none is; settled = tt; content = content_by (ap (λ (k : Kept). k.bytes) is); crash = none_crash is }

    -- the image that a pick leaves is one of those that a crash may leave
    picked_now : (pick : ℕ) → ImageNow old.calls old.bytes (picked pick old.calls old.bytes)
    picked_now pick = by_pick (pick == 0) (pick == 1)
      where
        by_pick : (zeroth first : Bool) → ImageNow old.calls old.bytes (if zeroth then synced_of old.calls old.bytes else (if first then old.bytes else torn pick ((length (synced_of old.calls old.bytes), length old.bytes) ∷ ranges_of old.calls) old.bytes))
        by_pick true first = image_synced (synced_of old.calls old.bytes) (ranges_of old.calls)
        by_pick false true = sound_old.image
        by_pick false false = image_torn pick (synced_of old.calls old.bytes) (ranges_of old.calls) old.bytes sound_old.image

    pub mem_restart : {T : Type 0} (pick : ℕ) (result : Result T Outage) → Ended old new (moment + 1) (RestartedTo old new (moment + 1) pick) result → Restarts (told before moment clock) (told (set before disk new) (moment + 1) clock) disk result
    mem_restart pick (Ok answer) is =
        let step = step_by moment old new (Restarted pick is.change) (ap (λ (k : Kept). k.calls) is.is) is.back (omega (arith, ap (λ (k : Kept). k.faults) is.is)) in
        let same = ap (λ (k : Kept). k.bytes) is.is in
        let only : (image : List ℕ) → ImageNow new.calls new.bytes image → image ≡ picked pick old.calls old.bytes = λ image left.
        image_settled (picked pick old.calls old.bytes) image (subst (λ (k : Kept). ImageNow k.calls k.bytes image) is.is left) in
        record {
          call = call_ok answer step (ap (λ (k : Kept). k.faults) is.is);
          settled = λ bytes told_so image left. only image (new_now image step.newest left) ∙ sym same ∙ new_told bytes told_so;
          crash = crash_by step.newest (λ image left. subst (ImageNow old.calls old.bytes) (sym (only image left)) (picked_now pick));
        }
    mem_restart pick (Err Failed) is = record { call = call_failed is; settled = tt; crash = failed_crash is }
    mem_restart pick (Err NoMemory) is = record { call = call_none is; settled = tt; crash = none_crash is }

    -- a write tears what a crash could leave before
    torn_by : (at : ℕ) (put : List ℕ) → WroteTo old new (moment + 1) at put → newest new.calls ≤ moment + 1 → (image : List ℕ) → images_of (moment + 1) (slice_get (set before disk new) disk) image → (earlier : List ℕ) × images_of moment (slice_get before disk) earlier × Torn at (length put) earlier image
    torn_by at put wrote past image left =
        let now = new_now image past left in
        let so : Image (synced_of old.calls (put_back wrote.change (written old.bytes at put))) ((at, wrote.change.end) ∷ ranges_of old.calls) image = subst (λ (k : Kept). ImageNow k.calls k.bytes image) wrote.is now in
        let back : put_back wrote.change (written old.bytes at put) ≡ old.bytes = ap (put_back wrote.change) (sym (ap (λ (k : Kept). k.bytes) wrote.is)) ∙ wrote.back in
        let is : Image (synced_of old.calls old.bytes) ((at, wrote.change.end) ∷ ranges_of old.calls) image = subst (λ bytes. Image (synced_of old.calls bytes) ((at, wrote.change.end) ∷ ranges_of old.calls) image) back so in (
          image_before (synced_of old.calls old.bytes) (ranges_of old.calls) at wrote.change.end image is,
          old_now _ (is_before (synced_of old.calls old.bytes) (ranges_of old.calls) at wrote.change.end image is),
          torn_from (synced_of old.calls old.bytes) (ranges_of old.calls) at wrote.change.end image is (length put) wrote.end,
        )

    -- a call that left what it found tears nothing
    torn_same : (at n : ℕ) → ((image : List ℕ) → images_of (moment + 1) (slice_get (set before disk new) disk) image → images_of moment (slice_get before disk) image) → (image : List ℕ) → images_of (moment + 1) (slice_get (set before disk new) disk) image → (earlier : List ℕ) × images_of moment (slice_get before disk) earlier × Torn at n earlier image
    torn_same at n leads image left = (image, leads image left, record { no_shorter = omega arith; no_longer = omega arith; outside = λ i within out. refl })

    step_wrote : (at : ℕ) (put : List ℕ) → WroteTo old new (moment + 1) at put → Step (moment + 1) old new
    step_wrote at put wrote = step_by moment old new (Wrote at wrote.change) (ap (λ (k : Kept). k.calls) wrote.is) wrote.back (omega (arith, ap (λ (k : Kept). k.faults) wrote.is))

    pub mem_write_at : {T : Type 0} (at : ℕ) (put : List ℕ) (result : Result T Outage) → Ended old new (moment + 1) (WroteTo old new (moment + 1) at put) result → (2 ^ 40 < at + length put → IsErr result) → Writes (told before moment clock) (told (set before disk new) (moment + 1) clock) disk at put result
    mem_write_at at put (Ok answer) wrote far =
        let step = step_wrote at put wrote in
        record {
          call = call_ok answer step (ap (λ (k : Kept). k.faults) wrote.is);
          content = λ bytes told_so. rw here (ap Some (ap (λ (k : Kept). k.bytes) wrote.is ∙ ap (λ (l : List ℕ). written l at put) (old_told bytes told_so)));
          crash = torn_by at put wrote step.newest;
          too_far = far;
          unchanged = λ beyond. let no = far beyond in cc;
          untorn = λ beyond. let no = far beyond in cc;
        }
    mem_write_at at put (Err Failed) is far = record {
      call = call_failed is;
      content = tt;
      crash = torn_same at (length put) (failed_crash is);
      too_far = far;
      unchanged = λ beyond. content_by (ap (λ (k : Kept). k.bytes) is);
      untorn = λ beyond. failed_crash is;
    }
    mem_write_at at put (Err NoMemory) is far = record {
      call = call_none is;
      content = tt;
      crash = torn_same at (length put) (none_crash is);
      too_far = far;
      unchanged = λ beyond. content_by (ap (λ (k : Kept). k.bytes) is);
      untorn = λ beyond. none_crash is;
    }

-- where no moment is left, nothing is called
module _ (disks : List Kept) (moment clock disk : ℕ) where
  alone_unmade : OnDisk (told disks moment clock) (told disks moment clock) disk
  alone_unmade = record {
    later = omega arith;
    past = λ m d image early left. left;
    kept = λ m d image early left. left;
    told = refl;
    others = λ d other. refl;
    others_images = λ m d image other from to left. at_same m d image from to left;
    others_kept = λ m d image other from to left. at_same_back m d image from to left;
    others_faults = λ d other. refl;
    faults_stay = omega arith;
    clock = refl;
  }
    where
      at_same : (m d : ℕ) (image : List ℕ) → moment ≤ m → m ≤ moment → images_of m (slice_get disks d) image → images_of moment (slice_get disks d) image
      at_same m d image from to left = let e : m ≡ moment = omega arith in subst (λ n. images_of n (slice_get disks d) image) e left

      at_same_back : (m d : ℕ) (image : List ℕ) → moment ≤ m → m ≤ moment → images_of moment (slice_get disks d) image → images_of m (slice_get disks d) image
      at_same_back m d image from to left = let e : moment ≡ m = omega arith in subst (λ n. images_of n (slice_get disks d) image) e left

  call_unmade : {T : Type 0} → IsCall {T = T} (told disks moment clock) (told disks moment clock) disk (Err NoMemory)
  call_unmade = record { alone = alone_unmade; one_moment = omega arith; ticks = tt; failed = λ same. cc; steady = tt; wanting = λ same. refl }

  pub unmade_read_at : {T : Type 0} (at : ℕ) (into out : List ℕ) → Reads {T = T} (told disks moment clock) (told disks moment clock) disk at into out (Err NoMemory)
  unmade_read_at at into out = record { call = call_unmade; bytes = tt; content = refl; crash = λ image left. left }

  pub unmade_write_at : {T : Type 0} (at : ℕ) (put : List ℕ) → Writes {T = T} (told disks moment clock) (told disks moment clock) disk at put (Err NoMemory)
  unmade_write_at at put = record {
    call = call_unmade;
    content = tt;
    crash = λ image left. (image, left, record { no_shorter = omega arith; no_longer = omega arith; outside = λ i within out. refl });
    too_far = λ far. refl;
    unchanged = λ far. refl;
    untorn = λ far image left. left;
  }

  pub unmade_sync : {T : Type 0} → Syncs {T = T} (told disks moment clock) (told disks moment clock) disk (Err NoMemory)
  unmade_sync = record { call = call_unmade; settled = tt; content = refl; crash = λ image left. left }

  pub unmade_restart : {T : Type 0} → Restarts {T = T} (told disks moment clock) (told disks moment clock) disk (Err NoMemory)
  unmade_restart = record { call = call_unmade; settled = tt; crash = λ image left. left }

pub unmade_len : (disks : List Kept) (moment clock disk : ℕ) → TellsLength (told disks moment clock) (told disks moment clock) disk (Err NoMemory)
unmade_len disks moment clock disk = record { call = call_unmade disks moment clock disk; bytes = tt; content = refl; crash = λ image left. left }

-- a call on one of the disks
pub mem_made : {T : Type 0} (before : List Kept) (disk moment : ℕ) (fails : Kept → Bool) (done : Kept → Kept → Type 0) (old new : Kept) (result : Result T Outage) → disk < length before → old ≡ get_or before disk old → Ended old new moment (done old new) result → IsTurn (turn_of (fails old)) result → MemCall before (set before disk new) disk moment fails done result
mem_made before disk moment fails done old new result within is ended turn = record {
  old = old;
  new = new;
  stood = slice_get-get_or before disk old within ∙ ap Some (sym is);
  stands = refl;
  ended = ended;
  due = λ due. by_due (fails old) due turn;
  failed = λ failed. by_failed (fails old) failed turn;
}
  where
    by_due : (b : Bool) → b ≡ true → IsTurn (turn_of b) result → IsErr result
    by_due true e t = t
    by_due false e t = cc

    by_failed : (b : Bool) → IsErrOf result Failed → IsTurn (turn_of b) result → b ≡ true
    by_failed true f t = refl
    by_failed false f t = absurd (t f)
