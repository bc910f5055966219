-- A call on one of the disks in memory is a call on the parts, and leaves each disk sound.
use Rattle.std.proofs.Common.{◌≡◌, ℕ, ◌+◌, ◌^◌, ◌<◌, Bool, List, [], ◌∷◌, length, set, Option, Some, None, Result, Ok, Err, IsErr, IsErrOf, IfOk, OnOk, refl, ap, sym, ◌∙◌, subst, arith, slice_get, take, drop, zero, suc}
use Rattle.std.proofs.lemmas.List.Elements.{All-set}
use Rattle.std.specs.List.{All}
use Rattle.disk_trait.specs.Images.{Image}
use Rattle.disk_trait.specs.Change.{put_back}
use Rattle.disk_trait.specs.Disks.{IsSettled, written}
use Rattle.disk_trait.specs.Calls.{Reads, Writes, Syncs, TellsLength, Restarts}
use Rattle.disk_trait.specs.Record.{ImageAt, synced_of, ranges_of, picked}
use Rattle.disk_trait.specs.Kept.{Kept, noted, failed_at, WroteTo, RestartedTo, IsSound, Ended}
use Rattle.disk_trait.specs.Mem.{told, MemCall, fresh, bytes_of, images_of}
use Rattle.disk_trait.specs.MemLaws.{sound_at}
use Rattle.disk_trait.specs.declared.record.Did.TheVariants.{Read, Length, Synced}
use Rattle.disk_trait.specs.declared.parts.Outage.{Outage}
use Rattle.disk_trait.specs.declared.parts.Outage.TheVariants.{Failed, NoMemory}
use Rattle.disk_trait.proofs.ImageLaws.{image_settled, image_synced, image_written}
use Rattle.disk_trait.proofs.MemCalls.{mem_read_at, mem_write_at, mem_len, mem_sync, mem_restart}

-- a disk that nobody has called is sound
pub sound_fresh : (moment : ℕ) (bytes : List ℕ) → IsSound moment (fresh bytes)
sound_fresh moment bytes = record { image = image_synced bytes []; past = omega arith }

pub sound_later : (moment : ℕ) (disk : Kept) → IsSound moment disk → IsSound (moment + 1) disk
sound_later moment disk sound = record { image = sound.image; past = omega (arith, sound.past) }

sound_failed : (moment : ℕ) (old new : Kept) → IsSound moment old → new ≡ failed_at old (moment + 1) → IsSound (moment + 1) new
sound_failed moment old new sound is = subst (IsSound (moment + 1)) (sym is) (record { image = sound.image; past = omega arith })

-- what is done is sound
abbrev KeepsSound : ℕ → (Kept → Kept → Type 0) → Type 0
KeepsSound moment done = (old new : Kept) → IsSound moment old → done old new → IsSound (moment + 1) new

sound_ended : {T : Type 0} (moment : ℕ) (done : Kept → Kept → Type 0) (old new : Kept) → KeepsSound moment done → IsSound moment old → (result : Result T Outage) → Ended old new (moment + 1) (done old new) result → IsSound (moment + 1) new
sound_ended moment done old new keeps sound (Ok answer) is = keeps old new sound is
sound_ended moment done old new keeps sound (Err Failed) is = sound_failed moment old new sound is
sound_ended moment done old new keeps sound (Err NoMemory) is = subst (IsSound (moment + 1)) (sym is) (sound_later moment old sound)

-- the disks after a call
sound_made : {T : Type 0} (before after : List Kept) (disk moment : ℕ) (fails : Kept → Bool) (done : Kept → Kept → Type 0) (result : Result T Outage) → KeepsSound moment done → All (IsSound moment) before → MemCall before after disk (moment + 1) fails done result → All (IsSound (moment + 1)) after
sound_made before after disk moment fails done result keeps sound made =
    let one = sound_ended moment done made.old made.new keeps (sound_at moment before disk made.old sound made.stood) result made.ended in
    subst (All (IsSound (moment + 1))) (sym made.stands) (All-set (IsSound (moment + 1)) before disk made.new one (λ k d within. sound_later moment _ (sound k d within)))

keeps_read : (moment at n : ℕ) → KeepsSound moment (λ old new. new ≡ noted old (moment + 1) (Read at n))
keeps_read moment at n old new sound is = subst (IsSound (moment + 1)) (sym is) (record { image = sound.image; past = omega arith })

keeps_len : (moment : ℕ) → KeepsSound moment (λ old new. new ≡ noted old (moment + 1) Length)
keeps_len moment old new sound is = subst (IsSound (moment + 1)) (sym is) (record { image = sound.image; past = omega arith })

keeps_sync : (moment : ℕ) → KeepsSound moment (λ old new. new ≡ noted old (moment + 1) Synced)
keeps_sync moment old new sound is = subst (IsSound (moment + 1)) (sym is) (record { image = image_synced old.bytes []; past = omega arith })

keeps_write : (moment at : ℕ) (put : List ℕ) → KeepsSound moment (λ old new. WroteTo old new (moment + 1) at put)
keeps_write moment at put old new sound wrote =
    let back : put_back wrote.change (written old.bytes at put) ≡ old.bytes = ap (put_back wrote.change) (sym (ap (λ (k : Kept). k.bytes) wrote.is)) ∙ wrote.back in
    let left : Image (synced_of old.calls old.bytes) ((at, wrote.change.end) ∷ ranges_of old.calls) (written old.bytes at put) =
    subst (λ (n : ℕ). Image (synced_of old.calls old.bytes) ((at, n) ∷ ranges_of old.calls) (written old.bytes at put)) (sym wrote.end) (image_written (synced_of old.calls old.bytes) (ranges_of old.calls) old.bytes at put sound.image) in
    subst (IsSound (moment + 1)) (sym wrote.is) (record {
      image = subst (λ bytes. Image (synced_of old.calls bytes) ((at, wrote.change.end) ∷ ranges_of old.calls) (written old.bytes at put)) (sym back) left;
      past = omega arith;
    })

keeps_restart : (moment pick : ℕ) → KeepsSound moment (λ old new. RestartedTo old new (moment + 1) pick)
keeps_restart moment pick old new sound made = subst (IsSound (moment + 1)) (sym made.is) (record { image = image_synced (picked pick old.calls old.bytes) []; past = omega arith })

keeps_refused : (moment : ℕ) → KeepsSound moment (λ old new. ⊥)
keeps_refused moment old new sound none = absurd none

-- each call, by what it made
module _ (before after : List Kept) (disk moment clock : ℕ) (sound : All (IsSound moment) before) where
  pub sound_read : {T : Type 0} (at : ℕ) (into : List ℕ) (fails : Kept → Bool) (result : Result T Outage) → MemCall before after disk (moment + 1) fails (λ old new. new ≡ noted old (moment + 1) (Read at (length into))) result → All (IsSound (moment + 1)) after
  sound_read at into fails result made = sound_made before after disk moment fails _ result (keeps_read moment at (length into)) sound made

  pub lift_read : {T : Type 0} (at : ℕ) (into out : List ℕ) (fails : Kept → Bool) (result : Result T Outage) → MemCall before after disk (moment + 1) fails (λ old new. new ≡ noted old (moment + 1) (Read at (length into))) result → OnOk result ((old : Kept) → slice_get before disk ≡ Some old → out ≡ take (length into) (drop at old.bytes)) → Reads (told before moment clock) (told after (moment + 1) clock) disk at into out result
  lift_read {T = T} at into out fails result made bytes = rw made.stands (mem_read_at before moment clock disk made.old made.stood sound made.new at into out result made.ended (on_ok result bytes))
    where
      on_ok : (r : Result T Outage) → OnOk r ((old : Kept) → slice_get before disk ≡ Some old → out ≡ take (length into) (drop at old.bytes)) → OnOk r (out ≡ take (length into) (drop at made.old.bytes))
      on_ok (Ok answer) h = h made.old made.stood
      on_ok (Err e) h = tt

  pub sound_len : (fails : Kept → Bool) (result : Result ℕ Outage) → MemCall before after disk (moment + 1) fails (λ old new. new ≡ noted old (moment + 1) Length) result → All (IsSound (moment + 1)) after
  sound_len fails result made = sound_made before after disk moment fails _ result (keeps_len moment) sound made

  pub lift_len : (fails : Kept → Bool) (result : Result ℕ Outage) → MemCall before after disk (moment + 1) fails (λ old new. new ≡ noted old (moment + 1) Length) result → IfOk result (λ n. (old : Kept) → slice_get before disk ≡ Some old → n ≡ length old.bytes) → TellsLength (told before moment clock) (told after (moment + 1) clock) disk result
  lift_len fails result made bytes = rw made.stands (mem_len before moment clock disk made.old made.stood sound made.new result made.ended (if_ok result bytes))
    where
      if_ok : (r : Result ℕ Outage) → IfOk r (λ n. (old : Kept) → slice_get before disk ≡ Some old → n ≡ length old.bytes) → IfOk r (λ n. n ≡ length made.old.bytes)
      if_ok (Ok n) h = h made.old made.stood
      if_ok (Err e) h = tt

  pub sound_sync : {T : Type 0} (fails : Kept → Bool) (result : Result T Outage) → MemCall before after disk (moment + 1) fails (λ old new. new ≡ noted old (moment + 1) Synced) result → All (IsSound (moment + 1)) after
  sound_sync fails result made = sound_made before after disk moment fails _ result (keeps_sync moment) sound made

  pub lift_sync : {T : Type 0} (fails : Kept → Bool) (result : Result T Outage) → MemCall before after disk (moment + 1) fails (λ old new. new ≡ noted old (moment + 1) Synced) result → Syncs (told before moment clock) (told after (moment + 1) clock) disk result
  lift_sync fails result made = rw made.stands (mem_sync before moment clock disk made.old made.stood sound made.new result made.ended)

  pub sound_restart : {T : Type 0} (pick : ℕ) (fails : Kept → Bool) (result : Result T Outage) → MemCall before after disk (moment + 1) fails (λ old new. RestartedTo old new (moment + 1) pick) result → All (IsSound (moment + 1)) after
  sound_restart pick fails result made = sound_made before after disk moment fails _ result (keeps_restart moment pick) sound made

  pub lift_restart : {T : Type 0} (pick : ℕ) (fails : Kept → Bool) (result : Result T Outage) → MemCall before after disk (moment + 1) fails (λ old new. RestartedTo old new (moment + 1) pick) result → Restarts (told before moment clock) (told after (moment + 1) clock) disk result
  lift_restart pick fails result made = rw made.stands (mem_restart before moment clock disk made.old made.stood sound made.new pick result made.ended)

  pub sound_write : {T : Type 0} (at : ℕ) (put : List ℕ) (fails : Kept → Bool) (result : Result T Outage) → MemCall before after disk (moment + 1) fails (λ old new. WroteTo old new (moment + 1) at put) result → All (IsSound (moment + 1)) after
  sound_write at put fails result made = sound_made before after disk moment fails _ result (keeps_write moment at put) sound made

  pub lift_write : {T : Type 0} (at : ℕ) (put : List ℕ) (fails : Kept → Bool) (result : Result T Outage) → MemCall before after disk (moment + 1) fails (λ old new. WroteTo old new (moment + 1) at put) result → (2 ^ 40 < at + length put → IsErr result) → Writes (told before moment clock) (told after (moment + 1) clock) disk at put result
  lift_write at put fails result made far = rw made.stands (mem_write_at before moment clock disk made.old made.stood sound made.new at put result made.ended far)

-- the same where the next moment has a name of its own
module _ (before after : List Kept) (disk moment next clock : ℕ) (is : next ≡ moment + 1) (sound : All (IsSound moment) before) where
  pub kept_read : {T : Type 0} (at : ℕ) (into out : List ℕ) (fails : Kept → Bool) (result : Result T Outage) → MemCall before after disk next fails (λ old new. new ≡ noted old next (Read at (length into))) result → OnOk result ((old : Kept) → slice_get before disk ≡ Some old → out ≡ take (length into) (drop at old.bytes)) → All (IsSound next) after × Reads (told before moment clock) (told after next clock) disk at into out result
  kept_read {T = T} at into out fails result =
      let P : ℕ → Type 0 = λ n. MemCall before after disk n fails (λ old new. new ≡ noted old n (Read at (length into))) result → OnOk result ((old : Kept) → slice_get before disk ≡ Some old → out ≡ take (length into) (drop at old.bytes)) → All (IsSound n) after × Reads {T = T} (told before moment clock) (told after n clock) disk at into out result in
      subst P (sym is) (λ made bytes. (sound_read before after disk moment clock sound at into fails result made, lift_read before after disk moment clock sound at into out fails result made bytes))

  pub kept_len : (fails : Kept → Bool) (result : Result ℕ Outage) → MemCall before after disk next fails (λ old new. new ≡ noted old next Length) result → IfOk result (λ n. (old : Kept) → slice_get before disk ≡ Some old → n ≡ length old.bytes) → All (IsSound next) after × TellsLength (told before moment clock) (told after next clock) disk result
  kept_len fails result =
      let P : ℕ → Type 0 = λ n. MemCall before after disk n fails (λ old new. new ≡ noted old n Length) result → IfOk result (λ n. (old : Kept) → slice_get before disk ≡ Some old → n ≡ length old.bytes) → All (IsSound n) after × TellsLength (told before moment clock) (told after n clock) disk result in
      subst P (sym is) (λ made bytes. (sound_len before after disk moment clock sound fails result made, lift_len before after disk moment clock sound fails result made bytes))

  pub kept_sync : {T : Type 0} (fails : Kept → Bool) (result : Result T Outage) → MemCall before after disk next fails (λ old new. new ≡ noted old next Synced) result → All (IsSound next) after × Syncs (told before moment clock) (told after next clock) disk result
  kept_sync {T = T} fails result =
      let P : ℕ → Type 0 = λ n. MemCall before after disk n fails (λ old new. new ≡ noted old n Synced) result → All (IsSound n) after × Syncs {T = T} (told before moment clock) (told after n clock) disk result in
      subst P (sym is) (λ made. (sound_sync before after disk moment clock sound fails result made, lift_sync before after disk moment clock sound fails result made))

  pub kept_restart : {T : Type 0} (pick : ℕ) (fails : Kept → Bool) (result : Result T Outage) → MemCall before after disk next fails (λ old new. RestartedTo old new next pick) result → All (IsSound next) after × Restarts (told before moment clock) (told after next clock) disk result
  kept_restart {T = T} pick fails result =
      let P : ℕ → Type 0 = λ n. MemCall before after disk n fails (λ old new. RestartedTo old new n pick) result → All (IsSound n) after × Restarts {T = T} (told before moment clock) (told after n clock) disk result in
      subst P (sym is) (λ made. (sound_restart before after disk moment clock sound pick fails result made, lift_restart before after disk moment clock sound pick fails result made))

  pub kept_write : {T : Type 0} (at : ℕ) (put : List ℕ) (fails : Kept → Bool) (result : Result T Outage) → MemCall before after disk next fails (λ old new. WroteTo old new next at put) result → (2 ^ 40 < at + length put → IsErr result) → All (IsSound next) after × Writes (told before moment clock) (told after next clock) disk at put result
  kept_write {T = T} at put fails result =
      let P : ℕ → Type 0 = λ n. MemCall before after disk n fails (λ old new. WroteTo old new n at put) result → (2 ^ 40 < at + length put → IsErr result) → All (IsSound n) after × Writes {T = T} (told before moment clock) (told after n clock) disk at put result in
      subst P (sym is) (λ made far. (sound_write before after disk moment clock sound at put fails result made, lift_write before after disk moment clock sound at put fails result made far))

-- there is a disk of each number
pub disk_there : (disks : List Kept) (d : ℕ) → d < length disks → (one : Kept) × (slice_get disks d ≡ Some one) × (set disks d one ≡ disks)
disk_there [] d within = absurd (omega arith)
disk_there (one ∷ disks) zero within = (one, refl, refl)
disk_there (one ∷ disks) (suc d) within =
    let more = disk_there disks d (omega arith) in
    (more.0, more.1, ap (λ l. one ∷ l) more.2)

-- nothing was called
pub mem_unmade : {T : Type 0} (before : List Kept) (disk moment : ℕ) (fails : Kept → Bool) (done : Kept → Kept → Type 0) (result : Result T Outage) → disk < length before → IsErrOf result NoMemory → MemCall before before disk moment fails done result
mem_unmade before disk moment fails done (Ok answer) within none = cc
mem_unmade before disk moment fails done (Err Failed) within none = cc
mem_unmade before disk moment fails done (Err NoMemory) within none =
    let one = disk_there before disk within in
    record { old = one.0; new = one.0; stood = one.1; stands = sym one.2; ended = refl; due = λ due. refl; failed = λ same. cc }

-- Disks that nobody has called are settled.
pub fresh_settled : (log0 log1 pages : List ℕ) (clock d : ℕ) → IsSettled (told (fresh log0 ∷ fresh log1 ∷ fresh pages ∷ []) 0 clock) d
fresh_settled log0 log1 pages clock d = λ bytes told_so image left. by_disk (slice_get (fresh log0 ∷ fresh log1 ∷ fresh pages ∷ []) d) (all_fresh d) bytes told_so image left
  where
    all_fresh : (k : ℕ) (one : Kept) → slice_get (fresh log0 ∷ fresh log1 ∷ fresh pages ∷ []) k ≡ Some one → one ≡ fresh one.bytes
    all_fresh zero one is = let e : fresh log0 ≡ one = cc in sym e ∙ ap (λ (k : Kept). fresh k.bytes) e
    all_fresh (suc zero) one is = let e : fresh log1 ≡ one = cc in sym e ∙ ap (λ (k : Kept). fresh k.bytes) e
    all_fresh (suc (suc zero)) one is = let e : fresh pages ≡ one = cc in sym e ∙ ap (λ (k : Kept). fresh k.bytes) e
    all_fresh (suc (suc (suc k))) one is = cc

    by_disk : (o : Option Kept) → ((one : Kept) → o ≡ Some one → one ≡ fresh one.bytes) → (bytes : List ℕ) → bytes_of o ≡ Some bytes → (image : List ℕ) → images_of 0 o image → image ≡ bytes
    by_disk None new bytes told_so image left = absurd left
    by_disk (Some one) new bytes told_so image left =
        let is : one ≡ fresh one.bytes = new one refl in
        let same : one.bytes ≡ bytes = cc in
        let now : Image one.bytes [] image = subst (λ (k : Kept). ImageAt 0 k.calls k.bytes image) is left in
        image_settled one.bytes image now ∙ same

pub made_settled : (one two three : Kept) (log0 log1 pages : List ℕ) → one ≡ fresh log0 → two ≡ fresh log1 → three ≡ fresh pages → (clock d : ℕ) → IsSettled (told (one ∷ two ∷ three ∷ []) 0 clock) d
made_settled one two three log0 log1 pages is_one is_two is_three clock d =
    let same : one ∷ two ∷ three ∷ [] ≡ fresh log0 ∷ fresh log1 ∷ fresh pages ∷ [] = ap (λ (k : Kept). k ∷ two ∷ three ∷ []) is_one ∙ ap (λ (k : Kept). fresh log0 ∷ k ∷ three ∷ []) is_two ∙ ap (λ (k : Kept). fresh log0 ∷ fresh log1 ∷ k ∷ []) is_three in
    subst (λ (disks : List Kept). IsSettled (told disks 0 clock) d) (sym same) (fresh_settled log0 log1 pages clock d)
