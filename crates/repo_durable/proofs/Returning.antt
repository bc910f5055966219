-- What a restart finds is what is held, or that with the pending entry.
use Rattle.log_entries.specs.declared.entry.Entry.{Entry}
use Rattle.log_entries.specs.declared.entry.Entry.TheVariants.{Decided, Finished, Life, One, Prepared, Upgraded}
use Rattle.log_entries.specs.declared.request.Request.{Request}
use Rattle.disk_trait.specs.AllDisks.{LeavesAll, MayLeaveAll, ReadsAs, SameContent, TellsAll}
use Rattle.disk_trait.proofs.Several.{all_now}
use Rattle.disk_trait.specs.Disks.{Disks, NoNewImage, OnDisk, WhereTold}
use Rattle.disk_trait.specs.Fused.{armed, fused_disks}
use Rattle.disk_trait.specs.declared.fused.Fused.{Fused}
use Rattle.repo_state.proofs.Tables.{request_open}
use Rattle.repo_state.specs.Entering.{decided_by, entered, finished_by}
use Rattle.repo_state.specs.Keeps.{Keeps}
use Rattle.repo_state.specs.Said.{said}
use Rattle.repo_state.specs.declared.held.Held.{Held}
use Rattle.log_codec.specs.declared.body.Body.TheVariants.{Entry as AnEntry, Installed}
use Rattle.log_codec.specs.declared.state.State.{State}
use Rattle.log_frame.specs.Log.{Opened, Place, read_log}
use Rattle.mob_flusher.specs.Map.{Kept}
use Rattle.page_format.specs.declared.format.StoreFormat.TheVariants as written
use Rattle.page_format.specs.declared.format.StoreFormat.{StoreFormat}
use Rattle.page_store.specs.Sides.{ReachesSides, side_bytes}
use Rattle.repo_durable.proofs.Remembering.{comes_back, comes_behind, comes_installed}
use Rattle.repo_durable.proofs.Pages.{one_disk, reads_of, tells_before, tells_on}
use Rattle.repo_durable.proofs.Saying.{log_same, log_says, said_in_phase}
use Rattle.repo_durable.specs.Agreeing.{numbers_of}
use Rattle.repo_durable.specs.Kept.{disks_of, down, is_torn_in, lowered}
use Rattle.repo_durable.specs.Remembering.{Remembers}
use Rattle.repo_durable.specs.Saying.{FindsOneOf, ImagesSay, IsAhead, IsAheadIn, IsOneOf, IsSaid, LeavesNoMore, LogSays, ReadIsLeft, SaysIn}
use Rattle.repo_durable.specs.declared.agreement.Numbers.{Numbers}
use Rattle.repo_durable.specs.declared.stable.Phase.TheVariants.{Down, Torn, Up}
use Rattle.repo_durable.specs.declared.stable.Phase.{Phase}
use Rattle.repo_durable.specs.declared.stable.Stable.{Stable}
use Rattle.commit_log.proofs.Formats.{format_stays}
use Rattle.commit_log.specs.Holds.{Holds}
use Rattle.commit_log.specs.Opening.{IsFresh}
use Rattle.commit_log.specs.Recovered.{after, chosen, closed, decided, kept_by, opened_without, stands, state_in}
use Rattle.std.proofs.Common.{Bool, Err, List, None, Ok, Option, Result, Some, ap, arith, false, inl, inr, length, refl, true, subst, sym, ◌+◌, ◌<◌, ◌∙◌, ◌≡◌, ◌⊎◌, ℕ}
use Rattle.std.proofs.lemmas.Bool.{cases_eq}
use Rattle.std.specs.Option.{IfSome, IsSome, option_and_then}
use Rattle.std.specs.Prelude.{IfOk, OnErr, OnOk}
use Rattle.disk_trait.proofs.Several.{goes_one}
use Rattle.thor_value.specs.declared.names.Ts.{Ts}
use Rattle.two_phase.specs.Contents.{open_at}

-- ---- what a crash leaves

pub none_more : (disks : Disks) → LeavesNoMore disks disks
none_more disks = record { images = λ images left. left; tells = λ tells. tells; goes_on = λ tells. tells }

pub more_then : (old mid new : Disks) → LeavesNoMore old mid → LeavesNoMore mid new → LeavesNoMore old new
more_then old mid new first then = record {
  images = λ images left. first.images images (then.images images left);
  tells = λ tells. first.tells (then.tells tells);
  goes_on = λ tells. then.goes_on (first.goes_on tells);
}

pub more_run : (old new : Disks) → LeavesAll old new (MayLeaveAll old old.time) → LeavesNoMore old new
more_run old new leaves = record {
  images = λ images left. all_now old new (MayLeaveAll old old.time) leaves images left;
  tells = λ tells. tells_before old new leaves.goes tells;
  goes_on = λ tells. tells_on old new leaves.goes tells;
}

-- the disk of pages was read
pub more_read : (old new : Disks) → OnDisk old new 2 → NoNewImage old new 2 → LeavesNoMore old new
more_read old new alone crash = record {
  images = λ images left d within. elim (cases_eq d 2) [
    | inl same ↦ subst (λ n. old.images old.time n (images n)) (sym same) (crash (images 2) (subst (λ n. new.images new.time n (images n)) same (left d within)))
    | inr other ↦ alone.others_images new.time d (images d) other alone.later (omega arith) (left d within)
  ];
  tells = λ tells. tells_before old new (goes_one old new 2 alone) tells;
  goes_on = λ tells. tells_on old new (goes_one old new 2 alone) tells;
}

pub images_more : (old new : Disks) (h : Held) (pending : Option Entry) → LeavesNoMore old new → ReadIsLeft old new → ImagesSay old h pending → ImagesSay new h pending
images_more old new h pending more read says = record {
  each = λ tells images left. says.each (more.tells tells) images (more.images images left);
  keeps = λ tells images left disk told page side used.
      let was = more.tells tells in
      let before = was 2 (omega arith) in
      let now' = reads_of new tells in
      let here = says.keeps was images (more.images images left) before.0 before.1 page side used in
      let there = says.keeps was now'.0 (read now'.0 now'.1) before.0 before.1 page side used in
      let same : now'.0 2 ≡ disk = one_disk (new.content 2) (now'.0 2) disk (now'.1 2 (omega arith)) told in
      here ∙ sym (subst (λ (bytes : List ℕ). side_bytes bytes page side ≡ side_bytes before.0 page side) same there);
}

-- ---- what is found

one_state : (s t : State) (o : Option State) → o ≡ Some s → o ≡ Some t → s ≡ t
one_state s t o a b = cc

pub finds_one : (old new : Disks) (log : Place) (h : Held) (s : State) → LeavesNoMore old new → Holds new log s → ((bytes : ℕ → List ℕ) → ReadsAs new bytes → MayLeaveAll new new.time bytes) → FindsOneOf old new h s
finds_one old new log h s more holds left = λ pending says tells disk told.
    let read = reads_of new tells in
    let reads : read.0 2 ≡ disk = one_disk (new.content 2) (read.0 2) disk (read.1 2 (omega arith)) told in
    let there = left read.0 read.1 in
    let one = says.each (more.tells tells) read.0 (more.images read.0 there) in
    let here : stands read.0 ≡ Some s = log_says new log s holds tells read.0 (λ d within. there d (omega (arith, within))) in
    subst (IsOneOf h pending s) reads (subst (λ (t : State). IsOneOf h pending t (read.0 2)) (one_state one.state s (stands read.0) one.stands here) one.says)

-- what was read is what was found: it is found by who goes on
pub finds_then : (old read new : Disks) (h : Held) (s : State) → LeavesNoMore read new → SameContent read new → FindsOneOf old read h s → FindsOneOf old new h s
finds_then old read new h s more same finds = λ pending says tells disk told. finds pending says (more.tells tells) disk (sym (same 2) ∙ told)

-- ---- what isn't taken

fresh_none : (images : ℕ → List ℕ) → IsFresh images → stands images ≡ None
fresh_none images is = ap (λ (o : Option (Result Opened ℕ)). option_and_then state_in (chosen o (read_log (images 1)))) is.0 ∙ ap (λ (o : Option (Result Opened ℕ)). option_and_then state_in (chosen None o)) is.1

never_none : (s : State) (o : Option State) → o ≡ Some s → o ≡ None → ⊥
never_none s o some none = cc

pub reads_same : (old new : Disks) (bytes : ℕ → List ℕ) → SameContent old new → ReadsAs new bytes → ReadsAs old bytes
reads_same old new bytes same reads = λ d within. sym (same d) ∙ reads d within

-- a log that stands for nothing is none of what the disks may have said
never_lost : (old read : Disks) (h : Held) (pending : Option Entry) → LeavesNoMore old read → ((bytes : ℕ → List ℕ) → ReadsAs read bytes → MayLeaveAll read read.time bytes) → ((bytes : ℕ → List ℕ) → ReadsAs read bytes → stands bytes ≡ None) → ImagesSay old h pending → TellsAll old → ⊥
never_lost old read h pending more left lost says tells =
    let got = reads_of read (more.goes_on tells) in
    let one = says.each tells got.0 (more.images got.0 (left got.0 got.1)) in
    never_none one.state (stands got.0) one.stands (lost got.0 got.1)

pub none_lost : (old mid read : Disks) (h : Held) (pending : Option Entry) → LeavesNoMore old read → SameContent mid read → ((bytes : ℕ → List ℕ) → ReadsAs read bytes → MayLeaveAll read read.time bytes) → ((bytes : ℕ → List ℕ) → ReadsAs mid bytes → stands bytes ≡ None) → ImagesSay old h pending → TellsAll old → ⊥
none_lost old mid read h pending more same left lost says tells = never_lost old read h pending more left (λ bytes reads. lost bytes (reads_same mid read bytes same reads)) says tells

pub none_fresh : (old mid read : Disks) (h : Held) (pending : Option Entry) → LeavesNoMore old read → SameContent mid read → ((bytes : ℕ → List ℕ) → ReadsAs read bytes → MayLeaveAll read read.time bytes) → ((bytes : ℕ → List ℕ) → ReadsAs mid bytes → IsFresh bytes) → ImagesSay old h pending → TellsAll old → ⊥
none_fresh old mid read h pending more same left fresh says tells = never_lost old read h pending more left (λ bytes reads. fresh_none bytes (fresh bytes (reads_same mid read bytes same reads))) says tells

-- the disk of pages reaches the sides in use
pub none_lacks : (old read : Disks) (log : Place) (h : Held) (s : State) (pending : Option Entry) → LeavesNoMore old read → Holds read log s → ((bytes : ℕ → List ℕ) → ReadsAs read bytes → MayLeaveAll read read.time bytes) → ImagesSay old h pending → TellsAll old → WhereTold read 2 (λ disk. ReachesSides s.installed disk → ⊥) → ⊥
none_lacks old read log h s pending more holds left says tells lacks =
    let on = more.goes_on tells in
    let got = reads_of read on in
    let there = left got.0 got.1 in
    let one = says.each tells got.0 (more.images got.0 there) in
    let here : stands got.0 ≡ Some s = log_says read log s holds on got.0 (λ d within. there d (omega (arith, within))) in
    lacks (got.0 2) (got.1 2 (omega arith)) (subst (λ (t : State). ReachesSides t.installed (got.0 2)) (one_state one.state s (stands got.0) one.stands here) one.reaches)

-- what is held is of the format that is written, and so is what the disks say
one_format : (h : Held) (pending : Option Entry) (s : State) (image : List ℕ) → IsOneOf h pending s image → s.format ≡ written.Two
one_format h None s image is = elim is [
  | inl back ↦ ap (λ (z : State). z.format) back.rest
  | inr installing ↦ ap (λ (z : State). z.format) installing.says.rest ∙ format_stays (said h) (Installed installing.page installing.side)
]
one_format h (Some e) s image is = elim is [
  | inl back ↦ ap (λ (z : State). z.format) back.rest
  | inr behind ↦ ap (λ (z : State). z.format) behind.rest ∙ format_stays (said h) (AnEntry e)
]

never_both : (f : StoreFormat) → f ≡ written.One → f ≡ written.Two → ⊥
never_both f older newer = cc

pub none_older : (old read : Disks) (log : Place) (h : Held) (s : State) (pending : Option Entry) → LeavesNoMore old read → Holds read log s → ((bytes : ℕ → List ℕ) → ReadsAs read bytes → MayLeaveAll read read.time bytes) → ImagesSay old h pending → TellsAll old → s.format ≡ written.One → ⊥
none_older old read log h s pending more holds left says tells older =
    let on = more.goes_on tells in
    let got = reads_of read on in
    let there = left got.0 got.1 in
    let one = says.each tells got.0 (more.images got.0 there) in
    let here : stands got.0 ≡ Some s = log_says read log s holds on got.0 (λ d within. there d (omega (arith, within))) in
    never_both s.format older (ap (λ (z : State). z.format) (sym (one_state one.state s (stands got.0) one.stands here)) ∙ one_format h pending one.state (got.0 2) one.says)

-- ---- which of the two it is

count_of : (a b : Numbers) → a ≡ b → a.count ≡ b.count
count_of a b is = ap (λ (n : Numbers). n.count) is

same_count : (s a : State) → Remembers s a → s.count ≡ a.count
same_count s a r = ap (λ (z : State). z.count) r.rest

never_one_more : (n m : ℕ) → n ≡ m → n ≡ m + 1 → ⊥
never_one_more n m a b = omega (arith, a, b)

-- where the numbers are those of what is held
pub back_as_held : (found h : Held) (objects : Kept) (pending : Option Entry) (image : List ℕ) → objects ≡ found.objects → numbers_of found ≡ numbers_of h → IsOneOf h pending (said found) image → Remembers (said found) (said (record h { objects = objects }))
back_as_held found h objects pending image taken same is = subst (λ (k : Kept). Remembers (said found) (said (record h { objects = k }))) (sym taken) (by pending is)
  where
    by : (p : Option Entry) → IsOneOf h p (said found) image → Remembers (said found) (said (record h { objects = found.objects }))
    by None (inl r) = comes_back (said found) (said h) r
    by None (inr installing) = comes_installed (said found) (said h) installing.page installing.side installing.says
    by (Some e) (inl r) = comes_back (said found) (said h) r
    by (Some e) (inr r) = absurd (never_one_more found.count h.count (count_of (numbers_of found) (numbers_of h) same) (same_count (said found) (after (said h) (AnEntry e)) r))

-- where they are those behind the entry
pub back_with_pending : (found h : Held) (objects : Kept) (e : Entry) (image : List ℕ) → objects ≡ found.objects → numbers_of found ≡ numbers_of (entered h e) → IsOneOf h (Some e) (said found) image → Remembers (said found) (after (said (record h { objects = objects })) (AnEntry e))
back_with_pending found h objects e image taken same is = subst (λ (k : Kept). Remembers (said found) (after (said (record h { objects = k })) (AnEntry e))) (sym taken) (by is)
  where
    by : IsOneOf h (Some e) (said found) image → Remembers (said found) (after (said (record h { objects = found.objects })) (AnEntry e))
    by (inl r) = absurd (never_one_more found.count h.count (same_count (said found) (said h) r) (count_of (numbers_of found) (numbers_of (entered h e)) same))
    by (inr r) = comes_behind (said found) (said h) e r

-- the numbers that a state says
abbrev numbers_in : State → Numbers
numbers_in s = record { repo = s.repo; repos = s.repos; life = s.life; count = s.count; threshold = s.threshold; epoch = length s.upgrades }

same_numbers : (s a : State) → Remembers s a → numbers_in s ≡ numbers_in a
same_numbers s a r = ap numbers_in r.rest

decided_numbers : (h : Held) (t : Ts) (commit : Bool) (o : Option Request) → numbers_in (kept_by (record (decided (said h) commit o) { prepared = opened_without (said h).prepared t }) t commit) ≡ numbers_of (decided_by h t commit o)
decided_numbers h t true None = refl
decided_numbers h t true (Some q) = refl
decided_numbers h t false None = refl
decided_numbers h t false (Some q) = refl

finished_numbers : (h : Held) (t : Ts) (commit : Bool) (o : Option Request) → numbers_in (record (decided (said h) commit o) { prepared = opened_without (said h).prepared t }) ≡ numbers_of (finished_by h t commit o)
finished_numbers h t true None = refl
finished_numbers h t true (Some q) = refl
finished_numbers h t false None = refl
finished_numbers h t false (Some q) = refl

one_counted : (n : ℕ) (a b : Numbers) → a ≡ b → record a { count = n } ≡ record b { count = n }
one_counted n a b is = ap (λ (c : Numbers). record c { count = n }) is

-- those behind an entry are those of what is held behind it
entered_numbers : (h : Held) (e : Entry) → Keeps h → numbers_in (after (said h) (AnEntry e)) ≡ numbers_of (entered h e)
entered_numbers h (Life n) keeps = refl
entered_numbers h (One q) keeps = refl
entered_numbers h (Prepared q) keeps = refl
entered_numbers h (Upgraded q) keeps = refl
entered_numbers h (Decided t commit) keeps =
    one_counted (h.count + 1) (numbers_in (kept_by (closed (said h) t commit) t commit)) (numbers_of (decided_by h t commit (open_at h.table t)))
    (ap (λ (o : Option Request). numbers_in (kept_by (record (decided (said h) commit o) { prepared = opened_without (said h).prepared t }) t commit)) (request_open h.repo h.table keeps.table t) ∙ decided_numbers h t commit (open_at h.table t))
entered_numbers h (Finished t commit) keeps =
    one_counted (h.count + 1) (numbers_in (closed (said h) t commit)) (numbers_of (finished_by h t commit (open_at h.table t)))
    (ap (λ (o : Option Request). numbers_in (record (decided (said h) commit o) { prepared = opened_without (said h).prepared t })) (request_open h.repo h.table keeps.table t) ∙ finished_numbers h t commit (open_at h.table t))

-- where they are neither, it is none of what the disks may have said
pub neither_of : (found h : Held) (pending : Option Entry) (image : List ℕ) → Keeps h → (numbers_of found ≡ numbers_of h → ⊥) → IfSome pending (λ e. numbers_of found ≡ numbers_of (entered h e) → ⊥) → IsOneOf h pending (said found) image → ⊥
neither_of found h None image keeps held behind (inl r) = held (same_numbers (said found) (said h) r)
neither_of found h None image keeps held behind (inr installing) = held (same_numbers (said found) (after (said h) (Installed installing.page installing.side)) installing.says)
neither_of found h (Some e) image keeps held behind (inl r) = held (same_numbers (said found) (said h) r)
neither_of found h (Some e) image keeps held behind (inr r) = behind (same_numbers (said found) (after (said h) (AnEntry e)) r ∙ entered_numbers h e keeps)

-- ---- while it is down

says_more : (old new : Disks) (h : Held) (p : Phase) → LeavesNoMore old new → ReadIsLeft old new → SaysIn old h (lowered p) → SaysIn new h (lowered p)
says_more old new h (Up log) more read says = images_more old new h None more read says
says_more old new h (Down pending) more read says = images_more old new h pending more read says
says_more old new h (Torn e) more read says = tt

-- nothing was recovered
pub fails_said : {P : Type 0} (disks : P → Disks) (old new : Stable P) (p : Phase) → IsSaid disks old → old.phase ≡ lowered p → LeavesNoMore (disks_of disks old) (disks_of disks new) → ReadIsLeft (disks_of disks old) (disks_of disks new) → new.phase ≡ old.phase → new.held ≡ old.held → IsSaid disks new
fails_said disks old new p is down more read phase held = record {
  says = subst (λ (h : Held). SaysIn (disks_of disks new) h new.phase) (sym held) (subst (SaysIn (disks_of disks new) old.held) (sym (phase ∙ down))
      (says_more (disks_of disks old) (disks_of disks new) old.held p more read (subst (SaysIn (disks_of disks old) old.held) down is.says)));
}

-- what was recovered is one of what the disks may have said
pub restart_finds : {P : Type 0} (disks : P → Disks) (old new : Stable P) (pending : Option Entry) (s : State) → IsSaid disks old → old.phase ≡ Down pending → new.held ≡ old.held → FindsOneOf (disks_of disks old) (disks_of disks new) old.held s → TellsAll (disks_of disks new) → WhereTold (disks_of disks new) 2 (IsOneOf new.held pending s)
restart_finds disks old new pending s is down held found tells disk told =
    subst (λ (h : Held). IsOneOf h pending s disk) (sym held) (found pending (subst (SaysIn (disks_of disks old) old.held) down is.says) tells disk told)

-- it stays down, with what was pending
pub restart_stays : {P : Type 0} (disks : P → Disks) (old mid new : Stable P) (pending : Option Entry) → IsSaid disks old → old.phase ≡ Down pending → LeavesNoMore (disks_of disks old) (disks_of disks mid) → ReadIsLeft (disks_of disks old) (disks_of disks mid) → mid.held ≡ old.held → new.parts ≡ mid.parts → new.held ≡ mid.held → new.phase ≡ Down pending → IsSaid disks new
restart_stays {P = P} disks old mid new pending is down more read held parts same phase =
    let images : ImagesSay (disks_of disks mid) old.held pending = images_more (disks_of disks old) (disks_of disks mid) old.held pending more read (subst (SaysIn (disks_of disks old) old.held) down is.says) in
    let there : ImagesSay (disks_of disks mid) new.held pending = subst (λ (h : Held). ImagesSay (disks_of disks mid) h pending) (sym (same ∙ held)) images in
    said_in_phase disks new pending phase (subst (λ (p : Fused P). ImagesSay (fused_disks disks p) new.held pending) (sym parts) there)

-- it isn't torn: then images of its disks said what it holds, or that with the pending entry
pub restart_never : {P : Type 0} (disks : P → Disks) (old : Stable P) (p : Phase) → IsSaid disks old → old.phase ≡ lowered p → is_torn_in old.phase ≡ false → ((pending : Option Entry) → ImagesSay (disks_of disks old) old.held pending → ⊥) → ⊥
restart_never disks old (Up log) is down whole never = never None (subst (SaysIn (disks_of disks old) old.held) down is.says)
restart_never disks old (Down pending) is down whole never = never pending (subst (SaysIn (disks_of disks old) old.held) down is.says)
restart_never disks old (Torn e) is down whole never = (let no : true ≡ false = sym (ap is_torn_in down) ∙ whole in cc)

-- the stop is taken back
pub tells_armed : {P : Type 0} (disks : P → Disks) (store : Stable P) (parts : Fused P) (calls : ℕ) → parts ≡ armed store.parts calls → TellsAll (disks_of disks store) → TellsAll (disks_of disks (record store { parts = parts }))
tells_armed {P = P} disks store parts calls same tells = subst (λ (p : Fused P). TellsAll (fused_disks disks p)) (sym same) (λ d within. tells d within)

pub tells_down : {P : Type 0} (disks : P → Disks) (old new : Stable P) → new ≡ down old → TellsAll (disks_of disks old) → TellsAll (disks_of disks new)
tells_down {P = P} disks old new same tells = subst (λ (s : Stable P). TellsAll (disks_of disks s)) (sym same) tells

-- what holds of an answer
pub if_ok_on : {T E : Type 0} (r : Result T E) (A B : T → Type 0) → ((x : T) → A x → B x) → IfOk r A → IfOk r B
if_ok_on (Ok x) A B f h = f x h
if_ok_on (Err e) A B f h = tt

pub on_err_two : {T E : Type 0} (r : Result T E) (A B F : Type 0) → OnErr r A → OnErr r B → (A → B → F) → OnErr r F
on_err_two (Ok x) A B F a b f = tt
on_err_two (Err e) A B F a b f = f a b

-- it comes up with what was held
pub returned_held : {P : Type 0} (disks : P → Disks) (old new : Stable P) (found : Held) (log : Place) (pending : Option Entry) → new.parts ≡ old.parts → new.phase ≡ Up log → new.held ≡ record old.held { objects = new.held.objects } → new.held.objects ≡ found.objects → numbers_of found ≡ numbers_of old.held
    → Holds (disks_of disks old) log (said found) → (TellsAll (disks_of disks old) → WhereTold (disks_of disks old) 2 (IsOneOf old.held pending (said found))) → IsSaid disks new
returned_held {P = P} disks old new found log pending parts phase held objects numbers holds one =
    let h : Held = record old.held { objects = new.held.objects } in
    let says : LogSays (disks_of disks old) log (said h) = record { state = said found; holds = holds; says = λ tells. (let pages = tells 2 (omega arith) in back_as_held found old.held new.held.objects pending pages.0 objects numbers (one tells pages.0 pages.1)) } in
    let there : LogSays (disks_of disks new) log (said h) = subst (λ (p : Fused P). LogSays (fused_disks disks p) log (said h)) (sym parts) says in
    record { says = subst (SaysIn (disks_of disks new) new.held) (sym phase) (log_same (disks_of disks new) log (said h) (said new.held) there (ap said held)) }

-- or with the pending entry ahead
pub returned_pending : {P : Type 0} (disks : P → Disks) (old new : Stable P) (found : Held) (log : Place) (pending : Option Entry) (e : Entry) → pending ≡ Some e → new.parts ≡ old.parts → new.phase ≡ Up log → new.held ≡ record old.held { objects = new.held.objects } → new.held.objects ≡ found.objects → numbers_of found ≡ numbers_of (entered old.held e)
    → Holds (disks_of disks old) log (said found) → (TellsAll (disks_of disks old) → WhereTold (disks_of disks old) 2 (IsOneOf old.held pending (said found))) → IsAhead disks new e
returned_pending {P = P} disks old new found log pending e was parts phase held objects numbers holds one =
    let h : Held = record old.held { objects = new.held.objects } in
    let says : LogSays (disks_of disks old) log (after (said h) (AnEntry e)) = record { state = said found; holds = holds; says = λ tells. (let pages = tells 2 (omega arith) in back_with_pending found old.held new.held.objects e pages.0 objects numbers (subst (λ (p : Option Entry). IsOneOf old.held p (said found) pages.0) was (one tells pages.0 pages.1))) } in
    let there : LogSays (disks_of disks new) log (after (said h) (AnEntry e)) = subst (λ (p : Fused P). LogSays (fused_disks disks p) log (after (said h) (AnEntry e))) (sym parts) says in
    record { ahead = subst (IsAheadIn (disks_of disks new) new.held e) (sym phase) (log_same (disks_of disks new) log (after (said h) (AnEntry e)) (after (said new.held) (AnEntry e)) there (ap (λ (g : Held). after (said g) (AnEntry e)) held)) }

pub on_err_any : {T E : Type 0} (r : Result T E) (A : Type 0) → A → OnErr r A
on_err_any (Ok x) A a = tt
on_err_any (Err e) A a = a

pub same_err : {T E : Type 0} (r : Result T E) (a b : E) → r ≡ Err a → r ≡ Err b → a ≡ b
same_err r a b is e = cc

pub none_pending : (pending : Option Entry) → IsSome pending → pending ≡ None → ⊥
none_pending None some is = cc
none_pending (Some e) some is = cc

pub on_ok_any : {T E : Type 0} (r : Result T E) (A : Type 0) → A → OnOk r A
on_ok_any (Ok x) A a = a
on_ok_any (Err e) A a = tt
