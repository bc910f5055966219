-- What becomes of the objects of a repository through each call.
use Rattle.commit_log.proofs.ValueLaws.{object_in-writes}
use Rattle.commit_log.specs.Recovered.{after}
use Rattle.commit_log.specs.Values.{object_in, writes_if, writes_of, written_last}
use Rattle.disk_trait.specs.AllDisks.{GoesOn, MayLeaveAll, ReadsAs, TellsAll}
use Rattle.disk_trait.specs.Disks.{Disks, Leaves, OnDisk, WhereTold}
use Rattle.disk_trait.specs.Fused.{fused_disks}
use Rattle.disk_trait.specs.declared.fused.Fused.{Fused}
use Rattle.log_codec.specs.declared.body.Body.TheVariants.{Entry as AnEntry, Installed}
use Rattle.log_codec.specs.declared.state.State.{State}
use Rattle.log_entries.specs.declared.entry.Entry.TheVariants.{Decided, Finished, Life, One, Prepared, Upgraded}
use Rattle.log_entries.specs.declared.entry.Entry.{Entry}
use Rattle.log_entries.specs.declared.request.Request.{Request}
use Rattle.log_frame.specs.Log.{Place}
use Rattle.mob_buffer.proofs.Writes.{same_is, same_refl}
use Rattle.mob_buffer.specs.Buffer.{AreOf, Objects, object_of, same_name, with_all, without_page}
use Rattle.mob_flusher.proofs.Maps.{map_kept, map_settled}
use Rattle.mob_flusher.specs.Images.{IsFlushed, IsImage}
use Rattle.mob_flusher.specs.Map.{Has, HasOver, Kept, with_installed, with_writes}
use Rattle.page_format.specs.Pages.{Contents}
use Rattle.page_store.specs.Sides.{KeepsSides}
use Rattle.page_store.specs.Store.{Agrees}
use Rattle.repo_durable.proofs.Pages.{keeps_written}
use Rattle.repo_durable.proofs.Readable.{SameTold, all_told, is_told, never_torn, out_has, read_keeps, told_at}
use Rattle.repo_durable.proofs.Remembering.{object_entered, entry_sides}
use Rattle.repo_durable.specs.Agreeing.{held_behind, numbers_of}
use Rattle.repo_durable.specs.Kept.{IsKept, IsOpen, IsOpenIn, IsResting, disks_of, down_with, held_of, is_torn, is_torn_in, lowered}
use Rattle.repo_durable.specs.Mapping.{MapTakes, MovesMap, StoreMoves, taken_writes}
use Rattle.repo_durable.specs.Pages.{HasPages}
use Rattle.repo_durable.specs.Remembering.{Remembers}
use Rattle.repo_durable.specs.Saying.{FindsOneOf, ImagesSay, IsInstalling, IsOneOf, IsSaid, ReadIsLeft, SaysIn}
use Rattle.repo_durable.specs.Taking.{TakesFrom}
use Rattle.repo_durable.specs.declared.agreement.Numbers.{Numbers}
use Rattle.repo_durable.specs.declared.recovering.Taken.TheVariants as taken
use Rattle.repo_durable.specs.declared.recovering.Taken.{Taken}
use Rattle.repo_durable.specs.declared.stable.Phase.TheVariants.{Down, Torn, Up}
use Rattle.repo_durable.specs.declared.stable.Phase.{Phase}
use Rattle.repo_durable.specs.declared.stable.Stable.{Stable}
use Rattle.repo_state.proofs.Buffers.{put_all_is}
use Rattle.repo_state.proofs.Tables.{request_open}
use Rattle.repo_state.specs.Entering.{decided_by, entered, finished_by, loaded}
use Rattle.repo_state.specs.Keeps.{Keeps}
use Rattle.repo_state.specs.Said.{said}
use Rattle.repo_state.specs.declared.held.Held.{Held}
use Rattle.std.proofs.Common.{Bool, Err, IfOk, List, None, Ok, OnOk, Option, Result, Some, [], ◌∷◌, ap, arith, cond, false, inl, inr, refl, subst, sym, true, ◌+◌, ◌<◌, ◌∙◌, ◌≡◌, ◌⊎◌, ℕ}
use Rattle.std.proofs.lemmas.Map.Views.{tells_apart}
use Rattle.std.specs.BTreeMap.{insert_entry, is_at}
use Rattle.std.specs.Cmp.{eq_by_cmp_equiv}
use Rattle.std.specs.Ordering.{nat_cmp}
use Rattle.two_phase.specs.Contents.{open_at}
use Rattle.thor_value.proofs.NameOrders.{oref_exact, oref_total}
use Rattle.thor_value.specs.Names.{oref_cmp, same_oref}
use Rattle.thor_value.specs.declared.names.Oref.{Oref}
use Rattle.thor_value.specs.declared.values.Obj.{Obj}

-- ---- the buffer

equal_itself : (k : Oref) → is_at (oref_cmp k) k ≡ true
equal_itself k = (eq_by_cmp_equiv oref_total).refl k

-- the two tests of names are one
same_tests : (x y : Oref) → same_name x y ≡ is_at (oref_cmp x) y
same_tests x y = by (same_name x y) (is_at (oref_cmp x) y) refl refl
  where
    by : (a b : Bool) → same_name x y ≡ a → is_at (oref_cmp x) y ≡ b → a ≡ b
    by true true g h = refl
    by false false g h = refl
    by true false g h = sym (subst (λ (z : Oref). is_at (oref_cmp x) z ≡ true) (same_is x y g) (equal_itself x)) ∙ h
    by false true g h = sym g ∙ subst (λ (z : Oref). same_name x z ≡ true) (tells_apart oref_exact x y h) (same_refl x)

-- an object is found by either
object_both : (objects : Objects) (x : Oref) → object_of objects x ≡ object_in objects x
object_both [] x = refl
object_both (q ∷ objects) x =
    ap (λ (b : Bool). cond b (Some q.1) (object_of objects x)) (same_tests x q.0)
    ∙ ap (λ (o : Option Obj). cond (is_at (oref_cmp x) q.0) (Some q.1) o) (object_both objects x)

object_written : (objects : Objects) (writes : List (Oref × Obj)) (x : Oref) → object_of (with_all objects writes) x ≡ written_last x (object_of objects x) writes
object_written objects writes x =
    object_both (with_all objects writes) x
    ∙ (ap (λ (os : Objects). object_in os x) (put_all_is objects writes)
    ∙ (object_in-writes writes objects x ∙ ap (λ (o : Option Obj). written_last x o writes) (sym (object_both objects x))))

-- ---- one disk

-- what is buffered of the name and which sides are in use is all that counts
pub has_same : (disk : List ℕ) (old new : Kept) (x : Oref) (answer : Option Obj) → object_of new.mob.objects x ≡ object_of old.mob.objects x → new.pages.sides ≡ old.pages.sides → Has disk old x answer → Has disk new x answer
has_same disk old new x answer object sides has =
    subst (λ (o : Option Obj). HasOver o disk new.pages.sides x answer) (sym object)
    (subst (λ (ps : List (ℕ × ℕ)). HasOver (object_of old.mob.objects x) disk ps x answer) (sym sides) has)

over_written : (disk : List ℕ) (sides : List (ℕ × ℕ)) (writes : List (Oref × Obj)) (x : Oref) (o answer : Option Obj) → HasOver o disk sides x answer → HasOver (written_last x o writes) disk sides x (written_last x answer writes)
over_written disk sides [] x o answer has = has
over_written disk sides (w ∷ writes) x o answer has =
    over_written disk sides writes x (cond (same_oref x w.0) (Some w.1) o) (cond (same_oref x w.0) (Some w.1) answer) (by (same_oref x w.0))
  where
    by : (b : Bool) → HasOver (cond b (Some w.1) o) disk sides x (cond b (Some w.1) answer)
    by true = refl
    by false = has

-- what is buffered is what was, with these writes
has_written : (disk : List ℕ) (old new : Kept) (writes : List (Oref × Obj)) (x : Oref) (answer : Option Obj) → object_of new.mob.objects x ≡ written_last x (object_of old.mob.objects x) writes → new.pages.sides ≡ old.pages.sides → Has disk old x answer → Has disk new x (written_last x answer writes)
has_written disk old new writes x answer object sides has =
    subst (λ (o : Option Obj). HasOver o disk new.pages.sides x (written_last x answer writes)) (sym object)
    (subst (λ (ps : List (ℕ × ℕ)). HasOver (written_last x (object_of old.mob.objects x) writes) disk ps x (written_last x answer writes)) (sym sides)
    (over_written disk old.pages.sides writes x (object_of old.mob.objects x) answer has))

-- the sides in use are kept
has_kept : (before after' : List ℕ) (kept : Kept) (x : Oref) (answer : Option Obj) → x.slot < 12 → KeepsSides kept.pages.sides before after' → Has before kept x answer → Has after' kept x answer
has_kept before after' kept x answer fits keeps has = map_kept before after' kept kept x.repo refl refl keeps x answer refl fits has

-- ---- an entry

-- it puts its writes into the objects
entered_objects : (h : Held) (e : Entry) → (entered h e).objects ≡ with_writes h.objects (loaded h e)
entered_objects h (Life n) = refl
entered_objects h (One q) = refl
entered_objects h (Prepared q) = refl
entered_objects h (Upgraded q) = refl
entered_objects h (Decided t commit) = by commit (open_at h.table t)
  where
    by : (c : Bool) (o : Option Request) → (decided_by h t c o).objects ≡ with_writes h.objects (writes_if c o)
    by false None = refl
    by false (Some q) = refl
    by true None = refl
    by true (Some q) = refl
entered_objects h (Finished t commit) = by commit (open_at h.table t)
  where
    by : (c : Bool) (o : Option Request) → (finished_by h t c o).objects ≡ with_writes h.objects (writes_if c o)
    by false None = refl
    by false (Some q) = refl
    by true None = refl
    by true (Some q) = refl

-- the log says the same writes
said_writes : (h : Held) (e : Entry) → Keeps h → writes_of (said h) e ≡ loaded h e
said_writes h (Life n) keeps = refl
said_writes h (One q) keeps = refl
said_writes h (Prepared q) keeps = refl
said_writes h (Upgraded q) keeps = refl
said_writes h (Decided t commit) keeps = ap (writes_if commit) (request_open h.repo h.table keeps.table t)
said_writes h (Finished t commit) keeps = ap (writes_if commit) (request_open h.repo h.table keeps.table t)

-- ---- calls of a repository

one_list : (a b : List ℕ) → Some a ≡ Some b → a ≡ b
one_list a b same = cc

-- nothing is written, and no object moves
pub moves_same : (Told : Type 0) (broken : Bool) (before after' : Option (List ℕ)) (old new : Held) → after' ≡ before → new.objects.mob.objects ≡ old.objects.mob.objects → new.objects.pages.sides ≡ old.objects.pages.sides → MovesMap Told broken [] before old after' new
moves_same Told broken before after' old new content objects sides = record {
  moves = λ told whole disk image was is x answer own fits has.
      let same : image ≡ disk = one_list image disk (sym is ∙ (content ∙ was)) in
      subst (λ (bytes : List ℕ). Has bytes new.objects x answer) (sym same)
      (has_same disk old.objects new.objects x answer (ap (λ (os : Objects). object_of os x) objects) sides has);
}

-- an entry is entered
pub moves_entered : (Told : Type 0) (broken : Bool) (before after' : Option (List ℕ)) (old new : Held) (e : Entry) → after' ≡ before → new ≡ entered old e → MovesMap Told broken (loaded old e) before old after' new
moves_entered Told broken before after' old new e content is = record {
  moves = λ told whole disk image was now' x answer own fits has.
      let same : image ≡ disk = one_list image disk (sym now' ∙ (content ∙ was)) in
      let objects : new.objects ≡ with_writes old.objects (loaded old e) = ap (λ (h : Held). h.objects) is ∙ entered_objects old e in
      subst (λ (bytes : List ℕ). Has bytes new.objects x (written_last x answer (loaded old e))) (sym same)
      (subst (λ (k : Kept). Has disk k x (written_last x answer (loaded old e))) (sym objects)
      (has_written disk old.objects (with_writes old.objects (loaded old e)) (loaded old e) x answer (object_written old.objects.mob.objects (loaded old e) x) refl has));
}

-- what is held says the same, and the disk of pages is as it was
pub moves_read : {P : Type 0} (disks : P → Disks) (store : Stable P) (parts : Fused P) (held : Held) → (fused_disks disks parts).content 2 ≡ (disks_of disks store).content 2 → said held ≡ said store.held → StoreMoves disks [] store (record store { parts = parts; held = held })
moves_read disks store parts held content same =
    moves_same (HasPages disks store) (is_torn store) ((disks_of disks store).content 2) ((fused_disks disks parts).content 2) store.held held content (ap (λ (s : State). s.mob) same) (ap (λ (s : State). s.installed) same)

pub moves_itself : {P : Type 0} (disks : P → Disks) (store : Stable P) → StoreMoves disks [] store store
moves_itself disks store = moves_same (HasPages disks store) (is_torn store) ((disks_of disks store).content 2) ((disks_of disks store).content 2) store.held store.held refl refl refl

pub moves_still : {P : Type 0} (disks : P → Disks) (old new : Stable P) → new ≡ old → StoreMoves disks [] old new
moves_still disks old new same = subst (StoreMoves disks [] old) (sym same) (moves_itself disks old)

pub if_ok_three : {T E : Type 0} (r : Result T E) (A B : T → Type 0) (Q : Type 0) (F : T → Type 0) → IfOk r A → IfOk r B → OnOk r Q → ((x : T) → A x → B x → Q → F x) → IfOk r F
if_ok_three (Ok x) A B Q F a b q f = f x a b q
if_ok_three (Err e) A B Q F a b q f = tt

-- ---- the log is taken out and put back

-- it was taken out
pub moves_out : {P : Type 0} (disks : P → Disks) (writes : List (Oref × Obj)) (old mid new : Stable P) (log : Place) → old.phase ≡ Up log → mid ≡ down_with old None → StoreMoves disks writes mid new → StoreMoves disks writes old new
moves_out {P = P} disks writes old mid new log up same moved = record {
  moves = λ has whole disk image was is.
      subst (λ (h : Held). MapTakes h.repo writes disk h.objects image (held_of new).objects) (ap held_of same)
      (moved.moves (out_has disks old mid log up same has) whole disk image (ap (λ (s : Stable P). (disks_of disks s).content 2) same ∙ was) is);
}

-- it is put back
pub moves_back : {P : Type 0} (disks : P → Disks) (writes : List (Oref × Obj)) (old aft new : Stable P) (phase : Phase) → new ≡ record aft { phase = phase } → is_torn aft ≡ false → StoreMoves disks writes old aft → StoreMoves disks writes old new
moves_back {P = P} disks writes old aft new phase same unbroken moved = record {
  moves = λ has whole disk image was is.
      subst (λ (h : Held). MapTakes (held_of old).repo writes disk (held_of old).objects image h.objects) (sym (ap held_of same))
      (moved.moves has unbroken disk image was (sym (ap (λ (s : Stable P). (disks_of disks s).content 2) same) ∙ is));
}

-- one call behind another that writes nothing
pub moves_then : {P : Type 0} (disks : P → Disks) (writes : List (Oref × Obj)) (old mid new : Stable P) → (HasPages disks old → HasPages disks mid) → (is_torn new ≡ false → is_torn mid ≡ false) → (held_of mid).repo ≡ (held_of old).repo → StoreMoves disks [] old mid → StoreMoves disks writes mid new → StoreMoves disks writes old new
moves_then disks writes old mid new keeps unbroken repo first second = record {
  moves = λ has whole disk image was is x answer own fits here.
      let there = keeps has in
      let between = told_at ((disks_of disks mid).content 2) there.pages_told in
      second.moves there whole between.0 image between.1 is x answer (own ∙ sym repo) fits (first.moves has (unbroken whole) disk between.0 was between.1 x answer own fits here);
}

-- ---- a page is written

-- to the side of it that isn't in use
pub written_moves : {P : Type 0} (disks : P → Disks) (store : Stable P) (parts : Fused P) (held : Held) → SameTold (disks_of disks store) (fused_disks disks parts) → OnDisk (disks_of disks store) (fused_disks disks parts) 2
    → WhereTold (disks_of disks store) 2 (λ disk. Leaves (disks_of disks store) (fused_disks disks parts) 2 (KeepsSides store.held.objects.pages.sides disk))
    → ((bytes : ℕ → List ℕ) → ReadsAs (fused_disks disks parts) bytes → MayLeaveAll (fused_disks disks parts) (fused_disks disks parts).time bytes) → said held ≡ said store.held → StoreMoves disks [] store (record store { parts = parts; held = held })
written_moves disks store parts held told alone any left same = record {
  moves = λ has whole disk image was is x answer own fits here.
      let old = disks_of disks store in
      let new = fused_disks disks parts in
      let were = all_told (is_torn store) store.held.objects.pages.sides old has in
      let tells : TellsAll new = λ d within. told_at (new.content d) (told d ∙ is_told (old.content d) (were d within).0 (were d within).1) in
      let keeps = keeps_written old new store.held.objects.pages.sides alone any left tells disk was image is in
      has_same image store.held.objects held.objects x answer (ap (λ (s : State). object_of s.mob x) same) (ap (λ (s : State). s.installed) same)
      (has_kept disk image store.held.objects x answer fits keeps here);
}

-- the buffer's objects are of a repository as well as of another, where they are of both
own_image : (objects : Objects) (r s : ℕ) (base image : Contents) → AreOf r objects → AreOf s objects → IsImage objects r base image → IsImage objects s base image
own_image [] r s base image a b is = record { number = is.number; below = is.below; rest = is.rest }
own_image (q ∷ objects) r s base image a b is = subst (λ (n : ℕ). IsImage (q ∷ objects) n base image) (sym a.0.repo_is ∙ b.0.repo_is) is

flushed_own : (kept : Kept) (r s page side : ℕ) → AreOf s kept.mob.objects → IsFlushed kept r page side → IsFlushed kept s page side
flushed_own kept r s page side own f = record {
  image = f.image;
  base = f.base;
  number = f.number;
  staged = f.staged;
  held = f.held;
  one_repo = own;
  is_image = own_image kept.mob.objects r s f.base f.image f.one_repo own f.is_image;
}

-- that side comes into use
installed_has : (h new : Held) (repo page side : ℕ) (disk : List ℕ) → Keeps h → IsFlushed h.objects repo page side → Agrees h.objects.pages disk → new.objects.pages.sides ≡ insert_entry nat_cmp h.objects.pages.sides page side
    → (x : Oref) (answer : Option Obj) → object_of new.objects.mob.objects x ≡ object_of (without_page h.objects.mob.objects page) x → x.repo ≡ h.repo → x.slot < 12 → Has disk h.objects x answer → Has disk new.objects x answer
installed_has h new repo page side disk keeps flushed agrees sides x answer object own fits here =
    let mid = with_installed h.objects page side in
    let last = flushed_own h.objects repo h.repo page side keeps.objects flushed in
    has_same disk mid new.objects x answer object sides (map_settled h.objects h.repo page side last disk agrees mid refl refl x answer own fits here)

pub put_moves : {P : Type 0} (disks : P → Disks) (store : Stable P) (parts : Fused P) (held : Held) (log : Place) (repo page side : ℕ) → (fused_disks disks parts).content 2 ≡ (disks_of disks store).content 2 → IsOpen (disks_of disks store) log store.held → IsFlushed store.held.objects repo page side
    → said held ≡ after (said store.held) (Installed page side) → StoreMoves disks [] store (record store { parts = parts; held = held })
put_moves disks store parts held log repo page side content stood flushed same = record {
  moves = λ has whole disk image was is x answer own fits here.
      let one : image ≡ disk = one_list image disk (sym is ∙ (content ∙ was)) in
      subst (λ (bytes : List ℕ). Has bytes held.objects x answer) (sym one)
      (installed_has store.held held repo page side disk stood.keeps flushed (stood.pages disk was) (ap (λ (s : State). s.installed) same) x answer (ap (λ (s : State). object_of s.mob x) same) own fits here);
}

-- ---- a restart

-- what was found says what was held
found_same : (h found : Held) (before image : List ℕ) → Remembers (said found) (said h) → KeepsSides h.objects.pages.sides before image → MapTakes h.repo [] before h.objects image found.objects
found_same h found before image r keeps x answer own fits here =
    has_same image h.objects found.objects x answer (object_both found.objects.mob.objects x ∙ (r.objects x ∙ sym (object_both h.objects.mob.objects x))) r.installed
    (has_kept before image h.objects x answer fits keeps here)

-- with the entry
found_behind : (h found : Held) (e : Entry) (before image : List ℕ) → Keeps h → Remembers (said found) (after (said h) (AnEntry e)) → KeepsSides h.objects.pages.sides before image → MapTakes h.repo (loaded h e) before h.objects image found.objects
found_behind h found e before image kept r keeps x answer own fits here =
    has_written image h.objects found.objects (loaded h e) x answer
    (object_both found.objects.mob.objects x
    ∙ (r.objects x
    ∙ (object_entered (said h) e x
    ∙ (ap (λ (ws : List (Oref × Obj)). written_last x (object_in h.objects.mob.objects x) ws) (said_writes h e kept)
    ∙ ap (λ (o : Option Obj). written_last x o (loaded h e)) (sym (object_both h.objects.mob.objects x))))))
    (r.installed ∙ entry_sides (said h) e)
    (has_kept before image h.objects x answer fits keeps here)

-- with the page that was being put in use
found_installed : (h found : Held) (before image : List ℕ) → Keeps h → IsInstalling h (said found) image → KeepsSides h.objects.pages.sides before image → MapTakes h.repo [] before h.objects image found.objects
found_installed h found before image kept i keeps x answer own fits here =
    installed_has h found i.repo i.page i.side image kept i.flushed i.agrees i.says.installed x answer
    (object_both found.objects.mob.objects x ∙ (i.says.objects x ∙ sym (object_both (without_page h.objects.mob.objects i.page) x))) own fits
    (has_kept before image h.objects x answer fits keeps here)

-- ---- what an image has

-- the objects of a state over this repository's pages
abbrev pub kept_by : Held → State → Kept
kept_by h s = record { pages = record h.objects.pages { sides = s.installed }; mob = record h.objects.mob { objects = s.mob } }

-- it says what is held
image_same : (h : Held) (s : State) (before image : List ℕ) → Remembers s (said h) → KeepsSides h.objects.pages.sides before image → MapTakes h.repo [] before h.objects image (kept_by h s)
image_same h s before image r keeps x answer own fits here =
    has_same image h.objects (kept_by h s) x answer (object_both s.mob x ∙ (r.objects x ∙ sym (object_both h.objects.mob.objects x))) r.installed
    (has_kept before image h.objects x answer fits keeps here)

-- with the entry
image_behind : (h : Held) (s : State) (e : Entry) (before image : List ℕ) → Keeps h → Remembers s (after (said h) (AnEntry e)) → KeepsSides h.objects.pages.sides before image → MapTakes h.repo (loaded h e) before h.objects image (kept_by h s)
image_behind h s e before image kept r keeps x answer own fits here =
    has_written image h.objects (kept_by h s) (loaded h e) x answer
    (object_both s.mob x
    ∙ (r.objects x
    ∙ (object_entered (said h) e x
    ∙ (ap (λ (ws : List (Oref × Obj)). written_last x (object_in h.objects.mob.objects x) ws) (said_writes h e kept)
    ∙ ap (λ (o : Option Obj). written_last x o (loaded h e)) (sym (object_both h.objects.mob.objects x))))))
    (r.installed ∙ entry_sides (said h) e)
    (has_kept before image h.objects x answer fits keeps here)

-- with the page that was being put in use
image_installed : (h : Held) (s : State) (before image : List ℕ) → Keeps h → IsInstalling h s image → KeepsSides h.objects.pages.sides before image → MapTakes h.repo [] before h.objects image (kept_by h s)
image_installed h s before image kept i keeps x answer own fits here =
    installed_has h (record h { objects = kept_by h s }) i.repo i.page i.side image kept i.flushed i.agrees i.says.installed x answer
    (object_both s.mob x ∙ (i.says.objects x ∙ sym (object_both (without_page h.objects.mob.objects i.page) x))) own fits
    (has_kept before image h.objects x answer fits keeps here)

counted : (s a : State) → Remembers s a → s.count ≡ a.count
counted s a r = ap (λ (z : State). z.count) r.rest

never_more : (n m : ℕ) → n ≡ m → n ≡ m + 1 → ⊥
never_more n m a b = omega (arith, a, b)

more_never : (n m : ℕ) → n ≡ m + 1 → n ≡ m → ⊥
more_never n m a b = omega (arith, a, b)

-- a state that counts no more than is held has what is held
pub image_without : (h : Held) (pending : Option Entry) (s : State) (before image : List ℕ) → Keeps h → IsOneOf h pending s image → s.count ≡ h.count → KeepsSides h.objects.pages.sides before image → MapTakes h.repo [] before h.objects image (kept_by h s)
image_without h None s before image kept (inl r) count keeps = image_same h s before image r keeps
image_without h None s before image kept (inr i) count keeps = image_installed h s before image kept i keeps
image_without h (Some e) s before image kept (inl r) count keeps = image_same h s before image r keeps
image_without h (Some e) s before image kept (inr r) count keeps = absurd (more_never s.count h.count (counted s (after (said h) (AnEntry e)) r) count)

-- one that counts one more has the entry's writes, too
pub image_with : (h : Held) (e : Entry) (s : State) (before image : List ℕ) → Keeps h → IsOneOf h (Some e) s image → s.count ≡ h.count + 1 → KeepsSides h.objects.pages.sides before image → MapTakes h.repo (loaded h e) before h.objects image (kept_by h s)
image_with h e s before image kept (inl r) count keeps = absurd (more_never s.count h.count count (counted s (said h) r))
image_with h e s before image kept (inr r) count keeps = image_behind h s e before image kept r keeps

count_of : (a b : Numbers) → a ≡ b → a.count ≡ b.count
count_of a b is = ap (λ (n : Numbers). n.count) is

-- it is what was taken
pub takes_found : (h found : Held) (pending : Option Entry) (t : Taken) (before image : List ℕ) → Keeps h → KeepsSides h.objects.pages.sides before image → IsOneOf h pending (said found) image → TakesFrom pending t → numbers_of found ≡ numbers_of (held_behind h t) → MapTakes h.repo (taken_writes h t) before h.objects image found.objects
takes_found h found None taken.Held before image kept keeps (inl r) from numbers = found_same h found before image r keeps
takes_found h found None taken.Held before image kept keeps (inr i) from numbers = found_installed h found before image kept i keeps
takes_found h found (Some e) taken.Held before image kept keeps (inl r) from numbers = found_same h found before image r keeps
takes_found h found (Some e) taken.Held before image kept keeps (inr r) from numbers =
    absurd (never_more found.count h.count (count_of (numbers_of found) (numbers_of h) numbers) (counted (said found) (after (said h) (AnEntry e)) r))
takes_found h found None (taken.Pending e) before image kept keeps is from numbers = cc
takes_found h found (Some f) (taken.Pending e) before image kept keeps (inl r) from numbers =
    absurd (never_more found.count h.count (counted (said found) (said h) r) (count_of (numbers_of found) (numbers_of (entered h e)) numbers))
takes_found h found (Some f) (taken.Pending e) before image kept keeps (inr r) from numbers =
    let same : f ≡ e = cc in
    found_behind h found e before image kept (subst (λ (g : Entry). Remembers (said found) (after (said h) (AnEntry g))) same r) keeps

-- what was found is taken over
pub restart_moves : {P : Type 0} (disks : P → Disks) (old mid new : Stable P) (Told : Type 0) (pending : Option Entry) (found : Held) (t : Taken) → (Told → HasPages disks old) → IsKept disks old → IsSaid disks old → old.phase ≡ Down pending → ReadIsLeft (disks_of disks old) (disks_of disks mid) → GoesOn (disks_of disks old) (disks_of disks mid)
    → FindsOneOf (disks_of disks old) (disks_of disks mid) (held_of old) (said found) → TakesFrom pending t → numbers_of found ≡ numbers_of (held_behind (held_of old) t) → new.parts ≡ mid.parts → (held_of new).objects ≡ found.objects
    → MovesMap Told (is_torn new) (taken_writes (held_of old) t) ((disks_of disks old).content 2) (held_of old) ((disks_of disks new).content 2) (held_of new)
restart_moves {P = P} disks old mid new Told pending found t to kept is_said down read goes finds from numbers parts objects = record {
  moves = λ told whole disk image was is.
      let before = disks_of disks old in
      let now' = disks_of disks mid in
      let has = to told in
      let were = all_told (is_torn old) old.held.objects.pages.sides before has in
      let tells : TellsAll now' = λ d within. told_at (now'.content d) (goes.told d ∙ is_told (before.content d) (were d within).0 (were d within).1) in
      let says : ImagesSay before old.held pending = subst (SaysIn before old.held) down is_said.says in
      let resting : IsResting old.held pending = subst (IsOpenIn before old.held) down kept.stands in
      let there : now'.content 2 ≡ Some image = sym (ap (λ (p : Fused P). (fused_disks disks p).content 2) parts) ∙ is in
      let keeps = read_keeps before now' old.held pending says read were tells disk was image there in
      subst (λ (k : Kept). MapTakes old.held.repo (taken_writes old.held t) disk old.held.objects image k) (sym objects)
      (takes_found old.held found pending t disk image resting.keeps keeps (finds pending says tells image there) from numbers);
}

-- or nothing is
pub stay_moves : {P : Type 0} (disks : P → Disks) (old mid new : Stable P) (Told : Type 0) (p : Phase) → (Told → HasPages disks old) → IsSaid disks old → old.phase ≡ lowered p → is_torn old ≡ false → ReadIsLeft (disks_of disks old) (disks_of disks mid) → GoesOn (disks_of disks old) (disks_of disks mid) → new.parts ≡ mid.parts → held_of new ≡ held_of old
    → MovesMap Told (is_torn new) [] ((disks_of disks old).content 2) (held_of old) ((disks_of disks new).content 2) (held_of new)
stay_moves {P = P} disks old mid new Told p to is_said down unbroken read goes parts same = record {
  moves = λ told whole disk image was is x answer own fits here.
      let before = disks_of disks old in
      let now' = disks_of disks mid in
      let has = to told in
      let were = all_told (is_torn old) old.held.objects.pages.sides before has in
      let tells : TellsAll now' = λ d within. told_at (now'.content d) (goes.told d ∙ is_told (before.content d) (were d within).0 (were d within).1) in
      let there : now'.content 2 ≡ Some image = sym (ap (λ (q : Fused P). (fused_disks disks q).content 2) parts) ∙ is in
      let keeps = by p down were tells disk was image there in
      subst (λ (h : Held). Has image h.objects x answer) (sym same) (has_kept disk image old.held.objects x answer fits keeps here);
}
  where
    by : (q : Phase) → old.phase ≡ lowered q → TellsAll (disks_of disks old) → TellsAll (disks_of disks mid) → WhereTold (disks_of disks old) 2 (λ b. WhereTold (disks_of disks mid) 2 (KeepsSides old.held.objects.pages.sides b))
    by (Up log) d were tells = read_keeps (disks_of disks old) (disks_of disks mid) old.held None (subst (SaysIn (disks_of disks old) old.held) d is_said.says) read were tells
    by (Down e) d were tells = read_keeps (disks_of disks old) (disks_of disks mid) old.held e (subst (SaysIn (disks_of disks old) old.held) d is_said.says) read were tells
    by (Torn e) d were tells = absurd (never_torn (sym (ap is_torn_in d) ∙ unbroken))
