-- What becomes of the objects of a repository in its events.
use Rattle.commit_log.specs.Values.{writes_if, written_last}
use Rattle.disk_trait.specs.Disks.{Disks}
use Rattle.log_entries.specs.declared.entry.Entry.TheVariants.{Decided, Finished, Life, One, Prepared, Upgraded}
use Rattle.log_entries.specs.declared.entry.Entry.{Entry}
use Rattle.log_entries.specs.declared.request.Kind.TheVariants.{App, Transform, Upgrade}
use Rattle.log_entries.specs.declared.request.Kind.{Kind}
use Rattle.log_entries.specs.declared.request.Request.{Request}
use Rattle.mob_buffer.proofs.Sizes.{found_fits}
use Rattle.mob_buffer.specs.Buffer.{AreOf, Objects, object_of}
use Rattle.mob_flusher.specs.Images.{IsImage, ShowsImage, name_of}
use Rattle.mob_flusher.specs.Map.{Has, HasOver, Kept, PageHas}
use Rattle.object_codec.specs.Spelling.{obj_bytes}
use Rattle.page_format.proofs.Pages.{one_page}
use Rattle.page_format.specs.Pages.{Contents}
use Rattle.page_format.specs.Sides.{side_in_use}
use Rattle.page_store.specs.Sides.{Shows}
use Rattle.repo_core.specs.Behind.{MovesObjects, Stands, alone_entry}
use Rattle.repo_core.specs.Moving.{Falls, MakesRoom}
use Rattle.repo_core.specs.Objects.{ObjectsTake}
use Rattle.repo_core.specs.Shown.{Shown, ShowsPages, WholeIfUp, shown}
use Rattle.repo_durable.proofs.Mapping.{moves_entered, moves_same, moves_then}
use Rattle.repo_durable.proofs.Readable.{told_at}
use Rattle.repo_durable.proofs.Remembering.{again, last_of}
use Rattle.repo_durable.specs.Kept.{disks_of, held_of, is_torn, is_torn_in, is_up, is_up_in}
use Rattle.repo_durable.specs.Mapping.{StoreMoves}
use Rattle.repo_durable.specs.Pages.{HasPages}
use Rattle.repo_durable.specs.declared.stable.Phase.TheVariants.{Down, Torn, Up}
use Rattle.repo_durable.specs.declared.stable.Phase.{Phase}
use Rattle.repo_durable.specs.declared.stable.Stable.{Stable}
use Rattle.repo_refusals.specs.declared.refusal.Refusal.{Refusal}
use Rattle.law_repo_memory.specs.Running.{held_with}
use Rattle.repo_core.specs.Restarting.{Takes}
use Rattle.repo_state.specs.Entering.{decided_by, entered, finished_by, loaded}
use Rattle.repo_state.specs.declared.held.Held.{Held}
use Rattle.repo_trace.specs.Recorded.{Recorded}
use Rattle.repo_volatile.specs.Volatile.{Memory}
use Rattle.std.proofs.Common.{Bool, Err, List, None, Ok, OnOk, Option, Result, Some, [], ◌∷◌, ap, false, refl, subst, sym, true, ◌<◌, ◌∙◌, ◌≡◌, ℕ}
use Rattle.std.specs.Option.{is_some, option_map_or}
use Rattle.std.specs.Prelude.{OnErr}
use Rattle.thor_value.specs.FiniteMap.{get}
use Rattle.thor_value.specs.declared.memory.NoMemory.{NoMemory}
use Rattle.thor_value.specs.declared.names.Oref.{Oref}
use Rattle.thor_value.specs.declared.values.Obj.{Obj}
use Rattle.two_phase.specs.Contents.{open_at}

-- ---- one that is up isn't torn

whole_in : (p : Phase) → is_up_in p ≡ true → is_torn_in p ≡ false
whole_in (Up log) up = refl
whole_in (Down e) up = absurd (cc)
whole_in (Torn e) up = absurd (cc)

pub whole_up : {P : Type 0} (store : Stable P) → is_up store ≡ true → is_torn store ≡ false
whole_up store up = whole_in store.phase up

pub whole_answered : {P X : Type 0} (r : Result X Refusal) (store : Stable P) → Stands true r (is_up store) → OnOk r (is_torn store ≡ false)
whole_answered (Ok x) store stands = whole_up store stands.1
whole_answered (Err e) store stands = tt

pub shown_whole : {P : Type 0} (disks : P → Disks) (stable : Stable P) (memory : Memory) (trace : Recorded) (n : ℕ) (s : Shown) → shown disks stable memory trace n ≡ s → WholeIfUp s
shown_whole disks stable memory trace n s is = subst WholeIfUp is (record { whole = λ up. whole_up stable up })

-- ---- one event

pub objects_still : (x y : Shown) → y.pages ≡ x.pages → y.held.objects ≡ x.held.objects → ObjectsTake [] x y
objects_still x y pages objects = moves_same (ShowsPages x) y.is_torn x.pages y.pages x.held y.held pages (ap (λ (k : Kept). k.mob.objects) objects) (ap (λ (k : Kept). k.pages.sides) objects)

pub objects_held : (x y : Shown) → y.pages ≡ x.pages → y.held ≡ x.held → ObjectsTake [] x y
objects_held x y pages held = objects_still x y pages (ap (λ (h : Held). h.objects) held)

pub objects_itself : (x : Shown) → ObjectsTake [] x x
objects_itself x = objects_held x x refl refl

-- one event behind another that writes nothing
pub objects_then : (writes : List (Oref × Obj)) (x y z : Shown) → (ShowsPages x → ShowsPages y) → y.is_torn ≡ false → MovesObjects x.held y.held → ObjectsTake [] x y → ObjectsTake writes y z → ObjectsTake writes x z
objects_then writes x y z keeps whole moves first second = record {
  moves = λ told unbroken disk image was is o answer own fits here.
      let there = keeps told in
      let between = told_at y.pages there.pages_told in
      second.moves there unbroken between.0 image between.1 is o answer (own ∙ sym (ap (λ (h : Held). h.repo) moves)) fits (first.moves told whole disk between.0 was between.1 o answer own fits here);
}

-- behind it nothing moves
pub objects_on : (writes : List (Oref × Obj)) (x y z : Shown) → y.is_torn ≡ false → ObjectsTake writes x y → z.pages ≡ y.pages → z.held.objects ≡ y.held.objects → ObjectsTake writes x z
objects_on writes x y z whole first pages objects = record {
  moves = λ told unbroken disk image was is o answer own fits here.
      subst (λ (k : Kept). Has image k o (written_last o answer writes)) (sym objects)
      (first.moves told whole disk image was (sym pages ∙ is) o answer own fits here);
}

-- two events, of which the other writes nothing
pub objects_behind : (writes : List (Oref × Obj)) (x y z : Shown) → (ShowsPages x → ShowsPages y) → y.is_torn ≡ false → y.held.repo ≡ x.held.repo → ObjectsTake writes x y → ObjectsTake [] y z → ObjectsTake writes x z
objects_behind writes x y z keeps whole repo first second = record {
  moves = λ told unbroken disk image was is o answer own fits here.
      let there = keeps told in
      let between = told_at y.pages there.pages_told in
      second.moves there unbroken between.0 image between.1 is o (written_last o answer writes) (own ∙ sym repo) fits (first.moves told whole disk between.0 was between.1 o answer own fits here);
}

-- what is shown of a store
pub objects_shown : {P : Type 0} (disks : P → Disks) (writes : List (Oref × Obj)) (store : Stable P) (M : Memory) (t : Recorded) (n : ℕ) (x y : Shown) → shown disks store M t n ≡ x → ObjectsTake writes (shown disks store M t n) y → ObjectsTake writes x y
objects_shown disks writes store M t n x y is takes = subst (λ (s : Shown). ObjectsTake writes s y) is takes

-- ---- flushes, one behind the other

pub moves_next : {P : Type 0} (disks : P → Disks) (old mid new : Stable P) → (HasPages disks old → HasPages disks mid) → is_up mid ≡ true → MovesObjects (held_of old) (held_of mid) → StoreMoves disks [] old mid → StoreMoves disks [] mid new → StoreMoves disks [] old new
moves_next disks old mid new keeps up moves first second = moves_then disks [] old mid new keeps (λ whole. whole_up mid up) (ap (λ (h : Held). h.repo) moves) first second

-- ---- an entry

-- it couldn't be entered
pub moves_pended : {P : Type 0} (disks : P → Disks) (writes : List (Oref × Obj)) (old mid new : Stable P) (e : Entry) → is_up mid ≡ true → (disks_of disks new).content 2 ≡ (disks_of disks mid).content 2 → Falls mid new e → StoreMoves disks writes old mid → StoreMoves disks writes old new
moves_pended disks writes old mid new e up content falls first = record {
  moves = λ has whole disk image was is o answer own fits here.
      subst (λ (h : Held). Has image h.objects o (written_last o answer writes)) (sym (falls.held whole))
      (first.moves has (whole_up mid up) disk image was (sym content ∙ is) o answer own fits here);
}

-- it was written into the log
written_first : {P : Type 0} (disks : P → Disks) (old mid : Stable P) → held_of mid ≡ held_of old → (disks_of disks mid).content 2 ≡ (disks_of disks old).content 2 → StoreMoves disks [] old mid
written_first disks old mid held content =
    moves_same (HasPages disks old) (is_torn mid) ((disks_of disks old).content 2) ((disks_of disks mid).content 2) (held_of old) (held_of mid) content (ap (λ (h : Held). h.objects.mob.objects) held) (ap (λ (h : Held). h.objects.pages.sides) held)

-- and is recorded
pub written_objects : {P : Type 0} (disks : P → Disks) (old mid new : Stable P) (e f : Entry) → e ≡ f → (HasPages disks old → HasPages disks mid) → is_up mid ≡ true → held_of mid ≡ held_of old → (disks_of disks mid).content 2 ≡ (disks_of disks old).content 2
    → (disks_of disks new).content 2 ≡ (disks_of disks mid).content 2 → held_of new ≡ entered (held_of mid) e → StoreMoves disks (loaded (held_of old) f) old new
written_objects disks old mid new e f same keeps up held before content entered =
    subst (λ (d : Entry). StoreMoves disks (loaded (held_of old) d) old new) same
    (subst (λ (h : Held). StoreMoves disks (loaded h e) old new) held
    (moves_then disks (loaded (held_of mid) e) old mid new keeps (λ whole. whole_up mid up) (ap (λ (h : Held). h.repo) held) (written_first disks old mid held before)
    (moves_entered (HasPages disks mid) (is_torn new) ((disks_of disks mid).content 2) ((disks_of disks new).content 2) (held_of mid) (held_of new) e content entered)))

-- or it couldn't be entered
pub rested_objects : {P : Type 0} (disks : P → Disks) (old mid new : Stable P) (e : Entry) → is_up mid ≡ true → held_of mid ≡ held_of old → (disks_of disks mid).content 2 ≡ (disks_of disks old).content 2 → (disks_of disks new).content 2 ≡ (disks_of disks mid).content 2 → Falls mid new e → StoreMoves disks [] old new
rested_objects disks old mid new e up held before content falls = moves_pended disks [] old mid new e up content falls (written_first disks old mid held before)

same_loaded : (h : Held) (k : Kept) (e : Entry) → loaded (record h { objects = k }) e ≡ loaded h e
same_loaded h k (Life n) = refl
same_loaded h k (One q) = refl
same_loaded h k (Prepared q) = refl
same_loaded h k (Decided t c) = refl
same_loaded h k (Finished t c) = refl
same_loaded h k (Upgraded q) = refl

-- what it writes is what it writes where objects have moved
loaded_moved : (h g : Held) (e : Entry) → MovesObjects h g → loaded g e ≡ loaded h e
loaded_moved h g e moves = ap (λ (k : Held). loaded k e) moves ∙ same_loaded h g.objects e

alone_writes : (h : Held) (k : Kind) (q : Request) → loaded h (alone_entry k q) ≡ q.writes
alone_writes h App q = refl
alone_writes h Transform q = refl
alone_writes h (Upgrade text) q = refl

-- behind room that was made
pub objects_written : (x y z : Shown) (e : Entry) (writes : List (Oref × Obj)) → (ShowsPages x → ShowsPages y) → y.is_torn ≡ false → MakesRoom x y → ObjectsTake [] x y → loaded x.held e ≡ writes → ObjectsTake (loaded y.held e) y z → ObjectsTake writes x z
objects_written x y z e writes keeps whole made first same second =
    objects_then writes x y z keeps whole made.held first
    (subst (λ (ws : List (Oref × Obj)). ObjectsTake ws y z) (loaded_moved x.held y.held e made.held ∙ same) second)

pub objects_alone : (x y z : Shown) (e : Entry) (q : Request) → e ≡ alone_entry q.kind q → (ShowsPages x → ShowsPages y) → y.is_torn ≡ false → MakesRoom x y → ObjectsTake [] x y → ObjectsTake (loaded y.held e) y z → ObjectsTake q.writes x z
objects_alone x y z e q is keeps whole made first second =
    objects_written x y z e q.writes keeps whole made first (ap (λ (d : Entry). loaded x.held d) is ∙ alone_writes x.held q.kind q) second

-- of what isn't open nothing is written
pub none_open : (o : Option Request) (commit : Bool) → is_some o ≡ false → writes_if commit o ≡ []
none_open None commit is = refl
none_open (Some q) commit is = absurd (cc)

-- what was told stands, where it is answered
pub on_told : {X : Type 0} (r : Result X Refusal) (told : Result (Unit {0}) NoMemory) (A : Type 0) → OnOk r (told ≡ Ok tt) → OnOk told A → OnOk r A
on_told (Ok x) told A is on = subst (λ (t : Result (Unit {0}) NoMemory). OnOk t A) is on
on_told (Err e) told A is on = tt

pub either_way : {X : Type 0} (r : Result X Refusal) (A B F : Type 0) → OnOk r A → OnErr r B → (A → F) → (B → F) → F
either_way (Ok x) A B F a b f g = f a
either_way (Err e) A B F a b f g = g b

-- ---- a restart

-- writes that were put already change nothing
last_again : (x : Oref) (writes : List (Oref × Obj)) (answer : Option Obj) → written_last x (written_last x answer writes) writes ≡ written_last x answer writes
last_again x writes answer = sym (again x writes answer (written_last x answer writes) (last_of x writes) refl)

-- the pending entry was taken with its objects, and is entered then
pub moves_again : {P : Type 0} (disks : P → Disks) (old mid new : Stable P) (e : Entry) → (HasPages disks old → HasPages disks mid) → is_up mid ≡ true → MovesObjects (held_of old) (held_of mid) → (disks_of disks new).content 2 ≡ (disks_of disks mid).content 2 → held_of new ≡ entered (held_of mid) e
    → StoreMoves disks (loaded (held_of old) e) old mid → StoreMoves disks (loaded (held_of old) e) old new
moves_again disks old mid new e keeps up moves content held first =
    let second = moves_entered (HasPages disks mid) (is_torn new) ((disks_of disks mid).content 2) ((disks_of disks new).content 2) (held_of mid) (held_of new) e content held in
    record {
      moves = λ has whole disk image was is o answer own fits here.
          let there = keeps has in
          let between = told_at ((disks_of disks mid).content 2) there.pages_told in
          let mid_has = first.moves has (whole_up mid up) disk between.0 was between.1 o answer own fits here in
          let done = second.moves there whole between.0 image between.1 is o (written_last o answer (loaded (held_of old) e)) (own ∙ sym (ap (λ (h : Held). h.repo) moves)) fits mid_has in
          let same : loaded (held_of mid) e ≡ loaded (held_of old) e = loaded_moved (held_of old) (held_of mid) e moves in
          subst (λ (a : Option Obj). Has image (held_of new).objects o a) (ap (λ (ws : List (Oref × Obj)). written_last o (written_last o answer (loaded (held_of old) e)) ws) same ∙ last_again o (loaded (held_of old) e) answer) done;
    }

-- of one that is torn nothing is said
pub objects_torn : (x y : Shown) → y.is_torn ≡ true → ObjectsTake [] x y
objects_torn x y torn = record { moves = λ told whole. absurd (let no : true ≡ false = sym torn ∙ whole in cc) }

taken_number : (h : Held) (taken : Option Entry) → (held_with h taken).repo ≡ h.repo
taken_number h None = refl
taken_number h (Some (Life n)) = refl
taken_number h (Some (One q)) = refl
taken_number h (Some (Prepared q)) = refl
taken_number h (Some (Upgraded q)) = refl
taken_number h (Some (Decided t c)) = by c (open_at h.table t)
  where
    by : (b : Bool) (o : Option Request) → (decided_by h t b o).repo ≡ h.repo
    by false None = refl
    by false (Some q) = refl
    by true None = refl
    by true (Some q) = refl
taken_number h (Some (Finished t c)) = by c (open_at h.table t)
  where
    by : (b : Bool) (o : Option Request) → (finished_by h t b o).repo ≡ h.repo
    by false None = refl
    by false (Some q) = refl
    by true None = refl
    by true (Some q) = refl

-- what is taken is of the same repository
pub taken_repo : (x y : Shown) → Takes x y → y.held.repo ≡ x.held.repo
taken_repo x y takes = ap (λ (h : Held). h.repo) takes.held ∙ (taken_number takes.moved takes.taken ∙ ap (λ (h : Held). h.repo) takes.moves)

-- what was found is taken, and a life begins
pub objects_begun : (writes : List (Oref × Obj)) (x y z w : Shown) → (ShowsPages x → ShowsPages y) → (ShowsPages y → ShowsPages z) → y.is_torn ≡ false → z.is_torn ≡ y.is_torn → y.held.repo ≡ x.held.repo → ObjectsTake writes x y → z.pages ≡ y.pages → z.held ≡ record y.held { table = z.held.table } → ObjectsTake [] z w → ObjectsTake writes x w
objects_begun writes x y z w keeps on whole torn repo first pages dropped second =
    objects_behind writes x z w (λ told. on (keeps told)) (torn ∙ whole) (ap (λ (h : Held). h.repo) dropped ∙ repo)
    (objects_on writes x y z whole first pages (ap (λ (h : Held). h.objects) dropped)) second

pub on_ok3 : {X E : Type 0} (r : Result X E) (A B C F : Type 0) → OnOk r A → OnOk r B → OnOk r C → (A → B → C → F) → OnOk r F
on_ok3 (Ok x) A B C F a b c f = f a b c
on_ok3 (Err e) A B C F a b c f = tt

-- ---- a page that is sent

same_kept : (p q : Contents) (slot : ℕ) (answer : Option Obj) → get q.objects slot ≡ get p.objects slot → PageHas p slot answer → PageHas q slot answer
same_kept p q slot (Some object) same has = (same ∙ has.0, has.1)
same_kept p q slot None same has = same ∙ has

one_shown : (disk : List ℕ) (in_use : Option ℕ) (page : ℕ) (p q : Contents) → Shows disk in_use page p → Shows disk in_use page q → p ≡ q
one_shown disk (Some side) page p q a b = one_page p q a.objects.fits b.objects.fits (sym a.is ∙ b.is)
one_shown disk None page p q a b = a ∙ sym b

shown_number : (disk : List ℕ) (in_use : Option ℕ) (page : ℕ) (p : Contents) → Shows disk in_use page p → p.number ≡ page
shown_number disk (Some side) page p a = a.number_is
shown_number disk None page p a = ap (λ (c : Contents). c.number) a

own_image : (objects : Objects) (r s : ℕ) (base image : Contents) → AreOf r objects → AreOf s objects → IsImage objects r base image → IsImage objects s base image
own_image [] r s base image a b is = record { number = is.number; below = is.below; rest = is.rest }
own_image (q ∷ objects) r s base image a b is = subst (λ (n : ℕ). IsImage (q ∷ objects) n base image) (sym a.0.repo_is ∙ b.0.repo_is) is

-- it has what the repository has
pub image_has : (disk : List ℕ) (kept : Kept) (page repo : ℕ) (image : Contents) → AreOf repo kept.mob.objects → ShowsImage disk kept page image → (o : Oref) (answer : Option Obj) → o.repo ≡ repo → o.page ≡ page → o.slot < 12 → Has disk kept o answer → PageHas image o.slot answer
image_has disk kept page repo image own s o answer of_repo at fits has =
    let is : IsImage kept.mob.objects repo s.base image = own_image kept.mob.objects s.repo repo s.base image s.one_repo own s.is_image in
    let number : s.base.number ≡ page = shown_number disk (side_in_use kept.pages.sides page) page s.base s.shows in
    let name : name_of repo s.base.number o.slot ≡ o = ap (λ (r : ℕ). name_of r s.base.number o.slot) (sym of_repo) ∙ ap (λ (p : ℕ). name_of o.repo p o.slot) (number ∙ sym at) in
    let slot = is.below o.slot fits ∙ ap (λ (y : Oref). option_map_or (λ object. Some (obj_bytes object)) (object_of kept.mob.objects y) (get s.base.objects o.slot)) name in
    by (object_of kept.mob.objects o) refl slot has
  where
    by : (b : Option Obj) → object_of kept.mob.objects o ≡ b → get image.objects o.slot ≡ option_map_or (λ object. Some (obj_bytes object)) b (get s.base.objects o.slot) → HasOver b disk kept.pages.sides o answer → PageHas image o.slot answer
    by (Some object) is slot here = subst (λ (a : Option Obj). PageHas image o.slot a) (sym here) (slot, found_fits repo kept.mob.objects o object own is)
    by None is slot here =
        let shows = subst (λ (n : ℕ). Shows disk (side_in_use kept.pages.sides n) n here.0) at here.1 in
        let one = one_shown disk (side_in_use kept.pages.sides page) page here.0 s.base shows s.shows in
        same_kept here.0 image o.slot answer (slot ∙ sym (ap (λ (c : Contents). get c.objects o.slot) one)) here.2
