-- What is proved of local histories, each as one statement. The functions of `history_laws` have them
-- as their clauses.
use Rattle.log_entries.specs.declared.entry.Entry.TheVariants.{Decided, Finished, Life, One, Prepared, Upgraded}
use Rattle.log_entries.specs.declared.entry.Entry.{Entry}
use Rattle.log_entries.specs.declared.request.Request.{Request}
use Rattle.spec_history.specs.History.{Aborted, Base, Committed, CommittedBelow, Fate, IsCommitted, Lives, Open, Known, commits, epoch_of, is_life, last_write, objects_at, known_by, state, writers}
use Rattle.spec_history.specs.Participants.{IsBareUpgrade, takes_part}
use Rattle.spec_history.specs.Requests.{has_created, has_read, has_written, is_upgrade, text_of, written}
use Rattle.spec_history.specs.Sound.{Admits, owes, sound}
use Rattle.std.specs.List.{All, AllPairs, Contains, filter, fold, slice_get}
use Rattle.std.specs.Option.{IsSomeAnd}
use Rattle.std.specs.Prelude.{IsTrue, List, None, Some, [], false, length, take, true, ℕ, ◌+◌, ◌++◌, ◌<◌, ◌≡◌, ◌≢◌, ◌≤◌, ◌↔◌, ◌∷◌, ◌⊎◌}
use Rattle.thor_value.specs.FiniteMap.{Map, get, overwrite}
use Rattle.thor_value.specs.Names.{AtMost, Before, later_of, oref_cmp}
use Rattle.thor_value.specs.declared.names.Oref.{Oref}
use Rattle.thor_value.specs.declared.names.Ts.{Ts}
use Rattle.thor_value.specs.declared.values.Obj.{Obj}

-- A fate becomes another: an undecided one may become any, and the others stay.
abbrev pub FateStays : Fate → Fate → Type 0
FateStays Open g = Unit {0}
FateStays (Committed a) Open = ⊥
FateStays (Committed a) (Committed at) = at ≡ a
FateStays (Committed a) Aborted = ⊥
FateStays Aborted Open = ⊥
FateStays Aborted (Committed at) = ⊥
FateStays Aborted Aborted = Unit {0}

-- How a transaction stands, o, and how it stands later, w: its request keeps its place, and a commit
-- or an abort is final.
pub record Stays (o w : Known) : Type 0 where
  pub place : w.place ≡ o.place
  pub request : w.request ≡ o.request
  pub fate : FateStays o.fate w.fate

-- the entry is the request q
abbrev pub Asks : Entry → Request → Type 0
Asks (Life n) q = ⊥
Asks (One r) q = r ≡ q
Asks (Prepared r) q = r ≡ q
Asks (Decided t c) q = ⊥
Asks (Finished t c) q = ⊥
Asks (Upgraded r) q = r ≡ q

-- the entry commits t
abbrev pub Commits : Entry → Ts → Type 0
Commits (Life n) t = ⊥
Commits (One q) t = q.tx ≡ t
Commits (Prepared q) t = ⊥
Commits (Decided u c) t = (u ≡ t) × (c ≡ true)
Commits (Finished u c) t = (u ≡ t) × (c ≡ true)
Commits (Upgraded q) t = q.tx ≡ t

-- A transaction t that stands in H as o.
pub record Recorded (b : Base) (H : List Entry) (t : Ts) (o : Known) : Type 0 where
  -- its place is one of the history's, and that entry is its request
  pub below : o.place < length H
  pub named : o.request.tx ≡ t
  pub asked : IsSomeAnd (slice_get H o.place) (λ e. Asks e o.request)
  -- the request owed what it owed to the history below it
  pub judged : Admits b (state b (take o.place H)) o.request
  -- where it committed, that is an entry which commits it, and not below its request
  pub committed : (m : ℕ) → o.fate ≡ Committed m → (o.place ≤ m) × (m < length H) × IsSomeAnd (slice_get H m) (λ e. Commits e t)

-- The commits of a history are those of the transactions that stand committed, by rising places.
pub record CommitsListed (b : Base) (H : List Entry) : Type 0 where
  pub rise : AllPairs (λ c d. c.0 < d.0) (commits b H)
  pub listed : (t : Ts) (o : Known) (m : ℕ) → known_by b H t ≡ Some o → o.fate ≡ Committed m → Contains (commits b H) (m, o.request)
  pub stand : (c : ℕ × Request) → Contains (commits b H) c → IsSomeAnd (known_by b H c.1.tx) (λ o. (o.request ≡ c.1) × (o.fate ≡ Committed c.0))

-- a list of commits, applied to objects, to the texts of upgrades, and to the greatest timestamp
abbrev pub with_writes : Map oref_cmp Obj → List (ℕ × Request) → Map oref_cmp Obj
with_writes m cs = fold (λ n c. overwrite n c.1.writes) m cs

abbrev pub with_texts : List (List ℕ) → List (ℕ × Request) → List (List ℕ)
with_texts ts cs = fold (λ us c. us ++ text_of c.1.kind) ts cs

abbrev pub with_stamps : Ts → List (ℕ × Request) → Ts
with_stamps t cs = fold (λ u c. later_of u c.1.tx) t cs

-- The objects, the installed upgrades and the greatest committed timestamp are the base's with the
-- commits, in order.
pub record MadeByCommits (b : Base) (H : List Entry) : Type 0 where
  pub objects : (state b H).objects ≡ with_writes b.objects (commits b H)
  pub texts : (state b H).texts ≡ with_texts b.texts (commits b H)
  pub top : (state b H).top ≡ with_stamps b.top (commits b H)
  -- an object is what the last of its writers wrote, or what the base has
  pub last : (x : Oref) → get (state b H).objects x ≡ last_write x (get b.objects x) (writers b H x)

-- What t reads of x where it stands in H as o and isn't aborted: of the other transactions that wrote
-- x, those that committed below its request are those before it by timestamp, and the object is as
-- the last of them left it.
pub record ReadsObject (b : Base) (H : List Entry) (t : Ts) (o : Known) (x : Oref) : Type 0 where
  pub there : known_by b H t ≡ Some o
  pub lives : Lives o.fate
  pub read : IsTrue (has_read o.request x)

-- another transaction s that wrote x stands in H as w
pub record WritesObject (b : Base) (H : List Entry) (t s : Ts) (w : Known) (x : Oref) : Type 0 where
  pub there : known_by b H s ≡ Some w
  pub other : s ≢ t
  pub wrote : IsTrue (has_written w.request x)

-- no other transaction that wrote x committed below the place of t, and the object is the base's
pub record NoneWrote (b : Base) (H : List Entry) (t : Ts) (o : Known) (x : Oref) : Type 0 where
  pub none : (s : Ts) (w : Known) → WritesObject b H t s w x → ¬ CommittedBelow o.place w.fate
  pub value : get (objects_at b H o.place) x ≡ get b.objects x

-- s wrote x and committed below the place of t, each other one that did so is before s, and the
-- object is as s wrote it
pub record LastWrote (b : Base) (H : List Entry) (t : Ts) (o : Known) (x : Oref) (s : Ts) (w : Known) : Type 0 where
  pub writes : WritesObject b H t s w x
  pub committed : CommittedBelow o.place w.fate
  pub last : (r : Ts) (v : Known) → WritesObject b H t r v x → CommittedBelow o.place v.fate → r ≢ s → Before r s
  pub value : get (objects_at b H o.place) x ≡ get (written w.request) x

-- What a transaction read is the write of the last transaction before it by timestamp that isn't
-- aborted.
pub record ReadsLast (b : Base) (H : List Entry) : Type 0 where
  -- among the others that wrote x, those that committed below are those before it
  pub same : (t s : Ts) (o w : Known) (x : Oref) → ReadsObject b H t o x → WritesObject b H t s w x → CommittedBelow o.place w.fate ↔ (Lives w.fate × Before s t)
  -- none did, or the last one's write is what stands there
  pub value : (t : Ts) (o : Known) (x : Oref) → ReadsObject b H t o x → NoneWrote b H t o x ⊎ ((s : Ts) × (w : Known) × LastWrote b H t o x s w)

-- no transaction that wrote x has committed, and the object is the base's
pub record Unwritten (b : Base) (H : List Entry) (x : Oref) : Type 0 where
  pub none : (s : Ts) (w : Known) (m : ℕ) → known_by b H s ≡ Some w → w.fate ≡ Committed m → IsTrue (has_written w.request x) → ⊥
  pub value : get (state b H).objects x ≡ get b.objects x

-- s wrote x and committed at the place m, none that wrote x committed behind it, and the object is as s
-- wrote it
pub record WrittenLast (b : Base) (H : List Entry) (x : Oref) (s : Ts) (w : Known) (m : ℕ) : Type 0 where
  pub there : known_by b H s ≡ Some w
  pub fate : w.fate ≡ Committed m
  pub wrote : IsTrue (has_written w.request x)
  pub value : get (state b H).objects x ≡ get (written w.request) x
  pub last : (r : Ts) (v : Known) (n : ℕ) → known_by b H r ≡ Some v → v.fate ≡ Committed n → IsTrue (has_written v.request x) → n ≤ m

-- where the object x comes from at the end of a history
abbrev pub ComesFrom : Base → List Entry → Oref → Type 0
ComesFrom b H x = Unwritten b H x ⊎ ((s : Ts) × (w : Known) × (m : ℕ) × WrittenLast b H x s w m)

-- The transactions s and t stand in H as w and o, neither is aborted, and both wrote x.
pub record BothWrote (b : Base) (H : List Entry) (s t : Ts) (w o : Known) (x : Oref) : Type 0 where
  pub first : known_by b H s ≡ Some w
  pub second : known_by b H t ≡ Some o
  pub first_lives : Lives w.fate
  pub second_lives : Lives o.fate
  pub first_wrote : IsTrue (has_written w.request x)
  pub second_wrote : IsTrue (has_written o.request x)

-- The transactions that wrote one object, and aren't aborted, come in the same order by place and by
-- timestamp.
pub record WritersRise (b : Base) (H : List Entry) : Type 0 where
  -- the earlier one committed below the request of the later one
  pub settled : (s t : Ts) (w o : Known) (x : Oref) → BothWrote b H s t w o x → Before s t → CommittedBelow o.place w.fate
  -- two commits stand in the order of their timestamps
  pub rise : (s t : Ts) (w o : Known) (x : Oref) → BothWrote b H s t w o x → (m n : ℕ) → w.fate ≡ Committed m → o.fate ≡ Committed n → Before s t ↔ (m < n)
  -- at most one is undecided
  pub one_open : (s t : Ts) (w o : Known) (x : Oref) → BothWrote b H s t w o x → w.fate ≡ Open → o.fate ≡ Open → s ≡ t
  -- and it comes after each that committed
  pub open_last : (s t : Ts) (w o : Known) (x : Oref) → BothWrote b H s t w o x → IsCommitted w.fate → o.fate ≡ Open → Before s t

-- The upgrade u and another transaction t stand in H as w and o, and neither is aborted.
pub record BesideUpgrade (b : Base) (H : List Entry) (u t : Ts) (w o : Known) : Type 0 where
  pub upgrade : known_by b H u ≡ Some w
  pub is : IsTrue (is_upgrade w.request)
  pub there : known_by b H t ≡ Some o
  pub other : t ≢ u
  pub upgrade_lives : Lives w.fate
  pub other_lives : Lives o.fate

-- An upgrade is a fence: what is before it by timestamp committed below it, and what is after it by
-- timestamp came when it had committed.
pub record UpgradesFence (b : Base) (H : List Entry) : Type 0 where
  pub before : (u t : Ts) (w o : Known) → BesideUpgrade b H u t w o → Before t u ↔ CommittedBelow w.place o.fate
  pub after : (u t : Ts) (w o : Known) → BesideUpgrade b H u t w o → Before u t ↔ CommittedBelow o.place w.fate

-- In H the transaction t stands as o, and it created x.
pub record Creates (b : Base) (H : List Entry) (t : Ts) (o : Known) (x : Oref) : Type 0 where
  pub there : known_by b H t ≡ Some o
  pub fresh : IsTrue (has_created o.request x)
  pub wrote : IsTrue (has_written o.request x)

-- A created object is new.
pub record CreatedOnce (b : Base) (H : List Entry) : Type 0 where
  -- it wasn't there
  pub unused : (t : Ts) (o : Known) (x : Oref) → Creates b H t o x → get (objects_at b H o.place) x ≡ None
  -- no request below wrote it
  pub first_by_place : (t s : Ts) (o w : Known) (x : Oref) → Creates b H t o x → known_by b H s ≡ Some w → w.place < o.place → has_written w.request x ≡ false
  -- nor did a transaction with a lesser timestamp, where neither is aborted
  pub first_by_time : (t s : Ts) (o w : Known) (x : Oref) → Creates b H t o x → Lives o.fate → known_by b H s ≡ Some w → Lives w.fate → Before s t → has_written w.request x ≡ false

-- The entry e owes nothing to the history H, which stays sound with it.
abbrev pub Continues : Base → List Entry → Entry → Type 0
Continues b H e = owes b (state b H) e × sound b (H ++ e ∷ [])

-- The lives of a repository follow one another: the first entry is one, and each is one above the last.
pub record LivesFollow (b : Base) (H : List Entry) : Type 0 where
  pub first : (e : Entry) → slice_get H 0 ≡ Some e → e ≡ Life (b.life + 1)
  -- the present life is told by how many there are
  pub count : (state b H).life ≡ b.life + length (filter is_life H)
  pub each : (i n : ℕ) → slice_get H i ≡ Some (Life n) → n ≡ (state b (take i H)).life + 1

-- none of these commits is an upgrade's: upgrades write nothing
abbrev pub NoUpgrades : List (ℕ × Request) → Type 0
NoUpgrades cs = All (λ c. is_upgrade c.1 ≡ false) cs

-- What holds of the upgrades of a history.
pub record UpgradesAreBare (b : Base) (H : List Entry) : Type 0 where
  -- one that stands changes no object, and all repositories take part in it
  pub bare : (t : Ts) (o : Known) → known_by b H t ≡ Some o → IsTrue (is_upgrade o.request) → IsBareUpgrade b o.request
  pub wide : (t : Ts) (o : Known) (n : ℕ) → known_by b H t ≡ Some o → IsTrue (is_upgrade o.request) → n < b.repos → IsTrue (takes_part b.repo o.request n)
  -- so none is among those that wrote an object
  pub plain : (x : Oref) → NoUpgrades (writers b H x)
  -- and one that commits at once does so where this repository is all there is
  pub one : (m : ℕ) (q : Request) → slice_get H m ≡ Some (Upgraded q) → b.repos ≤ 1

-- What a base is, a sound history keeps.
pub record KeepsBase (b : Base) (H : List Entry) : Type 0 where
  -- the objects are this repository's, and no upgrade is missing to their versions
  pub here : (x : Oref) (o : Obj) → get (state b H).objects x ≡ Some o → x.repo ≡ b.repo
  pub versions : (x : Oref) (o : Obj) → get (state b H).objects x ≡ Some o → o.ver ≤ epoch_of (state b H)
  -- no last single commit is above the greatest timestamp that committed
  pub alone : (c : ℕ) (t : Ts) → get (state b H).alone c ≡ Some t → AtMost t (state b H).top
