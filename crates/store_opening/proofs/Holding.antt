-- What is read of repositories, one behind the other, is what their disks hold.
use Rattle.class_defs.specs.Eager.{eager}
use Rattle.class_defs.specs.Stored.{Objects}
use Rattle.class_defs.specs.declared.store.Plain.{Plain}
use Rattle.class_defs.specs.declared.store.Root.{Root}
use Rattle.log_entries.specs.declared.request.Request.{Request}
use Rattle.disk_trait.specs.AllDisks.{ReadsAs}
use Rattle.disk_trait.specs.Disks.{Disks}
use Rattle.recovery.specs.Found.{recorded}
use Rattle.log_codec.specs.declared.state.State.{State}
use Rattle.recovery.specs.declared.recovered.Recovered.{Recovered}
use Rattle.repo_opening.proofs.Paging.{over_both}
use Rattle.repo_opening.proofs.Reading.{reads_on, recovered_reads}
use Rattle.repo_opening.specs.Paged.{PutsStored}
use Rattle.repo_opening.specs.Recovered.{IsRecovered}
use Rattle.repo_opening.specs.Same.{Same}
use Rattle.commit_log.specs.Recovered.{stands}
use Rattle.std.proofs.Common.{Err, IfOk, List, Ok, OnOk, Result, Some, [], ap, arith, get_or, length, refl, subst, suc, sym, take, zero, ℕ, ◌++◌, ◌+◌, ◌<◌, ◌∙◌, ◌≡◌, ◌∷◌, ◌≤◌}
use Rattle.std.proofs.lemmas.Grind.{flat_map-append}
use Rattle.std.proofs.lemmas.List.{append-nil, map-append}
use Rattle.std.proofs.lemmas.Slice.Zip.{all_zipped_more}
use Rattle.std.specs.List.{AllByRecursion, AllZip, flat_map, fold}
use Rattle.std.specs.Prelude.{IsOk}
use Rattle.repo_opening.specs.declared.repository.Read.{Read}
use Rattle.store_opening.proofs.Bringing.{none_sorted}
use Rattle.store_opening.specs.Joined.{read_states, state_of}
use Rattle.store_opening.specs.OpenedStore.{Holds, Repository, committing, joined, objects_of, paged_of, roots_of, states_of, with_repository}
use Rattle.store_opening.specs.Fitting.{FitTogether, IsMisfit}
use Rattle.store_opening.specs.Unsound.{DontFit}
use Rattle.class_defs.specs.declared.store.Schemas.{Schemas}
use Rattle.store_opening.specs.Reading.{Fit, IsOpened, IsPagedBy, IsStored, PutsAll, ReadAll, StandFor}
use Rattle.store_opening.specs.declared.found.OpenStore.{OpenStore}
use Rattle.thor_value.proofs.FiniteMap.{IsSorted-insert}
use Rattle.thor_value.proofs.NameOrders.{oref_total}
use Rattle.thor_value.specs.FiniteMap.{IsSorted, empty, insert, overwrite}
use Rattle.thor_value.specs.declared.names.Oref.{Oref}
use Rattle.thor_value.specs.declared.values.Obj.{Obj}

-- ---- one repository

-- what was recovered from disks that are as they were is what they stand for
pub known_stands : (part kept : Disks) (r : Recovered) → IsRecovered kept r → (images : ℕ → List ℕ) → Same part kept → ReadsAs part images → stands images ≡ Some (recorded r)
known_stands part kept r known images same reads = recovered_reads kept r known images (reads_on part kept same.content images reads)

pub always : {A E : Type 0} (r : Result A E) (P : Type 0) → P → OnOk r P
always (Ok a) P p = p
always (Err e) P p = tt

pub ok_is : {A E : Type 0} (r : Result A E) (a : A) → r ≡ Ok a → IsOk r
ok_is {A} {E} r a is = subst (λ (q : Result A E). IsOk q) (sym is) refl

pub both_ok : {A E : Type 0} (r : Result A E) (P Q : Type 0) → P → OnOk r Q → OnOk r (P × Q)
both_ok (Ok a) P Q p q = (p, q)
both_ok (Err e) P Q p q = tt

pub ok_at : {A E : Type 0} (r : Result A E) (a : A) (P : A → Type 0) → r ≡ Ok a → IfOk r P → P a
ok_at {A} {E} r a P is h = subst (λ (q : Result A E). IfOk q P) is h

-- ---- several lists side by side

pub all_more : {X : Type 0} (P : X → Type 0) (xs : List X) (x : X) → AllByRecursion P xs → P x → AllByRecursion P (xs ++ x ∷ [])
all_more P [] x all is = (is, tt)
all_more P (y ∷ xs) x all is = (all.0, all_more P xs x all.1 is)

module _ {X Y Z : Type 0} (R : X → Y → Type 0) (S : X → Z → Type 0) where
  -- the i-th of three lists
  pub record AtPlace (zs : List Z) (i : ℕ) (y : Y) : Type 0 where
    pub x : X
    pub z : Z
    pub more : take (suc i) zs ≡ take i zs ++ z ∷ []
    pub first : R x y
    pub second : S x z

  pub at_place : (xs : List X) (ys : List Y) (zs : List Z) (i : ℕ) (y : Y) → AllZip R xs ys → AllZip S xs zs → i < length ys → y ≡ get_or ys i y → AtPlace zs i y
  at_place [] [] zs i y first second within is = absurd (omega (arith, within))
  at_place [] (b ∷ ys) zs i y first second within is = absurd first
  at_place (a ∷ xs) [] zs i y first second within is = absurd first
  at_place (a ∷ xs) (b ∷ ys) [] i y first second within is = absurd second
  at_place (a ∷ xs) (b ∷ ys) (c ∷ zs) zero y first second within is = record { x = a; z = c; more = refl; first = subst (R a) (sym is) first.0; second = second.0 }
  at_place (a ∷ xs) (b ∷ ys) (c ∷ zs) (suc i) y first second within is =
      let rest = at_place xs ys zs i y first.1 second.1 (omega (arith, within)) is in
      record { x = rest.x; z = rest.z; more = ap (λ ds. c ∷ ds) rest.more; first = rest.first; second = rest.second }

  pub all_taken : (xs : List X) (ys : List Y) (zs : List Z) (i : ℕ) → AllZip R xs ys → AllZip S xs zs → length ys ≤ i → take i zs ≡ zs
  all_taken [] ys [] zero first second past = refl
  all_taken [] ys [] (suc i) first second past = refl
  all_taken [] ys (c ∷ zs) i first second past = absurd second
  all_taken (a ∷ xs) [] zs i first second past = absurd first
  all_taken (a ∷ xs) (b ∷ ys) [] i first second past = absurd second
  all_taken (a ∷ xs) (b ∷ ys) (c ∷ zs) zero first second past = absurd (omega (arith, past))
  all_taken (a ∷ xs) (b ∷ ys) (c ∷ zs) (suc i) first second past = ap (λ ds. c ∷ ds) (all_taken xs ys zs i first.1 second.1 (omega (arith, past)))

module _ {X Y : Type 0} (R : X → Y → Type 0) where
  -- a list beside one with a last element
  pub record Ends (xs : List X) (x : X) (ys : List Y) : Type 0 where
    pub before : List Y
    pub last : Y
    pub is : ys ≡ before ++ last ∷ []
    pub each : AllZip R xs before
    pub at_last : R x last

  pub ends : (xs : List X) (x : X) (ys : List Y) → AllZip R (xs ++ x ∷ []) ys → Ends xs x ys
  ends [] x [] each = absurd each
  ends [] x (y ∷ []) each = record { before = []; last = y; is = refl; each = tt; at_last = each.0 }
  ends [] x (y ∷ z ∷ ys) each = absurd each.1
  ends (a ∷ xs) x [] each = absurd each
  ends (a ∷ xs) x (y ∷ ys) each =
      let rest = ends xs x ys each.1 in
      record { before = y ∷ rest.before; last = rest.last; is = ap (λ zs. y ∷ zs) rest.is; each = (each.0, rest.each); at_last = rest.at_last }

-- ---- what is put

pub puts_none : (m : Objects) → PutsAll [] m m
puts_none m = record { pages = []; each = tt; put = refl }

pub puts_start : {P : Type 0} (disks : P → Disks) (images : List (ℕ → List ℕ)) (m : Objects) → ReadAll disks [] images → PutsAll images m m
puts_start disks [] m each = puts_none m
puts_start disks (i ∷ images) m each = absurd each

pub puts_more : (before : List (ℕ → List ℕ)) (last : ℕ → List ℕ) (old mid new : Objects) → PutsAll before old mid → PutsStored last mid new → PutsAll (before ++ last ∷ []) old new
puts_more before last old mid new puts one = record {
  pages = puts.pages ++ one.objects ∷ [];
  each = all_zipped_more IsPagedBy before puts.pages last one.objects puts.each (record { paged = one.paged });
  put = one.put
      ∙ (ap (λ (m : Objects). overwrite m one.objects) puts.put
      ∙ (over_both old (flat_map (λ ws. ws) puts.pages) one.objects
      ∙ ap (λ ws. overwrite old ws) (ap (λ ws. flat_map (λ vs. vs) puts.pages ++ ws) (sym (append-nil one.objects)) ∙ sym (flat_map-append (λ ws. ws) puts.pages (one.objects ∷ [])))));
}

-- a repository more was read, where all before it were
pub puts_next : {A B E F : Type 0} (before : Result A E) (now : Result B F) (done : List (ℕ → List ℕ)) (last : ℕ → List ℕ) (old mid new : Objects) → OnOk before (PutsAll done old mid) → OnOk now (IsOk before × PutsStored last mid new) → OnOk now (PutsAll (done ++ last ∷ []) old new)
puts_next (Ok a) (Ok b) done last old mid new puts one = puts_more done last old mid new puts one.1
puts_next (Err e) (Ok b) done last old mid new puts one = let no = one.0 in cc
puts_next before (Err f) done last old mid new puts one = tt

-- the states of what was read, one more
pub stand_more : (images : List (ℕ → List ℕ)) (states : List State) (image : ℕ → List ℕ) (s : State) → StandFor images states → stands image ≡ Some s → StandFor (images ++ image ∷ []) (states ++ s ∷ [])
stand_more images states image s stand is = all_zipped_more (λ i s. stands i ≡ Some s) images states image s stand is

pub stand_next : (images : List (ℕ → List ℕ)) (i : ℕ) (reads now : List Read) (image : ℕ → List ℕ) (r : Read) → take (suc i) images ≡ take i images ++ image ∷ [] → now ≡ reads ++ r ∷ [] → StandFor (take i images) (read_states reads) → stands image ≡ Some (state_of r) → StandFor (take (i + 1) images) (read_states now)
stand_next images i reads now image r more pushed stand is =
    let e : i + 1 ≡ suc i = omega arith in
    subst (λ (rs : List Read). StandFor (take (i + 1) images) (read_states rs)) (sym pushed)
    (subst (λ (ss : List State). StandFor (take (i + 1) images) ss) (sym (map-append state_of reads (r ∷ [])))
    (subst (λ (is : List (ℕ → List ℕ)). StandFor is (read_states reads ++ state_of r ∷ [])) (sym (ap (λ n. take n images) e ∙ more)) (stand_more (take i images) (read_states reads) image (state_of r) stand is)))

-- ---- the store

record Pairs (images : List (ℕ → List ℕ)) (states : List State) (pages : List (List (Oref × Obj))) : Type 0 where
  repositories : List Repository
  each : AllZip Holds images repositories
  states_are : states_of repositories ≡ states
  pages_are : flat_map (λ r. r.paged) repositories ≡ flat_map (λ ws. ws) pages

pairs : (images : List (ℕ → List ℕ)) (states : List State) (pages : List (List (Oref × Obj))) → StandFor images states → AllZip IsPagedBy images pages → Pairs images states pages
pairs [] [] [] stand paged = record { repositories = []; each = tt; states_are = refl; pages_are = refl }
pairs [] (s ∷ states) pages stand paged = absurd stand
pairs [] [] (ws ∷ pages) stand paged = absurd paged
pairs (i ∷ images) [] pages stand paged = absurd stand
pairs (i ∷ images) (s ∷ states) [] stand paged = absurd paged
pairs (i ∷ images) (s ∷ states) (ws ∷ pages) stand paged =
    let rest = pairs images states pages stand.1 paged.1 in
    record {
      repositories = record { state = s; paged = ws } ∷ rest.repositories;
      each = (record { state = stand.0; paged = paged.0.paged s stand.0 }, rest.each);
      states_are = ap (λ ss. s ∷ ss) rest.states_are;
      pages_are = ap (λ vs. ws ++ vs) rest.pages_are;
    }

-- repositories of which disks hold these states, and of whose pages these are the objects
pub record Whole (images : List (ℕ → List ℕ)) (states : List State) (paged : Objects) : Type 0 where
  pub repositories : List Repository
  pub each : AllZip Holds images repositories
  pub states_are : states_of repositories ≡ states
  pub paged_are : paged_of repositories ≡ paged

pub whole_of : (images : List (ℕ → List ℕ)) (states : List State) (paged : Objects) → StandFor images states → PutsAll images empty paged → Whole images states paged
whole_of images states paged stand puts =
    let held = pairs images states puts.pages stand puts.each in
    record {
      repositories = held.repositories;
      each = held.each;
      states_are = held.states_are;
      paged_are = ap (λ ws. overwrite empty ws) held.pages_are ∙ sym puts.put;
    }

sorted_over : (ws : List (Oref × Obj)) (m : Objects) → IsSorted m → IsSorted (overwrite m ws)
sorted_over [] m sorted = sorted
sorted_over (w ∷ ws) m sorted = sorted_over ws (insert m w.0 w.1) (IsSorted-insert oref_total m w.0 w.1 sorted)

sorted_writes : (qs : List Request) (m : Objects) → IsSorted m → IsSorted (fold (λ (n : Objects) q. overwrite n q.writes) m qs)
sorted_writes [] m sorted = sorted
sorted_writes (q ∷ qs) m sorted = sorted_writes qs (overwrite m q.writes) (sorted_over q.writes m sorted)

sorted_joined : (all states : List State) (m : Objects) → IsSorted m → IsSorted (fold (with_repository all) m states)
sorted_joined all [] m sorted = sorted
sorted_joined all (s ∷ states) m sorted = sorted_joined all states (with_repository all m s) (sorted_writes (committing all s) (overwrite m s.mob) (sorted_over s.mob m sorted))

-- what is held of a store is what its disks hold
pub stored_is : (images : List (ℕ → List ℕ)) (states : List State) (paged : Objects) (store : OpenStore) → StandFor images states → PutsAll images empty paged → store.stored.objects ≡ joined states paged → store.stored.epoch ≡ length store.schemas.upgraded → store.roots ≡ roots_of states → IsStored images store
stored_is images states paged store stand puts objects epoch roots =
    let held = pairs images states puts.pages stand puts.each in
    let start : IsSorted paged = subst IsSorted (sym puts.put) (sorted_over (flat_map (λ ws. ws) puts.pages) empty (none_sorted {X = Obj} empty refl)) in
    record {
      repositories = held.repositories;
      each = held.each;
      objects = objects ∙ (ap (λ m. joined states m) (puts.put ∙ ap (λ ws. overwrite empty ws) (sym held.pages_are)) ∙ ap (λ ss. joined ss (overwrite empty (flat_map (λ r. r.paged) held.repositories))) (sym held.states_are));
      sorted = subst IsSorted (sym objects) (sorted_joined states states paged start);
      epoch = epoch;
      roots = roots ∙ ap roots_of (sym held.states_are);
    }

-- and what is opened of it is the store for which the disks stand
pub opened_is : (images : List (ℕ → List ℕ)) (store : OpenStore) (opened : Plain) → IsStored images store → opened ≡ eager store.schemas (record { objects = store.stored.objects; epoch = store.stored.epoch; roots = store.roots }) → IsOpened images store.schemas opened
opened_is images store opened stored is = record {
  repositories = stored.repositories;
  each = stored.each;
  store = is
      ∙ (ap (λ (m : Objects). eager store.schemas (record { objects = m; epoch = store.stored.epoch; roots = store.roots })) stored.objects
      ∙ (ap (λ (n : ℕ). eager store.schemas (record { objects = objects_of stored.repositories; epoch = n; roots = store.roots })) stored.epoch
      ∙ ap (λ (rs : List Root). eager store.schemas (record { objects = objects_of stored.repositories; epoch = length store.schemas.upgraded; roots = rs })) stored.roots));
}

pub on_ok_opened : {E : Type 0} (images : List (ℕ → List ℕ)) (store : OpenStore) (r : Result Plain E) → IsStored images store → IfOk r (λ opened. opened ≡ eager store.schemas (record { objects = store.stored.objects; epoch = store.stored.epoch; roots = store.roots })) → IfOk r (IsOpened images store.schemas)
on_ok_opened images store (Ok opened) stored is = opened_is images store opened stored is
on_ok_opened images store (Err e) stored is = tt

-- ---- what it keeps to

-- its repositories fit together
pub fit_is : (images : List (ℕ → List ℕ)) (states : List State) (paged : Objects) (schemas : Schemas) → Whole images states paged → FitTogether states paged schemas → Fit images schemas
fit_is images states paged schemas w together = record {
  repositories = w.repositories;
  each = w.each;
  together = subst (λ ss. FitTogether ss (paged_of w.repositories) schemas) (sym w.states_are) (subst (λ m. FitTogether states m schemas) (sym w.paged_are) together);
}

-- or they don't, and this is the first that doesn't
pub dont_fit : (images : List (ℕ → List ℕ)) (states : List State) (paged : Objects) (r : ℕ) → Whole images states paged → IsMisfit states paged r → DontFit images r
dont_fit images states paged r w misfit = record {
  repositories = w.repositories;
  each = w.each;
  misfit = subst (λ ss. IsMisfit ss (paged_of w.repositories) r) (sym w.states_are) (subst (λ m. IsMisfit states m r) (sym w.paged_are) misfit);
}
