-- Of which repository a disk failed while a store was opened.
use Rattle.cluster_core.specs.Failing.{FailedOn, GivesPart, HasFailedOn, HaveCounted, IsSite, NoneFellIn, NoneFellOn, faults_at, faults_in, faults_on}
use Rattle.cluster_core.specs.declared.seat.Seat.TheVariants.{Closed, Open}
use Rattle.cluster_core.specs.declared.seat.Seat.{Seat}
use Rattle.cluster_port.specs.Counting.{FailedAt}
use Rattle.cluster_port.specs.Failing.{HasFailed, NoneFell}
use Rattle.cluster_port.specs.Sited.{Sited}
use Rattle.disk_trait.specs.AllDisks.{GoesOn}
use Rattle.disk_trait.specs.Disks.{Disks}
use Rattle.repo_core.proofs.DiskFaults.{failed_after, failed_before, fell_fewer, fell_then as falls_then}
use Rattle.repo_core.specs.Shown.{faults_of}
use Rattle.repo_opening.specs.Unsound.{Failing}
use Rattle.std.proofs.Common.{Err, List, Ok, OnOk, Result, [], ap, false, inl, inr, length, refl, slice_get, subst, sym, true, ℕ, ◌++◌, ◌∙◌, ◌∷◌, ◌≡◌, ◌⊎◌}
use Rattle.std.proofs.lemmas.List.{append-nil}
use Rattle.std.specs.List.{AllZip}
use Rattle.std.specs.Prelude.{IsErrOf, IsOk, Some}
use Rattle.store_opening.proofs.Failing.{get_last, get_more, part_to, zip_at, zip_from, zip_through}
use Rattle.store_opening.proofs.Places.{none_in, zip_more}
use Rattle.store_opening.specs.Failing.{AreCalled, FailsAt, IsCalled}
use Rattle.store_opening.specs.Seated.{disks_at}
use Rattle.store_opening.specs.declared.closed.Closed as closed

-- ---- one place

-- calls on the disks of these parts, and what is called then
pub goes_fell : (old new : Disks) → GoesOn old new → NoneFell old.faults new.faults
goes_fell old new goes = fell_fewer old.faults new.faults goes.faults

pub failing_is : (old new : Disks) → HasFailed old.faults new.faults → Failing old new
failing_is old new failed = record { disk = failed.disk; within = failed.within; rose = failed.rose }

module _ {P O : Type 0} (disks : P → Disks) where
  pub failed_through : (old mid : ℕ → ℕ) (s : Seat P O) → NoneFell old mid → HasFailedOn disks mid s → HasFailedOn disks old s
  failed_through old mid (Closed c) none failed = failed_after old mid (faults_at disks c) none failed
  failed_through old mid (Open s) none failed = failed

  -- ---- place by place
  module _ {X : Type 0} (counts : X → ℕ → ℕ) where
    abbrev pub NoFall : X → Seat P O → Type 0
    NoFall x s = NoneFell (counts x) (faults_on disks s)

    pub none_fell : (ss : List (Seat P O)) → length ss ≡ 0 → NoneFellOn disks counts [] ss
    none_fell ss none = subst (λ (ts : List (Seat P O)). NoneFellOn disks counts [] ts) (sym (none_in ss none)) tt

    pub fell_next : {E F : Type 0} (before : Result (Unit {0}) E) (behind : Result (Unit {0}) F) (xs : List X) (ss now' : List (Seat P O)) (x : X) (s : Seat P O) → now' ≡ ss ++ s ∷ [] → OnOk before (NoneFellOn disks counts xs ss) → OnOk behind (IsOk before) → OnOk behind (NoneFell (counts x) (faults_on disks s)) → OnOk behind (NoneFellOn disks counts (xs ++ x ∷ []) now')
    fell_next before (Err e) xs ss now' x s pushed each was last = tt
    fell_next (Err e) (Ok v) xs ss now' x s pushed each was last = absurd (let no : false ≡ true = was in cc)
    fell_next (Ok u) (Ok v) xs ss now' x s pushed each was last = zip_more NoFall xs ss now' x s pushed each last

    pub fell_all : {E : Type 0} (behind : Result (Unit {0}) E) (yielded rest all : List X) (ss : List (Seat P O)) → yielded ++ rest ≡ all → rest ≡ [] → OnOk behind (NoneFellOn disks counts yielded ss) → OnOk behind (NoneFellOn disks counts all ss)
    fell_all behind yielded rest all ss whole none each = subst (λ (xs : List X). OnOk behind (NoneFellOn disks counts xs ss)) (sym (append-nil yielded) ∙ (ap (λ xs. yielded ++ xs) (sym none) ∙ whole)) each

    pub failed_all : (yielded rest all : List X) (ss : List (Seat P O)) (r : ℕ) → yielded ++ rest ≡ all → rest ≡ [] → FailedOn disks counts yielded ss r → FailedOn disks counts all ss r
    failed_all yielded rest all ss r whole none failed = subst (λ (xs : List X). FailedOn disks counts xs ss r) (sym (append-nil yielded) ∙ (ap (λ xs. yielded ++ xs) (sym none) ∙ whole)) failed

    -- one more comes behind
    pub failed_more : (xs : List X) (ss now' : List (Seat P O)) (x : X) (s : Seat P O) (r : ℕ) → now' ≡ ss ++ s ∷ [] → FailedOn disks counts xs ss r → FailedOn disks counts (xs ++ x ∷ []) now' r
    failed_more xs ss now' x s r pushed f = record {
      one = f.one;
      seat = f.seat;
      was = get_more xs (x ∷ []) r f.one f.was;
      is = subst (λ (ts : List (Seat P O)). slice_get ts r ≡ Some f.seat) (sym pushed) (get_more ss (s ∷ []) r f.seat f.is);
      failed = f.failed;
    }

    -- it is the last one
    pub failed_last : (xs : List X) (ss now' : List (Seat P O)) (x : X) (s : Seat P O) (r : ℕ) → now' ≡ ss ++ s ∷ [] → length xs ≡ length ss → r ≡ length ss → HasFailedOn disks (counts x) s → FailedOn disks counts (xs ++ x ∷ []) now' r
    failed_last xs ss now' x s r pushed long at f = record {
      one = x;
      seat = s;
      was = subst (λ (n : ℕ). slice_get (xs ++ x ∷ []) n ≡ Some x) (long ∙ sym at) (get_last xs x);
      is = subst (λ (ts : List (Seat P O)). slice_get ts r ≡ Some s) (sym pushed) (subst (λ (n : ℕ). slice_get (ss ++ s ∷ []) n ≡ Some s) (sym at) (get_last ss s));
      failed = f;
    }

    -- it failed behind what stood there in between
    pub failed_then : (xs : List X) (ss ts : List (Seat P O)) (r : ℕ) → NoneFellOn disks counts xs ss → FailedOn disks (faults_on disks) ss ts r → FailedOn disks counts xs ts r
    failed_then xs ss ts r each f =
        let b = zip_from NoFall xs ss r f.one each f.was in
        record { one = b.other; seat = f.seat; was = b.is; is = f.is; failed = failed_through (counts b.other) (faults_on disks f.one) f.seat b.holds f.failed }

    pub fell_then : (xs : List X) (ss ts : List (Seat P O)) → NoneFellOn disks counts xs ss → NoneFellOn disks (faults_on disks) ss ts → NoneFellOn disks counts xs ts
    fell_then xs ss ts first then = zip_through NoFall (λ s t. NoneFell (faults_on disks s) (faults_on disks t)) NoFall (λ x s t one two. falls_then (counts x) (faults_on disks s) (faults_on disks t) one two) xs ss ts first then

    pub ok_then : {E : Type 0} (behind : Result (Unit {0}) E) (xs : List X) (ss ts : List (Seat P O)) → NoneFellOn disks counts xs ss → OnOk behind (NoneFellOn disks (faults_on disks) ss ts) → OnOk behind (NoneFellOn disks counts xs ts)
    ok_then (Ok u) xs ss ts first then = fell_then xs ss ts first then
    ok_then (Err e) xs ss ts first then = tt

  -- ---- calls on the seats, one behind the other

  pub fell_twice : {E F : Type 0} (first : Result (Unit {0}) E) (then : Result (Unit {0}) F) (xs ss ts : List (Seat P O)) → OnOk first (NoneFellOn disks (faults_on disks) xs ss) → OnOk then (IsOk first) → OnOk then (NoneFellOn disks (faults_on disks) ss ts) → OnOk then (NoneFellOn disks (faults_on disks) xs ts)
  fell_twice first (Err e) xs ss ts one was two = tt
  fell_twice (Err e) (Ok v) xs ss ts one was two = absurd (let no : false ≡ true = was in cc)
  fell_twice (Ok u) (Ok v) xs ss ts one was two = fell_then (faults_on disks) xs ss ts one two

  pub failed_twice : {E : Type 0} (first : Result (Unit {0}) E) (xs ss ts : List (Seat P O)) (r : ℕ) {Q : Type 0} → OnOk first (NoneFellOn disks (faults_on disks) xs ss) → (Q → FailedOn disks (faults_on disks) xs ss r) → (Q × (ts ≡ ss)) ⊎ (IsOk first × FailedOn disks (faults_on disks) ss ts r) → FailedOn disks (faults_on disks) xs ts r
  failed_twice first xs ss ts r one before (inl q) = subst (λ (us : List (Seat P O)). FailedOn disks (faults_on disks) xs us r) (sym q.1) (before q.0)
  failed_twice (Err e) xs ss ts r one before (inr f) = absurd (let no : false ≡ true = f.0 in cc)
  failed_twice (Ok u) xs ss ts r one before (inr f) = failed_then (faults_on disks) xs ss ts r one f.1

  -- ---- from what was handed in

  pub fell_handed : (given : List P) (places : List (closed.Closed P)) (ss : List (Seat P O)) → AreCalled disks given places → NoneFellOn disks (faults_at disks) places ss → NoneFellOn disks (faults_in disks) given ss
  fell_handed given places ss called each =
      zip_through (IsCalled disks) (λ c s. NoneFell (faults_at disks c) (faults_on disks s)) (λ p s. NoneFell (faults_in disks p) (faults_on disks s))
      (λ p c s goes none. falls_then (faults_in disks p) (faults_at disks c) (faults_on disks s) (goes_fell (disks p) (disks_at disks c) goes) none) given places ss called each

  failed_back : (p : P) (s : Seat P O) (q : P) → HasFailedOn disks (faults_in disks p) s → GivesPart s q → Failing (disks p) (disks q)
  failed_back p (Closed c) q failed gives = part_to disks (Failing (disks p)) c q gives (failing_is (disks p) (disks_at disks c) failed)
  failed_back p (Open s) q failed gives = absurd failed

  -- the seats gave their parts back
  pub failed_given : (given back : List P) (places : List (closed.Closed P)) (ss : List (Seat P O)) (r : ℕ) → AreCalled disks given places → FailedOn disks (faults_at disks) places ss r → AllZip GivesPart ss back → FailsAt disks given back r
  failed_given given back places ss r called f gives =
      let b = zip_from (IsCalled disks) given places r f.one called f.was in
      let a = zip_at GivesPart ss back r f.seat gives f.is in
      record {
        old = b.other;
        new = a.other;
        was = b.is;
        is = a.is;
        failing = failed_back b.other f.seat a.other (failed_through (faults_in disks b.other) (faults_at disks f.one) f.seat (goes_fell (disks b.other) (disks_at disks f.one) b.holds) f.failed) a.holds;
      }

  -- all were opened
  site_of : (p : P) (s : Seat P O) (x : Sited) → NoneFell (faults_in disks p) (faults_on disks s) → IsSite s x → NoneFell (faults_in disks p) (faults_of x.shown)
  site_of p (Closed c) x none is = absurd is
  site_of p (Open s) x none is = subst (λ (y : Sited). NoneFell (faults_in disks p) (faults_of y.shown)) (sym is) none

  pub fell_sites : (given : List P) (ss : List (Seat P O)) (sites : List Sited) → NoneFellOn disks (faults_in disks) given ss → AllZip IsSite ss sites → NoneFellIn disks given sites
  fell_sites given ss sites each same = zip_through (λ p s. NoneFell (faults_in disks p) (faults_on disks s)) IsSite (λ p x. NoneFell (faults_in disks p) (faults_of x.shown)) site_of given ss sites each same

pub none_counted : {P : Type 0} (disks : P → Disks) (parts : List P) → length parts ≡ 0 → HaveCounted disks [] parts
none_counted {P} disks parts none = subst (λ (ps : List P). HaveCounted disks [] ps) (sym (none_in parts none)) tt

-- none is open yet
pub none_opened : {P O : Type 0} (seats : List (Seat P O)) (sites : List Sited) → length sites ≡ 0 → AllZip (IsSite {P = P} {O = O}) [] sites
none_opened {P} {O} seats sites none = subst (λ (xs : List Sited). AllZip (IsSite {P = P} {O = O}) [] xs) (sym (none_in sites none)) tt

pub none_given : {P O : Type 0} (seats : List (Seat P O)) (parts : List P) → length parts ≡ 0 → AllZip (GivesPart {P = P} {O = O}) [] parts
none_given {P} {O} seats parts none = subst (λ (ps : List P). AllZip (GivesPart {P = P} {O = O}) [] ps) (sym (none_in parts none)) tt

-- a disk failed as transactions were settled, and the parts came back
pub failed_settling : {P : Type 0} (disks : P → Disks) (given back : List P) (old new : List Sited) (r : ℕ) → NoneFellIn disks given old → FailedAt r old new → HaveCounted disks new back → FailsAt disks given back r
failed_settling disks given back old new r each f counted =
    let b = zip_from (λ p x. NoneFell (faults_in disks p) (faults_of x.shown)) given old r f.before each f.was in
    let a = zip_at (λ x p. NoneFell (faults_of x.shown) (faults_in disks p)) new back r f.behind counted f.is in
    record {
      old = b.other;
      new = a.other;
      was = b.is;
      is = a.is;
      failing = failing_is (disks b.other) (disks a.other) (failed_before (faults_in disks b.other) (faults_of f.behind.shown) (faults_in disks a.other) (failed_after (faults_in disks b.other) (faults_of f.before.shown) (faults_of f.behind.shown) b.holds f.failed) a.holds);
    }

-- ---- what was answered

pub is_ok_at : {T E : Type 0} (r : Result T E) (x : T) → r ≡ Ok x → IsOk r
is_ok_at r x is = subst (λ (s : Result _ _). IsOk s) (sym is) refl

pub same_err : {T E : Type 0} (r : Result T E) (a b : E) → r ≡ Err a → r ≡ Err b → a ≡ b
same_err r a b is e = cc

pub no_err : {T E : Type 0} (r : Result T E) (e : E) {Q : Type 0} → IsErrOf r e → IsOk r → Q
no_err (Ok x) e is ok = absurd (cc)
no_err (Err f) e is ok = absurd (let no : false ≡ true = ok in cc)
