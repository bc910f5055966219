-- Which place is told of disks that hold no store.
use Rattle.commit_log.proofs.Holding.{chosen_of, is_log}
use Rattle.commit_log.specs.Holds.{Holds, beside}
use Rattle.disk_trait.specs.AllDisks.{ReadsAs}
use Rattle.disk_trait.specs.Disks.{Disks}
use Rattle.log_codec.specs.declared.state.State.{State}
use Rattle.log_frame.specs.Log.{Place}
use Rattle.recovery.specs.declared.recovered.Recovered.{Recovered}
use Rattle.repo_opening.proofs.Reading.{reads_on}
use Rattle.repo_opening.specs.Recovered.{IsRecovered}
use Rattle.repo_opening.specs.Same.{Same}
use Rattle.repo_opening.specs.Unsound.{IsUnsound}
use Rattle.repo_opening.specs.declared.repository.Read.{Read}
use Rattle.std.proofs.Common.{IfOk, IfSome, List, None, Ok, OnOk, Option, Result, Some, [], ap, arith, length, refl, slice_get, subst, suc, sym, take, zero, ℕ, ◌++◌, ◌+◌, ◌∙◌, ◌≡◌, ◌∷◌, ◌⊎◌}
use Rattle.std.proofs.lemmas.Slice.Zip.{AllZip-long, all_zipped_more}
use Rattle.store_opening.proofs.Holding.{dont_fit, ok_at, whole_of}
use Rattle.store_opening.specs.Fitting.{IsMisfit}
use Rattle.class_defs.specs.Stored.{Objects}
use Rattle.thor_value.specs.FiniteMap.{empty}
use Rattle.store_opening.specs.Joined.{read_states}
use Rattle.store_opening.specs.Reading.{PutsAll, ReadAll, StandFor}
use Rattle.store_opening.specs.Seated.{AreSeated, IsSeated}
use Rattle.store_opening.specs.Unsound.{BeginsOpen, BehindOpen, DontFit, HasLogOn, HaveLogs, IsCheckpoint, IsLogOn, IsNoRepository, IsNoStore, NotOpen, OfFit, OfFresh, OfName, OfRepository, Represents, Unsound}
use Rattle.store_opening.specs.declared.closed.Closed.{Closed}

-- ---- one repository

log_on : (disks : Disks) (place : Place) (s : State) → Holds disks place s → (images : ℕ → List ℕ) → ReadsAs disks images → IsLogOn images place.disk
log_on disks place s holds images reads =
    let d = place.disk in
    let other = is_log d holds.within in
    let here = reads d (omega (arith, holds.within)) in
    let agrees = holds.agrees (images d) here in
    let h = holds.told (images d) (images (beside d)) here (reads (beside d) (omega (arith, other))) agrees.opened agrees.stands in
    record { log = agrees.opened; counts = chosen_of d images agrees.opened holds.within agrees.stands h.under; on = agrees.stands }

-- the log that is held of disks that are as they were is on theirs
pub known_log : (part kept : Disks) (r : Recovered) → IsRecovered kept r → (images : ℕ → List ℕ) → Same part kept → ReadsAs part images → IsLogOn images r.log.disk
known_log part kept r known images same reads = log_on kept r.log known.state known.holds images (reads_on part kept same.content images reads)

-- ---- the first of them

open_at : {P : Type 0} (disks : P → Disks) (first : Closed P) (others : List (Closed P)) (parts : List P) (images : List (ℕ → List ℕ))
    → ((part : P) (image : ℕ → List ℕ) → IsSeated disks part first → ReadsAs (disks part) image → Represents image) → AreSeated disks parts (first ∷ others) → ReadAll disks parts images → BeginsOpen images
open_at disks first others [] images is seated reads = absurd seated
open_at disks first others (p ∷ parts) [] is seated reads = absurd reads
open_at disks first others (p ∷ parts) (image ∷ images) is seated reads = is p image seated.0 reads.0

pub open_first : {P : Type 0} (disks : P → Disks) (places : List (Closed P)) (first : Closed P) (others : List (Closed P)) → places ≡ first ∷ others
    → ((part : P) (image : ℕ → List ℕ) → IsSeated disks part first → ReadsAs (disks part) image → Represents image) → BehindOpen disks places
open_first disks places first others same is = record {
  each = λ parts images seated reads. open_at disks first others parts images is (subst (λ (s : List (Closed _)). AreSeated disks parts s) same seated) reads;
}

-- ---- the one behind those that were read

module _ {P : Type 0} (disks : P → Disks) where
  -- what is read of the repository behind others
  pub record There (part : P) (at : ℕ) (images : List (ℕ → List ℕ)) : Type 0 where
    pub image : ℕ → List ℕ
    pub is : slice_get images at ≡ Some image
    pub reads : ReadsAs (disks part) image

  there_in : (yielded rest : List P) (part : P) (images : List (ℕ → List ℕ)) → ReadAll disks (yielded ++ part ∷ rest) images → There part (length yielded) images
  there_in [] rest part [] reads = absurd reads
  there_in [] rest part (image ∷ images) reads = record { image = image; is = refl; reads = reads.0 }
  there_in (p ∷ yielded) rest part [] reads = absurd reads
  there_in (p ∷ yielded) rest part (image ∷ images) reads =
      let t = there_in yielded rest part images reads.1 in
      record { image = t.image; is = t.is; reads = t.reads }

  pub there : (yielded rest all : List P) (part : P) (images : List (ℕ → List ℕ)) → yielded ++ part ∷ rest ≡ all → ReadAll disks all images → There part (length yielded) images
  there yielded rest all part images whole reads = there_in yielded rest part images (subst (λ (ps : List P). ReadAll disks ps images) (sym whole) reads)

  front : (yielded rest : List P) (images : List (ℕ → List ℕ)) → ReadAll disks (yielded ++ rest) images → (before : List (ℕ → List ℕ)) × ReadAll disks yielded before
  front [] rest images reads = ([], tt)
  front (p ∷ yielded) rest [] reads = absurd reads
  front (p ∷ yielded) rest (image ∷ images) reads = let f = front yielded rest images reads.1 in (image ∷ f.0, (reads.0, f.1))

  begins : (yielded rest : List P) (places : List (Closed P)) (images : List (ℕ → List ℕ)) → ReadAll disks (yielded ++ rest) images → AreSeated disks yielded places → BehindOpen disks places → BeginsOpen images
  begins [] rest places images reads seated behind = absurd (behind.each [] [] seated tt)
  begins (p ∷ yielded) rest places [] reads seated behind = absurd reads
  begins (p ∷ yielded) rest places (image ∷ images) reads seated behind =
      let f = front yielded rest images reads.1 in
      behind.each (p ∷ yielded) (image ∷ f.0) seated (reads.0, f.1)

  told : (all : List P) (images : List (ℕ → List ℕ)) (places : List (Closed P)) (repos r d place : ℕ) (image : ℕ → List ℕ) → ReadAll disks all images → repos ≡ length all → slice_get images r ≡ Some image → (BehindOpen disks places → BeginsOpen images) → IsNoRepository disks places repos image r d place → IsNoStore images r d place
  told all images places repos r d place image reads count is begun (Unsound unsound) =
      let long : repos ≡ length images = count ∙ sym (AllZip-long (λ p i. ReadsAs (disks p) i) all images reads) in
      OfRepository image is (subst (λ (n : ℕ). IsUnsound r n image d place) long unsound)
  told all images places repos r d place image reads count is begun (NotOpen fresh behind disk at) = OfFresh image is fresh (begun behind) disk at

  -- what is told of it is wrong of the store
  pub told_behind : (yielded rest all : List P) (part : P) (now places : List (Closed P)) (images : List (ℕ → List ℕ)) (repos r d place : ℕ) → now ≡ places → yielded ++ part ∷ rest ≡ all → ReadAll disks all images → AreSeated disks yielded places → repos ≡ length all
      → (t : There part (length yielded) images) → (r ≡ length now) × IsNoRepository disks now repos t.image r d place → IsNoStore images r d place
  told_behind yielded rest all part now places images repos r d place same whole reads seated count t why =
      let here : AreSeated disks yielded now = subst (λ (ps : List (Closed P)). AreSeated disks yielded ps) (sym same) seated in
      let long : length now ≡ length yielded = AllZip-long (IsSeated disks) yielded now here in
      told all images now repos r d place t.image reads count (subst (λ (n : ℕ). slice_get images n ≡ Some t.image) (sym (why.0 ∙ long)) t.is)
      (begins yielded (part ∷ rest) now images (subst (λ (ps : List P). ReadAll disks ps images) (sym whole) reads) here) why.1

-- the same under other names of the numbers
pub told_as : (repo repos r count d place : ℕ) (image : ℕ → List ℕ) → r ≡ repo → repos ≡ count → IsUnsound repo repos image d place → IsUnsound r count image d place
told_as repo repos r count d place image first second is = subst (λ (n : ℕ). IsUnsound r n image d place) second (subst (λ (n : ℕ). IsUnsound n repos image d place) (sym first) is)

-- ---- whether they fit together

-- what is known of what was made, where it was
pub on_ok_at : {A E : Type 0} (r : Result A E) (a : A) (P : Type 0) → r ≡ Ok a → OnOk r P → P
on_ok_at {A} {E} r a P is h = subst (λ (q : Result A E). OnOk q P) is h

-- what is known of what was read, where it was
pub some_of : {A E : Type 0} (r : Result (Option A) E) (found : Option A) (x : A) (P : A → Type 0) → r ≡ Ok found → found ≡ Some x → IfOk r (λ f. IfSome f P) → P x
some_of {A} {E} r found x P is some holds = subst (λ (o : Option A). IfSome o P) some (ok_at r found (λ f. IfSome f P) is holds)

logs_more : (images : List (ℕ → List ℕ)) (reads : List Read) (image : ℕ → List ℕ) (r : Read) → HaveLogs images reads → IsLogOn image r.recovered.now.log.disk → HaveLogs (images ++ image ∷ []) (reads ++ r ∷ [])
logs_more images reads image r logs log = all_zipped_more (λ (i : ℕ → List ℕ) (read : Read). IsLogOn i read.recovered.now.log.disk) images reads image r logs log

pub logs_next : (images : List (ℕ → List ℕ)) (i : ℕ) (reads now' : List Read) (image : ℕ → List ℕ) (r : Read) → take (suc i) images ≡ take i images ++ image ∷ [] → now' ≡ reads ++ r ∷ [] → HaveLogs (take i images) reads → IsLogOn image r.recovered.now.log.disk → HaveLogs (take (i + 1) images) now'
logs_next images i reads now' image r more pushed logs log =
    let e : i + 1 ≡ suc i = omega arith in
    subst (λ (rs : List Read). HaveLogs (take (i + 1) images) rs) (sym pushed)
    (subst (λ (is : List (ℕ → List ℕ)). HaveLogs is (reads ++ r ∷ [])) (sym (ap (λ n. take n images) e ∙ more)) (logs_more (take i images) reads image r logs log))

-- the log that is told, or no repository
data Which (images : List (ℕ → List ℕ)) (r d : ℕ) : Type 0 where
  One : (image : ℕ → List ℕ) → slice_get images r ≡ Some image → IsLogOn image d → Which images r d
  Nobody : slice_get images r ≡ None → d ≡ 0 → Which images r d

behind_first : (image : ℕ → List ℕ) (images : List (ℕ → List ℕ)) (r d : ℕ) → Which images r d → Which (image ∷ images) (suc r) d
behind_first image images r d (One i is log) = One i is log
behind_first image images r d (Nobody is at) = Nobody is at

which : (images : List (ℕ → List ℕ)) (reads : List Read) (r d : ℕ) → HaveLogs images reads → HasLogOn (slice_get reads r) d → Which images r d
which [] [] zero d logs on = Nobody refl on
which [] [] (suc r) d logs on = Nobody refl on
which [] (read ∷ reads) r d logs on = absurd logs
which (image ∷ images) [] r d logs on = absurd logs
which (image ∷ images) (read ∷ reads) zero d logs on = One image refl (subst (λ (n : ℕ). IsLogOn image n) (sym on) logs.0)
which (image ∷ images) (read ∷ reads) (suc r) d logs on = behind_first image images r d (which images reads r d logs.1 on)

unfit : (images : List (ℕ → List ℕ)) (r d place : ℕ) → DontFit images r → place ≡ 0 → Which images r d → IsNoStore images r d place
unfit images r d place none at (One image is log) = OfFit image is log none at
unfit images r d place none at (Nobody is disk) = OfName is none disk at

-- what is told of repositories that don't fit together is wrong of the store
pub misfit : (images : List (ℕ → List ℕ)) (reads : List Read) (paged : Objects) (r d place : ℕ) → StandFor images (read_states reads) → PutsAll images empty paged → HaveLogs images reads → IsCheckpoint reads r d place × IsMisfit (read_states reads) paged r → IsNoStore images r d place
misfit images reads paged r d place stand puts logs told =
    unfit images r d place (dont_fit images (read_states reads) paged r (whole_of images (read_states reads) paged stand puts) told.1) told.0.1 (which images reads r d logs told.0.0)
