-- A repository without an open log.
use Rattle.commit_log.specs.Opening.{IsFresh}
use Rattle.disk_trait.specs.AllDisks.{ReadsAs, SameContent}
use Rattle.disk_trait.specs.Disks.{Disks}
use Rattle.repo_opening.proofs.Reading.{reads_on}
use Rattle.repo_opening.specs.Same.{Same}
use Rattle.std.proofs.Common.{List, None, Option, Some, [], refl, subst, sym, ℕ, ◌∙◌, ◌≡◌, ◌∷◌}
use Rattle.store_opening.specs.Reading.{IsFreshIn, ReadAll}
use Rattle.store_opening.specs.Seated.{AreSeated, FindsFresh, IsFreshOn, IsSeated}
use Rattle.store_opening.specs.declared.closed.Closed.{Closed}

fresh_before : (given part : Disks) → Same given part → IsFreshOn part → IsFreshOn given
fresh_before given part same fresh = record { each = λ images reads. fresh.each images (reads_on given part same.content images reads) }

-- what a reading of old disks found of the new ones
pub finds_fresh : {X : Type 0} (old new : Disks) (found : Option X) → SameContent old new → ((images : ℕ → List ℕ) → ReadsAs old images → found ≡ None → IsFresh images) → FindsFresh new found
finds_fresh old new None same fresh = record { each = λ images reads. fresh images (λ d within. sym (same d) ∙ reads d within) refl }
finds_fresh old new (Some x) same fresh = tt

-- the parts of a fresh repository, at its place
pub seated_fresh : {P X : Type 0} (disks : P → Disks) (given part p : P) (found : Option X) → found ≡ None → p ≡ part → Same (disks given) (disks part) → FindsFresh (disks part) found → Same (disks given) (disks p) × IsFreshOn (disks given)
seated_fresh {P} {X} disks given part p found none is same fresh =
    let on : IsFreshOn (disks part) = subst (λ (f : Option X). FindsFresh (disks part) f) none fresh in
    (subst (λ (q : P). Same (disks given) (disks q)) (sym is) same, fresh_before (disks given) (disks part) same on)

fresh_at : {P : Type 0} (disks : P → Disks) (parts : List P) (first : Closed P) (others : List (Closed P)) (images : List (ℕ → List ℕ))
    → ((part : P) (image : ℕ → List ℕ) → IsSeated disks part first → ReadsAs (disks part) image → IsFresh image) → AreSeated disks parts (first ∷ others) → ReadAll disks parts images → IsFreshIn images
fresh_at disks [] first others images fresh seated reads = absurd seated
fresh_at disks (p ∷ parts) first others [] fresh seated reads = tt
fresh_at disks (p ∷ parts) first others (image ∷ images) fresh seated reads = fresh p image seated.0 reads.0

-- where the first repository is fresh
pub fresh_first : {P : Type 0} (disks : P → Disks) (places : List (Closed P)) (first : Closed P) (others : List (Closed P)) → places ≡ first ∷ others
    → ((part : P) (image : ℕ → List ℕ) → IsSeated disks part first → ReadsAs (disks part) image → IsFresh image)
    → (parts : List P) (images : List (ℕ → List ℕ)) → AreSeated disks parts places → ReadAll disks parts images → IsFreshIn images
fresh_first {P} disks places first others is fresh parts images seated reads =
    fresh_at disks parts first others images fresh (subst (λ (s : List (Closed P)). AreSeated disks parts s) is seated) reads

none_at : {P : Type 0} (disks : P → Disks) (parts : List P) (images : List (ℕ → List ℕ)) → AreSeated disks parts [] → ReadAll disks parts images → IsFreshIn images
none_at disks [] [] seated reads = tt
none_at disks [] (image ∷ images) seated reads = absurd reads
none_at disks (p ∷ parts) images seated reads = absurd seated

-- where there is none
pub fresh_none : {P : Type 0} (disks : P → Disks) (places : List (Closed P)) → places ≡ []
    → (parts : List P) (images : List (ℕ → List ℕ)) → AreSeated disks parts places → ReadAll disks parts images → IsFreshIn images
fresh_none {P} disks places is parts images seated reads = none_at disks parts images (subst (λ (s : List (Closed P)). AreSeated disks parts s) is seated) reads
