-- Where a page stands in a list of pages that rise.
use Rattle.std.proofs.Common.{◌≡◌, ℕ, zero, suc, ◌<◌, ◌≤◌, Bool, true, false, cond, List, [], ◌∷◌, length, None, refl, sym, ap, subst, arith, inl, inr, ◌⊎◌, ◌^◌}
use Rattle.std.specs.List.{AllByRecursion, HoldsAt, slice_index_or}
use Rattle.std.specs.List.Sorted.{IsNonDecreasingBy, IsPartitionPoint}
use Rattle.std.specs.Ordering.{nat_cmp, match_ordering, ordering_index}
use Rattle.std.specs.declared.cmp.Ordering.{Ordering}
use Rattle.std.specs.declared.cmp.Ordering.TheVariants.{Less, Equal, Greater}
use Rattle.std.specs.BTreeMap.{insert_entry}
use Rattle.std.specs.Cmp.{nat_cmp_is}
use Rattle.std.proofs.lemmas.Cmp.{ranked}
use Rattle.page_format.specs.Pages.{Rises}
use Rattle.page_format.specs.Sides.{SideFits, SidesFit, IsPlace, IsGap, side_in_use}

abbrev pub Pairs : Type 0
Pairs = List (ℕ × ℕ)

pub less : (x y : ℕ) → x < y → nat_cmp x y ≡ Less
less x y lt = sym (nat_cmp_is x y Less lt)

pub greater : (x y : ℕ) → y < x → nat_cmp x y ≡ Greater
greater x y lt = sym (nat_cmp_is x y Greater lt)

pub equal : (x y : ℕ) → x ≡ y → nat_cmp x y ≡ Equal
equal x y same = sym (nat_cmp_is x y Equal same)

-- what stands at a place is from the least one on
pub at_least : (low : ℕ) (pairs : Pairs) (d : ℕ × ℕ) (k : ℕ) → Rises low pairs → k < length pairs → low ≤ (slice_index_or pairs k d).0
at_least low [] d k rises within = absurd (omega (arith, within))
at_least low (q ∷ pairs) d zero rises within = rises.0
at_least low (q ∷ pairs) d (suc k) rises within = let more = at_least (suc q.0) pairs d k rises.1 (omega (arith, within)) in let first = rises.0 in omega arith

pub in_order : (low : ℕ) (pairs : Pairs) (d : ℕ × ℕ) (i j : ℕ) → Rises low pairs → i ≤ j → j < length pairs → (slice_index_or pairs i d).0 ≤ (slice_index_or pairs j d).0
in_order low [] d i j rises le within = absurd (omega (arith, within))
in_order low (q ∷ pairs) d zero zero rises le within = omega arith
in_order low (q ∷ pairs) d zero (suc j) rises le within = let more = at_least (suc q.0) pairs d j rises.1 (omega (arith, within)) in omega arith
in_order low (q ∷ pairs) d (suc i) zero rises le within = absurd (omega (arith, le))
in_order low (q ∷ pairs) d (suc i) (suc j) rises le within = in_order (suc q.0) pairs d i j rises.1 (omega (arith, le)) (omega (arith, within))

index_by : (x y page : ℕ) → x ≤ y → (a b : Ordering) → a ≡ nat_cmp x page → b ≡ nat_cmp y page → ordering_index a ≤ ordering_index b
index_by x y page le Less b ea eb = omega arith
index_by x y page le Equal Less ea eb = let h : x ≡ page = ranked x page Equal ea in let l : y < page = ranked y page Less eb in absurd (omega arith)
index_by x y page le Equal Equal ea eb = omega arith
index_by x y page le Equal Greater ea eb = omega arith
index_by x y page le Greater Less ea eb = let h : page < x = ranked x page Greater ea in let l : y < page = ranked y page Less eb in absurd (omega arith)
index_by x y page le Greater Equal ea eb = let h : page < x = ranked x page Greater ea in let l : y ≡ page = ranked y page Equal eb in absurd (omega arith)
index_by x y page le Greater Greater ea eb = omega arith

pub non_decreasing : (pairs : Pairs) (page : ℕ) → Rises 0 pairs → IsNonDecreasingBy (λ y. ordering_index (nat_cmp y.0 page)) pairs
non_decreasing pairs page rises i j d le within =
    index_by (slice_index_or pairs i d).0 (slice_index_or pairs j d).0 page (in_order 0 pairs d i j rises le within) (nat_cmp (slice_index_or pairs i d).0 page) (nat_cmp (slice_index_or pairs j d).0 page) refl refl

-- ---- the page isn't there

-- a page below all of them is looked for in vain
pub none_below : (low page : ℕ) (pairs : Pairs) → Rises low pairs → page < low → side_in_use pairs page ≡ None
none_below low page [] rises lt = refl
none_below low page (q ∷ pairs) rises lt =
    let least = rises.0 in
    let cmp : nat_cmp page q.0 ≡ Less = less page q.0 (omega arith) in
    rw cmp (none_below (suc q.0) page pairs rises.1 (omega arith))

put_below : (low page side : ℕ) (pairs : Pairs) → Rises low pairs → page < low → insert_entry nat_cmp pairs page side ≡ (page, side) ∷ pairs
put_below low page side [] rises lt = refl
put_below low page side (q ∷ pairs) rises lt =
    let least = rises.0 in
    let cmp : nat_cmp page q.0 ≡ Less = less page q.0 (omega arith) in
    rw cmp refl

-- the pages before a place are lower, and those from it on greater
pub record Between (pairs : Pairs) (page at : ℕ) : Type 0 where
  pub lower : (k : ℕ) → k < at → (slice_index_or pairs k (0, 0)).0 < page
  pub greater : (k : ℕ) → at ≤ k → k < length pairs → page < (slice_index_or pairs k (0, 0)).0

between_behind : (q : ℕ × ℕ) (pairs : Pairs) (page at : ℕ) → Between (q ∷ pairs) page (suc at) → Between pairs page at
between_behind q pairs page at b = record { lower = λ k lt. b.lower (suc k) (omega (arith, lt)); greater = λ k le within. b.greater (suc k) (omega (arith, le)) (omega (arith, within)) }

gap_behind : (q : ℕ × ℕ) (pairs : Pairs) (page at : ℕ) → q.0 < page → IsGap pairs page at → IsGap (q ∷ pairs) page (suc at)
gap_behind q pairs page at lt gap =
    let cmp : nat_cmp page q.0 ≡ Greater = greater page q.0 lt in
    let within = gap.within in
    record {
      within = omega arith;
      side = rw cmp gap.side;
      put = λ side. rw cmp (ap (λ (l : Pairs). q ∷ l) (gap.put side));
    }

pub gap_at : (low : ℕ) (pairs : Pairs) (page at : ℕ) → Rises low pairs → at ≤ length pairs → Between pairs page at → IsGap pairs page at
gap_at low [] page zero rises within b = record { within = omega arith; side = refl; put = λ side. refl }
gap_at low [] page (suc at) rises within b = absurd (omega (arith, within))
gap_at low (q ∷ pairs) page zero rises within b =
    let lt : page < q.0 = b.greater 0 (omega arith) (omega arith) in
    let here : Rises q.0 (q ∷ pairs) = (omega arith, rises.1) in
    record { within = omega arith; side = none_below q.0 page (q ∷ pairs) here lt; put = λ side. sym (put_below q.0 page side (q ∷ pairs) here lt) }
gap_at low (q ∷ pairs) page (suc at) rises within b =
    gap_behind q pairs page at (b.lower 0 (omega arith)) (gap_at (suc q.0) pairs page at rises.1 (omega (arith, within)) (between_behind q pairs page at b))

-- ---- the page is there

place_behind : (q : ℕ × ℕ) (pairs : Pairs) (page at : ℕ) → q.0 < page → IsPlace pairs page at → IsPlace (q ∷ pairs) page (suc at)
place_behind q pairs page at lt place =
    let cmp : nat_cmp page q.0 ≡ Greater = greater page q.0 lt in
    let within = place.within in
    record {
      within = omega arith;
      side = λ d. rw cmp (place.side d);
      put = λ side. rw cmp (ap (λ (l : Pairs). q ∷ l) (place.put side));
    }

pub place_at : (low : ℕ) (pairs : Pairs) (page at : ℕ) → Rises low pairs → at < length pairs → (slice_index_or pairs at (0, 0)).0 ≡ page → IsPlace pairs page at
place_at low [] page at rises within is = absurd (omega (arith, within))
place_at low (q ∷ pairs) page zero rises within is =
    let cmp : nat_cmp page q.0 ≡ Equal = equal page q.0 (sym is) in
    record { within = omega arith; side = λ d. rw cmp refl; put = λ side. rw cmp (ap (λ (k : ℕ). (k, side) ∷ pairs) (sym is)) }
place_at low (q ∷ pairs) page (suc at) rises within is =
    let more = at_least (suc q.0) pairs (0, 0) at rises.1 (omega (arith, within)) in
    let lt : q.0 < page = omega (arith, more, is) in
    place_behind q pairs page at lt (place_at (suc q.0) pairs page at rises.1 (omega (arith, within)) is)

-- ---- a walk over all of them

-- what is left of a list is in order just where the whole is
pub record SidesLeft (pairs rest : Pairs) (low : ℕ) : Type 0 where
  pub rising : SidesFit pairs → Rises low rest
  pub each : SidesFit pairs → AllByRecursion SideFits rest
  pub back : Rises low rest → AllByRecursion SideFits rest → SidesFit pairs

pub left_none : (pairs : Pairs) → SidesLeft pairs pairs 0
left_none pairs = record { rising = λ f. f.rising; each = λ f. f.each; back = λ r e. record { rising = r; each = e } }

pub left_more : (pairs rest : Pairs) (q : ℕ × ℕ) (low : ℕ) → SidesLeft pairs (q ∷ rest) low → low ≤ q.0 → SideFits q → SidesLeft pairs rest (suc q.0)
left_more pairs rest q low left le fits = record { rising = λ f. (left.rising f).1; each = λ f. (left.each f).1; back = λ r e. left.back (le, r) (fits, e) }

pub left_out : (pairs rest : Pairs) (q : ℕ × ℕ) (low : ℕ) → SidesLeft pairs (q ∷ rest) low → (q.0 < low) ⊎ (1 < q.1) → SidesFit pairs → ⊥
left_out pairs rest q low left out f = elim out [ inl lt ↦ (let r = (left.rising f).0 in omega arith) | inr gt ↦ (let e = (left.each f).0 in omega arith) ]

-- a side of a page is put in use
rises_by : (low : ℕ) (q : ℕ × ℕ) (pairs more : Pairs) (page side : ℕ) → Rises low (q ∷ pairs) → low ≤ page → (suc q.0 ≤ page → Rises (suc q.0) more) → (o : Ordering) → o ≡ nat_cmp page q.0
    → Rises low (match_ordering o ((page, side) ∷ q ∷ pairs) ((q.0, side) ∷ pairs) (q ∷ more))
rises_by low q pairs more page side r le go Less e = let lt : page < q.0 = ranked page q.0 Less e in (le, (omega arith, r.1))
rises_by low q pairs more page side r le go Equal e = (r.0, r.1)
rises_by low q pairs more page side r le go Greater e = let lt : q.0 < page = ranked page q.0 Greater e in (r.0, go (omega arith))

rises_put : (low : ℕ) (pairs : Pairs) (page side : ℕ) → Rises low pairs → low ≤ page → Rises low (insert_entry nat_cmp pairs page side)
rises_put low [] page side r le = (le, tt)
rises_put low (q ∷ pairs) page side r le = rises_by low q pairs (insert_entry nat_cmp pairs page side) page side r le (λ h. rises_put (suc q.0) pairs page side r.1 h) (nat_cmp page q.0) refl

each_by : (q : ℕ × ℕ) (pairs more : Pairs) (page side : ℕ) → AllByRecursion SideFits (q ∷ pairs) → SideFits (page, side) → AllByRecursion SideFits more → (o : Ordering)
    → AllByRecursion SideFits (match_ordering o ((page, side) ∷ q ∷ pairs) ((q.0, side) ∷ pairs) (q ∷ more))
each_by q pairs more page side a f m Less = (f, a)
each_by q pairs more page side a f m Equal = ((a.0.0, f.1), a.1)
each_by q pairs more page side a f m Greater = (a.0, m)

each_put : (pairs : Pairs) (page side : ℕ) → AllByRecursion SideFits pairs → SideFits (page, side) → AllByRecursion SideFits (insert_entry nat_cmp pairs page side)
each_put [] page side a f = (f, tt)
each_put (q ∷ pairs) page side a f = each_by q pairs (insert_entry nat_cmp pairs page side) page side a f (each_put pairs page side a.1 f) (nat_cmp page q.0)

pub fit_put : (pairs : Pairs) (page side : ℕ) → SidesFit pairs → page < 2 ^ 32 → side < 2 → SidesFit (insert_entry nat_cmp pairs page side)
fit_put pairs page side fit p s = record { rising = rises_put 0 pairs page side fit.rising (omega arith); each = each_put pairs page side fit.each (p, s) }

-- what a search by number answers
pub found_place : (pairs : Pairs) (page at : ℕ) → SidesFit pairs → at < length pairs → HoldsAt (λ y. nat_cmp y.0 page ≡ Equal) pairs at → IsPlace pairs page at
found_place pairs page at fit within is = place_at 0 pairs page at fit.rising within (ranked (slice_index_or pairs at (0, 0)).0 page Equal (sym (is (0, 0))))

pub found_gap : (pairs : Pairs) (page at : ℕ) → SidesFit pairs → at ≤ length pairs → (IsNonDecreasingBy (λ y. ordering_index (nat_cmp y.0 page)) pairs → IsPartitionPoint (λ y. nat_cmp y.0 page ≡ Less) (λ y. nat_cmp y.0 page ≡ Greater) pairs at) → IsGap pairs page at
found_gap pairs page at fit within splits =
    let parts = splits (non_decreasing pairs page fit.rising) in
    gap_at 0 pairs page at fit.rising within (record {
      lower = λ k lt. ranked (slice_index_or pairs k (0, 0)).0 page Less (sym (parts.0 k (0, 0) (omega arith) lt));
      greater = λ k le below. ranked (slice_index_or pairs k (0, 0)).0 page Greater (sym (parts.1 k (0, 0) le below));
    })

pub fit_chosen : (b : Bool) (pairs x y : Pairs) → pairs ≡ cond b x y → SidesFit x → SidesFit y → SidesFit pairs
fit_chosen true pairs x y is fx fy = subst SidesFit (sym is) fx
fit_chosen false pairs x y is fx fy = subst SidesFit (sym is) fy

pub left_all : (pairs : Pairs) (low : ℕ) → SidesLeft pairs [] low → SidesFit pairs
left_all pairs low left = left.back tt tt
