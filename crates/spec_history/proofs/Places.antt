-- Where the requests of a sound history stand, and what stays of a transaction as the history grows.
use Rattle.log_entries.specs.declared.entry.Entry.TheVariants.{Life, One, Prepared, Decided, Finished, Upgraded}
use Rattle.log_entries.specs.declared.entry.Entry.{Entry}
use Rattle.log_entries.specs.declared.request.Request.{Request}
use Rattle.spec_history.proofs.Growth.{by_growth, kept_by-parts, length-state, sound-beginning, state-append, state-end}
use Rattle.spec_history.proofs.Steps.{Begun, FateBegun, FateMoves, Kept, LifeBegan, Moved, life_began, moved, onward, origin}
use Rattle.spec_history.specs.History.{Base, Fate, Known, State, Open, Committed, Aborted, commit_of, put, known_in, known_by, start, state}
use Rattle.spec_history.specs.Laws.{Asks, FateStays, Stays}
use Rattle.spec_history.specs.Sound.{Admits, kept_by, owes, sound}
use Rattle.std.proofs.Common.{◌≡◌, ◌≤◌, ◌<◌, ℕ, ◌+◌, List, [], ◌∷◌, ◌++◌, length, take, drop, refl, ap, sym, ◌∙◌, subst, arith, inl, inr}
use Rattle.std.proofs.lemmas.List.{take-append-drop}
use Rattle.std.specs.List.{fold}
use Rattle.std.specs.Prelude.{◌⊎◌, Some, None}
use Rattle.thor_value.specs.declared.names.Ts.{Ts}

-- ---- one state to the next

-- where a commit stands: behind its request, and below n
abbrev pub FateFits : ℕ → ℕ → Fate → Type 0
FateFits p n Open = Unit {0}
FateFits p n (Committed at) = (p ≤ at) × (at < n)
FateFits p n Aborted = Unit {0}

-- t stands as o where there are n entries
pub record Fits (n : ℕ) (t : Ts) (o : Known) : Type 0 where
  pub below : o.place < n
  pub named : o.request.tx ≡ t
  pub fate : FateFits o.place n o.fate

fits_begun : (cs : List (ℕ × Request)) (n : ℕ) (q : Request) (f : Fate) → FateBegun cs n q f → FateFits n (n + 1) f
fits_begun cs n q Open h = tt
fits_begun cs n q (Committed at) h = let e : at ≡ n = h.0 in (omega arith, omega arith)
fits_begun cs n q Aborted h = tt

fits_moved : (cs : List (ℕ × Request)) (p n : ℕ) (q : Request) (f g : Fate) → p < n → FateMoves cs n q f g → FateFits p n f → FateFits p (n + 1) g
fits_moved cs p n q Open Open l m h = tt
fits_moved cs p n q Open (Committed at) l m h = let e : at ≡ n = m.0 in (omega arith, omega arith)
fits_moved cs p n q Open Aborted l m h = tt
fits_moved cs p n q (Committed a) Open l m h = tt
fits_moved cs p n q (Committed a) (Committed at) l m h = let h0 : p ≤ a = h.0 in let h1 : a < n = h.1 in (omega arith, omega arith)
fits_moved cs p n q (Committed a) Aborted l m h = tt
fits_moved cs p n q Aborted Open l m h = tt
fits_moved cs p n q Aborted (Committed at) l m h = absurd m
fits_moved cs p n q Aborted Aborted l m h = tt

fate_stays : (cs : List (ℕ × Request)) (n : ℕ) (q : Request) (f g : Fate) → FateMoves cs n q f g → FateStays f g
fate_stays cs n q Open g m = tt
fate_stays cs n q (Committed a) Open m = m
fate_stays cs n q (Committed a) (Committed at) m = m
fate_stays cs n q (Committed a) Aborted m = m
fate_stays cs n q Aborted Open m = m
fate_stays cs n q Aborted (Committed at) m = m
fate_stays cs n q Aborted Aborted m = tt

pub fate_same : (f : Fate) → FateStays f f
fate_same Open = tt
fate_same (Committed at) = refl
fate_same Aborted = tt

pub fate_then : (f g h : Fate) → FateStays f g → FateStays g h → FateStays f h
fate_then Open g h x y = tt
fate_then (Committed a) (Committed c) (Committed d) x y = y ∙ x
fate_then (Committed a) (Committed c) Open x y = y
fate_then (Committed a) (Committed c) Aborted x y = y
fate_then (Committed a) Open h x y = absurd x
fate_then (Committed a) Aborted h x y = absurd x
fate_then Aborted Aborted Aborted x y = tt
fate_then Aborted Aborted Open x y = y
fate_then Aborted Aborted (Committed d) x y = y
fate_then Aborted Open h x y = absurd x
fate_then Aborted (Committed c) h x y = absurd x

pub stays_same : (o : Known) → Stays o o
stays_same o = record { place = refl; request = refl; fate = fate_same o.fate }

pub stays_then : (o w v : Known) → Stays o w → Stays w v → Stays o v
stays_then o w v x y = record { place = y.place ∙ x.place; request = y.request ∙ x.request; fate = fate_then o.fate w.fate v.fate x.fate y.fate }

pub stays_kept : (cs : List (ℕ × Request)) (n : ℕ) (o w : Known) → Kept cs n o w → Stays o w
stays_kept cs n o w k = record { place = k.0; request = k.1; fate = fate_stays cs n o.request o.fate w.fate k.2 }

pub fits_kept : (cs : List (ℕ × Request)) (n : ℕ) (t : Ts) (o w : Known) → Kept cs n o w → Fits n t o → Fits (n + 1) t w
fits_kept cs n t o w k h =
    let below : o.place < n = h.below in
    let here : w.place ≡ o.place = k.0 in
    record {
      below = omega arith;
      named = ap (λ (q : Request). q.tx) k.1 ∙ h.named;
      fate = subst (λ p. FateFits p (n + 1) w.fate) (sym here) (fits_moved cs o.place n o.request o.fate w.fate below k.2 h.fate);
    }

pub fits_new : (e : Entry) (cs : List (ℕ × Request)) (n : ℕ) (t : Ts) (w : Known) → Begun e cs n t w → Fits (n + 1) t w
fits_new e cs n t w k =
    let here : w.place ≡ n = k.2 in
    record {
      below = omega arith;
      named = k.1;
      fate = subst (λ p. FateFits p (n + 1) w.fate) (sym here) (fits_begun cs n w.request w.fate k.3);
    }

-- an entry is the request of one transaction
pub one_request : (e : Entry) (q r : Request) → Asks e q → Asks e r → q ≡ r
one_request (Life n) q r x y = absurd x
one_request (One s) q r x y = sym x ∙ y
one_request (Prepared s) q r x y = sym x ∙ y
one_request (Decided t c) q r x y = absurd x
one_request (Finished t c) q r x y = absurd x
one_request (Upgraded s) q r x y = sym x ∙ y

-- the entry of a request owed what the request owes
pub admitted : (b : Base) (S : State) (e : Entry) (q : Request) → Asks e q → owes b S e → Admits b S q
admitted b S (Life n) q x o = absurd x
admitted b S (One r) q x o = subst (Admits b S) x o.0
admitted b S (Prepared r) q x o = subst (Admits b S) x o.0
admitted b S (Decided t c) q x o = absurd x
admitted b S (Finished t c) q x o = absurd x
admitted b S (Upgraded r) q x o = subst (Admits b S) x o.0

module _ (b : Base) where
  pub record Placed (S : State) : Type 0 where
    pub began : LifeBegan b S
    pub fits : (t : Ts) (o : Known) → known_in b S t ≡ Some o → Fits S.length t o

  -- where t came from, if it stands behind the entry e
  pub came : (S : State) (e : Entry) → LifeBegan b S → owes b S e → (t : Ts) (w : Known) → known_in b (put b S e) t ≡ Some w
      → ((known_in b S t ≡ None) × Begun e (commit_of b S e) S.length t w) ⊎ ((o : Known) × (known_in b S t ≡ Some o) × Kept (commit_of b S e) S.length o w)
  came S e h o t w is = origin e (commit_of b S e) S.length t (known_in b S t) w (subst (Moved e (commit_of b S e) S.length t (known_in b S t)) is (moved b S e h o t))

  -- how t stands behind the entry e, if it stood before it
  pub goes : (S : State) (e : Entry) → LifeBegan b S → owes b S e → (t : Ts) (o : Known) → known_in b S t ≡ Some o
      → (w : Known) × (known_in b (put b S e) t ≡ Some w) × Kept (commit_of b S e) S.length o w
  goes S e h d t o is = onward e (commit_of b S e) S.length t o (known_in b (put b S e) t) (subst (λ k. Moved e (commit_of b S e) S.length t k (known_in b (put b S e) t)) is (moved b S e h d t))

  placed_put : (S : State) (e : Entry) → owes b S e → Placed S → Placed (put b S e)
  placed_put S e o h = record {
    began = life_began b S e h.began;
    fits = λ t w is. elim (came S e h.began o t w is) [
      | inl x ↦ fits_new e (commit_of b S e) S.length t w x.1
      | inr x ↦ fits_kept (commit_of b S e) S.length t x.0 w x.2 (h.fits t x.0 x.1)
    ];
  }

  placed_start : Placed (start b)
  placed_start = record { began = omega arith; fits = λ t o is. cc }

  pub placed : (H : List Entry) → sound b H → Placed (state b H)
  placed = by_growth b (λ H. Placed (state b H)) placed_start (λ H e s p o. subst Placed (sym (state-end b H e)) (placed_put (state b H) e o p))

  -- the same of a history
  pub came_end : (H : List Entry) (e : Entry) → sound b H → owes b (state b H) e → (t : Ts) (w : Known) → known_by b (H ++ e ∷ []) t ≡ Some w
      → ((known_by b H t ≡ None) × Begun e (commit_of b (state b H) e) (length H) t w) ⊎ ((o : Known) × (known_by b H t ≡ Some o) × Kept (commit_of b (state b H) e) (length H) o w)
  came_end H e s o t w is =
      let is' : known_in b (put b (state b H) e) t ≡ Some w = subst (λ S. known_in b S t ≡ Some w) (state-end b H e) is in
      subst (λ n. ((known_by b H t ≡ None) × Begun e (commit_of b (state b H) e) n t w) ⊎ ((v : Known) × (known_by b H t ≡ Some v) × Kept (commit_of b (state b H) e) n v w)) (length-state b H)
      (came (state b H) e (placed H s).began o t w is')

  -- ---- what stays

  stays_on : (S : State) → Placed S → (more : List Entry) → kept_by b S more → (t : Ts) (o : Known) → known_in b S t ≡ Some o
      → (w : Known) × (known_in b (fold (put b) S more) t ≡ Some w) × Stays o w
  stays_on S h [] k t o is = (o, is, stays_same o)
  stays_on S h (e ∷ more) k t o is =
      let x = goes S e h.began k.0 t o is in
      let y = stays_on (put b S e) (placed_put S e k.0 h) more k.1 t x.0 x.1 in
      (y.0, y.1, stays_then o x.0 y.0 (stays_kept (commit_of b S e) S.length o x.0 x.2) y.2)

  -- a transaction that stands in a history stands in each longer one
  pub stays : (H more : List Entry) → sound b (H ++ more) → (t : Ts) (o : Known) → known_by b H t ≡ Some o
      → (w : Known) × (known_by b (H ++ more) t ≡ Some w) × Stays o w
  stays H more s t o is =
      let p = kept_by-parts b (start b) H more s in
      subst (λ S. (w : Known) × (known_in b S t ≡ Some w) × Stays o w) (sym (state-append b H more)) (stays_on (state b H) (placed H p.0) more p.1 t o is)

  -- ---- what was at a place

  -- H up to a place of it, and the rest
  pub sound_take : (n : ℕ) (H : List Entry) → sound b H → sound b (take n H)
  sound_take n H s = sound-beginning b (take n H) (drop n H) (subst (sound b) (sym (take-append-drop n H)) s)
