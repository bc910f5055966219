-- The traces of a run have sound histories, by the bases with which it began.
use Rattle.cluster_core.specs.Histories.{AreHistories}
use Rattle.cluster_core.specs.Seated.{AreRight, are_settled, base_at, is_settled_at, run_of}
use Rattle.cluster_core.specs.declared.plan.Start.TheVariants as start
use Rattle.cluster_core.specs.declared.plan.Start.{Start}
use Rattle.cluster_port.specs.Run.{Run}
use Rattle.cluster_port.specs.Sited.{IsRightTrace}
use Rattle.disk_trait.specs.Disks.{Disks}
use Rattle.law_atomic_commit.specs.Several.{AreSound}
use Rattle.law_reported_history.specs.Reported.{history_in, several_of}
use Rattle.repo_trace.specs.declared.trace.Trace.{Trace}
use Rattle.spec_history.proofs.Lives.{lives}
use Rattle.spec_history.specs.Laws.{LivesFollow}
use Rattle.spec_history.specs.Sound.{sound}
use Rattle.std.proofs.Common.{List, [], ap, arith, length, refl, subst, suc, sym, true, zero, ℕ, ◌+◌, ◌<◌, ◌≡◌, ◌≤◌, ◌∙◌, ◌∷◌}
use Rattle.std.proofs.lemmas.Bool.{and_parts, eqb-true}
use Rattle.std.proofs.lemmas.Option.{same_Some}
use Rattle.std.specs.List.{AllZip, slice_get}
use Rattle.std.specs.Prelude.{None, Option, Some, nat_eq}
use Rattle.store_opening.specs.Seated.{IsSeated}
use Rattle.store_opening.specs.declared.closed.Closed.TheVariants as found
use Rattle.store_opening.specs.declared.closed.Closed as closed

-- ---- lists

same-length : {A B : Type 0} (R : A → B → Type 0) (xs : List A) (ys : List B) → AllZip R xs ys → length xs ≡ length ys
same-length R [] [] h = refl
same-length R [] (y ∷ ys) h = absurd h
same-length R (x ∷ xs) [] h = absurd h
same-length R (x ∷ xs) (y ∷ ys) h = ap (λ (n : ℕ). suc n) (same-length R xs ys h.1)

none-past : {X : Type 0} (xs : List X) (n : ℕ) → length xs ≤ n → slice_get xs n ≡ None
none-past [] n l = refl
none-past (x ∷ xs) zero l = absurd (omega (arith, l))
none-past (x ∷ xs) (suc n) l = none-past xs n (omega (arith, l))

some-within : {X : Type 0} (xs : List X) (n : ℕ) → n < length xs → (x : X) × (slice_get xs n ≡ Some x)
some-within [] n l = absurd (omega (arith, l))
some-within (x ∷ xs) zero l = (x, refl)
some-within (x ∷ xs) (suc n) l = some-within xs n (omega (arith, l))

from-zero : (k : ℕ) → 0 + k ≡ k
from-zero k = omega arith

-- ---- one repository

right-at : (run : Run) (n : ℕ) (ts : List Trace) (k : ℕ) (t : Trace) → AreRight run n ts → slice_get ts k ≡ Some t → IsRightTrace run (n + k) t
right-at run n [] k t a e = cc
right-at run n (x ∷ xs) zero t a e = subst (λ (m : ℕ). IsRightTrace run m t) (first n) (subst (λ (o : Trace). IsRightTrace run n o) (same_Some x t e) a.0)
  where
    first : (n : ℕ) → n ≡ n + zero
    first n = omega arith
right-at run n (x ∷ xs) (suc k) t a e = subst (λ (m : ℕ). IsRightTrace run m t) (later n k) (right-at run (suc n) xs k t a.1 e)
  where
    later : (n k : ℕ) → suc n + k ≡ n + suc k
    later n k = omega arith

module _ {P : Type 0} where
  settled-at : (n : ℕ) (cs : List (closed.Closed P)) (k : ℕ) (c : closed.Closed P) → are_settled n cs ≡ true → slice_get cs k ≡ Some c → is_settled_at (n + k) c ≡ true
  settled-at n [] k c s e = cc
  settled-at n (x ∷ xs) zero c s e = subst (λ (m : ℕ). is_settled_at m c ≡ true) (first n) (subst (λ (o : closed.Closed P). is_settled_at n o ≡ true) (same_Some x c e) (and_parts (is_settled_at n x) (are_settled (suc n) xs) s).0)
    where
      first : (n : ℕ) → n ≡ n + zero
      first n = omega arith
  settled-at n (x ∷ xs) (suc k) c s e = subst (λ (m : ℕ). is_settled_at m c ≡ true) (later n k) (settled-at (suc n) xs k c (and_parts (is_settled_at n x) (are_settled (suc n) xs) s).1 e)
    where
      later : (n k : ℕ) → suc n + k ≡ n + suc k
      later n k = omega arith

  -- the base of one that is settled has its number, and so many repositories
  based-at : (n repos : ℕ) (c : closed.Closed P) → is_settled_at n c ≡ true → ((base_at repos (Some c)).repo ≡ n) × ((base_at repos (Some c)).repos ≡ repos)
  based-at n repos (found.Parts p) s = cc
  based-at n repos (found.Fresh p) s = cc
  based-at n repos (found.Known k) s = (eqb-true k.recovered.state.repo n (and_parts (nat_eq k.recovered.state.repo n) _ s).0, refl)

  numbered : (places : List (closed.Closed P)) (mob : ℕ) (s : Start) → (run_of places mob s).based ≡ true → (r : ℕ) → r < length places → (((run_of places mob s).base r).repo ≡ r) × (((run_of places mob s).base r).repos ≡ length places)
  numbered places mob (start.Setup setup) is r l = (refl, refl)
  numbered places mob start.Stored is r l =
      let c = some-within places r l in
      let s : is_settled_at r c.0 ≡ true = subst (λ (m : ℕ). is_settled_at m c.0 ≡ true) (from-zero r) (settled-at 0 places r c.0 is c.1) in
      let b = based-at r (length places) c.0 s in
      (ap (λ (o : Option (closed.Closed P)). (base_at (length places) o).repo) c.1 ∙ b.0, ap (λ (o : Option (closed.Closed P)). (base_at (length places) o).repos) c.1 ∙ b.1)

-- ---- all

sound-in : (run : Run) (traces : List Trace) → run.based ≡ true → AreRight run 0 traces → (r : ℕ) → sound (run.base r) (history_in (slice_get traces r))
sound-in run traces based right r = by (slice_get traces r) refl
  where
    by : (o : Option Trace) → slice_get traces r ≡ o → sound (run.base r) (history_in o)
    by None e = tt
    by (Some t) e = (subst (λ (m : ℕ). IsRightTrace run m t) (from-zero r) (right-at run 0 traces r t right e)).sound based

pub are-sound : {P : Type 0} (disks : P → Disks) (given : List P) (traces : List Trace) (h : AreHistories disks given traces) → (run_of h.places h.mob h.start).based ≡ true → AreSound (several_of (run_of h.places h.mob h.start).base traces)
are-sound disks given traces h based = record {
  each = sound-in (run_of h.places h.mob h.start) traces based h.right;
  numbered = λ r l. (numbered h.places h.mob h.start based r (omega (arith, l, many))).0;
  counted = λ r l. (numbered h.places h.mob h.start based r (omega (arith, l, many))).1 ∙ sym many;
  outside = λ r l. ap history_in (none-past traces r l);
}
  where
    many : length traces ≡ length h.places
    many = h.count ∙ same-length (IsSeated disks) given h.places h.seated

pub lives-follow : {P : Type 0} (disks : P → Disks) (given : List P) (traces : List Trace) (h : AreHistories disks given traces) → (run_of h.places h.mob h.start).based ≡ true → (r : ℕ) → LivesFollow ((run_of h.places h.mob h.start).base r) (history_in (slice_get traces r))
lives-follow disks given traces h based r = lives ((run_of h.places h.mob h.start).base r) (history_in (slice_get traces r)) ((are-sound disks given traces h based).each r)
