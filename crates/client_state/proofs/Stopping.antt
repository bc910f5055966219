-- How links change, one after the other, and at one place.
use Rattle.client_cache.specs.Copies.{kept}
use Rattle.client_state.specs.Links.{at_repo, changed_at, link_in, session_in, stopped, waiting}
use Rattle.client_state.specs.Moving.{HasLeft, LeavesSome, StopsWaiting}
use Rattle.client_state.specs.declared.held.Held.{Held}
use Rattle.client_state.specs.declared.link.Link.TheVariants.{Apart, Joined, Unsettled}
use Rattle.client_state.specs.declared.link.Link.{Link}
use Rattle.client_state.specs.declared.link.Waits.TheVariants.{Idle}
use Rattle.client_state.specs.declared.transaction.Sent.{Sent}
use Rattle.paused_eval.specs.Copies.{AreAmong}
use Rattle.std.proofs.Common.{List, [], ap, arith, inl, inr, length, refl, suc, sym, zero, ℕ, ◌+◌, ◌<◌, ◌≡◌, ◌≢◌, ◌≤◌, ◌∙◌, ◌∷◌}
use Rattle.std.proofs.Math.Nat.{eq-or-lt_of_le}
use Rattle.std.proofs.lemmas.Bool.{cases_eq, cases_lt}
use Rattle.std.proofs.lemmas.Option.{same_Some, slice_get_past}
use Rattle.std.specs.List.{slice_get}
use Rattle.std.specs.Option.{option_map}
use Rattle.std.specs.Prelude.{None, Option, Some, slice_set, ◌⊎◌}
use Rattle.thor_value.specs.declared.names.Oref.{Oref}
use Rattle.thor_value.specs.declared.values.Obj.{Obj}

-- ---- one link changes

set_here : (xs : List Link) (r : ℕ) (old new : Link) → slice_get xs r ≡ Some old → slice_get (slice_set xs r new) r ≡ Some new
set_here [] r old new e = cc
set_here (x ∷ xs) zero old new e = refl
set_here (x ∷ xs) (suc r) old new e = set_here xs r old new e

set_other : (xs : List Link) (r n : ℕ) (l : Link) → n ≢ r → slice_get (slice_set xs r l) n ≡ slice_get xs n
set_other [] r n l other = refl
set_other (x ∷ xs) zero zero l other = absurd (other refl)
set_other (x ∷ xs) zero (suc n) l other = refl
set_other (x ∷ xs) (suc r) zero l other = refl
set_other (x ∷ xs) (suc r) (suc n) l other = set_other xs r n l (λ e. other (ap suc e))

set_same : (xs : List Link) (r : ℕ) (l : Link) → slice_get xs r ≡ Some l → slice_set xs r l ≡ xs
set_same [] r l e = cc
set_same (x ∷ xs) zero l e = ap (λ (y : Link). y ∷ xs) (sym (same_Some x l e))
set_same (x ∷ xs) (suc r) l e = ap (λ (ys : List Link). x ∷ ys) (set_same xs r l e)

set_twice : (xs : List Link) (r : ℕ) (k l : Link) → slice_set (slice_set xs r k) r l ≡ slice_set xs r l
set_twice [] r k l = refl
set_twice (x ∷ xs) zero k l = refl
set_twice (x ∷ xs) (suc r) k l = ap (λ (ys : List Link). x ∷ ys) (set_twice xs r k l)

module _ (f : Link → Link) where
  here_by : (xs : List Link) (r : ℕ) (o : Option Link) → slice_get xs r ≡ o → slice_get (changed_at xs r f o) r ≡ option_map f o
  here_by xs r None e = e
  here_by xs r (Some l) e = set_here xs r l (f l) e

  -- the link there becomes another
  pub at_here : (xs : List Link) (r : ℕ) → slice_get (at_repo xs r f) r ≡ option_map f (slice_get xs r)
  at_here xs r = here_by xs r (slice_get xs r) refl

  other_by : (xs : List Link) (r n : ℕ) (o : Option Link) → n ≢ r → slice_get (changed_at xs r f o) n ≡ slice_get xs n
  other_by xs r n None away = refl
  other_by xs r n (Some l) away = set_other xs r n (f l) away

  -- the others stay
  pub at_other : (xs : List Link) (r n : ℕ) → n ≢ r → slice_get (at_repo xs r f) n ≡ slice_get xs n
  at_other xs r n away = other_by xs r n (slice_get xs r) away

-- ---- a link that is taken and put back

back_by : (xs : List Link) (r : ℕ) (o : Option Link) → slice_get xs r ≡ o → at_repo (changed_at xs r (λ l. Apart) o) r (λ l. link_in o) ≡ xs
back_by xs r None e = ap (λ (o : Option Link). changed_at xs r (λ l. Apart) o) e
back_by xs r (Some k) e =
    ap (λ (o : Option Link). changed_at (slice_set xs r Apart) r (λ l. k) o) (set_here xs r k Apart e)
    ∙ set_twice xs r Apart k ∙ set_same xs r k e

pub put_back : (xs ys zs : List Link) (r : ℕ) (link : Link) → link ≡ link_in (slice_get xs r) → ys ≡ at_repo xs r (λ l. Apart) → zs ≡ at_repo ys r (λ l. link) → zs ≡ xs
put_back xs ys zs r link is taken back =
    back ∙ ap (λ (l : Link). at_repo ys r (λ k. l)) is
    ∙ ap (λ (ls : List Link). at_repo ls r (λ k. link_in (slice_get xs r))) taken ∙ back_by xs r (slice_get xs r) refl

-- a link that is unsettled is there
pub unsettled_there : (o : Option Link) (sent : Sent) (index : ℕ) → Unsettled sent index ≡ link_in o → o ≡ Some (Unsettled sent index)
unsettled_there None sent index e = cc
unsettled_there (Some l) sent index e = ap Some (sym e)

-- ---- all links stop, one after the other

abbrev pub Stops : ℕ → List Link → List Link → Type 0
Stops place old new = ((n : ℕ) → n < place → slice_get new n ≡ option_map stopped (slice_get old n)) × ((n : ℕ) → place ≤ n → slice_get new n ≡ slice_get old n)

below : (place : ℕ) (old now : List Link) → Stops place old now → (n : ℕ) → (n ≡ place) ⊎ (n < place) → slice_get (at_repo now place stopped) n ≡ option_map stopped (slice_get old n)
below place old now h n (inl e) = rw e (at_here stopped now place ∙ ap (option_map stopped) (h.1 place (omega arith)))
below place old now h n (inr l) = at_other stopped now place n (omega (arith, l)) ∙ h.0 n l

pub one_stops : (place : ℕ) (old now : List Link) → Stops place old now → Stops (place + 1) old (at_repo now place stopped)
one_stops place old now h = (
  (λ n l. below place old now h n (eq-or-lt_of_le (omega (arith, l)))),
  (λ n l. at_other stopped now place n (omega (arith, l)) ∙ h.1 n (omega (arith, l))),
)

pub none_stops : (old : List Link) → Stops 0 old old
none_stops old = ((λ n l. absurd (omega (arith, l))), (λ n l. refl))

all_by : (place : ℕ) (old new : List Link) → length old ≤ place → Stops place old new → (n : ℕ) → (n < place) ⊎ (place ≤ n) → slice_get new n ≡ option_map stopped (slice_get old n)
all_by place old new past h n (inl l) = h.0 n l
all_by place old new past h n (inr l) = let none : slice_get old n ≡ None = slice_get_past old n (omega (arith, past, l)) in h.1 n l ∙ none ∙ sym (ap (option_map stopped) none)

pub all_stop : (place : ℕ) (old new : List Link) → length old ≤ place → Stops place old new → (n : ℕ) → slice_get new n ≡ option_map stopped (slice_get old n)
all_stop place old new past h n = all_by place old new past h n (cases_lt n place)

idle_then : (link : Link) → waiting Idle (stopped link) ≡ waiting Idle link
idle_then Apart = refl
idle_then (Joined s upto waits) = refl
idle_then (Unsettled sent index) = refl

idle_there : (o : Option Link) → option_map (waiting Idle) (option_map stopped o) ≡ option_map (waiting Idle) o
idle_there None = refl
idle_there (Some link) = ap Some (idle_then link)

-- one of them then waits for nothing
pub stops_waiting : (repo : ℕ) (a b c : Held) → ((n : ℕ) → slice_get b.links.items n ≡ option_map stopped (slice_get a.links.items n)) → c.links.items ≡ at_repo b.links.items repo (waiting Idle) → StopsWaiting repo a c
stops_waiting repo a b c all then = record {
  here = ap (λ (ls : List Link). slice_get ls repo) then ∙ at_here (waiting Idle) b.links.items repo ∙ ap (option_map (waiting Idle)) (all repo) ∙ idle_there (slice_get a.links.items repo);
  others = λ n away. ap (λ (ls : List Link). slice_get ls n) then ∙ at_other (waiting Idle) b.links.items repo n away ∙ all n;
}

-- ---- repositories that are left

pub among_none : (a b : Option Obj) → (b ≡ a) ⊎ (b ≡ None) → a ≡ None → b ≡ None
among_none a b (inl e) h = e ∙ h
among_none a b (inr e) h = e

left_then : (n : ℕ) (b c : Held) → HasLeft n b → slice_get c.links.items n ≡ slice_get b.links.items n → AreAmong (kept b.cache.cache) (kept c.cache.cache) → HasLeft n c
left_then n b c h same fewer = record {
  apart = ap (session_in n) same ∙ h.apart;
  none = λ x here. among_none (kept b.cache.cache x) (kept c.cache.cache x) (fewer x) (h.none x here);
}

leaves_by : (n : ℕ) (a b c : Held) → AreAmong (kept b.cache.cache) (kept c.cache.cache) → (slice_get b.links.items n ≡ slice_get a.links.items n) ⊎ HasLeft n b
    → (slice_get c.links.items n ≡ slice_get b.links.items n) ⊎ HasLeft n c → (slice_get c.links.items n ≡ slice_get a.links.items n) ⊎ HasLeft n c
leaves_by n a b c fewer p (inr q) = inr q
leaves_by n a b c fewer (inl p) (inl q) = inl (q ∙ p)
leaves_by n a b c fewer (inr p) (inl q) = inr (left_then n b c p q fewer)

pub leaves_more : (a b c : Held) → AreAmong (kept b.cache.cache) (kept c.cache.cache) → LeavesSome a b → LeavesSome b c → LeavesSome a c
leaves_more a b c fewer f g n = leaves_by n a b c fewer (f n) (g n)

pub leaves_none : (a b : Held) → b.links.items ≡ a.links.items → LeavesSome a b
leaves_none a b same n = inl (ap (λ (ls : List Link). slice_get ls n) same)

no_session : (n : ℕ) (sent : Sent) (index : ℕ) (o : Option Link) → session_in n (option_map (λ l. Unsettled sent index) o) ≡ None
no_session n sent index None = refl
no_session n sent index (Some l) = refl

-- a repository of whose objects no copy is held is left, where the verdict of a transaction is to be learnt there
pub leaves_unsettled : (repo : ℕ) (sent : Sent) (index : ℕ) (a b : Held) → ((x : Oref) → x.repo ≡ repo → kept b.cache.cache x ≡ None) → b.links.items ≡ at_repo a.links.items repo (λ l. Unsettled sent index) → LeavesSome a b
leaves_unsettled repo sent index a b none set n = elim (cases_eq n repo) [
  | inl e ↦ inr (record {
    apart = rw e (ap (λ (ls : List Link). session_in repo (slice_get ls repo)) set ∙ ap (session_in repo) (at_here (λ l. Unsettled sent index) a.links.items repo) ∙ no_session repo sent index (slice_get a.links.items repo));
    none = λ x here. none x (here ∙ e);
  })
  | inr away ↦ inl (ap (λ (ls : List Link). slice_get ls n) set ∙ at_other (λ l. Unsettled sent index) a.links.items repo n away)
]
