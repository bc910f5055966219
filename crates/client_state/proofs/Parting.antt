-- Shares of which no two are of one repository, what goes with a session, and links that are apart.
use Rattle.client_cache.specs.Copies.{changed}
use Rattle.client_state.proofs.Stopping.{at_here, at_other}
use Rattle.client_state.specs.Calling.{is_session_of}
use Rattle.client_state.specs.Links.{at_repo}
use Rattle.client_state.specs.Moving.{IsApart}
use Rattle.client_state.specs.Sending.{AreApart, IsFirstOfItsOwn}
use Rattle.client_state.specs.Stepping.{KeepsSent}
use Rattle.client_state.specs.Written.{LeavesApart, PartsSome, WrittenLost}
use Rattle.client_state.specs.declared.held.Held.{Held}
use Rattle.client_state.specs.declared.link.Link.TheVariants.{Apart, Unsettled}
use Rattle.client_state.specs.declared.link.Link.{Link}
use Rattle.client_state.specs.declared.transaction.Sent.{Sent}
use Rattle.client_state.specs.declared.transaction.Share.{Share}
use Rattle.std.proofs.Common.{Bool, List, ap, arith, cond, false, inl, inr, length, nat_eq, refl, subst, sym, true, ℕ, ◌+◌, ◌<◌, ◌≡◌, ◌≢◌, ◌≤◌, ◌∙◌}
use Rattle.std.proofs.Math.Nat.{eq-or-lt_of_le}
use Rattle.std.proofs.lemmas.Bool.{cases_eq, cases_lt}
use Rattle.std.proofs.lemmas.Option.{same_Some, slice_get_past}
use Rattle.std.specs.Option.{option_map}
use Rattle.std.specs.Prelude.{None, Option, Some, slice_get, ◌&&◌, ◌⊎◌}
use Rattle.thor_value.specs.declared.names.Oref.{Oref}

-- ---- shares

abbrev FirstAt : List Share → ℕ → Type 0
FirstAt shares n = IsFirstOfItsOwn n shares (slice_get shares n)

so_far : (shares : List Share) (place n : ℕ) → ((m : ℕ) → m < place → FirstAt shares m) → FirstAt shares place → (n ≡ place) ⊎ (n < place) → FirstAt shares n
so_far shares place n h here (inl e) = subst (FirstAt shares) (sym e) here
so_far shares place n h here (inr l) = h n l

pub one_more_first : (shares : List Share) (place : ℕ) → ((n : ℕ) → n < place → IsFirstOfItsOwn n shares (slice_get shares n)) → IsFirstOfItsOwn place shares (slice_get shares place) → (n : ℕ) → n < place + 1 → IsFirstOfItsOwn n shares (slice_get shares n)
one_more_first shares place h here n l = so_far shares place n h here (eq-or-lt_of_le (omega (arith, l)))

none_is_first : (shares : List Share) (n : ℕ) (o : Option Share) → o ≡ None → IsFirstOfItsOwn n shares o
none_is_first shares n None e = tt
none_is_first shares n (Some s) e = cc

each_by : (shares : List Share) (n : ℕ) → ((m : ℕ) → m < length shares → FirstAt shares m) → (n < length shares) ⊎ (length shares ≤ n) → FirstAt shares n
each_by shares n h (inl l) = h n l
each_by shares n h (inr l) = none_is_first shares n (slice_get shares n) (slice_get_past shares n l)

pub first_each : (shares : List Share) → ((n : ℕ) → n < length shares → IsFirstOfItsOwn n shares (slice_get shares n)) → AreApart shares
first_each shares h n = each_by shares n h (cases_lt n (length shares))

-- ---- what goes with a session

module _ (repo session : ℕ) (a b c : Held) (rest : b ≡ record a { links = b.links }) where
  pub lost_gives : is_session_of session (slice_get a.links.items repo) ≡ true → ((x : Oref) → changed c.cache.cache x ≡ cond (nat_eq x.repo repo) None (changed b.cache.cache x)) → WrittenLost session repo a.links.items a.cache.cache c.cache.cache
  lost_gives is wrote x = wrote x ∙ (ap (λ (h : Held). cond (nat_eq x.repo repo) None (changed h.cache.cache x)) rest ∙ ap (λ (t : Bool). cond (t && nat_eq x.repo repo) None (changed a.cache.cache x)) (sym is))

  pub lost_keeps : is_session_of session (slice_get a.links.items repo) ≡ false → WrittenLost session repo a.links.items a.cache.cache b.cache.cache
  lost_keeps is x = ap (λ (h : Held). changed h.cache.cache x) rest ∙ ap (λ (t : Bool). cond (t && nat_eq x.repo repo) None (changed a.cache.cache x)) (sym is)

-- ---- links

apart_there : (l : Link) (o : Option Link) (k : Link) → option_map (λ (x : Link). l) o ≡ Some k → k ≡ l
apart_there l None k h = cc
apart_there l (Some x) k h = sym (same_Some l k h)

-- a link that was put there
pub put_at : (links after : List Link) (r : ℕ) (l : Link) → after ≡ at_repo links r (λ x. l) → (k : Link) → slice_get after r ≡ Some k → k ≡ l
put_at links after r l is k there = apart_there l (slice_get links r) k (sym (at_here (λ x. l) links r) ∙ (ap (λ (ls : List Link). slice_get ls r) (sym is) ∙ there))

pub parts_one : (repo : ℕ) (a b : Held) → b.links.items ≡ at_repo a.links.items repo (λ l. Apart) → PartsSome a b
parts_one repo a b set n = elim (cases_eq n repo) [
  | inl e ↦ inr (subst (λ (m : ℕ). IsApart m b) (sym e) (put_at a.links.items b.links.items repo Apart set))
  | inr away ↦ inl (ap (λ (ls : List Link). slice_get ls n) set ∙ at_other (λ l. Apart) a.links.items repo n away)
]

pub parts_none : (a b : Held) → b.links.items ≡ a.links.items → PartsSome a b
parts_none a b same n = inl (ap (λ (ls : List Link). slice_get ls n) same)

apart_still : (n : ℕ) (b c : Held) → slice_get c.links.items n ≡ slice_get b.links.items n → IsApart n b → IsApart n c
apart_still n b c same apart k there = apart k (sym same ∙ there)

parts_by : (n : ℕ) (a b c : Held) → (slice_get b.links.items n ≡ slice_get a.links.items n) ⊎ IsApart n b → (slice_get c.links.items n ≡ slice_get b.links.items n) ⊎ IsApart n c → (slice_get c.links.items n ≡ slice_get a.links.items n) ⊎ IsApart n c
parts_by n a b c p (inr q) = inr q
parts_by n a b c (inl p) (inl q) = inl (q ∙ p)
parts_by n a b c (inr p) (inl q) = inr (apart_still n b c q p)

pub parts_more : (a b c : Held) → PartsSome a b → PartsSome b c → PartsSome a c
parts_more a b c f g n = parts_by n a b c (f n) (g n)

-- the coordinator's keeps then what was sent
pub leaves_sent : (r index : ℕ) (sent : Sent) (a b c : Held) → PartsSome a b → c.links.items ≡ at_repo b.links.items r (λ l. Unsettled sent index) → LeavesApart r index sent a c
leaves_sent r index sent a b c parts set n = elim (cases_eq n r) [
  | inl e ↦ inr (inr (e, subst (λ (m : ℕ). KeepsSent m sent index c) (sym e) (put_at b.links.items c.links.items r (Unsettled sent index) set)))
  | inr away ↦ elsewhere (parts n) (ap (λ (ls : List Link). slice_get ls n) set ∙ at_other (λ l. Unsettled sent index) b.links.items r n away)
]
  where
    elsewhere : (slice_get b.links.items n ≡ slice_get a.links.items n) ⊎ IsApart n b → slice_get c.links.items n ≡ slice_get b.links.items n
        → (slice_get c.links.items n ≡ slice_get a.links.items n) ⊎ (IsApart n c ⊎ ((n ≡ r) × KeepsSent n sent index c))
    elsewhere (inl p) same = inl (same ∙ p)
    elsewhere (inr p) same = inr (inl (apart_still n b c same p))

pub leaves_all_same : (r index : ℕ) (sent : Sent) (a b : Held) → b.links.items ≡ a.links.items → LeavesApart r index sent a b
leaves_all_same r index sent a b same n = inl (ap (λ (ls : List Link). slice_get ls n) same)
