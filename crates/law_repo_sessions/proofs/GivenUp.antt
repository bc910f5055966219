-- What is kept of each session where some are given up.
use Rattle.cached_sets.proofs.Ordering as ordering
use Rattle.cached_sets.proofs.Ordering.{ordered_removed}
use Rattle.cached_sets.proofs.Places as places
use Rattle.cached_sets.specs.Invalid.{Invalid}
use Rattle.cached_sets.specs.Meaning.{has_page, place_in}
use Rattle.cached_sets.specs.Noted.{places_of}
use Rattle.law_repo_sessions.proofs.Seen.{get_put, get_without, page_dropped}
use Rattle.law_repo_sessions.specs.Agreeing.{AreInOrder}
use Rattle.repo_sessions.specs.Sessions.{Kept, retire, retired_with}
use Rattle.session_outbox.specs.Outbox as outbox
use Rattle.session_outbox.specs.declared.message.Message.{Message}
use Rattle.std.proofs.Common.{Bool, List, [], ap, cond, false, nat_eq, refl, subst, sym, true, ◌∙◌, ◌∷◌, ◌≡◌, ℕ}
use Rattle.std.proofs.lemmas.Bool.{eqb-true}
use Rattle.std.proofs.lemmas.Cmp.{nat_eq_equiv}
use Rattle.std.specs.Cmp.{nat_cmp_total}
use Rattle.std.specs.List.{fold, list_any}
use Rattle.std.specs.Option.{is_some, option_or, unwrap_or}
use Rattle.std.specs.Ordering.{nat_cmp}
use Rattle.std.specs.Prelude.{None, Option, Some, not, ◌&&◌, ◌||◌}
use Rattle.thor_value.proofs.FiniteMap.{IsSorted-insert, IsSorted-remove}
use Rattle.thor_value.specs.FiniteMap.{IsSorted, Map, get, has}
use Rattle.thor_value.specs.declared.names.Oref.{Oref}

-- of a session that is given up nothing is kept but its client, and of another one all
pub record IsGivenUp (K L : Kept) (s : ℕ) (t : Bool) : Type 0 where
  pub client : get L.clients s ≡ cond t None (get K.clients s)
  pub retired : get L.retired s ≡ cond t (option_or (get K.clients s) (get K.retired s)) (get K.retired s)
  pub notes : places_of L.sets.noted s ≡ cond t [] (places_of K.sets.noted s)
  pub pages : (page : ℕ) → has_page L.sets s page ≡ (not t && has_page K.sets s page)
  pub set : has L.sets.invalid s ≡ (not t && has K.sets.invalid s)
  pub invalid : (x : Oref) → place_in L.sets s x ≡ cond t None (place_in K.sets s x)
  pub waits : outbox.waiting L.waiting s ≡ cond t [] (outbox.waiting K.waiting s)

none_given : (K : Kept) (s : ℕ) → IsGivenUp K K s false
none_given K s = record { client = refl; retired = refl; notes = refl; pages = λ p. refl; set = refl; invalid = λ x. refl; waits = refl }

-- first the one and then the other
both_given : (K L M : Kept) (s : ℕ) (t u : Bool) → IsGivenUp K L s t → IsGivenUp L M s u → IsGivenUp K M s (t || u)
both_given K L M s true true h g = record {
  client = g.client;
  retired = g.retired ∙ ap (λ (o : Option ℕ). option_or o (get L.retired s)) h.client ∙ h.retired;
  notes = g.notes;
  pages = g.pages;
  set = g.set;
  invalid = g.invalid;
  waits = g.waits;
}
both_given K L M s true false h g = record {
  client = g.client ∙ h.client;
  retired = g.retired ∙ h.retired;
  notes = g.notes ∙ h.notes;
  pages = λ p. g.pages p ∙ h.pages p;
  set = g.set ∙ h.set;
  invalid = λ x. g.invalid x ∙ h.invalid x;
  waits = g.waits ∙ h.waits;
}
both_given K L M s false true h g = record {
  client = g.client;
  retired = g.retired ∙ ap (λ (o : Option ℕ). option_or o (get L.retired s)) h.client ∙ ap (option_or (get K.clients s)) h.retired;
  notes = g.notes;
  pages = g.pages;
  set = g.set;
  invalid = g.invalid;
  waits = g.waits;
}
both_given K L M s false false h g = record {
  client = g.client ∙ h.client;
  retired = g.retired ∙ h.retired;
  notes = g.notes ∙ h.notes;
  pages = λ p. g.pages p ∙ h.pages p;
  set = g.set ∙ h.set;
  invalid = λ x. g.invalid x ∙ h.invalid x;
  waits = g.waits ∙ h.waits;
}

-- ---- one session is given up

retired_at_once : (C R : Map nat_cmp ℕ) (n s : ℕ) → get (retired_with R n (get C n)) s ≡ cond (nat_eq n s) (option_or (get C s) (get R s)) (get R s)
retired_at_once C R n s = by (get C n) refl (nat_eq n s) refl
  where
    by : (o : Option ℕ) → get C n ≡ o → (t : Bool) → nat_eq n s ≡ t → get (retired_with R n o) s ≡ cond t (option_or (get C s) (get R s)) (get R s)
    by None e true f = let a : get C s ≡ None = ap (get C) (sym (eqb-true n s f)) ∙ e in sym (ap (λ (o : Option ℕ). option_or o (get R s)) a)
    by None e false f = refl
    by (Some c) e true f =
        let a : get C s ≡ Some c = ap (get C) (sym (eqb-true n s f)) ∙ e in
        get_put R n s c ∙ ap (λ (t : Bool). cond t (Some c) (get R s)) f ∙ sym (ap (λ (o : Option ℕ). option_or o (get R s)) a)
    by (Some c) e false f = get_put R n s c ∙ ap (λ (t : Bool). cond t (Some c) (get R s)) f

one_given : (K : Kept) (n s : ℕ) → AreInOrder K → IsGivenUp K (retire K n) s (nat_eq n s)
one_given K n s o = record {
  client = get_without K.clients n s o.clients;
  retired = retired_at_once K.clients K.retired n s;
  notes = places.dropped K.sets.noted n s o.noted;
  pages = λ p. page_dropped K.sets n s p;
  set = ap (λ (p : Option Invalid). is_some p) (get_without K.sets.invalid n s o.sets.sessions) ∙ there (nat_eq n s);
  invalid = λ x. ordering.dropped K.sets n s x o.sets;
  waits = ap (λ (p : Option (List Message)). unwrap_or p []) (get_without K.waiting n s o.waiting) ∙ by (nat_eq n s);
}
  where
    there : (t : Bool) → is_some (cond t None (get K.sets.invalid s)) ≡ (not t && is_some (get K.sets.invalid s))
    there true = refl
    there false = refl

    by : (t : Bool) → unwrap_or (cond t None (get K.waiting s)) [] ≡ cond t [] (outbox.waiting K.waiting s)
    by true = refl
    by false = refl

one_order : (K : Kept) (n : ℕ) → AreInOrder K → AreInOrder (retire K n)
one_order K n o = record {
  clients = IsSorted-remove nat_cmp K.clients n o.clients;
  retired = by (get K.clients n);
  waiting = IsSorted-remove nat_cmp K.waiting n o.waiting;
  sets = ordered_removed K.sets.invalid n o.sets;
  noted = places.dropped_order K.sets.noted n o.noted;
}
  where
    by : (p : Option ℕ) → IsSorted (retired_with K.retired n p)
    by None = o.retired
    by (Some c) = IsSorted-insert nat_cmp_total K.retired n c o.retired

-- ---- several are

pub all_given : (K : Kept) (ns : List ℕ) (s : ℕ) → AreInOrder K → IsGivenUp K (fold retire K ns) s (list_any (nat_eq s) ns)
all_given K [] s o = none_given K s
all_given K (n ∷ ns) s o =
    both_given K (retire K n) (fold retire (retire K n) ns) s (nat_eq s n) (list_any (nat_eq s) ns)
    (subst (IsGivenUp K (retire K n) s) (nat_eq_equiv.symm n s) (one_given K n s o)) (all_given (retire K n) ns s (one_order K n o))

pub all_order : (K : Kept) (ns : List ℕ) → AreInOrder K → AreInOrder (fold retire K ns)
all_order K [] o = o
all_order K (n ∷ ns) o = all_order (retire K n) ns (one_order K n o)

pub all_last : (K : Kept) (ns : List ℕ) → (fold retire K ns).last ≡ K.last
all_last K [] = refl
all_last K (n ∷ ns) = all_last (retire K n) ns

pub all_live : (K : Kept) (ns : List ℕ) → (fold retire K ns).live ≡ K.live
all_live K [] = refl
all_live K (n ∷ ns) = all_live (retire K n) ns
