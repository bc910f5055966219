-- The names that a request wrote, and what sessions are told of them.
use Rattle.cached_sets.specs.Meaning.{has_page}
use Rattle.cached_sets.specs.Sets.{Sets}
use Rattle.log_entries.specs.declared.request.Request.{Request}
use Rattle.repo_sessions.specs.Telling.{message_of, names_for, news_for}
use Rattle.spec_history.proofs.Decided.{written_keys}
use Rattle.spec_history.specs.History.{State, epoch_of}
use Rattle.spec_history.specs.Requests.{has_written, is_upgrade, written}
use Rattle.spec_trace.specs.Notices.{notice_of}
use Rattle.spec_trace.specs.Session.{Notice, Upgrade, invalid_of, push, told}
use Rattle.std.proofs.Common.{Bool, List, [], ap, append_assoc, cond, false, map, nat_eq, refl, subst, sym, true, ◌+◌, ◌++◌, ◌∙◌, ◌∷◌, ◌≡◌, ℕ}
use Rattle.std.proofs.lemmas.List.{append-nil}
use Rattle.std.proofs.lemmas.Cmp.{nat_eq_equiv}
use Rattle.std.specs.BTreeMap.{insert_entry}
use Rattle.std.specs.Cmp.{IsTotalOrder}
use Rattle.std.specs.List.Sorted.{IsStrictlySortedBy}
use Rattle.std.specs.List.{AllByRecursion, filter, list_any}
use Rattle.std.specs.Map.{keys_of}
use Rattle.std.specs.Option.{option_to_list}
use Rattle.std.specs.Ordering.{match_ordering, nat_cmp, ordering_reverse}
use Rattle.std.specs.Prelude.{None, Option, Some}
use Rattle.std.specs.declared.cmp.Ordering.TheVariants.{Greater, Less}
use Rattle.std.specs.declared.cmp.Ordering.{Ordering}
use Rattle.thor_value.proofs.NameOrders.{oref_total}
use Rattle.thor_value.specs.FiniteMap.{Map, empty, has, keys, overwrite}
use Rattle.thor_value.specs.Names.{oref_cmp, same_oref}
use Rattle.thor_value.specs.declared.names.Oref.{Oref}
use Rattle.validation_queue.specs.Names.{Rises, is_among}
use Rattle.repo_refusals.specs.Refusals.{set_of}

-- ---- pairs that come in the order of their keys

module _ {K X : Type 0} (R : K → K → Ordering) (o : IsTotalOrder R) where
  put_last : (ps : List (K × X)) (k : K) (v : X) → AllByRecursion (λ y. R y k ≡ Less) (keys_of ps) → insert_entry R ps k v ≡ ps ++ (k, v) ∷ []
  put_last [] k v h = refl
  put_last (p ∷ ps) k v h =
      let e : R k p.0 ≡ Greater = o.antisymm k p.0 ∙ ap ordering_reverse h.0 in
      ap (λ (r : Ordering). match_ordering r ((k, v) ∷ p ∷ ps) ((p.0, v) ∷ ps) (p ∷ insert_entry R ps k v)) e ∙ ap (λ (qs : List (K × X)). p ∷ qs) (put_last ps k v h.1)

  below_last : (x : K) (ps : List (K × X)) (w : K × X) (ws : List (K × X)) → AllByRecursion (λ y. R x y ≡ Less) (keys_of (ps ++ w ∷ ws)) → R x w.0 ≡ Less
  below_last x [] w ws h = h.0
  below_last x (p ∷ ps) w ws h = below_last x ps w ws h.1

  all_below : (ps : List (K × X)) (w : K × X) (ws : List (K × X)) → IsStrictlySortedBy R (keys_of (ps ++ w ∷ ws)) → AllByRecursion (λ y. R y w.0 ≡ Less) (keys_of ps)
  unfolding IsStrictlySortedBy
  all_below [] w ws h = tt
  all_below (p ∷ ps) w ws h = (below_last p.0 ps w ws h.0, all_below ps w ws h.1)

  -- behind some pairs
  put_all : (ps ws : List (K × X)) → IsStrictlySortedBy R (keys_of (ps ++ ws)) → (overwrite {R = R} (record { pairs = ps }) ws).pairs ≡ ps ++ ws
  put_all ps [] h = sym (append-nil ps)
  put_all ps (w ∷ ws) h =
      let same : (ps ++ w ∷ []) ++ ws ≡ ps ++ w ∷ ws = append_assoc ps (w ∷ []) ws in
      ap (λ (qs : List (K × X)). (overwrite {R = R} (record { pairs = qs }) ws).pairs) (put_last ps w.0 w.1 (all_below ps w ws h))
      ∙ put_all (ps ++ w ∷ []) ws (subst (λ (qs : List (K × X)). IsStrictlySortedBy R (keys_of qs)) (sym same) h)
      ∙ same

  pub all_put : (ws : List (K × X)) → IsStrictlySortedBy R (keys_of ws) → keys (overwrite {R = R} empty ws) ≡ keys_of ws
  all_put ws h = ap keys_of (put_all [] ws h)

-- ---- names

pub written_are : (q : Request) → Rises (keys_of q.writes) → keys (written q) ≡ keys_of q.writes
written_are q h = all_put oref_cmp oref_total q.writes h

pub among_written : (q : Request) (x : Oref) → Rises (keys_of q.writes) → is_among (keys_of q.writes) x ≡ has_written q x
among_written q x h = ap (λ (ns : List Oref). list_any (same_oref x) ns) (sym (written_are q h)) ∙ written_keys q x

-- each name with nothing
abbrev paired : List Oref → List (Oref × Unit {0})
paired names = map (λ x. (x, tt)) names

names_paired : (names : List Oref) → keys_of (paired names) ≡ names
names_paired [] = refl
names_paired (x ∷ xs) = ap (λ (ns : List Oref). x ∷ ns) (names_paired xs)

-- rising names are those of their set
pub names_are : (names : List Oref) → Rises names → keys (set_of names) ≡ names
names_are names h = all_put oref_cmp oref_total (paired names) (subst (IsStrictlySortedBy oref_cmp) (sym (names_paired names)) h) ∙ names_paired names

pub filter_same : {X : Type 0} (f g : X → Bool) (xs : List X) → ((x : X) → f x ≡ g x) → filter f xs ≡ filter g xs
filter_same f g [] h = refl
filter_same f g (x ∷ xs) h = ap (λ (t : Bool). cond t (x ∷ filter f xs) (filter f xs)) (h x) ∙ ap (λ (ys : List _). cond (g x) (x ∷ ys) ys) (filter_same f g xs h)

pub filter_none : {X : Type 0} (f : X → Bool) (xs : List X) → ((x : X) → f x ≡ false) → filter f xs ≡ []
filter_none f [] h = refl
filter_none f (x ∷ xs) h = ap (λ (t : Bool). cond t (x ∷ filter f xs) (filter f xs)) (h x) ∙ filter_none f xs h

-- ---- what is told

pub push_list : (sent : List Notice) (o : Option Notice) → push sent o ≡ sent ++ option_to_list o
push_list sent None = sym (append-nil sent)
push_list sent (Some m) = refl

invalid_list : (names : List Oref) (k : ℕ) → map notice_of (message_of names k) ≡ option_to_list (invalid_of names k)
invalid_list [] k = refl
invalid_list (x ∷ xs) k = refl

-- a session that has these pages
pub news_are : (C : Sets) (S : State) (s k : ℕ) (pages : Map nat_cmp ℕ) (q : Request) → is_upgrade q ≡ false → S.length ≡ k → Rises (keys_of q.writes) → ((page : ℕ) → has_page C s page ≡ has pages page)
    → map notice_of (news_for C q.session (keys_of q.writes) k s) ≡ option_to_list (told s S pages q)
news_are C S s k pages q plain len rise same =
    let names : List Oref = filter (λ x. has pages x.page) (keys (written q)) in
    let e : names_for C s (keys_of q.writes) ≡ names =
    filter_same (λ x. has_page C s x.page) (λ x. has pages x.page) (keys_of q.writes) (λ x. same x.page) ∙ ap (filter (λ x. has pages x.page)) (sym (written_are q rise)) in
    ap (λ (t : Bool). map notice_of (cond t [] (message_of (names_for C s (keys_of q.writes)) k))) (nat_eq_equiv.symm s q.session)
    ∙ ap (λ (ns : List Oref). map notice_of (cond (nat_eq q.session s) [] (message_of ns k))) e
    ∙ by names (nat_eq q.session s)
    ∙ sym (ap (λ (t : Bool). option_to_list (cond t (Some (Upgrade (epoch_of S + 1) S.length)) (cond (nat_eq q.session s) None (invalid_of names S.length)))) plain)
  where
    by : (names : List Oref) (t : Bool) → map notice_of (cond t [] (message_of names k)) ≡ option_to_list (cond t None (invalid_of names S.length))
    by names true = refl
    by names false = invalid_list names k ∙ ap (λ (j : ℕ). option_to_list (invalid_of names j)) (sym len)

-- a session that has no page
pub no_news : (C : Sets) (s k w : ℕ) (names : List Oref) → ((page : ℕ) → has_page C s page ≡ false) → news_for C w names k s ≡ []
no_news C s k w names none = by (nat_eq s w)
  where
    by : (t : Bool) → cond t [] (message_of (names_for C s names) k) ≡ []
    by true = refl
    by false = ap (λ (ns : List Oref). message_of ns k) (filter_none (λ x. has_page C s x.page) names (λ x. none x.page))
