-- What stands of an item, and what a history has of it.
use Rattle.std.proofs.Common.{◌≡◌, ◌<◌, ◌≤◌, ◌+◌, ◌-◌, ℕ, suc, Bool, true, false, cond, List, [], ◌∷◌, length, drop, get_or, Option, None, Some, refl, ap, sym, ◌∙◌, subst, arith, ◌==◌, ◌&&◌}
use Rattle.std.proofs.lemmas.Bool.Decides.{nat_tests}
use Rattle.std.proofs.lemmas.Cmp.{nat_cmp_total}
use Rattle.std.proofs.lemmas.List.{drop_more}
use Rattle.std.specs.List.{AllByRecursion}
use Rattle.std.specs.Ordering.{eq_by_cmp, nat_cmp}
use Rattle.std.specs.Prelude.{slice_get, nat_lt}
use Rattle.thor_value.proofs.FiniteMap.{get-insert}
use Rattle.thor_value.specs.FiniteMap.{Map, empty, get, insert}
use Rattle.thor_value.specs.declared.values.Who.{Who}
use Rattle.serial_model.specs.Outcomes.{entries_of, same_who}
use Rattle.serial_model.specs.declared.entries.Did.{Did}
use Rattle.top_history_check.specs.Places.{key}
use Rattle.audit_check.specs.Agreement.{IsInOrder}
use Rattle.audit_check.specs.Standings.{AreLeast, Stand, StandFrom, are_later, is_below, is_later, lesser, one_more, standing_of}
use Rattle.audit_check.specs.declared.standing.Standing.{Standing}
use Rattle.audit_check.specs.declared.standing.Standing.TheVariants.{Once, Twice}

same_test : (a b : ℕ) → eq_by_cmp nat_cmp a b ≡ (a == b)
same_test a b = grind (arith, nat_tests)

-- ---- names of items

same_self : (who : Who) → same_who who who ≡ true
same_self who = let a : (who.client == who.client) ≡ true = grind (arith, nat_tests) in let b : (who.index == who.index) ≡ true = grind (arith, nat_tests) in ap (λ c. c && (who.index == who.index)) a ∙ b

same_is : (a b : Who) (x : Bool) → (a.client == b.client) ≡ x → (y : Bool) → (a.index == b.index) ≡ y → same_who a b ≡ true → a ≡ b
same_is a b false e y f same = let bad : false ≡ true = sym (ap (λ c. c && (a.index == b.index)) e) ∙ same in cc
same_is a b true e false f same = let bad : false ≡ true = sym (ap (λ c. c && (a.index == b.index)) e ∙ f) ∙ same in cc
same_is a b true e true f same = let c : a.client ≡ b.client = grind (arith, nat_tests, e) in let i : a.index ≡ b.index = grind (arith, nat_tests, f) in ap (λ n. record a { client = n }) c ∙ ap (λ n. record b { index = n }) i

pub who_is : (a b : Who) → same_who a b ≡ true → a ≡ b
who_is a b same = same_is a b (a.client == b.client) refl (a.index == b.index) refl same

who_differs : (a b : Who) → same_who a b ≡ false → a ≡ b → ⊥
who_differs a b differ e = let bad : true ≡ false = sym (same_self b) ∙ ap (λ w. same_who w b) (sym e) ∙ differ in cc

one_key : (a b : Who) → a.index < 4294967296 → b.index < 4294967296 → key a ≡ key b → a ≡ b
one_key a b low low2 e = let c : a.client ≡ b.client = omega (arith, low, low2, e) in let i : a.index ≡ b.index = omega (arith, low, low2, e) in ap (λ n. record a { client = n }) c ∙ ap (λ n. record b { index = n }) i

-- ---- the maps, with one entry more in front

pub none_least : AreLeast empty []
none_least client index = refl

below_lesser : (o : Option ℕ) (i index : ℕ) → is_below (Some (lesser o i)) index ≡ (nat_lt index i && is_below o index)
below_lesser None i index = by_test (nat_lt index i)
  where
    by_test : (b : Bool) → b ≡ (b && true)
    by_test true = refl
    by_test false = refl
below_lesser (Some m) i index = grind (arith, nat_tests)

pub least_more : (least new : Map nat_cmp ℕ) (d : Did) (ds : List Did) → AreLeast least ds → new ≡ insert least d.who.client (lesser (get least d.who.client) d.who.index) → AreLeast new (d ∷ ds)
least_more least new d ds are put client index =
    let Q : Map nat_cmp ℕ → Type 0 = λ m. is_below (get m client) index ≡ are_later (d ∷ ds) client index in
    let v = lesser (get least d.who.client) d.who.index in
    let P : Option ℕ → Type 0 = λ o. is_below o index ≡ are_later (d ∷ ds) client index in
    subst Q (sym put) (subst P (sym (get-insert nat_cmp_total least d.who.client v client ∙ ap (λ b. cond b (Some v) (get least client)) (same_test client d.who.client))) (by_client (client == d.who.client) refl (d.who.client == client) refl))
  where
    by_client : (b : Bool) → (client == d.who.client) ≡ b → (c : Bool) → (d.who.client == client) ≡ c → is_below (cond b (Some (lesser (get least d.who.client) d.who.index)) (get least client)) index ≡ are_later (d ∷ ds) client index
    by_client true e false f = let bad : true ≡ false = sym (let s : client ≡ d.who.client = grind (arith, nat_tests, e) in let t : (d.who.client == client) ≡ true = grind (arith, nat_tests, s) in t) ∙ f in cc
    by_client false e true f = let bad : true ≡ false = sym (let s : d.who.client ≡ client = grind (arith, nat_tests, f) in let t : (client == d.who.client) ≡ true = grind (arith, nat_tests, s) in t) ∙ e in cc
    by_client true e true f =
        let s : d.who.client ≡ client = grind (arith, nat_tests, f) in
        below_lesser (get least d.who.client) d.who.index index ∙ ap (λ b. nat_lt index d.who.index && b) (ap (λ n. is_below (get least n) index) s ∙ are client index) ∙ ap (λ c. is_later c d.who.index index && are_later ds client index) (sym f)
    by_client false e false f = are client index ∙ ap (λ c. is_later c d.who.index index && are_later ds client index) (sym f)

pub none_stand : (place : ℕ) → StandFrom empty place []
none_stand place who low = refl

pub stand_more : (standings new : Map nat_cmp Standing) (place : ℕ) (d : Did) (ds : List Did) (in_order : Bool) → StandFrom standings (place + 1) ds → d.who.index < 4294967296 → in_order ≡ are_later ds d.who.client d.who.index
    → new ≡ insert standings (key d.who) (one_more place in_order (get standings (key d.who))) → StandFrom new place (d ∷ ds)
stand_more standings new place d ds in_order stand d_low order put who low =
    let Q : Map nat_cmp Standing → Type 0 = λ m. get m (key who) ≡ standing_of place (d ∷ ds) who in
    let v = one_more place in_order (get standings (key d.who)) in
    let P : Option Standing → Type 0 = λ o. o ≡ standing_of place (d ∷ ds) who in
    subst Q (sym put) (subst P (sym (get-insert nat_cmp_total standings (key d.who) v (key who) ∙ ap (λ b. cond b (Some v) (get standings (key who))) (same_test (key who) (key d.who)))) (by_key (key who == key d.who) refl (same_who d.who who) refl))
  where
    by_key : (b : Bool) → (key who == key d.who) ≡ b → (c : Bool) → same_who d.who who ≡ c → cond b (Some (one_more place in_order (get standings (key d.who)))) (get standings (key who)) ≡ standing_of place (d ∷ ds) who
    by_key true e false f = let k : key who ≡ key d.who = grind (arith, nat_tests, e) in absurd (who_differs d.who who f (sym (one_key who d.who low d_low k)))
    by_key false e true f = let k : key who ≡ key d.who = ap key (sym (who_is d.who who f)) in let bad : (key who == key d.who) ≡ true = grind (arith, nat_tests, k) in let no : true ≡ false = sym bad ∙ e in cc
    by_key true e true f =
        let same : d.who ≡ who = who_is d.who who f in
        ap (λ b. Some (one_more place b (get standings (key d.who)))) order
        ∙ ap (λ o. Some (one_more place (are_later ds d.who.client d.who.index) o)) (stand d.who d_low ∙ ap (standing_of (place + 1) ds) same)
        ∙ ap (λ c. cond c (Some (one_more place (are_later ds d.who.client d.who.index) (standing_of (place + 1) ds who))) (standing_of (place + 1) ds who)) (sym f)
    by_key false e false f =
        stand who low ∙ ap (λ c. cond c (Some (one_more place (are_later ds d.who.client d.who.index) (standing_of (place + 1) ds who))) (standing_of (place + 1) ds who)) (sym f)

-- so many entries from the last to the first
pub record AreBehind (standings : Map nat_cmp Standing) (least : Map nat_cmp ℕ) (history : List Did) (behind : ℕ) : Type 0 where
  pub stand : StandFrom standings (length history - behind) (drop (length history - behind) history)
  pub are_least : AreLeast least (drop (length history - behind) history)

drop_all : {X : Type 0} (xs : List X) → drop (length xs) xs ≡ []
drop_all [] = refl
drop_all (x ∷ xs) = drop_all xs

pub none_behind : (history : List Did) → AreBehind empty empty history 0
none_behind history =
    let at : length history - 0 ≡ length history = omega (arith) in
    let nothing : drop (length history - 0) history ≡ [] = ap (λ (n : ℕ). drop n history) at ∙ drop_all history in
    record {
      stand = subst (λ (ds : List Did). StandFrom empty (length history - 0) ds) (sym nothing) (none_stand (length history - 0));
      are_least = subst (λ (ds : List Did). AreLeast empty ds) (sym nothing) none_least;
    }

pub one_behind : (standings new : Map nat_cmp Standing) (least lower : Map nat_cmp ℕ) (history : List Did) (behind place : ℕ) (d e : Did) (in_order : Bool) → behind < length history → place ≡ length history - 1 - behind → d ≡ get_or history place e
    → d.who.index < 4294967296 → in_order ≡ is_below (get least d.who.client) d.who.index → new ≡ insert standings (key d.who) (one_more place in_order (get standings (key d.who)))
    → lower ≡ insert least d.who.client (lesser (get least d.who.client) d.who.index) → AreBehind standings least history behind → AreBehind new lower history (behind + 1)
one_behind standings new least lower history behind place d e in_order within at is low order put put_least are =
    let here : length history - (behind + 1) ≡ place = omega (arith, within, at) in
    let next : length history - behind ≡ place + 1 = omega (arith, within, at) in
    let rest : List Did = drop (place + 1) history in
    let front : drop place history ≡ d ∷ rest = drop_more history place e (omega (arith, within, at)) ∙ ap (λ (x : Did). x ∷ rest) (sym is) in
    let stood : StandFrom standings (place + 1) rest = subst (λ (n : ℕ). StandFrom standings n (drop n history)) next are.stand in
    let were : AreLeast least rest = subst (λ (n : ℕ). AreLeast least (drop n history)) next are.are_least in
    let stands : StandFrom new place (d ∷ rest) = stand_more standings new place d rest in_order stood low (order ∙ were d.who.client d.who.index) put in
    let lows : AreLeast lower (d ∷ rest) = least_more least lower d rest were put_least in
    record {
      stand = subst (λ (n : ℕ). StandFrom new n (drop n history)) (sym here) (subst (λ (ds : List Did). StandFrom new place ds) (sym front) stands);
      are_least = subst (λ (n : ℕ). AreLeast lower (drop n history)) (sym here) (subst (λ (ds : List Did). AreLeast lower ds) (sym front) lows);
    }

-- the same where the entry is told by its place
pub one_behind_at : (standings new : Map nat_cmp Standing) (least lower : Map nat_cmp ℕ) (history : List Did) (behind place : ℕ) (d : Did) (in_order : Bool) → behind < length history → place ≡ length history - 1 - behind → d ≡ get_or history place d
    → (get_or history place d).who.index < 4294967296 → in_order ≡ is_below (get least (get_or history place d).who.client) (get_or history place d).who.index
    → new ≡ insert standings (key (get_or history place d).who) (one_more place in_order (get standings (key (get_or history place d).who)))
    → lower ≡ insert least (get_or history place d).who.client (lesser (get least (get_or history place d).who.client) (get_or history place d).who.index) → AreBehind standings least history behind → AreBehind new lower history (behind + 1)
one_behind_at standings new least lower history behind place d in_order within at is low order put put_least are =
    let P : Did → Type 0 = λ e. e.who.index < 4294967296 in
    let Q : Did → Type 0 = λ e. in_order ≡ is_below (get least e.who.client) e.who.index in
    let R : Did → Type 0 = λ e. new ≡ insert standings (key e.who) (one_more place in_order (get standings (key e.who))) in
    let S : Did → Type 0 = λ e. lower ≡ insert least e.who.client (lesser (get least e.who.client) e.who.index) in
    one_behind standings new least lower history behind place d d in_order within at is (subst P (sym is) low) (subst Q (sym is) order) (subst R (sym is) put) (subst S (sym is) put_least) are

pub all_behind : (standings : Map nat_cmp Standing) (least : Map nat_cmp ℕ) (history : List Did) (behind : ℕ) → length history ≤ behind → AreBehind standings least history behind → Stand standings history
all_behind standings least history behind past are =
    let at : length history - behind ≡ 0 = omega (arith, past) in
    subst (λ (n : ℕ). StandFrom standings n (drop n history)) at are.stand

-- ---- what a history has of an item, by what stands of it

-- an item's one entry
pub record IsOnce (ds : List Did) (who : Who) (place : ℕ) (in_order : Bool) : Type 0 where
  pub did : Did
  pub stands : slice_get ds place ≡ Some did
  pub is_of : did.who ≡ who
  pub only : entries_of ds who ≡ did ∷ []
  pub order : in_order ≡ true → IsInOrder ds who
  pub no_order : in_order ≡ false → ¬ IsInOrder ds who

abbrev pub Has : List Did → Who → ℕ → Option Standing → Type 0
Has ds who n None = entries_of ds who ≡ []
Has ds who n (Some (Once place in_order)) = (k : ℕ) × (place ≡ n + k) × IsOnce ds who k in_order
Has ds who n (Some Twice) = (a : Did) × ((b : Did) × ((more : List Did) × (entries_of ds who ≡ a ∷ b ∷ more)))

one : (d : Did) (ds : List Did) (who : Who) (b : Bool) → same_who d.who who ≡ b → entries_of (d ∷ ds) who ≡ cond b (d ∷ entries_of ds who) (entries_of ds who)
one d ds who b e = ap (λ c. cond c (d ∷ entries_of ds who) (entries_of ds who)) e

pub none_in_order : (ds : List Did) (who : Who) → entries_of ds who ≡ [] → IsInOrder ds who
none_in_order [] who none = tt
none_in_order (d ∷ ds) who none = by_test (same_who d.who who) refl (λ rest. none_in_order ds who rest)
  where
    by_test : (b : Bool) → same_who d.who who ≡ b → (entries_of ds who ≡ [] → IsInOrder ds who) → IsInOrder (d ∷ ds) who
    by_test true e behind = let bad : d ∷ entries_of ds who ≡ [] = sym (one d ds who true e) ∙ none in cc
    by_test false e behind = (λ same. absurd (who_differs d.who who e same), behind (sym (one d ds who false e) ∙ none))

and_true : (a b : Bool) → (a && b) ≡ true → (a ≡ true) × (b ≡ true)
and_true true b h = (refl, h)
and_true false b h = let bad : false ≡ true = h in cc

pub later_all : (ds : List Did) (client index : ℕ) → are_later ds client index ≡ true → AllByRecursion (λ (e : Did). client ≡ e.who.client → index < e.who.index) ds
later_all [] client index h = tt
later_all (d ∷ ds) client index h =
    let parts = and_true (is_later (d.who.client == client) d.who.index index) (are_later ds client index) h in
    (λ same. by_test (d.who.client == client) refl same parts.0, later_all ds client index parts.1)
  where
    by_test : (b : Bool) → (d.who.client == client) ≡ b → client ≡ d.who.client → is_later b d.who.index index ≡ true → index < d.who.index
    by_test true e same t = grind (arith, nat_tests, t)
    by_test false e same t = let yes : (d.who.client == client) ≡ true = grind (arith, nat_tests, same) in let bad : true ≡ false = sym yes ∙ e in cc

pub all_later : (ds : List Did) (client index : ℕ) → AllByRecursion (λ (e : Did). client ≡ e.who.client → index < e.who.index) ds → are_later ds client index ≡ true
all_later [] client index h = refl
all_later (d ∷ ds) client index h =
    ap (λ b. b && are_later ds client index) (by_test (d.who.client == client) refl) ∙ all_later ds client index h.1
  where
    by_test : (b : Bool) → (d.who.client == client) ≡ b → is_later (d.who.client == client) d.who.index index ≡ true
    by_test true e =
        let same : client ≡ d.who.client = grind (arith, nat_tests, e) in
        let low : index < d.who.index = h.0 same in
        let t : nat_lt index d.who.index ≡ true = grind (arith, nat_tests, low) in
        ap (λ c. is_later c d.who.index index) e ∙ t
    by_test false e = ap (λ c. is_later c d.who.index index) e

step : (d : Did) (ds : List Did) (who : Who) (n : ℕ) (b : Bool) → same_who d.who who ≡ b → (o : Option Standing) → Has ds who (n + 1) o → Has (d ∷ ds) who n (cond b (Some (one_more n (are_later ds d.who.client d.who.index) o)) o)
step d ds who n false e None has = one d ds who false e ∙ has
step d ds who n false e (Some Twice) has = (has.0, (has.1.0, (has.1.1.0, one d ds who false e ∙ has.1.1.1)))
step d ds who n false e (Some (Once place in_order)) has =
    let at : place ≡ n + suc has.0 = let p : place ≡ n + 1 + has.0 = has.1 in omega (arith, p) in (
      suc has.0,
      at,
      record {
        did = has.2.did;
        stands = has.2.stands;
        is_of = has.2.is_of;
        only = one d ds who false e ∙ has.2.only;
        order = λ t. (λ same. absurd (who_differs d.who who e same), has.2.order t);
        no_order = λ f h. has.2.no_order f h.1;
      },
    )
step d ds who n true e None has =
    let same : d.who ≡ who = who_is d.who who e in
    let at : n ≡ n + 0 = omega (arith) in (
      0,
      at,
      record {
        did = d;
        stands = refl;
        is_of = same;
        only = one d ds who true e ∙ ap (λ xs. d ∷ xs) has;
        order = λ t. (λ _. later_all ds d.who.client d.who.index t, none_in_order ds who has);
        no_order = λ f h. let bad : true ≡ false = sym (all_later ds d.who.client d.who.index (h.0 same)) ∙ f in cc;
      },
    )
step d ds who n true e (Some (Once place in_order)) has = (d, (has.2.did, ([], one d ds who true e ∙ ap (λ xs. d ∷ xs) has.2.only)))
step d ds who n true e (Some Twice) has = (d, (has.0, (has.1.0 ∷ has.1.1.0, one d ds who true e ∙ ap (λ xs. d ∷ xs) has.1.1.1)))

pub has_by : (n : ℕ) (ds : List Did) (who : Who) → Has ds who n (standing_of n ds who)
has_by n [] who = refl
has_by n (d ∷ ds) who = step d ds who n (same_who d.who who) refl (standing_of (n + 1) ds who) (has_by (n + 1) ds who)

-- what stands of an item is what the history has of it
pub has_at : (standings : Map nat_cmp Standing) (history : List Did) → Stand standings history → (who : Who) → who.index < 4294967296 → Has history who 0 (get standings (key who))
has_at standings history stand who low = subst (Has history who 0) (sym (stand who low)) (has_by 0 history who)
