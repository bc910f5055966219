-- What a store of pages keeps through its calls.
use Rattle.std.proofs.Common.{◌≡◌, ℕ, zero, suc, ◌+◌, ◌-◌, ◌<◌, ◌≤◌, Bool, true, false, cond, List, [], ◌∷◌, length, take, Option, Some, None, is_some, IsSome, nat_eq, refl, ap, sym, subst, ◌∙◌, arith, inl, inr, ◌⊎◌}
use Rattle.std.proofs.lemmas.Bool.{eqb-true, eq-eqb, cases_eq, false≢true}
use Rattle.std.proofs.lemmas.Bool.Decides.{eqb_tells}
use Rattle.std.specs.Cmp.{nat_eq_equiv, nat_cmp_is}
use Rattle.std.proofs.lemmas.Cmp.{nat_cmp_total, ranked}
use Rattle.std.proofs.lemmas.Option.{same_Some}
use Rattle.std.specs.Ordering.{nat_cmp, is_eq, eq_by_cmp}
use Rattle.std.specs.declared.cmp.Ordering.{Ordering}
use Rattle.std.specs.declared.cmp.Ordering.TheVariants.{Less, Equal, Greater}
use Rattle.std.specs.BTreeMap.{insert_entry}
use Rattle.thor_value.proofs.FiniteMap.{get-insert}
use Rattle.std.specs.Option.{option_map, option_map_or, unwrap_or}
use Rattle.std.specs.Map.{lookup, lookup_entry, remove_entry}
use Rattle.lru.specs.LruCache.{LruCache, lru_cache, put_entries, promoted}
use Rattle.lru.proofs.CallerLemmas.{Contains-lookup_entry, lookup-put_entries}
use Rattle.lru.proofs.Pairs.{lookup-lookup_entry}
use Rattle.page_format.specs.Pages.{Contents, page_size}
use Rattle.page_format.specs.Sides.{SidesFit, side_in_use}
use Rattle.page_store.specs.Objects.{HasObjects, Spells}
use Rattle.page_store.specs.Sides.{Shows, next_side, place_of, side_bytes}
use Rattle.page_store.specs.Store.{Store, Agrees, AreHeld, Keeps, page_in, most_held, with_held, with_place, with_side, refreshed}
use Rattle.page_store.proofs.Tears.{Outside}
use Rattle.page_store.proofs.Sides.{reaches_still, shows_still, spelled_reaches}

abbrev pub Held : Type 0
Held = List (ℕ × Option Contents)

-- ---- look-ups of other pages

front_by : (e : ℕ × Option Contents) (some all : Option (Option Contents)) (that : Option Contents) → (some ≡ Some that → all ≡ Some that) → (b : Bool) → cond b (Some e.1) some ≡ Some that → cond b (Some e.1) all ≡ Some that
front_by e some all that more true is = is
front_by e some all that more false is = more is

in_front : (held : Held) (n other : ℕ) (that : Option Contents) → lookup (nat_eq other) (take n held) ≡ Some that → lookup (nat_eq other) held ≡ Some that
in_front held zero other that is = cc
in_front [] (suc n) other that is = cc
in_front (e ∷ held) (suc n) other that is = front_by e (lookup (nat_eq other) (take n held)) (lookup (nat_eq other) held) that (λ h. in_front held n other that h) (nat_eq other e.0) is

other_than : (other page key : ℕ) → (other ≡ page → ⊥) → nat_eq page key ≡ true → nat_eq other key ≡ false
other_than other page key apart is = elim (eqb_tells other key) [
  | inl same ↦ absurd (apart (same.1 ∙ sym (eqb-true page key is)))
  | inr not ↦ not.0
]

without_by : (e : ℕ × Option Contents) (held : Held) (page other : ℕ) → (other ≡ page → ⊥) → lookup (nat_eq other) (remove_entry (nat_eq page) held) ≡ lookup (nat_eq other) held → (b : Bool) → nat_eq page e.0 ≡ b → lookup (nat_eq other) (cond b held (e ∷ remove_entry (nat_eq page) held)) ≡ cond (nat_eq other e.0) (Some e.1) (lookup (nat_eq other) held)
without_by e held page other apart more true is = sym (ap (λ (b : Bool). cond b (Some e.1) (lookup (nat_eq other) held)) (other_than other page e.0 apart is))
without_by e held page other apart more false is = ap (λ (rest : Option (Option Contents)). cond (nat_eq other e.0) (Some e.1) rest) more

without_page : (held : Held) (page other : ℕ) → (other ≡ page → ⊥) → lookup (nat_eq other) (remove_entry (nat_eq page) held) ≡ lookup (nat_eq other) held
without_page [] page other apart = refl
without_page (e ∷ held) page other apart = without_by e held page other apart (without_page held page other apart) (nat_eq page e.0) refl

put_by : (held : Held) (page : ℕ) (contents : Option Contents) (other : ℕ) (that : Option Contents) → (other ≡ page → ⊥) → (o : Option (ℕ × Option Contents)) → lookup_entry (nat_eq page) held ≡ o → lookup (nat_eq other) (option_map_or (λ e. (e.0, contents) ∷ remove_entry (nat_eq page) held) o ((page, contents) ∷ take (most_held - 1) held)) ≡ Some that → lookup (nat_eq other) held ≡ Some that
put_by held page contents other that apart None none is =
    let skip : nat_eq other page ≡ false = other_than other page page apart (eq-eqb page page refl) in
    in_front held (most_held - 1) other that (sym (ap (λ (b : Bool). cond b (Some contents) (lookup (nat_eq other) (take (most_held - 1) held))) skip) ∙ is)
put_by held page contents other that apart (Some e) some is =
    let key = (Contains-lookup_entry (nat_eq page) held e some).1 in
    let skip : nat_eq other e.0 ≡ false = other_than other page e.0 apart key in
    sym (without_page held page other apart) ∙ sym (ap (λ (b : Bool). cond b (Some contents) (lookup (nat_eq other) (remove_entry (nat_eq page) held))) skip) ∙ is

pub put_other : (held : Held) (page : ℕ) (contents : Option Contents) (other : ℕ) (that : Option Contents) → (other ≡ page → ⊥) → lookup (nat_eq other) (with_held held page contents) ≡ Some that → lookup (nat_eq other) held ≡ Some that
put_other held page contents other that apart is = put_by held page contents other that apart (lookup_entry (nat_eq page) held) refl is

-- a page is held just where its look-up gives one
held_some : (o : Option (Option Contents)) (that : Contents) → unwrap_or o None ≡ Some that → o ≡ Some (Some that)
held_some None that is = cc
held_some (Some contents) that is = ap (λ (c : Option Contents). Some c) is

-- what is held after a page was put is the page, or another that was held
pub held_put : (held : Held) (page : ℕ) (contents : Option Contents) (other : ℕ) (that : Contents) → page_in (with_held held page contents) other ≡ Some that → (page_in held other ≡ Some that) × (other ≡ page → ⊥) ⊎ ((other ≡ page) × (contents ≡ Some that))
held_put held page contents other that is = elim (eqb_tells other page) [
  | inl same ↦ inr (same.1, sym (ap (λ (o : Option (Option Contents)). unwrap_or o None) (lookup-put_entries nat_eq (lru_cache held most_held) page contents nat_eq_equiv)) ∙ sym (ap (page_in (with_held held page contents)) same.1) ∙ is)
  | inr apart ↦ inl (ap (λ (o : Option (Option Contents)). unwrap_or o None) (put_other held page contents other (Some that) apart.1 (held_some (lookup (nat_eq other) (with_held held page contents)) that is)), apart.1)
]

-- ---- a page that is held and promoted is as if put again

promote_by : (held : Held) (cap page : ℕ) (found : Contents) (o : Option (ℕ × Option Contents)) → unwrap_or (option_map (λ e. e.1) o) None ≡ Some found → option_map_or (λ e. e ∷ remove_entry (nat_eq page) held) o held ≡ option_map_or (λ e. (e.0, Some found) ∷ remove_entry (nat_eq page) held) o ((page, Some found) ∷ take (cap - 1) held)
promote_by held cap page found None is = cc
promote_by held cap page found (Some e) is = ap (λ (c : Option Contents). (e.0, c) ∷ remove_entry (nat_eq page) held) is

pub promote_is : (held : Held) (cap page : ℕ) (found : Contents) → page_in held page ≡ Some found → promoted (nat_eq page) held ≡ put_entries nat_eq (lru_cache held cap) page (Some found)
promote_is held cap page found is = promote_by held cap page found (lookup_entry (nat_eq page) held) (ap (λ (o : Option (Option Contents)). unwrap_or o None) (lookup-lookup_entry (nat_eq page) held) ∙ is)

pub put_page : (held : Held) (page : ℕ) (found : Contents) → page_in (with_held held page (Some found)) page ≡ Some found
put_page held page found = ap (λ (o : Option (Option Contents)). unwrap_or o None) (lookup-put_entries nat_eq (lru_cache held most_held) page (Some found) nat_eq_equiv)

-- ---- a page comes to be held

module _ (store : Store) (page : ℕ) (found : Contents) where
  abbrev pub holding : Store
  holding = record store { held = with_held store.held page (Some found) }

  pub agrees_holding : (disk : List ℕ) → Agrees store disk → Shows disk (side_in_use store.sides page) page found → Agrees holding disk
  agrees_holding disk agrees shows = record {
    reaches = agrees.reaches;
    held = λ other that is. elim (held_put store.held page (Some found) other that is) [
      | inl was ↦ agrees.held other that was.0
      | inr put ↦ (let same : found ≡ that = cc in let key : page ≡ other = sym put.0 in subst (λ (c : Contents). Shows disk (side_in_use store.sides other) other c) same (subst (λ (p : ℕ). Shows disk (side_in_use store.sides p) p found) key shows))
    ];
    staged = agrees.staged;
  }

  pub kept_holding : AreHeld store → HasObjects found → found.number ≡ page → AreHeld holding
  kept_holding kept objects number = record {
    held = λ other that is. elim (held_put store.held page (Some found) other that is) [
      | inl was ↦ kept.held other that was.0
      | inr put ↦ (let same : found ≡ that = cc in (subst HasObjects same objects, ap (λ (c : Contents). c.number) (sym same) ∙ number ∙ sym put.0))
    ];
    staged = kept.staged;
  }

-- what came to be held is just that
pub held_is : (held now : Held) (page : ℕ) (found : Contents) → now ≡ with_held held page (Some found) → (that : Contents) → page_in now page ≡ Some that → now ≡ with_held held page (Some that)
held_is held now page found is that here =
    let same : Some found ≡ Some that = sym (put_page held page found) ∙ sym (ap (λ (h : Held). page_in h page) is) ∙ here in
    is ∙ ap (λ (c : Option Contents). with_held held page c) same

pub shows_is : (held now : Held) (page : ℕ) (found : Contents) (P : Contents → Type 0) → now ≡ with_held held page (Some found) → P found → (that : Contents) → page_in now page ≡ Some that → P that
shows_is held now page found P is holds that here =
    let same : Some found ≡ Some that = sym (put_page held page found) ∙ sym (ap (λ (h : Held). page_in h page) is) ∙ here in
    let e : found ≡ that = cc in
    subst P e holds

pub is_there : (held now : Held) (page : ℕ) (found : Contents) → now ≡ with_held held page (Some found) → page_in now page ≡ Some found
is_there held now page found is = ap (λ (h : Held). page_in h page) is ∙ put_page held page found

-- ---- a place is kept for a page

placed_by : (held : Held) (page other : ℕ) (that : Contents) (b : Bool) → page_in (cond b held (with_held held page None)) other ≡ Some that → page_in held other ≡ Some that
placed_by held page other that true is = is
placed_by held page other that false is = elim (held_put held page None other that is) [ inl was ↦ was.0 | inr put ↦ (let no = put.1 in cc) ]

pub placed : (held : Held) (page other : ℕ) (that : Contents) → page_in (with_place held page) other ≡ Some that → page_in held other ≡ Some that
placed held page other that is = placed_by held page other that (is_some (lookup (nat_eq page) held)) is

none_left : (P : Type 0) (left : Option (Contents × ℕ)) (that : Contents) (written : ℕ) → left ≡ None → left ≡ Some (that, written) → P
none_left P None that written none some = cc
none_left P (Some p) that written none some = cc

-- ---- a page is staged

abbrev IsSame : Contents × ℕ → Contents × ℕ → Type 0
IsSame p q = Some p ≡ Some q

same_first : (p q : Contents × ℕ) → IsSame p q → p.0 ≡ q.0
same_first p q is = let same : p ≡ q = cc in ap (λ (r : Contents × ℕ). r.0) same

same_second : (p q : Contents × ℕ) → IsSame p q → p.1 ≡ q.1
same_second p q is = let same : p ≡ q = cc in ap (λ (r : Contents × ℕ). r.1) same

module _ (store : Store) (page : Contents) (side : ℕ) where
  abbrev pub staging : Store
  staging = record { sides = store.sides; held = with_place store.held page.number; staged = Some (page, side) }

  staged_is : (P : Contents → ℕ → Type 0) → P page side → (that : Contents) (written : ℕ) → IsSame (page, side) (that, written) → P that written
  staged_is P holds that written is =
      let a : page ≡ that = same_first (page, side) (that, written) is in
      let b : side ≡ written = same_second (page, side) (that, written) is in
      subst (P that) b (subst (λ (c : Contents). P c side) a holds)

  pub keeps_staging : (cap room : ℕ) → cap ≡ most_held → AreHeld store → HasObjects page → length store.sides < room → side < 2 → Keeps staging cap room
  keeps_staging cap room cap_is kept objects long below = record {
    cap_is = cap_is;
    pages = record {
      held = λ other that is. kept.held other that (placed store.held page.number other that is);
      staged = staged_is (λ c s. HasObjects c) objects;
    };
    room_is = λ that written is. long;
    side = staged_is (λ c s. s < 2) below;
  }

  pub agrees_staging : (disk image : List ℕ) → Agrees store disk → SidesFit store.sides → side ≡ next_side (side_in_use store.sides page.number) → Outside (place_of page.number side) page_size disk image → Spells (side_bytes image page.number side) page.number page → Agrees staging image
  agrees_staging disk image agrees fit is outside spells =
      let out = subst (λ (s : ℕ). Outside (place_of page.number s) page_size disk image) is outside in
      record {
        reaches = reaches_still store.sides page.number disk image fit agrees.reaches out;
        held = λ other that here. shows_still store.sides page.number disk image fit agrees.reaches out other that (agrees.held other that (placed store.held page.number other that here));
        staged = staged_is (λ c s. Spells (side_bytes image c.number s) c.number c) spells;
      }

-- ---- what the cache is after a call, as fields of the store

abbrev pub Cache : Type 0
Cache = LruCache ℕ (Option Contents)

abbrev pub store_of : List (ℕ × ℕ) → Cache → Option (Contents × ℕ) → Store
store_of sides cache staged = record { sides = sides; held = cache.entries; staged = staged }

pub some_of : (o : Option Contents) (b : Bool) → b ≡ is_some o → b ≡ true → (found : Contents) × (o ≡ Some found)
some_of None b is true_is = absurd (false≢true (sym is ∙ true_is))
some_of (Some found) b is true_is = (found, refl)

pub not_held : (o : Option Contents) (b : Bool) → b ≡ is_some o → b ≡ false → (found : Contents) → o ≡ Some found → ⊥
not_held None b is false_is found here = cc
not_held (Some c) b is false_is found here = false≢true (sym false_is ∙ is)

module _ (sides : List (ℕ × ℕ)) (staged : Option (Contents × ℕ)) (was now : Cache) (page : ℕ) (found : Contents) (cap_is : was.cap ≡ most_held) (put : now ≡ lru_cache (put_entries nat_eq was page (Some found)) was.cap) where
  pub entries_are : now.entries ≡ with_held was.entries page (Some found)
  entries_are = ap (λ (c : Cache). c.entries) put ∙ ap (λ (n : ℕ). put_entries nat_eq (lru_cache was.entries n) page (Some found)) cap_is

  cap_still : now.cap ≡ most_held
  cap_still = ap (λ (c : Cache). c.cap) put ∙ cap_is

  store_is : holding (store_of sides was staged) page found ≡ store_of sides now staged
  store_is = ap (λ (h : Held). record { sides = sides; held = h; staged = staged }) (sym entries_are)

  pub keeps_now : (room : ℕ) → Keeps (store_of sides was staged) was.cap room → HasObjects found → found.number ≡ page → Keeps (store_of sides now staged) now.cap room
  keeps_now room keeps objects number = record {
    cap_is = cap_still;
    pages = subst AreHeld store_is (kept_holding (store_of sides was staged) page found keeps.pages objects number);
    room_is = keeps.room_is;
    side = keeps.side;
  }

  pub agrees_now : (disk : List ℕ) → Agrees (store_of sides was staged) disk → Shows disk (side_in_use sides page) page found → Agrees (store_of sides now staged) disk
  agrees_now disk agrees shows = subst (λ (s : Store). Agrees s disk) store_is (agrees_holding (store_of sides was staged) page found disk agrees shows)

  pub there_now : IsSome (page_in now.entries page)
  there_now = subst IsSome (sym (is_there was.entries now.entries page found entries_are)) refl

  pub shows_now : (P : Contents → Type 0) → P found → (that : Contents) → page_in now.entries page ≡ Some that → P that
  shows_now P holds that here = shows_is was.entries now.entries page found P entries_are holds that here

  pub again_now : page_in was.entries page ≡ Some found → (that : Contents) → page_in was.entries page ≡ Some that → page_in now.entries page ≡ Some that
  again_now before that here = is_there was.entries now.entries page found entries_are ∙ sym before ∙ here

  pub held_now : (that : Contents) → page_in now.entries page ≡ Some that → now.entries ≡ with_held was.entries page (Some that)
  held_now that here = held_is was.entries now.entries page found entries_are that here

-- ---- the page that was staged is put in use

some_is : (a b : Contents) → Some a ≡ Some b → a ≡ b
some_is a b is = cc

not_there : (held : Held) (page other : ℕ) (that : Contents) → lookup (nat_eq page) held ≡ None → other ≡ page → page_in held other ≡ Some that → ⊥
not_there held page other that none same is =
    let gone : None ≡ Some that = sym (ap (λ (o : Option (Option Contents)). unwrap_or o None) none) ∙ sym (ap (page_in held) same) ∙ is in
    cc

refreshed_by : (held : Held) (page other : ℕ) (found that : Contents) (o : Option (Option Contents)) → lookup (nat_eq page) held ≡ o → page_in (cond (is_some o) (with_held held page (Some found)) held) other ≡ Some that → (page_in held other ≡ Some that) × (other ≡ page → ⊥) ⊎ ((other ≡ page) × (found ≡ that))
refreshed_by held page other found that (Some contents) there is = elim (held_put held page (Some found) other that is) [
  | inl was ↦ inl was
  | inr put ↦ inr (put.0, some_is found that put.1)
]
refreshed_by held page other found that None none is = inl (is, λ same. not_there held page other that none same is)

pub refreshed_put : (held : Held) (page other : ℕ) (found that : Contents) → page_in (refreshed held page (Some found)) other ≡ Some that → (page_in held other ≡ Some that) × (other ≡ page → ⊥) ⊎ ((other ≡ page) × (found ≡ that))
refreshed_put held page other found that is = refreshed_by held page other found that (lookup (nat_eq page) held) refl is

in_use_put : (sides : List (ℕ × ℕ)) (page side other : ℕ) → side_in_use (insert_entry nat_cmp sides page side) other ≡ cond (eq_by_cmp nat_cmp other page) (Some side) (side_in_use sides other)
in_use_put sides page side other = get-insert nat_cmp_total (record { pairs = sides }) page side other

pub in_use_here : (sides : List (ℕ × ℕ)) (page side : ℕ) → side_in_use (insert_entry nat_cmp sides page side) page ≡ Some side
in_use_here sides page side = in_use_put sides page side page ∙ ap (λ (o : Ordering). cond (is_eq o) (Some side) (side_in_use sides page)) (sym (nat_cmp_is page page Equal refl))

apart_by : (o : Ordering) (x y : ℕ) → o ≡ nat_cmp x y → (x ≡ y → ⊥) → is_eq o ≡ false
apart_by Less x y e n = refl
apart_by Equal x y e n = absurd (n (ranked x y Equal e))
apart_by Greater x y e n = refl

pub in_use_other : (sides : List (ℕ × ℕ)) (page side other : ℕ) → (other ≡ page → ⊥) → side_in_use (insert_entry nat_cmp sides page side) other ≡ side_in_use sides other
in_use_other sides page side other apart = in_use_put sides page side other ∙ ap (λ (b : Bool). cond b (Some side) (side_in_use sides other)) (apart_by (nat_cmp other page) other page refl apart)

module _ (store : Store) (page side : ℕ) (found : Contents) (number : found.number ≡ page) (staged : store.staged ≡ Some (found, side)) where
  abbrev pub settled : Store
  settled = record { sides = insert_entry nat_cmp store.sides page side; held = refreshed store.held page (Some found); staged = None }

  pub kept_settled : AreHeld store → AreHeld settled
  kept_settled kept = record {
    held = λ other that is. elim (refreshed_put store.held page other found that is) [
      | inl was ↦ kept.held other that was.0
      | inr put ↦ (subst HasObjects put.1 (kept.staged found side staged), ap (λ (c : Contents). c.number) (sym put.1) ∙ number ∙ sym put.0)
    ];
    staged = λ that written is. none_left (HasObjects that) None that written refl is;
  }

  module _ (disk : List ℕ) (agrees : Agrees store disk) where
    stands : Spells (side_bytes disk page side) page found
    stands = subst (λ (p : ℕ). Spells (side_bytes disk p side) p found) number (agrees.staged found side staged)

    reaches_by : (other used : ℕ) → (other ≡ page) ⊎ (other ≡ page → ⊥) → side_in_use (insert_entry nat_cmp store.sides page side) other ≡ Some used → place_of other used + page_size ≤ length disk
    reaches_by other used (inl same) is =
        let here : Some side ≡ Some used = sym (in_use_here store.sides page side) ∙ ap (side_in_use (insert_entry nat_cmp store.sides page side)) (sym same) ∙ is in
        let at : side ≡ used = same_Some side used here in
        let long = spelled_reaches disk page side found stands in
        omega (arith, long, at, same)
    reaches_by other used (inr apart) is = agrees.reaches other used (sym (in_use_other store.sides page side other apart) ∙ is)

    pub agrees_settled : Agrees settled disk
    agrees_settled = record {
      reaches = λ other used is. reaches_by other used (cases_eq other page) is;
      held = λ other that is. elim (refreshed_put store.held page other found that is) [
        | inl was ↦ subst (λ (u : Option ℕ). Shows disk u other that) (sym (in_use_other store.sides page side other was.1)) (agrees.held other that was.0)
        | inr put ↦ subst (λ (u : Option ℕ). Shows disk u other that) (sym (ap (side_in_use (insert_entry nat_cmp store.sides page side)) put.0 ∙ in_use_here store.sides page side)) (subst (λ (c : Contents). Spells (side_bytes disk other side) other c) put.1 (subst (λ (p : ℕ). Spells (side_bytes disk p side) p found) (sym put.0) stands))
      ];
      staged = λ that written is. none_left (Spells (side_bytes disk that.number written) that.number that) None that written refl is;
    }

-- ---- another side is in use, as a log tells

forgotten_by : (held : Held) (page other : ℕ) (that : Contents) (o : Option (Option Contents)) → lookup (nat_eq page) held ≡ o → page_in (cond (is_some o) (with_held held page None) held) other ≡ Some that → (page_in held other ≡ Some that) × (other ≡ page → ⊥)
forgotten_by held page other that (Some contents) there is = elim (held_put held page None other that is) [
  | inl was ↦ was
  | inr put ↦ (let no = put.1 in cc)
]
forgotten_by held page other that None none is = (is, λ same. not_there held page other that none same is)

forgotten : (held : Held) (page other : ℕ) (that : Contents) → page_in (refreshed held page None) other ≡ Some that → (page_in held other ≡ Some that) × (other ≡ page → ⊥)
forgotten held page other that is = forgotten_by held page other that (lookup (nat_eq page) held) refl is

module _ (store : Store) (page side : ℕ) where
  kept_side : AreHeld store → AreHeld (with_side store page side)
  kept_side kept = record {
    held = λ other that is. kept.held other that (forgotten store.held page other that is).0;
    staged = λ that written is. none_left (HasObjects that) None that written refl is;
  }

  module _ (disk : List ℕ) (within : place_of page side + page_size ≤ length disk) (agrees : Agrees store disk) where
    side_reaches : (other used : ℕ) → (other ≡ page) ⊎ (other ≡ page → ⊥) → side_in_use (insert_entry nat_cmp store.sides page side) other ≡ Some used → place_of other used + page_size ≤ length disk
    side_reaches other used (inl same) is =
        let here : Some side ≡ Some used = sym (in_use_here store.sides page side) ∙ ap (side_in_use (insert_entry nat_cmp store.sides page side)) (sym same) ∙ is in
        let at : side ≡ used = same_Some side used here in
        omega (arith, within, at, same)
    side_reaches other used (inr apart) is = agrees.reaches other used (sym (in_use_other store.sides page side other apart) ∙ is)

    agrees_side : Agrees (with_side store page side) disk
    agrees_side = record {
      reaches = λ other used is. side_reaches other used (cases_eq other page) is;
      held = λ other that is. (let was = forgotten store.held page other that is in
          subst (λ (u : Option ℕ). Shows disk u other that) (sym (in_use_other store.sides page side other was.1)) (agrees.held other that was.0));
      staged = λ that written is. none_left (Spells (side_bytes disk that.number written) that.number that) None that written refl is;
    }

-- ---- a place is kept, as the cache has it

pub placed_is : (was now : Cache) (page : ℕ) → was.cap ≡ most_held → now ≡ lru_cache (cond (is_some (lookup (nat_eq page) was.entries)) was.entries (put_entries nat_eq was page None)) was.cap → (now.entries ≡ with_place was.entries page) × (now.cap ≡ most_held)
placed_is was now page cap_is put =
    (ap (λ (c : Cache). c.entries) put ∙ ap (λ (n : ℕ). cond (is_some (lookup (nat_eq page) was.entries)) was.entries (put_entries nat_eq (lru_cache was.entries n) page None)) cap_is, ap (λ (c : Cache). c.cap) put ∙ cap_is)

pub refreshed_is : (was now : Cache) (page : ℕ) (found : Option Contents) → was.cap ≡ most_held → now ≡ lru_cache (cond (is_some (lookup (nat_eq page) was.entries)) (put_entries nat_eq was page found) was.entries) was.cap → (now.entries ≡ refreshed was.entries page found) × (now.cap ≡ most_held)
refreshed_is was now page found cap_is put =
    (ap (λ (c : Cache). c.entries) put ∙ ap (λ (n : ℕ). cond (is_some (lookup (nat_eq page) was.entries)) (put_entries nat_eq (lru_cache was.entries n) page found) was.entries) cap_is, ap (λ (c : Cache). c.cap) put ∙ cap_is)

pub keeps_staged : (sides : List (ℕ × ℕ)) (before : Option (Contents × ℕ)) (was now : Cache) (page : Contents) (side cap room : ℕ) → Keeps (store_of sides was before) was.cap cap → now ≡ lru_cache (cond (is_some (lookup (nat_eq page.number) was.entries)) was.entries (put_entries nat_eq was page.number None)) was.cap → HasObjects page → length sides < room → side < 2 → Keeps (store_of sides now (Some (page, side))) now.cap room
keeps_staged sides before was now page side cap room keeps put objects long below =
    let is = placed_is was now page.number keeps.cap_is put in
    subst (λ (h : Held). Keeps (record { sides = sides; held = h; staged = Some (page, side) }) now.cap room) (sym is.0)
    (keeps_staging (store_of sides was before) page side now.cap room is.1 keeps.pages objects long below)

pub keeps_settled : (sides after : List (ℕ × ℕ)) (staged left : Option (Contents × ℕ)) (was now : Cache) (page side cap room : ℕ) (found : Contents) → Keeps (store_of sides was staged) was.cap cap → staged ≡ Some (found, side) → found.number ≡ page → after ≡ insert_entry nat_cmp sides page side → left ≡ None → now ≡ lru_cache (cond (is_some (lookup (nat_eq page) was.entries)) (put_entries nat_eq was page (Some found)) was.entries) was.cap → Keeps (store_of after now left) now.cap room
keeps_settled sides after staged left was now page side cap room found keeps is number sides_are left_is put =
    let held_is = refreshed_is was now page (Some found) keeps.cap_is put in
    let store : settled (store_of sides was staged) page side found number is ≡ store_of after now left =
    ap (λ (l : List (ℕ × ℕ)). record { sides = l; held = refreshed was.entries page (Some found); staged = None }) (sym sides_are)
    ∙ ap (λ (h : Held). record { sides = after; held = h; staged = None }) (sym held_is.0)
    ∙ ap (λ (o : Option (Contents × ℕ)). record { sides = after; held = now.entries; staged = o }) (sym left_is) in
    record {
      cap_is = held_is.1;
      pages = subst AreHeld store (kept_settled (store_of sides was staged) page side found number is keeps.pages);
      room_is = λ that written here. none_left (length after < room) left that written left_is here;
      side = λ that written here. none_left (written < 2) left that written left_is here;
    }

pub agrees_after : (sides after : List (ℕ × ℕ)) (staged left : Option (Contents × ℕ)) (was now : Cache) (page side : ℕ) (found : Contents) (disk : List ℕ) → was.cap ≡ most_held → staged ≡ Some (found, side) → found.number ≡ page → after ≡ insert_entry nat_cmp sides page side → left ≡ None → now ≡ lru_cache (cond (is_some (lookup (nat_eq page) was.entries)) (put_entries nat_eq was page (Some found)) was.entries) was.cap → Agrees (store_of sides was staged) disk → Agrees (store_of after now left) disk
agrees_after sides after staged left was now page side found disk cap_is is number sides_are left_is put agrees =
    let held_is = refreshed_is was now page (Some found) cap_is put in
    let store : settled (store_of sides was staged) page side found number is ≡ store_of after now left =
    ap (λ (l : List (ℕ × ℕ)). record { sides = l; held = refreshed was.entries page (Some found); staged = None }) (sym sides_are)
    ∙ ap (λ (h : Held). record { sides = after; held = h; staged = None }) (sym held_is.0)
    ∙ ap (λ (o : Option (Contents × ℕ)). record { sides = after; held = now.entries; staged = o }) (sym left_is) in
    subst (λ (s : Store). Agrees s disk) store (agrees_settled (store_of sides was staged) page side found number is disk agrees)

module _ (sides after : List (ℕ × ℕ)) (staged : Option (Contents × ℕ)) (was now : Cache) (page side : ℕ) (cap_is : was.cap ≡ most_held) (sides_are : after ≡ insert_entry nat_cmp sides page side) (put : now ≡ lru_cache (cond (is_some (lookup (nat_eq page) was.entries)) (put_entries nat_eq was page None) was.entries) was.cap) where
  abbrev after_side : Store
  after_side = store_of after now None

  pub side_store : with_side (store_of sides was staged) page side ≡ after_side
  side_store =
      ap (λ (l : List (ℕ × ℕ)). record { sides = l; held = refreshed was.entries page None; staged = None }) (sym sides_are)
      ∙ ap (λ (h : Held). record { sides = after; held = h; staged = None }) (sym (refreshed_is was now page None cap_is put).0)

  pub keeps_side : (cap room : ℕ) → Keeps (store_of sides was staged) was.cap cap → Keeps after_side now.cap room
  keeps_side cap room keeps = record {
    cap_is = (refreshed_is was now page None cap_is put).1;
    pages = subst AreHeld side_store (kept_side (store_of sides was staged) page side keeps.pages);
    room_is = λ that written here. none_left (length after < room) None that written refl here;
    side = λ that written here. none_left (written < 2) None that written refl here;
  }

  pub agrees_with_side : (disk : List ℕ) → place_of page side + page_size ≤ length disk → Agrees (store_of sides was staged) disk → Agrees after_side disk
  agrees_with_side disk within agrees = subst (λ (s : Store). Agrees s disk) side_store (agrees_side (store_of sides was staged) page side disk within agrees)

pub staged_store : (old new : Store) (page : Contents) (side : ℕ) → new.sides ≡ old.sides → new.held ≡ with_place old.held page.number → new.staged ≡ Some (page, side) → staging old page side ≡ new
staged_store old new page side sides held staged =
    ap (λ (l : List (ℕ × ℕ)). record { sides = l; held = with_place old.held page.number; staged = Some (page, side) }) (sym sides)
    ∙ ap (λ (h : Held). record { sides = new.sides; held = h; staged = Some (page, side) }) (sym held)
    ∙ ap (λ (o : Option (Contents × ℕ)). record { sides = new.sides; held = new.held; staged = o }) (sym staged)

abbrev staged_as : Contents × ℕ → Option (Contents × ℕ)
staged_as p = Some p

pub staged_found : (staged : Option (Contents × ℕ)) (found contents : Contents) (written side page : ℕ) → Some (found, written) ≡ staged → contents.number ≡ page → staged ≡ Some (contents, side) → (found.number ≡ page) × (staged ≡ Some (found, side))
staged_found staged found contents written side page took number last =
    let same : found ≡ contents = same_first (found, written) (contents, side) (took ∙ last) in
    (ap (λ (c : Contents). c.number) same ∙ number, last ∙ ap (λ (c : Contents). staged_as (c, side)) (sym same))

pub same_page : (staged : Option (Contents × ℕ)) (found contents : Contents) (written side : ℕ) → Some (found, written) ≡ staged → staged ≡ Some (contents, side) → found ≡ contents
same_page staged found contents written side took last = same_first (found, written) (contents, side) (took ∙ last)
