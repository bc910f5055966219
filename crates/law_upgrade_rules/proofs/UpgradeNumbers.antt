-- That a schema's numbers are those of the last upgrades that name its classes.
use Rattle.std.proofs.Common.{◌≡◌, ◌≤◌, ◌<◌, arith, Bool, true, false, cond, List, [], ◌∷◌, map, max, ℕ, zero, suc, Option, Some, None, is_some, slice_get, refl, ap, sym, ◌∙◌, subst}
use Rattle.std.proofs.lemmas.Bool.{ltb-true, and_parts}
use Rattle.std.proofs.lemmas.Slice.Eq.{bytes_eq-Decides}
use Rattle.std.specs.List.{list_any, position_or_len}
use Rattle.std.specs.Option.{option_and_then}
use Rattle.std.specs.Prelude.{◌&&◌, ◌+◌, find, length, not}
use Rattle.std.specs.Str.{bytes_eq}
use Rattle.law_upgrade_rules.proofs.AppliedClasses.{same_known}
use Rattle.class_defs.proofs.KeptRules.{held, nothing}
use Rattle.class_defs.proofs.NumbersBehind.{highest_below, number_below}
use Rattle.law_upgrade_rules.proofs.KeptByRules.{behind, next_is, sound}
use Rattle.class_defs.specs.Accepted.{AllAccepted, AllNameAClass, IsAccepted}
use Rattle.class_defs.specs.Applied.{applied, highest, next_number, number_of, numbers_behind, said_of}
use Rattle.class_defs.specs.Epochs.{classes_of, schema_of}
use Rattle.class_defs.specs.Levels.{last_naming}
use Rattle.class_defs.specs.Types.{class_named}
use Rattle.class_defs.specs.Rules.{must}
use Rattle.class_defs.specs.UpgradeRules.{named_once, upgrade_rules}
use Rattle.class_defs.specs.declared.classes.Class.{Class}
use Rattle.class_defs.specs.declared.expressions.Name.{Name}
use Rattle.class_defs.specs.declared.rules.Rule.TheVariants.{O1}
use Rattle.class_defs.specs.declared.statements.Stmt.{Stmt}
use Rattle.class_defs.specs.declared.store.Schema.{Schema}
use Rattle.class_defs.specs.declared.store.Schemas.{Schemas}
use Rattle.class_defs.specs.declared.upgrades.ClassUpgrade.{ClassUpgrade}
use Rattle.class_defs.specs.declared.upgrades.Upgrade.{Upgrade}

module _ (u : Upgrade) (n : ℕ) where
  -- the number of one class behind the upgrade
  abbrev number_at : Option Class → ℕ → ℕ
  number_at None before = zero
  number_at (Some d) before = cond (is_some (said_of u d)) n before

  number_behind : (ds : List Class) (ks : List ℕ) (c : ℕ) → number_of (numbers_behind u n ds ks) c ≡ number_at (slice_get ds c) (number_of ks c)
  number_behind [] ks c = refl
  number_behind (d ∷ ds) [] zero = refl
  number_behind (d ∷ ds) (k ∷ ks) zero = refl
  number_behind (d ∷ ds) [] (suc c) = number_behind ds [] c
  number_behind (d ∷ ds) (k ∷ ks) (suc c) = number_behind ds ks c

-- ---- an upgrade names a class

-- a class that an upgrade names, by its place
record Names (classes : List Class) (u : Upgrade) : Type 0 where
  place : ℕ
  class : Class
  stands : slice_get classes place ≡ Some class
  said : is_some (said_of u class) ≡ true

found_first : (k : ClassUpgrade) (ks : List ClassUpgrade) (n : List ℕ) → bytes_eq n k.name.text ≡ true
    → is_some (find (λ k. bytes_eq k.name.text n) (k ∷ ks)) ≡ true
found_first k ks n h =
    let same : n ≡ k.name.text = (bytes_eq-Decides n k.name.text).0 h in
    let is : bytes_eq k.name.text n ≡ true = (bytes_eq-Decides k.name.text n).1 (sym same) in
    ap (λ b. is_some (cond b (Some k) (find (λ k. bytes_eq k.name.text n) ks))) is

-- a class of this name, by its place
record Stands (classes : List Class) (n : List ℕ) : Type 0 where
  at : ℕ
  class : Class
  stands : slice_get classes at ≡ Some class
  named : bytes_eq class.name.text n ≡ true

abbrev place : List ℕ → List Class → ℕ
place n ds = position_or_len (λ d. bytes_eq d.name.text n) ds

one_further : (d : Class) (ds : List Class) (n : List ℕ) → Stands ds n → Stands (d ∷ ds) n
one_further d ds n s = record { at = suc s.at; class = s.class; stands = s.stands; named = s.named }

stands_at : (n : List ℕ) (ds : List Class) → place n ds < length ds → Stands ds n
stands_at n [] h = absurd (omega (arith, h))
stands_at n (d ∷ ds) h = by_test (bytes_eq d.name.text n) refl (stands_at n ds) h
  where
    by_test : (b : Bool) → bytes_eq d.name.text n ≡ b → (place n ds < length ds → Stands ds n) → cond (not b) (1 + place n ds) 0 < length (d ∷ ds)
        → Stands (d ∷ ds) n
    by_test true is rest h = record { at = zero; class = d; stands = refl; named = is }
    by_test false is rest h = one_further d ds n (rest (omega (arith, h)))

there_at : (b : Bool) (i : ℕ) → is_some (cond b (Some i) None) ≡ true → b ≡ true
there_at true i h = refl
there_at false i h = cc

-- an accepted upgrade names a class
names_one : (classes : List Class) (u : Upgrade) (ks : List ClassUpgrade) → u.classes ≡ ks → ¬ (ks ≡ []) → upgrade_rules classes u ≡ []
    → Names classes u
unfolding upgrade_rules
names_one classes u [] is some h = absurd (some refl)
names_one classes u (k ∷ ks) is some h =
    let rules : named_once classes [] (map (λ k. k.name) (k ∷ ks)) ≡ [] =
    subst (λ (xs : List ClassUpgrade). named_once classes [] (map (λ k. k.name) xs) ≡ []) is
    (nothing (named_once classes [] (map (λ k. k.name) u.classes)) _ h).0 in
    let first = nothing
    (must (is_some (class_named classes k.name.text) && not (list_any (λ (m : Name). bytes_eq m.text k.name.text) [])) O1 k.name.line) _ rules in
    let there = (and_parts (is_some (class_named classes k.name.text)) _ (held _ _ _ first.0)).0 in
    let s = stands_at k.name.text classes (ltb-true (place k.name.text classes) (length classes) (there_at _ _ there)) in
    record {
      place = s.at;
      class = s.class;
      stands = s.stands;
      said = ap (λ (xs : List ClassUpgrade). is_some (find (λ k. bytes_eq k.name.text s.class.name.text) xs)) is ∙ found_first k ks s.class.name.text s.named;
    }

-- ---- all upgrades of a store

-- the numbers of an epoch
record AreNumbers (s : Schemas) (k : ℕ) : Type 0 where
  below : highest (schema_of s k).upgraded ≤ k
  reached : k ≤ highest (schema_of s k).upgraded
  beyond : (c : ℕ) → slice_get (classes_of s k) c ≡ None → number_of (schema_of s k).upgraded c ≡ zero
  last : (c : ℕ) → number_of (schema_of s k).upgraded c ≡ last_naming s c k

module _ (s : Schemas) (repos : ℕ) (items : List (List Stmt)) (k : ℕ) (accepted : IsAccepted s repos items k) (some : ¬ (accepted.upgrade.classes ≡ []))
    (h : AreNumbers s k) where
  abbrev u : Upgrade
  u = accepted.upgrade

  abbrev ds : List Class
  ds = classes_of s k

  abbrev ks : List ℕ
  ks = (schema_of s k).upgraded

  next : next_number ks ≡ suc k
  next = let below = h.below in let reached = h.reached in ap suc (equal (highest ks) k below reached)
    where
      equal : (a b : ℕ) → a ≤ b → b ≤ a → a ≡ b
      equal a b h g = omega (arith, h, g)

  numbers : (schema_of s (suc k)).upgraded ≡ numbers_behind u (suc k) ds ks
  unfolding applied
  numbers = ap (λ (a : Schema). a.upgraded) accepted.behind ∙ ap (λ n. numbers_behind u n ds ks) next

  number_is : (c : ℕ) → number_of (schema_of s (suc k)).upgraded c ≡ number_at u (suc k) (slice_get ds c) (number_of ks c)
  number_is c = ap (λ ns. number_of ns c) numbers ∙ number_behind u (suc k) ds ks c

  gone : (o : Option Class) → is_some o ≡ false → o ≡ None
  gone None h = refl
  gone (Some d) h = cc

  last_at : (c : ℕ) (o : Option Class) → slice_get ds c ≡ o
      → number_at u (suc k) o (number_of ks c) ≡ cond (is_some (option_and_then (said_of u) o)) (suc k) (last_naming s c k)
  last_at c None is = sym (h.beyond c is) ∙ h.last c
  last_at c (Some d) is = ap (λ n. cond (is_some (said_of u d)) (suc k) n) (h.last c)

  last_next : (c : ℕ) → last_naming s c (suc k) ≡ cond (is_some (option_and_then (said_of u) (slice_get ds c))) (suc k) (last_naming s c k)
  unfolding last_naming
  last_next c = ap (λ o. cond (is_some o) (suc k) (last_naming s c k)) (next_is s repos items k accepted c)

  next_numbers : AreNumbers s (suc k)
  next_numbers =
      let one = names_one ds u u.classes refl some (sound (schema_of s k) repos u items accepted.keeps).own in
      let its : number_of (schema_of s (suc k)).upgraded one.place ≡ suc k =
      number_is one.place ∙ ap (λ o. number_at u (suc k) o (number_of ks one.place)) one.stands
      ∙ ap (λ b. cond b (suc k) (number_of ks one.place)) one.said in
      let under = number_below (schema_of s (suc k)).upgraded one.place in
      let old = h.below in
      record {
        below = subst (λ ns. highest ns ≤ suc k) (sym numbers) (highest_below u (suc k) ds ks (omega (arith, old)));
        reached = subst (λ n. n ≤ highest (schema_of s (suc k)).upgraded) its under;
        beyond = λ c none.
            let away : is_some (slice_get ds c) ≡ false =
            sym (ap (λ (cs : List Class). is_some (slice_get cs c)) (behind s repos items k accepted) ∙ same_known u c ds) ∙ ap is_some none in
            number_is c ∙ ap (λ o. number_at u (suc k) o (number_of ks c)) (gone (slice_get ds c) away);
        last = λ c. number_is c ∙ last_at c (slice_get ds c) refl ∙ sym (last_next c);
      }

module _ (s : Schemas) (repos : ℕ) (items : List (List Stmt)) (e : ℕ) (zeros : (c : ℕ) → number_of s.first.upgraded c ≡ zero)
    (all : AllAccepted s repos items e) (some : AllNameAClass s e) where
  highest_zero : (ks : List ℕ) → ((c : ℕ) → number_of ks c ≡ zero) → highest ks ≡ zero
  highest_zero [] h = refl
  highest_zero (k ∷ ks) h = ap (λ n. max n (highest ks)) (h zero) ∙ ap (max zero) (highest_zero ks (λ c. h (suc c)))

  are_numbers : (k : ℕ) → k < suc e → AreNumbers s k
  unfolding last_naming
  are_numbers zero h =
      let is = highest_zero s.first.upgraded zeros in
      record { below = omega (arith, is); reached = omega arith; beyond = λ c none. zeros c; last = zeros }
  are_numbers (suc k) h =
      let a = all k (omega (arith, h)) in
      next_numbers s repos items k a (some k a.upgrade (omega (arith, h)) a.leads) (are_numbers k (omega (arith, h)))

  pub numbers_are_last : (c : ℕ) → number_of (schema_of s e).upgraded c ≡ last_naming s c e
  numbers_are_last c = (are_numbers e (omega arith)).last c
