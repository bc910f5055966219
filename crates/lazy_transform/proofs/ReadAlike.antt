-- That the value of an object depends on it and on what is read for it alone.
use Rattle.std.proofs.Common.{◌≡◌, Bool, true, false, cond, List, [], ◌∷◌, ◌++◌, ℕ, zero, suc, nat_lt, Option, Some, None, option_map, arith, refl, ap, sym, ◌∙◌, subst, inl, inr, ◌⊎◌}
use Rattle.std.proofs.lemmas.List.Elements.{Contains-append_cases, Contains-append_left, Contains-push, Contains-push_cases}
use Rattle.std.proofs.lemmas.Map.Made.{lookup-map_values}
use Rattle.std.specs.BTreeMap.{is_at}
use Rattle.std.specs.List.{Contains, flat_map}
use Rattle.thor_value.specs.FiniteMap.{get}
use Rattle.thor_value.specs.Names.{oref_cmp}
use Rattle.thor_value.specs.declared.names.Oref.{Oref}
use Rattle.thor_value.specs.declared.values.Obj.{Obj}
use Rattle.class_defs.specs.Eager.{next_value, value as value_of, values}
use Rattle.class_defs.specs.Epochs.{classes_of, next_of}
use Rattle.class_defs.specs.Stored.{Objects}
use Rattle.class_defs.specs.Upgrades.{transformed}
use Rattle.class_defs.specs.declared.store.Object.{Object}
use Rattle.class_defs.specs.declared.store.Schemas.{Schemas}
use Rattle.lazy_transform.proofs.Alike.{left_of, reads_alike, right_of, transformed_alike}
use Rattle.lazy_transform.specs.Reads.{SameOn, next_reads, reads, stored_reads, upgrade_reads, with_reads}

pub first_among : (x : Oref) (xs : List Oref) → Contains (x ∷ xs) x
first_among x xs = Contains-append_left (x ∷ []) xs x (Contains-push [] x)

pub same_first : {X : Type 0} (z : Oref) (zs : List Oref) (f g : Oref → Option X) → g z ≡ f z → SameOn zs f g → SameOn (z ∷ zs) f g
same_first z zs f g one rest x c = by_place x (Contains-append_cases (z ∷ []) zs x c)
  where
    it : (x : Oref) → Contains [] x ⊎ (z ≡ x) → g x ≡ f x
    it x (inl c) = absurd (omega (arith, c.1))
    it x (inr e) = subst (λ y. g y ≡ f y) e one

    by_place : (x : Oref) → Contains (z ∷ []) x ⊎ Contains zs x → g x ≡ f x
    by_place x (inl c) = it x (Contains-push_cases [] z x c)
    by_place x (inr c) = rest x c

module _ (s : Schemas) (m n : Objects) where
  -- an object has the same value, and the same is read for it, over both maps
  pub record IsSame (k : ℕ) (o : Obj) : Type 0 where
    pub value : value_of s n k o ≡ value_of s m k o
    pub reads : reads s n k o ≡ reads s m k o

  abbrev AreSame : ℕ → Type 0
  AreSame k = (o : Obj) → SameOn (reads s m k o) (get m) (get n) → IsSame k o

  module _ (k : ℕ) (before : AreSame k) where
    -- the objects of both maps as they were in epoch k
    abbrev ours : Oref → Option Object
    ours = get (values s m k)

    abbrev theirs : Oref → Option Object
    theirs = get (values s n k)

    ours_at : (z : Oref) → ours z ≡ option_map (value_of s m k) (get m z)
    ours_at z = lookup-map_values (value_of s m k) (is_at (oref_cmp z)) m.pairs

    theirs_at : (z : Oref) → theirs z ≡ option_map (value_of s n k) (get n z)
    theirs_at z = lookup-map_values (value_of s n k) (is_at (oref_cmp z)) n.pairs

    abbrev ours_read : Oref → List Oref
    ours_read = with_reads (reads s m k) m

    abbrev theirs_read : Oref → List Oref
    theirs_read = with_reads (reads s n k) n

    value_at : (w : Option Obj) → SameOn (stored_reads (reads s m k) w) (get m) (get n)
        → option_map (value_of s n k) w ≡ option_map (value_of s m k) w
    value_at None h = refl
    value_at (Some o) h = ap Some (before o h).value

    reads_at : (w : Option Obj) → SameOn (stored_reads (reads s m k) w) (get m) (get n)
        → stored_reads (reads s n k) w ≡ stored_reads (reads s m k) w
    reads_at None h = refl
    reads_at (Some o) h = (before o h).reads

    -- where the maps have the same at a name and at what is read for it
    module _ (z : Oref) (h : SameOn (ours_read z) (get m) (get n)) where
      stored : get n z ≡ get m z
      stored = h z (first_among z (stored_reads (reads s m k) (get m z)))

      below : SameOn (stored_reads (reads s m k) (get m z)) (get m) (get n)
      below = right_of (z ∷ []) (stored_reads (reads s m k) (get m z)) (get m) (get n) h

      one_value : theirs z ≡ ours z
      one_value = theirs_at z ∙ ap (option_map (value_of s n k)) stored ∙ value_at (get m z) below ∙ sym (ours_at z)

      one_read : theirs_read z ≡ ours_read z
      one_read = ap (λ w. z ∷ stored_reads (reads s n k) w) stored ∙ ap (λ xs. z ∷ xs) (reads_at (get m z) below)

    none_same : SameOn [] ours theirs
    none_same x c = absurd (omega (arith, c.1))

    all_values : (zs : List Oref) → SameOn (flat_map ours_read zs) (get m) (get n) → SameOn zs ours theirs
    all_values [] h = none_same
    all_values (z ∷ zs) h =
        same_first z zs ours theirs (one_value z (left_of (ours_read z) (flat_map ours_read zs) (get m) (get n) h))
        (all_values zs (right_of (ours_read z) (flat_map ours_read zs) (get m) (get n) h))

    all_reads : (zs : List Oref) → SameOn (flat_map ours_read zs) (get m) (get n) → flat_map theirs_read zs ≡ flat_map ours_read zs
    all_reads [] h = refl
    all_reads (z ∷ zs) h =
        ap (λ xs. xs ++ flat_map theirs_read zs) (one_read z (left_of (ours_read z) (flat_map ours_read zs) (get m) (get n) h))
        ∙ ap (λ xs. ours_read z ++ xs) (all_reads zs (right_of (ours_read z) (flat_map ours_read zs) (get m) (get n) h))

    -- one upgrade, behind which the object was written or not
    step_value : (v : Object) (o : Obj) (b : Bool)
        → SameOn (cond b [] (upgrade_reads (classes_of s k) ours v (next_of s k o.class))) ours theirs
        → cond b v (transformed (classes_of s k) (classes_of s (suc k)) theirs v (next_of s k o.class))
        ≡ cond b v (transformed (classes_of s k) (classes_of s (suc k)) ours v (next_of s k o.class))
    step_value v o true h = refl
    step_value v o false h = transformed_alike (classes_of s k) ours theirs v (classes_of s (suc k)) (next_of s k o.class) h

    step_reads : (v : Object) (o : Obj) (b : Bool)
        → SameOn (cond b [] (upgrade_reads (classes_of s k) ours v (next_of s k o.class))) ours theirs
        → cond b [] (upgrade_reads (classes_of s k) theirs v (next_of s k o.class))
        ≡ cond b [] (upgrade_reads (classes_of s k) ours v (next_of s k o.class))
    step_reads v o true h = refl
    step_reads v o false h = reads_alike (classes_of s k) ours theirs v (next_of s k o.class) h

    behind : (o : Obj) → SameOn (reads s m k o ++ flat_map ours_read (next_reads s k ours o (value_of s m k o))) (get m) (get n) → IsSame (suc k) o
    unfolding value_of reads
    behind o h =
        let v = value_of s m k o in
        let names = next_reads s k ours o v in
        let was = before o (left_of (reads s m k o) (flat_map ours_read names) (get m) (get n) h) in
        let read = right_of (reads s m k o) (flat_map ours_read names) (get m) (get n) h in
        let seen = all_values names read in
        record {
          value = ap (λ w. next_value s k theirs o w) was.value ∙ step_value v o (nat_lt k o.ver) seen;
          reads =
              ap (λ w. reads s n k o ++ flat_map theirs_read (next_reads s k theirs o w)) was.value
              ∙ ap (λ xs. xs ++ flat_map theirs_read (next_reads s k theirs o v)) was.reads
              ∙ ap (λ zs. reads s m k o ++ flat_map theirs_read zs) (step_reads v o (nat_lt k o.ver) seen)
              ∙ ap (λ xs. reads s m k o ++ xs) (all_reads names read);
        }

  -- the value of an object is the same over maps that have the same where it is read
  pub values_alike : (k : ℕ) → AreSame k
  unfolding value_of reads
  values_alike zero o h = record { value = refl; reads = refl }
  values_alike (suc k) o h = behind k (values_alike k) o h
