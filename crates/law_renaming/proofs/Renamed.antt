-- Two runs of one transaction whose new objects take other names: what names, values and objects mean in both, and
-- what stays so as more objects are created.
use Rattle.std.proofs.Common.{◌≡◌, ◌⊎◌, Bool, true, false, cond, List, [], ◌∷◌, ◌++◌, Option, Some, None, refl, sym, ◌∙◌, ℕ, zero, suc, inl, inr, take, slice_get, slice_set, subst}
use Rattle.std.proofs.lemmas.Map.Views.{tells_apart}
use Rattle.std.specs.List.{AllByRecursion, AllZip, position_or_len}
use Rattle.std.specs.Prelude.{find, is_some, IfSome}
use Rattle.thor_value.proofs.NameOrders.{oref_exact}
use Rattle.thor_value.specs.Names.{same_oref}
use Rattle.thor_value.specs.declared.names.Oref.{Oref}
use Rattle.thor_value.specs.declared.values.Value.{Value}
use Rattle.thor_value.specs.declared.values.Value.TheVariants as value
use Rattle.class_defs.proofs.SameNames.{same_itself}
use Rattle.law_renaming.specs.Renaming.{Paired, SameName, SameValue, SameObject}
use Rattle.class_defs.specs.declared.machine.Local.{Local}
use Rattle.class_defs.specs.declared.machine.Receiver.{Receiver}
use Rattle.class_defs.specs.declared.store.Object.{Object}

-- ---- lists side by side

module _ {X : Type 0} (R : X → X → Type 0) where
  -- both are there and belong together, or neither is there
  abbrev pub Both : Option X → Option X → Type 0
  Both (Some a) (Some b) = R a b
  Both None None = Unit {0}
  Both (Some a) None = ⊥
  Both None (Some b) = ⊥

  pub each_later : (Q : X → X → Type 0) → ((a b : X) → R a b → Q a b) → (xs ys : List X) → AllZip R xs ys → AllZip Q xs ys
  each_later Q f [] [] h = tt
  each_later Q f [] (y ∷ ys) h = absurd h
  each_later Q f (x ∷ xs) [] h = absurd h
  each_later Q f (x ∷ xs) (y ∷ ys) h = (f x y h.0, each_later Q f xs ys h.1)

  pub each_at : (xs ys : List X) (i : ℕ) → AllZip R xs ys → Both (slice_get xs i) (slice_get ys i)
  each_at [] [] i h = tt
  each_at [] (y ∷ ys) i h = absurd h
  each_at (x ∷ xs) [] i h = absurd h
  each_at (x ∷ xs) (y ∷ ys) zero h = h.0
  each_at (x ∷ xs) (y ∷ ys) (suc i) h = each_at xs ys i h.1

  pub each_set : (xs ys : List X) (i : ℕ) (a b : X) → R a b → AllZip R xs ys → AllZip R (slice_set xs i a) (slice_set ys i b)
  each_set [] [] i a b r h = tt
  each_set [] (y ∷ ys) i a b r h = absurd h
  each_set (x ∷ xs) [] i a b r h = absurd h
  each_set (x ∷ xs) (y ∷ ys) zero a b r h = (r, h.1)
  each_set (x ∷ xs) (y ∷ ys) (suc i) a b r h = (h.0, each_set xs ys i a b r h.1)

  pub each_front : (xs ys : List X) (n : ℕ) → AllZip R xs ys → AllZip R (take n xs) (take n ys)
  each_front xs ys zero h = tt
  each_front [] [] (suc n) h = tt
  each_front [] (y ∷ ys) (suc n) h = absurd h
  each_front (x ∷ xs) [] (suc n) h = absurd h
  each_front (x ∷ xs) (y ∷ ys) (suc n) h = (h.0, each_front xs ys n h.1)

  one_found : (b c : Bool) (x y : X) (o p : Option X) → b ≡ c → R x y → Both o p → Both (cond b (Some x) o) (cond c (Some y) p)
  one_found true true x y o p e r h = r
  one_found false false x y o p e r h = h
  one_found true false x y o p e r h = cc
  one_found false true x y o p e r h = cc

  -- a test that can't tell them apart finds them in both
  pub each_found : (f g : X → Bool) → ((a b : X) → R a b → f a ≡ g b) → (xs ys : List X) → AllZip R xs ys → Both (find f xs) (find g ys)
  each_found f g e [] [] h = tt
  each_found f g e [] (y ∷ ys) h = absurd h
  each_found f g e (x ∷ xs) [] h = absurd h
  each_found f g e (x ∷ xs) (y ∷ ys) h = one_found (f x) (g y) x y _ _ (e x y h.0) h.0 (each_found f g e xs ys h.1)

  -- and at the same place
  pub each_placed : (f g : X → Bool) → ((a b : X) → R a b → f a ≡ g b) → (xs ys : List X) → AllZip R xs ys
      → position_or_len g ys ≡ position_or_len f xs
  each_placed f g e [] [] h = refl
  each_placed f g e [] (y ∷ ys) h = absurd h
  each_placed f g e (x ∷ xs) [] h = absurd h
  each_placed f g e (x ∷ xs) (y ∷ ys) h = rw (e x y h.0, each_placed f g e xs ys h.1) refl

  pub both_there : (o p : Option X) → Both o p → is_some o ≡ is_some p
  both_there (Some a) (Some b) h = refl
  both_there None None h = refl
  both_there (Some a) None h = absurd h
  both_there None (Some b) h = absurd h

-- what holds of each item holds of one that is found
pub found_all : {X : Type 0} (P : X → Type 0) (test : X → Bool) (xs : List X) → AllByRecursion P xs → IfSome (find test xs) P
found_all P test [] h = tt
found_all P test (x ∷ xs) h = by (test x) (found_all P test xs h.1)
  where
    by : (b : Bool) → IfSome (find test xs) P → IfSome (cond b (Some x) (find test xs)) P
    by true rest = h.0
    by false rest = rest

-- an item beside itself
pub each_itself : {X : Type 0} (P : X → Type 0) (R : X → X → Type 0) → ((x : X) → P x → R x x) → (xs : List X) → AllByRecursion P xs → AllZip R xs xs
each_itself P R f [] h = tt
each_itself P R f (x ∷ xs) h = (f x h.0, each_itself P R f xs h.1)

-- ---- names in pairs

pub paired_later : (xs ys : List Oref) (a b x y : Oref) → Paired xs ys x y → Paired (xs ++ a ∷ []) (ys ++ b ∷ []) x y
paired_later [] ys a b x y h = absurd h
paired_later (c ∷ xs) [] a b x y h = absurd h
paired_later (c ∷ xs) (d ∷ ys) a b x y (inl h) = inl h
paired_later (c ∷ xs) (d ∷ ys) a b x y (inr h) = inr (paired_later xs ys a b x y h)

pub paired_last : (R : Oref → Oref → Type 0) (xs ys : List Oref) (a b : Oref) → AllZip R xs ys → Paired (xs ++ a ∷ []) (ys ++ b ∷ []) a b
paired_last R [] [] a b h = inl (refl, refl)
paired_last R [] (d ∷ ys) a b h = absurd h
paired_last R (c ∷ xs) [] a b h = absurd h
paired_last R (c ∷ xs) (d ∷ ys) a b h = inr (paired_last R xs ys a b h.1)

-- a pair behind one more is that one or was there before
pub paired_split : (R : Oref → Oref → Type 0) (xs ys : List Oref) (a b x y : Oref) → AllZip R xs ys → Paired (xs ++ a ∷ []) (ys ++ b ∷ []) x y
    → Paired xs ys x y ⊎ ((x ≡ a) × (y ≡ b))
paired_split R [] [] a b x y h (inl e) = inr e
paired_split R [] [] a b x y h (inr p) = absurd p
paired_split R [] (d ∷ ys) a b x y h p = absurd h
paired_split R (c ∷ xs) [] a b x y h p = absurd h
paired_split R (c ∷ xs) (d ∷ ys) a b x y h (inl e) = inl (inl e)
paired_split R (c ∷ xs) (d ∷ ys) a b x y h (inr p) = more (paired_split R xs ys a b x y h.1 p)
  where
    more : Paired xs ys x y ⊎ ((x ≡ a) × (y ≡ b)) → Paired (c ∷ xs) (d ∷ ys) x y ⊎ ((x ≡ a) × (y ≡ b))
    more (inl q) = inl (inr q)
    more (inr e) = inr e

-- the pairs of a list beside itself
pub paired_itself : (xs : List Oref) (x y : Oref) → Paired xs xs x y → x ≡ y
paired_itself [] x y h = absurd h
paired_itself (a ∷ xs) x y (inl e) = e.0 ∙ sym e.1
paired_itself (a ∷ xs) x y (inr h) = paired_itself xs x y h

found_there : (b : Bool) (a : Oref) (o : Option Oref) → (b ≡ true) ⊎ (is_some o ≡ true) → is_some (cond b (Some a) o) ≡ true
found_there true a o h = refl
found_there false a o (inl h) = cc
found_there false a o (inr h) = h

-- a name in a pair is among the created
pub paired_found : (xs ys : List Oref) (x y : Oref) → Paired xs ys x y → is_some (find (same_oref x) xs) ≡ true
paired_found [] ys x y h = absurd h
paired_found (a ∷ xs) [] x y h = absurd h
paired_found (a ∷ xs) (b ∷ ys) x y (inl e) = found_there (same_oref x a) a _ (inl (rw e.0 (same_itself a)))
paired_found (a ∷ xs) (b ∷ ys) x y (inr h) = found_there (same_oref x a) a _ (inr (paired_found xs ys x y h))

-- names that differ aren't one for the test
pub differ : (x y : Oref) → ¬ (x ≡ y) → same_oref x y ≡ false
differ x y h = by (same_oref x y) refl
  where
    by : (b : Bool) → same_oref x y ≡ b → same_oref x y ≡ false
    by true e = absurd (h (tells_apart oref_exact x y e))
    by false e = e

-- ---- as more objects are created

-- the objects created in the one run and the other
abbrev pub Time : Type 0
Time = List Oref × List Oref

module _ (fresh : Oref → Bool) where
  abbrev pub Names : Time → Oref → Oref → Type 0
  Names t = SameName fresh t.0 t.1

  abbrev pub Values : Time → Value → Value → Type 0
  Values t = SameValue fresh t.0 t.1

  abbrev pub Objects : Time → Option Object → Option Object → Type 0
  Objects t = SameObject fresh t.0 t.1

  -- the locals have one name, one type and values that are the same but for names
  pub record Locals (t : Time) (l k : Local) : Type 0 where
    pub name : k.name ≡ l.name
    pub kind : k.kind ≡ l.kind
    pub value : Values t l.value k.value

  pub record Receivers (t : Time) (r q : Receiver) : Type 0 where
    pub oref : Names t r.oref q.oref
    pub class : q.class ≡ r.class
    pub owners : AllZip (Names t) r.owners q.owners

  -- names that mean the same object go on doing so
  abbrev pub Later : Time → Time → Type 0
  Later t u = (x y : Oref) → Names t x y → Names u x y

  pub value_later : (t u : Time) → Later t u → (a b : Value) → Values t a b → Values u a b
  value_later t u f (value.Int a) (value.Int b) h = h
  value_later t u f (value.Text a) (value.Text b) h = h
  value_later t u f (value.Int a) (value.Text b) h = absurd h
  value_later t u f (value.Text a) (value.Int b) h = absurd h
  value_later t u f (value.Ref x) (value.Ref y) h = f x y h
  value_later t u f value.Null value.Null h = tt
  value_later t u f (value.Int a) (value.Ref y) h = absurd h
  value_later t u f (value.Text a) (value.Ref y) h = absurd h
  value_later t u f (value.Int a) value.Null h = absurd h
  value_later t u f (value.Text a) value.Null h = absurd h
  value_later t u f (value.Ref x) (value.Int b) h = absurd h
  value_later t u f (value.Ref x) (value.Text b) h = absurd h
  value_later t u f (value.Ref x) value.Null h = absurd h
  value_later t u f value.Null (value.Int b) h = absurd h
  value_later t u f value.Null (value.Text b) h = absurd h
  value_later t u f value.Null (value.Ref y) h = absurd h

  pub values_later : (t u : Time) → Later t u → (vs us : List Value) → AllZip (Values t) vs us → AllZip (Values u) vs us
  values_later t u f vs us h = each_later (Values t) (Values u) (value_later t u f) vs us h

  pub names_later : (t u : Time) → Later t u → (xs ys : List Oref) → AllZip (Names t) xs ys → AllZip (Names u) xs ys
  names_later t u f xs ys h = each_later (Names t) (Names u) f xs ys h

  pub object_later : (t u : Time) → Later t u → (o p : Option Object) → Objects t o p → Objects u o p
  object_later t u f (Some o) (Some p) h = (h.0, values_later t u f o.fields p.fields h.1)
  object_later t u f None None h = tt
  object_later t u f (Some o) None h = absurd h
  object_later t u f None (Some p) h = absurd h

  pub locals_later : (t u : Time) → Later t u → (ls ks : List Local) → AllZip (Locals t) ls ks → AllZip (Locals u) ls ks
  locals_later t u f ls ks h = each_later (Locals t) (Locals u)
      (λ l k r. record { name = r.name; kind = r.kind; value = value_later t u f l.value k.value r.value }) ls ks h

  pub this_later : (t u : Time) → Later t u → (r q : Option Receiver) → Both (Receivers t) r q → Both (Receivers u) r q
  this_later t u f (Some r) (Some q) h = record {
    oref = f r.oref q.oref h.oref;
    class = h.class;
    owners = names_later t u f r.owners q.owners h.owners;
  }
  this_later t u f None None h = tt
  this_later t u f (Some r) None h = absurd h
  this_later t u f None (Some q) h = absurd h

  -- with one more created in both
  abbrev pub more : Time → Oref → Oref → Time
  more t a b = (t.0 ++ a ∷ [], t.1 ++ b ∷ [])

  pub more_later : (t : Time) (a b : Oref) → Later t (more t a b)
  more_later t a b x y (inl h) = inl h
  more_later t a b x y (inr h) = inr (paired_later t.0 t.1 a b x y h)

  pub more_split : (t : Time) (a b x y : Oref) → AllZip (Names t) t.0 t.1 → Names (more t a b) x y → Names t x y ⊎ ((x ≡ a) × (y ≡ b))
  more_split t a b x y h (inl e) = inl (inl e)
  more_split t a b x y h (inr p) = by (paired_split (Names t) t.0 t.1 a b x y h p)
    where
      by : Paired t.0 t.1 x y ⊎ ((x ≡ a) × (y ≡ b)) → Names t x y ⊎ ((x ≡ a) × (y ≡ b))
      by (inl q) = inl (inr q)
      by (inr e) = inr e

  -- where the same names were created, names that mean the same object are one
  pub same_times : (t : Time) (x y : Oref) → t.1 ≡ t.0 → Names t x y → x ≡ y
  same_times t x y e (inl h) = h.1
  same_times t x y e (inr h) = paired_itself t.0 x y (subst (λ ys. Paired t.0 ys x y) e h)
