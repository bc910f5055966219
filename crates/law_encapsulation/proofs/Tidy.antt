-- What holds of parts in each state of a run of checked code, and that it goes on to hold where an object is read, made or
-- given a field.
use Rattle.class_defs.proofs.SameNames.{one_name, same_itself}
use Rattle.class_defs.specs.Objects.{first_of}
use Rattle.class_defs.specs.Ownership.{Refers, type_at}
use Rattle.class_defs.specs.Rules.{is_part}
use Rattle.class_defs.specs.declared.classes.Class.{Class}
use Rattle.class_defs.specs.declared.machine.Receiver.{Receiver}
use Rattle.class_defs.specs.declared.store.Object.{Object}
use Rattle.class_defs.specs.declared.types.ExprType.TheVariants as type
use Rattle.law_type_soundness.proofs.FitValues.{insert_put, put}
use Rattle.law_encapsulation.proofs.Made.{age, age-more, among-cases, among-more, among-new, is_among}
use Rattle.law_encapsulation.specs.Owning.{OwnsIn}
use Rattle.std.proofs.Common.{Bool, List, [], ap, cond, false, inl, inr, refl, subst, sym, true, ℕ, zero, suc, ◌++◌, ◌<◌, ◌≡◌, ◌∙◌, ◌∷◌}
use Rattle.std.proofs.lemmas.Bool.{or_cases, both_ways, or_left, or_right}
use Rattle.std.proofs.lemmas.Option.{none-some}
use Rattle.std.specs.Prelude.{None, Option, Some, is_some, slice_get, slice_set, ◌||◌, ◌⊎◌}
use Rattle.thor_value.proofs.FiniteMap.{get-insert}
use Rattle.thor_value.proofs.NameOrders.{oref_total}
use Rattle.thor_value.specs.FiniteMap.{Map, Set, get, has, insert}
use Rattle.thor_value.specs.Names.{oref_cmp, same_oref}
use Rattle.thor_value.specs.declared.names.Oref.{Oref}
use Rattle.thor_value.specs.declared.values.Value.TheVariants as value
use Rattle.thor_value.specs.declared.values.Value.{Value}

abbrev pub Writes : Type 0
Writes = Map oref_cmp Object

abbrev pub Reads : Type 0
Reads = Set oref_cmp

-- ---- small things

same_some : {X : Type 0} (x y : X) → ◌≡◌ {A = Option X} (Some x) (Some y) → x ≡ y
same_some x y e = cc

some_there : {X : Type 0} (o : Option X) (x : X) → o ≡ Some x → is_some o ≡ true
some_there o x is = ap is_some is

none_first : (o p : Option Object) → first_of o p ≡ None → p ≡ None
none_first None p h = h
none_first (Some v) p h = cc

first_none : (o p : Option Object) → is_some o ≡ true → first_of o p ≡ None → ⊥
first_none None p h k = cc
first_none (Some v) p h k = cc

-- a field that was set
pub set_get : (fs : List Value) (k i : ℕ) (v u : Value) → slice_get (slice_set fs k v) i ≡ Some u → ((i ≡ k) × (u ≡ v)) ⊎ (slice_get fs i ≡ Some u)
set_get [] k i v u h = inr h
set_get (w ∷ ws) zero zero v u h = inl (refl, cc)
set_get (w ∷ ws) zero (suc i) v u h = inr h
set_get (w ∷ ws) (suc k) zero v u h = inr h
set_get (w ∷ ws) (suc k) (suc i) v u h = elim (set_get ws k i v u h) [
  | inl e ↦ inl (ap suc e.0, e.1)
  | inr e ↦ inr e
]

get_put : {X : Type 0} (m : Map oref_cmp X) (x y : Oref) (v : X) (b : Bool) → same_oref y x ≡ b → get (insert m x v) y ≡ cond b (Some v) (get m y)
get_put m x y v b is = get-insert oref_total m x v y ∙ ap (λ c. cond c (Some v) (get m y)) is

module _ (classes : List Class) where
  -- ---- who owns behind a change of one object

  owns_put : (f : Oref → Option Object) (a : Oref) (o : Object) (b z : Oref) (i : ℕ) → OwnsIn classes (put f a o) b i z
      → OwnsIn classes f b i z ⊎ ((b ≡ a) × (d : ℕ) × (is_part classes (type.Class d) ≡ true) × Refers classes o i d z)
  owns_put f a o b z i h = by (same_oref b a) refl h.stands
    where
      by : (c : Bool) → same_oref b a ≡ c → cond c (Some o) (f b) ≡ Some h.object → OwnsIn classes f b i z ⊎ ((b ≡ a) × (d : ℕ) × (is_part classes (type.Class d) ≡ true) × Refers classes o i d z)
      by true e is = let same : h.object ≡ o = cc in inr (one_name b a true e refl, h.class, h.part, subst (λ (p : Object). Refers classes p i h.class z) same h.refers)
      by false e is = inl (record { object = h.object; stands = is; class = h.class; part = h.part; refers = h.refers })

  -- the field k of a class is declared to be of a part class
  abbrev pub IsPartAt : ℕ → ℕ → Type 0
  IsPartAt c k = (d : ℕ) × (type_at classes c k ≡ Some (type.Class d)) × (is_part classes (type.Class d) ≡ true)

  owns_set : (f : Oref → Option Object) (a : Oref) (o : Object) (k : ℕ) (v : Value) → f a ≡ Some o → (b z : Oref) (i : ℕ)
      → OwnsIn classes (put f a (record o { fields = slice_set o.fields k v })) b i z
      → OwnsIn classes f b i z ⊎ ((b ≡ a) × (i ≡ k) × (value.Ref z ≡ v) × IsPartAt o.class k)
  owns_set f a o k v there b z i h = elim (owns_put f a (record o { fields = slice_set o.fields k v }) b z i h) [
    | inl own ↦ inl own
    | inr new ↦ elim (set_get o.fields k i v (value.Ref z) new.3.names) [
      | inl e ↦ inr (new.0, e.0, e.1, (new.1, subst (λ j. type_at classes o.class j ≡ Some (type.Class new.1)) e.0 new.3.declared, new.2))
      | inr e ↦ inl (record { object = o; stands = ap f new.0 ∙ there; class = new.1; part = new.2; refers = record { declared = new.3.declared; names = e } })
    ]
  ]

  owns_made : (f : Oref → Option Object) (z : Oref) (o : Object) → ((i : ℕ) (y : Oref) → slice_get o.fields i ≡ Some (value.Ref y) → ⊥) → (b y : Oref) (i : ℕ)
      → OwnsIn classes (put f z o) b i y → OwnsIn classes f b i y
  owns_made f z o none b y i h = elim (owns_put f z o b y i h) [
    | inl own ↦ own
    | inr new ↦ absurd (none i y new.3.names)
  ]

  module _ (E : Oref → Option Object) where
    -- the objects as they are seen behind some writes
    abbrev pub sees : Writes → Oref → Option Object
    sees writes x = first_of (get writes x) (E x)

    abbrev pub Owner : Writes → Oref → ℕ → Oref → Type 0
    Owner writes a i z = OwnsIn classes (sees writes) a i z

    abbrev pub is_known : Reads → List Oref → Oref → Bool
    is_known reads created x = has reads x || is_among created x

    -- a part that stood there has an owner, who was read
    abbrev pub IsReached : Reads → Oref → Type 0
    IsReached reads x = (o : Object) → E x ≡ Some o → is_part classes (type.Class o.class) ≡ true → (a : Oref) × (i : ℕ) × OwnsIn classes E a i x × (has reads a ≡ true)

    -- what may be read next
    abbrev pub CanReach : Reads → List Oref → Oref → Type 0
    CanReach reads created x = (is_known reads created x ≡ true) ⊎ IsReached reads x

    pub record Tidy (writes : Writes) (created : List Oref) (reads : Reads) (q : Option Receiver) : Type 0 where
      -- what was made wasn't there, and is written
      pub new : (x : Oref) → is_among created x ≡ true → E x ≡ None
      pub made : (x : Oref) → is_among created x ≡ true → is_some (get writes x) ≡ true
      -- what is written was there at first or was made
      pub origin : (x : Oref) → is_some (get writes x) ≡ true → is_among created x ≡ false → is_some (E x) ≡ true
      -- what was there at first is there, with its class
      pub kept : (x : Oref) (o : Object) → E x ≡ Some o → (v : Object) × (sees writes x ≡ Some v) × (v.class ≡ o.class)
      -- who owns what wasn't made owned it at first
      pub old : (a z : Oref) (i : ℕ) → is_among created z ≡ false → Owner writes a i z → OwnsIn classes E a i z
      -- what was made has one owner, near to it and made before it
      pub once : (a b z : Oref) (i j : ℕ) → is_among created z ≡ true → Owner writes a i z → Owner writes b j z → (a ≡ b) × (i ≡ j)
      pub near : (a z : Oref) (i : ℕ) → is_among created z ≡ true → Owner writes a i z → (a.repo ≡ z.repo) ⊎ (z.repo ≡ 255)
      pub rises : (a z : Oref) (i : ℕ) → is_among created z ≡ true → is_among created a ≡ true → Owner writes a i z → age created a < age created z
      pub reached : (x : Oref) → has reads x ≡ true → IsReached reads x
      pub wrote : (x : Oref) → is_some (get writes x) ≡ true → is_known reads created x ≡ true
      pub this : (r : Receiver) → q ≡ Some r → is_known reads created r.oref ≡ true

    -- a new part that nobody owns yet, near to a and made behind it
    pub record IsFresh (writes : Writes) (created : List Oref) (a z : Oref) : Type 0 where
      pub made : is_among created z ≡ true
      pub unowned : (b : Oref) (i : ℕ) → Owner writes b i z → ⊥
      pub near : (a.repo ≡ z.repo) ⊎ (z.repo ≡ 255)
      pub rises : is_among created a ≡ true → age created a < age created z

    -- ---- what was read and made grows

    pub record Grows (created : List Oref) (reads : Reads) (more : List Oref) (further : Reads) : Type 0 where
      pub reads_more : (x : Oref) → has reads x ≡ true → has further x ≡ true
      pub made_more : (x : Oref) → is_among created x ≡ true → is_among more x ≡ true

    pub grows_no : (created : List Oref) (reads : Reads) → Grows created reads created reads
    grows_no created reads = record { reads_more = λ x h. h; made_more = λ x h. h }

    pub grows_then : (c d e : List Oref) (r s t : Reads) → Grows c r d s → Grows d s e t → Grows c r e t
    grows_then c d e r s t g h = record { reads_more = λ x k. h.reads_more x (g.reads_more x k); made_more = λ x k. h.made_more x (g.made_more x k) }

    pub known_more : (c d : List Oref) (r s : Reads) → Grows c r d s → (x : Oref) → is_known r c x ≡ true → is_known s d x ≡ true
    known_more c d r s g x h = elim (or_cases (has r x) (is_among c x) h) [
      | inl k ↦ or_left (has s x) (is_among d x) (g.reads_more x k)
      | inr k ↦ or_right (has s x) (is_among d x) (g.made_more x k)
    ]

    reached_more : (r s : Reads) → ((x : Oref) → has r x ≡ true → has s x ≡ true) → (x : Oref) → IsReached r x → IsReached s x
    reached_more r s more x h o is part = let k = h o is part in (k.0, k.1, k.2, more k.0 k.3)

    pub can_more : (c d : List Oref) (r s : Reads) → Grows c r d s → (x : Oref) → CanReach r c x → CanReach s d x
    can_more c d r s g x (inl h) = inl (known_more c d r s g x h)
    can_more c d r s g x (inr h) = inr (reached_more r s g.reads_more x h)

    module _ (writes : Writes) (created : List Oref) (reads : Reads) (q : Option Receiver) (t : Tidy writes created reads q) where
      -- ---- another receiver

      pub tidy_this : (p : Option Receiver) → ((r : Receiver) → p ≡ Some r → is_known reads created r.oref ≡ true) → Tidy writes created reads p
      tidy_this p h = record { new = t.new; made = t.made; origin = t.origin; kept = t.kept; old = t.old; once = t.once; near = t.near; rises = t.rises; reached = t.reached; wrote = t.wrote; this = h }

      -- ---- an object is read

      abbrev read : Oref → Reads
      read x = insert reads x tt

      read_cases : (x y : Oref) → has (read x) y ≡ true → (y ≡ x) ⊎ (has reads y ≡ true)
      read_cases x y h = by (same_oref y x) refl
        where
          by : (b : Bool) → same_oref y x ≡ b → (y ≡ x) ⊎ (has reads y ≡ true)
          by true e = inl (one_name y x true e refl)
          by false e = inr (ap is_some (sym (get_put reads x y tt false e)) ∙ h)

      read_more : (x y : Oref) → has reads y ≡ true → has (read x) y ≡ true
      read_more x y h = ap is_some (get_put reads x y tt (same_oref y x) refl) ∙ by (same_oref y x)
        where
          by : (b : Bool) → is_some (cond b (Some tt) (get reads y)) ≡ true
          by true = refl
          by false = h

      pub read_itself : (x : Oref) → has (read x) x ≡ true
      read_itself x = ap is_some (get_put reads x x tt true (same_itself x))

      pub grows_read : (x : Oref) → Grows created reads created (read x)
      grows_read x = record { reads_more = read_more x; made_more = λ y h. h }

      pub tidy_read : (x : Oref) → IsReached reads x → Tidy writes created (read x) q
      tidy_read x h = record {
        new = t.new;
        made = t.made;
        origin = t.origin;
        kept = t.kept;
        old = t.old;
        once = t.once;
        near = t.near;
        rises = t.rises;
        reached = λ y k. elim (read_cases x y k) [
          | inl e ↦ reached_more reads (read x) (read_more x) y (subst (IsReached reads) (sym e) h)
          | inr e ↦ reached_more reads (read x) (read_more x) y (t.reached y e)
        ];
        wrote = λ y k. known_more created created reads (read x) (grows_read x) y (t.wrote y k);
        this = λ r e. known_more created created reads (read x) (grows_read x) r.oref (t.this r e);
      }

      -- ---- a field is given a value

      module _ (a : Oref) (o : Object) (k : ℕ) (v : Value) (there : sees writes a ≡ Some o) (known : is_known reads created a ≡ true)
          (fresh : (z : Oref) → value.Ref z ≡ v → IsPartAt o.class k → IsFresh writes created a z) where
        abbrev set : Writes
        set = insert writes a (record o { fields = slice_set o.fields k v })

        owns_then : (b z : Oref) (i : ℕ) → Owner set b i z → Owner writes b i z ⊎ ((b ≡ a) × (i ≡ k) × IsFresh writes created a z)
        owns_then b z i h = elim (owns_set (sees writes) a o k v there b z i (subst (λ f. OwnsIn classes f b i z) (insert_put writes E a (record o { fields = slice_set o.fields k v })) h)) [
          | inl own ↦ inl own
          | inr new ↦ inr (new.0, new.1, fresh z new.2 new.3)
        ]

        pub tidy_set : Tidy set created reads q
        tidy_set = record {
          new = t.new;
          made = λ x h. is_set x (t.made x h);
          origin = λ x h not. origin x h not (same_oref x a) refl;
          kept = λ x p is. let g = t.kept x p is in keeps x p g.0 g.1 g.2 (same_oref x a) refl;
          old = λ b z i not own. elim (owns_then b z i own) [
            | inl h ↦ t.old b z i not h
            | inr h ↦ absurd (both_ways (is_among created z) not h.2.made)
          ];
          once = λ b c z i j is own other. both b c z i j is (owns_then b z i own) (owns_then c z j other);
          near = λ b z i is own. elim (owns_then b z i own) [
            | inl h ↦ t.near b z i is h
            | inr h ↦ subst (λ (y : Oref). (y.repo ≡ z.repo) ⊎ (z.repo ≡ 255)) (sym h.0) h.2.near
          ];
          rises = λ b z i is was own. elim (owns_then b z i own) [
            | inl h ↦ t.rises b z i is was h
            | inr h ↦ subst (λ (y : Oref). age created y < age created z) (sym h.0) (h.2.rises (subst (λ (y : Oref). is_among created y ≡ true) h.0 was))
          ];
          reached = t.reached;
          wrote = λ x h. was_set x h (same_oref x a) refl;
          this = t.this;
        }
          where
            is_set : (x : Oref) → is_some (get writes x) ≡ true → is_some (get set x) ≡ true
            is_set x h = ap is_some (get_put writes a x (record o { fields = slice_set o.fields k v }) (same_oref x a) refl) ∙ by (same_oref x a)
              where
                by : (b : Bool) → is_some (cond b (Some (record o { fields = slice_set o.fields k v })) (get writes x)) ≡ true
                by true = refl
                by false = h

            keeps : (x : Oref) (p u : Object) → sees writes x ≡ Some u → u.class ≡ p.class → (b : Bool) → same_oref x a ≡ b → (g : Object) × (sees set x ≡ Some g) × (g.class ≡ p.class)
            keeps x p u at class true e =
                let is : x ≡ a = one_name x a true e refl in
                let one : o ≡ u = same_some o u (sym there ∙ ap (sees writes) (sym is) ∙ at) in
                (record o { fields = slice_set o.fields k v }, ap (λ g. first_of g (E x)) (get_put writes a x (record o { fields = slice_set o.fields k v }) true e), ap (λ (g : Object). g.class) one ∙ class)
            keeps x p u at class false e = (u, ap (λ g. first_of g (E x)) (get_put writes a x (record o { fields = slice_set o.fields k v }) false e) ∙ at, class)

            seen_first : (g e : Option Object) → first_of g e ≡ Some o → (is_some g ≡ true → is_some e ≡ true) → is_some e ≡ true
            seen_first (Some v) e is more = more refl
            seen_first None e is more = ap is_some is

            origin : (x : Oref) → is_some (get set x) ≡ true → is_among created x ≡ false → (b : Bool) → same_oref x a ≡ b → is_some (E x) ≡ true
            origin x h not true e =
                let is : x ≡ a = one_name x a true e refl in
                seen_first (get writes x) (E x) (ap (sees writes) is ∙ there) (λ k. t.origin x k not)
            origin x h not false e = t.origin x (ap is_some (sym (get_put writes a x (record o { fields = slice_set o.fields k v }) false e)) ∙ h) not

            was_set : (x : Oref) → is_some (get set x) ≡ true → (b : Bool) → same_oref x a ≡ b → is_known reads created x ≡ true
            was_set x h true e = subst (λ (y : Oref). is_known reads created y ≡ true) (sym (one_name x a true e refl)) known
            was_set x h false e = t.wrote x (ap is_some (sym (get_put writes a x (record o { fields = slice_set o.fields k v }) false e)) ∙ h)

            both : (b c z : Oref) (i j : ℕ) → is_among created z ≡ true → Owner writes b i z ⊎ ((b ≡ a) × (i ≡ k) × IsFresh writes created a z) → Owner writes c j z ⊎ ((c ≡ a) × (j ≡ k) × IsFresh writes created a z) → (b ≡ c) × (i ≡ j)
            both b c z i j is (inl h) (inl g) = t.once b c z i j is h g
            both b c z i j is (inl h) (inr g) = absurd (g.2.unowned b i h)
            both b c z i j is (inr h) (inl g) = absurd (h.2.unowned c j g)
            both b c z i j is (inr h) (inr g) = (h.0 ∙ sym g.0, h.1 ∙ sym g.1)

      -- ---- an object is made

      module _ (z : Oref) (o : Object) (none : sees writes z ≡ None) (bare : (i : ℕ) (y : Oref) → slice_get o.fields i ≡ Some (value.Ref y) → ⊥)
          (there : (b y : Oref) (i : ℕ) → Owner writes b i y → is_some (sees writes y) ≡ true) where
        abbrev with : Writes
        with = insert writes z o

        abbrev longer : List Oref
        longer = created ++ z ∷ []

        pub owns_before : (b y : Oref) (i : ℕ) → Owner with b i y → Owner writes b i y
        owns_before b y i h = owns_made (sees writes) z o bare b y i (subst (λ f. OwnsIn classes f b i y) (insert_put writes E z o) h)

        pub unowned : (b : Oref) (i : ℕ) → Owner with b i z → ⊥
        unowned b i h = let s = there b z i (owns_before b z i h) in none_some (sees writes z) s none
          where
            none_some : (p : Option Object) → is_some p ≡ true → p ≡ None → ⊥
            none_some None s n = cc
            none_some (Some v) s n = cc

        not_made : (b : Bool) → is_among created z ≡ b → b ≡ false
        not_made true h = absurd (first_none (get writes z) (E z) (t.made z h) none)
        not_made false h = refl

        pub newest : is_among created z ≡ false
        newest = not_made (is_among created z) refl

        -- an owned one was made before
        was_made : (b y : Oref) (i : ℕ) → is_among longer y ≡ true → Owner with b i y → is_among created y ≡ true
        was_made b y i is own = by (is_among created y) refl
          where
            by : (c : Bool) → is_among created y ≡ c → c ≡ true
            by true e = refl
            by false e = absurd (unowned b i (subst (λ (x : Oref). Owner with b i x) (among-cases created z y false e is refl) own))

        owner_made : (b y : Oref) (i : ℕ) → is_among longer b ≡ true → Owner with b i y → is_among created b ≡ true
        owner_made b y i is own = by (is_among created b) refl
          where
            by : (c : Bool) → is_among created b ≡ c → c ≡ true
            by true e = refl
            by false e = let h = owns_before b y i own in absurd (none-some h.object (sym none ∙ ap (sees writes) (sym (among-cases created z b false e is refl)) ∙ h.stands))

        pub grows_made : Grows created reads longer reads
        grows_made = record { reads_more = λ x h. h; made_more = λ x h. among-more created (z ∷ []) x h }

        pub tidy_made : Tidy with longer reads q
        tidy_made = record {
          new = λ x h. new x h (is_among created x) refl;
          made = λ x h. made x h (is_among created x) refl;
          origin = λ x h not. origin x h not (same_oref x z) refl;
          kept = λ x p is. let g = t.kept x p is in keeps x p g.0 is g.1 g.2 (same_oref x z) refl;
          old = λ b y i not own. t.old b y i (still_not y not (is_among created y) refl) (owns_before b y i own);
          once = λ b c y i j is own other. t.once b c y i j (was_made b y i is own) (owns_before b y i own) (owns_before c y j other);
          near = λ b y i is own. t.near b y i (was_made b y i is own) (owns_before b y i own);
          rises = λ b y i is was own.
              let y_made = was_made b y i is own in
              let b_made = owner_made b y i was own in
              subst (λ n. n < age longer y) (sym (age-more created (z ∷ []) b b_made)) (subst (λ n. age created b < n) (sym (age-more created (z ∷ []) y y_made)) (t.rises b y i y_made b_made (owns_before b y i own)));
          reached = t.reached;
          wrote = λ x h. was_written x h (same_oref x z) refl;
          this = λ r e. known_more created longer reads reads grows_made r.oref (t.this r e);
        }
          where
            new : (x : Oref) → is_among longer x ≡ true → (b : Bool) → is_among created x ≡ b → E x ≡ None
            new x h true e = t.new x e
            new x h false e = ap E (among-cases created z x false e h refl) ∙ none_first (get writes z) (E z) none

            is_set : (x : Oref) (b : Bool) → is_some (get writes x) ≡ true → is_some (cond b (Some o) (get writes x)) ≡ true
            is_set x true h = refl
            is_set x false h = h

            made : (x : Oref) → is_among longer x ≡ true → (b : Bool) → is_among created x ≡ b → is_some (get with x) ≡ true
            made x h true e = ap is_some (get_put writes z x o (same_oref x z) refl) ∙ is_set x (same_oref x z) (t.made x e)
            made x h false e =
                let is : x ≡ z = among-cases created z x false e h refl in
                ap is_some (get_put writes z x o true (ap (λ y. same_oref y z) is ∙ same_itself z))

            keeps : (x : Oref) (p u : Object) → E x ≡ Some p → sees writes x ≡ Some u → u.class ≡ p.class → (b : Bool) → same_oref x z ≡ b → (g : Object) × (sees with x ≡ Some g) × (g.class ≡ p.class)
            keeps x p u was at class true e = absurd (none-some u (sym none ∙ ap (sees writes) (sym (one_name x z true e refl)) ∙ at))
            keeps x p u was at class false e = (u, ap (λ g. first_of g (E x)) (get_put writes z x o false e) ∙ at, class)

            still_not : (y : Oref) → is_among longer y ≡ false → (b : Bool) → is_among created y ≡ b → b ≡ false
            still_not y not true e = absurd (both_ways (is_among longer y) not (among-more created (z ∷ []) y e))
            still_not y not false e = refl

            origin : (x : Oref) → is_some (get with x) ≡ true → is_among longer x ≡ false → (b : Bool) → same_oref x z ≡ b → is_some (E x) ≡ true
            origin x h not true e = absurd (both_ways (is_among longer x) not (subst (λ (y : Oref). is_among longer y ≡ true) (sym (one_name x z true e refl)) (among-new created z)))
            origin x h not false e = t.origin x (ap is_some (sym (get_put writes z x o false e)) ∙ h) (still_not x not (is_among created x) refl)

            was_written : (x : Oref) → is_some (get with x) ≡ true → (b : Bool) → same_oref x z ≡ b → is_known reads longer x ≡ true
            was_written x h true e = or_right (has reads x) (is_among longer x) (subst (λ (y : Oref). is_among longer y ≡ true) (sym (one_name x z true e refl)) (among-new created z))
            was_written x h false e = known_more created longer reads reads grows_made x (t.wrote x (ap is_some (sym (get_put writes z x o false e)) ∙ h))
