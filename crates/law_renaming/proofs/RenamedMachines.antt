-- Two states of runs whose new objects take other names; actions that keep them alike; and one action and then another.
use Rattle.std.proofs.Common.{◌≡◌, Bool, true, false, cond, T, List, ◌++◌, Option, Some, None, Result, Ok, Err, refl, ap, ℕ, inl, length}
use Rattle.std.proofs.Math.Path.{fun_ext}
use Rattle.std.specs.List.{AllByRecursion, AllZip, IsDistinct}
use Rattle.std.specs.Prelude.{All, IfSome, find, is_some, nat_lt, option_map, unwrap_or, ◌+◌, ◌==◌}
use Rattle.std.specs.Str.{bytes_eq}
use Rattle.thor_value.specs.FiniteMap.{Map, get, has, values}
use Rattle.thor_value.specs.Names.{oref_cmp, same_oref}
use Rattle.thor_value.specs.declared.names.Oref.{Oref}
use Rattle.thor_value.specs.declared.values.Fault.{Fault}
use Rattle.thor_value.specs.declared.values.Fault.TheVariants as fault
use Rattle.thor_value.specs.declared.values.Value.{Value}
use Rattle.thor_value.specs.declared.values.Value.TheVariants as value
use Rattle.law_renaming.proofs.Renamed.{Both, Locals, Names, Objects, Receivers, Time, Later, Values, each_found, found_all}
use Rattle.law_renaming.proofs.RenamedSupply.{Left, Stock}
use Rattle.class_defs.specs.Objects.{first_of, local_named, named_value, root_named, roots_in_sight, scope_at, type_in_sight}
use Rattle.law_renaming.specs.Renaming.{Paired, SameStop, Unused}
use Rattle.class_defs.specs.Steps.{World, Action, after, step, ◌>>=◌}
use Rattle.class_defs.specs.declared.limits.TheConstants.{STEP_LIMIT}
use Rattle.class_defs.specs.declared.machine.Local.{Local}
use Rattle.class_defs.specs.declared.machine.Machine.{Machine}
use Rattle.class_defs.specs.declared.machine.NameSupply.{NameSupply}
use Rattle.class_defs.specs.declared.machine.Receiver.{Receiver}
use Rattle.class_defs.specs.declared.machine.Stop.{Stop}
use Rattle.class_defs.specs.declared.machine.Stop.TheVariants as stop
use Rattle.class_defs.specs.declared.store.Object.{Object}
use Rattle.class_defs.specs.declared.store.RootDeclaration.{RootDeclaration}

-- what two runs have in common, and how each began: its waiting names, and whether its names never end
pub record Setting : Type 0 where
  pub world : World
  pub fresh : Oref → Bool
  pub unused : Unused fresh world
  pub begun : List Oref
  pub other_begun : List Oref
  pub endless : Bool
  pub other_endless : Bool
  pub stand_in : Option ℕ
  pub repo : ℕ

module _ (s : Setting) where
  -- an object as it is written, else as it is at hand
  abbrev pub seen_by : Map oref_cmp Object → Oref → Option Object
  seen_by writes x = first_of (get writes x) (s.world.at_hand x)

  -- where the other has the names that the one took, it takes the same
  abbrev pub Exact : Time → NameSupply → NameSupply → Type 0
  Exact t names others = names.stand_in ≡ None → (rest : List Oref) → s.other_begun ≡ t.0 ++ rest → (t.1 ≡ t.0) × (others.waiting ≡ rest)

  -- where all names lie in one repository, they are taken in their order
  abbrev pub InOrder : Time → NameSupply → Type 0
  InOrder t names = names.stand_in ≡ None → AllByRecursion (λ (x : Oref). x.repo ≡ s.repo) s.begun → t.0 ++ names.waiting ≡ s.begun

  -- the object is the same as another but for names, so it refers to old names and to created ones alone
  abbrev pub Known : Time → Object → Type 0
  Known t o = (p : Object) × Objects s.fresh t (Some o) (Some p)

  -- the names that were taken are fresh, each was taken once, and without stand-in names none is one
  pub record Taken (taken : List Oref) (names : NameSupply) : Type 0 where
    pub new : AllByRecursion (λ x. s.fresh x ≡ true) taken
    pub once : IsDistinct same_oref taken
    pub placed : names.stand_in ≡ None → AllByRecursion (λ (x : Oref). (x.repo == 255) ≡ false) taken

  -- what was created in the one run and in the other, what was written, and the names that are left
  pub record Made (t : Time) (writes others : Map oref_cmp Object) (names left : NameSupply) : Type 0 where
    pub created : AllZip (Names s.fresh t) t.0 t.1
    pub one_one : (x y a b : Oref) → Names s.fresh t x y → Names s.fresh t a b → same_oref x a ≡ same_oref y b
    pub written : (x y : Oref) → Names s.fresh t x y → Objects s.fresh t (get writes x) (get others y)
    pub seen : (x y : Oref) → Names s.fresh t x y → Objects s.fresh t (seen_by writes x) (seen_by others y)
    pub there : (x y : Oref) → Paired t.0 t.1 x y → is_some (seen_by writes x) ≡ true
    pub kept : All (Known t) (values writes)
    pub only : (x : Oref) → has writes x ≡ true → (y : Oref) × Names s.fresh t x y
    pub stock : Stock s.endless (length t.0) names
    pub other_stock : Stock s.other_endless (length t.1) left
    pub apart : (x y : Oref) → Names s.fresh t x y → ¬ (Left names x)
    pub other_apart : (x y : Oref) → Names s.fresh t x y → ¬ (Left left y)
    pub left_new : (x : Oref) → Left names x → s.fresh x ≡ true
    pub taken : Taken t.0 names
    pub still : (x : Oref) → Left names x → Left (record { waiting = s.begun; stand_in = s.stand_in }) x
    pub without : s.stand_in ≡ None → names.stand_in ≡ None
    pub exact : Exact t names left
    pub in_order : InOrder t names

  abbrev pub now : Machine → Machine → Time
  now m n = (m.created, n.created)

  -- the states are the same but for names
  pub record Twins (m n : Machine) : Type 0 where
    pub steps : n.steps ≡ m.steps
    pub depth : n.depth ≡ m.depth
    pub printed : n.printed ≡ m.printed
    pub reads : n.reads ≡ m.reads
    pub this : Both (Receivers s.fresh (now m n)) m.this n.this
    pub locals : AllZip (Locals s.fresh (now m n)) m.locals n.locals
    pub made : Made (now m n) m.writes n.writes m.names n.names

  -- ---- actions

  abbrev pub HasNamesAt : Bool → Stop → Type 0
  HasNamesAt e (stop.Fault f) = Unit {0}
  HasNamesAt e (stop.Need x owners) = Unit {0}
  HasNamesAt e (stop.NeedName repo) = T e

  -- the action didn't stop for want of a name, or its names never end
  abbrev pub HasNames : {A : Type 0} → Bool → Result A Stop → Type 0
  HasNames e (Ok a) = Unit {0}
  HasNames e (Err t) = HasNamesAt e t

  abbrev pub Same : {A : Type 0} → (A → A → Type 0) → Time → Result A Stop → Result A Stop → Type 0
  Same V t (Ok a) (Ok b) = V a b
  Same V t (Err p) (Err q) = SameStop s.fresh t.0 t.1 p q
  Same V t (Ok a) (Err q) = ⊥
  Same V t (Err p) (Ok b) = ⊥

  module _ {A : Type 0} (V : Time → A → A → Type 0) where
    pub record Ends (before : Time) (r q : Result A Stop) (m n : Machine) : Type 0 where
      pub later : Later s.fresh before (now m n)
      pub twins : Twins m n
      pub same : Same (V (now m n)) (now m n) r q

    -- how the two went on from a time
    abbrev pub Went : Time → Result A Stop × Machine → Result A Stop × Machine → Type 0
    Went before p q = HasNames s.endless p.0 → HasNames s.other_endless q.0 → Ends before p.0 q.0 p.1 q.1

    -- from that time on the two actions go the same way
    abbrev pub Alike : Time → Action A → Action A → Type 0
    Alike t p q = (m n : Machine) → Later s.fresh t (now m n) → Twins m n → Went (now m n) (p m) (q n)

  abbrev pub Nothing : Time → Unit {0} → Unit {0} → Type 0
  Nothing t a b = Unit {0}

  module _ {A B : Type 0} (V : Time → A → A → Type 0) (U : Time → B → B → Type 0) where
    pub on : (before : Time) (r q : Result A Stop) (m n : Machine) (k l : A → Action B) → Went V before (r, m) (q, n)
        → ((a b : A) → V (now m n) a b → Later s.fresh before (now m n) → Twins m n → Went U (now m n) (k a m) (l b n))
        → Went U before (after r m k) (after q n l)
    on before (Ok a) (Ok b) m n k l h next = λ g f.
        let e = h tt tt in
        let i = next a b e.same e.later e.twins g f in
        record { later = λ x y p. i.later x y (e.later x y p); twins = i.twins; same = i.same }
    on before (Err p) (Err q) m n k l h next = λ g f. let e = h g f in record { later = e.later; twins = e.twins; same = e.same }
    on before (Ok a) (Err q) m n k l h next = λ g f. absurd (h tt f).same
    on before (Err p) (Ok b) m n k l h next = λ g f. absurd (h g tt).same

    pub bind : (t : Time) (p q : Action A) (k l : A → Action B) → Alike V t p q
        → ((u : Time) → Later s.fresh t u → (a b : A) → V u a b → Alike U u (k a) (l b)) → Alike U t (p >>= k) (q >>= l)
    bind t p q k l h next m n lt tw =
        on (now m n) (p m).0 (q n).0 (p m).1 (q n).1 k l (h m n lt tw)
        (λ a b v later twins. next (now (p m).1 (q n).1) (λ x y i. later x y (lt x y i)) a b v (p m).1 (q n).1 (λ x y i. i) twins)

  module _ {A : Type 0} (V : Time → A → A → Type 0) where
    -- values that are the same but for names, with no new object
    pub gives : (m n o p : Machine) (a b : A) → Later s.fresh (now m n) (now o p) → Twins o p → V (now o p) a b → Went V (now m n) (Ok a, o) (Ok b, p)
    gives m n o p a b later tw v g f = record { later = later; twins = tw; same = v }

    pub fails : (t : Time) (p q : Stop) (m n : Machine) → Twins m n
        → (HasNamesAt s.endless p → HasNamesAt s.other_endless q → SameStop s.fresh m.created n.created p q)
        → Went V (now m n) (Err p, m) (Err q, n)
    fails t p q m n tw h g f = record { later = λ x y i. i; twins = tw; same = h g f }

    pub settled : (t : Time) (a b : A) → ((u : Time) → Later s.fresh t u → V u a b) → Alike V t (λ m. (Ok a, m)) (λ n. (Ok b, n))
    settled t a b h m n lt tw = gives m n m n a b (λ x y i. i) tw (h (now m n) lt)

    pub failing : (t : Time) (f : Fault) → Alike V t (λ m. (Err (stop.Fault f), m)) (λ n. (Err (stop.Fault f), n))
    failing t f m n lt tw = fails t (stop.Fault f) (stop.Fault f) m n tw (λ g h. refl)

    -- values that the states give
    pub tells : (t : Time) (h : Machine → A) → ((m n : Machine) → Twins m n → V (now m n) (h m) (h n))
        → Alike V t (λ m. (Ok (h m), m)) (λ n. (Ok (h n), n))
    tells t h e m n lt tw = gives m n m n (h m) (h n) (λ x y i. i) tw (e m n tw)

  -- ---- a step

  abbrev stepped : Bool → Machine → Result (Unit {0}) Stop × Machine
  stepped b m = cond b (Ok tt, record m { steps = m.steps + 1 }) (Err (stop.Fault fault.Steps), m)

  step_at : (b c : Bool) (m n : Machine) → c ≡ b → Twins m n → Went Nothing (now m n) (stepped b m) (stepped c n)
  step_at true true m n e tw = gives Nothing m n _ _ tt tt (λ x y i. i) (record {
    steps = ap (λ k. k + 1) tw.steps;
    depth = tw.depth;
    printed = tw.printed;
    reads = tw.reads;
    this = tw.this;
    locals = tw.locals;
    made = tw.made;
  }) tt
  step_at false false m n e tw = fails Nothing (now m n) _ _ m n tw (λ g h. refl)
  step_at true false m n e tw = cc
  step_at false true m n e tw = cc

  pub steps : (t : Time) → Alike Nothing t step step
  unfolding step
  steps t m n lt tw = step_at (nat_lt m.steps STEP_LIMIT) (nat_lt n.steps STEP_LIMIT) m n (ap (λ k. nat_lt k STEP_LIMIT) tw.steps) tw

  -- ---- what can be named

  locals_found : (t : Time) (name : List ℕ) (ls ks : List Local) → AllZip (Locals s.fresh t) ls ks
      → Both (Locals s.fresh t) (find (λ l. bytes_eq l.name name) ls) (find (λ l. bytes_eq l.name name) ks)
  locals_found t name ls ks h = each_found (Locals s.fresh t) _ _ (λ l k r. rw r.name refl) ls ks h

  kinds : (t : Time) (o p : Option Local) → Both (Locals s.fresh t) o p → option_map (λ (l : Local). l.kind) p ≡ option_map (λ (l : Local). l.kind) o
  kinds t (Some l) (Some k) h = ap Some h.kind
  kinds t None None h = refl
  kinds t (Some l) None h = absurd h
  kinds t None (Some k) h = absurd h

  same_sight : (t : Time) (o p : Option Receiver) → Both (Receivers s.fresh t) o p → roots_in_sight s.world.schema p ≡ roots_in_sight s.world.schema o
  same_sight t (Some r) (Some q) h = refl
  same_sight t None None h = refl
  same_sight t (Some r) None h = absurd h
  same_sight t None (Some q) h = absurd h

  classes_of_this : (t : Time) (o p : Option Receiver) → Both (Receivers s.fresh t) o p
      → option_map (λ (r : Receiver). r.class) p ≡ option_map (λ (r : Receiver). r.class) o
  classes_of_this t (Some r) (Some q) h = ap Some h.class
  classes_of_this t None None h = refl
  classes_of_this t (Some r) None h = absurd h
  classes_of_this t None (Some q) h = absurd h

  same_type_in_sight : (m n : Machine) → Twins m n → (name : List ℕ) → type_in_sight s.world.schema n name ≡ type_in_sight s.world.schema m name
  same_type_in_sight m n tw name =
      rw (kinds (now m n) _ _ (locals_found (now m n) name m.locals n.locals tw.locals), same_sight (now m n) m.this n.this tw.this) refl

  pub same_scope : (m n : Machine) → Twins m n → scope_at s.world.schema n ≡ scope_at s.world.schema m
  unfolding scope_at
  same_scope m n tw = rw (classes_of_this (now m n) m.this n.this tw.this, fun_ext (same_type_in_sight m n tw)) refl

  -- the value of a root is an old name
  root_value : (t : Time) (o : Option RootDeclaration) → IfSome o (λ (r : RootDeclaration). s.fresh r.oref ≡ false)
      → Values s.fresh t (unwrap_or (option_map (λ (r : RootDeclaration). value.Ref r.oref) o) value.Null)
      (unwrap_or (option_map (λ (r : RootDeclaration). value.Ref r.oref) o) value.Null)
  root_value t None h = tt
  root_value t (Some r) h = inl (h, refl)

  local_or_root : (t : Time) (o p : Option Local) (r q : Option Value) → Both (Locals s.fresh t) o p
      → Values s.fresh t (unwrap_or r value.Null) (unwrap_or q value.Null)
      → Values s.fresh t (unwrap_or (first_of (option_map (λ (l : Local). l.value) o) r) value.Null)
      (unwrap_or (first_of (option_map (λ (l : Local). l.value) p) q) value.Null)
  local_or_root t (Some l) (Some k) r q h e = h.value
  local_or_root t None None r q h e = e
  local_or_root t (Some l) None r q h e = absurd h
  local_or_root t None (Some k) r q h e = absurd h

  sight_old : (o : Option Receiver) → AllByRecursion (λ (r : RootDeclaration). s.fresh r.oref ≡ false) (roots_in_sight s.world.schema o)
  sight_old None = s.unused.roots
  sight_old (Some r) = tt

  pub same_named : (m n : Machine) → Twins m n → (name : List ℕ)
      → Values s.fresh (now m n) (named_value s.world.schema m name) (named_value s.world.schema n name)
  unfolding named_value
  same_named m n tw name =
      let same : root_named s.world.schema n name ≡ root_named s.world.schema m name =
      ap (find (λ (r : RootDeclaration). bytes_eq r.name.text name)) (same_sight (now m n) m.this n.this tw.this) in
      local_or_root (now m n) (local_named m name) (local_named n name) _ _ (locals_found (now m n) name m.locals n.locals tw.locals)
      (rw same (root_value (now m n) (root_named s.world.schema m name) (found_all _ _ (roots_in_sight s.world.schema m.this) (sight_old m.this))))
