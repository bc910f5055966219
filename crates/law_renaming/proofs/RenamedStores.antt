-- That whether a run is defined doesn't hang on the names of its new objects, and that names which a run took at
-- hand are names for which it is defined.
use Rattle.std.proofs.Common.{◌≡◌, Bool, true, false, cond, List, [], ◌∷◌, ◌++◌, Option, Some, None, Result, Ok, Err, refl, inl, inr, ap, sym, ◌∙◌, subst, ℕ, length, append-nil, arith, IsSomeAnd}
use Rattle.std.proofs.lemmas.Bool.Decides.{nat_tests}
use Rattle.std.proofs.lemmas.Map.Views.{tells_apart}
use Rattle.std.proofs.lemmas.Option.{same_Some}
use Rattle.std.proofs.lemmas.Bool.{and_from, and_parts}
use Rattle.std.specs.Cmp.Lexicographic.{pointwise}
use Rattle.std.specs.List.{AllZip, AllByRecursion, IsDistinct, list_any}
use Rattle.std.specs.Prelude.{◌&&◌, ◌==◌, not}
use Rattle.thor_value.proofs.NameOrders.{oref_exact}
use Rattle.thor_value.specs.FiniteMap.{keys}
use Rattle.thor_value.specs.Names.{same_oref}
use Rattle.thor_value.specs.declared.names.Oref.{Oref}
use Rattle.thor_value.specs.declared.values.Answer.TheVariants as answer
use Rattle.thor_value.specs.declared.values.Fault.{Fault}
use Rattle.class_defs.proofs.SameNames.{same_itself}
use Rattle.law_renaming.proofs.Renamed.{Time}
use Rattle.law_renaming.proofs.RenamedCalls.{Flows}
use Rattle.law_renaming.proofs.RenamedEnds.{setting, ends, had, endless_had, runs_same, stand_ins_enough}
use Rattle.law_renaming.proofs.RenamedMachines.{Setting, Ends, Same}
use Rattle.law_renaming.proofs.RenamedSupply.{In, Left}
use Rattle.law_renaming.specs.Renaming.{HadNames, SameEnd, SameRan, SameRun, Takeable, Unused, kept_names}
use Rattle.class_defs.specs.Run.{Ran, begun, changed, execute_all, ran_by, ran_into, ran_through, run, takes, world_of}
use Rattle.class_defs.specs.Steps.{World}
use Rattle.class_defs.specs.Touched.{HadObjects}
use Rattle.class_defs.specs.declared.machine.Flow.{Flow}
use Rattle.class_defs.specs.declared.machine.Machine.{Machine}
use Rattle.class_defs.specs.declared.machine.NameSupply.{NameSupply}
use Rattle.class_defs.specs.declared.machine.Stop.{Stop}
use Rattle.class_defs.specs.declared.machine.Stop.TheVariants as stop
use Rattle.class_defs.specs.declared.statements.Stmt.{Stmt}
use Rattle.class_defs.specs.declared.store.Plain.{Plain}
use Rattle.class_defs.specs.declared.store.Schema.{Schema}

-- ---- names taken and names given

pointwise_itself : (xs : List Oref) → pointwise same_oref xs xs ≡ true
pointwise_itself [] = refl
pointwise_itself (x ∷ xs) = and_from (same_oref x x) (pointwise same_oref xs xs) (same_itself x) (pointwise_itself xs)

none_stands_in : (xs : List Oref) → AllByRecursion (λ (x : Oref). (x.repo == 255) ≡ false) xs → list_any (λ (x : Oref). x.repo == 255) xs ≡ false
none_stands_in [] h = refl
none_stands_in (x ∷ xs) h = rw h.0 (none_stands_in xs h.1)

takes_itself : (xs : List Oref) → AllByRecursion (λ (x : Oref). (x.repo == 255) ≡ false) xs → takes xs xs ≡ true
takes_itself xs h = and_from _ _ (pointwise_itself xs) (ap not (none_stands_in xs h))

same_lists : (xs ys : List Oref) → pointwise same_oref xs ys ≡ true → xs ≡ ys
same_lists [] [] e = refl
same_lists [] (y ∷ ys) e = cc
same_lists (x ∷ xs) [] e = cc
same_lists (x ∷ xs) (y ∷ ys) e =
    let f : x ≡ y = tells_apart oref_exact x y ((and_parts (same_oref x y) (pointwise same_oref xs ys) e).0) in
    let g : xs ≡ ys = same_lists xs ys ((and_parts (same_oref x y) (pointwise same_oref xs ys) e).1) in rw (f, g) refl

taken_all : (created names : List Oref) → takes created names ≡ true → created ≡ names
taken_all created names e = same_lists created names ((and_parts (pointwise same_oref created names) _ e).0)

no_names : (names : List Oref) → (length names == 0) ≡ true → names ≡ []
no_names [] h = refl
no_names (x ∷ xs) h = grind (arith, nat_tests)

some_by : (P : Ran → Type 0) (b : Bool) (whole : Ran) → b ≡ true → P whole → IsSomeAnd (cond b (Some whole) None) P
some_by P b whole e p = rw e p

-- what a run that is defined says of how it ended
picked : (b : Bool) (whole r : Ran) → cond b (Some whole) None ≡ Some r → (b ≡ true) × (whole ≡ r)
picked true whole r h = (refl, same_Some whole r h)
picked false whole r h = cc

pub record Through (store : Plain) (names : List Oref) (m : Machine) (r : Ran) : Type 0 where
  pub created : m.created ≡ names
  pub whole : record { answer = answer.Ints m.printed; touched = keys m.reads; written = m.writes.pairs; store = changed store m.writes.pairs } ≡ r

pub record Into (store : Plain) (names : List Oref) (f : Fault) (m : Machine) (r : Ran) : Type 0 where
  pub empty : names ≡ []
  pub whole : record { answer = answer.Fault f; touched = keys m.reads; written = []; store = store } ≡ r

pub through : (store : Plain) (names : List Oref) (m : Machine) (r : Ran) → ran_through store names m ≡ Some r → Through store names m r
through store names m r is = let p = picked (takes m.created names) _ r is in record { created = taken_all m.created names p.0; whole = p.1 }

pub into : (store : Plain) (names : List Oref) (f : Fault) (m : Machine) (r : Ran) → ran_into store names f m ≡ Some r → Into store names f m r
into store names f m r is = let p = picked (length names == 0) _ r is in record { empty = no_names names p.0; whole = p.1 }

defined_had : (store : Plain) (names : List Oref) (o : Result Flow Stop) (m : Machine) (r : Ran) → ran_by store names o m ≡ Some r → HadNames o
defined_had store names (Ok flow) m r is = tt
defined_had store names (Err (stop.Fault f)) m r is = tt
defined_had store names (Err (stop.Need x owners)) m r is = cc
defined_had store names (Err (stop.NeedName repo)) m r is = cc

module _ (schema : Schema) (tx : List Stmt) (store : Plain) (fresh : Oref → Bool) (unused : Unused fresh (world_of schema store)) where
  abbrev w : World
  w = world_of schema store

  -- ---- two runs that are defined

  through_same : (names others : List Oref) (m n : Machine) (flow other : Flow) (r q : Ran) → SameRun fresh (Ok flow) (Ok other) m n
      → Through store names m r → Through store others n q
      → SameRan fresh names others r q
  through_same names others m n flow other r q same t u =
      let whole : SameRan fresh m.created n.created (record {
        answer = answer.Ints m.printed;
        touched = keys m.reads;
        written = m.writes.pairs;
        store = changed store m.writes.pairs;
      })
      (record { answer = answer.Ints n.printed; touched = keys n.reads; written = n.writes.pairs; store = changed store n.writes.pairs }) =
      record {
        answer = ap answer.Ints same.printed;
        touched = ap keys same.reads;
        as_many = same.created;
        written = same.writes;
      } in
      rw (sym t.created, sym u.created, sym t.whole, sym u.whole) whole

  into_same : (names others : List Oref) (m n : Machine) (f g : Fault) (r q : Ran) → SameRun fresh (Err (stop.Fault f)) (Err (stop.Fault g)) m n
      → Into store names f m r → Into store others g n q
      → SameRan fresh names others r q
  into_same names others m n f g r q same t u =
      let whole : SameRan fresh [] [] (record { answer = answer.Fault f; touched = keys m.reads; written = []; store = store })
      (record { answer = answer.Fault g; touched = keys n.reads; written = []; store = store }) = record {
        answer = ap answer.Fault (sym same.ended);
        touched = ap keys same.reads;
        as_many = refl;
        written = λ x y i. tt;
      } in
      rw (t.empty, u.empty, sym t.whole, sym u.whole) whole

  ran_same : (names others : List Oref) (o p : Result Flow Stop) (m n : Machine) (r q : Ran) → SameRun fresh o p m n → ran_by store names o m ≡ Some r
      → ran_by store others p n ≡ Some q
      → SameRan fresh names others r q
  ran_same names others (Ok flow) (Ok other) m n r q same is other_is =
      through_same names others m n flow other r q same (through store names m r is) (through store others n q other_is)
  ran_same names others (Err (stop.Fault f)) (Err (stop.Fault g)) m n r q same is other_is =
      into_same names others m n f g r q same (into store names f m r is) (into store others g n q other_is)
  ran_same names others (Ok flow) (Err p) m n r q same is other_is = absurd same.ended
  ran_same names others (Err o) (Ok other) m n r q same is other_is = absurd same.ended
  ran_same names others (Err (stop.Need x owners)) (Err p) m n r q same is other_is = cc
  ran_same names others (Err (stop.NeedName repo)) (Err p) m n r q same is other_is = cc
  ran_same names others (Err (stop.Fault f)) (Err (stop.Need x owners)) m n r q same is other_is = cc
  ran_same names others (Err (stop.Fault f)) (Err (stop.NeedName repo)) m n r q same is other_is = cc

  pub defined_same : (names others : List Oref) (r q : Ran) → Takeable fresh names → Takeable fresh others → run schema tx store names ≡ Some r
      → run schema tx store others ≡ Some q
      → SameRan fresh names others r q
  unfolding run
  defined_same names others r q t u is other_is =
      let p = execute_all w tx (begun names (Some 0)) in
      let o = execute_all w tx (begun others (Some 0)) in
      ran_same names others p.0 o.0 p.1 o.1 r q
      (runs_same w fresh unused tx names (Some 0) others (Some 0) p.0 o.0 p.1 o.1 t u refl refl (defined_had store names p.0 p.1 r is)
      (defined_had store others o.0 o.1 q other_is))
      is other_is

  -- ---- names at hand

  -- a run without stand-in names beside itself
  module _ (at_hand : List Oref) (takeable : Takeable fresh at_hand) (o : Result Flow Stop) (m : Machine)
      (is : execute_all w tx (begun at_hand None) ≡ (o, m)) (named : HadNames o) where
    abbrev ended : Result Flow Stop × Machine
    ended = execute_all w tx (begun at_hand None)

    abbrev alone : ℕ → Setting
    alone repo = setting w fresh unused at_hand None at_hand None false false repo

    had_names : HadNames ended.0
    had_names = rw is named

    itself : (repo : ℕ) → Ends (alone repo) (Flows (alone repo)) ([], []) ended.0 ended.0 ended.1 ended.1
    itself repo = ends w fresh unused at_hand None at_hand None takeable takeable false false tt tt repo tx (had (alone repo) false ended.0 had_names)
        (had (alone repo) false ended.0 had_names)

    pub taken_in_order : (repo : ℕ) → AllByRecursion (λ (x : Oref). x.repo ≡ repo) at_hand → m.created ++ m.names.waiting ≡ at_hand
    taken_in_order repo all =
        let made = (itself repo).twins.made in
        subst (λ (z : Result Flow Stop × Machine). z.1.created ++ z.1.names.waiting ≡ at_hand) is (made.in_order (made.without refl) all)

    pub created_takeable : Takeable fresh m.created
    created_takeable =
        let made = (itself 0).twins.made in
        subst (λ (z : Result Flow Stop × Machine). Takeable fresh z.1.created) is
        (record { new = made.taken.new; placed = made.taken.placed (made.without refl); once = made.taken.once })

    -- what is left of the names: each was at hand, is left once, and wasn't taken
    pub record Leaves : Type 0 where
      pub placed : AllByRecursion (λ (x : Oref). (x.repo == 255) ≡ false) m.names.waiting
      pub once : IsDistinct same_oref m.names.waiting
      pub still : (x : Oref) → In m.names.waiting x → In at_hand x
      pub untaken : (x : Oref) → In m.created x → ¬ (In m.names.waiting x)

    in_list : (x : Oref) → Left (record { waiting = at_hand; stand_in = None }) x → In at_hand x
    in_list x (inl i) = i
    in_list x (inr h) = absurd h

    partner : (R : Oref → Oref → Type 0) (xs ys : List Oref) (x : Oref) → AllZip R xs ys → In xs x → (y : Oref) × R x y
    partner R [] ys x h i = absurd i
    partner R (a ∷ xs) [] x h i = absurd h
    partner R (a ∷ xs) (b ∷ ys) x h (inl e) = (b, subst (λ z. R z b) (sym e) h.0)
    partner R (a ∷ xs) (b ∷ ys) x h (inr i) = partner R xs ys x h.1 i

    pub leaves : Leaves
    leaves =
        let made = (itself 0).twins.made in
        let names : ended.1.names ≡ m.names = ap (λ (z : Result Flow Stop × Machine). z.1.names) is in
        let created : ended.1.created ≡ m.created = ap (λ (z : Result Flow Stop × Machine). z.1.created) is in
        record {
          placed = subst (λ (n : NameSupply). AllByRecursion (λ (x : Oref). (x.repo == 255) ≡ false) n.waiting) names made.stock.placed;
          once = subst (λ (n : NameSupply). IsDistinct same_oref n.waiting) names made.stock.once;
          still = λ x i. in_list x (made.still x (inl (subst (λ (n : NameSupply). In n.waiting x) (sym names) i)));
          untaken = λ x i j.
              let y = partner _ ended.1.created ended.1.created x made.created (subst (λ xs. In xs x) (sym created) i) in
              made.apart x y.0 y.1 (inl (subst (λ (n : NameSupply). In n.waiting x) (sym names) j));
        }

    -- the same once more, with just the names that were created
    abbrev again : Result Flow Stop × Machine
    again = execute_all w tx (begun m.created (Some 0))

    abbrev twice : Setting
    twice = setting w fresh unused at_hand None m.created (Some 0) false true 0

    both_ran : Ends twice (Flows twice) ([], []) ended.0 again.0 ended.1 again.1
    both_ran =
        ends w fresh unused at_hand None m.created (Some 0) takeable created_takeable false true tt (omega arith) 0 tx
        (had twice false ended.0 had_names) (endless_had twice again.0)

    same_created : again.1.created ≡ m.created
    same_created =
        let made = both_ran.twins.made in
        let created : ended.1.created ≡ m.created = ap (λ (z : Result Flow Stop × Machine). z.1.created) is in
        let all : m.created ≡ ended.1.created ++ [] = sym (append-nil ended.1.created ∙ created) in
        (made.exact (made.without refl) [] all).0 ∙ created

    same_printed : again.1.printed ≡ m.printed
    same_printed = both_ran.twins.printed ∙ ap (λ (z : Result Flow Stop × Machine). z.1.printed) is

    same_reads : again.1.reads ≡ m.reads
    same_reads = both_ran.twins.reads ∙ ap (λ (z : Result Flow Stop × Machine). z.1.reads) is

    abbrev Answers : Ran → Type 0
    Answers r = (r.answer ≡ answer.Ints m.printed) × (r.touched ≡ keys m.reads)

    defined_by : (flow : Flow) → o ≡ Ok flow → (q : Result Flow Stop) → again.0 ≡ q
        → IsSomeAnd (ran_by store m.created q again.1) Answers
    defined_by flow ok (Ok g) e =
        some_by Answers (takes again.1.created m.created) _ (rw same_created (takes_itself m.created created_takeable.placed))
        (ap answer.Ints same_printed, ap keys same_reads)
    defined_by flow ok (Err p) e =
        let first : ended.0 ≡ Ok flow = ap (λ (z : Result Flow Stop × Machine). z.0) is ∙ ok in
        let t : Time = (ended.1.created, again.1.created) in
        absurd (subst (λ r. Same twice (Flows twice t) t (Ok flow) r) e (subst (λ r. Same twice (Flows twice t) t r again.0) first both_ran.same))

    pub defined_again : (flow : Flow) → o ≡ Ok flow → IsSomeAnd (run schema tx store m.created) Answers
    unfolding run
    defined_again flow ok = defined_by flow ok again.0 refl

  -- ---- names at hand where the run isn't defined without names, or is for others

  pub no_names_takeable : Takeable fresh []
  unfolding IsDistinct
  no_names_takeable = record { new = tt; placed = tt; once = tt }

  abbrev without : Result Flow Stop × Machine
  without = execute_all w tx (begun [] (Some 0))

  with_names_same : (at_hand : List Oref) → Takeable fresh at_hand → (o : Result Flow Stop) (m : Machine)
      → execute_all w tx (begun at_hand None) ≡ (o, m) → HadNames o
      → SameRun fresh without.0 o without.1 m
  with_names_same at_hand t o m is named =
      runs_same w fresh unused tx [] (Some 0) at_hand None without.0 o without.1 m no_names_takeable t refl is
      (stand_ins_enough w fresh unused tx [] no_names_takeable) named

  created_by : (cs ds : List Oref) (p o : Result Flow Stop) (n : Machine) → ran_by store [] p n ≡ None → HadObjects p → SameEnd fresh cs ds p o
      → (flow : Flow) × (o ≡ Ok flow)
  created_by cs ds (Ok f) (Ok g) n is objects same = (g, refl)
  created_by cs ds (Ok f) (Err q) n is objects same = absurd same
  created_by cs ds (Err (stop.Fault f)) o n is objects same = cc
  created_by cs ds (Err (stop.Need x owners)) o n is objects same = absurd objects
  created_by cs ds (Err (stop.NeedName repo)) (Ok g) n is objects same = absurd same
  created_by cs ds (Err (stop.NeedName repo)) (Err q) n is objects same = absurd same

  -- where new objects stay, the run with names at hand ends without a fault, and is defined for the names that it took
  pub defined_with : (at_hand : List Oref) → Takeable fresh at_hand → (o : Result Flow Stop) (m : Machine) → run schema tx store [] ≡ None
      → HadObjects without.0
      → execute_all w tx (begun at_hand None) ≡ (o, m) → HadNames o
      → IsSomeAnd (run schema tx store m.created) (λ r. (r.answer ≡ answer.Ints m.printed) × (r.touched ≡ keys m.reads))
  unfolding run
  defined_with at_hand t o m undefined objects is named =
      let same = with_names_same at_hand t o m is named in
      let ok = created_by without.1.created m.created without.0 o without.1 undefined objects same.ended in
      defined_again at_hand t o m is named ok.0 ok.1

  some_too : (P Q : Ran → Type 0) (x : Option Ran) → IsSomeAnd x P → ((q : Ran) → x ≡ Some q → Q q) → IsSomeAnd x Q
  some_too P Q (Some q) h f = f q refl
  some_too P Q None h f = h

  fault_by : (cs ds : List Oref) (f : Fault) (p : Result Flow Stop) (n : Machine) → SameEnd fresh cs ds p (Err (stop.Fault f))
      → IsSomeAnd (ran_by store [] p n) (λ r. Unit {0})
  fault_by cs ds f (Ok g) n same = absurd same
  fault_by cs ds f (Err (stop.Fault g)) n same = tt
  fault_by cs ds f (Err (stop.Need x owners)) n same = absurd same
  fault_by cs ds f (Err (stop.NeedName repo)) n same = absurd same

  no_need : (cs ds : List Oref) (names : List Oref) (x : Oref) (owners : List Oref) (p : Result Flow Stop) (n : Machine) (r : Ran)
      → SameEnd fresh cs ds p (Err (stop.Need x owners)) → ran_by store names p n ≡ Some r → ⊥
  no_need cs ds names x owners (Ok g) n r same is = same
  no_need cs ds names x owners (Err (stop.Fault g)) n r same is = same
  no_need cs ds names x owners (Err (stop.Need y others)) n r same is = cc
  no_need cs ds names x owners (Err (stop.NeedName repo)) n r same is = same

  -- where the run is defined for some names, it is so for those that a run with names at hand keeps, and gives the same
  pub defined_too : (names : List Oref) (r : Ran) → Takeable fresh names → run schema tx store names ≡ Some r → (at_hand : List Oref)
      → Takeable fresh at_hand
      → (o : Result Flow Stop) (m : Machine) → execute_all w tx (begun at_hand None) ≡ (o, m) → HadNames o
      → IsSomeAnd (run schema tx store (kept_names o m)) (SameRan fresh names (kept_names o m) r)
  unfolding run
  defined_too names r t defined at_hand u (Ok flow) m is named =
      some_too _ _ (run schema tx store m.created) (defined_again at_hand u (Ok flow) m is named flow refl)
      (λ q other. defined_same names m.created r q t (created_takeable at_hand u (Ok flow) m is named) defined other)
  defined_too names r t defined at_hand u (Err (stop.Fault f)) m is named =
      let same = with_names_same at_hand u (Err (stop.Fault f)) m is named in
      some_too _ _ (run schema tx store []) (fault_by without.1.created m.created f without.0 without.1 same.ended)
      (λ q other. defined_same names [] r q t no_names_takeable defined other)
  defined_too names r t defined at_hand u (Err (stop.Need x owners)) m is named =
      let p = execute_all w tx (begun names (Some 0)) in
      let same = runs_same w fresh unused tx names (Some 0) at_hand None p.0 (Err (stop.Need x owners)) p.1 m t u refl is
      (stand_ins_enough w fresh unused tx names t) named in
      absurd (no_need p.1.created m.created names x owners p.0 p.1 r same.ended defined)
  defined_too names r t defined at_hand u (Err (stop.NeedName repo)) m is named = absurd named
