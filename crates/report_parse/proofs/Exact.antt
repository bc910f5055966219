-- What every exact reading has in common, and how readings of parts make one of the whole.
use Rattle.std.proofs.Common.{◌≡◌, ℕ, zero, suc, ◌<◌, ◌≤◌, Bool, true, false, cond, ◌&&◌, List, [], ◌∷◌, ◌++◌, length, Option, Some, None, refl, sym, ap, subst, ◌∙◌, append_assoc, arith, length-append, ◌⊎◌, inl, inr}
use Rattle.std.specs.Prelude.{◌==◌, ◌||◌, not}
use Rattle.std.specs.List.{flat_map, AllByRecursion, list_all}
use Rattle.std.proofs.lemmas.Bool.Decides.{nat_tests}
use Rattle.std.proofs.lemmas.List.Concat.{flat_map-cons}
use Rattle.std.proofs.lemmas.Bool.{and_parts}
use Rattle.std.proofs.lemmas.Option.{cond_some, same_Some}
use Rattle.report_parse.specs.Reading.{Reading, ◌>>=◌, ◌then◌, strip, made, after_text, before, such_that, only, chosen, first_of, gathered, many, all_of}

-- ---- steps that may fail

pub bind_some : {A B : Type 0} (r : Option A) (f : A → Option B) (y : B) → (r >>= f) ≡ Some y → (x : A) × (r ≡ Some x) × (f x ≡ Some y)
bind_some (Some x) f y e = (x, refl, e)
bind_some None f y e = absurd cc

pub some_on : {A B : Type 0} (r : Option A) (f : A → Option B) (x : A) → r ≡ Some x → (r >>= f) ≡ f x
some_on {A = A} r f x e = ap (λ (q : Option A). q >>= f) e

some_none : {A : Type 0} (x : A) → Some x ≡ None → ⊥
some_none x e = cc

-- ---- exact readings

-- A reading is exact: what it reads has this spelling, and what has it is read where it may end so.
pub record IsExact {X : Type 0} (May : List ℕ → Type 0) (Has : X → Type 0) (spelling : X → List ℕ) (read : Reading X) : Type 0 where
  pub found : (bytes : List ℕ) (x : X × List ℕ) → read bytes ≡ Some x → Has x.0 × (bytes ≡ spelling x.0 ++ x.1)
  pub again : (v : X) (rest : List ℕ) → Has v → May rest → read (spelling v ++ rest) ≡ Some (v, rest)

-- whatever follows
abbrev pub Any : List ℕ → Type 0
Any rest = Unit {0}

-- the same reading, where fewer bytes follow
pub narrowed : {X : Type 0} (May Now : List ℕ → Type 0) (Has : X → Type 0) (spelling : X → List ℕ) (read : Reading X) → IsExact May Has spelling read → ((rest : List ℕ) → Now rest → May rest) → IsExact Now Has spelling read
narrowed May Now Has spelling read ok to = record { found = ok.found; again = λ v rest h m. ok.again v rest h (to rest m) }

-- two spellings with what follows are of one value
pub apart : {X : Type 0} (May : List ℕ → Type 0) (Has : X → Type 0) (spelling : X → List ℕ) (read : Reading X) → IsExact May Has spelling read
    → (a b : X) (x y : List ℕ) → Has a → Has b → May x → May y → spelling a ++ x ≡ spelling b ++ y → (a ≡ b) × (x ≡ y)
apart {X = X} May Has spelling read ok a b x y ha hb mx my e =
    let p : (a, x) ≡ (b, y) = same_Some (a, x) (b, y) (sym (ok.again a x ha mx) ∙ ap read e ∙ ok.again b y hb my) in
    (ap (λ (q : X × List ℕ). q.0) p, ap (λ (q : X × List ℕ). q.1) p)

-- where a spelling stands, something is read
pub not_none : {X : Type 0} (May : List ℕ → Type 0) (Has : X → Type 0) (spelling : X → List ℕ) (read : Reading X) → IsExact May Has spelling read
    → (v : X) (bytes rest : List ℕ) → Has v → May rest → bytes ≡ spelling v ++ rest → read bytes ≡ None → ⊥
not_none {X = X} May Has spelling read ok v bytes rest h m e n =
    some_none (v, rest) (sym (ok.again v rest h m) ∙ ap read (sym e) ∙ n)

-- ---- a fixed text

pub strip_found : (text bytes rest : List ℕ) → strip text bytes ≡ Some rest → bytes ≡ text ++ rest
unfolding strip
strip_found [] bytes rest e = same_Some bytes rest e
strip_found (t ∷ text) [] rest e = absurd cc
strip_found (t ∷ text) (b ∷ bytes) rest e = by (t == b) refl e (strip_found text bytes rest)
  where
    by : (same : Bool) → (t == b) ≡ same → cond same (strip text bytes) None ≡ Some rest → (strip text bytes ≡ Some rest → bytes ≡ text ++ rest) → b ∷ bytes ≡ t ∷ (text ++ rest)
    by true is e others = let p : t ≡ b = grind (arith, nat_tests) in let q = others e in λ i. sym p i ∷ q i
    by false is e others = absurd cc

same_byte : (b : ℕ) → (b == b) ≡ true
same_byte b = grind (arith, nat_tests)

pub strip_again : (text rest : List ℕ) → strip text (text ++ rest) ≡ Some rest
unfolding strip
strip_again [] rest = refl
strip_again (t ∷ text) rest = ap (λ (same : Bool). cond same (strip text (text ++ rest)) None) (same_byte t) ∙ strip_again text rest

-- whether two texts differ at a place that both have
abbrev pub differ : List ℕ → List ℕ → Bool
differ [] u = false
differ (b ∷ t) [] = false
differ (b ∷ t) (c ∷ u) = not (b == c) || differ t u

-- then no bytes begin with both
pub strip_other : (text other rest : List ℕ) → differ text other ≡ true → strip text (other ++ rest) ≡ None
unfolding strip
strip_other [] other rest d = absurd cc
strip_other (b ∷ t) [] rest d = absurd cc
strip_other (b ∷ t) (c ∷ u) rest d = by (b == c) d (strip_other t u rest)
  where
    by : (same : Bool) → (not same || differ t u) ≡ true → (differ t u ≡ true → strip t (u ++ rest) ≡ None) → cond same (strip t (u ++ rest)) None ≡ None
    by true d others = others d
    by false d others = refl

-- ---- one part behind another

module _ {A B : Type 0} (MayA MayB : List ℕ → Type 0) (HasA : A → Type 0) (HasB : B → Type 0) (a : A → List ℕ) (b : B → List ℕ) (first : Reading A) (second : Reading B)
    (one : IsExact MayA HasA a first) (two : IsExact MayB HasB b second) (joins : (y : B) (rest : List ℕ) → HasB y → MayB rest → MayA (b y ++ rest)) where
  abbrev Whole : List ℕ → (A × B) × List ℕ → Type 0
  Whole bytes x = (HasA x.0.0 × HasB x.0.1) × (bytes ≡ (a x.0.0 ++ b x.0.1) ++ x.1)

  then_found : (bytes : List ℕ) (x : (A × B) × List ℕ) → (first then second) bytes ≡ Some x → Whole bytes x
  then_found bytes x e =
      let p = bind_some (first bytes) (λ x. second x.1 >>= λ y. Some ((x.0, y.0), y.1)) x e in
      let q = bind_some (second p.0.1) (λ y. Some ((p.0.0, y.0), y.1)) x p.2 in
      let f = one.found bytes p.0 p.1 in
      let g = two.found p.0.1 q.0 q.1 in
      subst (Whole bytes) (same_Some ((p.0.0, q.0.0), q.0.1) x q.2)
      ((f.0, g.0), f.1 ∙ ap (λ (r : List ℕ). a p.0.0 ++ r) g.1 ∙ sym (append_assoc (a p.0.0) (b q.0.0) q.0.1))

  then_again : (v : A × B) (rest : List ℕ) → HasA v.0 × HasB v.1 → MayB rest → (first then second) ((a v.0 ++ b v.1) ++ rest) ≡ Some (v, rest)
  then_again v rest h m =
      let f : first ((a v.0 ++ b v.1) ++ rest) ≡ Some (v.0, b v.1 ++ rest) = ap first (append_assoc (a v.0) (b v.1) rest) ∙ one.again v.0 (b v.1 ++ rest) h.0 (joins v.1 rest h.1 m) in
      some_on (first ((a v.0 ++ b v.1) ++ rest)) (λ x. second x.1 >>= λ y. Some ((x.0, y.0), y.1)) (v.0, b v.1 ++ rest) f
      ∙ some_on (second (b v.1 ++ rest)) (λ y. Some ((v.0, y.0), y.1)) (v.1, rest) (two.again v.1 rest h.1 m)

  pub exact_then : IsExact MayB (λ v. HasA v.0 × HasB v.1) (λ v. a v.0 ++ b v.1) (first then second)
  exact_then = record { found = then_found; again = then_again }

-- ---- a part made of another

module _ {X Y : Type 0} (May : List ℕ → Type 0) (HasX : X → Type 0) (HasY : Y → Type 0) (a : X → List ℕ) (b : Y → List ℕ) (make : X → Y) (parts : Y → X) (read : Reading X)
    (ok : IsExact May HasX a read) (to : (x : X) → HasX x → HasY (make x) × (b (make x) ≡ a x)) (from : (y : Y) → HasY y → HasX (parts y) × (make (parts y) ≡ y)) where
  made_found : (bytes : List ℕ) (y : Y × List ℕ) → made make read bytes ≡ Some y → HasY y.0 × (bytes ≡ b y.0 ++ y.1)
  made_found bytes y e =
      let p = bind_some (read bytes) (λ x. Some (make x.0, x.1)) y e in
      let f = ok.found bytes p.0 p.1 in
      let t = to p.0.0 f.0 in
      subst (λ (y : Y × List ℕ). HasY y.0 × (bytes ≡ b y.0 ++ y.1)) (same_Some (make p.0.0, p.0.1) y p.2)
      (t.0, f.1 ∙ ap (λ (s : List ℕ). s ++ p.0.1) (sym t.1))

  made_again : (y : Y) (rest : List ℕ) → HasY y → May rest → made make read (b y ++ rest) ≡ Some (y, rest)
  made_again y rest h m =
      let f = from y h in
      let spelt : b y ≡ a (parts y) = ap b (sym f.1) ∙ (to (parts y) f.0).1 in
      let r : read (b y ++ rest) ≡ Some (parts y, rest) = ap (λ (s : List ℕ). read (s ++ rest)) spelt ∙ ok.again (parts y) rest f.0 m in
      some_on (read (b y ++ rest)) (λ x. Some (make x.0, x.1)) (parts y, rest) r ∙ ap (λ (z : Y). Some (z, rest)) f.1

  pub exact_made : IsExact May HasY b (made make read)
  exact_made = record { found = made_found; again = made_again }

-- ---- a part behind a fixed text, and before one

module _ {X : Type 0} (May : List ℕ → Type 0) (Has : X → Type 0) (a : X → List ℕ) (text : List ℕ) (read : Reading X) (ok : IsExact May Has a read) where
  behind_found : (bytes : List ℕ) (x : X × List ℕ) → after_text text read bytes ≡ Some x → Has x.0 × (bytes ≡ (text ++ a x.0) ++ x.1)
  behind_found bytes x e =
      let p = bind_some (strip text bytes) read x e in
      let f = ok.found p.0 x p.2 in
      (f.0, strip_found text bytes p.0 p.1 ∙ ap (λ (r : List ℕ). text ++ r) f.1 ∙ sym (append_assoc text (a x.0) x.1))

  behind_again : (v : X) (rest : List ℕ) → Has v → May rest → after_text text read ((text ++ a v) ++ rest) ≡ Some (v, rest)
  behind_again v rest h m =
      let s : strip text ((text ++ a v) ++ rest) ≡ Some (a v ++ rest) = ap (strip text) (append_assoc text (a v) rest) ∙ strip_again text (a v ++ rest) in
      some_on (strip text ((text ++ a v) ++ rest)) read (a v ++ rest) s ∙ ok.again v rest h m

  pub exact_behind : IsExact May Has (λ v. text ++ a v) (after_text text read)
  exact_behind = record { found = behind_found; again = behind_again }

module _ {X : Type 0} (May : List ℕ → Type 0) (Has : X → Type 0) (a : X → List ℕ) (text : List ℕ) (read : Reading X) (ok : IsExact May Has a read) (joins : (rest : List ℕ) → May (text ++ rest)) where
  before_found : (bytes : List ℕ) (x : X × List ℕ) → before text read bytes ≡ Some x → Has x.0 × (bytes ≡ (a x.0 ++ text) ++ x.1)
  before_found bytes x e =
      let p = bind_some (read bytes) (λ x. strip text x.1 >>= λ rest. Some (x.0, rest)) x e in
      let q = bind_some (strip text p.0.1) (λ rest. Some (p.0.0, rest)) x p.2 in
      let f = ok.found bytes p.0 p.1 in
      let s = strip_found text p.0.1 q.0 q.1 in
      subst (λ (x : X × List ℕ). Has x.0 × (bytes ≡ (a x.0 ++ text) ++ x.1)) (same_Some (p.0.0, q.0) x q.2)
      (f.0, f.1 ∙ ap (λ (r : List ℕ). a p.0.0 ++ r) s ∙ sym (append_assoc (a p.0.0) text q.0))

  before_again : (v : X) (rest : List ℕ) → Has v → Any rest → before text read ((a v ++ text) ++ rest) ≡ Some (v, rest)
  before_again v rest h m =
      let r : read ((a v ++ text) ++ rest) ≡ Some (v, text ++ rest) = ap read (append_assoc (a v) text rest) ∙ ok.again v (text ++ rest) h (joins rest) in
      some_on (read ((a v ++ text) ++ rest)) (λ x. strip text x.1 >>= λ rest. Some (x.0, rest)) (v, text ++ rest) r
      ∙ some_on (strip text (text ++ rest)) (λ rest. Some (v, rest)) rest (strip_again text rest)

  pub exact_before : IsExact Any Has (λ v. a v ++ text) (before text read)
  exact_before = record { found = before_found; again = before_again }

-- ---- a part that passes a test

module _ {X : Type 0} (May : List ℕ → Type 0) (Has : X → Type 0) (a : X → List ℕ) (test : X → Bool) (read : Reading X) (ok : IsExact May Has a read) where
  such_found : (bytes : List ℕ) (x : X × List ℕ) → such_that test read bytes ≡ Some x → (Has x.0 × (test x.0 ≡ true)) × (bytes ≡ a x.0 ++ x.1)
  such_found bytes x e =
      let p = bind_some (read bytes) (λ x. cond (test x.0) (Some x) None) x e in
      let c = cond_some (test p.0.0) p.0 x p.2 in
      let f = ok.found bytes p.0 p.1 in
      subst (λ (x : X × List ℕ). (Has x.0 × (test x.0 ≡ true)) × (bytes ≡ a x.0 ++ x.1)) c.1 ((f.0, c.0), f.1)

  such_again : (v : X) (rest : List ℕ) → Has v × (test v ≡ true) → May rest → such_that test read (a v ++ rest) ≡ Some (v, rest)
  such_again v rest h m =
      some_on (read (a v ++ rest)) (λ x. cond (test x.0) (Some x) None) (v, rest) (ok.again v rest h.0 m) ∙ ap (λ (t : Bool). cond t (Some (v, rest)) None) h.1

  pub exact_such : IsExact May (λ v. Has v × (test v ≡ true)) a (such_that test read)
  exact_such = record { found = such_found; again = such_again }

-- ---- the same part in other words

pub exact_as : {X : Type 0} (May : List ℕ → Type 0) (Has Also : X → Type 0) (a b : X → List ℕ) (read : Reading X) → IsExact May Has a read
    → ((x : X) → Has x → Also x × (b x ≡ a x)) → ((x : X) → Also x → Has x) → IsExact May Also b read
exact_as May Has Also a b read ok to from = record {
  found = λ bytes x e. let f = ok.found bytes x e in let t = to x.0 f.0 in (t.0, f.1 ∙ ap (λ (s : List ℕ). s ++ x.1) (sym t.1));
  again = λ v rest h m. let g = from v h in ap (λ (s : List ℕ). read (s ++ rest)) (to v g).1 ∙ ok.again v rest g m;
}

-- ---- one of several parts, by the fixed text before it

module _ {Y : Type 0} (May : List ℕ → Type 0) (Has : Y → Type 0) (spelling : Y → List ℕ) where
  -- what is read behind its text is spelled with it
  abbrev pub Finds : List ℕ × Reading Y → Type 0
  Finds c = (bytes : List ℕ) (y : Y × List ℕ) → c.1 bytes ≡ Some y → Has y.0 × (c.0 ++ bytes ≡ spelling y.0 ++ y.1)

  -- a value's spelling begins with its text, and what stands behind it is read
  abbrev pub Stands : Y → List ℕ × Reading Y → Type 0
  Stands y c = (t : List ℕ) × (spelling y ≡ c.0 ++ t) × ((rest : List ℕ) → May rest → c.1 (t ++ rest) ≡ Some (y, rest))

  -- it does so for one of them
  abbrev pub StandsAmong : Y → List (List ℕ × Reading Y) → Type 0
  StandsAmong y [] = ⊥
  StandsAmong y (c ∷ cs) = Stands y c ⊎ StandsAmong y cs

  -- each of the texts differs from those behind it
  abbrev pub all_differ : List (List ℕ × Reading Y) → Bool
  all_differ [] = true
  all_differ (c ∷ cs) = list_all (λ d. differ c.0 d.0) cs && all_differ cs

  all_find : (cs : List (List ℕ × Reading Y)) → AllByRecursion Finds cs → (bytes : List ℕ) (y : Y × List ℕ) → first_of cs bytes ≡ Some y → Has y.0 × (bytes ≡ spelling y.0 ++ y.1)
  all_find [] each bytes y e = absurd cc
  all_find (c ∷ cs) each bytes y e = by (strip c.0 bytes) refl e (all_find cs each.1 bytes y)
    where
      by : (o : Option (List ℕ)) → strip c.0 bytes ≡ o → chosen o c.1 (first_of cs bytes) ≡ Some y → (first_of cs bytes ≡ Some y → Has y.0 × (bytes ≡ spelling y.0 ++ y.1)) → Has y.0 × (bytes ≡ spelling y.0 ++ y.1)
      by None is e others = others e
      by (Some rest) is e others = let f = each.0 rest y e in (f.0, strip_found c.0 bytes rest is ∙ f.1)

  passed_by : (text : List ℕ) (cs : List (List ℕ × Reading Y)) (y : Y) (rest : List ℕ) → list_all (λ d. differ text d.0) cs ≡ true → StandsAmong y cs → strip text (spelling y ++ rest) ≡ None
  passed_by text [] y rest d s = absurd s
  passed_by text (c ∷ cs) y rest d (inl s) =
      ap (λ (t : List ℕ). strip text (t ++ rest)) s.1 ∙ ap (strip text) (append_assoc c.0 s.0 rest) ∙ strip_other text c.0 (s.0 ++ rest) (and_parts (differ text c.0) (list_all (λ d. differ text d.0) cs) d).0
  passed_by text (c ∷ cs) y rest d (inr s) = passed_by text cs y rest (and_parts (differ text c.0) (list_all (λ d. differ text d.0) cs) d).1 s

  read_there : (cs : List (List ℕ × Reading Y)) (y : Y) (rest : List ℕ) → all_differ cs ≡ true → StandsAmong y cs → May rest → first_of cs (spelling y ++ rest) ≡ Some (y, rest)
  read_there [] y rest d s m = absurd s
  read_there (c ∷ cs) y rest d (inl s) m =
      let whole : spelling y ++ rest ≡ c.0 ++ (s.0 ++ rest) = ap (λ (t : List ℕ). t ++ rest) s.1 ∙ append_assoc c.0 s.0 rest in
      ap (λ (o : Option (List ℕ)). chosen o c.1 (first_of cs (spelling y ++ rest))) (ap (strip c.0) whole ∙ strip_again c.0 (s.0 ++ rest)) ∙ s.2 rest m
  read_there (c ∷ cs) y rest d (inr s) m =
      let p = and_parts (list_all (λ d. differ c.0 d.0) cs) (all_differ cs) d in
      ap (λ (o : Option (List ℕ)). chosen o c.1 (first_of cs (spelling y ++ rest))) (passed_by c.0 cs y rest p.0 s) ∙ read_there cs y rest p.1 s m

  pub exact_first : (cs : List (List ℕ × Reading Y)) → all_differ cs ≡ true → AllByRecursion Finds cs → ((y : Y) → Has y → StandsAmong y cs) → IsExact May Has spelling (first_of cs)
  exact_first cs d finds stands = record { found = all_find cs finds; again = λ y rest h m. read_there cs y rest d (stands y h) m }

  -- one of them, made of another part
  module _ {X : Type 0} (HasX : X → Type 0) (a : X → List ℕ) (text : List ℕ) (make : X → Y) (read : Reading X) (ok : IsExact May HasX a read) (to : (x : X) → HasX x → Has (make x) × (spelling (make x) ≡ text ++ a x)) where
    pub case_finds : Finds (text, made make read)
    case_finds bytes y e =
        let p = bind_some (read bytes) (λ x. Some (make x.0, x.1)) y e in
        let f = ok.found bytes p.0 p.1 in
        let t = to p.0.0 f.0 in
        subst (λ (y : Y × List ℕ). Has y.0 × (text ++ bytes ≡ spelling y.0 ++ y.1)) (same_Some (make p.0.0, p.0.1) y p.2)
        (t.0, ap (λ (r : List ℕ). text ++ r) f.1 ∙ sym (append_assoc text (a p.0.0) p.0.1) ∙ ap (λ (s : List ℕ). s ++ p.0.1) (sym t.1))

    pub case_stands : (x : X) → HasX x → Stands (make x) (text, made make read)
    case_stands x h = (a x, (to x h).1, λ rest m. some_on (read (a x ++ rest)) (λ x. Some (make x.0, x.1)) (x, rest) (ok.again x rest h m))

  -- one of them, with nothing behind its text
  module _ (text : List ℕ) (y : Y) (to : Has y × (spelling y ≡ text)) where
    pub only_finds : Finds (text, only y)
    only_finds bytes z e =
        subst (λ (z : Y × List ℕ). Has z.0 × (text ++ bytes ≡ spelling z.0 ++ z.1)) (same_Some (y, bytes) z e) (to.0, ap (λ (s : List ℕ). s ++ bytes) (sym to.1))

    pub only_stands : Stands y (text, only y)
    only_stands = ([], to.1 ∙ sym (nothing_behind text), λ rest m. refl)
      where
        nothing_behind : (t : List ℕ) → t ++ [] ≡ t
        nothing_behind [] = refl
        nothing_behind (b ∷ t) = ap (λ (u : List ℕ). b ∷ u) (nothing_behind t)

-- ---- parts one behind the other

module _ {X : Type 0} (May : List ℕ → Type 0) (Has : X → Type 0) (a : X → List ℕ) (read : Reading X) (ok : IsExact May Has a read) where
  -- none of them follows, and they may end so
  abbrev pub NoMore : List ℕ → Type 0
  NoMore rest = May rest × (read rest ≡ None)

  abbrev Gathered : List ℕ → List X × List ℕ → Type 0
  Gathered bytes x = AllByRecursion Has x.0 × (bytes ≡ flat_map a x.0 ++ x.1)

  pub many_found : (n : ℕ) (bytes : List ℕ) → Gathered bytes (many read n bytes)
  unfolding many
  many_found zero bytes = (tt, refl)
  many_found (suc n) bytes = by (read bytes) refl (many_found n)
    where
      by : (o : Option (X × List ℕ)) → read bytes ≡ o → ((rest : List ℕ) → Gathered rest (many read n rest)) → Gathered bytes (gathered bytes o (many read n))
      by None is next = (tt, refl)
      by (Some x) is next =
          let f = ok.found bytes x is in
          let g = next x.1 in
          let others = many read n x.1 in
          ((f.0, g.0), f.1 ∙ ap (λ (r : List ℕ). a x.0 ++ r) g.1 ∙ sym (append_assoc (a x.0) (flat_map a others.0) others.1) ∙ ap (λ (t : List ℕ). t ++ others.1) (sym (flat_map-cons a x.0 others.0)))

  many_stops : (n : ℕ) (rest : List ℕ) → read rest ≡ None → many read n rest ≡ ([], rest)
  unfolding many
  many_stops zero rest e = refl
  many_stops (suc n) rest e = ap (λ (o : Option (X × List ℕ)). gathered rest o (many read n)) e

  -- behind as many as there can be there is no more
  pub many_none : (nothing : read [] ≡ None) (some : (v : X) → Has v → 0 < length (a v)) (n : ℕ) (bytes : List ℕ) → length bytes ≤ n → read ((many read n bytes).1) ≡ None
  unfolding many
  many_none nothing some zero [] le = nothing
  many_none nothing some zero (b ∷ bytes) le = absurd (omega arith)
  many_none nothing some (suc n) bytes le = by (read bytes) refl (many_none nothing some n)
    where
      by : (o : Option (X × List ℕ)) → read bytes ≡ o → ((rest : List ℕ) → length rest ≤ n → read ((many read n rest).1) ≡ None) → read ((gathered bytes o (many read n)).1) ≡ None
      by None is next = is
      by (Some x) is next =
          let f = ok.found bytes x is in
          next x.1 (omega (arith, ap length f.1, length-append (a x.0) x.1, some x.0 f.0, le))

  module _ (joins : (v : X) (rest : List ℕ) → Has v → May (a v ++ rest)) (some : (v : X) → Has v → 0 < length (a v)) where
    may_follow : (vs : List X) (rest : List ℕ) → AllByRecursion Has vs → May rest → May (flat_map a vs ++ rest)
    may_follow [] rest h m = m
    may_follow (v ∷ vs) rest h m =
        subst May (sym (append_assoc (a v) (flat_map a vs) rest) ∙ ap (λ (t : List ℕ). t ++ rest) (sym (flat_map-cons a v vs))) (joins v (flat_map a vs ++ rest) h.0)

    many_again : (n : ℕ) (vs : List X) (rest : List ℕ) → AllByRecursion Has vs → NoMore rest → length vs ≤ n → many read n (flat_map a vs ++ rest) ≡ (vs, rest)
    unfolding many
    many_again n [] rest h m le = many_stops n rest m.1
    many_again zero (v ∷ vs) rest h m le = absurd (omega arith)
    many_again (suc n) (v ∷ vs) rest h m le =
        let spelt : flat_map a (v ∷ vs) ++ rest ≡ a v ++ (flat_map a vs ++ rest) = ap (λ (t : List ℕ). t ++ rest) (flat_map-cons a v vs) ∙ append_assoc (a v) (flat_map a vs) rest in
        let first : read (flat_map a (v ∷ vs) ++ rest) ≡ Some (v, flat_map a vs ++ rest) = ap read spelt ∙ ok.again v (flat_map a vs ++ rest) h.0 (may_follow vs rest h.1 m.0) in
        ap (λ (o : Option (X × List ℕ)). gathered (flat_map a (v ∷ vs) ++ rest) o (many read n)) first
        ∙ ap (λ (others : List X × List ℕ). (v ∷ others.0, others.1)) (many_again n vs rest h.1 m (omega arith))

    pub long_enough : (vs : List X) → AllByRecursion Has vs → length vs ≤ length (flat_map a vs)
    long_enough [] h = omega arith
    long_enough (v ∷ vs) h = omega (arith, ap length (flat_map-cons a v vs), length-append (a v) (flat_map a vs), some v h.0, long_enough vs h.1)

    -- what is spelled so, with nothing more behind it, is read to its end
    pub many_all : (vs : List X) (rest : List ℕ) → AllByRecursion Has vs → NoMore rest → many read (length (flat_map a vs ++ rest)) (flat_map a vs ++ rest) ≡ (vs, rest)
    many_all vs rest h m = many_again (length (flat_map a vs ++ rest)) vs rest h m (omega (arith, length-append (flat_map a vs) rest, long_enough vs h))

    pub exact_all : IsExact NoMore (AllByRecursion Has) (flat_map a) (all_of read)
    exact_all = record {
      found = λ bytes x e. subst (Gathered bytes) (same_Some (many read (length bytes) bytes) x e) (many_found (length bytes) bytes);
      again = λ vs rest h m. ap (λ (x : List X × List ℕ). Some x) (many_all vs rest h m);
    }

-- one of several parts: what is read there, and that its values stand there
pub record IsCase {X Y : Type 0} (May : List ℕ → Type 0) (Has : Y → Type 0) (spelling : Y → List ℕ) (HasX : X → Type 0) (make : X → Y) (c : List ℕ × Reading Y) : Type 0 where
  pub finds : Finds May Has spelling c
  pub stands : (x : X) → HasX x → Stands May Has spelling (make x) c

pub case_made : {X Y : Type 0} (May : List ℕ → Type 0) (Has : Y → Type 0) (spelling : Y → List ℕ) (HasX : X → Type 0) (a : X → List ℕ) (text : List ℕ) (make : X → Y) (read : Reading X) → IsExact May HasX a read
    → ((x : X) → HasX x → Has (make x) × (spelling (make x) ≡ text ++ a x)) → IsCase May Has spelling HasX make (text, made make read)
case_made May Has spelling HasX a text make read ok to = record {
  finds = case_finds May Has spelling HasX a text make read ok to;
  stands = case_stands May Has spelling HasX a text make read ok to;
}

-- ---- two texts of parts

-- A text of parts and what stands behind it, where that begins with no part, begins with other parts only where these
-- are its first ones.
pub first_parts : {X : Type 0} (Has : X → Type 0) (a : X → List ℕ) (read : Reading X) → IsExact Any Has a read
    → (xs ys : List X) (t u : List ℕ) → AllByRecursion Has xs → AllByRecursion Has ys → read t ≡ None → flat_map a xs ++ t ≡ flat_map a ys ++ u
    → (zs : List X) × AllByRecursion Has zs × (xs ≡ ys ++ zs) × (u ≡ flat_map a zs ++ t)
first_parts Has a read ok xs [] t u h g none e = (xs, h, refl, sym e)
first_parts Has a read ok [] (y ∷ ys) t u h g none e =
    absurd (not_none Any Has a read ok y t (flat_map a ys ++ u) g.0 tt (e ∙ ap (λ (s : List ℕ). s ++ u) (flat_map-cons a y ys) ∙ append_assoc (a y) (flat_map a ys) u) none)
first_parts Has a read ok (x ∷ xs) (y ∷ ys) t u h g none e =
    let left : flat_map a (x ∷ xs) ++ t ≡ a x ++ (flat_map a xs ++ t) = ap (λ (s : List ℕ). s ++ t) (flat_map-cons a x xs) ∙ append_assoc (a x) (flat_map a xs) t in
    let right : flat_map a (y ∷ ys) ++ u ≡ a y ++ (flat_map a ys ++ u) = ap (λ (s : List ℕ). s ++ u) (flat_map-cons a y ys) ∙ append_assoc (a y) (flat_map a ys) u in
    let one = apart Any Has a read ok x y (flat_map a xs ++ t) (flat_map a ys ++ u) h.0 g.0 tt tt (sym left ∙ e ∙ right) in
    let more = first_parts Has a read ok xs ys t u h.1 g.1 none one.1 in
    (more.0, more.1, (λ i. one.0 i ∷ more.2 i), more.3)
