-- Reading and spelling of a format fit together, and how that follows from the parts of a format.
use Rattle.std.proofs.Common.{◌≡◌, ℕ, zero, suc, ◌+◌, ◌<◌, ◌≤◌, ◌^◌, Bool, cond, List, [], ◌∷◌, ◌++◌, length, Option, Some, None, Result, Ok, Err, refl, sym, ap, subst, ◌∙◌, append_assoc, arith, length-append}
use Rattle.std.specs.Option.{IfSome, IsSomeAnd}
use Rattle.std.specs.List.{flat_map, AllByRecursion}
use Rattle.std.specs.Int.{w16, w32, w64, to_be_bytes}
use Rattle.std.proofs.lemmas.List.Concat.{flat_map-cons}
use Rattle.std.proofs.lemmas.Option.{cond_some, same_Some}
use Rattle.thor_value.specs.Reading.{number_at}
use Rattle.thor_value.proofs.Exactness.{IsBytes, IsBytes-rest, IsExact}
use Rattle.thor_value.proofs.Fields.{exact_number, wide16, wide32, wide64}
use Rattle.log_codec.specs.Format.{Format, ◌>>=◌, ◌then◌, as_read, as_spelled, choice, first_byte, found_by, list, made, no_format, of_those, only, read_by, several, short_list, spelled, such_that, u8_format, u16_format, u32_format, u64_format}

pub record IsExactFormat {V : Type 0} (f : Format V) : Type 0 where
  -- what is read is spelled so
  pub found : (bytes : List ℕ) (x : V × List ℕ) → IsBytes bytes → f.reading bytes ≡ Some x → f.Fits x.0 × f.Countable x.0 × (bytes ≡ f.spelling x.0 ++ x.1)
  -- what is spelled is read, whatever stands behind it
  pub again : (v : V) (rest : List ℕ) → f.Fits v → f.Countable v → f.reading (f.spelling v ++ rest) ≡ Some (v, rest)
  -- four bytes count the lists of what is spelled in less than 2 ^ 32 bytes
  pub counts : (v : V) → f.Fits v → length (f.spelling v) < 2 ^ 32 → f.Countable v

-- each value takes some bytes
abbrev pub TakesBytes : {V : Type 0} → Format V → Type 0
TakesBytes {V = V} f = (v : V) → f.Fits v → 0 < length (f.spelling v)

pub bind_some : {A B : Type 0} (r : Option A) (f : A → Option B) (y : B) → (r >>= f) ≡ Some y → (x : A) × (r ≡ Some x) × (f x ≡ Some y)
bind_some (Some x) f y e = (x, refl, e)
bind_some None f y e = absurd cc

pub some_on : {A B : Type 0} (r : Option A) (f : A → Option B) (x : A) → r ≡ Some x → (r >>= f) ≡ f x
some_on {A = A} r f x e = ap (λ (q : Option A). q >>= f) e

-- ---- readers that say their fault

found_ok : {X F : Type 0} (r : Result X F) (x : X) → found_by r ≡ Some x → r ≡ Ok x
found_ok (Ok y) x e = ap (λ z. Ok z) (same_Some y x e)
found_ok (Err d) x e = absurd cc

pub exact_read : {V F : Type 0} (Has : V → Type 0) (spelling : V → List ℕ) (short : F) (reader : List ℕ → Result (V × List ℕ) F) → IsExact Has spelling short reader → IsExactFormat (read_by Has spelling reader)
unfolding as_read as_spelled
exact_read Has spelling short reader ok = record {
  found = λ bytes x b e. let f = ok.found bytes x b (found_ok (reader bytes) x e) in (f.0, tt, f.1);
  again = λ v rest h c. ap found_by (ok.again v rest h);
  counts = λ v h n. tt;
}

pub exact_u16 : IsExactFormat u16_format
exact_u16 = exact_read (λ n. n < 2 ^ 16) (to_be_bytes w16) tt (number_at {F = Unit {0}} tt w16) (exact_number tt w16 (2 ^ 16) wide16)

pub exact_u32 : IsExactFormat u32_format
exact_u32 = exact_read (λ n. n < 2 ^ 32) (to_be_bytes w32) tt (number_at {F = Unit {0}} tt w32) (exact_number tt w32 (2 ^ 32) wide32)

pub exact_u64 : IsExactFormat u64_format
exact_u64 = exact_read (λ n. n < 2 ^ 64) (to_be_bytes w64) tt (number_at {F = Unit {0}} tt w64) (exact_number tt w64 (2 ^ 64) wide64)

u32_long : (n : ℕ) → length (u32_format.spelling n) ≡ 4
unfolding as_spelled
u32_long n = refl

pub u32_takes : TakesBytes u32_format
u32_takes n h = omega (arith, u32_long n)

-- what is read by a reader takes as many bytes as its spelling
pub takes_by : {V F : Type 0} (Has : V → Type 0) (spelling : V → List ℕ) (reader : List ℕ → Result (V × List ℕ) F) → ((v : V) → 0 < length (spelling v)) → TakesBytes (read_by Has spelling reader)
unfolding as_spelled
takes_by Has spelling reader some v h = some v

-- ---- one byte

byte_found : (bytes : List ℕ) (x : ℕ × List ℕ) → first_byte bytes ≡ Some x → bytes ≡ (x.0 ∷ []) ++ x.1
byte_found [] x e = absurd cc
byte_found (b ∷ bytes) x e = ap (λ (y : ℕ × List ℕ). y.0 ∷ y.1) (same_Some (b, bytes) x e)

byte_below : (bytes : List ℕ) (x : ℕ × List ℕ) → IsBytes bytes → first_byte bytes ≡ Some x → x.0 < 2 ^ 8
byte_below [] x b e = absurd cc
byte_below (c ∷ bytes) x b e = subst (λ (y : ℕ × List ℕ). y.0 < 2 ^ 8) (same_Some (c, bytes) x e) (b 0)

pub exact_u8 : IsExactFormat u8_format
exact_u8 = record {
  found = λ bytes x b e. (tt, tt, byte_found bytes x e);
  again = λ v rest h c. refl;
  counts = λ v h n. tt;
}

-- ---- one value behind another

module _ {A B : Type 0} (a : Format A) (b : Format B) (ea : IsExactFormat a) (eb : IsExactFormat b) where
  abbrev Whole : List ℕ → (A × B) × List ℕ → Type 0
  Whole bytes y = (a then b).Fits y.0 × (a then b).Countable y.0 × (bytes ≡ (a then b).spelling y.0 ++ y.1)

  then_found : (bytes : List ℕ) (x : (A × B) × List ℕ) → IsBytes bytes → (a then b).reading bytes ≡ Some x → Whole bytes x
  then_found bytes x h e =
      let p = bind_some (a.reading bytes) (λ x. b.reading x.1 >>= λ y. Some ((x.0, y.0), y.1)) x e in
      let q = bind_some (b.reading p.0.1) (λ y. Some ((p.0.0, y.0), y.1)) x p.2 in
      let fa = ea.found bytes p.0 h p.1 in
      let fb = eb.found p.0.1 q.0 (IsBytes-rest bytes (a.spelling p.0.0) p.0.1 fa.2 h) q.1 in
      subst (Whole bytes) (same_Some ((p.0.0, q.0.0), q.0.1) x q.2)
      ((fa.0, fb.0), (fa.1, fb.1), fa.2 ∙ ap (λ (r : List ℕ). a.spelling p.0.0 ++ r) fb.2 ∙ sym (append_assoc (a.spelling p.0.0) (b.spelling q.0.0) q.0.1))

  then_again : (v : A × B) (rest : List ℕ) → (a then b).Fits v → (a then b).Countable v → (a then b).reading ((a then b).spelling v ++ rest) ≡ Some (v, rest)
  then_again v rest h c =
      let first : a.reading ((a.spelling v.0 ++ b.spelling v.1) ++ rest) ≡ Some (v.0, b.spelling v.1 ++ rest) = ap a.reading (append_assoc (a.spelling v.0) (b.spelling v.1) rest) ∙ ea.again v.0 (b.spelling v.1 ++ rest) h.0 c.0 in
      some_on (a.reading ((a.spelling v.0 ++ b.spelling v.1) ++ rest)) (λ x. b.reading x.1 >>= λ y. Some ((x.0, y.0), y.1)) (v.0, b.spelling v.1 ++ rest) first
      ∙ some_on (b.reading (b.spelling v.1 ++ rest)) (λ y. Some ((v.0, y.0), y.1)) (v.1, rest) (eb.again v.1 rest h.1 c.1)

  pub exact_then : IsExactFormat (a then b)
  exact_then = record {
    found = then_found;
    again = then_again;
    counts = λ v h n. (ea.counts v.0 h.0 (omega (arith, length-append (a.spelling v.0) (b.spelling v.1))), eb.counts v.1 h.1 (omega (arith, length-append (a.spelling v.0) (b.spelling v.1))));
  }

  pub then_takes : TakesBytes a → TakesBytes (a then b)
  then_takes some v h = omega (arith, some v.0 h.0, length-append (a.spelling v.0) (b.spelling v.1))

-- ---- values made of others

module _ {V W : Type 0} (make : V → W) (parts : W → Option V) (f : Format V) (ef : IsExactFormat f) (there : (v : V) → parts (make v) ≡ Some v) (back : (w : W) (v : V) → parts w ≡ Some v → w ≡ make v) where
  abbrev Made : List ℕ → W × List ℕ → Type 0
  Made bytes y = (made make parts f).Fits y.0 × (made make parts f).Countable y.0 × (bytes ≡ (made make parts f).spelling y.0 ++ y.1)

  made_found : (bytes : List ℕ) (x : W × List ℕ) → IsBytes bytes → (made make parts f).reading bytes ≡ Some x → Made bytes x
  made_found bytes x h e =
      let p = bind_some (f.reading bytes) (λ x. Some (make x.0, x.1)) x e in
      let g = ef.found bytes p.0 h p.1 in
      let at = there p.0.0 in
      subst (Made bytes) (same_Some (make p.0.0, p.0.1) x p.2)
      (subst (λ (o : Option V). IsSomeAnd o f.Fits) (sym at) g.0, subst (λ (o : Option V). IfSome o f.Countable) (sym at) g.1, g.2 ∙ ap (λ (o : Option V). spelled f.spelling o ++ p.0.1) (sym at))

  by_parts : (w : W) (rest : List ℕ) (o : Option V) → parts w ≡ o → IsSomeAnd o f.Fits → IfSome o f.Countable → (made make parts f).reading (spelled f.spelling o ++ rest) ≡ Some (w, rest)
  by_parts w rest None is h c = absurd h
  by_parts w rest (Some v) is h c = some_on (f.reading (f.spelling v ++ rest)) (λ x. Some (make x.0, x.1)) (v, rest) (ef.again v rest h c) ∙ ap (λ (y : W). Some (y, rest)) (sym (back w v is))

  by_length : (o : Option V) → IsSomeAnd o f.Fits → length (spelled f.spelling o) < 2 ^ 32 → IfSome o f.Countable
  by_length None h n = tt
  by_length (Some v) h n = ef.counts v h n

  pub exact_made : IsExactFormat (made make parts f)
  exact_made = record {
    found = made_found;
    again = λ w rest h c. by_parts w rest (parts w) refl h c;
    counts = λ w h n. by_length (parts w) h n;
  }

-- ---- other words for what is spelled

pub exact_of_those : {V : Type 0} (P : V → Type 0) (f : Format V) → IsExactFormat f → ((v : V) → P v → f.Fits v) → ((v : V) → f.Fits v → P v) → IsExactFormat (of_those P f)
exact_of_those P f ef to from = record {
  found = λ bytes x b e. let g = ef.found bytes x b e in (from x.0 g.0, g.1, g.2);
  again = λ v rest h c. ef.again v rest (to v h) c;
  counts = λ v h n. ef.counts v (to v h) n;
}

-- ---- those that pass a test

module _ {V : Type 0} (test : V → Bool) (f : Format V) (ef : IsExactFormat f) where
  abbrev Tested : List ℕ → V × List ℕ → Type 0
  Tested bytes y = (such_that test f).Fits y.0 × f.Countable y.0 × (bytes ≡ f.spelling y.0 ++ y.1)

  such_found : (bytes : List ℕ) (x : V × List ℕ) → IsBytes bytes → (such_that test f).reading bytes ≡ Some x → Tested bytes x
  such_found bytes x b e =
      let p = bind_some (f.reading bytes) (λ x. cond (test x.0) (Some x) None) x e in
      let c = cond_some (test p.0.0) p.0 x p.2 in
      let g = ef.found bytes p.0 b p.1 in
      subst (Tested bytes) c.1 ((g.0, c.0), g.1, g.2)

  pub exact_such : IsExactFormat (such_that test f)
  exact_such = record {
    found = such_found;
    again = λ v rest h c. some_on (f.reading (f.spelling v ++ rest)) (λ x. cond (test x.0) (Some x) None) (v, rest) (ef.again v rest h.0 c) ∙ ap (λ (t : Bool). cond t (Some (v, rest)) None) h.1;
    counts = λ v h n. ef.counts v h.0 n;
  }

-- ---- one value, and none

pub exact_only : {W : Type 0} (w : W) → IsExactFormat (only w)
exact_only {W = W} w = record {
  found = λ bytes x b e. subst (λ (y : W × List ℕ). (y.0 ≡ w) × Unit {0} × (bytes ≡ [] ++ y.1)) (same_Some (w, bytes) x e) (refl, tt, refl);
  again = λ v rest h c. ap (λ (u : W). Some (u, rest)) (sym h);
  counts = λ v h n. tt;
}

pub exact_none : {W : Type 0} → IsExactFormat (no_format {W = W})
exact_none = record {
  found = λ bytes x b e. absurd cc;
  again = λ v rest h c. absurd h;
  counts = λ v h n. absurd h;
}

-- ---- one kind of several

module _ {W : Type 0} (kind : W → ℕ) (behind : ℕ → Format W) (each : (k : ℕ) → IsExactFormat (behind k)) (own : (k : ℕ) (w : W) → (behind k).Fits w → kind w ≡ k) where
  abbrev Chosen : List ℕ → W × List ℕ → Type 0
  Chosen bytes y = (choice kind behind).Fits y.0 × (choice kind behind).Countable y.0 × (bytes ≡ (choice kind behind).spelling y.0 ++ y.1)

  choice_found : (bytes : List ℕ) (x : W × List ℕ) → IsBytes bytes → (choice kind behind).reading bytes ≡ Some x → Chosen bytes x
  choice_found bytes x b e =
      let p = bind_some (first_byte bytes) (λ k. (behind k.0).reading k.1) x e in
      let front = byte_found bytes p.0 p.1 in
      let g = (each p.0.0).found p.0.1 x (IsBytes-rest bytes (p.0.0 ∷ []) p.0.1 front b) p.2 in
      let is = own p.0.0 x.0 g.0 in
      (subst (λ (k : ℕ). (behind k).Fits x.0) (sym is) g.0, subst (λ (k : ℕ). (behind k).Countable x.0) (sym is) g.1, front ∙ ap (λ (r : List ℕ). p.0.0 ∷ r) g.2 ∙ ap (λ (k : ℕ). k ∷ ((behind k).spelling x.0 ++ x.1)) (sym is))

  pub exact_choice : IsExactFormat (choice kind behind)
  exact_choice = record {
    found = choice_found;
    again = λ w rest h c. (each (kind w)).again w rest h c;
    counts = λ w h n. (each (kind w)).counts w h (omega arith);
  }

-- ---- lists

module _ {V : Type 0} (f : Format V) (ef : IsExactFormat f) where
  abbrev Several : ℕ → List ℕ → List V × List ℕ → Type 0
  Several n bytes y = (length y.0 ≡ n) × AllByRecursion f.Fits y.0 × AllByRecursion f.Countable y.0 × (bytes ≡ flat_map f.spelling y.0 ++ y.1)

  several_found : (n : ℕ) (bytes : List ℕ) (x : List V × List ℕ) → IsBytes bytes → several f.reading n bytes ≡ Some x → Several n bytes x
  unfolding several
  several_found zero bytes x b e = subst (Several 0 bytes) (same_Some ([], bytes) x e) (refl, tt, tt, refl)
  several_found (suc n) bytes x b e =
      let p = bind_some (f.reading bytes) (λ first. several f.reading n first.1 >>= λ others. Some (first.0 ∷ others.0, others.1)) x e in
      let q = bind_some (several f.reading n p.0.1) (λ others. Some (p.0.0 ∷ others.0, others.1)) x p.2 in
      let g = ef.found bytes p.0 b p.1 in
      let s = several_found n p.0.1 q.0 (IsBytes-rest bytes (f.spelling p.0.0) p.0.1 g.2 b) q.1 in
      let joined : bytes ≡ flat_map f.spelling (p.0.0 ∷ q.0.0) ++ q.0.1 = g.2 ∙ ap (λ (r : List ℕ). f.spelling p.0.0 ++ r) s.3 ∙ sym (append_assoc (f.spelling p.0.0) (flat_map f.spelling q.0.0) q.0.1) ∙ ap (λ (t : List ℕ). t ++ q.0.1) (sym (flat_map-cons f.spelling p.0.0 q.0.0)) in
      subst (Several (suc n) bytes) (same_Some (p.0.0 ∷ q.0.0, q.0.1) x q.2) (ap suc s.0, (g.0, s.1), (g.1, s.2), joined)

  several_again : (vs : List V) (rest : List ℕ) → AllByRecursion f.Fits vs → AllByRecursion f.Countable vs → several f.reading (length vs) (flat_map f.spelling vs ++ rest) ≡ Some (vs, rest)
  unfolding several
  several_again [] rest h c = refl
  several_again (v ∷ vs) rest h c =
      let spelt : flat_map f.spelling (v ∷ vs) ++ rest ≡ f.spelling v ++ (flat_map f.spelling vs ++ rest) = ap (λ (t : List ℕ). t ++ rest) (flat_map-cons f.spelling v vs) ∙ append_assoc (f.spelling v) (flat_map f.spelling vs) rest in
      let first : f.reading (flat_map f.spelling (v ∷ vs) ++ rest) ≡ Some (v, flat_map f.spelling vs ++ rest) = ap f.reading spelt ∙ ef.again v (flat_map f.spelling vs ++ rest) h.0 c.0 in
      some_on (f.reading (flat_map f.spelling (v ∷ vs) ++ rest)) (λ first. several f.reading (length vs) first.1 >>= λ others. Some (first.0 ∷ others.0, others.1)) (v, flat_map f.spelling vs ++ rest) first
      ∙ some_on (several f.reading (length vs) (flat_map f.spelling vs ++ rest)) (λ others. Some (v ∷ others.0, others.1)) (vs, rest) (several_again vs rest h.1 c.1)

  several_counts : (vs : List V) → AllByRecursion f.Fits vs → length (flat_map f.spelling vs) < 2 ^ 32 → AllByRecursion f.Countable vs
  several_counts [] h n = tt
  several_counts (v ∷ vs) h n =
      let long : length (flat_map f.spelling (v ∷ vs)) ≡ length (f.spelling v) + length (flat_map f.spelling vs) = ap length (flat_map-cons f.spelling v vs) ∙ length-append (f.spelling v) (flat_map f.spelling vs) in
      (ef.counts v h.0 (omega (arith, long, n)), several_counts vs h.1 (omega (arith, long, n)))

  several_long : TakesBytes f → (vs : List V) → AllByRecursion f.Fits vs → length vs ≤ length (flat_map f.spelling vs)
  several_long some [] h = omega arith
  several_long some (v ∷ vs) h =
      let long : length (flat_map f.spelling (v ∷ vs)) ≡ length (f.spelling v) + length (flat_map f.spelling vs) = ap length (flat_map-cons f.spelling v vs) ∙ length-append (f.spelling v) (flat_map f.spelling vs) in
      omega (arith, long, some v h.0, several_long some vs h.1)

  abbrev Listed : List ℕ → List V × List ℕ → Type 0
  Listed bytes y = (list f).Fits y.0 × (list f).Countable y.0 × (bytes ≡ (list f).spelling y.0 ++ y.1)

  list_found : (bytes : List ℕ) (x : List V × List ℕ) → IsBytes bytes → (list f).reading bytes ≡ Some x → Listed bytes x
  list_found bytes x b e =
      let p = bind_some (u32_format.reading bytes) (λ count. several f.reading count.0 count.1) x e in
      let g = exact_u32.found bytes p.0 b p.1 in
      let s = several_found p.0.0 p.0.1 x (IsBytes-rest bytes (u32_format.spelling p.0.0) p.0.1 g.2 b) p.2 in
      let joined : bytes ≡ (u32_format.spelling (length x.0) ++ flat_map f.spelling x.0) ++ x.1 = g.2 ∙ ap (λ (r : List ℕ). u32_format.spelling p.0.0 ++ r) s.3 ∙ sym (append_assoc (u32_format.spelling p.0.0) (flat_map f.spelling x.0) x.1) ∙ ap (λ (n : ℕ). (u32_format.spelling n ++ flat_map f.spelling x.0) ++ x.1) (sym s.0) in
      (s.1, (subst (λ (n : ℕ). n < 2 ^ 32) (sym s.0) g.0, s.2), joined)

  list_again : (vs : List V) (rest : List ℕ) → (list f).Fits vs → (list f).Countable vs → (list f).reading ((list f).spelling vs ++ rest) ≡ Some (vs, rest)
  list_again vs rest h c =
      let count : u32_format.reading ((u32_format.spelling (length vs) ++ flat_map f.spelling vs) ++ rest) ≡ Some (length vs, flat_map f.spelling vs ++ rest) = ap u32_format.reading (append_assoc (u32_format.spelling (length vs)) (flat_map f.spelling vs) rest) ∙ exact_u32.again (length vs) (flat_map f.spelling vs ++ rest) c.0 tt in
      some_on (u32_format.reading ((u32_format.spelling (length vs) ++ flat_map f.spelling vs) ++ rest)) (λ count. several f.reading count.0 count.1) (length vs, flat_map f.spelling vs ++ rest) count ∙ several_again vs rest h c.1

  pub exact_list : TakesBytes f → IsExactFormat (list f)
  exact_list some = record {
    found = list_found;
    again = list_again;
    counts = λ vs h n.
        let long = length-append (u32_format.spelling (length vs)) (flat_map f.spelling vs) in
        (omega (arith, long, n, several_long some vs h), several_counts vs h (omega (arith, long, n)));
  }

  pub list_takes : TakesBytes (list f)
  list_takes vs h = omega (arith, u32_long (length vs), length-append (u32_format.spelling (length vs)) (flat_map f.spelling vs))

  abbrev ShortListed : List ℕ → List V × List ℕ → Type 0
  ShortListed bytes y = (short_list f).Fits y.0 × (short_list f).Countable y.0 × (bytes ≡ (short_list f).spelling y.0 ++ y.1)

  short_found : (bytes : List ℕ) (x : List V × List ℕ) → IsBytes bytes → (short_list f).reading bytes ≡ Some x → ShortListed bytes x
  short_found bytes x b e =
      let p = bind_some (first_byte bytes) (λ count. several f.reading count.0 count.1) x e in
      let front = byte_found bytes p.0 p.1 in
      let s = several_found p.0.0 p.0.1 x (IsBytes-rest bytes (p.0.0 ∷ []) p.0.1 front b) p.2 in
      ((subst (λ (n : ℕ). n < 2 ^ 8) (sym s.0) (byte_below bytes p.0 b p.1), s.1), s.2, front ∙ ap (λ (r : List ℕ). p.0.0 ∷ r) s.3 ∙ ap (λ (n : ℕ). n ∷ (flat_map f.spelling x.0 ++ x.1)) (sym s.0))

  pub exact_short : IsExactFormat (short_list f)
  exact_short = record {
    found = short_found;
    again = λ vs rest h c. several_again vs rest h.1 c;
    counts = λ vs h n. several_counts vs h.1 (omega arith);
  }
