-- What every exact reader of a format has in common, and how readers of parts make one of the whole.
use Rattle.std.proofs.Common.{◌≡◌, ℕ, ◌+◌, ◌-◌, ◌<◌, ◌≤◌, List, [], ◌++◌, length, get_or, take, drop, Result, Ok, Err, refl, sym, ap, subst, ◌∙◌, append_assoc, arith, inl, inr, ◌⊎◌}
use Rattle.std.proofs.lemmas.List.{append-nil, get_or-append-add, length-append, length-drop}
use Rattle.std.proofs.Math.Seq.{take-append_seam, drop-append_seam}
use Rattle.thor_value.specs.Formats.{◌>>=◌, BeginsOne, BeginsWithOne, IsAtFront, AreApart}

-- each number of a list of bytes is below 256
abbrev pub IsBytes : List ℕ → Type 0
IsBytes bytes = (i : ℕ) → get_or bytes i 0 < 256

pub IsBytes-behind : (front bytes : List ℕ) → IsBytes (front ++ bytes) → IsBytes bytes
IsBytes-behind front bytes h i = subst (λ (n : ℕ). n < 256) (get_or-append-add front bytes i 0) (h (length front + i))

pub IsBytes-rest : (bytes front rest : List ℕ) → bytes ≡ front ++ rest → IsBytes bytes → IsBytes rest
IsBytes-rest bytes front rest e h = IsBytes-behind front rest (subst (λ (b : List ℕ). IsBytes b) e h)

-- ---- steps that may fail

pub bind_ok : {A B F : Type 0} (r : Result A F) (f : A → Result B F) (y : B) → (r >>= f) ≡ Ok y → (x : A) × (r ≡ Ok x) × (f x ≡ Ok y)
bind_ok (Ok x) f y e = (x, refl, e)
bind_ok (Err d) f y e = absurd cc

pub bind_err : {A B F : Type 0} (r : Result A F) (f : A → Result B F) (d : F) → (r >>= f) ≡ Err d → (r ≡ Err d) ⊎ ((x : A) × (r ≡ Ok x) × (f x ≡ Err d))
bind_err (Ok x) f d e = inr (x, refl, e)
bind_err (Err c) f d e = inl cc

pub err_on : {A B F : Type 0} (r : Result A F) (f : A → Result B F) (d : F) → r ≡ Err d → (r >>= f) ≡ Err d
err_on {A = A} {F = F} r f d e = ap (λ (q : Result A F). q >>= f) e

pub ok_on : {A B F : Type 0} (r : Result A F) (f : A → Result B F) (x : A) → r ≡ Ok x → (r >>= f) ≡ f x
ok_on {A = A} {F = F} r f x e = ap (λ (q : Result A F). q >>= f) e

-- ---- exact readers

-- A reader is exact: what it reads is spelled so, what is spelled so it reads, it says that the bytes
-- are too short exactly on the beginnings of spellings, and any other fault stands whatever follows.
pub record IsExact {V F : Type 0} (Has : V → Type 0) (spelling : V → List ℕ) (short : F) (read : List ℕ → Result (V × List ℕ) F) : Type 0 where
  pub found : (bytes : List ℕ) (x : V × List ℕ) → IsBytes bytes → read bytes ≡ Ok x → Has x.0 × (bytes ≡ spelling x.0 ++ x.1)
  pub again : (v : V) (rest : List ℕ) → Has v → read (spelling v ++ rest) ≡ Ok (v, rest)
  pub begins : (bytes : List ℕ) → IsBytes bytes → read bytes ≡ Err short → BeginsOne Has spelling bytes
  pub stays : (bytes more : List ℕ) (e : F) → IsBytes bytes → read bytes ≡ Err e → (e ≡ short → ⊥) → read (bytes ++ more) ≡ Err e

-- the reader of one value, which has no bytes
pub exact_done : {V F : Type 0} (Has : V → Type 0) (short : F) (v : V) → Has v → ((w : V) → Has w → w ≡ v) → IsExact Has (λ _. []) short (λ rest. Ok (v, rest))
exact_done {V = V} {F = F} Has short v h only = record {
  found = λ bytes x _ e. let p : (v, bytes) ≡ x = cc in subst (λ (y : V × List ℕ). Has y.0 × (bytes ≡ [] ++ y.1)) p (h, refl);
  again = λ w rest hw. ap (λ (u : V). Ok (u, rest)) (sym (only w hw));
  begins = λ bytes _ e. absurd cc;
  stays = λ bytes more e _ d _. absurd cc;
}

-- the reader of a part, and then one of what stands behind such a part
module _ {A V F : Type 0} (HasA : A → Type 0) (part : A → List ℕ) (Has : V → Type 0) (tail : V → List ℕ) (spelling : V → List ℕ) (key : V → A) (short : F)
    (first : List ℕ → Result (A × List ℕ) F) (second : A → List ℕ → Result (V × List ℕ) F)
    (one : IsExact HasA part short first) (two : (a : A) → HasA a → IsExact (λ v. Has v × (key v ≡ a)) tail short (second a))
    (keyed : (v : V) → Has v → HasA (key v) × (spelling v ≡ part (key v) ++ tail v))
    (some : (a : A) → HasA a → (v : V) × Has v × (key v ≡ a)) where
  abbrev read : List ℕ → Result (V × List ℕ) F
  read bytes = first bytes >>= λ a. second a.0 a.1

  then_found : (bytes : List ℕ) (x : V × List ℕ) → IsBytes bytes → read bytes ≡ Ok x → Has x.0 × (bytes ≡ spelling x.0 ++ x.1)
  then_found bytes x b e =
      let p = bind_ok (first bytes) (λ a. second a.0 a.1) x e in
      let f = one.found bytes p.0 b p.1 in
      let s = (two p.0.0 f.0).found p.0.1 x (IsBytes-rest bytes (part p.0.0) p.0.1 f.1 b) p.2 in
      let k = keyed x.0 s.0.0 in
      (s.0.0, f.1 ∙ ap (λ (r : List ℕ). part p.0.0 ++ r) s.1 ∙ sym (append_assoc (part p.0.0) (tail x.0) x.1) ∙ ap (λ (a : A). (part a ++ tail x.0) ++ x.1) (sym s.0.1) ∙ ap (λ (t : List ℕ). t ++ x.1) (sym k.1))

  then_again : (v : V) (rest : List ℕ) → Has v → read (spelling v ++ rest) ≡ Ok (v, rest)
  then_again v rest h =
      let k = keyed v h in
      let regrouped : spelling v ++ rest ≡ part (key v) ++ (tail v ++ rest) = ap (λ (t : List ℕ). t ++ rest) k.1 ∙ append_assoc (part (key v)) (tail v) rest in
      let f : first (spelling v ++ rest) ≡ Ok (key v, tail v ++ rest) = ap first regrouped ∙ one.again (key v) (tail v ++ rest) k.0 in
      ok_on (first (spelling v ++ rest)) (λ a. second a.0 a.1) (key v, tail v ++ rest) f ∙ (two (key v) k.0).again v rest (h, refl)

  begins_first : (bytes : List ℕ) → BeginsOne HasA part bytes → BeginsOne Has spelling bytes
  begins_first bytes (a, more, h, e, n) =
      let s = some a h in
      let k = keyed s.0 s.1 in
      let whole : spelling s.0 ≡ bytes ++ (more ++ tail s.0) = k.1 ∙ ap (λ (b : A). part b ++ tail s.0) s.2 ∙ ap (λ (t : List ℕ). t ++ tail s.0) e ∙ append_assoc bytes more (tail s.0) in
      (s.0, more ++ tail s.0, s.1, whole, omega (arith, length-append more (tail s.0)))

  begins_second : (bytes : List ℕ) (a : A) (rest : List ℕ) → bytes ≡ part a ++ rest → BeginsOne (λ v. Has v × (key v ≡ a)) tail rest → BeginsOne Has spelling bytes
  begins_second bytes a rest e (v, more, h, t, n) =
      let k = keyed v h.0 in
      let whole : spelling v ≡ bytes ++ more = k.1 ∙ ap (λ (b : A). part b ++ tail v) h.1 ∙ ap (λ (u : List ℕ). part a ++ u) t ∙ sym (append_assoc (part a) rest more) ∙ ap (λ (u : List ℕ). u ++ more) (sym e) in
      (v, more, h.0, whole, n)

  then_begins : (bytes : List ℕ) → IsBytes bytes → read bytes ≡ Err short → BeginsOne Has spelling bytes
  then_begins bytes b e =
      elim (bind_err (first bytes) (λ a. second a.0 a.1) short e) [
        | inl f ↦ begins_first bytes (one.begins bytes b f)
        | inr p ↦
            let f = one.found bytes p.0 b p.1 in
            begins_second bytes p.0.0 p.0.1 f.1 ((two p.0.0 f.0).begins p.0.1 (IsBytes-rest bytes (part p.0.0) p.0.1 f.1 b) p.2)
      ]

  then_stays : (bytes more : List ℕ) (d : F) → IsBytes bytes → read bytes ≡ Err d → (d ≡ short → ⊥) → read (bytes ++ more) ≡ Err d
  then_stays bytes more d b e n =
      elim (bind_err (first bytes) (λ a. second a.0 a.1) d e) [
        | inl f ↦ err_on (first (bytes ++ more)) (λ a. second a.0 a.1) d (one.stays bytes more d b f n)
        | inr p ↦
            let f = one.found bytes p.0 b p.1 in
            let regrouped : bytes ++ more ≡ part p.0.0 ++ (p.0.1 ++ more) = ap (λ (t : List ℕ). t ++ more) f.1 ∙ append_assoc (part p.0.0) p.0.1 more in
            let g : first (bytes ++ more) ≡ Ok (p.0.0, p.0.1 ++ more) = ap first regrouped ∙ one.again p.0.0 (p.0.1 ++ more) f.0 in
            ok_on (first (bytes ++ more)) (λ a. second a.0 a.1) (p.0.0, p.0.1 ++ more) g ∙ (two p.0.0 f.0).stays p.0.1 more d (IsBytes-rest bytes (part p.0.0) p.0.1 f.1 b) p.2 n
      ]

  pub exact_then : IsExact Has spelling short (λ bytes. first bytes >>= λ a. second a.0 a.1)
  exact_then = record { found = then_found; again = then_again; begins = then_begins; stays = then_stays }

-- the same reader, of values that are said in another way
pub exact_as : {V F : Type 0} (Has Also : V → Type 0) (spelling : V → List ℕ) (short : F) (read : List ℕ → Result (V × List ℕ) F) → IsExact Has spelling short read
    → ((v : V) → Has v → Also v) → ((v : V) → Also v → Has v) → IsExact Also spelling short read
exact_as {V = V} Has Also spelling short read ok to from = record {
  found = λ bytes x b e. let f = ok.found bytes x b e in (to x.0 f.0, f.1);
  again = λ v rest h. ok.again v rest (from v h);
  begins = λ bytes b e. let f = ok.begins bytes b e in (f.0, f.1, to f.0 f.2, f.3, f.4);
  stays = ok.stays;
}

-- the same reader, of spellings that are said in another way
pub exact_spelled : {V F : Type 0} (Has : V → Type 0) (spelling also : V → List ℕ) (short : F) (read : List ℕ → Result (V × List ℕ) F) → IsExact Has spelling short read
    → ((v : V) → Has v → spelling v ≡ also v) → IsExact Has also short read
exact_spelled Has spelling also short read ok same = record {
  found = λ bytes x b e. let f = ok.found bytes x b e in (f.0, f.1 ∙ ap (λ (t : List ℕ). t ++ x.1) (same x.0 f.0));
  again = λ v rest h. ap (λ (t : List ℕ). read (t ++ rest)) (sym (same v h)) ∙ ok.again v rest h;
  begins = λ bytes b e. let f = ok.begins bytes b e in (f.0, f.1, f.2, sym (same f.0 f.2) ∙ f.3, f.4);
  stays = ok.stays;
}

-- ---- what the public clauses say of an exact reader

abbrev done : {X F : Type 0} → X → Result X F
done x = Ok x

-- a spelling and what is behind it, taken apart by the length of what is behind
pub parts_of : (bytes text rest : List ℕ) (count : ℕ) → bytes ≡ text ++ rest → rest ≡ drop count bytes → count ≤ length bytes → (count ≡ length text) × (take count bytes ≡ text)
parts_of bytes text rest count e d n =
    let whole : length bytes ≡ length text + length rest = ap length e ∙ length-append text rest in
    let behind : length rest ≡ length bytes - count = ap length d ∙ length-drop count bytes in
    let long : count ≡ length text = omega arith in
    (long, ap (λ (k : ℕ). take k bytes) long ∙ ap (λ (b : List ℕ). take (length text) b) e ∙ take-append_seam text rest)

module _ {V F : Type 0} (Has : V → Type 0) (spelling : V → List ℕ) (short : F) (read : List ℕ → Result (V × List ℕ) F) (ok : IsExact Has spelling short read) where
  same_ok : (p q : V × List ℕ) → done {F = F} p ≡ done q → p ≡ q
  same_ok p q h = cc

  pub apart : AreApart Has spelling
  apart a b x y ha hb e =
      let p : (a, x) ≡ (b, y) = same_ok (a, x) (b, y) (sym (ok.again a x ha) ∙ ap read e ∙ ok.again b y hb) in
      (ap (λ (q : V × List ℕ). q.0) p, ap (λ (q : V × List ℕ). q.1) p)

  -- what is read is a value's spelling, and no more
  pub at_front : (bytes : List ℕ) (x : V × ℕ) → IsBytes bytes → read bytes ≡ Ok (x.0, drop x.1 bytes) → x.1 ≤ length bytes → IsAtFront Has spelling bytes x.0 x.1
  at_front bytes x b e n =
      let f = ok.found bytes (x.0, drop x.1 bytes) b e in
      let p = parts_of bytes (spelling x.0) (drop x.1 bytes) x.1 f.1 refl n in
      record { has = f.0; front = p.1; all_of_it = p.0 }

  -- what is spelled is read, with its length
  pub reads_it : (bytes : List ℕ) (v : V) (rest : List ℕ) (x : V × ℕ) → Has v → bytes ≡ spelling v ++ rest → read bytes ≡ Ok (x.0, drop x.1 bytes) → x.1 ≤ length bytes → x ≡ (v, length (spelling v))
  reads_it bytes v rest x h e r n =
      let p : (v, rest) ≡ (x.0, drop x.1 bytes) = same_ok (v, rest) (x.0, drop x.1 bytes) (sym (ok.again v rest h) ∙ sym (ap read e) ∙ r) in
      let q = parts_of bytes (spelling v) rest x.1 e (ap (λ (y : V × List ℕ). y.1) p) n in
      let value : x.0 ≡ v = sym (ap (λ (y : V × List ℕ). y.0) p) in
      ap (λ (w : V). (w, x.1)) value ∙ ap (λ (k : ℕ). (v, k)) q.0

  -- no fault where a spelling stands
  pub no_fault : (bytes : List ℕ) (d : F) → BeginsWithOne Has spelling bytes → read bytes ≡ Err d → ⊥
  no_fault bytes d (v, rest, h, e) r =
      let a : read bytes ≡ Ok (v, rest) = ap read e ∙ ok.again v rest h in
      let clash : done {X = V × List ℕ} {F = F} (v, rest) ≡ Err d = sym a ∙ r in
      cc

  -- where a spelling only begins, nothing is read
  pub nothing_read : (bytes : List ℕ) (x : V × List ℕ) → IsBytes bytes → BeginsOne Has spelling bytes → read bytes ≡ Ok x → ⊥
  nothing_read bytes x b (v, more, h, e, n) r =
      let f = ok.found bytes x b r in
      let longer : spelling v ++ [] ≡ spelling x.0 ++ (x.1 ++ more) = append-nil (spelling v) ∙ e ∙ ap (λ (t : List ℕ). t ++ more) f.1 ∙ append_assoc (spelling x.0) x.1 more in
      let same = apart v x.0 [] (x.1 ++ more) h f.0 longer in
      let none : 0 ≡ length (x.1 ++ more) = ap length same.1 in
      absurd (omega (arith, length-append x.1 more, none, n))

  -- where a spelling only begins, there is no other fault
  pub no_other_fault : (bytes : List ℕ) (d : F) → IsBytes bytes → BeginsOne Has spelling bytes → read bytes ≡ Err d → (d ≡ short → ⊥) → ⊥
  no_other_fault bytes d b (v, more, h, e, n) r other =
      let s : read (bytes ++ more) ≡ Err d = ok.stays bytes more d b r other in
      let a : read (bytes ++ more) ≡ Ok (v, []) = ap read (sym e) ∙ ap read (sym (append-nil (spelling v))) ∙ ok.again v [] h in
      let clash : done {X = V × List ℕ} {F = F} (v, []) ≡ Err d = sym a ∙ s in
      cc

  -- what is left is no longer than the bytes
  pub no_longer : (bytes : List ℕ) (x : V × List ℕ) → IsBytes bytes → read bytes ≡ Ok x → length x.1 ≤ length bytes
  no_longer bytes x b e =
      let f = ok.found bytes x b e in
      omega (arith, ap length f.1, length-append (spelling x.0) x.1)

  -- what is left, by the length of what was read
  pub counted : (bytes : List ℕ) (x : V × List ℕ) → IsBytes bytes → read bytes ≡ Ok x → (read bytes ≡ Ok (x.0, drop (length bytes - length x.1) bytes)) × (length bytes - length x.1 ≤ length bytes)
  counted bytes x b e =
      let f = ok.found bytes x b e in
      let long : length bytes - length x.1 ≡ length (spelling x.0) = omega (arith, ap length f.1, length-append (spelling x.0) x.1) in
      let left : drop (length bytes - length x.1) bytes ≡ x.1 = ap (λ (k : ℕ). drop k bytes) long ∙ ap (λ (t : List ℕ). drop (length (spelling x.0)) t) f.1 ∙ drop-append_seam (spelling x.0) x.1 in
      (e ∙ ap (λ (t : List ℕ). Ok (x.0, t)) (sym left), omega arith)
