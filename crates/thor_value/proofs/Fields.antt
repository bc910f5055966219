-- The readers of bytes and numbers are exact.
use Rattle.std.proofs.Common.{◌≡◌, ℕ, zero, suc, ◌+◌, ◌-◌, ◌^◌, ◌<◌, ◌≤◌, Bool, true, false, cond, ltb, List, [], ◌∷◌, ◌++◌, length, get_or, take, drop, Ok, Err, refl, sym, ap, subst, ◌∙◌, arith, inl, inr}
use Rattle.std.specs.Int.{Width, w16, w32, w64, byte_len, from_be_bytes, to_be_bytes}
use Rattle.std.proofs.lemmas.Bool.{cases_lt, ltb-false, ltb-true, le-ltb}
use Rattle.std.proofs.lemmas.List.{take_at, drop_at, take-append-drop, length-append, length-take, get_or-drop, get_or-take, get_or_past, get_or_append_left, get_or-append_right}
use Rattle.std.proofs.lemmas.Nat.{be_bytes_2, be_bytes_4, be_bytes_8, from_be_bytes-to_be_bytes_2, from_be_bytes-to_be_bytes_4, from_be_bytes-to_be_bytes_8}
use Rattle.thor_value.specs.Formats.{BeginsOne}
use Rattle.thor_value.specs.Reading.{byte_at, number_at}
use Rattle.thor_value.proofs.Exactness.{IsBytes, IsExact}

-- ---- one byte that passes a test

chosen_ok : {A F : Type 0} (b : Bool) (x y : A) (d : F) → cond b (Ok x) (Err d) ≡ Ok y → (b ≡ true) × (x ≡ y)
chosen_ok true x y d e = (refl, cc)
chosen_ok false x y d e = absurd cc

chosen_err : {A F : Type 0} (b : Bool) (x : A) (d c : F) → cond b (Ok x) (Err d) ≡ Err c → (b ≡ false) × (d ≡ c)
chosen_err true x d c e = absurd cc
chosen_err false x d c e = (refl, cc)

module _ {F : Type 0} (short : F) (passes : ℕ → Bool) (other : ℕ → F) (Has : ℕ → Type 0)
    (yes : (b : ℕ) → Has b → passes b ≡ true) (no : (b : ℕ) → passes b ≡ true → Has b) (some : (b : ℕ) × Has b) (apart : (b : ℕ) → other b ≡ short → ⊥) where
  byte_found : (bytes : List ℕ) (x : ℕ × List ℕ) → IsBytes bytes → byte_at short passes other bytes ≡ Ok x → Has x.0 × (bytes ≡ (x.0 ∷ []) ++ x.1)
  byte_found [] x b e = absurd cc
  byte_found (c ∷ bytes) x b e =
      let p = chosen_ok (passes c) (c, bytes) x (other c) e in
      subst (λ (y : ℕ × List ℕ). Has y.0 × ((c ∷ bytes) ≡ (y.0 ∷ []) ++ y.1)) p.1 (no c p.0, refl)

  byte_again : (b : ℕ) (rest : List ℕ) → Has b → byte_at short passes other ((b ∷ []) ++ rest) ≡ Ok (b, rest)
  byte_again b rest h = ap (λ (t : Bool). cond t (Ok (b, rest)) (Err (other b))) (yes b h)

  byte_begins : (bytes : List ℕ) → IsBytes bytes → byte_at short passes other bytes ≡ Err short → BeginsOne Has (λ b. b ∷ []) bytes
  byte_begins [] b e = (some.0, some.0 ∷ [], some.1, refl, omega arith)
  byte_begins (c ∷ bytes) b e = absurd (apart c (chosen_err (passes c) (c, bytes) (other c) short e).1)

  byte_stays : (bytes more : List ℕ) (d : F) → IsBytes bytes → byte_at short passes other bytes ≡ Err d → (d ≡ short → ⊥) → byte_at short passes other (bytes ++ more) ≡ Err d
  byte_stays [] more d b e n = absurd (n (same e))
    where
      same : byte_at short passes other [] ≡ Err d → d ≡ short
      same e = cc
  byte_stays (c ∷ bytes) more d b e n =
      let p = chosen_err (passes c) (c, bytes) (other c) d e in
      ap (λ (t : Bool). cond t (Ok (c, bytes ++ more)) (Err (other c))) p.0 ∙ ap (λ (f : F). Err f) p.1

  pub exact_byte : IsExact Has (λ b. b ∷ []) short (byte_at short passes other)
  exact_byte = record { found = byte_found; again = byte_again; begins = byte_begins; stays = byte_stays }

-- ---- numbers of a width

IsBytes-drop : (n : ℕ) (bytes : List ℕ) → IsBytes bytes → IsBytes (drop n bytes)
IsBytes-drop n bytes h i = rw get_or-drop (h (n + i))

IsBytes-take : (n : ℕ) (bytes : List ℕ) → IsBytes bytes → IsBytes (take n bytes)
IsBytes-take n bytes h i =
    elim (cases_lt i n) [
      | inl lt ↦ rw (get_or-take n bytes i 0 lt) (h i)
      | inr le ↦ rw (get_or_past (take n bytes) i 0 (omega (arith, length-take n bytes))) (omega arith)
    ]

-- so many bytes of 0
abbrev pub zeros : ℕ → List ℕ
zeros zero = []
zeros (suc n) = 0 ∷ zeros n

pub length-zeros : (n : ℕ) → length (zeros n) ≡ n
length-zeros zero = refl
length-zeros (suc n) = ap suc (length-zeros n)

zeros_are : (n i : ℕ) → get_or (zeros n) i 0 ≡ 0
zeros_are zero i = refl
zeros_are (suc n) zero = refl
zeros_are (suc n) (suc i) = zeros_are n i

pub IsBytes-padded : (bytes : List ℕ) (n : ℕ) → IsBytes bytes → IsBytes (bytes ++ zeros n)
IsBytes-padded bytes n h i =
    elim (cases_lt i (length bytes)) [
      | inl lt ↦ rw (get_or_append_left bytes (zeros n) 0 i lt) (h i)
      | inr le ↦ rw (get_or-append_right bytes (zeros n) (length bytes) i 0 refl le, zeros_are n (i - length bytes)) (omega arith)
    ]

-- what is known of the numbers of a width
pub record IsWide (w : Width) (limit : ℕ) : Type 0 where
  pub long : (n : ℕ) → length (to_be_bytes w n) ≡ byte_len w
  pub back : (bytes : List ℕ) → length bytes ≡ byte_len w → IsBytes bytes → to_be_bytes w (from_be_bytes w bytes) ≡ bytes
  pub again : (n : ℕ) → n < limit → from_be_bytes w (to_be_bytes w n) ≡ n
  pub below : (bytes : List ℕ) → IsBytes bytes → from_be_bytes w bytes < limit

pub wide16 : IsWide w16 (2 ^ 16)
wide16 = record {
  long = λ n. refl;
  back = λ bytes len fits. be_bytes_2 bytes _ len fits refl;
  again = λ n lt. from_be_bytes-to_be_bytes_2 n lt;
  below = λ bytes fits. omega (arith, fits 0, fits 1);
}

pub wide32 : IsWide w32 (2 ^ 32)
wide32 = record {
  long = λ n. refl;
  back = λ bytes len fits. be_bytes_4 bytes _ len fits refl;
  again = λ n lt. from_be_bytes-to_be_bytes_4 n lt;
  below = λ bytes fits. omega (arith, fits 0, fits 1, fits 2, fits 3);
}

pub wide64 : IsWide w64 (2 ^ 64)
wide64 = record {
  long = λ n. refl;
  back = λ bytes len fits. be_bytes_8 bytes _ len fits refl;
  again = λ n lt. from_be_bytes-to_be_bytes_8 n lt;
  below = λ bytes fits. omega (arith, fits 0, fits 1, fits 2, fits 3, fits 4, fits 5, fits 6, fits 7);
}

guard_ok : {A F : Type 0} (b : Bool) (d : F) (x y : A) → cond b (Err d) (Ok x) ≡ Ok y → (b ≡ false) × (x ≡ y)
guard_ok true d x y e = absurd cc
guard_ok false d x y e = (refl, cc)

guard_err : {A F : Type 0} (b : Bool) (d c : F) (x : A) → cond b (Err d) (Ok x) ≡ Err c → (b ≡ true) × (d ≡ c)
guard_err true d c x e = (refl, cc)
guard_err false d c x e = absurd cc

module _ {F : Type 0} (short : F) (w : Width) (limit : ℕ) (wide : IsWide w limit) where
  abbrev whole : List ℕ → ℕ × List ℕ
  whole bytes = (from_be_bytes w (take (byte_len w) bytes), drop (byte_len w) bytes)

  number_found : (bytes : List ℕ) (x : ℕ × List ℕ) → IsBytes bytes → number_at short w bytes ≡ Ok x → (x.0 < limit) × (bytes ≡ to_be_bytes w x.0 ++ x.1)
  number_found bytes x fits e =
      let g = guard_ok (ltb (length bytes) (byte_len w)) short (whole bytes) x e in
      let long : byte_len w ≤ length bytes = ltb-false _ _ g.0 in
      let front = IsBytes-take (byte_len w) bytes fits in
      let back : to_be_bytes w (from_be_bytes w (take (byte_len w) bytes)) ≡ take (byte_len w) bytes = wide.back (take (byte_len w) bytes) (omega (arith, length-take (byte_len w) bytes)) front in
      subst (λ (y : ℕ × List ℕ). (y.0 < limit) × (bytes ≡ to_be_bytes w y.0 ++ y.1)) g.1
      (wide.below (take (byte_len w) bytes) front, sym (ap (λ (t : List ℕ). t ++ drop (byte_len w) bytes) back ∙ take-append-drop (byte_len w) bytes))

  number_again : (n : ℕ) (rest : List ℕ) → n < limit → number_at short w (to_be_bytes w n ++ rest) ≡ Ok (n, rest)
  number_again n rest lt =
      let len = wide.long n in
      let long : ltb (length (to_be_bytes w n ++ rest)) (byte_len w) ≡ false = le-ltb _ _ (omega (arith, length-append (to_be_bytes w n) rest)) in
      rw (long, take_at (to_be_bytes w n) rest (byte_len w) len, drop_at (to_be_bytes w n) rest (byte_len w) len, wide.again n lt) refl

  number_begins : (bytes : List ℕ) → IsBytes bytes → number_at short w bytes ≡ Err short → BeginsOne (λ n. n < limit) (to_be_bytes w) bytes
  number_begins bytes fits e =
      let g = guard_err (ltb (length bytes) (byte_len w)) short short (whole bytes) e in
      let few : length bytes < byte_len w = ltb-true _ _ g.0 in
      let lack = byte_len w - length bytes in
      let padded = IsBytes-padded bytes lack fits in
      let long : length (bytes ++ zeros lack) ≡ byte_len w = omega (arith, length-append bytes (zeros lack), length-zeros lack) in
      (from_be_bytes w (bytes ++ zeros lack), zeros lack, wide.below (bytes ++ zeros lack) padded, wide.back (bytes ++ zeros lack) long padded, omega (arith, length-zeros lack))

  number_stays : (bytes more : List ℕ) (d : F) → IsBytes bytes → number_at short w bytes ≡ Err d → (d ≡ short → ⊥) → number_at short w (bytes ++ more) ≡ Err d
  number_stays bytes more d fits e n = absurd (n (sym (guard_err (ltb (length bytes) (byte_len w)) short d (whole bytes) e).1))

  pub exact_number : IsExact (λ n. n < limit) (to_be_bytes w) short (number_at short w)
  exact_number = record { found = number_found; again = number_again; begins = number_begins; stays = number_stays }
