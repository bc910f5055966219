-- The readers of names, timestamps and values are exact.
use Rattle.std.proofs.Common.{◌≡◌, ℕ, zero, suc, ◌/◌, ◌%◌, ◌^◌, ◌<◌, Bool, true, false, cond, ltb, List, [], ◌∷◌, ◌++◌, Result, Ok, Err, refl, sym, ap, subst, ◌∙◌, arith, inl, inr}
use Rattle.std.specs.Int.{Width, w16, w32, w64, to_be_bytes}
use Rattle.std.proofs.lemmas.Bool.{ltb-true, lt-ltb}
use Rattle.thor_value.specs.Formats.{BeginsOne, ◌>>=◌}
use Rattle.std.specs.Prelude.{ℤ, FitsSigned}
use Rattle.std.specs.Int.{cast_signed, cast_unsigned}
use Rattle.std.proofs.lemmas.Int.{to_z-of_z, of_z-to_z}
use Rattle.std.proofs.Math.Facts.{sfits_to_z, Fits-of_lt, Fits-of_z}
use Rattle.thor_value.specs.Reading.{number_at, below_at, page_at, oref_at, time_at, ts_at, is_tag, tag_at, behind_tag, value_at, word_at}
use Rattle.thor_value.specs.Spelling.{OrefFits, oref_bytes, TsFits, ts_bytes, ValueFits, value_bytes, word_bytes}
use Rattle.thor_value.specs.Words.{fits_word}
use Rattle.thor_value.specs.declared.names.Ts.{Ts}
use Rattle.thor_value.specs.declared.values.Value.{Value}
use Rattle.thor_value.specs.declared.values.Value.TheVariants.{Int, Ref, Null, Text}
use Rattle.thor_value.specs.declared.names.Oref.{Oref}
use Rattle.thor_value.specs.declared.bytes.ReadFault.{ReadFault}
use Rattle.thor_value.specs.declared.bytes.ReadFault.TheVariants.{Short, BadTag}
use Rattle.thor_value.proofs.Exactness.{IsBytes, IsExact, exact_done, exact_then, exact_as, exact_spelled, bind_ok, bind_err, ok_on, err_on}
use Rattle.std.proofs.lemmas.List.{append-nil}
use Rattle.thor_value.proofs.TextBytes.{exact_word}
use Rattle.thor_value.proofs.Fields.{exact_byte, exact_number, wide16, wide32, wide64}

apart_from_short : BadTag ≡ Short → ⊥
apart_from_short e = cc

pub exact_below : (n : ℕ) → 0 < n → IsExact (λ b. b < n) (λ b. b ∷ []) Short (below_at n)
exact_below n some = exact_byte Short (λ b. ltb b n) (λ _. BadTag) (λ b. b < n) (λ b h. lt-ltb b n h) (λ b h. ltb-true b n h) (0, some) (λ b e. apart_from_short e)

abbrev number : Width → List ℕ → Result (ℕ × List ℕ) ReadFault
number w bytes = number_at Short w bytes

chosen : {A : Type 0} (b : Bool) (x : A) → cond b (Ok x) (Err BadTag) ≡ Err Short → BadTag ≡ Short
chosen true x e = absurd cc
chosen false x e = cc

-- ---- pages: two bytes of 0, and a number of two bytes

high_zeros : (p : ℕ) → p < 65536 → to_be_bytes w32 p ≡ 0 ∷ 0 ∷ to_be_bytes w16 p
high_zeros p h =
    let first : p / 16777216 % 256 ≡ 0 = omega arith in
    let second : p / 65536 % 256 ≡ 0 = omega arith in
    rw (first, second) refl

zero_is : (b : ℕ) → b < 1 → 0 ≡ b
zero_is b h = omega arith

second_zero : (a : ℕ) → a < 1 → IsExact (λ p. (p < 65536) × (0 ≡ a)) (λ p. 0 ∷ to_be_bytes w16 p) Short (λ rest. below_at 1 rest >>= λ second. number w16 second.1)
second_zero a ha =
    exact_then (λ b. b < 1) (λ b. b ∷ []) (λ p. (p < 65536) × (0 ≡ a)) (to_be_bytes w16) (λ p. 0 ∷ to_be_bytes w16 p) (λ _. 0) Short (below_at 1) (λ _ rest. number w16 rest)
    (exact_below 1 (omega arith))
    (λ b hb. exact_as (λ p. p < 65536) (λ p. ((p < 65536) × (0 ≡ a)) × (0 ≡ b)) (to_be_bytes w16) Short (number w16) (exact_number Short w16 (2 ^ 16) wide16) (λ p h. ((h, zero_is a ha), zero_is b hb)) (λ p h. h.0.0))
    (λ p h. (omega arith, refl))
    (λ b hb. (0, (omega arith, zero_is a ha), zero_is b hb))

pub exact_page : IsExact (λ p. p < 65536) (to_be_bytes w32) Short page_at
unfolding page_at
exact_page =
    exact_then (λ b. b < 1) (λ b. b ∷ []) (λ p. p < 65536) (λ p. 0 ∷ to_be_bytes w16 p) (to_be_bytes w32) (λ _. 0) Short (below_at 1) (λ _ rest. below_at 1 rest >>= λ second. number w16 second.1)
    (exact_below 1 (omega arith))
    second_zero
    (λ p h. (omega arith, high_zeros p h))
    (λ b hb. (0, omega arith, zero_is b hb))

-- ---- names

abbrev named : ℕ → ℕ → ℕ → Oref
named r p s = record { repo = r; page = p; slot = s }

is_named : (o : Oref) (r p s : ℕ) → o.repo ≡ r → o.page ≡ p → o.slot ≡ s → o ≡ named r p s
is_named o r p s e f g = ap (λ (n : ℕ). named n o.page o.slot) e ∙ ap (λ (n : ℕ). named r n o.slot) f ∙ ap (λ (n : ℕ). named r p n) g

slot_exact : (r p : ℕ) → r < 8 → p < 65536 → IsExact (λ o. (OrefFits o × (o.repo ≡ r)) × (o.page ≡ p)) (λ o. o.slot ∷ []) Short (λ rest. below_at 12 rest >>= λ slot. Ok (record { repo = r; page = p; slot = slot.0 }, slot.1))
slot_exact r p hr hp =
    exact_then (λ b. b < 12) (λ b. b ∷ []) (λ o. (OrefFits o × (o.repo ≡ r)) × (o.page ≡ p)) (λ _. []) (λ o. o.slot ∷ []) (λ o. o.slot) Short (below_at 12) (λ s rest. Ok (record { repo = r; page = p; slot = s }, rest))
    (exact_below 12 (omega arith))
    (λ s hs. exact_done (λ o. ((OrefFits o × (o.repo ≡ r)) × (o.page ≡ p)) × (o.slot ≡ s)) Short (record { repo = r; page = p; slot = s }) (((record { repo = hr; page = hp; slot = hs }, refl), refl), refl) (λ o h. is_named o r p s h.0.0.1 h.0.1 h.1))
    (λ o h. (h.0.0.slot, refl))
    (λ s hs. (record { repo = r; page = p; slot = s }, ((record { repo = hr; page = hp; slot = hs }, refl), refl), refl))

page_exact : (r : ℕ) → r < 8 → IsExact (λ o. OrefFits o × (o.repo ≡ r)) (λ o. to_be_bytes w32 o.page ++ o.slot ∷ []) Short (λ rest. page_at rest >>= λ page. below_at 12 page.1 >>= λ slot. Ok (record { repo = r; page = page.0; slot = slot.0 }, slot.1))
page_exact r hr =
    exact_then (λ p. p < 65536) (to_be_bytes w32) (λ o. OrefFits o × (o.repo ≡ r)) (λ o. o.slot ∷ []) (λ o. to_be_bytes w32 o.page ++ o.slot ∷ []) (λ o. o.page) Short page_at (λ p rest. below_at 12 rest >>= λ slot. Ok (record { repo = r; page = p; slot = slot.0 }, slot.1))
    exact_page
    (λ p hp. slot_exact r p hr hp)
    (λ o h. (h.0.page, refl))
    (λ p hp. (record { repo = r; page = p; slot = 0 }, (record { repo = hr; page = hp; slot = omega arith }, refl), refl))

pub exact_oref : IsExact OrefFits oref_bytes Short oref_at
unfolding oref_at
exact_oref =
    exact_then (λ b. b < 8) (λ b. b ∷ []) OrefFits (λ o. to_be_bytes w32 o.page ++ o.slot ∷ []) oref_bytes (λ o. o.repo) Short (below_at 8) (λ r rest. page_at rest >>= λ page. below_at 12 page.1 >>= λ slot. Ok (record { repo = r; page = page.0; slot = slot.0 }, slot.1))
    (exact_below 8 (omega arith))
    page_exact
    (λ o h. (h.repo, refl))
    (λ r hr. (record { repo = r; page = 0; slot = 0 }, record { repo = hr; page = omega arith; slot = omega arith }, refl))

-- ---- timestamps

below_top : (n : ℕ) → n < 2 ^ 64 → n / 72057594037927936 % 256 < 64 → n < 2 ^ 62
below_top n h t = omega arith

top_below : (n : ℕ) → n < 2 ^ 62 → n / 72057594037927936 % 256 < 64
top_below n h = omega arith

time_found : (bytes : List ℕ) (x : ℕ × List ℕ) → IsBytes bytes → time_at bytes ≡ Ok x → (x.0 < 2 ^ 62) × (bytes ≡ to_be_bytes w64 x.0 ++ x.1)
unfolding time_at
time_found bytes x b e =
    let p = bind_ok (below_at 64 bytes) (λ _. number w64 bytes) x e in
    let f = (exact_below 64 (omega arith)).found bytes p.0 b p.1 in
    let n = (exact_number Short w64 (2 ^ 64) wide64).found bytes x b p.2 in
    let heads : (p.0.0 ∷ []) ++ p.0.1 ≡ to_be_bytes w64 x.0 ++ x.1 = sym f.1 ∙ n.1 in
    let top : p.0.0 ≡ x.0 / 72057594037927936 % 256 = cc in
    (below_top x.0 n.0 (subst (λ (k : ℕ). k < 64) top f.0), n.1)

time_again : (n : ℕ) (rest : List ℕ) → n < 2 ^ 62 → time_at (to_be_bytes w64 n ++ rest) ≡ Ok (n, rest)
unfolding time_at
time_again n rest h =
    let top : ltb (n / 72057594037927936 % 256) 64 ≡ true = lt-ltb _ _ (top_below n h) in
    rw top ((exact_number Short w64 (2 ^ 64) wide64).again n rest (omega arith))

time_begins : (bytes : List ℕ) → IsBytes bytes → time_at bytes ≡ Err Short → BeginsOne (λ n. n < 2 ^ 62) (to_be_bytes w64) bytes
unfolding time_at
time_begins [] b e = (0, to_be_bytes w64 0, omega arith, refl, omega arith)
time_begins (c ∷ bytes) b e =
    elim (bind_err (below_at 64 (c ∷ bytes)) (λ _. number w64 (c ∷ bytes)) Short e) [
      | inl f ↦ absurd (not_short c bytes f)
      | inr p ↦
          let f = (exact_below 64 (omega arith)).found (c ∷ bytes) p.0 b p.1 in
          let n = (exact_number Short w64 (2 ^ 64) wide64).begins (c ∷ bytes) b p.2 in
          let heads : to_be_bytes w64 n.0 ≡ c ∷ (bytes ++ n.1) = n.3 in
          let front : c ∷ bytes ≡ (p.0.0 ∷ []) ++ p.0.1 = f.1 in
          let top : p.0.0 ≡ n.0 / 72057594037927936 % 256 = cc in
          (n.0, n.1, below_top n.0 n.2 (subst (λ (k : ℕ). k < 64) top f.0), n.3, n.4)
    ]
  where
    not_short : (c : ℕ) (bytes : List ℕ) → below_at 64 (c ∷ bytes) ≡ Err Short → ⊥
    not_short c bytes f = apart_from_short (chosen (ltb c 64) (c, bytes) f)

time_stays : (bytes more : List ℕ) (d : ReadFault) → IsBytes bytes → time_at bytes ≡ Err d → (d ≡ Short → ⊥) → time_at (bytes ++ more) ≡ Err d
unfolding time_at
time_stays bytes more d b e n =
    elim (bind_err (below_at 64 bytes) (λ _. number w64 bytes) d e) [
      | inl f ↦ err_on (below_at 64 (bytes ++ more)) (λ _. number w64 (bytes ++ more)) d ((exact_below 64 (omega arith)).stays bytes more d b f n)
      | inr p ↦
          let f = (exact_below 64 (omega arith)).found bytes p.0 b p.1 in
          let g : below_at 64 (bytes ++ more) ≡ Ok (p.0.0, p.0.1 ++ more) = ap (λ (t : List ℕ). below_at 64 (t ++ more)) f.1 ∙ (exact_below 64 (omega arith)).again p.0.0 (p.0.1 ++ more) f.0 in
          ok_on (below_at 64 (bytes ++ more)) (λ _. number w64 (bytes ++ more)) (p.0.0, p.0.1 ++ more) g ∙ (exact_number Short w64 (2 ^ 64) wide64).stays bytes more d b p.2 n
    ]

pub exact_time : IsExact (λ n. n < 2 ^ 62) (to_be_bytes w64) Short time_at
exact_time = record { found = time_found; again = time_again; begins = time_begins; stays = time_stays }

abbrev stamped : ℕ → ℕ → ℕ → Ts
stamped t r l = record { time = t; repo = r; life = l }

is_stamped : (o : Ts) (t r l : ℕ) → o.time ≡ t → o.repo ≡ r → o.life ≡ l → o ≡ stamped t r l
is_stamped o t r l e f g = ap (λ (n : ℕ). stamped n o.repo o.life) e ∙ ap (λ (n : ℕ). stamped t n o.life) f ∙ ap (λ (n : ℕ). stamped t r n) g

life_exact : (t r : ℕ) → t < 2 ^ 62 → r < 8 → IsExact (λ o. (TsFits o × (o.time ≡ t)) × (o.repo ≡ r)) (λ o. to_be_bytes w32 o.life) Short (λ rest. number w32 rest >>= λ life. Ok (stamped t r life.0, life.1))
life_exact t r ht hr =
    exact_then (λ l. l < 2 ^ 32) (to_be_bytes w32) (λ o. (TsFits o × (o.time ≡ t)) × (o.repo ≡ r)) (λ _. []) (λ o. to_be_bytes w32 o.life) (λ o. o.life) Short (number w32) (λ l rest. Ok (stamped t r l, rest))
    (exact_number Short w32 (2 ^ 32) wide32)
    (λ l hl. exact_done (λ o. ((TsFits o × (o.time ≡ t)) × (o.repo ≡ r)) × (o.life ≡ l)) Short (stamped t r l) (((record { time = ht; repo = hr; life = hl }, refl), refl), refl) (λ o h. is_stamped o t r l h.0.0.1 h.0.1 h.1))
    (λ o h. (h.0.0.life, sym (append-nil (to_be_bytes w32 o.life))))
    (λ l hl. (stamped t r l, ((record { time = ht; repo = hr; life = hl }, refl), refl), refl))

repo_exact : (t : ℕ) → t < 2 ^ 62 → IsExact (λ o. TsFits o × (o.time ≡ t)) (λ o. o.repo ∷ to_be_bytes w32 o.life) Short (λ rest. below_at 8 rest >>= λ repo. number w32 repo.1 >>= λ life. Ok (stamped t repo.0 life.0, life.1))
repo_exact t ht =
    exact_then (λ b. b < 8) (λ b. b ∷ []) (λ o. TsFits o × (o.time ≡ t)) (λ o. to_be_bytes w32 o.life) (λ o. o.repo ∷ to_be_bytes w32 o.life) (λ o. o.repo) Short (below_at 8) (λ r rest. number w32 rest >>= λ life. Ok (stamped t r life.0, life.1))
    (exact_below 8 (omega arith))
    (λ r hr. life_exact t r ht hr)
    (λ o h. (h.0.repo, refl))
    (λ r hr. (stamped t r 0, (record { time = ht; repo = hr; life = omega arith }, refl), refl))

pub exact_ts : IsExact TsFits ts_bytes Short ts_at
unfolding ts_at
exact_ts =
    exact_then (λ n. n < 2 ^ 62) (to_be_bytes w64) TsFits (λ o. o.repo ∷ to_be_bytes w32 o.life) ts_bytes (λ o. o.time) Short time_at (λ t rest. below_at 8 rest >>= λ repo. number w32 repo.1 >>= λ life. Ok (stamped t repo.0 life.0, life.1))
    exact_time
    repo_exact
    (λ o h. (h.time, refl))
    (λ t ht. (stamped t 0 0, record { time = ht; repo = omega arith; life = omega arith }, refl))

-- ---- values

abbrev tag_of : Value → ℕ
tag_of (Int z) = 1
tag_of (Ref o) = 2
tag_of Null = 3
tag_of (Text w) = 4

abbrev tail_of : Value → List ℕ
tail_of (Int z) = to_be_bytes w64 (cast_unsigned w64 z)
tail_of (Ref o) = oref_bytes o
tail_of Null = []
tail_of (Text w) = word_bytes w

-- the bits of a number, the name in a reference, and the bytes of a text
abbrev bits_of : Value → ℕ
bits_of (Int z) = cast_unsigned w64 z
bits_of (Ref o) = 0
bits_of Null = 0
bits_of (Text w) = 0

abbrev name_of : Value → Oref
name_of (Int z) = named 0 0 0
name_of (Ref o) = o
name_of Null = named 0 0 0
name_of (Text w) = named 0 0 0

abbrev word_in : Value → List ℕ
word_in (Int z) = []
word_in (Ref o) = []
word_in Null = []
word_in (Text w) = w

signed_fits : (n : ℕ) → n < 2 ^ 64 → FitsSigned w64 (cast_signed w64 n)
signed_fits n h = sfits_to_z (Fits-of_lt h)

bits_below : (z : ℤ) → FitsSigned w64 z → cast_unsigned w64 z < 2 ^ 64
bits_below z h = (Fits-of_z h).fits

int_only : (t n : ℕ) → t ≡ 1 → (v : Value) → (ValueFits v × (tag_of v ≡ t)) × (bits_of v ≡ n) → v ≡ Int (cast_signed w64 n)
int_only t n e (Int z) h = ap (λ (y : ℤ). Int y) (sym (to_z-of_z w64 z h.0.0) ∙ ap (λ (k : ℕ). cast_signed w64 k) h.1)
int_only t n e (Ref o) h = absurd (omega (arith, e, h.0.1))
int_only t n e Null h = absurd (omega (arith, e, h.0.1))
int_only t n e (Text w) h = absurd (omega (arith, e, h.0.1))

int_keyed : (t : ℕ) → t ≡ 1 → (v : Value) → ValueFits v × (tag_of v ≡ t) → (bits_of v < 2 ^ 64) × (tail_of v ≡ to_be_bytes w64 (bits_of v) ++ [])
int_keyed t e (Int z) h = (bits_below z h.0, refl)
int_keyed t e (Ref o) h = absurd (omega (arith, e, h.1))
int_keyed t e Null h = absurd (omega (arith, e, h.1))
int_keyed t e (Text w) h = absurd (omega (arith, e, h.1))

int_exact : (t : ℕ) → t ≡ 1 → IsExact (λ v. ValueFits v × (tag_of v ≡ t)) tail_of Short (λ rest. number w64 rest >>= λ n. Ok (Int (cast_signed w64 n.0), n.1))
int_exact t e =
    exact_then (λ n. n < 2 ^ 64) (to_be_bytes w64) (λ v. ValueFits v × (tag_of v ≡ t)) (λ _. []) tail_of bits_of Short (number w64) (λ n rest. Ok (Int (cast_signed w64 n), rest))
    (exact_number Short w64 (2 ^ 64) wide64)
    (λ n hn. exact_done (λ v. (ValueFits v × (tag_of v ≡ t)) × (bits_of v ≡ n)) Short (Int (cast_signed w64 n)) ((signed_fits n hn, sym e), of_z-to_z w64 n hn) (int_only t n e))
    (int_keyed t e)
    (λ n hn. (Int (cast_signed w64 n), (signed_fits n hn, sym e), of_z-to_z w64 n hn))

ref_only : (t : ℕ) (n : Oref) → t ≡ 2 → (v : Value) → (ValueFits v × (tag_of v ≡ t)) × (name_of v ≡ n) → v ≡ Ref n
ref_only t n e (Int z) h = absurd (omega (arith, e, h.0.1))
ref_only t n e (Ref o) h = ap (λ (y : Oref). Ref y) h.1
ref_only t n e Null h = absurd (omega (arith, e, h.0.1))
ref_only t n e (Text w) h = absurd (omega (arith, e, h.0.1))

ref_keyed : (t : ℕ) → t ≡ 2 → (v : Value) → ValueFits v × (tag_of v ≡ t) → OrefFits (name_of v) × (tail_of v ≡ oref_bytes (name_of v) ++ [])
ref_keyed t e (Int z) h = absurd (omega (arith, e, h.1))
ref_keyed t e (Ref o) h = (h.0, sym (append-nil (oref_bytes o)))
ref_keyed t e Null h = absurd (omega (arith, e, h.1))
ref_keyed t e (Text w) h = absurd (omega (arith, e, h.1))

ref_exact : (t : ℕ) → t ≡ 2 → IsExact (λ v. ValueFits v × (tag_of v ≡ t)) tail_of Short (λ rest. oref_at rest >>= λ o. Ok (Ref o.0, o.1))
ref_exact t e =
    exact_then OrefFits oref_bytes (λ v. ValueFits v × (tag_of v ≡ t)) (λ _. []) tail_of name_of Short oref_at (λ o rest. Ok (Ref o, rest))
    exact_oref
    (λ o ho. exact_done (λ v. (ValueFits v × (tag_of v ≡ t)) × (name_of v ≡ o)) Short (Ref o) ((ho, sym e), refl) (ref_only t o e))
    (ref_keyed t e)
    (λ o ho. (Ref o, (ho, sym e), refl))

null_only : (t : ℕ) → t ≡ 3 → (v : Value) → ValueFits v × (tag_of v ≡ t) → v ≡ Null
null_only t e (Int z) h = absurd (omega (arith, e, h.1))
null_only t e (Ref o) h = absurd (omega (arith, e, h.1))
null_only t e Null h = refl
null_only t e (Text w) h = absurd (omega (arith, e, h.1))

-- with no bytes behind the tag
null_exact : (t : ℕ) → t ≡ 3 → IsExact (λ v. ValueFits v × (tag_of v ≡ t)) tail_of Short (λ rest. Ok (Null, rest))
null_exact t e = exact_spelled (λ v. ValueFits v × (tag_of v ≡ t)) (λ _. []) tail_of Short (λ rest. Ok (Null, rest)) (exact_done (λ v. ValueFits v × (tag_of v ≡ t)) Short Null (tt, sym e) (null_only t e)) none
  where
    none : (v : Value) → ValueFits v × (tag_of v ≡ t) → [] ≡ tail_of v
    none v h = ap tail_of (sym (null_only t e v h))

word_only : (t : ℕ) (n : List ℕ) → t ≡ 4 → (v : Value) → (ValueFits v × (tag_of v ≡ t)) × (word_in v ≡ n) → v ≡ Text n
word_only t n e (Int z) h = absurd (omega (arith, e, h.0.1))
word_only t n e (Ref o) h = absurd (omega (arith, e, h.0.1))
word_only t n e Null h = absurd (omega (arith, e, h.0.1))
word_only t n e (Text w) h = ap (λ (y : List ℕ). Text y) h.1

word_keyed : (t : ℕ) → t ≡ 4 → (v : Value) → ValueFits v × (tag_of v ≡ t) → (fits_word (word_in v) ≡ true) × (tail_of v ≡ word_bytes (word_in v) ++ [])
word_keyed t e (Int z) h = absurd (omega (arith, e, h.1))
word_keyed t e (Ref o) h = absurd (omega (arith, e, h.1))
word_keyed t e Null h = absurd (omega (arith, e, h.1))
word_keyed t e (Text w) h = (h.0, sym (append-nil (word_bytes w)))

word_exact : (t : ℕ) → t ≡ 4 → IsExact (λ v. ValueFits v × (tag_of v ≡ t)) tail_of Short (λ rest. word_at rest >>= λ w. Ok (Text w.0, w.1))
word_exact t e =
    exact_then (λ w. fits_word w ≡ true) word_bytes (λ v. ValueFits v × (tag_of v ≡ t)) (λ _. []) tail_of word_in Short word_at (λ w rest. Ok (Text w, rest))
    exact_word
    (λ w hw. exact_done (λ v. (ValueFits v × (tag_of v ≡ t)) × (word_in v ≡ w)) Short (Text w) ((hw, sym e), refl) (word_only t w e))
    (word_keyed t e)
    (λ w hw. (Text w, (hw, sym e), refl))

tagged : (t : ℕ) → is_tag t ≡ true → IsExact (λ v. ValueFits v × (tag_of v ≡ t)) tail_of Short (behind_tag t)
unfolding behind_tag
tagged zero e = absurd cc
tagged (suc zero) e = int_exact 1 refl
tagged (suc (suc zero)) e = ref_exact 2 refl
tagged (suc (suc (suc zero))) e = null_exact 3 refl
tagged (suc (suc (suc (suc n)))) e =
    let h : suc (suc (suc n)) < 4 = ltb-true (suc (suc (suc n))) 4 e in
    word_exact (suc (suc (suc (suc n)))) (omega (arith, h))

value_keyed : (v : Value) → ValueFits v → (is_tag (tag_of v) ≡ true) × (value_bytes v ≡ (tag_of v ∷ []) ++ tail_of v)
value_keyed (Int z) h = (refl, refl)
value_keyed (Ref o) h = (refl, refl)
value_keyed Null h = (refl, refl)
value_keyed (Text w) h = (refl, refl)

some_tagged : (t : ℕ) → is_tag t ≡ true → (v : Value) × ValueFits v × (tag_of v ≡ t)
some_tagged zero e = absurd cc
some_tagged (suc zero) e = (Int (cast_signed w64 0), signed_fits 0 (omega arith), refl)
some_tagged (suc (suc zero)) e = (Ref (named 0 0 0), record { repo = omega arith; page = omega arith; slot = omega arith }, refl)
some_tagged (suc (suc (suc zero))) e = (Null, tt, refl)
some_tagged (suc (suc (suc (suc n)))) e =
    let h : suc (suc (suc n)) < 4 = ltb-true (suc (suc (suc n))) 4 e in
    (Text [], refl, omega (arith, h))

exact_tag : IsExact (λ b. is_tag b ≡ true) (λ b. b ∷ []) Short tag_at
exact_tag = exact_byte Short is_tag (λ _. BadTag) (λ b. is_tag b ≡ true) (λ b h. h) (λ b h. h) (1, refl) (λ b e. apart_from_short e)

pub exact_value : IsExact ValueFits value_bytes Short value_at
unfolding value_at
exact_value = exact_then (λ b. is_tag b ≡ true) (λ b. b ∷ []) ValueFits tail_of value_bytes tag_of Short tag_at behind_tag exact_tag tagged value_keyed some_tagged
