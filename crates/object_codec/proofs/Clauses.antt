-- What the public reader of objects says, from what reading gives.
use Rattle.std.proofs.Common.{◌≡◌, ℕ, zero, suc, ◌^◌, ◌<◌, ◌≤◌, Bool, true, false, cond, ltb, leb, List, [], ◌∷◌, ◌++◌, length, take, drop, Result, Ok, Err, refl, sym, ap, subst, ◌∙◌, arith, inl, inr, ◌⊎◌}
use Rattle.std.specs.Prelude.{IfOk, IsErrOf}
use Rattle.std.specs.Int.{Width, w16, w32, byte_len, to_be_bytes, from_be_bytes}
use Rattle.std.proofs.lemmas.Bool.{cases_lt, leb-false, le-ltb, lt-leb}
use Rattle.thor_value.specs.Formats.{◌>>=◌, BeginsOne, BeginsWithOne, IsAtFront}
use Rattle.thor_value.specs.Reading.{number_at, value_at}
use Rattle.thor_value.specs.declared.values.Obj.{Obj}
use Rattle.thor_value.specs.declared.bytes.ReadFault.{ReadFault}
use Rattle.thor_value.specs.declared.bytes.ReadFault.TheVariants as value_faults
use Rattle.thor_value.proofs.Exactness.{IsBytes, IsBytes-rest, bind_err, at_front, reads_it, no_fault, nothing_read, no_other_fault}
use Rattle.thor_value.proofs.Fields.{exact_number, wide16, wide32}
use Rattle.object_codec.specs.declared.fault.ObjFault.{ObjFault}
use Rattle.object_codec.specs.declared.fault.ObjFault.TheVariants.{Short, BadTag, TooLarge, NoMemory}
use Rattle.object_codec.specs.Spelling.{ObjFits, obj_bytes, HasCount, Answered}
use Rattle.object_codec.specs.Reading.{lifted, count_at, fields_at, obj_at, Counts}
use Rattle.object_codec.proofs.Objects.{exact_obj}

-- ---- which faults come

lifted_fault : {A : Type 0} (r : Result A ReadFault) (d : ObjFault) → lifted r ≡ Err d → (d ≡ Short) ⊎ (d ≡ BadTag)
lifted_fault (Ok x) d e = absurd cc
lifted_fault (Err value_faults.Short) d e = inl cc
lifted_fault (Err value_faults.BadTag) d e = inr cc

abbrev fine : {A : Type 0} → A → Result A ObjFault
fine x = Ok x

abbrev failed : {A : Type 0} → ObjFault → Result A ObjFault
failed d = Err d

nothing_wrong : {A : Type 0} {P : Type 0} (x : A) (d : ObjFault) → fine x ≡ Err d → P
nothing_wrong x d e = absurd cc

fields_fault : (n : ℕ) (bytes : List ℕ) (d : ObjFault) → fields_at n bytes ≡ Err d → (d ≡ Short) ⊎ (d ≡ BadTag)
unfolding fields_at
fields_fault zero bytes d e = absurd cc
fields_fault (suc n) bytes d e =
    elim (bind_err (lifted (value_at bytes)) (λ first. fields_at n first.1 >>= λ others. Ok (first.0 ∷ others.0, others.1)) d e) [
      | inl f ↦ lifted_fault (value_at bytes) d f
      | inr p ↦ elim (bind_err (fields_at n p.0.1) (λ others. Ok (p.0.0 ∷ others.0, others.1)) d p.2) [
        | inl f ↦ fields_fault n p.0.1 d f
        | inr q ↦ nothing_wrong (p.0.0 ∷ q.0.0, q.0.1) d q.2
      ]
    ]

chosen_number : (b : Bool) (x : ℕ × List ℕ) (d : ObjFault) → cond b (Err Short) (Ok x) ≡ Err d → d ≡ Short
chosen_number true x d e = cc
chosen_number false x d e = absurd cc

number_fault : (w : Width) (bytes : List ℕ) (d : ObjFault) → number_at Short w bytes ≡ Err d → d ≡ Short
number_fault w bytes d e = chosen_number (ltb (length bytes) (byte_len w)) (from_be_bytes w (take (byte_len w) bytes), drop (byte_len w) bytes) d e

chosen_count : (b : Bool) (x : ℕ × List ℕ) (c : ℕ) (d : ObjFault) → cond b (Ok x) (Err (TooLarge c)) ≡ Err d → (b ≡ false) × (d ≡ TooLarge c)
chosen_count true x c d e = absurd cc
chosen_count false x c d e = (refl, cc)

count_fault : (bytes : List ℕ) (d : ObjFault) → count_at bytes ≡ Err d → (d ≡ Short) ⊎ ((c : ℕ) × (rest : List ℕ) × (d ≡ TooLarge c) × (bytes ≡ c ∷ rest) × (32 < c))
count_fault [] d e = inl cc
count_fault (c ∷ rest) d e =
    let p = chosen_count (leb c 32) (c, rest) c d e in
    inr (c, rest, p.1, refl, leb-false c 32 p.0)

abbrev Large : List ℕ → ObjFault → Type 0
Large bytes d = (c : ℕ) × (d ≡ TooLarge c) × HasCount bytes c × (32 < c)

stands_at : (a b v c : ℕ) (bytes r1 r2 rest : List ℕ) → bytes ≡ to_be_bytes w16 a ++ r1 → r1 ≡ to_be_bytes w32 v ++ r2 → r2 ≡ c ∷ rest → HasCount bytes c
stands_at a b v c bytes r1 r2 rest e f g = rw (e, f, g) refl

obj_fault : (bytes : List ℕ) (d : ObjFault) → IsBytes bytes → obj_at bytes ≡ Err d → ((d ≡ Short) ⊎ (d ≡ BadTag)) ⊎ Large bytes d
unfolding obj_at
obj_fault bytes d b e =
    elim (bind_err (number_at Short w16 bytes) (λ class. number_at Short w32 class.1 >>= λ ver. count_at ver.1 >>= λ count. fields_at count.0 count.1 >>= λ fields. Ok (record { class = class.0; ver = ver.0; fields = fields.0 }, fields.1)) d e) [
      | inl f ↦ inl (inl (number_fault w16 bytes d f))
      | inr p ↦
          let fp = (exact_number Short w16 (2 ^ 16) wide16).found bytes p.0 b p.1 in
          let bp = IsBytes-rest bytes (to_be_bytes w16 p.0.0) p.0.1 fp.1 b in
          elim (bind_err (number_at Short w32 p.0.1) (λ ver. count_at ver.1 >>= λ count. fields_at count.0 count.1 >>= λ fields. Ok (record { class = p.0.0; ver = ver.0; fields = fields.0 }, fields.1)) d p.2) [
            | inl f ↦ inl (inl (number_fault w32 p.0.1 d f))
            | inr q ↦
                let fq = (exact_number Short w32 (2 ^ 32) wide32).found p.0.1 q.0 bp q.1 in
                elim (bind_err (count_at q.0.1) (λ count. fields_at count.0 count.1 >>= λ fields. Ok (record { class = p.0.0; ver = q.0.0; fields = fields.0 }, fields.1)) d q.2) [
                  | inl f ↦ elim (count_fault q.0.1 d f) [
                    | inl s ↦ inl (inl s)
                    | inr l ↦ inr (l.0, l.2, stands_at p.0.0 0 q.0.0 l.0 bytes p.0.1 q.0.1 l.1 fp.1 fq.1 l.3, l.4)
                  ]
                  | inr k ↦ elim (bind_err (fields_at k.0.0 k.0.1) (λ fields. Ok (record { class = p.0.0; ver = q.0.0; fields = fields.0 }, fields.1)) d k.2) [
                    | inl f ↦ inl (fields_fault k.0.0 k.0.1 d f)
                    | inr m ↦ nothing_wrong (record { class = p.0.0; ver = q.0.0; fields = m.0.0 }, m.0.1) d m.2
                  ]
                ]
          ]
    ]

same_count : (c d : ℕ) → TooLarge c ≡ TooLarge d → d ≡ c
same_count c d e = cc

large_stands : (bytes : List ℕ) (c : ℕ) → IsBytes bytes → obj_at bytes ≡ Err (TooLarge c) → HasCount bytes c × (32 < c)
large_stands bytes c b e =
    elim (obj_fault bytes (TooLarge c) b e) [
      | inl o ↦ elim o [ inl s ↦ absurd cc | inr t ↦ absurd cc ]
      | inr l ↦ subst (λ (n : ℕ). HasCount bytes n × (32 < n)) (same_count c l.0 l.1) (l.2, l.3)
    ]

never_memory : (bytes : List ℕ) → IsBytes bytes → obj_at bytes ≡ Err NoMemory → ⊥
never_memory bytes b e =
    elim (obj_fault bytes NoMemory b e) [
      | inl o ↦ elim o [ inl s ↦ absurd cc | inr t ↦ absurd cc ]
      | inr l ↦ no_count l.0 l.1
    ]
  where
    no_count : (c : ℕ) → NoMemory ≡ TooLarge c → ⊥
    no_count c h = cc

number_long : (w : Width) (bytes : List ℕ) → byte_len w ≤ length bytes → number_at Short w bytes ≡ Ok (from_be_bytes w (take (byte_len w) bytes), drop (byte_len w) bytes)
number_long w bytes h = ap (λ (t : Bool). cond t (Err Short) (Ok (from_be_bytes w (take (byte_len w) bytes), drop (byte_len w) bytes))) (le-ltb (length bytes) (byte_len w) h)

pub large_only : (a b c d e f n : ℕ) (rest : List ℕ) → 32 < n → obj_at (a ∷ b ∷ c ∷ d ∷ e ∷ f ∷ n ∷ rest) ≡ Err (TooLarge n)
unfolding obj_at
large_only a b c d e f n rest h =
    let behind = c ∷ d ∷ e ∷ f ∷ n ∷ rest in
    let class = from_be_bytes w16 (take 2 (a ∷ b ∷ behind)) in
    let ver = from_be_bytes w32 (take 4 behind) in
    let one : number_at Short w16 (a ∷ b ∷ behind) ≡ Ok (class, behind) = number_long w16 (a ∷ b ∷ behind) (omega arith) in
    let two : number_at Short w32 behind ≡ Ok (ver, n ∷ rest) = number_long w32 behind (omega arith) in
    let three : leb n 32 ≡ false = lt-leb n 32 h in
    rw (one, two, three) refl

nowhere : (n : ℕ) → HasCount [] n → ⊥
nowhere n h = cc

large_gives : (bytes : List ℕ) (n : ℕ) → HasCount bytes n → 32 < n → obj_at bytes ≡ Err (TooLarge n)
large_gives [] n h lt = absurd (nowhere n h)
large_gives (a ∷ []) n h lt = absurd cc
large_gives (a ∷ b ∷ []) n h lt = absurd cc
large_gives (a ∷ b ∷ c ∷ []) n h lt = absurd cc
large_gives (a ∷ b ∷ c ∷ d ∷ []) n h lt = absurd cc
large_gives (a ∷ b ∷ c ∷ d ∷ e ∷ []) n h lt = absurd cc
large_gives (a ∷ b ∷ c ∷ d ∷ e ∷ f ∷ []) n h lt = absurd cc
large_gives (a ∷ b ∷ c ∷ d ∷ e ∷ f ∷ m ∷ rest) n h lt =
    let same : m ≡ n = cc in
    subst (λ (k : ℕ). obj_at (a ∷ b ∷ c ∷ d ∷ e ∷ f ∷ m ∷ rest) ≡ Err (TooLarge k)) same (large_only a b c d e f m rest (subst (λ (k : ℕ). 32 < k) (sym same) lt))

-- ---- the clauses, over what a call answered

abbrev Reading : Type 0
Reading = Result (Obj × List ℕ) ObjFault

abbrev Answer : Type 0
Answer = Result (Obj × ℕ) ObjFault

bad_other : BadTag ≡ Short → ⊥
bad_other e = cc

large_other : (n : ℕ) → TooLarge n ≡ Short → ⊥
large_other n e = cc

memory_other : NoMemory ≡ Short → ⊥
memory_other e = cc

same_fault : (c d : ObjFault) → failed {A = Obj × List ℕ} c ≡ failed d → failed {A = Obj × ℕ} c ≡ failed d
same_fault c d e = ap (λ (f : ObjFault). failed {A = Obj × ℕ} f) (inner c d e)
  where
    inner : (c d : ObjFault) → failed {A = Obj × List ℕ} c ≡ failed d → c ≡ d
    inner c d e = cc

read_or_not : (x : Obj × List ℕ) (d : ObjFault) → fine x ≡ failed d → ⊥
read_or_not x d e = cc

module _ (bytes : List ℕ) (b : IsBytes bytes) where
  -- a fault that reading gives is the call's answer, unless memory ran out
  answers : (r : Answer) (d : ObjFault) → Counts bytes r (obj_at bytes) → obj_at bytes ≡ Err d → Answered r (Err d)
  answers (Ok x) d c e = absurd (read_or_not (x.0, drop x.1 bytes) d (sym c.0 ∙ e))
  answers (Err NoMemory) d c e = tt
  answers (Err Short) d c e = same_fault Short d (sym c ∙ e)
  answers (Err BadTag) d c e = same_fault BadTag d (sym c ∙ e)
  answers (Err (TooLarge n)) d c e = same_fault (TooLarge n) d (sym c ∙ e)

  -- what the call answers is a fault that reading gives
  from_answer : (r : Answer) (d : ObjFault) → (d ≡ NoMemory → ⊥) → Counts bytes r (obj_at bytes) → r ≡ Err d → obj_at bytes ≡ Err d
  from_answer (Ok x) d n c e = absurd cc
  from_answer (Err NoMemory) d n c e = absurd (n (back NoMemory d e))
    where
      back : (c d : ObjFault) → failed {A = Obj × ℕ} c ≡ failed d → d ≡ c
      back c d e = cc
  from_answer (Err Short) d n c e = c ∙ ap (λ (f : ObjFault). failed {A = Obj × List ℕ} f) (on Short d e)
    where
      on : (c d : ObjFault) → failed {A = Obj × ℕ} c ≡ failed d → c ≡ d
      on c d e = cc
  from_answer (Err BadTag) d n c e = c ∙ ap (λ (f : ObjFault). failed {A = Obj × List ℕ} f) (on BadTag d e)
    where
      on : (c d : ObjFault) → failed {A = Obj × ℕ} c ≡ failed d → c ≡ d
      on c d e = cc
  from_answer (Err (TooLarge m)) d n c e = c ∙ ap (λ (f : ObjFault). failed {A = Obj × List ℕ} f) (on (TooLarge m) d e)
    where
      on : (c d : ObjFault) → failed {A = Obj × ℕ} c ≡ failed d → c ≡ d
      on c d e = cc

  pub is_found : (r : Answer) → Counts bytes r (obj_at bytes) → IfOk r (λ x. IsAtFront ObjFits obj_bytes bytes x.0 x.1)
  is_found (Ok x) c = at_front ObjFits obj_bytes Short obj_at exact_obj bytes x b c.0 c.1
  is_found (Err d) c = tt

  pub is_only : (r : Answer) → Counts bytes r (obj_at bytes) → (o : Obj) (rest : List ℕ) → ObjFits o → bytes ≡ obj_bytes o ++ rest → Answered r (Ok (o, length (obj_bytes o)))
  is_only (Ok x) c o rest h e = ap (λ (y : Obj × ℕ). Ok y) (reads_it ObjFits obj_bytes Short obj_at exact_obj bytes o rest x h e c.0 c.1)
  is_only (Err NoMemory) c o rest h e = tt
  is_only (Err Short) c o rest h e = absurd (no_fault ObjFits obj_bytes Short obj_at exact_obj bytes Short (o, rest, h, e) c)
  is_only (Err BadTag) c o rest h e = absurd (no_fault ObjFits obj_bytes Short obj_at exact_obj bytes BadTag (o, rest, h, e) c)
  is_only (Err (TooLarge n)) c o rest h e = absurd (no_fault ObjFits obj_bytes Short obj_at exact_obj bytes (TooLarge n) (o, rest, h, e) c)

  pub is_short : (r : Answer) → Counts bytes r (obj_at bytes) → IsErrOf r Short → BeginsOne ObjFits obj_bytes bytes
  is_short r c e = exact_obj.begins bytes b (from_answer r Short not_memory c e)
    where
      not_memory : Short ≡ NoMemory → ⊥
      not_memory h = cc

  begins_gives : (q : Reading) → obj_at bytes ≡ q → BeginsOne ObjFits obj_bytes bytes → obj_at bytes ≡ Err Short
  begins_gives (Ok x) e s = absurd (nothing_read ObjFits obj_bytes Short obj_at exact_obj bytes x b s e)
  begins_gives (Err Short) e s = e
  begins_gives (Err BadTag) e s = absurd (no_other_fault ObjFits obj_bytes Short obj_at exact_obj bytes BadTag b s e bad_other)
  begins_gives (Err (TooLarge n)) e s = absurd (no_other_fault ObjFits obj_bytes Short obj_at exact_obj bytes (TooLarge n) b s e (large_other n))
  begins_gives (Err NoMemory) e s = absurd (no_other_fault ObjFits obj_bytes Short obj_at exact_obj bytes NoMemory b s e memory_other)

  pub is_short_only : (r : Answer) → Counts bytes r (obj_at bytes) → BeginsOne ObjFits obj_bytes bytes → Answered r (Err Short)
  is_short_only r c s = answers r Short c (begins_gives (obj_at bytes) refl s)

  pub is_large : (r : Answer) → Counts bytes r (obj_at bytes) → (n : ℕ) → IsErrOf r (TooLarge n) → HasCount bytes n × (32 < n)
  is_large r c n e = large_stands bytes n b (from_answer r (TooLarge n) (not_memory n) c e)
    where
      not_memory : (n : ℕ) → TooLarge n ≡ NoMemory → ⊥
      not_memory n h = cc

  pub is_large_only : (r : Answer) → Counts bytes r (obj_at bytes) → (n : ℕ) → HasCount bytes n → 32 < n → Answered r (Err (TooLarge n))
  is_large_only r c n h lt = answers r (TooLarge n) c (large_gives bytes n h lt)

  small_count : obj_at bytes ≡ Err BadTag → (n : ℕ) → HasCount bytes n → n ≤ 32
  small_count e n h =
      elim (cases_lt 32 n) [
        | inl lt ↦ absurd (clash n (sym e ∙ large_gives bytes n h lt))
        | inr le ↦ le
      ]
    where
      clash : (n : ℕ) → failed {A = Obj × List ℕ} BadTag ≡ Err (TooLarge n) → ⊥
      clash n h = cc

  pub is_bad : (r : Answer) → Counts bytes r (obj_at bytes) → IsErrOf r BadTag → (¬ BeginsWithOne ObjFits obj_bytes bytes) × (¬ BeginsOne ObjFits obj_bytes bytes) × ((n : ℕ) → HasCount bytes n → n ≤ 32)
  is_bad r c e =
      let g = from_answer r BadTag not_memory c e in
      (λ w. no_fault ObjFits obj_bytes Short obj_at exact_obj bytes BadTag w g, λ s. no_other_fault ObjFits obj_bytes Short obj_at exact_obj bytes BadTag b s g bad_other, small_count g)
    where
      not_memory : BadTag ≡ NoMemory → ⊥
      not_memory h = cc

  neither_gives : (q : Reading) → obj_at bytes ≡ q → ¬ BeginsWithOne ObjFits obj_bytes bytes → ¬ BeginsOne ObjFits obj_bytes bytes → ((n : ℕ) → HasCount bytes n → n ≤ 32) → obj_at bytes ≡ Err BadTag
  neither_gives (Ok x) e w s l =
      let f = exact_obj.found bytes x b e in
      absurd (w (x.0, x.1, f.0, f.1))
  neither_gives (Err Short) e w s l = absurd (s (exact_obj.begins bytes b e))
  neither_gives (Err BadTag) e w s l = e
  neither_gives (Err (TooLarge n)) e w s l =
      let g = large_stands bytes n b e in
      let le : n ≤ 32 = l n g.0 in
      absurd (omega (arith, g.1, le))
  neither_gives (Err NoMemory) e w s l = absurd (never_memory bytes b e)

  pub is_bad_only : (r : Answer) → Counts bytes r (obj_at bytes) → ¬ BeginsWithOne ObjFits obj_bytes bytes → ¬ BeginsOne ObjFits obj_bytes bytes → ((n : ℕ) → HasCount bytes n → n ≤ 32) → Answered r (Err BadTag)
  is_bad_only r c w s l = answers r BadTag c (neither_gives (obj_at bytes) refl w s l)
