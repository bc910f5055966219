-- A page and its bytes stand for one another.
use Rattle.std.proofs.Common.{◌≡◌, ℕ, zero, suc, ◌+◌, ◌-◌, ◌*◌, ◌^◌, ◌<◌, ◌≤◌, Bool, true, false, cond, eqb, List, [], ◌∷◌, ◌++◌, length, take, drop, Option, Some, None, All, Result, Ok, Err, IfOk, refl, sym, ap, subst, ◌∙◌, append_assoc, arith}
use Rattle.std.specs.Prelude.{replicate, slice_index, ◌&&◌}
use Rattle.std.specs.Int.{w32, from_be_bytes, to_be_bytes}
use Rattle.std.specs.List.{AllByRecursion}
use Rattle.std.specs.Option.{option_map_or}
use Rattle.std.proofs.lemmas.Bool.{eqb-true, eq-eqb, and_parts}
use Rattle.std.proofs.lemmas.List.{append-nil, length-append, length-replicate}
use Rattle.std.proofs.lemmas.List.Elements.{recursion_from_All}
use Rattle.std.proofs.lemmas.Nat.{be_bytes_4, from_be_bytes-to_be_bytes_4}
use Rattle.std.proofs.Math.Seq.{take-append_seam}
use Rattle.thor_value.proofs.Exactness.{IsBytes, IsBytes-rest}
use Rattle.page_format.specs.Formats.{format_number, page_size_in}
use Rattle.page_format.specs.Pages.{Contents, PageFits, PageFitsIn, ObjectsFit, entries, object_entry, head_in, page_bytes, page_bytes_in, taken}
use Rattle.page_format.specs.declared.fault.Damaged.{Damaged}
use Rattle.page_format.specs.declared.format.StoreFormat.{StoreFormat}
use Rattle.page_format.specs.declared.format.StoreFormat.TheVariants.{One, Two}
use Rattle.page_format.specs.Walking.{head_at, has_head, pairs_of, behind_at, all_zero, parts_at, AreStored}
use Rattle.page_format.proofs.Entries.{Passed, pairs_again, behind_again, behind_found, stored, entries_cons}

abbrev Pairs : Type 0
Pairs = List (ℕ × List ℕ)

abbrev Head : Type 0
Head = (ℕ × ℕ) × List ℕ

-- ---- the sizes

least_size : (f : StoreFormat) → 4096 ≤ page_size_in f
least_size One = omega arith
least_size Two = omega arith

most_size : (f : StoreFormat) → page_size_in f ≤ 16384
most_size One = omega arith
most_size Two = omega arith

-- ---- the head

chosen_head : (b : Bool) (x y : Head) → cond b (Some x) None ≡ Some y → (b ≡ true) × (x ≡ y)
chosen_head true x y e = (refl, cc)
chosen_head false x y e = absurd cc

IsBytes-4 : (a b c d e f g h : ℕ) (bytes : List ℕ) → IsBytes (a ∷ b ∷ c ∷ d ∷ e ∷ f ∷ g ∷ h ∷ bytes) → IsBytes (e ∷ f ∷ g ∷ h ∷ [])
IsBytes-4 a b c d e f g h bytes k zero = k 4
IsBytes-4 a b c d e f g h bytes k (suc zero) = k 5
IsBytes-4 a b c d e f g h bytes k (suc (suc zero)) = k 6
IsBytes-4 a b c d e f g h bytes k (suc (suc (suc zero))) = k 7
IsBytes-4 a b c d e f g h bytes k (suc (suc (suc (suc i)))) = omega arith

-- what is known of a head that was read
pub record Headed (f : StoreFormat) (bytes : List ℕ) (h : Head) : Type 0 where
  pub whole : bytes ≡ head_in f h.0.0 h.0.1 ++ h.1
  pub number : h.0.0 < 2 ^ 32
  pub count : h.0.1 < 256
  pub size : length bytes ≡ page_size_in f

too_short : (f : StoreFormat) (bytes : List ℕ) → length bytes < 8 → has_head f bytes ≡ true → ⊥
too_short f bytes lt e =
    let size : length bytes ≡ page_size_in f = eqb-true _ _ (and_parts _ _ e).0 in
    omega (arith, size, lt, least_size f)

headed : (w : StoreFormat) (a b c d e f g h : ℕ) (bytes : List ℕ) → IsBytes (a ∷ b ∷ c ∷ d ∷ e ∷ f ∷ g ∷ h ∷ bytes) → has_head w (a ∷ b ∷ c ∷ d ∷ e ∷ f ∷ g ∷ h ∷ bytes) ≡ true
    → Headed w (a ∷ b ∷ c ∷ d ∷ e ∷ f ∷ g ∷ h ∷ bytes) ((from_be_bytes w32 (e ∷ f ∷ g ∷ h ∷ []), d), bytes)
headed w a b c d e f g h bytes k t =
    let p = and_parts _ _ t in
    let q = and_parts _ _ p.1 in
    let r = and_parts _ _ q.1 in
    let first : a ≡ 84 = eqb-true _ _ q.0 in
    let second : b ≡ 80 = eqb-true _ _ r.0 in
    let third : c ≡ format_number w = eqb-true _ _ r.1 in
    let four = IsBytes-4 a b c d e f g h bytes k in
    let spelled : to_be_bytes w32 (from_be_bytes w32 (e ∷ f ∷ g ∷ h ∷ [])) ≡ e ∷ f ∷ g ∷ h ∷ [] = be_bytes_4 (e ∷ f ∷ g ∷ h ∷ []) _ refl four refl in
    record {
      whole = ap (λ (x : ℕ). x ∷ b ∷ c ∷ d ∷ e ∷ f ∷ g ∷ h ∷ bytes) first ∙ ap (λ (x : ℕ). 84 ∷ x ∷ c ∷ d ∷ e ∷ f ∷ g ∷ h ∷ bytes) second ∙ ap (λ (x : ℕ). 84 ∷ 80 ∷ x ∷ d ∷ e ∷ f ∷ g ∷ h ∷ bytes) third ∙ ap (λ (t : List ℕ). 84 ∷ 80 ∷ format_number w ∷ d ∷ (t ++ bytes)) (sym spelled);
      number = omega (arith, four 0, four 1, four 2, four 3);
      count = k 3;
      size = eqb-true _ _ p.0;
    }

no_head : (w : StoreFormat) (bytes : List ℕ) (x : Head) → length bytes < 8 → head_at w bytes ≡ Some x → ⊥
no_head w bytes x lt t = too_short w bytes lt (chosen_head (has_head w bytes) ((from_be_bytes w32 (take 4 (drop 4 bytes)), slice_index bytes 3), drop 8 bytes) x t).0

pub head_found : (w : StoreFormat) (bytes : List ℕ) (h : Head) → IsBytes bytes → head_at w bytes ≡ Some h → Headed w bytes h
head_found w [] x k t = absurd (no_head w [] x (omega arith) t)
head_found w (a ∷ []) x k t = absurd (no_head w (a ∷ []) x (omega arith) t)
head_found w (a ∷ b ∷ []) x k t = absurd (no_head w (a ∷ b ∷ []) x (omega arith) t)
head_found w (a ∷ b ∷ c ∷ []) x k t = absurd (no_head w (a ∷ b ∷ c ∷ []) x (omega arith) t)
head_found w (a ∷ b ∷ c ∷ d ∷ []) x k t = absurd (no_head w (a ∷ b ∷ c ∷ d ∷ []) x (omega arith) t)
head_found w (a ∷ b ∷ c ∷ d ∷ e ∷ []) x k t = absurd (no_head w (a ∷ b ∷ c ∷ d ∷ e ∷ []) x (omega arith) t)
head_found w (a ∷ b ∷ c ∷ d ∷ e ∷ f ∷ []) x k t = absurd (no_head w (a ∷ b ∷ c ∷ d ∷ e ∷ f ∷ []) x (omega arith) t)
head_found w (a ∷ b ∷ c ∷ d ∷ e ∷ f ∷ g ∷ []) x k t = absurd (no_head w (a ∷ b ∷ c ∷ d ∷ e ∷ f ∷ g ∷ []) x (omega arith) t)
head_found w (a ∷ b ∷ c ∷ d ∷ e ∷ f ∷ g ∷ h ∷ bytes) x k t =
    let p = chosen_head (has_head w (a ∷ b ∷ c ∷ d ∷ e ∷ f ∷ g ∷ h ∷ bytes)) ((from_be_bytes w32 (e ∷ f ∷ g ∷ h ∷ []), d), bytes) x t in
    subst (λ (y : Head). Headed w (a ∷ b ∷ c ∷ d ∷ e ∷ f ∷ g ∷ h ∷ bytes) y) p.1 (headed w a b c d e f g h bytes k p.0)

pub head_again : (w : StoreFormat) (number count : ℕ) (body : List ℕ) → number < 2 ^ 32 → 8 + length body ≡ page_size_in w → head_at w (head_in w number count ++ body) ≡ Some ((number, count), body)
head_again w number count body below size =
    let long : eqb (length (head_in w number count ++ body)) (page_size_in w) ≡ true = eq-eqb _ _ (omega (arith, size)) in
    let told : eqb (format_number w) (format_number w) ≡ true = eq-eqb (format_number w) (format_number w) refl in
    let back : from_be_bytes w32 (to_be_bytes w32 number) ≡ number = from_be_bytes-to_be_bytes_4 number below in
    rw (long, told, back) refl

-- ---- zeros

pub zeros_are : (bytes : List ℕ) → all_zero bytes ≡ true → bytes ≡ replicate (length bytes) 0
zeros_are [] e = refl
zeros_are (b ∷ bytes) e =
    let p = and_parts (eqb b 0) (all_zero bytes) e in
    let first : b ≡ 0 = eqb-true b 0 p.0 in
    ap (λ (x : ℕ). x ∷ bytes) first ∙ ap (λ (t : List ℕ). 0 ∷ t) (zeros_are bytes p.1)

pub are_zeros : (n : ℕ) → all_zero (replicate n 0) ≡ true
are_zeros zero = refl
are_zeros (suc n) = are_zeros n

-- ---- pages

abbrev pub made : ℕ → Pairs → Contents
made number pairs = record { number = number; objects = record { pairs = pairs } }

-- what is known of the parts of a page that was read
pub record Parted (w : StoreFormat) (bytes : List ℕ) (number count : ℕ) (kept : List ℕ) : Type 0 where
  pub stored : AreStored count kept
  pub fits : PageFits (made number (pairs_of count kept))
  pub room : taken (made number (pairs_of count kept)) ≤ page_size_in w
  pub whole : bytes ≡ page_bytes_in w (made number (pairs_of count kept))

abbrev rest_of : Head → List ℕ → Option Head
rest_of h rest = cond (all_zero rest) (Some (h.0, take (length h.1 - length rest) h.1)) None

abbrev after_head : Head → Option Head
after_head h = option_map_or (λ rest. rest_of h rest) (behind_at h.0.1 0 h.1) None

no_more : (h : Head) → None ≡ Some h → ⊥
no_more h e = cc

front_of : (bytes front rest : List ℕ) → bytes ≡ front ++ rest → take (length bytes - length rest) bytes ≡ front
front_of bytes front rest e =
    let n : length bytes - length rest ≡ length front = omega (arith, ap length e, length-append front rest) in
    ap (λ (k : ℕ). take k bytes) n ∙ ap (take (length front)) e ∙ take-append_seam front rest

parted_by : (w : StoreFormat) (bytes : List ℕ) (h : Head) (rest : List ℕ) → IsBytes bytes → Headed w bytes h → Passed h.0.1 0 h.1 (pairs_of h.0.1 h.1) rest → all_zero rest ≡ true → Parted w bytes h.0.0 h.0.1 (take (length h.1 - length rest) h.1)
parted_by w bytes h rest b hd p z =
    let pairs = pairs_of h.0.1 h.1 in
    let kept : take (length h.1 - length rest) h.1 ≡ entries pairs = front_of h.1 (entries pairs) rest p.whole in
    let long : length bytes ≡ 8 + length h.1 = omega (arith, ap length hd.whole, length-append (head_in w h.0.0 h.0.1) h.1) in
    let split : length h.1 ≡ length (entries pairs) + length rest = omega (arith, ap length p.whole, length-append (entries pairs) rest) in
    let within : 8 + length (entries pairs) ≤ page_size_in w = omega (arith, hd.size, long, split) in
    let fit : ObjectsFit pairs = record { rising = p.rising; each = p.each; count = omega (arith, p.all, hd.count); room = omega (arith, within, most_size w) } in
    let again : pairs_of h.0.1 (entries pairs) ≡ pairs = ap (λ (n : ℕ). pairs_of n (entries pairs)) (sym p.all) ∙ ap (pairs_of (length pairs)) (sym (append-nil (entries pairs))) ∙ pairs_again pairs [] p.each in
    let these : pairs_of h.0.1 (take (length h.1 - length rest) h.1) ≡ pairs = ap (pairs_of h.0.1) kept ∙ again in
    let left : length rest ≡ page_size_in w - (8 + length (entries pairs)) = omega (arith, hd.size, long, split) in
    let zeros : rest ≡ replicate (page_size_in w - (8 + length (entries pairs))) 0 = zeros_are rest z ∙ ap (λ (n : ℕ). replicate n 0) left in
    let whole : bytes ≡ page_bytes_in w (made h.0.0 pairs) =
    hd.whole ∙ ap (λ (t : List ℕ). head_in w h.0.0 h.0.1 ++ t) p.whole ∙ sym (append_assoc (head_in w h.0.0 h.0.1) (entries pairs) rest)
    ∙ ap (λ (n : ℕ). (head_in w h.0.0 n ++ entries pairs) ++ rest) (sym p.all) ∙ ap (λ (t : List ℕ). (head_in w h.0.0 (length pairs) ++ entries pairs) ++ t) zeros in
    record {
      stored = subst (λ (t : List ℕ). AreStored h.0.1 t) (sym kept) (subst (λ (n : ℕ). AreStored n (entries pairs)) p.all (stored pairs fit));
      fits = subst (λ (t : Pairs). PageFits (made h.0.0 t)) (sym these) (record { number = hd.number; objects = fit });
      room = subst (λ (t : Pairs). taken (made h.0.0 t) ≤ page_size_in w) (sym these) within;
      whole = subst (λ (t : Pairs). bytes ≡ page_bytes_in w (made h.0.0 t)) (sym these) whole;
    }

parted_rest : (w : StoreFormat) (bytes : List ℕ) (h x : Head) (rest : List ℕ) → IsBytes bytes → Headed w bytes h → behind_at h.0.1 0 h.1 ≡ Some rest → rest_of h rest ≡ Some x → Parted w bytes x.0.0 x.0.1 x.1
parted_rest w bytes h x rest b hd f e =
    let c = chosen_head (all_zero rest) (h.0, take (length h.1 - length rest) h.1) x e in
    let p = behind_found h.0.1 0 h.1 rest (IsBytes-rest bytes (head_in w h.0.0 h.0.1) h.1 hd.whole b) f in
    subst (λ (y : Head). Parted w bytes y.0.0 y.0.1 y.1) c.1 (parted_by w bytes h rest b hd p c.0)

parted_behind : (w : StoreFormat) (bytes : List ℕ) (h x : Head) → IsBytes bytes → Headed w bytes h → (o : Option (List ℕ)) → behind_at h.0.1 0 h.1 ≡ o → option_map_or (λ rest. rest_of h rest) o None ≡ Some x → Parted w bytes x.0.0 x.0.1 x.1
parted_behind w bytes h x b hd None f e = absurd (no_more x e)
parted_behind w bytes h x b hd (Some rest) f e = parted_rest w bytes h x rest b hd f e

parted_head : (w : StoreFormat) (bytes : List ℕ) (x : Head) → IsBytes bytes → (o : Option Head) → head_at w bytes ≡ o → option_map_or (λ h. after_head h) o None ≡ Some x → Parted w bytes x.0.0 x.0.1 x.1
parted_head w bytes x b None f e = absurd (no_more x e)
parted_head w bytes x b (Some h) f e = parted_behind w bytes h x b (head_found w bytes h b f) (behind_at h.0.1 0 h.1) refl e

pub parts_found : (w : StoreFormat) (bytes : List ℕ) (x : Head) → IsBytes bytes → Some x ≡ parts_at w bytes → Parted w bytes x.0.0 x.0.1 x.1
unfolding parts_at
parts_found w bytes x b e = parted_head w bytes x b (head_at w bytes) refl (sym e)

pub parts_again : (w : StoreFormat) (c : Contents) → PageFitsIn w c → parts_at w (page_bytes_in w c) ≡ Some ((c.number, length c.objects.pairs), entries c.objects.pairs)
unfolding parts_at
parts_again w c fit =
    let fits = fit.fits in
    let pairs = c.objects.pairs in
    let lack = page_size_in w - (8 + length (entries pairs)) in
    let zeros = replicate lack 0 in
    let body = entries pairs ++ zeros in
    let size : 8 + length body ≡ page_size_in w = omega (arith, length-append (entries pairs) zeros, length-replicate {A = ℕ} lack 0, fit.room) in
    let h : head_at w (page_bytes_in w c) ≡ Some ((c.number, length pairs), body) = ap (head_at w) (append_assoc (head_in w c.number (length pairs)) (entries pairs) zeros) ∙ head_again w c.number (length pairs) body fits.number size in
    let b : behind_at (length pairs) 0 body ≡ Some zeros = behind_again 0 pairs zeros fits.objects.rising fits.objects.each in
    let z : all_zero zeros ≡ true = are_zeros lack in
    let f : take (length body - length zeros) body ≡ entries pairs = front_of body (entries pairs) zeros refl in
    ap (λ (o : Option Head). option_map_or (λ h. after_head h) o None) h
    ∙ ap (λ (o : Option (List ℕ)). option_map_or (λ rest. rest_of ((c.number, length pairs), body) rest) o None) b
    ∙ ap (λ (t : Bool). cond t (Some ((c.number, length pairs), take (length body - length zeros) body)) None) z
    ∙ ap (λ (t : List ℕ). Some ((c.number, length pairs), t)) f

-- the same parts are those of one page
pub parts_are : (w : StoreFormat) (c : Contents) (x : Head) → PageFitsIn w c → Some x ≡ parts_at w (page_bytes_in w c) → made x.0.0 (pairs_of x.0.1 x.1) ≡ c
parts_are w c x fit e =
    let pairs = c.objects.pairs in
    let same : x ≡ ((c.number, length pairs), entries pairs) = head_is x ((c.number, length pairs), entries pairs) (e ∙ parts_again w c fit) in
    let again : pairs_of (length pairs) (entries pairs) ≡ pairs = ap (pairs_of (length pairs)) (sym (append-nil (entries pairs))) ∙ pairs_again pairs [] fit.fits.objects.each in
    ap (λ (y : Head). made y.0.0 (pairs_of y.0.1 y.1)) same ∙ ap (made c.number) again
  where
    head_is : (x y : Head) → Some x ≡ Some y → x ≡ y
    head_is x y e = cc

-- a page is one that is written
pub is_written : (c : Contents) → PageFits c → PageFitsIn Two c
is_written c fits = record { fits = fits; room = fits.objects.room }

pub one_page : (c d : Contents) → PageFits c → PageFits d → page_bytes c ≡ page_bytes d → c ≡ d
one_page c d fc fd e =
    let same = sym (parts_again Two c (is_written c fc)) in
    sym (parts_are Two c ((c.number, length c.objects.pairs), entries c.objects.pairs) (is_written c fc) same)
    ∙ parts_are Two d ((c.number, length c.objects.pairs), entries c.objects.pairs) (is_written d fd) (same ∙ ap (parts_at Two) e)

-- no page is spelled by bytes of which no parts are read
pub no_page : (w : StoreFormat) (bytes : List ℕ) (c : Contents) → None ≡ parts_at w bytes → PageFitsIn w c → bytes ≡ page_bytes_in w c → ⊥
no_page w bytes c e fit same = no_more ((c.number, length c.objects.pairs), entries c.objects.pairs) (e ∙ ap (parts_at w) same ∙ parts_again w c fit)

-- what reading found, as the page that is written has it
pub read_found : (bytes : List ℕ) (r : Result Contents Damaged) → IfOk r (λ page. PageFitsIn Two page × (bytes ≡ page_bytes_in Two page)) → IfOk r (λ page. PageFits page × (bytes ≡ page_bytes page))
read_found bytes (Ok page) found = (found.0.fits, found.1)
read_found bytes (Err e) found = tt

-- ---- twelve objects

small_entries : (pairs : Pairs) → AllByRecursion (λ q. length q.1 ≤ 1095) pairs → length (entries pairs) ≤ 1098 * length pairs
small_entries [] h = omega arith
small_entries (q ∷ pairs) h =
    let i = small_entries pairs h.1 in
    let f = h.0 in
    let e = ap length (entries_cons q pairs) in
    omega (arith, e, length-append (object_entry q) (entries pairs))

pub twelve : (c : Contents) → length c.objects.pairs ≤ 12 → All (λ q. length q.1 ≤ 1095) c.objects.pairs → 8 + length (entries c.objects.pairs) ≤ 16384
twelve c few small =
    let s = small_entries c.objects.pairs (recursion_from_All (λ q. length q.1 ≤ 1095) c.objects.pairs small) in
    omega arith
