-- The objects of a page and their bytes stand for one another.
use Rattle.std.proofs.Common.{◌≡◌, ℕ, zero, suc, ◌^◌, ◌<◌, ◌≤◌, Bool, true, false, cond, ltb, List, [], ◌∷◌, ◌++◌, length, take, drop, Option, Some, None, refl, sym, ap, subst, ◌∙◌, append_assoc, arith}
use Rattle.std.specs.Int.{w16, from_be_bytes, to_be_bytes}
use Rattle.std.specs.List.{AllByRecursion}
use Rattle.std.proofs.lemmas.Bool.{le-ltb, ltb-false}
use Rattle.std.proofs.lemmas.List.{append-nil, length-append, length-take, take-append-drop}
use Rattle.std.proofs.lemmas.List.Concat.{flat_map-cons}
use Rattle.std.proofs.lemmas.Nat.{be_bytes_2, from_be_bytes-to_be_bytes_2}
use Rattle.std.proofs.Math.Seq.{take-append_seam, drop-append_seam}
use Rattle.thor_value.proofs.Exactness.{IsBytes, IsBytes-rest}
use Rattle.page_format.specs.Pages.{object_entry, entries, Rises, ObjectFits, ObjectsFit}
use Rattle.page_format.specs.Walking.{first_at, pairs_of, behind_at, AreStored}
use Rattle.page_format.proofs.Walks.{First, pairs_more, pairs_zero, behind_more, behind_none, behind_zero}

abbrev Pairs : Type 0
Pairs = List (ℕ × List ℕ)

-- ---- one object

pub first_again : (q : ℕ × List ℕ) (rest : List ℕ) → ObjectFits q → first_at (object_entry q ++ rest) ≡ Some (q, rest)
first_again q rest fits =
    let n : from_be_bytes w16 (to_be_bytes w16 (length q.1)) ≡ length q.1 = from_be_bytes-to_be_bytes_2 (length q.1) fits.1 in
    let long : ltb (length (q.1 ++ rest)) (length q.1) ≡ false = le-ltb _ _ (omega (arith, length-append q.1 rest)) in
    rw (n, long, take-append_seam q.1 rest, drop-append_seam q.1 rest) refl

guard : (b : Bool) (x y : First) → cond b None (Some x) ≡ Some y → (b ≡ false) × (x ≡ y)
guard true x y e = absurd cc
guard false x y e = (refl, cc)

two_bytes : (a b c : ℕ) (bytes : List ℕ) → IsBytes (a ∷ b ∷ c ∷ bytes) → IsBytes (b ∷ c ∷ [])
two_bytes a b c bytes h zero = h 1
two_bytes a b c bytes h (suc zero) = h 2
two_bytes a b c bytes h (suc (suc i)) = omega arith

pub first_found : (bytes : List ℕ) (x : First) → IsBytes bytes → first_at bytes ≡ Some x → (bytes ≡ object_entry x.0 ++ x.1) × ObjectFits x.0
first_found [] x b e = absurd cc
first_found (a ∷ []) x b e = absurd cc
first_found (a ∷ c ∷ []) x b e = absurd cc
first_found (a ∷ h ∷ l ∷ bytes) x b e =
    let two = two_bytes a h l bytes b in
    let n = from_be_bytes w16 (h ∷ l ∷ []) in
    let p = guard (ltb (length bytes) n) ((a, take n bytes), drop n bytes) x e in
    let le : n ≤ length bytes = ltb-false (length bytes) n p.0 in
    let front : length (take n bytes) ≡ n = omega (arith, length-take n bytes) in
    let below : n < 2 ^ 16 = omega (arith, two 0, two 1) in
    let spelled : to_be_bytes w16 (length (take n bytes)) ≡ h ∷ l ∷ [] = be_bytes_2 (h ∷ l ∷ []) (length (take n bytes)) refl two front in
    let whole : a ∷ h ∷ l ∷ bytes ≡ object_entry (a, take n bytes) ++ drop n bytes =
    ap (λ (t : List ℕ). a ∷ h ∷ l ∷ t) (sym (take-append-drop n bytes)) ∙ ap (λ (t : List ℕ). a ∷ ((t ++ take n bytes) ++ drop n bytes)) (sym spelled) in
    subst (λ (y : First). (a ∷ h ∷ l ∷ bytes ≡ object_entry y.0 ++ y.1) × ObjectFits y.0) p.1 (whole, (b 0, omega (arith, front, below)))

-- ---- all of them

pub entries_cons : (q : ℕ × List ℕ) (pairs : Pairs) → entries (q ∷ pairs) ≡ object_entry q ++ entries pairs
entries_cons q pairs = flat_map-cons object_entry q pairs

cons_behind : (q : ℕ × List ℕ) (pairs : Pairs) (rest : List ℕ) → entries (q ∷ pairs) ++ rest ≡ object_entry q ++ (entries pairs ++ rest)
cons_behind q pairs rest = ap (λ (t : List ℕ). t ++ rest) (entries_cons q pairs) ∙ append_assoc (object_entry q) (entries pairs) rest

pub pairs_again : (pairs : Pairs) (rest : List ℕ) → AllByRecursion ObjectFits pairs → pairs_of (length pairs) (entries pairs ++ rest) ≡ pairs
pairs_again [] rest fits = pairs_zero rest
pairs_again (q ∷ pairs) rest fits =
    let f : first_at (entries (q ∷ pairs) ++ rest) ≡ Some (q, entries pairs ++ rest) = ap first_at (cons_behind q pairs rest) ∙ first_again q (entries pairs ++ rest) fits.0 in
    pairs_more (length pairs) (entries (q ∷ pairs) ++ rest) (q, entries pairs ++ rest) f ∙ ap (λ (t : Pairs). q ∷ t) (pairs_again pairs rest fits.1)

pub behind_again : (low : ℕ) (pairs : Pairs) (rest : List ℕ) → Rises low pairs → AllByRecursion ObjectFits pairs → behind_at (length pairs) low (entries pairs ++ rest) ≡ Some rest
behind_again low [] rest r fits = behind_zero low rest
behind_again low (q ∷ pairs) rest r fits =
    let f : first_at (entries (q ∷ pairs) ++ rest) ≡ Some (q, entries pairs ++ rest) = ap first_at (cons_behind q pairs rest) ∙ first_again q (entries pairs ++ rest) fits.0 in
    behind_more (length pairs) low (entries (q ∷ pairs) ++ rest) (q, entries pairs ++ rest) f
    ∙ ap (λ (b : Bool). cond b None (behind_at (length pairs) (suc q.0) (entries pairs ++ rest))) (le-ltb q.0 low r.0)
    ∙ behind_again (suc q.0) pairs rest r.1 fits.1

-- what is known of the objects that a walk passed
pub record Passed (n low : ℕ) (bytes : List ℕ) (pairs : Pairs) (rest : List ℕ) : Type 0 where
  pub whole : bytes ≡ entries pairs ++ rest
  pub all : length pairs ≡ n
  pub rising : Rises low pairs
  pub each : AllByRecursion ObjectFits pairs

some_is : (x y : List ℕ) → Some x ≡ Some y → x ≡ y
some_is x y e = cc

chosen_some : (b : Bool) (o : Option (List ℕ)) (y : List ℕ) → cond b None o ≡ Some y → (b ≡ false) × (o ≡ Some y)
chosen_some true o y e = absurd cc
chosen_some false o y e = (refl, e)

passed_more : (n low : ℕ) (bytes rest : List ℕ) (x : First) (pairs : Pairs) → low ≤ x.0.0 → ObjectFits x.0 → bytes ≡ object_entry x.0 ++ x.1 → Passed n (suc x.0.0) x.1 pairs rest → Passed (suc n) low bytes (x.0 ∷ pairs) rest
passed_more n low bytes rest x pairs le fits e p = record {
  whole = e ∙ ap (λ (t : List ℕ). object_entry x.0 ++ t) p.whole ∙ sym (cons_behind x.0 pairs rest);
  all = ap suc p.all;
  rising = (le, p.rising);
  each = (fits, p.each);
}

no_some : (rest : List ℕ) → None ≡ Some rest → ⊥
no_some rest h = cc

walk : (n low : ℕ) (bytes rest : List ℕ) → ((k : ℕ) (left : List ℕ) → IsBytes left → behind_at n k left ≡ Some rest → Passed n k left (pairs_of n left) rest)
    → IsBytes bytes → behind_at (suc n) low bytes ≡ Some rest → (o : Option First) → first_at bytes ≡ o → Passed (suc n) low bytes (pairs_of (suc n) bytes) rest
walk n low bytes rest others b e None f = absurd (no_some rest (sym (behind_none n low bytes f) ∙ e))
walk n low bytes rest others b e (Some x) f =
    let c = chosen_some (ltb x.0.0 low) (behind_at n (suc x.0.0) x.1) rest (sym (behind_more n low bytes x f) ∙ e) in
    let g = first_found bytes x b f in
    let r = others (suc x.0.0) x.1 (IsBytes-rest bytes (object_entry x.0) x.1 g.0 b) c.1 in
    subst (λ (p : Pairs). Passed (suc n) low bytes p rest) (sym (pairs_more n bytes x f)) (passed_more n low bytes rest x (pairs_of n x.1) (ltb-false x.0.0 low c.0) g.1 g.0 r)

pub behind_found : (n low : ℕ) (bytes rest : List ℕ) → IsBytes bytes → behind_at n low bytes ≡ Some rest → Passed n low bytes (pairs_of n bytes) rest
behind_found zero low bytes rest b e =
    let same : bytes ≡ rest = some_is bytes rest (sym (behind_zero low bytes) ∙ e) in
    subst (λ (p : Pairs). Passed 0 low bytes p rest) (sym (pairs_zero bytes)) (record { whole = same; all = refl; rising = tt; each = tt })
behind_found (suc n) low bytes rest b e = walk n low bytes rest (λ k left h f. behind_found n k left rest h f) b e (first_at bytes) refl

-- objects that fit are stored by their bytes
pub stored : (pairs : Pairs) → ObjectsFit pairs → AreStored (length pairs) (entries pairs)
stored pairs fit =
    let again : pairs_of (length pairs) (entries pairs) ≡ pairs = ap (pairs_of (length pairs)) (sym (append-nil (entries pairs))) ∙ pairs_again pairs [] fit.each in
    record {
      whole = ap entries again;
      all = ap length again;
      fit = subst ObjectsFit (sym again) fit;
    }
