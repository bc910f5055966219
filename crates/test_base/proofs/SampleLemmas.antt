-- What the tests need of their two namings.
use Rattle.std.proofs.Common.{◌≡◌, ℕ, zero, suc, ◌<◌, ◌+◌, List, [], ◌∷◌, ◌++◌, length, Option, Some, None, refl, ap, sym, ◌∙◌, subst, arith, length-append, replicate, slice_get}
use Rattle.std.proofs.lemmas.List.{get_or-replicate, length-replicate, length-map, map-append, nil_from_length}
use Rattle.std.proofs.lemmas.Option.{none-some, slice_get-get_or}
use Rattle.seen_board.specs.declared.knowledge.Knowledge.{Knowledge}
use Rattle.seen_board.specs.declared.knowledge.Made.{Made}
use Rattle.seen_board.specs.declared.knowledge.Maker.TheVariants.{Call, Nobody}
use Rattle.seen_board.specs.Clauses.{Added, MakesNext, MayGrow}
use Rattle.seen_board.specs.Knowledge.{at, items_of}
use Rattle.test_base.specs.Samples.{opened, puts}
use Rattle.seen_board.specs.Rows.{EachOf}
use Rattle.seen_board.proofs.Prefixes.{get_here}
use Rattle.seen_board.proofs.Rows.{each_pop}

pub added_length : {I : Type 0} (items : List I) (xs ys : List (Made I)) → Added items xs ys → length ys ≡ length xs + 1
added_length items xs ys a = ap length a.2 ∙ length-append xs (a.0 ∷ [])

-- the one item that is added behind all others is the last
pub added_last : {I : Type 0} (items : List I) (xs ys : List (Made I)) (x : I) → items ≡ items_of xs ++ x ∷ [] → Added items xs ys → items_of ys ≡ items
added_last items xs ys x is a =
    let last : slice_get items (length xs) ≡ Some x = ap (λ l. slice_get l (length xs)) is ∙ (ap (λ (n : ℕ). slice_get (items_of xs ++ x ∷ []) n) (sym (length-map xs (λ m. m.item))) ∙ get_here (items_of xs) x) in
    let both : Some a.0.item ≡ Some x = sym a.1 ∙ last in
    let same : a.0.item ≡ x = cc both in
    ap items_of a.2 ∙ (map-append (λ m. m.item) xs (a.0 ∷ []) ∙ (ap (λ y. items_of xs ++ y ∷ []) same ∙ sym is))

pub opened_may : (n : ℕ) (h : Knowledge ℕ ℕ) (r : ℕ) → length (at h.items r) < n → MayGrow opened (replicate n 0) h r
opened_may n h r lt =
    let many : length (replicate {A = ℕ} n 0) ≡ n = length-replicate n 0 in
    let here : length (at h.items r) < length (replicate {A = ℕ} n 0) = omega (arith, lt, many) in
    let item : slice_get (replicate {A = ℕ} n 0) (length (at h.items r)) ≡ Some 0 = slice_get-get_or (replicate n 0) (length (at h.items r)) 0 here ∙ ap Some (get_or-replicate n (length (at h.items r)) 0 0 lt) in (
      record { item = 0; by = Nobody },
      item,
      (((λ _. tt), (λ k i (e : Nobody ≡ Call k i). absurd (cc e))), λ k shown. absurd (none-some k shown)),
    )

pub opening_may : (items : List (Option (ℕ × ℕ))) (h : Knowledge (Option (ℕ × ℕ)) (ℕ × ℕ × ℕ)) (r : ℕ) → items ≡ None ∷ [] → at h.items r ≡ [] → MayGrow puts items h r
opening_may items h r is none = (
  record { item = None; by = Nobody },
  (ap (λ (l : List (Made (Option (ℕ × ℕ)))). slice_get items (length l)) none ∙ ap (λ l. slice_get l 0) is),
  (((λ _. refl), (λ k i (e : Nobody ≡ Call k i). absurd (cc e))), λ k shown. absurd (none-some k shown)),
)

-- a put makes its entry behind the last one
pub puts_next : (client place number by r : ℕ) (l : List (Made (Option (ℕ × ℕ)))) → client ≡ by → place ≡ length l → MakesNext puts (client, place, number) by r l (Some (client, number))
puts_next client place number by r l own here = record {
  makes = (here, refl);
  first = λ p y lt made. let at_p : place ≡ p = made.0 in absurd (omega (arith, here, at_p, lt));
  shows = λ j shown. let is : client ≡ j = cc shown in sym own ∙ is;
}

-- what holds of each of two, or of each of four, holds of all
pub each_two : {A : Type 0} (P : ℕ → A → Type 0) (xs : List A) (x y : A) → xs ≡ x ∷ y ∷ [] → P 0 x → P 1 y → EachOf P xs
each_two P xs x y is p q = subst (EachOf P) (sym is) pair
  where
    pair : EachOf P (x ∷ y ∷ [])
    pair zero z e = let same : x ≡ z = cc e in subst (P 0) same p
    pair (suc zero) z e = let same : y ≡ z = cc e in subst (P 1) same q
    pair (suc (suc i)) z e = absurd (none-some z e)

pub emptied : {A : Type 0} (all xs : List A) (x : A) (n : ℕ) → all ≡ xs ++ x ∷ [] → length all ≡ suc n → length xs ≡ n
emptied all xs x n is many = omega (arith, sym (ap length is) ∙ many, length-append xs (x ∷ []))

-- of a list of four that are taken from its end
pub four_taken : {A : Type 0} (P : ℕ → A → Type 0) (all three two one none : List A) (a b c d : A) → all ≡ three ++ d ∷ [] → three ≡ two ++ c ∷ [] → two ≡ one ++ b ∷ [] → one ≡ none ++ a ∷ []
    → length all ≡ 4 → EachOf P all → (none ≡ []) × P 0 a × P 1 b × P 2 c × P 3 d
four_taken P all three two one none a b c d e3 e2 e1 e0 many each =
    let n3 = emptied all three d 3 e3 many in
    let n2 = emptied three two c 2 e2 n3 in
    let n1 = emptied two one b 1 e1 n2 in
    let n0 = emptied one none a 0 e0 n1 in
    let p3 = each_pop P all three d e3 each in
    let p2 = each_pop P three two c e2 p3.0 in
    let p1 = each_pop P two one b e1 p2.0 in
    let p0 = each_pop P one none a e0 p1.0 in
    (nil_from_length none n0, subst (λ (n : ℕ). P n a) n0 p0.1, subst (λ (n : ℕ). P n b) n1 p1.1, subst (λ (n : ℕ). P n c) n2 p2.1, subst (λ (n : ℕ). P n d) n3 p3.1)

-- and of four that are put behind an empty list
pub four_put : {A : Type 0} (P : ℕ → A → Type 0) (all three two one none : List A) (a b c d : A) → none ≡ [] → one ≡ none ++ a ∷ [] → two ≡ one ++ b ∷ [] → three ≡ two ++ c ∷ [] → all ≡ three ++ d ∷ []
    → P 0 a → P 1 b → P 2 c → P 3 d → EachOf P all × (length all ≡ 4)
four_put P all three two one none a b c d e e0 e1 e2 e3 p0 p1 p2 p3 =
    let f1 : one ≡ a ∷ [] = e0 ∙ ap (λ l. l ++ a ∷ []) e in
    let f2 : two ≡ a ∷ b ∷ [] = e1 ∙ ap (λ l. l ++ b ∷ []) f1 in
    let f3 : three ≡ a ∷ b ∷ c ∷ [] = e2 ∙ ap (λ l. l ++ c ∷ []) f2 in
    let f4 : all ≡ a ∷ b ∷ c ∷ d ∷ [] = e3 ∙ ap (λ l. l ++ d ∷ []) f3 in
    (subst (EachOf P) (sym f4) four, ap length f4)
  where
    four : EachOf P (a ∷ b ∷ c ∷ d ∷ [])
    four zero z e = let same : a ≡ z = cc e in subst (P 0) same p0
    four (suc zero) z e = let same : b ≡ z = cc e in subst (P 1) same p1
    four (suc (suc zero)) z e = let same : c ≡ z = cc e in subst (P 2) same p2
    four (suc (suc (suc zero))) z e = let same : d ≡ z = cc e in subst (P 3) same p3
    four (suc (suc (suc (suc i)))) z e = absurd (none-some z e)

-- a list has an element at each place below its length
pub has_at : {A : Type 0} (xs : List A) (i : ℕ) → i < length xs → (x : A) × (slice_get xs i ≡ Some x)
has_at [] i lt = absurd (omega (arith, lt))
has_at (x ∷ xs) zero lt = (x, refl)
has_at (x ∷ xs) (suc i) lt = has_at xs i (omega (arith, lt))
