-- The words of a report have no space and no end of a line, and tell what they stand for.
use Rattle.std.proofs.Common.{◌≡◌, ℕ, suc, ◌+◌, ◌*◌, ◌<◌, ◌^◌, nat_lt, Bool, true, ◌&&◌, ℤ, pos, negsuc, List, [], ◌∷◌, ◌++◌, refl, ap, arith, map, codes, All}
use Rattle.std.proofs.lemmas.Bool.Decides.{nat_tests}
use Rattle.std.proofs.lemmas.Fmt.{decimal_is_IsNumeral, decimal_injective}
use Rattle.std.proofs.lemmas.Str.Parse.{digit_from_value}
use Rattle.std.proofs.lemmas.List.Elements.{All-head, All-tail}
use Rattle.std.proofs.lemmas.Bool.{and_parts}
use Rattle.std.specs.Fmt.{decimal, signed_decimal}
use Rattle.std.specs.Str.Parse.{AllDigits}
use lib.Signed.{mag}
use Rattle.thor_value.specs.declared.names.Oref.{Oref}
use Rattle.thor_value.specs.declared.names.Ts.{Ts}
use Rattle.thor_value.specs.declared.values.Who.{Who}
use Rattle.thor_value.specs.declared.values.Fault.{Fault}
use Rattle.thor_value.specs.declared.values.Fault.TheVariants.{NullCall, Steps, Depth, Large}
use Rattle.report_text.specs.Words.{Word, two_numbers, three_numbers, who_word, ts_word, oref_word, fault_word}
use Rattle.report_text.specs.Fits.{FitsTs, FitsOref, FitsWho}
use Rattle.report_text.proofs.Splits.{Above, Plain, cut, above_less, above-append}

digits_above : (ds : List ℕ) → AllDigits 10 ds → Above 47 ds
digits_above [] d = tt
digits_above (c ∷ cs) d = (omega (arith, digit_from_value c d.0), digits_above cs d.1)

pub decimal_above : (n : ℕ) → n < 2 ^ 64 → Above 47 (decimal n)
decimal_above n h = digits_above (decimal n) (decimal_is_IsNumeral n h).0.1

pub decimal_plain : (n : ℕ) → n < 2 ^ 64 → Above 32 (decimal n)
decimal_plain n h = above_less 32 47 (decimal n) (omega arith) (decimal_above n h)

pub signed_plain : (z : ℤ) → mag z < 2 ^ 63 → Above 32 (signed_decimal z)
signed_plain (pos n) h = decimal_plain n (omega arith)
signed_plain (negsuc n) h = (omega arith, decimal_plain (suc n) (omega arith))

pub two_plain : (a b : ℕ) → a < 2 ^ 64 → b < 2 ^ 64 → Above 32 (two_numbers a b)
two_plain a b p q = above-append 32 (decimal a) (46 ∷ decimal b) (decimal_plain a p) (omega arith, decimal_plain b q)

pub three_plain : (a b c : ℕ) → a < 2 ^ 64 → b < 2 ^ 64 → c < 2 ^ 64 → Above 32 (three_numbers a b c)
three_plain a b c p q r = above-append 32 (decimal a) (46 ∷ two_numbers b c) (decimal_plain a p) (omega arith, two_plain b c q r)

-- a number before a point
cut_number : (a b : ℕ) (s t : List ℕ) → a < 2 ^ 64 → b < 2 ^ 64 → decimal a ++ (46 ∷ s) ≡ decimal b ++ (46 ∷ t) → (a ≡ b) × (s ≡ t)
cut_number a b s t p q e =
    let one = cut 46 (decimal a) (decimal b) (46 ∷ s) (46 ∷ t) (above_less 46 47 (decimal a) (omega arith) (decimal_above a p))
    (above_less 46 47 (decimal b) (omega arith) (decimal_above b q)) (omega arith) (omega arith) e in
    let rest : 46 ∷ s ≡ 46 ∷ t = one.1 in
    (decimal_injective a b p q one.0, cc)

pub two_tell : (a b c d : ℕ) → a < 2 ^ 64 → b < 2 ^ 64 → c < 2 ^ 64 → d < 2 ^ 64 → two_numbers a b ≡ two_numbers c d → (a ≡ c) × (b ≡ d)
two_tell a b c d p q r s e =
    let one = cut_number a c (decimal b) (decimal d) p r e in
    (one.0, decimal_injective b d q s one.1)

pub who_plain : (w : Who) → FitsWho w → Above 32 (who_word w)
unfolding who_word
who_plain w f = two_plain w.client w.index f.0 f.1

pub who_tells : (w v : Who) → FitsWho w → FitsWho v → who_word w ≡ who_word v → w ≡ v
unfolding who_word
who_tells w v f g e =
    let both = two_tell w.client w.index v.client v.index f.0 f.1 g.0 g.1 e in
    λ i. record { client = both.0 i; index = both.1 i }

pub ts_plain : (t : Ts) → FitsTs t → Above 32 (ts_word t)
unfolding ts_word
ts_plain t f = three_plain t.time t.repo t.life f.0 f.1 f.2

pub ts_tells : (t u : Ts) → FitsTs t → FitsTs u → ts_word t ≡ ts_word u → t ≡ u
unfolding ts_word
ts_tells t u f g e =
    let one = cut_number t.time u.time (two_numbers t.repo t.life) (two_numbers u.repo u.life) f.0 g.0 e in
    let both = two_tell t.repo t.life u.repo u.life f.1 f.2 g.1 g.2 one.1 in
    λ i. record { time = one.0 i; repo = both.0 i; life = both.1 i }

pub oref_plain : (x : Oref) → FitsOref x → Above 32 (oref_word x)
unfolding oref_word
oref_plain x f = three_plain x.repo x.page x.slot f.0 f.1 f.2

pub oref_tells : (x y : Oref) → FitsOref x → FitsOref y → oref_word x ≡ oref_word y → x ≡ y
unfolding oref_word
oref_tells x y f g e =
    let one = cut_number x.repo y.repo (two_numbers x.page x.slot) (two_numbers y.page y.slot) f.0 g.0 e in
    let both = two_tell x.page x.slot y.page y.slot f.1 f.2 g.1 g.2 one.1 in
    λ i. record { repo = one.0 i; page = both.0 i; slot = both.1 i }

-- a word that computes, tested byte by byte
abbrev all_above : ℕ → List ℕ → Bool
all_above k [] = true
all_above k (b ∷ bs) = nat_lt k b && all_above k bs

pub tested_above : (k : ℕ) (bs : List ℕ) → all_above k bs ≡ true → Above k bs
tested_above k [] e = tt
tested_above k (b ∷ bs) e =
    let both = and_parts (nat_lt k b) (all_above k bs) e in
    let first : nat_lt k b ≡ true = both.0 in
    (grind (arith, nat_tests), tested_above k bs both.1)

-- the first two bytes of a word, as one number
abbrev pub mark : Word → ℕ
mark [] = 0
mark (b ∷ []) = b
mark (b ∷ c ∷ bs) = 256 * b + c

pub fault_plain : (f : Fault) → Above 32 (fault_word f)
fault_plain NullCall = tested_above 32 (codes "NullCall") refl
fault_plain Steps = tested_above 32 (codes "Steps") refl
fault_plain Depth = tested_above 32 (codes "Depth") refl
fault_plain Large = tested_above 32 (codes "Large") refl

pub fault_tells : (f g : Fault) → fault_word f ≡ fault_word g → f ≡ g
fault_tells NullCall NullCall e = refl
fault_tells Steps Steps e = refl
fault_tells Depth Depth e = refl
fault_tells Large Large e = refl
fault_tells f g e = let same : mark (fault_word f) ≡ mark (fault_word g) = ap mark e in absurd (omega arith)

pub map_plain : {X : Type 0} (word : X → Word) (P : X → Type 0) → ((x : X) → P x → Above 32 (word x)) → (xs : List X) → All P xs → Plain (map word xs)
map_plain word P each [] a = tt
map_plain word P each (x ∷ xs) a = (each x (All-head P x xs a), map_plain word P each xs (All-tail P x xs a))

pub map_tells : {X Y : Type 0} (f : X → Y) (P : X → Type 0) → ((x y : X) → P x → P y → f x ≡ f y → x ≡ y)
    → (xs ys : List X) → All P xs → All P ys → map f xs ≡ map f ys → xs ≡ ys
map_tells f P each [] [] a b e = refl
map_tells f P each [] (y ∷ ys) a b e = cc
map_tells f P each (x ∷ xs) [] a b e = cc
map_tells f P each (x ∷ xs) (y ∷ ys) a b e =
    let head : f x ≡ f y = cc in
    let tail : map f xs ≡ map f ys = cc in
    let first = each x y (All-head P x xs a) (All-head P y ys b) head in
    let others = map_tells f P each xs ys (All-tail P x xs a) (All-tail P y ys b) tail in
    λ i. first i ∷ others i
