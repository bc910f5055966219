-- A text of pieces tells its pieces, where what ends a piece is no byte of one.
use Rattle.std.proofs.Common.{◌≡◌, ℕ, ◌<◌, ◌≤◌, List, [], ◌∷◌, ◌++◌, refl, sym, ◌∙◌, ap, append_assoc, length, length-append, arith}
use Rattle.std.specs.List.{flat_map}
use Rattle.report_text.specs.Lines.{line, spaced_words}
use Rattle.report_text.specs.Words.{Word}

-- each byte is above k
abbrev pub Above : ℕ → List ℕ → Type 0
Above k [] = Unit {0}
Above k (b ∷ bs) = (k < b) × Above k bs

-- the first byte is at most k
abbrev pub Begins : ℕ → List ℕ → Type 0
Begins k [] = ⊥
Begins k (b ∷ bs) = b ≤ k

-- bytes above k, and then one that isn't, tell the bytes and what follows
pub cut : (k : ℕ) (xs ys s t : List ℕ) → Above k xs → Above k ys → Begins k s → Begins k t → xs ++ s ≡ ys ++ t → (xs ≡ ys) × (s ≡ t)
cut k [] [] s t a b p q e = (refl, e)
cut k [] (y ∷ ys) [] t a b p q e = absurd p
cut k [] (y ∷ ys) (c ∷ s) t a b p q e = let same : c ≡ y = cc in absurd (omega arith)
cut k (x ∷ xs) [] s [] a b p q e = absurd q
cut k (x ∷ xs) [] s (c ∷ t) a b p q e = let same : x ≡ c = cc in absurd (omega arith)
cut k (x ∷ xs) (y ∷ ys) s t a b p q e =
    let rest : xs ++ s ≡ ys ++ t = cc in
    let r = cut k xs ys s t a.1 b.1 p q rest in
    let same : xs ≡ ys = r.0 in
    (cc, r.1)

pub above_less : (j k : ℕ) (xs : List ℕ) → j ≤ k → Above k xs → Above j xs
above_less j k [] l a = tt
above_less j k (x ∷ xs) l a = (omega (arith, a.0), above_less j k xs l a.1)

pub above-append : (k : ℕ) (xs ys : List ℕ) → Above k xs → Above k ys → Above k (xs ++ ys)
above-append k [] ys a b = b
above-append k (x ∷ xs) ys a b = (a.0, above-append k xs ys a.1 b)

-- words of bytes above 32, so with no space and no end of a line
abbrev pub Plain : List Word → Type 0
Plain [] = Unit {0}
Plain (w ∷ ws) = Above 32 w × Plain ws

pub plain-append : (ws vs : List Word) → Plain ws → Plain vs → Plain (ws ++ vs)
plain-append [] vs a b = b
plain-append (w ∷ ws) vs a b = (a.0, plain-append ws vs a.1 b)

begins_break : (ws : List Word) (s : List ℕ) → Begins 32 (spaced_words ws ++ (10 ∷ s))
begins_break [] s = omega arith
begins_break (w ∷ ws) s = omega arith

-- the words of a line and what follows it
pub cut_words : (ws vs : List Word) (s t : List ℕ) → Plain ws → Plain vs → spaced_words ws ++ (10 ∷ s) ≡ spaced_words vs ++ (10 ∷ t) → (ws ≡ vs) × (s ≡ t)
cut_words [] [] s t a b e = (refl, cc)
cut_words [] (v ∷ vs) s t a b e = cc
cut_words (w ∷ ws) [] s t a b e = cc
cut_words (w ∷ ws) (v ∷ vs) s t a b e =
    let rest : (w ++ spaced_words ws) ++ (10 ∷ s) ≡ (v ++ spaced_words vs) ++ (10 ∷ t) = cc in
    let regrouped : w ++ (spaced_words ws ++ (10 ∷ s)) ≡ v ++ (spaced_words vs ++ (10 ∷ t)) =
    sym (append_assoc w (spaced_words ws) (10 ∷ s)) ∙ rest ∙ append_assoc v (spaced_words vs) (10 ∷ t) in
    let one = cut 32 w v _ _ a.0 b.0 (begins_break ws s) (begins_break vs t) regrouped in
    let more = cut_words ws vs s t a.1 b.1 one.1 in
    let first : w ≡ v = one.0 in
    let others : ws ≡ vs = more.0 in
    (cc, more.1)

-- a line as its first word and the others
abbrev pub Words : Type 0
Words = Word × List Word

abbrev pub PlainLine : Words → Type 0
PlainLine l = Above 32 l.0 × Plain l.1

abbrev pub line_of : Words → List ℕ
line_of l = line l.0 l.1

abbrev pub PlainLines : List Words → Type 0
PlainLines [] = Unit {0}
PlainLines (l ∷ ls) = PlainLine l × PlainLines ls

pub plain_lines-append : (ls ms : List Words) → PlainLines ls → PlainLines ms → PlainLines (ls ++ ms)
plain_lines-append [] ms a b = b
plain_lines-append (l ∷ ls) ms a b = (a.0, plain_lines-append ls ms a.1 b)

-- a line and what follows it
pub cut_line : (l m : Words) (s t : List ℕ) → PlainLine l → PlainLine m → line_of l ++ s ≡ line_of m ++ t → (l ≡ m) × (s ≡ t)
cut_line l m s t a b e =
    let regroup : (n : Words) (r : List ℕ) → line_of n ++ r ≡ n.0 ++ (spaced_words n.1 ++ (10 ∷ r)) = λ n r. simp append_assoc in
    let regrouped : l.0 ++ (spaced_words l.1 ++ (10 ∷ s)) ≡ m.0 ++ (spaced_words m.1 ++ (10 ∷ t)) = sym (regroup l s) ∙ e ∙ regroup m t in
    let one = cut 32 l.0 m.0 _ _ a.0 b.0 (begins_break l.1 s) (begins_break m.1 t) regrouped in
    let more = cut_words l.1 m.1 s t a.1 b.1 one.1 in
    ((λ i. (one.0 i, more.0 i)), more.1)

-- a line has a byte
no_line : (l : Words) (s : List ℕ) → ¬ ([] ≡ line_of l ++ s)
no_line l s e =
    let size = ap length e in
    omega (arith, size, length-append (line_of l) s, length-append l.0 (spaced_words l.1 ++ 10 ∷ []), length-append (spaced_words l.1) (10 ∷ []))

-- a text of lines tells its lines
pub cut_lines : (ls ms : List Words) → PlainLines ls → PlainLines ms → flat_map line_of ls ≡ flat_map line_of ms → ls ≡ ms
cut_lines [] [] a b e = refl
cut_lines [] (m ∷ ms) a b e = absurd (no_line m (flat_map line_of ms) e)
cut_lines (l ∷ ls) [] a b e = absurd (no_line l (flat_map line_of ls) (sym e))
cut_lines (l ∷ ls) (m ∷ ms) a b e =
    let one = cut_line l m _ _ a.0 b.0 e in
    let more = cut_lines ls ms a.1 b.1 one.1 in
    let first : l ≡ m = one.0 in
    cc
