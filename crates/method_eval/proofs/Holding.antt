-- Lists of held names: the first that waits is given, and all are taken back.
use Rattle.std.proofs.Common.{◌≡◌, ◌≤◌, ◌<◌, ◌+◌, Bool, true, false, cond, List, [], ◌∷◌, ◌++◌, map, length, take, drop, ℕ, zero, suc, refl, ap, sym, ◌∙◌, arith, get_or, slice_get, Option, Some, None, append_assoc, IsSomeAnd}
use Rattle.std.proofs.lemmas.Bool.Decides.{nat_tests}
use Rattle.std.proofs.lemmas.List.Elements.{filter-append}
use Rattle.std.proofs.lemmas.List.Folds.{find_at}
use Rattle.std.proofs.lemmas.List.Sums.{fold_more}
use Rattle.std.proofs.lemmas.List.{take_more}
use Rattle.std.specs.List.{filter, fold, position_or_len, range_with_len}
use Rattle.std.specs.Prelude.{find, nat_lt, not, position, slice_set}
use Rattle.thor_value.specs.declared.names.Oref.{Oref}
use Rattle.method_eval.proofs.Marking.{page_from}
use Rattle.method_eval.specs.Names.{Names, free, give, next, next_by, next_stand_in, orefs, waiting, waits_in}
use Rattle.method_eval.specs.declared.held.Held.{Held}

-- ---- the first that waits is given

place_by : (b : Bool) (n i : ℕ) → cond {A = Option ℕ} b (Some n) None ≡ Some i → i ≡ n
place_by true n i e = cc
place_by false n i e = cc

not_below : (b : Bool) (n : ℕ) → cond {A = Option ℕ} b (Some n) None ≡ None → b ≡ false
not_below true n e = cc
not_below false n e = refl

-- nothing stands past the end
pub past : {X : Type 0} (xs : List X) (i : ℕ) → nat_lt i (length xs) ≡ false → slice_get xs i ≡ None
past [] i h = refl
past (x ∷ xs) zero h = absurd (grind (arith, nat_tests))
past (x ∷ xs) (suc i) h = past xs i (grind (arith, nat_tests))

found_at : (p : Held → Bool) (held : List Held) (i : ℕ) (one : Held) → position p held ≡ Some i → slice_get held i ≡ Some one → find p held ≡ Some one
found_at p held i one e is = find_at p held ∙ ap (slice_get held) (sym (place_by (nat_lt (position_or_len p held) (length held)) (position_or_len p held) i e)) ∙ is

none_at : (p : Held → Bool) (held : List Held) → position p held ≡ None → find p held ≡ None
none_at p held e = find_at p held ∙ past held (position_or_len p held) (not_below (nat_lt (position_or_len p held) (length held)) (position_or_len p held) e)

given_at : (p : Held → Bool) (held : List Held) (i : ℕ) (one : Held) → i ≡ position_or_len p held → slice_get held i ≡ Some one → give p held ≡ slice_set held i (record one { given = true })
given_at p [] i one e is = cc
given_at p (h ∷ held) i one e is = by (p h) i e is (λ j f g. given_at p held j one f g)
  where
    by : (b : Bool) (j : ℕ) → j ≡ cond (not b) (1 + position_or_len p held) 0 → slice_get (h ∷ held) j ≡ Some one
        → ((k : ℕ) → k ≡ position_or_len p held → slice_get held k ≡ Some one → give p held ≡ slice_set held k (record one { given = true }))
        → cond b (record h { given = true } ∷ held) (h ∷ give p held) ≡ slice_set (h ∷ held) j (record one { given = true })
    by true zero f g rest = let same : h ≡ one = cc in ap (λ (k : Held). record k { given = true } ∷ held) same
    by true (suc j) f g rest = absurd (omega (arith, f))
    by false zero f g rest = absurd (omega (arith, f))
    by false (suc j) f g rest = ap (λ (hs : List Held). h ∷ hs) (rest j (omega (arith, f)) g)

pub next_given : (n : Names) (repo i : ℕ) (r : Oref) (held : List Held) → position (waits_in repo) n.held ≡ Some i
    → IsSomeAnd (slice_get n.held i) (λ one. (r ≡ one.oref) × (held ≡ slice_set n.held i (record one { given = true })))
    → (Some r, record n { held = held }) ≡ next repo n
next_given n repo i r held e h = by (slice_get n.held i) refl h
  where
    by : (o : Option Held) → slice_get n.held i ≡ o → IsSomeAnd o (λ one. (r ≡ one.oref) × (held ≡ slice_set n.held i (record one { given = true })))
        → (Some r, record n { held = held }) ≡ next repo n
    by None is k = absurd k
    by (Some one) is k =
        let g : held ≡ give (waits_in repo) n.held = k.1 ∙ sym (given_at (waits_in repo) n.held i one (place_by (nat_lt (position_or_len (waits_in repo) n.held) (length n.held)) (position_or_len (waits_in repo) n.held) i e) is) in
        ap (λ (x : Oref). (Some x, record n { held = held })) k.0
        ∙ ap (λ (hs : List Held). (Some one.oref, record n { held = hs })) g
        ∙ sym (ap (next_by n repo) (found_at (waits_in repo) n.held i one e is))

given_one : (held : List Held) (i : ℕ) (one : Held) → slice_get held i ≡ Some one → orefs (slice_set held i (record one { given = true })) ≡ orefs held
given_one [] i one is = cc
given_one (h ∷ held) zero one is = let same : one ≡ h = cc in ap (λ (k : Held). k.oref ∷ orefs held) same
given_one (h ∷ held) (suc i) one is = ap (λ (xs : List Oref). h.oref ∷ xs) (given_one held i one is)

-- a name that is given is the same name
pub given_names : (held new : List Held) (i : ℕ) (r : Oref) → IsSomeAnd (slice_get held i) (λ one. (r ≡ one.oref) × (new ≡ slice_set held i (record one { given = true }))) → orefs new ≡ orefs held
given_names held new i r h = by (slice_get held i) refl h
  where
    by : (o : Option Held) → slice_get held i ≡ o → IsSomeAnd o (λ one. (r ≡ one.oref) × (new ≡ slice_set held i (record one { given = true }))) → orefs new ≡ orefs held
    by None is k = absurd k
    by (Some one) is k = ap orefs k.1 ∙ given_one held i one is

pub next_not_held : (n : Names) (repo : ℕ) → position (waits_in repo) n.held ≡ None → next_stand_in n n.stand_in ≡ next repo n
next_not_held n repo e = sym (ap (next_by n repo) (none_at (waits_in repo) n.held e))

-- ---- all are taken back

-- the first ones taken back
abbrev pub back_to : ℕ → List Held → List Held
back_to n held = map (λ h. free h.oref) (take n held) ++ drop n held

back_one : (i : ℕ) (held : List Held) (one : Held) → slice_get (back_to i held) i ≡ Some one → slice_set (back_to i held) i (free one.oref) ≡ back_to (i + 1) held
back_one zero [] one is = cc
back_one zero (h ∷ held) one is = let same : h ≡ one = cc in ap (λ (k : Held). free k.oref ∷ held) (sym same)
back_one (suc i) [] one is = cc
back_one (suc i) (h ∷ held) one is = ap (λ (hs : List Held). free h.oref ∷ hs) (back_one i held one is) ∙ ap (λ (k : ℕ). back_to k (h ∷ held)) (let e : suc (i + 1) ≡ suc i + 1 = omega arith in e)

pub back_more : (i : ℕ) (old held new : List Held) → held ≡ back_to i old → IsSomeAnd (slice_get held i) (λ one. new ≡ slice_set held i (free one.oref)) → new ≡ back_to (i + 1) old
back_more i old held new e h = by (slice_get held i) refl h
  where
    by : (o : Option Held) → slice_get held i ≡ o → IsSomeAnd o (λ one. new ≡ slice_set held i (free one.oref)) → new ≡ back_to (i + 1) old
    by None is k = absurd k
    by (Some one) is k =
        k ∙ ap (λ (hs : List Held). slice_set hs i (free one.oref)) e
        ∙ back_one i old one (ap (λ (hs : List Held). slice_get hs i) (sym e) ∙ is)

same_length : (held : List Held) (i : ℕ) (x : Held) → length (slice_set held i x) ≡ length held
same_length [] zero x = refl
same_length [] (suc i) x = refl
same_length (h ∷ held) zero x = refl
same_length (h ∷ held) (suc i) x = ap suc (same_length held i x)

pub back_as_many : (i : ℕ) (held new : List Held) → IsSomeAnd (slice_get held i) (λ one. new ≡ slice_set held i (free one.oref)) → length new ≡ length held
back_as_many i held new h = by (slice_get held i) h
  where
    by : (o : Option Held) → IsSomeAnd o (λ one. new ≡ slice_set held i (free one.oref)) → length new ≡ length held
    by None k = absurd k
    by (Some one) k = ap length k ∙ same_length held i (free one.oref)

pub back_all : (held : List Held) (n : ℕ) → length held ≤ n → back_to n held ≡ map (λ h. free h.oref) held
back_all [] zero le = refl
back_all [] (suc n) le = refl
back_all (h ∷ held) zero le = absurd (omega (arith, le))
back_all (h ∷ held) (suc n) le = ap (λ (hs : List Held). free h.oref ∷ hs) (back_all held n (omega (arith, le)))

-- ---- lists that grow

-- a list made of two
pub map_append : {X Y : Type 0} (f : X → Y) (xs ys : List X) → map f (xs ++ ys) ≡ map f xs ++ map f ys
map_append f [] ys = refl
map_append f (x ∷ xs) ys = ap (λ zs. f x ∷ zs) (map_append f xs ys)

-- one more that waits or not
pub waiting_more : (held : List Held) (i : ℕ) (one : Held) (names more : List Oref) → i < length held → one ≡ get_or held i one
    → names ≡ orefs (waiting (take i held)) → more ≡ names ++ orefs (waiting (one ∷ [])) → more ≡ orefs (waiting (take (i + 1) held))
waiting_more held i one names more lt is h put =
    put
    ∙ ap (λ (xs : List Oref). xs ++ orefs (waiting (one ∷ []))) h
    ∙ sym (map_append (λ (h : Held). h.oref) (waiting (take i held)) (waiting (one ∷ [])))
    ∙ ap orefs (sym (filter-append (λ (h : Held). not h.given) (take i held) (one ∷ [])))
    ∙ ap (λ (k : Held). orefs (waiting (take i held ++ k ∷ []))) is
    ∙ ap (λ (hs : List Held). orefs (waiting hs)) (sym (take_more held i one lt))

-- one more of listed names
pub listed_more : (names : List Oref) (i : ℕ) (x : Oref) (old held more : List Held) → i < length names → x ≡ get_or names i x
    → held ≡ old ++ map free (take i names) → more ≡ held ++ free x ∷ [] → more ≡ old ++ map free (take (i + 1) names)
listed_more names i x old held more lt is h put =
    put
    ∙ ap (λ (hs : List Held). hs ++ free x ∷ []) h
    ∙ append_assoc old (map free (take i names)) (free x ∷ [])
    ∙ ap (λ (hs : List Held). old ++ hs) (sym (map_append free (take i names) (x ∷ [])))
    ∙ ap (λ (y : Oref). old ++ map free (take i names ++ y ∷ [])) is
    ∙ ap (λ (xs : List Oref). old ++ map free xs) (sym (take_more names i x lt))

range_end : (a n : ℕ) → range_with_len a (n + 1) ≡ range_with_len a n ++ (a + n) ∷ []
range_end a zero = ap (λ (k : ℕ). k ∷ []) (omega arith)
range_end a (suc n) = ap (range_with_len a) (let e : suc n + 1 ≡ suc (n + 1) = omega arith in e) ∙ ap (λ (ks : List ℕ). a ∷ ks) (range_end (a + 1) n ∙ ap (λ (k : ℕ). range_with_len (a + 1) n ++ k ∷ []) (omega arith))

-- one more name of a page
pub page_more : (test : Oref → Bool) (repo page n : ℕ) (old held more : List Held)
    → held ≡ old ++ map free (filter test (page_from repo page n))
    → more ≡ held ++ map free (filter test (record { repo = repo; page = page; slot = n } ∷ []))
    → more ≡ old ++ map free (filter test (page_from repo page (n + 1)))
page_more test repo page n old held more h put =
    let x : Oref = record { repo = repo; page = page; slot = n } in
    let name : ℕ → Oref = λ k. record { repo = repo; page = page; slot = k } in
    put
    ∙ ap (λ (hs : List Held). hs ++ map free (filter test (x ∷ []))) h
    ∙ append_assoc old (map free (filter test (page_from repo page n))) (map free (filter test (x ∷ [])))
    ∙ ap (λ (hs : List Held). old ++ hs) (sym (map_append free (filter test (page_from repo page n)) (filter test (x ∷ []))))
    ∙ ap (λ (xs : List Oref). old ++ map free xs) (sym (filter-append test (page_from repo page n) (x ∷ [])))
    ∙ ap (λ (xs : List Oref). old ++ map free (filter test xs)) (sym (map_append name (range_with_len 0 n) (n ∷ [])))
    ∙ ap (λ (ks : List ℕ). old ++ map free (filter test (map name ks))) (ap (λ (k : ℕ). range_with_len 0 n ++ k ∷ []) (let e : n ≡ 0 + n = omega arith in e) ∙ sym (range_end 0 n))

pub front_of : (old held more : List Held) → held ≡ old ++ more → take (length old) held ≡ old
front_of old held more e = ap (take (length old)) e ∙ by old
  where
    by : (xs : List Held) → take (length xs) (xs ++ more) ≡ xs
    by [] = refl
    by (x ∷ xs) = ap (λ (ys : List Held). x ∷ ys) (by xs)

-- one more of the names that are spent
pub spent_more : {B : Type 0} (step : B → Held → B) (b c d : B) (held : List Held) (i : ℕ) (one : Held) → i < length held → one ≡ get_or held i one
    → c ≡ fold step b (take i held) → d ≡ step c one → d ≡ fold step b (take (i + 1) held)
spent_more step b c d held i one lt is h made =
    made ∙ ap (λ x. step x one) h ∙ ap (step (fold step b (take i held))) is ∙ sym (fold_more step b held i one lt)

freed : (held : List Held) → orefs (map (λ h. free h.oref) held) ≡ orefs held
freed [] = refl
freed (h ∷ held) = ap (λ (xs : List Oref). h.oref ∷ xs) (freed held)

-- names that are taken back are the same names
pub freed_names : (held new : List Held) → new ≡ map (λ h. free h.oref) held → orefs new ≡ orefs held
freed_names held new e = ap orefs e ∙ freed held
