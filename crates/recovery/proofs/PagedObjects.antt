-- Objects of pages are of one repository, and no two have one name.
use Rattle.std.proofs.Common.{◌≡◌, ◌+◌, ◌<◌, ◌≤◌, List, [], ◌∷◌, ◌++◌, ap, arith, false, get_or, length, refl, subst, suc, sym, take, zero, ℕ, ◌∙◌}
use Rattle.std.proofs.Math.Seq.{take-suc}
use Rattle.std.proofs.lemmas.Grind.{flat_map-append}
use Rattle.std.proofs.lemmas.List.{append-nil, take_all}
use Rattle.std.proofs.lemmas.Slice.Zip.{all_zipped_more}
use Rattle.std.specs.List.{AllByRecursion, AllZip, IsDistinct, flat_map}
use Rattle.std.specs.Map.{keys_of}
use Rattle.mob_buffer.proofs.Writes.{not_same_name}
use Rattle.mob_buffer.specs.Buffer.{AreDistinct, AreOf, IsOf, same_name}
use Rattle.page_format.specs.Pages.{Rises}
use Rattle.page_store.specs.Objects.{IsObjectAt}
use Rattle.recovery.specs.Paged.{AreOnPage, IsPaged}
use Rattle.thor_value.specs.Spelling.{OrefFits}
use Rattle.thor_value.specs.declared.names.Oref.{Oref}
use Rattle.thor_value.specs.declared.values.Obj.{Obj}

all_append : {X : Type 0} (P : X → Type 0) (xs ys : List X) → AllByRecursion P xs → AllByRecursion P ys → AllByRecursion P (xs ++ ys)
all_append P [] ys first then = then
all_append P (x ∷ xs) ys first then = (first.0, all_append P xs ys first.1 then)

all_weaker : {X : Type 0} (P Q : X → Type 0) (xs : List X) → ((x : X) → P x → Q x) → AllByRecursion P xs → AllByRecursion Q xs
all_weaker P Q [] leads all = tt
all_weaker P Q (x ∷ xs) leads all = (leads x all.0, all_weaker P Q xs leads all.1)

-- ---- one page

slots_from : (least low repo number : ℕ) (pairs : List (ℕ × List ℕ)) (objects : List (Oref × Obj)) → least ≤ low → Rises low pairs → AllZip (IsPaged repo number) pairs objects → AllByRecursion (λ (w : Oref × Obj). least ≤ w.0.slot) objects
slots_from least low repo number [] [] below rises all = tt
slots_from least low repo number [] (w ∷ ws) below rises all = absurd all
slots_from least low repo number (q ∷ qs) [] below rises all = absurd all
slots_from least low repo number (q ∷ qs) (w ∷ ws) below rises all =
    let slot : w.0.slot ≡ q.0 = ap (λ (x : Oref). x.slot) all.0.name in
    (omega (arith, below, rises.0, slot), slots_from least (suc q.0) repo number qs ws (omega (arith, below, rises.0)) rises.1 all.1)

apart_slots : (x : Oref) (ws : List (Oref × Obj)) → AllByRecursion (λ (w : Oref × Obj). suc x.slot ≤ w.0.slot) ws → AllByRecursion (λ (y : Oref). same_name x y ≡ false) (keys_of ws)
apart_slots x [] all = tt
apart_slots x (w ∷ ws) all = (not_same_name x w.0 (λ e. (let same : x.slot ≡ w.0.slot = ap (λ (y : Oref). y.slot) e in omega (arith, same, all.0))), apart_slots x ws all.1)

slots_distinct : (low repo number : ℕ) (pairs : List (ℕ × List ℕ)) (objects : List (Oref × Obj)) → Rises low pairs → AllZip (IsPaged repo number) pairs objects → AreDistinct objects
unfolding IsDistinct
slots_distinct low repo number [] [] rises all = tt
slots_distinct low repo number [] (w ∷ ws) rises all = absurd all
slots_distinct low repo number (q ∷ qs) [] rises all = absurd all
slots_distinct low repo number (q ∷ qs) (w ∷ ws) rises all =
    let slot : w.0.slot ≡ q.0 = ap (λ (x : Oref). x.slot) all.0.name in
    (apart_slots w.0 ws (slots_from (suc w.0.slot) (suc q.0) repo number qs ws (omega (arith, slot)) rises.1 all.1), slots_distinct (suc q.0) repo number qs ws rises.1 all.1)

paged_of : (repo number : ℕ) (pairs : List (ℕ × List ℕ)) (objects : List (Oref × Obj)) → repo < 8 → number < 65536 → AllByRecursion IsObjectAt pairs → AllZip (IsPaged repo number) pairs objects → AreOf repo objects
paged_of repo number [] [] few small has all = tt
paged_of repo number [] (w ∷ ws) few small has all = absurd all
paged_of repo number (q ∷ qs) [] few small has all = absurd all
paged_of repo number (q ∷ qs) (w ∷ ws) few small has all = (
  record {
    repo_is = ap (λ (x : Oref). x.repo) all.0.name;
    name = subst OrefFits (sym all.0.name) (record { repo = few; page = small; slot = has.0.0 });
    object = all.0.fits;
  },
  paged_of repo number qs ws few small has.1 all.1,
)

paged_on : (repo number : ℕ) (pairs : List (ℕ × List ℕ)) (objects : List (Oref × Obj)) → AllZip (IsPaged repo number) pairs objects → AllByRecursion (λ (w : Oref × Obj). w.0.page ≡ number) objects
paged_on repo number [] [] all = tt
paged_on repo number [] (w ∷ ws) all = absurd all
paged_on repo number (q ∷ qs) [] all = absurd all
paged_on repo number (q ∷ qs) (w ∷ ws) all = (ap (λ (x : Oref). x.page) all.0.name, paged_on repo number qs ws all.1)

page_distinct : (repo number : ℕ) (objects : List (Oref × Obj)) → AreOnPage repo number objects → AreDistinct objects
page_distinct repo number objects on = slots_distinct 0 repo on.page.number on.page.objects.pairs objects on.has.fits.objects.rising on.each

page_of : (repo number : ℕ) (objects : List (Oref × Obj)) → repo < 8 → number < 65536 → AreOnPage repo number objects → AreOf repo objects
page_of repo number objects few small on = paged_of repo on.page.number on.page.objects.pairs objects few (omega (arith, small, on.number_is)) on.has.objects on.each

page_on : (repo number : ℕ) (objects : List (Oref × Obj)) → AreOnPage repo number objects → AllByRecursion (λ (w : Oref × Obj). w.0.page ≡ number) objects
page_on repo number objects on = subst (λ (n : ℕ). AllByRecursion (λ (w : Oref × Obj). w.0.page ≡ n) objects) on.number_is (paged_on repo on.page.number on.page.objects.pairs objects on.each)

-- ---- all pages

-- these are of an installed page that objects are named by
abbrev pub OnNamed : ℕ → ℕ × ℕ → List (Oref × Obj) → Type 0
OnNamed repo installed objects = (installed.0 < 65536) × AreOnPage repo installed.0 objects

-- objects of pages, page by page, of which each has P
pub record AreAll (P : ℕ × ℕ → List (Oref × Obj) → Type 0) (sides : List (ℕ × ℕ)) (objects : List (Oref × Obj)) : Type 0 where
  pub pages : List (List (Oref × Obj))
  pub each : AllZip P sides pages
  pub all : objects ≡ flat_map (λ page. page) pages

pages_from : (least low repo : ℕ) (sides : List (ℕ × ℕ)) (pages : List (List (Oref × Obj))) → least ≤ low → Rises low sides → AllZip (OnNamed repo) sides pages → AllByRecursion (λ (w : Oref × Obj). least ≤ w.0.page) (flat_map (λ page. page) pages)
pages_from least low repo [] [] below rises all = tt
pages_from least low repo [] (p ∷ ps) below rises all = absurd all
pages_from least low repo (s ∷ ss) [] below rises all = absurd all
pages_from least low repo (s ∷ ss) (p ∷ ps) below rises all =
    all_append (λ (w : Oref × Obj). least ≤ w.0.page) p (flat_map (λ page. page) ps)
    (all_weaker (λ (w : Oref × Obj). w.0.page ≡ s.0) (λ (w : Oref × Obj). least ≤ w.0.page) p (λ w is. omega (arith, is, below, rises.0)) (page_on repo s.0 p all.0.1))
    (pages_from least (suc s.0) repo ss ps (omega (arith, below, rises.0)) rises.1 all.1)

apart_pages : (x : Oref) (ws : List (Oref × Obj)) → AllByRecursion (λ (w : Oref × Obj). suc x.page ≤ w.0.page) ws → AllByRecursion (λ (y : Oref). same_name x y ≡ false) (keys_of ws)
apart_pages x [] all = tt
apart_pages x (w ∷ ws) all = (not_same_name x w.0 (λ e. (let same : x.page ≡ w.0.page = ap (λ (y : Oref). y.page) e in omega (arith, same, all.0))), apart_pages x ws all.1)

apart_both : (x : Oref) (xs ys : List (Oref × Obj)) → AllByRecursion (λ (y : Oref). same_name x y ≡ false) (keys_of xs) → AllByRecursion (λ (y : Oref). same_name x y ≡ false) (keys_of ys) → AllByRecursion (λ (y : Oref). same_name x y ≡ false) (keys_of (xs ++ ys))
apart_both x [] ys first then = then
apart_both x (v ∷ vs) ys first then = (first.0, apart_both x vs ys first.1 then)

distinct_both : (n : ℕ) (xs ys : List (Oref × Obj)) → AreDistinct xs → AllByRecursion (λ (w : Oref × Obj). w.0.page ≡ n) xs → AreDistinct ys → AllByRecursion (λ (w : Oref × Obj). suc n ≤ w.0.page) ys → AreDistinct (xs ++ ys)
unfolding IsDistinct
distinct_both n [] ys first on then above = then
distinct_both n (w ∷ ws) ys first on then above = (
  apart_both w.0 ws ys first.0 (apart_pages w.0 ys (all_weaker (λ (v : Oref × Obj). suc n ≤ v.0.page) (λ (v : Oref × Obj). suc w.0.page ≤ v.0.page) ys (λ v is. omega (arith, is, on.0)) above)),
  distinct_both n ws ys first.1 on.1 then above,
)

pages_distinct : (low repo : ℕ) (sides : List (ℕ × ℕ)) (pages : List (List (Oref × Obj))) → Rises low sides → AllZip (OnNamed repo) sides pages → AreDistinct (flat_map (λ page. page) pages)
unfolding IsDistinct
pages_distinct low repo [] [] rises all = tt
pages_distinct low repo [] (p ∷ ps) rises all = absurd all
pages_distinct low repo (s ∷ ss) [] rises all = absurd all
pages_distinct low repo (s ∷ ss) (p ∷ ps) rises all =
    distinct_both s.0 p (flat_map (λ page. page) ps) (page_distinct repo s.0 p all.0.1) (page_on repo s.0 p all.0.1)
    (pages_distinct (suc s.0) repo ss ps rises.1 all.1)
    (pages_from (suc s.0) (suc s.0) repo ss ps (omega arith) rises.1 all.1)

pages_of : (repo : ℕ) (sides : List (ℕ × ℕ)) (pages : List (List (Oref × Obj))) → repo < 8 → AllZip (OnNamed repo) sides pages → AreOf repo (flat_map (λ page. page) pages)
pages_of repo [] [] few all = tt
pages_of repo [] (p ∷ ps) few all = absurd all
pages_of repo (s ∷ ss) [] few all = absurd all
pages_of repo (s ∷ ss) (p ∷ ps) few all = all_append (IsOf repo) p (flat_map (λ page. page) ps) (page_of repo s.0 p few all.0.0 all.0.1) (pages_of repo ss ps few all.1)

pub all_distinct : (repo : ℕ) (sides : List (ℕ × ℕ)) (objects : List (Oref × Obj)) → Rises 0 sides → AreAll (OnNamed repo) sides objects → AreDistinct objects
all_distinct repo sides objects rises are = subst AreDistinct (sym are.all) (pages_distinct 0 repo sides are.pages rises are.each)

pub all_of : (repo : ℕ) (sides : List (ℕ × ℕ)) (objects : List (Oref × Obj)) → repo < 8 → AreAll (OnNamed repo) sides objects → AreOf repo objects
all_of repo sides objects few are = subst (AreOf repo) (sym are.all) (pages_of repo sides are.pages few are.each)

-- ---- page by page

pub all_none : (P : ℕ × ℕ → List (Oref × Obj) → Type 0) → AreAll P [] []
all_none P = record { pages = []; each = tt; all = refl }

more : (P : ℕ × ℕ → List (Oref × Obj) → Type 0) (before : List (ℕ × ℕ)) (installed : ℕ × ℕ) (objects added : List (Oref × Obj)) → AreAll P before objects → P installed added → AreAll P (before ++ installed ∷ []) (objects ++ added)
more P before installed objects added are one = record {
  pages = are.pages ++ added ∷ [];
  each = all_zipped_more P before are.pages installed added are.each one;
  all = ap (λ ws. ws ++ added) are.all ∙ (ap (λ ws. flat_map (λ page. page) are.pages ++ ws) (sym (append-nil added)) ∙ sym (flat_map-append (λ page. page) are.pages (added ∷ [])));
}

-- those before a place of a loop, and the one there
next_first : {X : Type 0} (xs : List X) (i : ℕ) (x : X) → i < length xs → x ≡ get_or xs i x → take (i + 1) xs ≡ take i xs ++ x ∷ []
next_first xs i x within is =
    let e : i + 1 ≡ suc i = omega arith in
    ap (λ n. take n xs) e ∙ (take-suc xs i x within ∙ ap (λ y. take i xs ++ y ∷ []) (sym is))

-- which default stands there doesn't matter within a list
get_or-same : {X : Type 0} (xs : List X) (i : ℕ) (d : X) → i < length xs → get_or xs i d ≡ get_or xs i (get_or xs i d)
get_or-same [] i d within = absurd (omega (arith, within))
get_or-same (x ∷ xs) zero d within = refl
get_or-same (x ∷ xs) (suc i) d within = get_or-same xs i d (omega (arith, within))

pub all_next : (P : ℕ × ℕ → List (Oref × Obj) → Type 0) (sides items : List (ℕ × ℕ)) (i : ℕ) (d : ℕ × ℕ) (objects added new : List (Oref × Obj)) → items ≡ sides → i < length items → AreAll P (take i sides) objects → P (get_or items i d) added → new ≡ objects ++ added → AreAll P (take (i + 1) sides) new
all_next P sides items i d objects added new same within are one put =
    let e : take (i + 1) items ≡ take i items ++ get_or items i d ∷ [] = next_first items i (get_or items i d) within (get_or-same items i d within) in
    subst (λ (qs : List (ℕ × ℕ)). AreAll P qs new) (sym (ap (λ qs. take (i + 1) qs) (sym same) ∙ e))
    (subst (λ (ws : List (Oref × Obj)). AreAll P (take i items ++ get_or items i d ∷ []) ws) (sym put)
    (more P (take i items) (get_or items i d) objects added (subst (λ (qs : List (ℕ × ℕ)). AreAll P (take i qs) objects) (sym same) are) one))

pub all_whole : (P : ℕ × ℕ → List (Oref × Obj) → Type 0) (sides items : List (ℕ × ℕ)) (i : ℕ) (objects : List (Oref × Obj)) → items ≡ sides → length items ≤ i → AreAll P (take i sides) objects → AreAll P sides objects
all_whole P sides items i objects same whole are = subst (λ (qs : List (ℕ × ℕ)). AreAll P qs objects) (take_all i sides (subst (λ (qs : List (ℕ × ℕ)). length qs ≤ i) same whole)) are

-- ---- the one at a place

zip_at : (P : ℕ × ℕ → List (Oref × Obj) → Type 0) (sides : List (ℕ × ℕ)) (pages : List (List (Oref × Obj))) (i : ℕ) (d : ℕ × ℕ) → i < length sides → AllZip P sides pages → (objects : List (Oref × Obj)) × P (get_or sides i d) objects
zip_at P [] pages i d within all = absurd (omega (arith, within))
zip_at P (s ∷ ss) [] i d within all = absurd all
zip_at P (s ∷ ss) (p ∷ ps) zero d within all = (p, all.0)
zip_at P (s ∷ ss) (p ∷ ps) (suc i) d within all = zip_at P ss ps i d (omega (arith, within)) all.1

pub all_at : (P : ℕ × ℕ → List (Oref × Obj) → Type 0) (sides items : List (ℕ × ℕ)) (pages : List (List (Oref × Obj))) (i : ℕ) (d : ℕ × ℕ) → items ≡ sides → i < length items → AllZip P sides pages → (objects : List (Oref × Obj)) × P (get_or items i d) objects
all_at P sides items pages i d same within all = zip_at P items pages i d within (subst (λ (qs : List (ℕ × ℕ)). AllZip P qs pages) (sym same) all)

each_at : (P : ℕ × ℕ → Type 0) (items : List (ℕ × ℕ)) (i : ℕ) (d : ℕ × ℕ) → i < length items → AllByRecursion P items → P (get_or items i d)
each_at P [] i d within all = absurd (omega (arith, within))
each_at P (s ∷ ss) zero d within all = all.0
each_at P (s ∷ ss) (suc i) d within all = each_at P ss i d (omega (arith, within)) all.1

pub side_at : (P : ℕ × ℕ → Type 0) (sides items : List (ℕ × ℕ)) (i : ℕ) (d : ℕ × ℕ) → items ≡ sides → i < length items → AllByRecursion P sides → P (get_or items i d)
side_at P sides items i d same within all = each_at P items i d within (subst (AllByRecursion P) (sym same) all)
