-- Histories that lines tell, line by line.
use Rattle.std.proofs.Common.{◌≡◌, ◌<◌, ◌+◌, ℕ, zero, suc, Bool, true, false, List, [], ◌∷◌, ◌++◌, length, take, Option, None, Some, refl, ap, sym, ◌∙◌, subst, arith}
use Rattle.std.proofs.lemmas.List.{length-append, take-append-le}
use Rattle.std.specs.Prelude.{option_map}
use Rattle.serial_model.specs.History.{IsLegal}
use Rattle.serial_model.specs.Replays.{IsFirstNotLegal}
use Rattle.serial_model.specs.declared.entries.Did.{Did}
use Rattle.serial_model.specs.declared.entries.What.{What}
use Rattle.report_parse.specs.declared.report.Line.{Line}
use Rattle.top_history_check.specs.Lines.{ArePerformed, item_of}
use Rattle.audit_check.specs.Agreement.{AreLegalLines, IsFirstEntry, entry_of, history_of, with_entry}
use Rattle.audit_check.specs.Lines.{IsTold, NamesNone, Stops}
use Rattle.audit_check.specs.declared.audited.Audited.{Audited}

some_is : {X : Type 0} (x y : X) → Some x ≡ Some y → x ≡ y
some_is x y e = cc

-- ---- more lines

by_more : (l : Line) (o : Option What) (rest more : Option (List Did)) (tail : List Did) → ((es : List Did) → rest ≡ Some es → more ≡ Some (es ++ tail)) → (ds : List Did) → with_entry l o rest ≡ Some ds → with_entry l o more ≡ Some (ds ++ tail)
by_more l None rest more tail f ds h = let bad : None ≡ Some ds = h in cc
by_more l (Some w) None more tail f ds h = let bad : None ≡ Some ds = h in cc
by_more l (Some w) (Some es) more tail f ds h =
    let e : entry_of l w ∷ es ≡ ds = some_is (entry_of l w ∷ es) ds h in
    subst (λ (xs : List Did). with_entry l (Some w) more ≡ Some (xs ++ tail)) e (ap (with_entry l (Some w)) (f es refl))

pub told_append : (clients : List (List What)) (front behind : List Line) (ds es : List Did) → history_of clients front ≡ Some ds → history_of clients behind ≡ Some es → history_of clients (front ++ behind) ≡ Some (ds ++ es)
told_append clients [] behind ds es h g = let e : [] ≡ ds = some_is [] ds h in subst (λ (xs : List Did). history_of clients behind ≡ Some (xs ++ es)) e g
told_append clients (l ∷ front) behind ds es h g =
    by_more l (item_of clients l.who) (history_of clients front) (history_of clients (front ++ behind)) es (λ fs k. told_append clients front behind fs es k g) ds h

told_one : (clients : List (List What)) (l : Line) (w : What) → item_of clients l.who ≡ Some w → history_of clients (l ∷ []) ≡ Some (entry_of l w ∷ [])
told_one clients l w is = ap (λ (o : Option What). with_entry l o (Some [])) is

-- one line more, of an item
pub told_more : (clients : List (List What)) (front : List Line) (l : Line) (ds : List Did) (d : Did) → history_of clients front ≡ Some ds → Some d ≡ option_map (entry_of l) (item_of clients l.who) → history_of clients (front ++ l ∷ []) ≡ Some (ds ++ d ∷ [])
told_more clients front l ds d told is = by_item (item_of clients l.who) refl is
  where
    by_item : (o : Option What) → item_of clients l.who ≡ o → Some d ≡ option_map (entry_of l) o → history_of clients (front ++ l ∷ []) ≡ Some (ds ++ d ∷ [])
    by_item None e h = let bad : Some d ≡ None = h in cc
    by_item (Some w) e h =
        let same : d ≡ entry_of l w = some_is d (entry_of l w) h in
        subst (λ (x : Did). history_of clients (front ++ l ∷ []) ≡ Some (ds ++ x ∷ [])) (sym same) (told_append clients front (l ∷ []) ds (entry_of l w ∷ []) told (told_one clients l w e))

-- ---- the front of the lines

by_take : (n : ℕ) (l : Line) (o : Option What) (rest more : Option (List Did)) → ((es : List Did) → rest ≡ Some es → more ≡ Some (take n es)) → (ds : List Did) → with_entry l o rest ≡ Some ds → with_entry l o more ≡ Some (take (suc n) ds)
by_take n l None rest more f ds h = let bad : None ≡ Some ds = h in cc
by_take n l (Some w) None more f ds h = let bad : None ≡ Some ds = h in cc
by_take n l (Some w) (Some es) more f ds h =
    let e : entry_of l w ∷ es ≡ ds = some_is (entry_of l w ∷ es) ds h in
    subst (λ (xs : List Did). with_entry l (Some w) more ≡ Some (take (suc n) xs)) e (ap (with_entry l (Some w)) (f es refl))

pub told_take : (clients : List (List What)) (n : ℕ) (lines : List Line) (ds : List Did) → history_of clients lines ≡ Some ds → history_of clients (take n lines) ≡ Some (take n ds)
told_take clients zero lines ds h = refl
told_take clients (suc n) [] ds h = let e : [] ≡ ds = some_is [] ds h in subst (λ (xs : List Did). Some [] ≡ Some (take (suc n) xs)) e refl
told_take clients (suc n) (l ∷ ls) ds h = by_take n l (item_of clients l.who) (history_of clients ls) (history_of clients (take n ls)) (λ es k. told_take clients n ls es k) ds h

by_length : (l : Line) (o : Option What) (rest : Option (List Did)) (n : ℕ) → ((es : List Did) → rest ≡ Some es → length es ≡ n) → (ds : List Did) → with_entry l o rest ≡ Some ds → length ds ≡ suc n
by_length l None rest n f ds h = let bad : None ≡ Some ds = h in cc
by_length l (Some w) None n f ds h = let bad : None ≡ Some ds = h in cc
by_length l (Some w) (Some es) n f ds h =
    let e : entry_of l w ∷ es ≡ ds = some_is (entry_of l w ∷ es) ds h in
    subst (λ (xs : List Did). length xs ≡ suc n) e (ap suc (f es refl))

pub told_length : (clients : List (List What)) (lines : List Line) (ds : List Did) → history_of clients lines ≡ Some ds → length ds ≡ length lines
told_length clients [] ds h = let e : [] ≡ ds = some_is [] ds h in subst (λ (xs : List Did). length xs ≡ 0) e refl
told_length clients (l ∷ ls) ds h = by_length l (item_of clients l.who) (history_of clients ls) (length ls) (λ es k. told_length clients ls es k) ds h

by_performed : (clients : List (List What)) (l : Line) (o : Option What) → item_of clients l.who ≡ o → (rest : Option (List Did)) → ((es : List Did) → rest ≡ Some es → ArePerformed clients es) → (ds : List Did) → with_entry l o rest ≡ Some ds → ArePerformed clients ds
by_performed clients l None is rest f ds h = let bad : None ≡ Some ds = h in cc
by_performed clients l (Some w) is None f ds h = let bad : None ≡ Some ds = h in cc
by_performed clients l (Some w) is (Some es) f ds h =
    let e : entry_of l w ∷ es ≡ ds = some_is (entry_of l w ∷ es) ds h in
    subst (λ (xs : List Did). ArePerformed clients xs) e (is, f es refl)

-- each entry performed the item that its line names
pub told_performed : (clients : List (List What)) (lines : List Line) (ds : List Did) → history_of clients lines ≡ Some ds → ArePerformed clients ds
told_performed clients [] ds h = let e : [] ≡ ds = some_is [] ds h in subst (λ (xs : List Did). ArePerformed clients xs) e tt
told_performed clients (l ∷ ls) ds h = by_performed clients l (item_of clients l.who) refl (history_of clients ls) (λ es k. told_performed clients ls es k) ds h

-- ---- a line of no item

no_rest : (l : Line) (o : Option What) (rest : Option (List Did)) → rest ≡ None → with_entry l o rest ≡ None
no_rest l None rest e = refl
no_rest l (Some w) None e = refl
no_rest l (Some w) (Some ds) e = let bad : Some ds ≡ None = e in cc

pub told_none : (clients : List (List What)) (front : List Line) (l : Line) (behind : List Line) → item_of clients l.who ≡ None → history_of clients (front ++ l ∷ behind) ≡ None
told_none clients [] l behind none = ap (λ (o : Option What). with_entry l o (history_of clients behind)) none
told_none clients (x ∷ front) l behind none = no_rest x (item_of clients x.who) (history_of clients (front ++ l ∷ behind)) (told_none clients front l behind none)

-- ---- legal lines

module _ (a : Audited) where
  pub legal_lines : (lines : List Line) (ds : List Did) → history_of a.clients lines ≡ Some ds → IsLegal a.schemas ds a.opened → AreLegalLines a lines
  legal_lines lines ds told legal = record { history = ds; told = told; legal = legal }

  pub not_legal_lines : (lines : List Line) (ds : List Did) → history_of a.clients lines ≡ Some ds → ¬ IsLegal a.schemas ds a.opened → ¬ AreLegalLines a lines
  not_legal_lines lines ds told none h = none (subst (λ (xs : List Did). IsLegal a.schemas xs a.opened) (some_is h.history ds (sym h.told ∙ told)) h.legal)

  pub none_legal : (lines : List Line) → history_of a.clients lines ≡ None → ¬ AreLegalLines a lines
  none_legal lines none h = let bad : None ≡ Some h.history = sym none ∙ h.told in cc

  -- the first entry that isn't legal, of lines that go on
  entry_in_front : (front behind : List Line) (ds : List Did) (place : ℕ) → history_of a.clients front ≡ Some ds → IsFirstNotLegal a.schemas ds a.opened place → IsFirstEntry a (front ++ behind) (place + 1)
  entry_in_front front behind ds place told first =
      let same : length ds ≡ length front = told_length a.clients front ds told in
      let low : place < length ds = first.within in
      let all : length (front ++ behind) ≡ length front + length behind = length-append front behind in
      let one : take place (front ++ behind) ≡ take place front = take-append-le place front behind (omega (arith, same, low)) in
      let two : take (place + 1) (front ++ behind) ≡ take (place + 1) front = take-append-le (place + 1) front behind (omega (arith, same, low)) in
      record {
        place = place;
        index_is = refl;
        within = omega (arith, same, low, all);
        before = subst (λ (xs : List Line). AreLegalLines a xs) (sym one) (legal_lines (take place front) (take place ds) (told_take a.clients place front ds told) first.before);
        with_it = subst (λ (xs : List Line). ¬ AreLegalLines a xs) (sym two) (not_legal_lines (take (place + 1) front) (take (place + 1) ds) (told_take a.clients (place + 1) front ds told) first.with_it);
      }

  append_nothing : (xs : List Line) → xs ++ [] ≡ xs
  append_nothing [] = refl
  append_nothing (x ∷ xs) = ap (λ ys. x ∷ ys) (append_nothing xs)

  -- the first entry that isn't legal
  pub entry_not_legal : (lines : List Line) (ds : List Did) (whole : Bool) (place : ℕ) → IsTold a.clients lines ds whole → IsFirstNotLegal a.schemas ds a.opened place → IsFirstEntry a lines (place + 1)
  entry_not_legal lines ds true place told first = subst (λ (xs : List Line). IsFirstEntry a xs (place + 1)) (append_nothing lines) (entry_in_front lines [] ds place told first)
  entry_not_legal lines ds false place told first = subst (λ (xs : List Line). IsFirstEntry a xs (place + 1)) (sym told.whole) (entry_in_front told.front told.behind ds place told.told first)

  take_front : (xs ys : List Line) → take (length xs) (xs ++ ys) ≡ xs
  take_front [] ys = refl
  take_front (x ∷ xs) ys = ap (λ zs. x ∷ zs) (take_front xs ys)

  take_one : (xs : List Line) (y : Line) (ys : List Line) → take (suc (length xs)) (xs ++ y ∷ ys) ≡ xs ++ y ∷ []
  take_one [] y ys = refl
  take_one (x ∷ xs) y ys = ap (λ zs. x ∷ zs) (take_one xs y ys)

  unnamed_behind : (front behind : List Line) (ds : List Did) → history_of a.clients front ≡ Some ds → NamesNone a.clients behind → IsLegal a.schemas ds a.opened → IsFirstEntry a (front ++ behind) (length ds + 1)
  unnamed_behind front [] ds told none legal = absurd none
  unnamed_behind front (l ∷ ls) ds told none legal =
      let same : length ds ≡ length front = told_length a.clients front ds told in
      let all : length (front ++ l ∷ ls) ≡ length front + suc (length ls) = length-append front (l ∷ ls) in
      let more : length ds + 1 ≡ suc (length front) = omega (arith, same) in
      let one : take (length ds) (front ++ l ∷ ls) ≡ front = ap (λ (n : ℕ). take n (front ++ l ∷ ls)) same ∙ take_front front (l ∷ ls) in
      let two : take (length ds + 1) (front ++ l ∷ ls) ≡ front ++ l ∷ [] = ap (λ (n : ℕ). take n (front ++ l ∷ ls)) more ∙ take_one front l ls in
      record {
        place = length ds;
        index_is = refl;
        within = omega (arith, same, all);
        before = subst (λ (xs : List Line). AreLegalLines a xs) (sym one) (legal_lines front ds told legal);
        with_it = subst (λ (xs : List Line). ¬ AreLegalLines a xs) (sym two) (none_legal (front ++ l ∷ []) (told_none a.clients front l [] none));
      }

  -- the first line that names no item, behind a legal history
  pub entry_unnamed : (lines : List Line) (ds : List Did) → Stops a.clients lines ds → IsLegal a.schemas ds a.opened → IsFirstEntry a lines (length ds + 1)
  entry_unnamed lines ds stops legal = subst (λ (xs : List Line). IsFirstEntry a xs (length ds + 1)) (sym stops.whole) (unnamed_behind stops.front stops.behind ds stops.told stops.none legal)

-- each entry that is told performed the item that its line names
pub told_items : (clients : List (List What)) (lines : List Line) (ds : List Did) (whole : Bool) → IsTold clients lines ds whole → ArePerformed clients ds
told_items clients lines ds true told = told_performed clients lines ds told
told_items clients lines ds false told = told_performed clients told.front ds told.told

append_assoc : {X : Type 0} (xs ys zs : List X) → (xs ++ ys) ++ zs ≡ xs ++ (ys ++ zs)
append_assoc [] ys zs = refl
append_assoc (x ∷ xs) ys zs = ap (λ ws. x ∷ ws) (append_assoc xs ys zs)

pub behind_one : {X : Type 0} (yielded rest left all : List X) (x : X) → yielded ++ rest ≡ all → rest ≡ x ∷ left → yielded ++ x ∷ left ≡ all
behind_one yielded rest left all x whole next = ap (λ xs. yielded ++ xs) (sym next) ∙ whole

pub next_one : {X : Type 0} (yielded rest left all : List X) (x : X) → yielded ++ rest ≡ all → rest ≡ x ∷ left → (yielded ++ x ∷ []) ++ left ≡ all
next_one yielded rest left all x whole next = append_assoc yielded (x ∷ []) left ∙ behind_one yielded rest left all x whole next
