-- What agrees, and what first disagrees.
use Rattle.std.proofs.Common.{◌≡◌, ◌<◌, ◌≤◌, ◌+◌, ℕ, zero, suc, Bool, true, false, List, [], ◌∷◌, length, take, get_or, Some, Result, Ok, Err, refl, ap, sym, ◌∙◌, subst, arith}
use Rattle.std.specs.List.{AllByRecursion}
use Rattle.std.specs.Prelude.{Contains}
use Rattle.thor_value.specs.declared.values.Who.{Who}
use Rattle.serial_model.proofs.Replayed.{front_legal}
use Rattle.serial_model.specs.History.{IsLegal}
use Rattle.serial_model.specs.Outcomes.{AreAnswered, AreInClientOrder, AreOfItems, Item, all_items}
use Rattle.serial_model.specs.declared.entries.Did.{Did}
use Rattle.serial_model.specs.declared.outcomes.Ended.{Ended}
use Rattle.report_parse.specs.declared.report.Backup.{Backup}
use Rattle.report_parse.specs.declared.report.Line.{Line}
use Rattle.report_parse.specs.declared.report.Look.{Look}
use Rattle.report_parse.specs.declared.report.Report.{Report}
use Rattle.top_history_check.proofs.Answering.{of_items}
use Rattle.audit_check.specs.Agreement.{Agrees, AreLegalLines, Audits, HasNumber, IsFirstDisagreement, IsFirstEntry, IsFirstItem, IsFirstWrong, IsInOrder, IsRight, history_of}
use Rattle.audit_check.specs.Items.{AreRight, AreRightAll}
use Rattle.audit_check.specs.Lines.{FaultIs, IsLegalOr, IsTold}
use Rattle.audit_check.specs.declared.audited.Audited.{Audited}
use Rattle.audit_check.specs.declared.disagreement.AuditFault.{AuditFault}
use Rattle.audit_check.specs.declared.disagreement.AuditFault.TheVariants.{Disagrees, NoMemory}
use Rattle.audit_check.specs.declared.disagreement.Disagreement.{Disagreement}
use Rattle.audit_check.specs.declared.disagreement.Disagreement.TheVariants as line
use Rattle.audit_check.proofs.Told.{entry_not_legal, entry_unnamed, told_performed, told_take}

-- ---- client order, of the whole history and of each item

in_order_each : (ds : List Did) (who : Who) → AreInClientOrder ds → IsInOrder ds who
in_order_each [] who order = tt
in_order_each (d ∷ ds) who order = (λ _. order.0, in_order_each ds who order.1)

each_behind : (d : Did) (ds es : List Did) → AllByRecursion (λ (e : Did). IsInOrder (d ∷ ds) e.who) es → AllByRecursion (λ (e : Did). IsInOrder ds e.who) es
each_behind d ds [] each = tt
each_behind d ds (e ∷ es) each = (each.0.1, each_behind d ds es each.1)

each_in_order : (ds : List Did) → AllByRecursion (λ (d : Did). IsInOrder ds d.who) ds → AreInClientOrder ds
each_in_order [] each = tt
each_in_order (d ∷ ds) each = (each.0.0 refl, each_in_order ds (each_behind d ds ds each.1))

-- ---- lines that are right

module _ (history : List Did) where
  answered_right : (is : List Item) (es : List Ended) → AreRight history is es → AreAnswered history is es
  answered_right [] [] right = tt
  answered_right [] (e ∷ es) right = absurd right
  answered_right (i ∷ is) [] right = absurd right
  answered_right (i ∷ is) (e ∷ es) right = let one : IsRight history i e = right.0 in (one.of_item, one.answered, answered_right is es right.1)

  numbered_right : (is : List Item) (es : List Ended) → AreRight history is es → AllByRecursion (λ (e : Ended). HasNumber e.outcome) es
  numbered_right [] [] right = tt
  numbered_right [] (e ∷ es) right = absurd right
  numbered_right (i ∷ is) [] right = absurd right
  numbered_right (i ∷ is) (e ∷ es) right = let one : IsRight history i e = right.0 in (one.numbered, numbered_right is es right.1)

  ordered_right : (is : List Item) (es : List Ended) → AreRight history is es → AllByRecursion (λ (i : Item). IsInOrder history i.who) is
  ordered_right [] [] right = tt
  ordered_right [] (e ∷ es) right = absurd right
  ordered_right (i ∷ is) [] right = absurd right
  ordered_right (i ∷ is) (e ∷ es) right = let one : IsRight history i e = right.0 in (one.in_order, ordered_right is es right.1)

  right_answered : (is : List Item) (es : List Ended) → AreInClientOrder history → AreAnswered history is es → AllByRecursion (λ (e : Ended). HasNumber e.outcome) es → AreRight history is es
  right_answered [] [] order once numbered = tt
  right_answered [] (e ∷ es) order once numbered = absurd once
  right_answered (i ∷ is) [] order once numbered = absurd once
  right_answered (i ∷ is) (e ∷ es) order once numbered =
      (record { of_item = once.0; answered = once.1; numbered = numbered.0; in_order = in_order_each history i.who order }, right_answered is es order once.2 numbered.1)

  right_not_wrong : (is : List Item) (es : List Ended) (k : ℕ) → AreRight history is es → IsFirstWrong history is es k → ⊥
  right_not_wrong [] [] k right wrong = wrong
  right_not_wrong [] (e ∷ es) k right wrong = right
  right_not_wrong (i ∷ is) [] k right wrong = right
  right_not_wrong (i ∷ is) (e ∷ es) zero right wrong = wrong right.0
  right_not_wrong (i ∷ is) (e ∷ es) (suc k) right wrong = right_not_wrong is es k right.1 wrong.1

  one_wrong : (is : List Item) (es : List Ended) (k l : ℕ) → IsFirstWrong history is es k → IsFirstWrong history is es l → k ≡ l
  one_wrong [] [] k l one two = absurd one
  one_wrong [] (e ∷ es) k l one two = one ∙ sym two
  one_wrong (i ∷ is) [] k l one two = one ∙ sym two
  one_wrong (i ∷ is) (e ∷ es) zero zero one two = refl
  one_wrong (i ∷ is) (e ∷ es) zero (suc l) one two = absurd (one two.0)
  one_wrong (i ∷ is) (e ∷ es) (suc k) zero one two = absurd (two one.0)
  one_wrong (i ∷ is) (e ∷ es) (suc k) (suc l) one two = ap suc (one_wrong is es k l one.1 two.1)

holds_at : {X : Type 0} (P : X → Type 0) (xs : List X) (k : ℕ) (d : X) → k < length xs → AllByRecursion P xs → P (get_or xs k d)
holds_at P [] k d low all = absurd (let bad : k < 0 = low in omega (arith, bad))
holds_at P (x ∷ xs) zero d low all = all.0
holds_at P (x ∷ xs) (suc k) d low all = holds_at P xs k d (let l : suc k < suc (length xs) = low in omega (arith, l)) all.1

at_item : (history : List Did) (is : List Item) → AllByRecursion (λ (i : Item). IsInOrder history i.who) is → (ds : List Did) → AreOfItems is ds → AllByRecursion (λ (d : Did). IsInOrder history d.who) ds
at_item history is each [] of = tt
at_item history is each (d ∷ ds) of = (found is each of.0, at_item history is each ds of.1)
  where
    found : (xs : List Item) → AllByRecursion (λ (i : Item). IsInOrder history i.who) xs → Contains xs (record { who = d.who; what = d.what }) → IsInOrder history d.who
    found xs all here = subst (λ (i : Item). IsInOrder history i.who) here.2 (holds_at (λ (i : Item). IsInOrder history i.who) xs here.0 (record { who = d.who; what = d.what }) here.1 all)

-- ---- the report

module _ (a : Audited) where
  pub agrees : (r : Report) (history : List Did) → history_of a.clients r.lines ≡ Some history → IsLegal a.schemas history a.opened → AreRight history (all_items a.clients) r.ended → Agrees a r
  agrees r history told legal right =
      let is : List Item = all_items a.clients in
      let of : AreOfItems is history = of_items a.clients history (told_performed a.clients r.lines history told) in
      record {
        history = history;
        told = told;
        legal = legal;
        answers = record { once = answered_right history is r.ended right; of_items = of; in_order = each_in_order history (at_item history is (ordered_right history is r.ended right) history of) };
        numbered = numbered_right history is r.ended right;
      }

  -- the lines that are behind a legal history told whole
  by_lines : (r : Report) (history : List Did) → history_of a.clients r.lines ≡ Some history → IsLegal a.schemas history a.opened → (x : Result (Unit {0}) AuditFault) → AreRightAll history (all_items a.clients) r.ended x → Audits a r x
  by_lines r history told legal (Ok done) right = agrees r history told legal right
  by_lines r history told legal (Err (Disagrees (line.Entry index))) right = absurd right
  by_lines r history told legal (Err (Disagrees (line.Item index))) right = record { history = history; told = told; legal = legal; place = right.0; index_is = right.1; wrong = right.2 }
  by_lines r history told legal (Err NoMemory) right = tt

  pub answered : (lines : List Line) (looks : List Look) (backups : List Backup) (ended : List Ended) (history : List Did) (whole : Bool) → IsTold a.clients lines history whole → whole ≡ true → IsLegal a.schemas history a.opened → (x : Result (Unit {0}) AuditFault) → AreRightAll history (all_items a.clients) ended x
      → Audits a (record { ended = ended; lines = lines; looks = looks; backups = backups }) x
  answered lines looks backups ended history true told is legal x right = by_lines (record { ended = ended; lines = lines; looks = looks; backups = backups }) history told legal x right
  answered lines looks backups ended history false told is legal x right = let bad : false ≡ true = is in cc

  entry_is : (r : Report) (place : ℕ) (fault : AuditFault) → FaultIs (line.Entry (place + 1)) fault → IsFirstEntry a r.lines (place + 1) → Audits a r (Err fault)
  entry_is r place (Disagrees d) is first = subst (λ (x : Disagreement). IsFirstDisagreement a r x) (sym is) first
  entry_is r place NoMemory is first = tt

  pub unnamed : (lines : List Line) (looks : List Look) (backups : List Backup) (ended : List Ended) (history : List Did) (whole : Bool) → IsTold a.clients lines history whole → whole ≡ false → IsLegal a.schemas history a.opened → (fault : AuditFault) → FaultIs (line.Entry (length history + 1)) fault
      → Audits a (record { ended = ended; lines = lines; looks = looks; backups = backups }) (Err fault)
  unnamed lines looks backups ended history true told is legal fault at = let bad : true ≡ false = is in cc
  unnamed lines looks backups ended history false told is legal fault at = entry_is (record { ended = ended; lines = lines; looks = looks; backups = backups }) (length history) fault at (entry_unnamed a lines history told legal)

  first_of : (lines : List Line) (index : ℕ) (place : ℕ) → index ≡ place + 1 → IsFirstEntry a lines (place + 1) → IsFirstEntry a lines index
  first_of lines index place is first = subst (λ (n : ℕ). IsFirstEntry a lines n) (sym is) first

  pub not_legal : (lines : List Line) (looks : List Look) (backups : List Backup) (ended : List Ended) (history : List Did) (whole : Bool) → IsTold a.clients lines history whole → (fault : AuditFault) → IsLegalOr a history (Err fault) → Audits a (record { ended = ended; lines = lines; looks = looks; backups = backups }) (Err fault)
  not_legal lines looks backups ended history whole told (Disagrees (line.Entry index)) legal = first_of lines index legal.0 legal.1 (entry_not_legal a lines history whole legal.0 told legal.2)
  not_legal lines looks backups ended history whole told (Disagrees (line.Item index)) legal = absurd legal
  not_legal lines looks backups ended history whole told NoMemory legal = tt

  -- ---- never both, and never two

  fronts_legal : (lines : List Line) (n : ℕ) → AreLegalLines a lines → AreLegalLines a (take n lines)
  fronts_legal lines n legal = record { history = take n legal.history; told = told_take a.clients n lines legal.history legal.told; legal = front_legal a.schemas n legal.history a.opened legal.legal }

  some_is : {X : Type 0} (x y : X) → Some x ≡ Some y → x ≡ y
  some_is x y e = cc

  pub either : (r : Report) (at : Disagreement) → Agrees a r → IsFirstDisagreement a r at → ⊥
  either r (line.Entry index) agrees first = first.with_it (fronts_legal r.lines (first.place + 1) record { history = agrees.history; told = agrees.told; legal = agrees.legal })
  either r (line.Item index) agrees first =
      let same : agrees.history ≡ first.history = some_is agrees.history first.history (sym agrees.told ∙ first.told) in
      let right : AreRight agrees.history (all_items a.clients) r.ended = right_answered agrees.history (all_items a.clients) r.ended agrees.answers.in_order agrees.answers.once agrees.numbered in
      right_not_wrong first.history (all_items a.clients) r.ended first.place (subst (λ (h : List Did). AreRight h (all_items a.clients) r.ended) same right) first.wrong

  take_take : (lines : List Line) (n m : ℕ) → n ≤ m → take n (take m lines) ≡ take n lines
  take_take lines zero m low = refl
  take_take lines (suc n) zero low = absurd (let bad : suc n ≤ 0 = low in omega (arith, bad))
  take_take [] (suc n) (suc m) low = refl
  take_take (l ∷ ls) (suc n) (suc m) low = ap (λ xs. l ∷ xs) (take_take ls n m (let k : suc n ≤ suc m = low in omega (arith, k)))

  not_below : (lines : List Line) (p q : ℕ) → ¬ AreLegalLines a (take (p + 1) lines) → AreLegalLines a (take q lines) → p < q → ⊥
  not_below lines p q none legal low = none (subst (λ (xs : List Line). AreLegalLines a xs) (take_take lines (p + 1) q (omega (arith, low))) (fronts_legal (take q lines) (p + 1) legal))

  one_entry : (lines : List Line) (i j : ℕ) → IsFirstEntry a lines i → IsFirstEntry a lines j → i ≡ j
  one_entry lines i j one two =
      let p = one.place in
      let q = two.place in
      let is : i ≡ p + 1 = one.index_is in
      let js : j ≡ q + 1 = two.index_is in
      let low : p < q → ⊥ = not_below lines p q one.with_it two.before in
      let high : q < p → ⊥ = not_below lines q p two.with_it one.before in
      let same : p ≡ q = equal p q low high in
      omega (arith, is, js, same)
    where
      equal : (p q : ℕ) → (p < q → ⊥) → (q < p → ⊥) → p ≡ q
      equal zero zero low high = refl
      equal zero (suc q) low high = absurd (low (omega (arith)))
      equal (suc p) zero low high = absurd (high (omega (arith)))
      equal (suc p) (suc q) low high = ap suc (equal p q (λ l. low (omega (arith, l))) (λ l. high (omega (arith, l))))

  entry_item : (r : Report) (i j : ℕ) → IsFirstEntry a r.lines i → IsFirstItem a r j → ⊥
  entry_item r i j one two = one.with_it (fronts_legal r.lines (one.place + 1) record { history = two.history; told = two.told; legal = two.legal })

  pub one : (r : Report) (at other : Disagreement) → IsFirstDisagreement a r at → IsFirstDisagreement a r other → at ≡ other
  one r (line.Entry i) (line.Entry j) first second = ap line.Entry (one_entry r.lines i j first second)
  one r (line.Entry i) (line.Item j) first second = absurd (entry_item r i j first second)
  one r (line.Item i) (line.Entry j) first second = absurd (entry_item r j i second first)
  one r (line.Item i) (line.Item j) first second =
      let same : first.history ≡ second.history = some_is first.history second.history (sym first.told ∙ second.told) in
      let wrong : IsFirstWrong second.history (all_items a.clients) r.ended first.place = subst (λ (h : List Did). IsFirstWrong h (all_items a.clients) r.ended first.place) same first.wrong in
      let places : first.place ≡ second.place = one_wrong second.history (all_items a.clients) r.ended first.place second.place wrong second.wrong in
      ap line.Item (first.index_is ∙ ap (λ (n : ℕ). n + 1) places ∙ sym second.index_is)
