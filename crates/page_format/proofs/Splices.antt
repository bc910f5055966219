-- Putting an object among others.
use Rattle.std.proofs.Common.{◌≡◌, ℕ, suc, ◌+◌, ◌-◌, ◌^◌, ◌<◌, ◌≤◌, List, [], ◌∷◌, ◌++◌, length, take, drop, Some, refl, sym, ap, subst, ◌∙◌, append_assoc, arith, inl, inr, ◌⊎◌}
use Rattle.std.specs.List.{AllByRecursion}
use Rattle.std.specs.Ordering.{nat_cmp, match_ordering}
use Rattle.std.specs.declared.cmp.Ordering.{Ordering}
use Rattle.std.specs.declared.cmp.Ordering.TheVariants.{Less, Equal, Greater}
use Rattle.std.specs.BTreeMap.{insert_entry}
use Rattle.std.proofs.lemmas.Cmp.{ranked}
use Rattle.std.proofs.lemmas.List.{append-nil, length-append, length-take, length-drop}
use Rattle.std.proofs.Math.Seq.{drop-append_seam, take-append-add, drop-append-add}
use Rattle.page_format.specs.Pages.{object_entry, entries, Rises, ObjectFits, ObjectsFit}
use Rattle.page_format.specs.Walking.{first_at, pairs_of, place_at, shifted, AreStored}
use Rattle.page_format.proofs.Walks.{place_more, place_zero}
use Rattle.page_format.proofs.Entries.{first_again, entries_cons, pairs_again, stored}

abbrev Pairs : Type 0
Pairs = List (ℕ × List ℕ)

-- the object goes between what is before its place and what is behind it
pub record Placed (old new : Pairs) (slot : ℕ) (object : List ℕ) (place : ℕ × ℕ) : Type 0 where
  pub whole : (take place.0 (entries old) ++ object_entry (slot, object)) ++ drop place.1 (entries old) ≡ entries new
  pub fresh : place.0 ≡ place.1 → length new ≡ length old + 1
  pub there : (place.0 ≡ place.1 → ⊥) → length new ≡ length old

long_entry : (q : ℕ × List ℕ) → length (object_entry q) ≡ 3 + length q.1
long_entry q = omega arith

placed_before : (q : ℕ × List ℕ) (pairs : Pairs) (slot : ℕ) (object : List ℕ) → Placed (q ∷ pairs) ((slot, object) ∷ q ∷ pairs) slot object (0, 0)
placed_before q pairs slot object = record {
  whole = sym (entries_cons (slot, object) (q ∷ pairs));
  fresh = λ _. omega arith;
  there = λ n. absurd (n refl);
}

placed_here : (q : ℕ × List ℕ) (pairs : Pairs) (slot : ℕ) (object : List ℕ) → slot ≡ q.0 → Placed (q ∷ pairs) ((q.0, object) ∷ pairs) slot object (0, 3 + length q.1)
placed_here q pairs slot object same =
    let behind : drop (3 + length q.1) (entries (q ∷ pairs)) ≡ entries pairs =
    ap (λ (k : ℕ). drop k (entries (q ∷ pairs))) (sym (long_entry q)) ∙ ap (drop (length (object_entry q))) (entries_cons q pairs) ∙ drop-append_seam (object_entry q) (entries pairs) in
    record {
      whole = ap (λ (t : List ℕ). object_entry (slot, object) ++ t) behind ∙ ap (λ (k : ℕ). object_entry (k, object) ++ entries pairs) same ∙ sym (entries_cons (q.0, object) pairs);
      fresh = λ h. absurd (omega (arith, h));
      there = λ _. refl;
    }

placed_behind : (q : ℕ × List ℕ) (pairs new : Pairs) (slot : ℕ) (object : List ℕ) (place : ℕ × ℕ) → Placed pairs new slot object place → Placed (q ∷ pairs) (q ∷ new) slot object (shifted (3 + length q.1) place)
placed_behind q pairs new slot object place p =
    let e = object_entry q in
    let b = entries pairs in
    let first : take (3 + length q.1 + place.0) (entries (q ∷ pairs)) ≡ e ++ take place.0 b =
    ap (λ (k : ℕ). take (k + place.0) (entries (q ∷ pairs))) (sym (long_entry q)) ∙ ap (take (length e + place.0)) (entries_cons q pairs) ∙ take-append-add e b place.0 in
    let last : drop (3 + length q.1 + place.1) (entries (q ∷ pairs)) ≡ drop place.1 b =
    ap (λ (k : ℕ). drop (k + place.1) (entries (q ∷ pairs))) (sym (long_entry q)) ∙ ap (drop (length e + place.1)) (entries_cons q pairs) ∙ drop-append-add e b place.1 in
    record {
      whole = ap (λ (t : List ℕ). (t ++ object_entry (slot, object)) ++ drop (3 + length q.1 + place.1) (entries (q ∷ pairs))) first
          ∙ ap (λ (t : List ℕ). ((e ++ take place.0 b) ++ object_entry (slot, object)) ++ t) last
          ∙ ap (λ (t : List ℕ). t ++ drop place.1 b) (append_assoc e (take place.0 b) (object_entry (slot, object)))
          ∙ append_assoc e (take place.0 b ++ object_entry (slot, object)) (drop place.1 b)
          ∙ ap (λ (t : List ℕ). e ++ t) p.whole
          ∙ sym (entries_cons q new);
      fresh = λ h. let k : place.0 ≡ place.1 = omega (arith, h) in let l = p.fresh k in omega arith;
      there = λ n. ap suc (p.there (λ h. n (ap (λ (k : ℕ). 3 + length q.1 + k) h)));
    }

placed_by : (q : ℕ × List ℕ) (pairs : Pairs) (slot : ℕ) (object : List ℕ) (place : ℕ × ℕ) → Placed pairs (insert_entry nat_cmp pairs slot object) slot object place → (o : Ordering) → o ≡ nat_cmp slot q.0
    → Placed (q ∷ pairs) (match_ordering o ((slot, object) ∷ q ∷ pairs) ((q.0, object) ∷ pairs) (q ∷ insert_entry nat_cmp pairs slot object)) slot object (match_ordering o (0, 0) (0, 3 + length q.1) (shifted (3 + length q.1) place))
placed_by q pairs slot object place p Less e = placed_before q pairs slot object
placed_by q pairs slot object place p Equal e = placed_here q pairs slot object (ranked slot q.0 Equal e)
placed_by q pairs slot object place p Greater e = placed_behind q pairs (insert_entry nat_cmp pairs slot object) slot object place p

pub placed : (pairs : Pairs) (slot : ℕ) (object : List ℕ) → AllByRecursion ObjectFits pairs → Placed pairs (insert_entry nat_cmp pairs slot object) slot object (place_at (length pairs) slot (entries pairs))
placed [] slot object fits =
    subst (λ (p : ℕ × ℕ). Placed [] (insert_entry nat_cmp [] slot object) slot object p) (sym (place_zero slot (entries [])))
    (record { whole = sym (entries_cons (slot, object) []); fresh = λ _. refl; there = λ n. absurd (n refl) })
placed (q ∷ pairs) slot object fits =
    let f : first_at (entries (q ∷ pairs)) ≡ Some (q, entries pairs) = ap first_at (entries_cons q pairs) ∙ first_again q (entries pairs) fits.0 in
    subst (λ (p : ℕ × ℕ). Placed (q ∷ pairs) (insert_entry nat_cmp (q ∷ pairs) slot object) slot object p) (sym (place_more (length pairs) slot (entries (q ∷ pairs)) (q, entries pairs) f))
    (placed_by q pairs slot object (place_at (length pairs) slot (entries pairs)) (placed pairs slot object fits.1) (nat_cmp slot q.0) refl)

-- ---- what was in order stays so

rises_by : (low : ℕ) (q : ℕ × List ℕ) (pairs more : Pairs) (slot : ℕ) (object : List ℕ) → Rises low (q ∷ pairs) → low ≤ slot → (suc q.0 ≤ slot → Rises (suc q.0) more) → (o : Ordering) → o ≡ nat_cmp slot q.0
    → Rises low (match_ordering o ((slot, object) ∷ q ∷ pairs) ((q.0, object) ∷ pairs) (q ∷ more))
rises_by low q pairs more slot object r le go Less e = let lt : slot < q.0 = ranked slot q.0 Less e in (le, (omega arith, r.1))
rises_by low q pairs more slot object r le go Equal e = (r.0, r.1)
rises_by low q pairs more slot object r le go Greater e = let lt : q.0 < slot = ranked slot q.0 Greater e in (r.0, go (omega arith))

pub rises_put : (low : ℕ) (pairs : Pairs) (slot : ℕ) (object : List ℕ) → Rises low pairs → low ≤ slot → Rises low (insert_entry nat_cmp pairs slot object)
rises_put low [] slot object r le = (le, tt)
rises_put low (q ∷ pairs) slot object r le = rises_by low q pairs (insert_entry nat_cmp pairs slot object) slot object r le (λ h. rises_put (suc q.0) pairs slot object r.1 h) (nat_cmp slot q.0) refl

each_by : (q : ℕ × List ℕ) (pairs more : Pairs) (slot : ℕ) (object : List ℕ) → AllByRecursion ObjectFits (q ∷ pairs) → ObjectFits (slot, object) → AllByRecursion ObjectFits more → (o : Ordering)
    → AllByRecursion ObjectFits (match_ordering o ((slot, object) ∷ q ∷ pairs) ((q.0, object) ∷ pairs) (q ∷ more))
each_by q pairs more slot object a f m Less = (f, a)
each_by q pairs more slot object a f m Equal = ((a.0.0, f.1), a.1)
each_by q pairs more slot object a f m Greater = (a.0, m)

pub each_put : (pairs : Pairs) (slot : ℕ) (object : List ℕ) → AllByRecursion ObjectFits pairs → ObjectFits (slot, object) → AllByRecursion ObjectFits (insert_entry nat_cmp pairs slot object)
each_put [] slot object a f = (f, tt)
each_put (q ∷ pairs) slot object a f = each_by q pairs (insert_entry nat_cmp pairs slot object) slot object a f (each_put pairs slot object a.1 f) (nat_cmp slot q.0)

-- ---- among stored objects

pub one_at_most : (place : ℕ × ℕ) (added : ℕ) → ((place.0 ≡ place.1) × (added ≡ 1)) ⊎ ((place.0 ≡ place.1 → ⊥) × (added ≡ 0)) → added ≤ 1
one_at_most place added c = elim c [ inl h ↦ let k = h.1 in omega arith | inr h ↦ let k = h.1 in omega arith ]

module _ (count slot : ℕ) (bytes object : List ℕ) (s : AreStored count bytes) where
  abbrev old : Pairs
  old = pairs_of count bytes

  abbrev new : Pairs
  new = insert_entry nat_cmp old slot object

  pub placed_in : Placed old new slot object (place_at count slot bytes)
  placed_in =
      let p = placed old slot object s.fit.each in
      subst (λ (q : ℕ × ℕ). Placed old new slot object q) (ap (λ (n : ℕ). place_at n slot (entries old)) s.all ∙ ap (place_at count slot) s.whole) p

  -- the bytes with the object in its place
  pub whole_in : (place : ℕ × ℕ) → place ≡ place_at count slot bytes → (take place.0 bytes ++ object_entry (slot, object)) ++ drop place.1 bytes ≡ entries new
  whole_in place e =
      let p = subst (λ (q : ℕ × ℕ). Placed old new slot object q) (sym e) placed_in in
      ap (λ (b : List ℕ). (take place.0 b ++ object_entry (slot, object)) ++ drop place.1 b) (sym s.whole) ∙ p.whole

  pub length_in : (place : ℕ × ℕ) → place ≡ place_at count slot bytes → place.0 ≤ place.1 → place.1 ≤ length bytes → length (entries new) ≡ length bytes - (place.1 - place.0) + 3 + length object
  length_in place e le within =
      let w = ap length (whole_in place e) in
      omega (arith, sym w, length-append (take place.0 bytes ++ object_entry (slot, object)) (drop place.1 bytes), length-append (take place.0 bytes) (object_entry (slot, object)), length-take place.0 bytes, length-drop place.1 bytes, long_entry (slot, object))

  pub fresh_in : (place : ℕ × ℕ) → place ≡ place_at count slot bytes → place.0 ≡ place.1 → length new ≡ count + 1
  fresh_in place e h =
      let p = subst (λ (q : ℕ × ℕ). Placed old new slot object q) (sym e) placed_in in
      let f = p.fresh h in
      let a = s.all in
      omega arith

  pub there_in : (place : ℕ × ℕ) → place ≡ place_at count slot bytes → (place.0 ≡ place.1 → ⊥) → length new ≡ count
  there_in place e h =
      let p = subst (λ (q : ℕ × ℕ). Placed old new slot object q) (sym e) placed_in in
      p.there h ∙ s.all

  pub stored_in : (total : ℕ) → slot < 256 → length object < 2 ^ 16 → length new ≡ total → total ≤ 255 → 8 + length (entries new) ≤ 16384 → (ready : List ℕ) → ready ≡ entries new → AreStored total ready × (pairs_of total ready ≡ new)
  stored_in total fits long n small room ready e =
      let each = each_put old slot object s.fit.each (fits, long) in
      let fit : ObjectsFit new = record { rising = rises_put 0 old slot object s.fit.rising (omega arith); each = each; count = omega arith; room = room } in
      let again : pairs_of (length new) (entries new) ≡ new = ap (pairs_of (length new)) (sym (append-nil (entries new))) ∙ pairs_again new [] each in
      subst (λ (t : ℕ). AreStored t ready × (pairs_of t ready ≡ new)) n (subst (λ (b : List ℕ). AreStored (length new) b × (pairs_of (length new) b ≡ new)) (sym e) (stored new fit, again))

  pub total_in : (place : ℕ × ℕ) (added : ℕ) → place ≡ place_at count slot bytes → ((place.0 ≡ place.1) × (added ≡ 1)) ⊎ ((place.0 ≡ place.1 → ⊥) × (added ≡ 0)) → length new ≡ count + added
  total_in place added e c =
      elim c [
        | inl h ↦ let f = fresh_in place e h.0 in let k = h.1 in omega arith
        | inr h ↦ let f = there_in place e h.0 in let k = h.1 in omega arith
      ]

  pub ready_in : (place : ℕ × ℕ) (ready front back : List ℕ) → place ≡ place_at count slot bytes → ready ≡ front ++ object_entry (slot, object) ++ back → front ≡ take place.0 bytes → back ≡ drop place.1 bytes → ready ≡ entries new
  ready_in place ready front back e r f b =
      r ∙ ap (λ (t : List ℕ). (t ++ object_entry (slot, object)) ++ back) f ∙ ap (λ (t : List ℕ). (take place.0 bytes ++ object_entry (slot, object)) ++ t) b ∙ whole_in place e

  -- an object in the place of one of its length
  pub over_in : (place : ℕ × ℕ) (ready : List ℕ) → place ≡ place_at count slot bytes → place.0 ≤ place.1 → place.1 ≤ length bytes → place.1 - place.0 ≡ 3 + length object → slot < 256
      → ready ≡ (take place.0 bytes ++ object_entry (slot, object)) ++ drop (place.0 + (3 + length object)) bytes → AreStored count ready × (pairs_of count ready ≡ new)
  over_in place ready e le within size fits r =
      let end : place.0 + (3 + length object) ≡ place.1 = omega (arith, size, le) in
      let whole : ready ≡ entries new = r ∙ ap (λ (k : ℕ). (take place.0 bytes ++ object_entry (slot, object)) ++ drop k bytes) end ∙ whole_in place e in
      let long = length_in place e le within in
      let room = s.fit.room in
      let few = s.fit.count in
      let all = s.all in
      let same = ap length s.whole in
      stored_in count fits (omega (arith, room, same, within, size)) (there_in place e (λ h. omega (arith, h, size))) (omega (arith, few, all)) (omega (arith, long, room, same, size, le, within)) ready whole
