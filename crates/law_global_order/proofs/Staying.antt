-- What a transaction is and rests on stays, from when each participant has prepared it.
use Rattle.law_atomic_commit.proofs.Grown.{onward}
use Rattle.law_atomic_commit.specs.Growing.{Continues, grown}
use Rattle.law_atomic_commit.specs.Several.{AreSound, Several, part}
use Rattle.log_entries.specs.declared.entry.Entry.{Entry}
use Rattle.log_entries.specs.declared.request.Request.{Request}
use Rattle.spec_history.proofs.Growth.{objects_at-append}
use Rattle.spec_history.proofs.Prefixes.{fits}
use Rattle.spec_history.specs.History.{Known, objects_at, state}
use Rattle.spec_history.specs.Participants.{takes_part}
use Rattle.spec_history.specs.Requests.{has_read}
use Rattle.std.proofs.Common.{Bool, List, [], ap, arith, eq-eqb, false, length, refl, subst, sym, take, true, ℕ, ◌++◌, ◌<◌, ◌≡◌, ◌≤◌, ◌∙◌, ◌∷◌}
use Rattle.std.proofs.lemmas.List.{take-append-le}
use Rattle.std.proofs.lemmas.Bool.{or_right}
use Rattle.std.specs.List.{flat_map, list_any}
use Rattle.std.specs.Prelude.{Option, Some, cond, nat_eq, ◌||◌}
use Rattle.thor_value.specs.FiniteMap.{get}
use Rattle.thor_value.specs.declared.names.Oref.{Oref}
use Rattle.thor_value.specs.declared.names.Ts.{Ts}
use Rattle.thor_value.specs.declared.values.Obj.{Obj}
use Rattle.law_global_order.specs.Serial.{HasMet, Joined}
use Rattle.law_global_order.specs.Turns.{IsPrepared}
use Rattle.law_global_order.specs.Whole.{Objects, ros_in, whole, writes_in}

flat-same : {X : Type 0} (f g : ℕ → List X) (ns : List ℕ) → ((n : ℕ) → list_any (nat_eq n) ns ≡ true → f n ≡ g n) → flat_map f ns ≡ flat_map g ns
flat-same f g [] h = refl
flat-same f g (n ∷ ns) h =
    ap (λ xs. xs ++ flat_map f ns) (h n (ap (λ (k : Bool). k || list_any (nat_eq n) ns) (eq-eqb n n refl)))
    ∙ ap (λ xs. g n ++ xs) (flat-same f g ns (λ m i. h m (or_right (nat_eq m n) (list_any (nat_eq m) ns) i)))

module _ (S : Several) (r : ℕ) (e : Entry) (sd : AreSound S) (go : Continues S r e) (t : Ts) (w : Known) (prepared : IsPrepared S t w) where
  request-on : (X : Type 0) (f : Request → X) (d : X) (by : Option Known → X) → ((o : Known) → by (Some o) ≡ f o.request) → (n : ℕ) → takes_part t.repo w.request n ≡ true → by (part (grown S r e) n t) ≡ by (part S n t)
  request-on X f d by is n takes =
      let k = prepared.everywhere n takes in
      let g = onward S r e sd go n t k.0 k.1 in
      ap by g.1 ∙ is g.0 ∙ ap f g.2.request ∙ sym (is k.0) ∙ ap by (sym k.1)

  pub whole-stays : whole (grown S r e) t w.request ≡ whole S t w.request
  whole-stays =
      ap (λ (xs : List Oref). record w.request { ros = xs; writes = flat_map (λ n. writes_in (part (grown S r e) n t)) (t.repo ∷ w.request.others) })
      (flat-same (λ n. ros_in (part (grown S r e) n t)) (λ n. ros_in (part S n t)) (t.repo ∷ w.request.others) (request-on (List Oref) (λ q. q.ros) [] ros_in (λ o. refl)))
      ∙ ap (λ (xs : List (Oref × Obj)). record w.request { ros = flat_map (λ n. ros_in (part S n t)) (t.repo ∷ w.request.others); writes = xs })
      (flat-same (λ n. writes_in (part (grown S r e) n t)) (λ n. writes_in (part S n t)) (t.repo ∷ w.request.others) (request-on (List (Oref × Obj)) (λ q. q.writes) [] writes_in (λ o. refl)))

  pub objects-stay : (n p : ℕ) → p ≤ length (S.history n) → objects_at (S.base n) ((grown S r e).history n) p ≡ objects_at (S.base n) (S.history n) p
  objects-stay n p l = by (nat_eq n r)
    where
      by : (k : Bool) → objects_at (S.base n) (cond k (S.history n ++ e ∷ []) (S.history n)) p ≡ objects_at (S.base n) (S.history n) p
      by true = objects_at-append (S.base n) p (S.history n) (e ∷ []) l
      by false = refl

  objects-before : (L : Joined) → HasMet (grown S r e) t L → (n : ℕ) (o : Known) (x : Oref) → part S n t ≡ Some o → has_read o.request x ≡ true → get L.objects x ≡ get (objects_at (S.base n) (S.history n) o.place) x
  objects-before L h n o x is read =
      let g = onward S r e sd go n t o is in
      let l : o.place < length (S.history n) = (fits (S.base n) (S.history n) (sd.each n) t o is).below in
      h.objects n g.0 x g.1 (ap (λ (q : Request). has_read q x) g.2.request ∙ read)
      ∙ ap (λ (p : ℕ). get (objects_at (S.base n) ((grown S r e).history n) p) x) g.2.place
      ∙ ap (λ (m : Objects). get m x) (objects-stay n o.place (omega arith))

  texts-stay : (n p : ℕ) → p ≤ length (S.history n) → (state (S.base n) (take p ((grown S r e).history n))).texts ≡ (state (S.base n) (take p (S.history n))).texts
  texts-stay n p l = by (nat_eq n r)
    where
      by : (k : Bool) → (state (S.base n) (take p (cond k (S.history n ++ e ∷ []) (S.history n)))).texts ≡ (state (S.base n) (take p (S.history n))).texts
      by true = ap (λ H. (state (S.base n) H).texts) (take-append-le p (S.history n) (e ∷ []) l)
      by false = refl

  pub met-before : (L : Joined) → HasMet (grown S r e) t L → HasMet S t L
  met-before L h = record { objects = objects-before L h; texts = texts }
    where
      texts : (n : ℕ) (o : Known) → part S n t ≡ Some o → (state (S.base n) (take o.place (S.history n))).texts ≡ L.texts
      texts n o is =
          let g = onward S r e sd go n t o is in
          let l : o.place < length (S.history n) = (fits (S.base n) (S.history n) (sd.each n) t o is).below in
          sym (texts-stay n o.place (omega arith))
          ∙ ap (λ (p : ℕ). (state (S.base n) (take p ((grown S r e).history n))).texts) (sym g.2.place)
          ∙ h.texts n g.0 g.1

  pub prepared-grown : (v : Known) × IsPrepared (grown S r e) t v × (v.request ≡ w.request)
  prepared-grown =
      let g = onward S r e sd go t.repo t w prepared.there in
      (g.0, record { there = g.1; everywhere = λ n takes. let k = prepared.everywhere n (subst (λ (q : Request). takes_part t.repo q n ≡ true) g.2.request takes) in let h = onward S r e sd go n t k.0 k.1 in (h.0, h.1) }, g.2.request)
