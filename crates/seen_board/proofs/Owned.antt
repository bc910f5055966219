-- Families of lists, of which some are owned.
use Rattle.std.proofs.Common.{◌≡◌, ◌≢◌, ◌⊎◌, ℕ, suc, Bool, true, false, ◌||◌, ◌==◌, cond, leb, List, [], ◌∷◌, ◌++◌, length, refl, ap, sym, ◌∙◌, subst, ⊎_elim, arith, eq-eqb, inl, inr}
use Rattle.std.proofs.lemmas.Bool.{false≢true, or_left, or_right}
use mathlib.Core.Logic.{dite}
use mathlib.Core.List.{IsPrefix}
use native.Mathlib.Decide.{ℕ_discrete}
use Rattle.seen_board.specs.declared.knowledge.Family.{Family}
use Rattle.seen_board.specs.Knowledge.{Within, at, empty, longer_by, owns, together, unowned}
use Rattle.seen_board.specs.Rows.{among, from, longer}
use Rattle.seen_board.specs.Rule.{Holds, Whole}
use Rattle.seen_board.proofs.Prefixes.{prefix_self, prefix_trans, prefix_nil, prefix_same, prefix_more, longer_in, longer_first, longer_second, longer_whole, longer_whole_second}
use Rattle.seen_board.proofs.Rows.{put_here, put_else, at_longers, at_place, at_here, at_else, at_each, among-append, among-from, one_among, or_false}

module _ {A : Type 0} where
  -- the lists with one more at the end of one of them
  abbrev pub more : Whole A → ℕ → A → Whole A
  more all r x = record { list = at_place all.list r (all.list r ++ x ∷ []); owner = all.owner }

  -- a seat takes over what another owned
  abbrev pub over : Whole A → Family A → ℕ → Whole A
  over all u by = record { list = all.list; owner = λ q. cond (among q u.owned) by (all.owner q) }

  -- one list goes to another seat
  abbrev pub handed : Whole A → ℕ → ℕ → Whole A
  handed all r new = record { list = all.list; owner = at_place all.owner r new }

  -- what is held stays, when a list has grown that it does not own
  pub held_more : (all : Whole A) (r : ℕ) (x : A) (j : ℕ) (h : Family A) → (owns h r ≡ true → ⊥) → Holds all j h → Holds (more all r x) j h
  held_more all r x j h not f = record {
    begins = at_each (λ q l. IsPrefix (at h q) l) all.list r (all.list r ++ x ∷ []) (prefix_more _ _ _ (f.begins r)) (λ q _. f.begins q);
    whole = at_each (λ q l. owns h q ≡ true → (j ≡ all.owner q) × (at h q ≡ l)) all.list r (all.list r ++ x ∷ []) (λ o. absurd (not o)) (λ q _. f.whole q);
  }

  pub grown_here : (h : Family A) (r : ℕ) (x : A) → at (longer_by h r x) r ≡ at h r ++ x ∷ []
  grown_here h r x = put_here [] h.lists r (at h r ++ x ∷ [])

  pub grown_else : (h : Family A) (r q : ℕ) (x : A) → q ≢ r → at (longer_by h r x) q ≡ at h q
  grown_else h r q x n = put_else [] h.lists r q (at h r ++ x ∷ []) n

  -- the owner's
  pub held_grown : (all : Whole A) (r : ℕ) (x : A) (j : ℕ) (h : Family A) → owns h r ≡ true → Holds all j h → Holds (more all r x) j (longer_by h r x)
  held_grown all r x j h own f =
      let mine = f.whole r own in
      let whole_now : at (longer_by h r x) r ≡ all.list r ++ x ∷ [] = grown_here h r x ∙ ap (λ l. l ++ x ∷ []) mine.1 in record {
        begins = at_each (λ q l. IsPrefix (at (longer_by h r x) q) l) all.list r (all.list r ++ x ∷ []) (prefix_same _ _ whole_now) (λ q n. subst (λ (l : List A). IsPrefix l (all.list q)) (sym (grown_else h r q x n)) (f.begins q));
        whole = at_each (λ q l. owns h q ≡ true → (j ≡ all.owner q) × (at (longer_by h r x) q ≡ l)) all.list r (all.list r ++ x ∷ []) (λ _. (mine.0, whole_now)) (λ q n o. ((f.whole q o).0, grown_else h r q x n ∙ (f.whole q o).1));
      }

  -- two that are put together, where the first takes over what the second owned
  pub held_together : (all : Whole A) (by other : ℕ) (g h : Family A) → Holds all by g → Holds all other h → Holds (over all h by) by (together g h)
  held_together all by other g h f k = record {
    begins = λ r. subst (λ (l : List A). IsPrefix l (all.list r)) (sym (at_longers g.lists h.lists r)) (longer_in _ _ _ (f.begins r) (k.begins r));
    whole = λ r o. either r (among r h.owned) refl (sym (among-append r g.owned h.owned) ∙ o);
  }
    where
      either : (r : ℕ) (b : Bool) → among r h.owned ≡ b → (among r g.owned || b) ≡ true → (by ≡ cond b by (all.owner r)) × (at (together g h) r ≡ all.list r)
      either r true is o = (refl, at_longers g.lists h.lists r ∙ longer_whole_second _ _ _ (f.begins r) (k.whole r is).1)
      either r false is o = let w = f.whole r (or_false (among r g.owned) o) in (w.0, at_longers g.lists h.lists r ∙ longer_whole _ _ _ w.1 (k.begins r))

  -- what others hold when the owner has changed
  pub held_by : (all : Whole A) (by other : ℕ) (u : Family A) (j : ℕ) (h : Family A) → Holds all other u → (j ≢ other) ⊎ (j ≡ by) → Holds all j h → Holds (over all u by) j h
  held_by all by other u j h k away f = record { begins = f.begins; whole = λ r o. ((f.whole r o).0 ∙ same r (among r u.owned) refl (f.whole r o).0 away, (f.whole r o).1) }
    where
      same : (r : ℕ) (b : Bool) → among r u.owned ≡ b → j ≡ all.owner r → (j ≢ other) ⊎ (j ≡ by) → all.owner r ≡ cond b by (all.owner r)
      same r true is own away = ⊎_elim (λ n. absurd (n (own ∙ sym (k.whole r is).0))) (λ e. sym own ∙ e) away
      same r false is own away = refl

  -- and what is taken over
  pub held_over : (all : Whole A) (by other : ℕ) (u : Family A) → Holds all other u → Holds (over all u by) by u
  held_over all by other u k = record { begins = k.begins; whole = λ r o. (ap (λ b. cond b by (all.owner r)) (sym o), (k.whole r o).1) }

  pub held_unowned : (all : Whole A) (j i : ℕ) (h : Family A) → Holds all j h → Holds all i (unowned h)
  held_unowned all j i h f = record { begins = f.begins; whole = λ r o. absurd (false≢true o) }

  pub none_held : (all : Whole A) (j : ℕ) → Holds all j (empty [])
  none_held all j = record { begins = λ r. prefix_nil (all.list r); whole = λ r o. absurd (false≢true o) }

  pub not_owned : (h : Family A) (r : ℕ) → h ≡ empty [] → owns h r ≡ true → ⊥
  not_owned h r e o = false≢true (sym (ap (λ g. owns g r) e) ∙ o)

  longer_either : (xs ys : List A) → (longer xs ys ≡ xs) ⊎ (longer xs ys ≡ ys)
  longer_either xs ys = choice (leb (length xs) (length ys)) xs ys
    where
      choice : (b : Bool) (us vs : List A) → (cond b vs us ≡ us) ⊎ (cond b vs us ≡ vs)
      choice true us vs = inr refl
      choice false us vs = inl refl

  -- each list of two that are put together is a list of one of them
  pub together_either : (g h : Family A) (r : ℕ) → (at (together g h) r ≡ at g r) ⊎ (at (together g h) r ≡ at h r)
  together_either g h r = ⊎_elim (λ e. inl (at_longers g.lists h.lists r ∙ e)) (λ e. inr (at_longers g.lists h.lists r ∙ e)) (longer_either (at g r) (at h r))

  pub within_together : (all : Whole A) (j : ℕ) (g h : Family A) → Holds all j g → Holds all j h → Within g (together g h) × Within h (together g h)
  within_together all j g h f k = (
    record {
      begins = λ r. subst (IsPrefix (at g r)) (sym (at_longers g.lists h.lists r)) (longer_first _ _ _ (f.begins r) (k.begins r));
      owned = λ r o. among-append r g.owned h.owned ∙ or_left (owns g r) (owns h r) o;
      whole = λ r o. (f.whole r o).1 ∙ sym (at_longers g.lists h.lists r ∙ longer_whole _ _ _ (f.whole r o).1 (k.begins r));
    },
    record {
      begins = λ r. subst (IsPrefix (at h r)) (sym (at_longers g.lists h.lists r)) (longer_second _ _ _ (f.begins r) (k.begins r));
      owned = λ r o. among-append r g.owned h.owned ∙ or_right (owns g r) (owns h r) o;
      whole = λ r o. (k.whole r o).1 ∙ sym (at_longers g.lists h.lists r ∙ longer_whole_second _ _ _ (f.begins r) (k.whole r o).1);
    },
  )

  -- both begin the two together
  pub prefix_together : (list : ℕ → List A) (g h : Family A) → ((r : ℕ) → IsPrefix (at g r) (list r)) → ((r : ℕ) → IsPrefix (at h r) (list r)) → ((r : ℕ) → IsPrefix (at g r) (at (together g h) r)) × ((r : ℕ) → IsPrefix (at h r) (at (together g h) r))
  prefix_together list g h f k =
      ((λ r. subst (IsPrefix (at g r)) (sym (at_longers g.lists h.lists r)) (longer_first _ _ _ (f r) (k r))), (λ r. subst (IsPrefix (at h r)) (sym (at_longers g.lists h.lists r)) (longer_second _ _ _ (f r) (k r))))

  pub prefix_longer_by : (h : Family A) (r : ℕ) (x : A) (q : ℕ) → IsPrefix (at h q) (at (longer_by h r x) q)
  prefix_longer_by h r x q = dite (ℕ_discrete q r)
      (λ e. subst (λ (k : ℕ). IsPrefix (at h k) (at (longer_by h r x) k)) (sym e) (subst (IsPrefix (at h r)) (sym (grown_here h r x)) (x ∷ [], refl)))
      (λ n. prefix_same _ _ (sym (grown_else h r q x n)))

  -- the first of what a seat owns, whose list is empty, goes to a new seat
  pub hand_left : (all : Whole A) (by new n a : ℕ) → Holds all by (empty (from (suc n) a)) → Holds (handed all a new) by (empty (from n (suc a)))
  hand_left all by new n a f = record {
    begins = f.begins;
    whole = λ q o. let w = f.whole q (or_right (a == q) (among q (from n (suc a))) o) in (w.0 ∙ sym (at_else all.owner a q new (λ e. false≢true (sym (among-from n (suc a) q (omega (arith, e))) ∙ o))), w.1);
  }

  pub hand_right : (all : Whole A) (by new n a : ℕ) → Holds all by (empty (from (suc n) a)) → Holds (handed all a new) new (empty (a ∷ []))
  hand_right all by new n a f =
      let was = f.whole a (ap (λ b. b || among a (from n (suc a))) (eq-eqb a a refl)) in record {
        begins = λ q. prefix_nil (all.list q);
        whole = λ q o. let e = one_among a q o in (subst (λ (k : ℕ). new ≡ at_place all.owner a new k) e (sym (at_here all.owner a new)), subst (λ (k : ℕ). [] ≡ all.list k) e was.1);
      }

  pub hand_others : (all : Whole A) (by new n a j : ℕ) (u : Family A) → Holds all by (empty (from (suc n) a)) → j ≢ by → Holds all j u → Holds (handed all a new) j u
  hand_others all by new n a j u f apart g =
      let was = f.whole a (ap (λ b. b || among a (from n (suc a))) (eq-eqb a a refl)) in record {
        begins = g.begins;
        whole = λ q o. let w = g.whole q o in (w.0 ∙ sym (at_else all.owner a q new (λ e. absurd (apart (w.0 ∙ (ap all.owner e ∙ sym was.0))))), w.1);
      }

  pub within_trans : (g h k : Family A) → Within g h → Within h k → Within g k
  within_trans g h k a b = record {
    begins = λ r. prefix_trans (at g r) (at h r) (at k r) (a.begins r) (b.begins r);
    owned = λ r o. b.owned r (a.owned r o);
    whole = λ r o. a.whole r o ∙ b.whole r (a.owned r o);
  }

  pub within_self : (h : Family A) → Within h h
  within_self h = record { begins = λ r. prefix_self (at h r); owned = λ r o. o; whole = λ r o. refl }
