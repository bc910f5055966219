-- Each step keeps the rule.
use Rattle.std.proofs.Common.{◌≡◌, ◌≢◌, ℕ, zero, suc, ◌+◌, ◌<◌, ◌≤◌, true, eqb, List, [], ◌∷◌, ◌++◌, length, get_or, set, Some, refl, ap, sym, ◌∙◌, subst, ⊎_elim, arith, length-append, length-set, get_or-set_same, get_or-set_other, eq-eqb, inl, inr}
use Rattle.std.proofs.lemmas.List.{set-get_or}
use Rattle.std.specs.Prelude.{slice_get, slice_index}
use mathlib.Core.Logic.{dite}
use mathlib.Core.Option.{some, none, some-ne-none, some-injective}
use native.Mathlib.Decide.{ℕ_discrete}
use lib.ListN.{get_elem?}
use prog.Atomic.{either}
use Rattle.atomic_table.specs.Table.{State, Me, step, keeps, stepped, Allows, Splits, Joins, Final, Seen, opening}
use Rattle.atomic_table.proofs.Lists.{at_set, set_else}
use Rattle.seen_board.specs.declared.knowledge.Made.{Made}
use Rattle.seen_board.specs.declared.knowledge.View.{View}
use Rattle.seen_board.specs.Knowledge.{Coherent, LiesIn, MayAdd, at, both, histories, owns}
use Rattle.seen_board.specs.Meaning.{Lasts, Meaning}
use Rattle.seen_board.specs.Rows.{from, put}
use Rattle.seen_board.specs.Rule.{Consistent, Everything, Fits, first_view, newcomer}
use Rattle.seen_board.specs.Steps.{Compared, Grew, IsCalm, Met, Sent, client_of, compared, copied, given_client, given_repo, grown, joined, met, owner_of, sent}
use Rattle.seen_board.proofs.Coherence.{both_cohere, grown_coheres, nothing_coheres, sent_coheres, unowned_coheres}
use Rattle.seen_board.proofs.Known.{both_known, client_left, client_others, client_right, grown_known, handed_client, handed_repo, known_call, known_item, lies_both, more_calls, more_items, no_client, no_repo, nothing_known, others_known, over_known, repo_left, repo_others, repo_right, sent_known, taken_over, unowned_known}
use Rattle.seen_board.proofs.Prefixes.{prefix_length, prefix_nil}
use Rattle.seen_board.proofs.Rows.{at_each, at_end, at_place, put_else, put_here}

module _ {I C : Type 0} (w : Meaning I C) where
  -- what holds of a view that was set and of the others holds of all
  each_set : (views : List (View I C)) (by : ℕ) (t : View I C) (P : ℕ → View I C → Type 0) → P by t → ((j : ℕ) (u : View I C) → j ≢ by → get_elem? views j ≡ some u → P j u)
      → (j : ℕ) (u : View I C) → get_elem? (set views by t) j ≡ some u → P j u
  each_set views by t P mine others j u e =
      ⊎_elim
      (λ (x : (j ≡ by) × (t ≡ u)). subst (λ (k : ℕ). P k u) (sym x.0) (subst (P by) x.1 mine))
      (λ (x : (j ≢ by) × (get_elem? views j ≡ some u)). others j u x.0 x.1)
      (at_set views by j t u e)

  newcomer_fits : (all : Everything I C) (j : ℕ) → Fits w all j (newcomer [] [])
  newcomer_fits all j = record { knows = nothing_known all j; coherent = nothing_coheres w [] []; reached = λ r. omega arith; mine = nothing_known all j; theirs = nothing_known all j }

  -- the board at the start
  pub begins : {S : Type 0} (repos clients : ℕ) (words : List ℕ) → length words ≡ repos → ((r : ℕ) → get_or words r 0 ≡ 0) → Consistent {S = S} w repos (opening words [] (first_view repos clients))
  begins {S} repos clients words len zeros = record { all = none_there; wide = len; words = zeros; each = one }
    where
      none_there : Everything I C
      none_there = record { items = record { list = λ _. []; owner = λ _. 0 }; calls = record { list = λ _. []; owner = λ _. 0 } }

      one : (by : ℕ) (v : View I C) → get_elem? (first_view repos clients ∷ []) by ≡ some v → Fits w none_there by v
      one zero v e = subst (Fits w none_there 0) (some-injective _ _ e)
          (record {
            knows = record { items = record { begins = λ r. prefix_nil []; whole = λ r _. (refl, refl) }; calls = record { begins = λ r. prefix_nil []; whole = λ r _. (refl, refl) } };
            coherent = nothing_coheres w _ _;
            reached = λ r. omega arith;
            mine = nothing_known _ _;
            theirs = nothing_known _ _;
          })
      one (suc by) v e = absurd (some-ne-none v (sym e))

  reached_more : (logs : ℕ → List (Made I)) (r : ℕ) (x : Made I) (ns : List ℕ) → ((q : ℕ) → slice_index ns q ≤ length (logs q)) → (q : ℕ) → slice_index ns q ≤ length (at_place logs r (logs r ++ x ∷ []) q)
  reached_more logs r x ns f = at_each (λ q l. slice_index ns q ≤ length l) logs r (logs r ++ x ∷ []) (let a = f r in omega (arith, length-append (logs r) (x ∷ []))) (λ q _. f q)

  -- a view that doesn't own the repository, or the client, when its list has grown
  fits_item : (all : Everything I C) (r : ℕ) (m : Made I) (j : ℕ) (u : View I C) → (j ≡ all.items.owner r → ⊥) → Fits w all j u → Fits w (more_items all r m) j u
  fits_item all r m j u apart g = record {
    knows = known_item all r m j u.knows (λ o. apart (g.knows.items.whole r o).0) g.knows;
    coherent = g.coherent;
    reached = reached_more all.items.list r m u.reached g.reached;
    mine = known_item all r m j u.mine (λ o. apart (g.mine.items.whole r o).0) g.mine;
    theirs = known_item all r m j u.theirs (λ o. apart (g.theirs.items.whole r o).0) g.theirs;
  }

  fits_call : (all : Everything I C) (k : ℕ) (c : C) (j : ℕ) (u : View I C) → (j ≡ all.calls.owner k → ⊥) → Fits w all j u → Fits w (more_calls all k c) j u
  fits_call all k c j u apart g = record {
    knows = known_call all k c j u.knows (λ o. apart (g.knows.calls.whole k o).0) g.knows;
    coherent = g.coherent;
    reached = g.reached;
    mine = known_call all k c j u.mine (λ o. apart (g.mine.calls.whole k o).0) g.mine;
    theirs = known_call all k c j u.theirs (λ o. apart (g.theirs.calls.whole k o).0) g.theirs;
  }

  module _ {S : Type 0} (lasts : Lasts w) where
    -- an owner's word is the length of its list, so the exchange finds what it expects
    pub grows : (repos slots by : ℕ) (me : Me S (View I C)) (r : ℕ) (items : S → List I) (k : S) (m : Made I) (old : ℕ)
        → owns me.0.knows.items r ≡ true → IsCalm me.0 → r < repos → old ≡ length (at me.0.knows.items r) → slice_get (items k) old ≡ Some m.item → MayAdd w me.0.knows r m
        → Allows (Consistent w repos) slots by me r (λ n. either (eqb n old) (old + 1) n) (Grew w items (step slots r old (old + 1) (some k)) me)
    grows repos slots by me r items k m old own calm room is there may s h wide here small =
        let v = me.0 in
        let f = h.each by v here in
        let mine = f.knows.items.whole r own in
        let longer_log = h.all.items.list r ++ m ∷ [] in
        let found : slice_index s.words r ≡ old = h.words r ∙ ap length (sym mine.1) ∙ sym is in
        let new : ℕ = either (eqb (slice_index s.words r) old) (old + 1) (slice_index s.words r) in
        let one_more : old + 1 ≡ length longer_log = omega (arith, length-append (h.all.items.list r) (m ∷ []), is, ap length mine.1) in
        let value : new ≡ length longer_log = ap (λ b. either b (old + 1) (slice_index s.words r)) (eq-eqb (slice_index s.words r) old found) ∙ one_more in (
          grown v r m,
          keeps,
          tt,
          record {
            all = more_items h.all r m;
            wide = length-set s.words r new ∙ h.wide;
            words = at_each (λ q l. slice_index (set s.words r new) q ≡ length l) h.all.items.list r longer_log
                (get_or-set_same s.words r new 0 (omega (arith, room, h.wide)) ∙ value)
                (λ q n. get_or-set_other s.words r q new 0 n ∙ h.words q);
            each = each_set s.views by (grown v r m) (Fits w (more_items h.all r m))
                (record {
                  knows = grown_known h.all r m by v.knows own f.knows;
                  coherent = grown_coheres w lasts v.knows r m may f.coherent;
                  reached = reached_more h.all.items.list r m v.reached f.reached;
                  mine = known_item h.all r m by v.mine (no_repo v.mine r calm.0) f.mine;
                  theirs = known_item h.all r m by v.theirs (no_repo v.theirs r calm.1) f.theirs;
                })
                (λ j u apart e. fits_item h.all r m j u (λ o. apart (o ∙ sym mine.0)) (h.each j u e));
          },
          (refl, λ k' y e1 e2. let same : Some m.item ≡ Some y = sym there ∙ (ap (λ z. slice_get (items z) old) (some-injective k k' e1) ∙ e2) in let xy : m.item ≡ y = cc same in (m, xy, refl), grown_coheres w lasts v.knows r m may f.coherent),
        )

    -- a step that reads a word and changes one view
    still : (repos by : ℕ) (s : State S (View I C)) (h : Consistent w repos s) (r : ℕ) (c : List (ℕ × S)) (t : View I C) → Fits w h.all by t → Consistent w repos (stepped s r (slice_index s.words r) by c t keeps)
    still repos by s h r c t fits =
        let same : set s.words r (slice_index s.words r) ≡ s.words = set-get_or s.words r 0 in
        record {
          all = h.all;
          wide = ap length same ∙ h.wide;
          words = λ q. ap (λ ws. slice_index ws q) same ∙ h.words q;
          each = each_set s.views by t (Fits w h.all) fits (λ j u _ e. h.each j u e);
        }

    -- a client's own pass adds a call that what it has seen justifies
    pub sends : (repos slots by : ℕ) (me : Me S (View I C)) (k : ℕ) (c : C) → owns me.0.knows.calls k ≡ true → IsCalm me.0 → w.justified (histories me.0.knows) c
        → Allows (Consistent w repos) slots by me 0 (λ n. n) (λ _ t. Sent w k c me t)
    sends repos slots by me k c own calm just s h wide here small =
        let v = me.0 in
        let f = h.each by v here in
        let mine = f.knows.calls.whole k own in
        let same : set s.words 0 (slice_index s.words 0) ≡ s.words = set-get_or s.words 0 0 in (
          sent v k c,
          keeps,
          tt,
          record {
            all = more_calls h.all k c;
            wide = ap length same ∙ h.wide;
            words = λ q. ap (λ ws. slice_index ws q) same ∙ h.words q;
            each = each_set s.views by (sent v k c) (Fits w (more_calls h.all k c))
                (record {
                  knows = sent_known h.all k c by v.knows own f.knows;
                  coherent = sent_coheres w v.knows k c just f.coherent;
                  reached = f.reached;
                  mine = known_call h.all k c by v.mine (no_client v.mine k calm.0) f.mine;
                  theirs = known_call h.all k c by v.theirs (no_client v.theirs k calm.1) f.theirs;
                })
                (λ j u apart e. fits_call h.all k c j u (λ o. apart (o ∙ sym mine.0)) (h.each j u e));
          },
          (refl, sent_coheres w v.knows k c just f.coherent),
        )

    pub meets : (repos slots by : ℕ) (me : Me S (View I C)) (r : ℕ) → Allows (Consistent w repos) slots by me r (λ n. n) (Met (step slots r 0 0 none) me)
    meets repos slots by me r s h wide here small =
        let v = me.0 in
        let f = h.each by v here in
        let n : ℕ = slice_index s.words r in
        let is : n ≡ length (h.all.items.list r) = h.words r in
        let found : (q : ℕ) → slice_index (put 0 v.reached r n) q ≤ length (h.all.items.list q) = λ q. dite (ℕ_discrete q r)
        (λ e. subst (λ (k : ℕ). slice_index (put 0 v.reached r n) k ≤ length (h.all.items.list k)) (sym e) (let here' = put_here 0 v.reached r n in omega (arith, here', is)))
        (λ no. let there = put_else 0 v.reached r q n no in let old = f.reached q in omega (arith, there, old)) in (
          met v r n,
          keeps,
          tt,
          still repos by s h r me.1 (met v r n) (record { knows = f.knows; coherent = f.coherent; reached = found; mine = f.mine; theirs = f.theirs }),
          (refl, (let p = prefix_length _ _ (f.knows.items.begins r) in omega (arith, is, p)), (let p = f.reached r in omega (arith, is, p))),
        )

    pub compares : (repos slots by : ℕ) (me : Me S (View I C)) → me.0.knows ≡ both me.0.mine me.0.theirs → Allows (Consistent w repos) slots by me 0 (λ n. n) (λ _ t. Compared w me t)
    compares repos slots by me is s h wide here small =
        let v = me.0 in
        let f = h.each by v here in
        let lies = lies_both h.all by v.mine v.theirs f.mine f.theirs in (
          compared v,
          keeps,
          tt,
          still repos by s h 0 me.1 (compared v) (record { knows = f.knows; coherent = f.coherent; reached = f.reached; mine = nothing_known _ _; theirs = nothing_known _ _ }),
          (refl, subst (LiesIn v.mine) (sym is) lies.0, subst (LiesIn v.theirs) (sym is) lies.1, f.coherent),
        )

    -- one seat takes in what another has and owns
    pub joins : (repos by : ℕ) (v : View I C) (other : ℕ) (u : View I C) → Joins {S = S} (Consistent w repos) by v other u (joined v u) (newcomer [] [])
    joins repos by v other u s h here apart there =
        let f = h.each by v here in
        let g = h.each other u (sym (set_else s.views by other (joined v u) apart) ∙ there) in
        let all = taken_over h.all u.knows by in
        record {
          all = all;
          wide = h.wide;
          words = h.words;
          each = each_set (set s.views by (joined v u)) other (newcomer [] []) (Fits w all) (newcomer_fits all other)
              (λ j t not_other e. each_set s.views by (joined v u) (λ i y. i ≢ other → Fits w all i y)
              (λ _. record {
                knows = both_known h.all by other v.knows u.knows f.knows g.knows;
                coherent = both_cohere w lasts h.all.items.list h.all.calls.list v.knows u.knows f.knows.items.begins g.knows.items.begins f.knows.calls.begins g.knows.calls.begins f.coherent g.coherent;
                reached = f.reached;
                mine = others_known h.all by other u.knows by v.knows g.knows (inr refl) f.knows;
                theirs = over_known h.all by other u.knows g.knows;
              })
              (λ i y _ e' away. let k = h.each i y e' in record {
                knows = others_known h.all by other u.knows i y.knows g.knows (inl away) k.knows;
                coherent = k.coherent;
                reached = k.reached;
                mine = others_known h.all by other u.knows i y.mine g.knows (inl away) k.mine;
                theirs = others_known h.all by other u.knows i y.theirs g.knows (inl away) k.theirs;
              }) j t e not_other);
        }

    -- a new seat beside one that has changed; the lists are as they were, and their owners may be others
    splits : (repos by : ℕ) (v left right : View I C) (s : State S (View I C)) (h : Consistent w repos s) (all : Everything I C) → all.items.list ≡ h.all.items.list
        → ((j : ℕ) (u : View I C) → j ≢ by → get_elem? s.views j ≡ some u → Fits w all j u)
        → Fits w all by left → Fits w all (length (set s.views by left)) right
        → Consistent w repos record { words = s.words; homes = s.homes; views = set s.views by left ++ right ∷ [] }
    splits repos by v left right s h all same others one two = record {
      all = all;
      wide = h.wide;
      words = λ r. h.words r ∙ ap (λ (f : ℕ → List (Made I)). length (f r)) (sym same);
      each = λ j u e. ⊎_elim
          (λ was. each_set s.views by left (Fits w all) one others j u was)
          (λ (x : (j ≡ length (set s.views by left)) × (right ≡ u)). subst (λ (k : ℕ). Fits w all k u) (sym x.0) (subst (Fits w all (length (set s.views by left))) x.1 two))
          (at_end (set s.views by left) right u j e);
    }

    pub copies : (repos by : ℕ) (v : View I C) → Splits {S = S} (Consistent w repos) by v v (copied v)
    copies repos by v s h here =
        let f = h.each by v here in
        splits repos by v v (copied v) s h h.all refl (λ j u _ e. h.each j u e) f
        (record { knows = unowned_known h.all by _ v.knows f.knows; coherent = unowned_coheres w v.knows f.coherent; reached = f.reached; mine = nothing_known _ _; theirs = nothing_known _ _ })

    -- a seat that has seen nothing hands over the first repository that it owns
    one_owner : (repos by n a : ℕ) (clients : List ℕ) → Splits {S = S} (Consistent w repos) by (newcomer (from (suc n) a) clients) (newcomer (from n (suc a)) clients) (newcomer (a ∷ []) [])
    one_owner repos by n a clients s h here =
        let v = newcomer (from (suc n) a) clients in
        let f = h.each by v here in
        let new : ℕ = length (set s.views by (newcomer (from n (suc a)) clients)) in
        splits repos by v (newcomer (from n (suc a)) clients) (newcomer (a ∷ []) []) s h (handed_repo h.all a new) refl
        (λ j u apart e. let g = h.each j u e in record {
          knows = repo_others h.all by new n a clients j u.knows f.knows apart g.knows;
          coherent = g.coherent;
          reached = g.reached;
          mine = repo_others h.all by new n a clients j u.mine f.knows apart g.mine;
          theirs = repo_others h.all by new n a clients j u.theirs f.knows apart g.theirs;
        })
        (record { knows = repo_left h.all by new n a clients f.knows; coherent = nothing_coheres w _ _; reached = f.reached; mine = nothing_known _ _; theirs = nothing_known _ _ })
        (record { knows = repo_right h.all by new n a clients f.knows; coherent = nothing_coheres w _ _; reached = λ q. omega arith; mine = nothing_known _ _; theirs = nothing_known _ _ })

    -- and the first client
    one_client : (repos by n a : ℕ) (owned : List ℕ) → Splits {S = S} (Consistent w repos) by (newcomer owned (from (suc n) a)) (newcomer owned (from n (suc a))) (newcomer [] (a ∷ []))
    one_client repos by n a owned s h here =
        let v = newcomer owned (from (suc n) a) in
        let f = h.each by v here in
        let new : ℕ = length (set s.views by (newcomer owned (from n (suc a)))) in
        splits repos by v (newcomer owned (from n (suc a))) (newcomer [] (a ∷ [])) s h (handed_client h.all a new) refl
        (λ j u apart e. let g = h.each j u e in record {
          knows = client_others h.all by new n a owned j u.knows f.knows apart g.knows;
          coherent = g.coherent;
          reached = g.reached;
          mine = client_others h.all by new n a owned j u.mine f.knows apart g.mine;
          theirs = client_others h.all by new n a owned j u.theirs f.knows apart g.theirs;
        })
        (record { knows = client_left h.all by new n a owned f.knows; coherent = nothing_coheres w _ _; reached = f.reached; mine = nothing_known _ _; theirs = nothing_known _ _ })
        (record { knows = client_right h.all by new n a owned f.knows; coherent = nothing_coheres w _ _; reached = λ q. omega arith; mine = nothing_known _ _; theirs = nothing_known _ _ })

    pub makes_owner : (repos by n a : ℕ) (clients : List ℕ) (v : View I C) → v ≡ newcomer (from (suc n) a) clients → Splits {S = S} (Consistent w repos) by v (given_repo v) (owner_of v)
    makes_owner repos by n a clients v is = subst (λ (u : View I C). Splits {S = S} (Consistent w repos) by u (given_repo u) (owner_of u)) (sym is) (one_owner repos by n a clients)

    pub makes_client : (repos by n a : ℕ) (owned : List ℕ) (v : View I C) → v ≡ newcomer owned (from (suc n) a) → Splits {S = S} (Consistent w repos) by v (given_client v) (client_of v)
    makes_client repos by n a owned v is = subst (λ (u : View I C). Splits {S = S} (Consistent w repos) by u (given_client u) (client_of u)) (sym is) (one_client repos by n a owned)

    -- at the end the word of a repository is the length of its owner's list
    pub final_word : (repos id : ℕ) (v : View I C) (ws : List ℕ) (xs : List S) → Final (Seen (Consistent w repos) id v) ws xs → (r : ℕ) → owns v.knows.items r ≡ true → slice_index ws r ≡ length (at v.knows.items r)
    final_word repos id v ws xs f r o =
        let h = f.1.0 in
        let t = (h.each id v f.1.1).knows.items.whole r o in
        ap (λ l. slice_index l r) (sym f.2) ∙ (h.words r ∙ ap length (sym t.1))

    -- and what a seat knows belongs together
    pub final_coheres : (repos id : ℕ) (v : View I C) (ws : List ℕ) (xs : List S) → Final (Seen (Consistent w repos) id v) ws xs → Coherent w v.knows
    final_coheres repos id v ws xs f = (f.1.0.each id v f.1.1).coherent

    pub joined_knows : (v u : View I C) (m : Me S (View I C)) (c : List (ℕ × S)) → m ≡ (joined v u, c) → m.0.knows ≡ both m.0.mine m.0.theirs
    joined_knows v u m c is = ap (λ (k : Me S (View I C)). k.0.knows) is ∙ sym (ap (λ (k : Me S (View I C)). both k.0.mine k.0.theirs) is)

    -- what a join and the comparison after it have told
    pub taken_in : (v u : View I C) (c : List (ℕ × S)) (m l : Me S (View I C)) → m ≡ (joined v u, c) → Compared w m l → (l ≡ (compared (joined v u), c)) × LiesIn v.knows l.0.knows × LiesIn u.knows l.0.knows × Coherent w l.0.knows
    taken_in v u c m l is told =
        let t = subst (λ (k : Me S (View I C)). Compared w k l) is told in
        let knows : l.0.knows ≡ both v.knows u.knows = ap (λ (k : Me S (View I C)). k.0.knows) t.0 in
        (t.0, subst (LiesIn v.knows) (sym knows) t.1, subst (LiesIn u.knows) (sym knows) t.2, subst (Coherent w) (sym knows) t.3)

pub found_index : (ws : List ℕ) (i n : ℕ) → get_elem? ws i ≡ some n → slice_index ws i ≡ n
found_index [] i n e = absurd (some-ne-none n (sym e))
found_index (x ∷ ws) zero n e = some-injective x n e
found_index (x ∷ ws) (suc i) n e = found_index ws i n e
