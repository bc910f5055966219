-- The same of what a seat knows, which is two families: the histories and the calls.
use Rattle.std.proofs.Common.{◌≡◌, ◌≢◌, ◌⊎◌, ℕ, suc, true, List, [], ◌∷◌, ap, ◌∙◌}
use Rattle.seen_board.specs.declared.knowledge.Knowledge.{Knowledge}
use Rattle.seen_board.specs.declared.knowledge.Made.{Made}
use Rattle.seen_board.specs.Clauses.{Learnt}
use Rattle.seen_board.specs.Knowledge.{LiesIn, all_unowned, at, both, nothing, owns, with_call, with_item}
use Rattle.seen_board.specs.Rows.{from}
use Rattle.seen_board.specs.Rule.{Everything, HoldsBoth}
use Rattle.seen_board.proofs.Owned.{handed, hand_left, hand_others, hand_right, held_by, held_grown, held_more, held_over, held_together, held_unowned, more, none_held, not_owned, over, within_self, within_together, within_trans}
use Rattle.seen_board.proofs.Rows.{at_longers}

module _ {I C : Type 0} where
  -- everything, with one item more, or one call more
  abbrev pub more_items : Everything I C → ℕ → Made I → Everything I C
  more_items all r m = record { items = more all.items r m; calls = all.calls }

  abbrev pub more_calls : Everything I C → ℕ → C → Everything I C
  more_calls all k c = record { items = all.items; calls = more all.calls k c }

  -- a seat takes over what another owned
  abbrev pub taken_over : Everything I C → Knowledge I C → ℕ → Everything I C
  taken_over all u by = record { items = over all.items u.items by; calls = over all.calls u.calls by }

  abbrev pub handed_repo : Everything I C → ℕ → ℕ → Everything I C
  handed_repo all r new = record { items = handed all.items r new; calls = all.calls }

  abbrev pub handed_client : Everything I C → ℕ → ℕ → Everything I C
  handed_client all k new = record { items = all.items; calls = handed all.calls k new }

  pub nothing_known : (all : Everything I C) (j : ℕ) → HoldsBoth all j (nothing [] [])
  nothing_known all j = record { items = none_held all.items j; calls = none_held all.calls j }

  pub no_repo : (h : Knowledge I C) (r : ℕ) → h ≡ nothing [] [] → owns h.items r ≡ true → ⊥
  no_repo h r e = not_owned h.items r (ap (λ (g : Knowledge I C). g.items) e)

  pub no_client : (h : Knowledge I C) (k : ℕ) → h ≡ nothing [] [] → owns h.calls k ≡ true → ⊥
  no_client h k e = not_owned h.calls k (ap (λ (g : Knowledge I C). g.calls) e)

  pub known_item : (all : Everything I C) (r : ℕ) (m : Made I) (j : ℕ) (h : Knowledge I C) → (owns h.items r ≡ true → ⊥) → HoldsBoth all j h → HoldsBoth (more_items all r m) j h
  known_item all r m j h not f = record { items = held_more all.items r m j h.items not f.items; calls = f.calls }

  pub known_call : (all : Everything I C) (k : ℕ) (c : C) (j : ℕ) (h : Knowledge I C) → (owns h.calls k ≡ true → ⊥) → HoldsBoth all j h → HoldsBoth (more_calls all k c) j h
  known_call all k c j h not f = record { items = f.items; calls = held_more all.calls k c j h.calls not f.calls }

  pub grown_known : (all : Everything I C) (r : ℕ) (m : Made I) (j : ℕ) (h : Knowledge I C) → owns h.items r ≡ true → HoldsBoth all j h → HoldsBoth (more_items all r m) j (with_item h r m)
  grown_known all r m j h own f = record { items = held_grown all.items r m j h.items own f.items; calls = f.calls }

  pub sent_known : (all : Everything I C) (k : ℕ) (c : C) (j : ℕ) (h : Knowledge I C) → owns h.calls k ≡ true → HoldsBoth all j h → HoldsBoth (more_calls all k c) j (with_call h k c)
  sent_known all k c j h own f = record { items = f.items; calls = held_grown all.calls k c j h.calls own f.calls }

  pub both_known : (all : Everything I C) (by other : ℕ) (g h : Knowledge I C) → HoldsBoth all by g → HoldsBoth all other h → HoldsBoth (taken_over all h by) by (both g h)
  both_known all by other g h f k = record { items = held_together all.items by other g.items h.items f.items k.items; calls = held_together all.calls by other g.calls h.calls f.calls k.calls }

  pub others_known : (all : Everything I C) (by other : ℕ) (u : Knowledge I C) (j : ℕ) (h : Knowledge I C) → HoldsBoth all other u → (j ≢ other) ⊎ (j ≡ by) → HoldsBoth all j h → HoldsBoth (taken_over all u by) j h
  others_known all by other u j h k away f = record { items = held_by all.items by other u.items j h.items k.items away f.items; calls = held_by all.calls by other u.calls j h.calls k.calls away f.calls }

  pub over_known : (all : Everything I C) (by other : ℕ) (u : Knowledge I C) → HoldsBoth all other u → HoldsBoth (taken_over all u by) by u
  over_known all by other u k = record { items = held_over all.items by other u.items k.items; calls = held_over all.calls by other u.calls k.calls }

  pub unowned_known : (all : Everything I C) (j i : ℕ) (h : Knowledge I C) → HoldsBoth all j h → HoldsBoth all i (all_unowned h)
  unowned_known all j i h f = record { items = held_unowned all.items j i h.items f.items; calls = held_unowned all.calls j i h.calls f.calls }

  -- the first repository that a seat owns goes to a new seat
  pub repo_left : (all : Everything I C) (by new n a : ℕ) (clients : List ℕ) → HoldsBoth all by (nothing (from (suc n) a) clients) → HoldsBoth (handed_repo all a new) by (nothing (from n (suc a)) clients)
  repo_left all by new n a clients f = record { items = hand_left all.items by new n a f.items; calls = f.calls }

  pub repo_right : (all : Everything I C) (by new n a : ℕ) (clients : List ℕ) → HoldsBoth all by (nothing (from (suc n) a) clients) → HoldsBoth (handed_repo all a new) new (nothing (a ∷ []) [])
  repo_right all by new n a clients f = record { items = hand_right all.items by new n a f.items; calls = none_held all.calls new }

  pub repo_others : (all : Everything I C) (by new n a : ℕ) (clients : List ℕ) (j : ℕ) (u : Knowledge I C) → HoldsBoth all by (nothing (from (suc n) a) clients) → j ≢ by → HoldsBoth all j u → HoldsBoth (handed_repo all a new) j u
  repo_others all by new n a clients j u f apart g = record { items = hand_others all.items by new n a j u.items f.items apart g.items; calls = g.calls }

  -- and the first client
  pub client_left : (all : Everything I C) (by new n a : ℕ) (repos : List ℕ) → HoldsBoth all by (nothing repos (from (suc n) a)) → HoldsBoth (handed_client all a new) by (nothing repos (from n (suc a)))
  client_left all by new n a repos f = record { items = f.items; calls = hand_left all.calls by new n a f.calls }

  pub client_right : (all : Everything I C) (by new n a : ℕ) (repos : List ℕ) → HoldsBoth all by (nothing repos (from (suc n) a)) → HoldsBoth (handed_client all a new) new (nothing [] (a ∷ []))
  client_right all by new n a repos f = record { items = none_held all.items new; calls = hand_right all.calls by new n a f.calls }

  pub client_others : (all : Everything I C) (by new n a : ℕ) (repos : List ℕ) (j : ℕ) (u : Knowledge I C) → HoldsBoth all by (nothing repos (from (suc n) a)) → j ≢ by → HoldsBoth all j u → HoldsBoth (handed_client all a new) j u
  client_others all by new n a repos j u f apart g = record { items = g.items; calls = hand_others all.calls by new n a j u.calls f.calls apart g.calls }

  -- both lie within the two together
  pub lies_both : (all : Everything I C) (j : ℕ) (g h : Knowledge I C) → HoldsBoth all j g → HoldsBoth all j h → LiesIn g (both g h) × LiesIn h (both g h)
  lies_both all j g h f k =
      let items = within_together all.items j g.items h.items f.items k.items in
      let calls = within_together all.calls j g.calls h.calls f.calls k.calls in ((items.0, calls.0), (items.1, calls.1))

  pub lies_self : (h : Knowledge I C) → LiesIn h h
  lies_self h = (within_self h.items, within_self h.calls)

  pub lies_trans : (g h k : Knowledge I C) → LiesIn g h → LiesIn h k → LiesIn g k
  lies_trans g h k a b = (within_trans g.items h.items k.items a.0 b.0, within_trans g.calls h.calls k.calls a.1 b.1)

  -- what is learnt by putting two together
  pub learnt : (g h kept : Knowledge I C) → kept ≡ both g h → LiesIn g kept → LiesIn h kept → Learnt g h kept
  learnt g h kept is mine theirs = record {
    items = λ r. record { longer = ap (λ (k : Knowledge I C). at k.items r) is ∙ at_longers g.items.lists h.items.lists r; first = mine.0.begins r; second = theirs.0.begins r };
    calls = λ k. record { longer = ap (λ (z : Knowledge I C). at z.calls k) is ∙ at_longers g.calls.lists h.calls.lists k; first = mine.1.begins k; second = theirs.1.begins k };
  }
