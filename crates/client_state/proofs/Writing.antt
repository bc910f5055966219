-- What a try has written, and what the shares of its transaction write.
use Rattle.client_cache.specs.Copies.{Contents, changed}
use Rattle.client_state.specs.Sending.{CarriesSessions, IsOfShare, carried, in_session}
use Rattle.client_cache.specs.Pages.{same_name}
use Rattle.client_state.specs.Taking.{WrittenWithout}
use Rattle.client_state.specs.Writing.{CameStays, DrewStays, PhaseWrites, WritesNone, WritesShares, WritesStay, WritesThere, shares_write, unsent}
use Rattle.client_state.specs.declared.calls.Came.TheVariants as came
use Rattle.client_state.specs.declared.calls.Came.{Came}
use Rattle.client_state.specs.declared.calls.Drew.TheVariants as drew
use Rattle.client_state.specs.declared.calls.Drew.{Drew}
use Rattle.client_state.specs.declared.link.Link.TheVariants.{Apart, Joined, Unsettled}
use Rattle.client_state.specs.declared.link.Link.{Link}
use Rattle.client_state.specs.declared.phase.Phase.TheVariants as phase
use Rattle.client_state.specs.declared.phase.Phase.{Phase}
use Rattle.client_state.specs.declared.requests.Sending.{Sending}
use Rattle.client_state.specs.declared.transaction.Share.{Share}
use Rattle.client_state.specs.declared.transaction.Transaction.{Transaction}
use Rattle.client_items.specs.declared.news.Learnt.{Learnt}
use Rattle.paused_eval.specs.Copies.{AreAmong, last_of}
use Rattle.paused_eval.specs.Writing.{WrittenBy}
use Rattle.std.proofs.Common.{Bool, List, [], ap, cond, false, inl, inr, nat_eq, refl, subst, suc, sym, true, zero, ℕ, ℤ, ◌∷◌, ◌≡◌, ◌∙◌}
use Rattle.std.proofs.lemmas.Option.{same_Some}
use Rattle.std.specs.List.{list_any, slice_get}
use Rattle.std.specs.Prelude.{Err, IfOk, None, Ok, Option, Result, Some, ◌⊎◌}
use Rattle.thor_value.specs.declared.memory.NoMemory.{NoMemory}
use Rattle.thor_value.specs.declared.names.Oref.{Oref}
use Rattle.thor_value.specs.declared.names.Ts.{Ts}
use Rattle.thor_value.specs.declared.values.Answer.TheVariants as answer
use Rattle.thor_value.specs.declared.values.Answer.{Answer}
use Rattle.thor_value.specs.declared.values.Fault.{Fault}
use Rattle.thor_value.specs.declared.values.Obj.{Obj}

-- ---- shares that name their sessions

same_share : (link : Option Link) (s : Share) → ((in_session link s).repo ≡ s.repo) × ((in_session link s).writes ≡ s.writes)
same_share None s = (refl, refl)
same_share (Some Apart) s = (refl, refl)
same_share (Some (Joined n upto waits)) s = (refl, refl)
same_share (Some (Unsettled sent index)) s = (refl, refl)

pub carried_write : (links : List Link) (old new : List Share) → CarriesSessions links old new → (x : Oref) → shares_write new x ≡ shares_write old x
carried_write links [] [] h x = refl
carried_write links [] (t ∷ ts) h x = let e : Some t ≡ None = h zero in cc
carried_write links (s ∷ ss) [] h x = let e : None ≡ Some (carried links s) = h zero in cc
carried_write links (s ∷ ss) (t ∷ ts) h x =
    let e : t ≡ carried links s = same_Some t (carried links s) (h zero) in
    ap (λ (u : Share). cond (nat_eq u.repo x.repo) (last_of u.writes x) (shares_write ts x)) e
    ∙ (ap (λ (r : ℕ). cond (nat_eq r x.repo) (last_of (carried links s).writes x) (shares_write ts x)) (same_share (slice_get links s.repo) s).0
    ∙ (ap (λ (ws : List (Oref × Obj)). cond (nat_eq s.repo x.repo) (last_of ws x) (shares_write ts x)) (same_share (slice_get links s.repo) s).1
    ∙ ap (λ (o : Option Obj). cond (nat_eq s.repo x.repo) (last_of s.writes x) o) (carried_write links ss ts (λ n. h (suc n)) x)))

-- ---- the only share

of_one : (share : Share) (s : Sending) (links : List Link) (x : Oref) → IsOfShare links share s → shares_write (share ∷ []) x ≡ cond (nat_eq s.at.repo x.repo) (last_of s.request.writes x) None
of_one share s links x h =
    ap (λ (r : ℕ). cond (nat_eq r x.repo) (last_of share.writes x) None) (sym (ap (λ a. a.repo) h.at_is))
    ∙ ap (λ (ws : List (Oref × Obj)). cond (nat_eq s.at.repo x.repo) (last_of ws x) None) (sym h.writes)

pub sent_alone : (links : List Link) (shares rest : List Share) (share : Share) (s : Sending) (c : Contents) → shares ≡ share ∷ rest → IsOfShare links share s → rest ≡ [] → WritesShares shares c
    → WritesThere s.at.repo s.request.writes c
sent_alone links shares rest share s c e h none w x =
    w x ∙ (ap (λ (ss : List Share). shares_write ss x) (e ∙ ap (λ (ss : List Share). share ∷ ss) none) ∙ of_one share s links x h)

-- ---- phases

pub nothing_unsent : (p : Phase) (c : Contents) → unsent p ≡ None → PhaseWrites p c
nothing_unsent p c h = record { all = λ shares e. let both : None ≡ Some shares = sym h ∙ e in cc }

pub still_writes : (p q : Phase) (c d : Contents) → unsent q ≡ unsent p → WritesStay c d → PhaseWrites p c → PhaseWrites q d
still_writes p q c d u stay w = record { all = λ shares e x. stay x ∙ w.all shares (sym u ∙ e) x }

-- what the try has written of some objects has gone: nothing of them is left, and nothing came
pub none_without : (names : List Oref) (c d : Contents) → WrittenWithout names c d → WritesNone names d
none_without names c d gone x named = gone x ∙ ap (λ (t : Bool). cond t None (changed c x)) named

pub less_without : (names : List Oref) (b c d : Contents) → WritesStay b c → WrittenWithout names c d → AreAmong (changed b) (changed d)
less_without names b c d stay gone x = by (list_any (λ y. same_name y x) names) (gone x)
  where
    by : (t : Bool) → changed d x ≡ cond t None (changed c x) → (changed d x ≡ changed b x) ⊎ (changed d x ≡ None)
    by true e = inr e
    by false e = inl (e ∙ stay x)

pub is_evaluated : (t : Transaction) (c : Contents) → WritesShares t.shares.items c → PhaseWrites (phase.Evaluated t) c
is_evaluated t c w = record { all = λ shares e x. w x ∙ ap (λ (ss : List Share). shares_write ss x) (same_Some t.shares.items shares e) }

pub is_drawn : (ts : Ts) (t u : Transaction) (c : Contents) → ((x : Oref) → shares_write u.shares.items x ≡ shares_write t.shares.items x) → PhaseWrites (phase.Evaluated t) c → PhaseWrites (phase.Drawn ts u) c
is_drawn ts t u c same w = record { all = λ shares e x. w.all t.shares.items refl x ∙ (sym (same x) ∙ ap (λ (ss : List Share). shares_write ss x) (same_Some u.shares.items shares e)) }

-- ---- an evaluation that has ended

pub fault_undone : (a : Answer) (writes : List (Oref × Obj)) (c d : Contents) (f : Fault) → a ≡ answer.Fault f → WrittenBy a writes c → ((x : Oref) → changed d x ≡ None) → (x : Oref) → changed d x ≡ last_of writes x
fault_undone a writes c d f is w none x =
    let nothing : writes ≡ [] = subst (λ (b : Answer). WrittenBy b writes c) is w in
    none x ∙ sym (ap (λ (ws : List (Oref × Obj)). last_of ws x) nothing)

pub stays_written : (a : Answer) (writes : List (Oref × Obj)) (c : Contents) (ints : List ℤ) → a ≡ answer.Ints ints → WrittenBy a writes c → (x : Oref) → changed c x ≡ last_of writes x
stays_written a writes c ints is w = subst (λ (b : Answer). WrittenBy b writes c) is w

pub of_shares : (r : Result Transaction NoMemory) (writes : List (Oref × Obj)) (c : Contents) (P : Type 0) → IfOk r (λ made. (x : Oref) → shares_write made.shares.items x ≡ last_of writes x)
    → (P → (x : Oref) → changed c x ≡ last_of writes x) → IfOk r (λ made. P → WritesShares made.shares.items c)
of_shares (Ok made) writes c P h w = λ p x. w p x ∙ sym (h x)
of_shares (Err e) writes c P h w = tt

-- ---- how far a try has come

pub at_between : (p : Phase) (c : Contents) → p ≡ phase.Between → PhaseWrites p c
at_between p c e = nothing_unsent p c (ap unsent e)

pub at_beginning : (p : Phase) (c : Contents) → p ≡ phase.Beginning → PhaseWrites p c
at_beginning p c e = nothing_unsent p c (ap unsent e)

pub evaluated_writes : (p : Phase) (t : Transaction) (c : Contents) → p ≡ phase.Evaluated t → PhaseWrites p c → WritesShares t.shares.items c
evaluated_writes p t c e w = w.all t.shares.items (ap unsent e)

pub drawn_writes : (p : Phase) (ts : Ts) (t : Transaction) (c : Contents) → p ≡ phase.Drawn ts t → PhaseWrites p c → WritesShares t.shares.items c
drawn_writes p ts t c e w = w.all t.shares.items (ap unsent e)

-- ---- behind a call

pub came_itself : (k : Came) (c : Contents) → CameStays k c c
came_itself came.Well c = λ x. refl
came_itself came.Anew c = tt
came_itself (came.Refused cause) c = tt
came_itself (came.Learnt learnt) c = λ x. refl

pub came_well : (k : Came) (c d : Contents) → k ≡ came.Well → CameStays k c d → WritesStay c d
came_well k c d e h = subst (λ (x : Came). CameStays x c d) e h

pub came_learnt : (k : Came) (l : Learnt) (c d : Contents) → k ≡ came.Learnt l → CameStays k c d → WritesStay c d
came_learnt k l c d e h = subst (λ (x : Came). CameStays x c d) e h

pub drew_ts : (k : Drew) (t : Ts) (c d : Contents) → k ≡ drew.Ts t → DrewStays k c d → WritesStay c d
drew_ts k t c d e h = subst (λ (x : Drew). DrewStays x c d) e h

pub drew_refused : (k : Drew) (came : Came) (c d : Contents) → k ≡ drew.Refused came → DrewStays k c d → CameStays came c d
drew_refused k came c d e h = subst (λ (x : Drew). DrewStays x c d) e h
