-- What waits for a session behind an item: what waited, and what it is sent. So the place at which a copy was right stays before
-- the pages that wait, while its client takes no message.
use Rattle.log_entries.specs.declared.request.Request.{Request}
use Rattle.spec_history.specs.History.{Base, State, commit_of, epoch_of}
use Rattle.spec_history.specs.Requests.{is_upgrade, written}
use Rattle.spec_trace.specs.Current.{IsBefore, NoPageWaits, is_taking}
use Rattle.spec_trace.specs.Session.{Grant, Notice, Page, Session, Upgrade, invalid_of, is_silent, move, moved, notice, or_retired, push, rested, retired, session_lives, taken_after, told_of}
use Rattle.spec_trace.specs.Trace.{E, Item, M}
use Rattle.spec_trace.specs.declared.mark.Mark.TheVariants as the
use Rattle.std.proofs.Common.{Bool, List, [], ap, cond, false, inl, inr, refl, subst, suc, sym, true, zero, ℕ, ◌+◌, ◌++◌, ◌≡◌, ◌≤◌, ◌∙◌, ◌∷◌}
use Rattle.std.specs.List.{filter, slice_get}
use Rattle.std.specs.Ordering.{nat_cmp}
use Rattle.std.specs.Prelude.{None, Option, Some, nat_eq, ◌⊎◌}
use Rattle.thor_value.specs.FiniteMap.{Map, has, keys}
use Rattle.thor_value.specs.declared.names.Oref.{Oref}

-- ---- what is sent

pub push-get : (sent : List Notice) (o : Option Notice) (i : ℕ) (m : Notice) → slice_get (push sent o) i ≡ Some m → (slice_get sent i ≡ Some m) ⊎ (o ≡ Some m)
push-get sent None i m h = inl h
push-get sent (Some n) i m h = by sent i h
  where
    by : (ms : List Notice) (i : ℕ) → slice_get (ms ++ n ∷ []) i ≡ Some m → (slice_get ms i ≡ Some m) ⊎ (Some n ≡ Some m)
    by [] zero e = inr e
    by [] (suc i) e = cc
    by (x ∷ xs) zero e = inl e
    by (x ∷ xs) (suc i) e = by xs i e

no-page-invalid : (names : List Oref) (k page at : ℕ) → invalid_of names k ≡ Some (Page page at) → ⊥
no-page-invalid [] k page at h = cc
no-page-invalid (x ∷ xs) k page at h = cc

pub no-page-told : (s : ℕ) (S : State) (pages : Map nat_cmp ℕ) (cs : List (ℕ × Request)) (page at : ℕ) → told_of s S pages cs ≡ Some (Page page at) → ⊥
no-page-told s S pages [] page at h = cc
no-page-told s S pages (c ∷ cs) page at h = by (is_upgrade c.1) (nat_eq c.1.session s) h
  where
    by : (u own : Bool) → cond u (Some (Upgrade (epoch_of S + 1) S.length)) (cond own None (invalid_of (filter (λ x. has pages x.page) (keys (written c.1))) S.length)) ≡ Some (Page page at) → ⊥
    by true own e = cc
    by false true e = cc
    by false false e = no-page-invalid (filter (λ x. has pages x.page) (keys (written c.1))) S.length page at e

-- whether the session fetches a page at the item
abbrev pub fetches : ℕ → Item → Bool
fetches s (M (the.Fetched n page upto)) = nat_eq n s
fetches s (M m) = false
fetches s (E e) = false

-- a page that is sent was fetched, and read at the end of the history
page-sent : (b : Base) (s : ℕ) (S : State) (pages : Map nat_cmp ℕ) (i : Item) (page k : ℕ) → notice b s S pages i ≡ Some (Page page k) → (S.length ≡ k) × (fetches s i ≡ true)
page-sent b s S pages (E e) page k h = absurd (no-page-told s S pages (commit_of b S e) page k h)
page-sent b s S pages (M (the.Fetched n p upto)) page k h = by (nat_eq n s) refl h
  where
    by : (t : Bool) → nat_eq n s ≡ t → cond t (Some (Page p S.length)) None ≡ Some (Page page k) → (S.length ≡ k) × (nat_eq n s ≡ true)
    by true own e = (cc, own)
    by false own e = cc
page-sent b s S pages (M (the.Granted n p)) page k h = by (nat_eq n s) h
  where
    by : (t : Bool) → cond t (Some (Grant p S.length)) None ≡ Some (Page page k) → (S.length ≡ k) × (false ≡ true)
    by true e = cc
    by false e = cc
page-sent b s S pages (M (the.Connected n c)) page k h = cc
page-sent b s S pages (M (the.Took n p)) page k h = cc
page-sent b s S pages (M (the.Drew n t)) page k h = cc
page-sent b s S pages (M (the.Forgot t)) page k h = cc
page-sent b s S pages (M (the.Refused n q r)) page k h = cc

-- ---- what is taken

pub no-taking : (s taken : ℕ) (i : Item) → is_taking s i ≡ false → taken_after s taken i ≡ taken
no-taking s taken (E e) h = refl
no-taking s taken (M (the.Took n k)) h = ap (λ (t : Bool). cond t (taken + 1) taken) h
no-taking s taken (M (the.Fetched n page upto)) h = refl
no-taking s taken (M (the.Granted n page)) h = refl
no-taking s taken (M (the.Connected n d)) h = refl
no-taking s taken (M (the.Drew n t)) h = refl
no-taking s taken (M (the.Forgot t)) h = refl
no-taking s taken (M (the.Refused n q r)) h = refl

module _ (b : Base) (s : ℕ) (S : State) (i : Item) (v : Session) where
  move-sent : (j : ℕ) (m : Notice) → slice_get (move b s S i v).sent j ≡ Some m → (slice_get v.sent j ≡ Some m) ⊎ (notice b s S v.pages i ≡ Some m)
  move-sent j m h = by (session_lives v) h
    where
      more : slice_get (push v.sent (notice b s S v.pages i)) j ≡ Some m → (slice_get v.sent j ≡ Some m) ⊎ (notice b s S v.pages i ≡ Some m)
      more e = push-get v.sent (notice b s S v.pages i) j m e

      quiet : (t : Bool) → slice_get (cond t (record (moved b s S v i) { stage = retired (moved b s S v i).stage }) (moved b s S v i)).sent j ≡ Some m → (slice_get v.sent j ≡ Some m) ⊎ (notice b s S v.pages i ≡ Some m)
      quiet true e = more e
      quiet false e = more e

      by : (t : Bool) → slice_get (cond t (or_retired b (moved b s S v i)) (rested v i)).sent j ≡ Some m → (slice_get v.sent j ≡ Some m) ⊎ (notice b s S v.pages i ≡ Some m)
      by true e = quiet (is_silent b.silence (moved b s S v i)) e
      by false e = inl e

  move-taken : is_taking s i ≡ false → (move b s S i v).taken ≡ v.taken
  move-taken h = by (session_lives v)
    where
      same : taken_after s v.taken i ≡ v.taken
      same = no-taking s v.taken i h

      quiet : (t : Bool) → (cond t (record (moved b s S v i) { stage = retired (moved b s S v i).stage }) (moved b s S v i)).taken ≡ v.taken
      quiet true = same
      quiet false = same

      by : (t : Bool) → (cond t (or_retired b (moved b s S v i)) (rested v i)).taken ≡ v.taken
      by true = quiet (is_silent b.silence (moved b s S v i))
      by false = refl

  -- a place of the history before the pages that wait stays so
  pub before-moved : (x : Oref) (n : ℕ) → is_taking s i ≡ false → n ≤ S.length → IsBefore v x n → IsBefore (move b s S i v) x n
  before-moved x n h there before j k le at = by (move-sent j (Page x.page k) at)
    where
      by : (slice_get v.sent j ≡ Some (Page x.page k)) ⊎ (notice b s S v.pages i ≡ Some (Page x.page k)) → n ≤ k
      by (inl sent) = before j k (subst (λ (z : ℕ). z ≤ j) (move-taken h) le) sent
      by (inr now) = subst (λ (z : ℕ). n ≤ z) (page-sent b s S v.pages i x.page k now).0 there

  -- and none waits where none did and none is fetched
  pub none-moved : (x : Oref) → is_taking s i ≡ false → fetches s i ≡ false → NoPageWaits v x → NoPageWaits (move b s S i v) x
  none-moved x h unasked none j k le at = by (move-sent j (Page x.page k) at)
    where
      by : (slice_get v.sent j ≡ Some (Page x.page k)) ⊎ (notice b s S v.pages i ≡ Some (Page x.page k)) → ⊥
      by (inl sent) = none j k (subst (λ (z : ℕ). z ≤ j) (move-taken h) le) sent
      by (inr now) = let e : false ≡ true = sym unasked ∙ (page-sent b s S v.pages i x.page k now).1 in cc
