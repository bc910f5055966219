-- The greatest timestamp that committed, beside upgrades.
use Rattle.log_entries.specs.declared.entry.Entry.{Entry}
use Rattle.log_entries.specs.declared.request.Kind.TheVariants.{App, Transform, Upgrade}
use Rattle.log_entries.specs.declared.request.Kind.{Kind}
use Rattle.log_entries.specs.declared.request.Request.{Request}
use Rattle.spec_history.proofs.Commits.{made_by_commits}
use Rattle.spec_history.proofs.Decided.{shifted}
use Rattle.spec_history.proofs.Listed.{commits_listed, some_and}
use Rattle.spec_history.proofs.Meeting.{bars-upgrade}
use Rattle.spec_history.proofs.Serial.{upgrades_fence}
use Rattle.spec_history.proofs.Settling.{same-ts}
use Rattle.spec_history.proofs.Stamps.{before_at_most, later_at_most}
use Rattle.spec_history.specs.History.{Aborted, Base, Committed, CommittedBelow, Fate, Known, Lives, Open, commits, known_by, state}
use Rattle.spec_history.specs.Laws.{BesideUpgrade, CommitsListed, MadeByCommits, UpgradesFence, with_stamps}
use Rattle.spec_history.specs.Requests.{is_upgrade, is_upgrade_kind, text_of}
use Rattle.spec_history.specs.Sound.{Accepts, sound}
use Rattle.commit_log.specs.Recovered.{texts_after, threshold_after}
use Rattle.std.proofs.Common.{List, [], ap, arith, inl, inr, refl, subst, sym, ℕ, ◌++◌, ◌≡◌, ◌∙◌, ◌∷◌}
use Rattle.std.proofs.lemmas.List.{append-nil}
use Rattle.std.proofs.lemmas.Option.{MatchOption-at_some, same_Some}
use Rattle.std.specs.Bool.{⊤}
use Rattle.std.specs.List.{Contains}
use Rattle.std.specs.Option.{IfSome}
use Rattle.std.specs.Ordering.{match_ordering, ordering_reverse}
use Rattle.std.specs.Prelude.{Some, false, true}
use Rattle.std.specs.declared.cmp.Ordering.TheVariants.{Equal, Greater, Less}
use Rattle.std.specs.declared.cmp.Ordering.{Ordering}
use Rattle.thor_value.proofs.NameOrders.{ts_total}
use Rattle.thor_value.specs.Names.{AtMost, later_of, ts_cmp}
use Rattle.thor_value.specs.declared.names.Ts.{Ts}

-- the later of two is the second where the first isn't above it
pub later-second : (t u : Ts) → AtMost t u → later_of t u ≡ u
later-second t u h = by (ts_cmp t u) refl
  where
    by : (o : Ordering) → ts_cmp t u ≡ o → match_ordering o u u t ≡ u
    by Less e = refl
    by Equal e = refl
    by Greater e = absurd (h (ts_total.antisymm u t ∙ ap ordering_reverse e))

stamps-at-most : (cs : List (ℕ × Request)) (t v : Ts) → AtMost t v → ((c : ℕ × Request) → Contains cs c → AtMost c.1.tx v) → AtMost (with_stamps t cs) v
stamps-at-most [] t v h each = h
stamps-at-most (c ∷ cs) t v h each = stamps-at-most cs (later_of t c.1.tx) v (later_at_most t c.1.tx v h (each c (0, omega arith, refl))) (λ d k. each d (shifted cs c d k))

module _ (b : Base) (H : List Entry) (sd : sound b H) where
  -- what isn't below the base's greatest timestamp, nor below a commit's, isn't below the greatest
  pub top-at-most : (v : Ts) → AtMost b.top v → ((t : Ts) (o : Known) (m : ℕ) → known_by b H t ≡ Some o → o.fate ≡ Committed m → AtMost t v) → AtMost (state b H).top v
  top-at-most v low each =
      let made : MadeByCommits b H = made_by_commits b H in
      let listed : CommitsListed b H = commits_listed b H sd in
      subst (λ u. AtMost u v) (sym made.top) (stamps-at-most (commits b H) b.top v low
      (λ c k. let x = some_and (known_by b H c.1.tx) _ (listed.stand c k) in each c.1.tx x.0 c.0 x.1 x.2.1))

  open_not_committed : {A : Type 0} (n : ℕ) (f : Fate) → f ≡ Open → CommittedBelow n f → A
  open_not_committed n Open e c = absurd c
  open_not_committed n (Committed at) e c = cc
  open_not_committed n Aborted e c = cc

  open_is_not : {A : Type 0} (m : ℕ) (f : Fate) → f ≡ Open → f ≡ Committed m → A
  open_is_not m f e k = let x : Open ≡ Committed m = sym e ∙ k in cc

  lives_if_open : (f : Fate) → f ≡ Open → Lives f
  lives_if_open f e = subst Lives (sym e) tt

  lives_if_committed : (m : ℕ) (f : Fate) → f ≡ Committed m → Lives f
  lives_if_committed m f e = subst Lives (sym e) tt

  -- an upgrade that is undecided isn't below a commit
  pub top-open : (u : Ts) (w : Known) → AtMost b.top u → known_by b H u ≡ Some w → w.fate ≡ Open → is_upgrade w.request ≡ true → AtMost (state b H).top u
  top-open u w low is at_first kind = top-at-most u low (λ t o m it fate. elim (same-ts t u) [
    | inl same ↦
        let one : o ≡ w = same_Some o w (sym it ∙ subst (λ v. known_by b H v ≡ Some w) (sym same) is) in
        open_is_not m w.fate at_first (sym (ap (λ (k : Known). k.fate) one) ∙ fate)
    | inr other ↦
        let beside : BesideUpgrade b H u t w o = record { upgrade = is; is = kind; there = it; other = other; upgrade_lives = lives_if_open w.fate at_first; other_lives = lives_if_committed m o.fate fate } in
        let fence : UpgradesFence b H = upgrades_fence b H sd in
        λ e. open_not_committed o.place w.fate at_first ((fence.after u t w o beside).0 e)
  ])

  -- nor is one that is accepted
  pub top-accepted : (q : Request) → AtMost b.top q.tx → is_upgrade q ≡ true → ((t : Ts) → IfSome (known_by b H t) (Accepts q t)) → AtMost (state b H).top q.tx
  top-accepted q low kind accepted = top-at-most q.tx low (λ t o m it fate.
      let a : Accepts q t o = MatchOption-at_some ⊤ (Accepts q t) o it (accepted t) in
      before_at_most t q.tx ((a (lives_if_committed m o.fate fate)).0 (bars-upgrade q o.request kind)).1)

-- ---- kinds

pub threshold-plain : (threshold : Ts) (k : Kind) (t : Ts) → is_upgrade_kind k ≡ false → threshold_after threshold k t ≡ later_of threshold t
threshold-plain threshold App t e = refl
threshold-plain threshold Transform t e = refl
threshold-plain threshold (Upgrade text) t e = cc

pub threshold-upgrade : (threshold : Ts) (k : Kind) (t : Ts) → is_upgrade_kind k ≡ true → threshold_after threshold k t ≡ t
threshold-upgrade threshold App t e = cc
threshold-upgrade threshold Transform t e = cc
threshold-upgrade threshold (Upgrade text) t e = refl

pub texts-behind : (texts : List (List ℕ)) (k : Kind) → texts_after texts k ≡ texts ++ text_of k
texts-behind texts App = sym (append-nil texts)
texts-behind texts Transform = sym (append-nil texts)
texts-behind texts (Upgrade text) = refl
