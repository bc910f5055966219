-- What a transaction created isn't there at its turn, and each transaction is before or behind an upgrade
-- alike at all repositories.
use Rattle.law_atomic_commit.proofs.Parts.{part_lives}
use Rattle.law_atomic_commit.specs.Several.{AreSound, IsAtomic, Several, part}
use Rattle.spec_history.proofs.Prefixes.{judged}
use Rattle.spec_history.proofs.Serial.{upgrades_fence}
use Rattle.spec_history.specs.History.{CommittedBelow, Known, Lives, objects_at}
use Rattle.spec_history.specs.Requests.{has_created, has_written}
use Rattle.std.proofs.Common.{sym, true, ℕ, ◌++◌, ◌≡◌, ◌∙◌, ◌∷◌}
use Rattle.std.specs.Prelude.{None, Some, ◌↔◌}
use Rattle.thor_value.specs.FiniteMap.{get}
use Rattle.thor_value.specs.Names.{Before}
use Rattle.thor_value.specs.declared.names.Oref.{Oref}
use Rattle.law_global_order.proofs.Lists.{Es, Lists}
use Rattle.law_global_order.proofs.Turns.{below_committed, committed_lives, committed_there, joined_at_turn}
use Rattle.law_global_order.specs.Turns.{UpgradesAgree}
use Rattle.law_global_order.specs.Whole.{Commit, stored}

module _ (S : Several) (at : IsAtomic S) (sd : AreSound S) where
  pub fresh-at-turn : (done rest : Es) (e : Commit) → Lists S (done ++ e ∷ rest) → (r : ℕ) (o : Known) (x : Oref) → part S r e.0 ≡ Some o
      → has_created o.request x ≡ true → has_written o.request x ≡ true → get (objects_at (S.base r) (S.history r) o.place) x ≡ None → get (stored S done r) x ≡ None
  fresh-at-turn done rest e c r o x is fresh wrote none =
      joined_at_turn S at sd done rest e c r o x is ((judged (S.base r) (S.history r) (sd.each r) e.0 o is).vouched.within x wrote)
      ∙ none

  pub upgrades-agree : UpgradesAgree S
  upgrades-agree r t u w o v h is it other up = (
    (λ c. let lives = below-lives v c in
        let k = committed_there S at r u v it (below_committed o.place v.fate c) in
        (k.0, k.1, (fence lives).1 c)),
    (λ k. (fence (part_lives S at r u k.0 v k.1 it)).0 k.2),
  )
    where
      below-lives : (v : Known) → CommittedBelow o.place v.fate → Lives v.fate
      below-lives v c = committed_lives v.fate (below_committed o.place v.fate c)

      fence : Lives v.fate → Before u t ↔ CommittedBelow o.place v.fate
      fence lives = (upgrades_fence (S.base r) (S.history r) (sd.each r)).after u t v o (record { upgrade = it; is = up; there = is; other = λ e. other (sym e); upgrade_lives = lives; other_lives = part_lives S at r t w o h is })
