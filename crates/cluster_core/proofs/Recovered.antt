-- The log of a repository that was recovered says what is in memory, of its own format. A migration leaves all that a base says.
use Rattle.cluster_core.specs.Seated.{IsBegunBy}
use Rattle.disk_trait.specs.Disks.{Disks}
use Rattle.recovery.specs.Found.{recorded}
use Rattle.log_codec.specs.declared.state.State.{State}
use Rattle.recovery.specs.declared.recovered.Recovered.{Recovered}
use Rattle.repo_opening.specs.Recovered.{IsRecovered}
use Rattle.commit_log.specs.Holds.{Holds}
use Rattle.cluster_port.specs.Begun.{base_of, is_settled}
use Rattle.cluster_port.specs.Run.{Run}
use Rattle.repo_state.specs.declared.held.Held.{Held}
use Rattle.std.proofs.Common.{ap, subst, sym, ℕ, ◌∙◌, ◌≡◌}

pub recovered_says : (disks : Disks) (r : Recovered) → IsRecovered disks r → Holds disks r.log (recorded r)
recovered_says disks r is = subst (λ (s : State). Holds disks r.log s) is.said is.holds

base_same : (repos : ℕ) (h g : Held) → g ≡ record h { objects = g.objects; next_page = g.next_page } → g.objects.mob.limit ≡ h.objects.mob.limit → base_of repos g ≡ base_of repos h
base_same repos h g is limit = ap (λ (x : Held). base_of repos x) is ∙ ap (λ (n : ℕ). record (base_of repos h) { limit = n }) limit

settled_same : (number : ℕ) (h g : Held) → g ≡ record h { objects = g.objects; next_page = g.next_page } → is_settled number g ≡ is_settled number h
settled_same number h g is = ap (λ (x : Held). is_settled number x) is

pub begun_moved : (run : Run) (number repos : ℕ) (h g : Held) → g ≡ record h { objects = g.objects; next_page = g.next_page } → g.objects.mob.limit ≡ h.objects.mob.limit → IsBegunBy run repos number h → IsBegunBy run repos number g
begun_moved run number repos h g is limit begun = λ based. ((begun based).0 ∙ sym (base_same repos h g is limit), settled_same number h g is ∙ (begun based).1)
