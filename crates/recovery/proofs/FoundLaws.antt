-- What is recovered, by the log that was found.
use Rattle.std.proofs.Common.{◌≡◌, [], List, None, Ok, Err, Option, Result, Some, ap, false, inr, refl, subst, sym, IfOk, IfSome, ℕ, ◌∙◌}
use Rattle.std.specs.Option.{IsSome, option_and_then, option_map, option_map_or}
use Rattle.disk_trait.specs.Disks.{Disks}
use Rattle.repo_state.specs.Keeps.{IsUnread, Keeps}
use Rattle.log_codec.specs.declared.state.State.{State}
use Rattle.log_frame.specs.Log.{Opened, Place, Stands}
use Rattle.page_format.specs.Pages.{Contents}
use Rattle.page_store.specs.Sides.{ReachesSides}
use Rattle.page_store.specs.Store.{Agrees, Store, page_in}
use Rattle.recovery.specs.Damage.{Fault, IsDamaged}
use Rattle.recovery.specs.Found.{IsRecovered, recorded}
use Rattle.recovery.specs.Reopening.{reopens, reopens_in}
use Rattle.recovery.specs.declared.fault.RecoverFault.{RecoverFault}
use Rattle.recovery.specs.declared.recovered.Recovered.{Recovered}
use Rattle.commit_log.specs.Holds.{Holds}
use Rattle.commit_log.specs.Opening.{Found, log_of}
use Rattle.commit_log.specs.Recovered.{log_in, stands, state_in}

pub if_ok : {T E : Type 0} (A B : T → Type 0) (r : Result T E) → ((x : T) → A x → B x) → IfOk r A → IfOk r B
if_ok A B (Ok x) f p = f x p
if_ok A B (Err e) f p = tt

pub recovered_keeps : (found : Option Found) (r : Option Recovered) → IsRecovered found r → IfSome r (λ x. Keeps x.state)
recovered_keeps None None is = tt
recovered_keeps None (Some x) is = absurd is
recovered_keeps (Some f) None is = absurd is
recovered_keeps (Some f) (Some x) is = is.2

pub recovered_holds : (disks : Disks) (found : Option Found) (r : Option Recovered) → IsRecovered found r → ((s : State) → IfSome found (λ f. state_in (log_of f) ≡ Some s → Holds disks f.0 s)) → IfSome r (λ x. Holds disks x.log (recorded x))
recovered_holds disks None None is holds = tt
recovered_holds disks None (Some x) is holds = absurd is
recovered_holds disks (Some f) None is holds = absurd is
recovered_holds disks (Some f) (Some x) is holds = subst (λ (p : Place). Holds disks p (recorded x)) (sym is.0) (holds (recorded x) is.1)

pub recovered_stands : (images : ℕ → List ℕ) (found : Option Found) (r : Option Recovered) → IsRecovered found r → stands images ≡ option_and_then (λ f. state_in (log_of f)) found → stands images ≡ option_map recorded r
recovered_stands images None None is stood = stood
recovered_stands images None (Some x) is stood = absurd is
recovered_stands images (Some f) None is stood = absurd is
recovered_stands images (Some f) (Some x) is stood = stood ∙ is.1

-- whether its records prepare what is decided
pub recovered_reopens : (images : ℕ → List ℕ) (found : Option Found) (r : Option Recovered) → IsRecovered found r → log_in images ≡ option_map log_of found → IfSome r (λ x. x.reopens ≡ reopens images)
recovered_reopens images None None is counts = tt
recovered_reopens images None (Some x) is counts = absurd is
recovered_reopens images (Some f) None is counts = absurd is
recovered_reopens images (Some f) (Some x) is counts = is.5 ∙ ap (λ (o : Option Opened). option_map_or reopens_in o false) (sym counts)

pub found_none : (found : Option Found) (r : Result (Option Recovered) RecoverFault) → IfOk r (IsRecovered found) → r ≡ Ok None → found ≡ None
found_none None r is none = refl
found_none (Some f) r is none = absurd (subst (λ (q : Result (Option Recovered) RecoverFault). IfOk q (IsRecovered (Some f))) none is)

pub inner_damaged : (images : ℕ → List ℕ) (found : Option Found) (d place : ℕ) → IfSome found (λ f. (d ≡ f.0.disk) × Fault (log_of f) place) → IsSome found → IfSome found (λ f. Stands (images f.0.disk) (log_of f)) → IsDamaged images d place
inner_damaged images None d place fault there stood = cc
inner_damaged images (Some f) d place fault there stood = inr (log_of f, (subst (λ (n : ℕ). Stands (images n) (log_of f)) (sym fault.0) stood, fault.1))

-- pages that were not read agree with each disk that has their sides
pub unread_agree : (pages : Store) → IsUnread pages → (disk : List ℕ) → ReachesSides pages.sides disk → Agrees pages disk
unread_agree pages unread disk reaches = record {
  reaches = reaches;
  held = λ page contents is. (let none : page_in [] page ≡ Some contents = subst (λ (held : List (ℕ × Option Contents)). page_in held page ≡ Some contents) unread.none_held is in cc);
  staged = λ page side is. (let none : None ≡ Some (page, side) = sym unread.none_staged ∙ is in cc);
}

pub recovered_pages : (found : Option Found) (r : Option Recovered) → IsRecovered found r → IfSome r (λ x. (disk : List ℕ) → ReachesSides x.state.objects.pages.sides disk → Agrees x.state.objects.pages disk)
recovered_pages None None is = tt
recovered_pages None (Some x) is = absurd is
recovered_pages (Some f) None is = absurd is
recovered_pages (Some f) (Some x) is = unread_agree x.state.objects.pages is.3
