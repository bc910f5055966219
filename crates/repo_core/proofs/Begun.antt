-- A repository behind the Life of its opening.
use Rattle.class_defs.specs.declared.store.Setup.{Setup}
use Rattle.log_entries.specs.declared.entry.Entry.TheVariants.{Life}
use Rattle.repo_state.specs.Entering.{entered}
use Rattle.repo_state.specs.declared.held.Held.{Held}
use Rattle.repo_sessions.specs.Sessions.{Kept, ended, no_sessions}
use Rattle.repo_core.specs.Restarting.{Begins, life_behind, memory_at}
use Rattle.repo_core.specs.Shown.{Shown}
use Rattle.law_repo_memory.specs.Coming.{BeginsLife}
use Rattle.std.proofs.Common.{List, Option, Some, ap, subst, sym, ℕ, ◌+◌, ◌∙◌, ◌≡◌}
use Rattle.repo_format.specs.Pages.{HasRoots}
use Rattle.thor_value.specs.FiniteMap.{Set, empty}
use Rattle.thor_value.specs.Names.{ts_cmp}
use Rattle.thor_value.specs.declared.names.Ts.{Ts}
use Rattle.validation_queue.specs.Contents.{Contents, cleared}
use Rattle.repo_volatile.specs.Volatile.{Memory}

abbrev memory_of : Contents → Kept → Set ts_cmp → ℕ → Memory
memory_of queue sessions requested drawn = record { queue = queue; sessions = sessions; requested = requested; drawn = drawn }

pub memory_is : (M : Memory) (t : Ts) → M.queue ≡ cleared t → M.sessions ≡ no_sessions → M.requested ≡ empty → M.drawn ≡ t.time → M ≡ memory_at t
memory_is M t q s r d =
    ap (λ (a : Contents). memory_of a M.sessions M.requested M.drawn) q
    ∙ (ap (λ (a : Kept). memory_of (cleared t) a M.requested M.drawn) s
    ∙ (ap (λ (a : Set ts_cmp). memory_of (cleared t) no_sessions a M.drawn) r
    ∙ ap (λ (a : ℕ). memory_of (cleared t) no_sessions empty a) d))

pub begins_so : (h : Held) (x y : Shown) → x.opened_in ≡ h.life + 1 → x.held ≡ h → x.memory ≡ memory_at h.threshold → y.opened_in ≡ x.opened_in → y.held ≡ entered x.held (life_behind x) → BeginsLife x.held x.memory y.memory → y.memory.sessions ≡ ended x.memory.sessions → Begins h y
begins_so h x y opened held memory opens enters begins ends = record {
  opened = opens ∙ opened;
  held = enters ∙ ap (λ (g : Held). entered g (Life (g.life + 1))) held;
  memory = subst (λ (m : Memory). BeginsLife h m y.memory) memory (subst (λ (g : Held). BeginsLife g x.memory y.memory) held begins);
  sessions = ends ∙ ap (λ (m : Memory). ended m.sessions) memory;
}

-- the roots of a new store stand on its pages behind its first Life, too
pub roots_begun : (repo : ℕ) (setup : Setup) (h : Held) (pages : Option (List ℕ)) (x : Shown) → ((disk : List ℕ) → pages ≡ Some disk → HasRoots repo setup h.objects.pages.sides disk) → Begins h x → x.pages ≡ pages → (disk : List ℕ) → x.pages ≡ Some disk → HasRoots repo setup x.held.objects.pages.sides disk
roots_begun repo setup h pages x roots begins same disk told = subst (λ (g : Held). HasRoots repo setup g.objects.pages.sides disk) (sym begins.held) (roots disk (sym same ∙ told))
