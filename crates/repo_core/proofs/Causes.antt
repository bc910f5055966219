-- Why calls are refused.
use Rattle.log_entries.specs.declared.entry.Entry.{Entry}
use Rattle.repo_core.proofs.Refused.{if_err_on, no_fault}
use Rattle.repo_core.specs.Behind.{is_marked}
use Rattle.repo_core.specs.Refusing.{CanRefuse}
use Rattle.repo_core.specs.Shown.{Shown}
use Rattle.base_reasons.specs.declared.reason.Reason.TheVariants.{Gone}
use Rattle.base_reasons.specs.declared.reason.Reason.{Reason}
use Rattle.repo_durable.specs.Kept.{StandsAfter, held_of, is_fault, is_up, repo_named}
use Rattle.repo_durable.specs.declared.stable.Stable.{Stable}
use Rattle.std.proofs.Common.{Err, Ok, Option, Result, ap, false, refl, subst, sym, true, ℕ, ◌∙◌, ◌≡◌}
use Rattle.std.specs.Prelude.{IfErr}
use Rattle.repo_refusals.specs.declared.refusal.Refusal.TheVariants as refused
use Rattle.repo_refusals.specs.declared.refusal.Refusal.{Refusal}

-- it is down
pub why_down : (x : Shown) (A : Refusal → Type 0) (D : Type 0) (r : Refusal) → r ≡ refused.Down x.held.repo → x.is_up ≡ false → CanRefuse x A D r
why_down x A D r is down = record {
  down = λ n e. (down, same n (sym is ∙ e));
  reason = λ q e. absurd (no_reason q (sym is ∙ e));
  stopped = λ n e. absurd (no_fault true (ap is_fault (sym e ∙ is)) refl);
  damaged = λ n place e. absurd (no_fault true (ap is_fault (sym e ∙ is)) refl);
  memory = λ e. absurd (no_fault true (ap is_fault (sym e ∙ is)) refl);
}
  where
    same : (n : ℕ) → refused.Down x.held.repo ≡ refused.Down n → n ≡ x.held.repo
    same n e = cc

    no_reason : (q : Reason) → refused.Down x.held.repo ≡ refused.Reason q → ⊥
    no_reason q e = cc

-- a reason stands against it
pub why_reason : (x : Shown) (A : Refusal → Type 0) (D : Type 0) (q : Reason) (r : Refusal) → r ≡ refused.Reason q → x.is_up ≡ true → A r → CanRefuse x A D r
why_reason x A D q r is up stands = record {
  down = λ n e. absurd (no_down n (sym is ∙ e));
  reason = λ p e. (up, stands);
  stopped = λ n e. absurd (no_fault true (ap is_fault (sym e ∙ is)) refl);
  damaged = λ n place e. absurd (no_fault true (ap is_fault (sym e ∙ is)) refl);
  memory = λ e. up;
}
  where
    no_down : (n : ℕ) → refused.Reason q ≡ refused.Down n → ⊥
    no_down n e = cc

-- a disk was called, or memory was not there
pub why_fault : (x : Shown) (A : Refusal → Type 0) (D : Type 0) (r : Refusal) → is_fault r ≡ true → repo_named x.held.repo r ≡ x.held.repo → x.is_up ≡ true → D → CanRefuse x A D r
why_fault x A D r is names up calls = record {
  down = λ n e. absurd (no_fault (is_fault r) (ap is_fault e) is);
  reason = λ q e. absurd (no_fault (is_fault r) (ap is_fault e) is);
  stopped = λ n e. (up, calls, sym (ap (repo_named x.held.repo) e) ∙ names);
  damaged = λ n place e. (up, calls, sym (ap (repo_named x.held.repo) e) ∙ names);
  memory = λ e. up;
}

-- memory was not there
pub why_memory : (x : Shown) (A : Refusal → Type 0) (D : Type 0) (r : Refusal) → r ≡ refused.NoMemory → x.is_up ≡ true → CanRefuse x A D r
why_memory x A D r is up = record {
  down = λ n e. absurd (no_down n (sym is ∙ e));
  reason = λ q e. absurd (no_reason q (sym is ∙ e));
  stopped = λ n e. absurd (no_stop n (sym is ∙ e));
  damaged = λ n place e. absurd (no_damage n place (sym is ∙ e));
  memory = λ e. up;
}
  where
    no_down : (n : ℕ) → refused.NoMemory ≡ refused.Down n → ⊥
    no_down n e = cc

    no_reason : (q : Reason) → refused.NoMemory ≡ refused.Reason q → ⊥
    no_reason q e = cc

    no_stop : (n : ℕ) → refused.NoMemory ≡ refused.Stopped n → ⊥
    no_stop n e = cc

    no_damage : (n place : ℕ) → refused.NoMemory ≡ refused.Damaged n place → ⊥
    no_damage n place e = cc

-- what is told with a mark stood against it; without one memory was not there
pub why_marked : (x : Shown) (A : Refusal → Type 0) (D : Type 0) (r s : Refusal) → x.is_up ≡ true → (is_marked r ≡ true → r ≡ s) → (is_marked r ≡ false → r ≡ refused.NoMemory) → A s → CanRefuse x A D r
why_marked x A D (refused.Reason q) s up same other stands = why_reason x A D q (refused.Reason q) refl up (subst A (sym (same refl)) stands)
why_marked x A D (refused.Down n) s up same other stands = why_memory x A D (refused.Down n) (other refl) up
why_marked x A D (refused.Stopped n) s up same other stands = why_memory x A D (refused.Stopped n) (other refl) up
why_marked x A D (refused.Damaged n place) s up same other stands = why_memory x A D (refused.Damaged n place) (other refl) up
why_marked x A D refused.NoMemory s up same other stands = why_memory x A D refused.NoMemory refl up

-- a call of the store was refused
pub why_after : {P : Type 0} (old new : Stable P) (x : Shown) (A : Refusal → Type 0) (D : Type 0) (e : Option Entry) (r : Refusal) → is_up old ≡ x.is_up → (held_of old).repo ≡ x.held.repo → StandsAfter old new e r → repo_named (held_of old).repo r ≡ (held_of old).repo → D → CanRefuse x A D r
why_after old new x A D e (refused.Down n) up repo (down, same) names calls = why_down x A D (refused.Down n) (ap refused.Down (names ∙ repo)) (sym up ∙ down)
why_after old new x A D e (refused.Stopped n) up repo falls names calls = why_fault x A D (refused.Stopped n) refl (names ∙ repo) (sym up ∙ falls.was_up) calls
why_after old new x A D e (refused.Damaged n place) up repo falls names calls = why_fault x A D (refused.Damaged n place) refl (names ∙ repo) (sym up ∙ falls.was_up) calls
why_after old new x A D e refused.NoMemory up repo falls names calls = why_memory x A D refused.NoMemory refl (sym up ∙ falls.was_up)
why_after old new x A D e (refused.Reason q) up repo falls names calls = absurd falls

-- ---- the same of what a call answers

pub lacks_memory : {T : Type 0} (result : Result T Refusal) (x : Shown) (A : Refusal → Type 0) (D : Type 0) → IfErr result (λ r. r ≡ refused.NoMemory) → x.is_up ≡ true → IfErr result (CanRefuse x A D)
lacks_memory result x A D lacks up = if_err_on result (λ r. r ≡ refused.NoMemory) (CanRefuse x A D) (λ r is. why_memory x A D r is up) lacks

pub has_fault : {T : Type 0} (result : Result T Refusal) (x : Shown) (n : ℕ) (A : Refusal → Type 0) (D : Type 0) → IfErr result (λ r. (is_fault r ≡ true) × (is_marked r ≡ false)) → IfErr result (λ r. repo_named n r ≡ n) → n ≡ x.held.repo → x.is_up ≡ true → D → IfErr result (CanRefuse x A D)
has_fault (Ok t) x n A D fault names repo up calls = tt
has_fault (Err r) x n A D fault names repo up calls = why_fault x A D r fault.0 (subst (λ (m : ℕ). repo_named m r ≡ m) repo names) up calls

pub stands_refused : {T P : Type 0} (result : Result T Refusal) (old new : Stable P) (x : Shown) (A : Refusal → Type 0) (D : Type 0) (e : Option Entry) → is_up old ≡ x.is_up → (held_of old).repo ≡ x.held.repo → IfErr result (StandsAfter old new e) → IfErr result (λ r. repo_named (held_of old).repo r ≡ (held_of old).repo) → D → IfErr result (CanRefuse x A D)
stands_refused (Ok t) old new x A D e up repo stands names calls = tt
stands_refused (Err r) old new x A D e up repo stands names calls = why_after old new x A D e r up repo stands names calls

-- ---- what is damaged was read before an entry was written

pub damaged_none : (r : Refusal) (n place k : ℕ) (G : Type 0) → r ≡ refused.Down k → r ≡ refused.Damaged n place → G
damaged_none r n place k G is damaged = absurd (never (sym damaged ∙ is))
  where
    never : refused.Damaged n place ≡ refused.Down k → ⊥
    never e = no_fault true (ap is_fault e) refl

pub damaged_gone : (r : Refusal) (n place s : ℕ) (G : Type 0) → r ≡ refused.Reason (Gone s) → r ≡ refused.Damaged n place → G
damaged_gone r n place s G is damaged = absurd (never (sym damaged ∙ is))
  where
    never : refused.Damaged n place ≡ refused.Reason (Gone s) → ⊥
    never e = no_fault true (ap is_fault e) refl

pub damaged_marked : (r s : Refusal) (n place : ℕ) (G : Type 0) → is_marked s ≡ true → (is_marked r ≡ true → r ≡ s) → (is_marked r ≡ false → r ≡ refused.NoMemory) → r ≡ refused.Damaged n place → G
damaged_marked r s n place G marked same other is = absurd (never (sym is ∙ other (ap is_marked is)))
  where
    never : refused.Damaged n place ≡ refused.NoMemory → ⊥
    never e = cc
