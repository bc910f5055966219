-- A disk fails in one of several calls.
use Rattle.disk_trait.proofs.Several.{goes_one, goes_then}
use Rattle.disk_trait.specs.AllDisks.{GoesOn, LeavesAll}
use Rattle.disk_trait.specs.Disks.{Disks, OnDisk, Rose}
use Rattle.disk_trait.specs.Fused.{armed, fell_of, fused_disks, parts_of}
use Rattle.disk_trait.specs.declared.fused.Fused.{Fused}
use Rattle.repo_durable.specs.Failing.{HasFailed, NoFewer, NoneFell}
use Rattle.repo_durable.specs.Kept.{disks_of, down, down_with, held_of, is_torn_in, lowered}
use Rattle.repo_durable.specs.declared.stable.Phase.TheVariants.{Down, Torn, Up}
use Rattle.repo_durable.specs.declared.stable.Phase.{Phase}
use Rattle.repo_durable.specs.declared.stable.Stable.{Stable}
use Rattle.page_store.specs.Store.{IsDamage}
use Rattle.std.proofs.lemmas.Bool.{cases_lt}
use Rattle.std.proofs.lemmas.List.Sums.{get_or-le-sum_by}
use Rattle.std.specs.List.{sum}
use Rattle.std.specs.Prelude.{slice_get}
use Rattle.std.proofs.Common.{Bool, IfSome, List, None, [], ap, arith, false, inl, inr, length, refl, slice_index, subst, suc, true, zero, ℕ, ◌<◌, ◌≤◌, ◌∙◌, ◌∷◌, ◌≡◌}

-- a disk failed behind calls
pub failed_behind : (old mid new : ℕ → ℕ) → NoFewer old mid → HasFailed mid new → HasFailed old new
failed_behind old mid new rises failed = record {
  disk = failed.disk;
  within = failed.within;
  rose = λ below. omega (arith, rises failed.disk, failed.rose below);
}

pub fewer_none : (old new : ℕ → ℕ) → ((d : ℕ) → new d ≡ old d) → NoFewer old new
fewer_none old new same d = omega (arith, same d)

pub fewer_then : (old mid new : ℕ → ℕ) → NoFewer old mid → NoFewer mid new → NoFewer old new
fewer_then old mid new first then d = omega (arith, first d, then d)

-- this disk failed
pub failed_on : (old new : Disks) (disk : ℕ) → disk < 3 → Rose (old.faults disk) (new.faults disk) → HasFailed old.faults new.faults
failed_on old new disk within rose = record { disk = disk; within = within; rose = rose }

-- calls and more of them, in which images are left
pub goes_run : (old mid new : Disks) (P Q : (ℕ → List ℕ) → Type 0) → LeavesAll old mid P → LeavesAll mid new Q → GoesOn old new
goes_run old mid new P Q first then = goes_then old mid new first.goes then.goes

-- a repository was taken down and its stop taken back: its disks are as they were
pub before_down : {P : Type 0} (disks : P → Disks) (old mid : Stable P) (parts : Fused P) (Q : Disks → Type 0) → parts ≡ armed old.parts 0 → mid ≡ down (record old { parts = parts }) → Q (disks_of disks mid) → Q (disks_of disks old)
before_down {P = P} disks old mid parts Q same is holds =
    subst (λ (p : Fused P). Q (fused_disks disks p)) same (subst (λ (s : Stable P). Q (disks_of disks s)) is holds)

torn_stays : (p : Phase) → is_torn_in p ≡ true → lowered p ≡ p
torn_stays (Up log) torn = absurd (cc)
torn_stays (Down e) torn = refl
torn_stays (Torn e) torn = refl

-- one that is torn stays so, with its stop taken back
pub stays_torn : {P : Type 0} (old mid : Stable P) (parts : Fused P) → parts ≡ armed old.parts 0 → mid ≡ down (record old { parts = parts }) → is_torn_in old.phase ≡ true → mid ≡ record old { parts = armed old.parts 0 }
stays_torn {P = P} old mid parts same is torn =
    is ∙ (ap (λ (p : Phase). record old { parts = parts; phase = p }) (torn_stays old.phase torn) ∙ ap (λ (p : Fused P). record old { parts = p }) same)

torn_down : (p : Phase) → is_torn_in p ≡ true → is_torn_in (lowered p) ≡ true
torn_down (Up log) torn = absurd (cc)
torn_down (Down e) torn = absurd (cc)
torn_down (Torn e) torn = refl

-- and what isn't torn behind that wasn't
pub not_torn : {P : Type 0} (old mid : Stable P) (parts : Fused P) → mid ≡ down (record old { parts = parts }) → is_torn_in mid.phase ≡ false → is_torn_in old.phase ≡ true → ⊥
not_torn {P = P} old mid parts is whole torn = never (is_torn_in (lowered old.phase)) (torn_down old.phase torn) (subst (λ (s : Stable P). is_torn_in s.phase ≡ false) is whole)
  where
    never : (b : Bool) → b ≡ true → b ≡ false → ⊥
    never b t f = cc

-- damage that stops a flush was damage before the log was taken out
pub damage_taken : {P : Type 0} (disks : P → Disks) (old mid : Stable P) (place : ℕ) → mid ≡ down_with old None → IfSome (slice_get (held_of mid).objects.mob.objects 0) (λ q. IsDamage (disks_of disks mid) (held_of mid).objects.pages.sides q.0.page place)
    → IfSome (slice_get (held_of old).objects.mob.objects 0) (λ q. IsDamage (disks_of disks old) (held_of old).objects.pages.sides q.0.page place)
damage_taken {P = P} disks old mid place same damage =
    subst (λ (s : Stable P). IfSome (slice_get (held_of s).objects.mob.objects 0) (λ q. IsDamage (disks_of disks s) (held_of s).objects.pages.sides q.0.page place)) same damage

-- ---- counts that stand still aside

pub fell_none : (counts : ℕ → ℕ) → NoneFell counts counts
fell_none counts = record { each = λ d within small. omega arith }

pub fell_fewer : (old new : ℕ → ℕ) → NoFewer old new → NoneFell old new
fell_fewer old new rises = record { each = λ d within small. rises d }

pub fell_then : (old mid new : ℕ → ℕ) → NoneFell old mid → NoneFell mid new → NoneFell old new
fell_then old mid new first then = record {
  each = λ d within small.
      let after = then.each d within small in
      let before = first.each d within (omega (arith, after, small)) in
      omega (arith, before, after);
}

-- a disk failed behind calls in which none fell, and before such
pub failed_after : (old mid new : ℕ → ℕ) → NoneFell old mid → HasFailed mid new → HasFailed old new
failed_after old mid new first failed = record {
  disk = failed.disk;
  within = failed.within;
  rose = λ small.
      let rose = failed.rose small in
      let before = first.each failed.disk failed.within (omega (arith, rose, small)) in
      omega (arith, before, rose);
}

pub failed_before : (old mid new : ℕ → ℕ) → HasFailed old mid → NoneFell mid new → HasFailed old new
failed_before old mid new failed then = record {
  disk = failed.disk;
  within = failed.within;
  rose = λ small.
      let after = then.each failed.disk failed.within small in
      let rose = failed.rose (omega (arith, after, small)) in
      omega (arith, rose, after);
}

-- ---- parts that carry a stop

-- its falls are counted with the faults
pub fell_fused : {P : Type 0} (disks : P → Disks) (parts : P) (fused : Fused P) → parts_of fused ≡ parts → NoneFell (disks parts).faults (fused_disks disks fused).faults
fell_fused {P = P} disks parts fused same = subst (λ (p : P). NoneFell (disks p).faults (fused_disks disks fused).faults) same (record { each = λ d within small. omega (arith, small) })

past : (falls : List ℕ) (d : ℕ) → length falls ≤ d → slice_index falls d ≡ 0
past [] d out = refl
past (n ∷ falls) zero out = absurd (omega (arith, out))
past (n ∷ falls) (suc d) out = past falls d (omega (arith, out))

none_of : (falls : List ℕ) (d : ℕ) → sum falls ≡ 0 → slice_index falls d ≡ 0
none_of falls d none = elim (cases_lt d (length falls)) [
  | inl within ↦ (let least : slice_index falls d ≤ sum falls = get_or-le-sum_by (λ n. n) falls d 0 within in omega (arith, least, none))
  | inr out ↦ past falls d out
]

-- where it never fell, they are those of the parts
pub fell_inside : {P : Type 0} (disks : P → Disks) (fused : Fused P) → fell_of fused ≡ 0 → NoneFell (fused_disks disks fused).faults (disks (parts_of fused)).faults
fell_inside disks fused never = record {
  each = λ d within small.
      let none = none_of fused.fuse.falls d (omega (arith, never)) in
      omega (arith, none);
}

-- calls on one disk
pub fell_alone : (old new : Disks) (disk : ℕ) → OnDisk old new disk → NoneFell old.faults new.faults
fell_alone old new disk alone = fell_fewer old.faults new.faults (goes_one old new disk alone).faults
