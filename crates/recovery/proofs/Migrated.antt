-- A state whose pages are in its buffer.
use Rattle.std.proofs.Common.{◌≡◌, Bool, List, [], ◌∷◌, cond, false, not, refl, subst, sym, true, ℕ, ◌&&◌}
use Rattle.std.specs.List.{AllByRecursion, fold, list_all}
use Rattle.std.specs.Option.{is_some}
use Rattle.std.specs.Prelude.{IsTrue}
use Rattle.commit_log.specs.Recovered.{are_of, buffered, in_format, is_whole, request_at}
use Rattle.commit_log.specs.Values.{migrated}
use Rattle.log_codec.specs.Checkpoint.{StateFits}
use Rattle.log_codec.specs.declared.state.State.{State}
use Rattle.log_entries.specs.RequestForm.{WriteFits}
use Rattle.mob_buffer.specs.Buffer.{AreDistinct, AreOf, IsOf}
use Rattle.page_format.specs.declared.format.StoreFormat.TheVariants.{One, Two}
use Rattle.recovery.specs.Migrating.{IsMigrated}
use Rattle.recovery.specs.Paged.{ArePaged}
use Rattle.repo_state.proofs.Buffers.{distinct_new}
use Rattle.repo_state.proofs.Unfit.{writes_of}
use Rattle.repo_state.specs.Keeps.{Keeps}
use Rattle.repo_state.specs.Said.{said, spelled}
use Rattle.repo_state.specs.declared.held.Held.{Held}
use Rattle.thor_value.specs.Names.{same_oref}
use Rattle.thor_value.specs.declared.names.Oref.{Oref}
use Rattle.thor_value.specs.declared.values.Obj.{Obj}

-- ---- what holds of all objects holds of those that are put over one another

put_by : (P : Oref × Obj → Type 0) (b : Bool) (v w : Oref × Obj) (vs more : List (Oref × Obj)) → P v → P w → AllByRecursion P vs → AllByRecursion P more → AllByRecursion P (cond b (w ∷ vs) (v ∷ more))
put_by P true v w vs more first one all put = (one, all)
put_by P false v w vs more first one all put = (first, put)

one_put : (P : Oref × Obj → Type 0) (ms : List (Oref × Obj)) (w : Oref × Obj) → AllByRecursion P ms → P w → AllByRecursion P (buffered ms w)
one_put P [] w all one = (one, tt)
one_put P (v ∷ vs) w all one = put_by P (same_oref v.0 w.0) v w vs (buffered vs w) all.0 one all.1 (one_put P vs w all.1 one)

pub all_put : (P : Oref × Obj → Type 0) (ms ws : List (Oref × Obj)) → AllByRecursion P ms → AllByRecursion P ws → AllByRecursion P (fold buffered ms ws)
all_put P ms [] all more = all
all_put P ms (w ∷ ws) all more = all_put P (buffered ms w) ws (one_put P ms w all more.0) more.1

writes_fit : (repo : ℕ) (ws : List (Oref × Obj)) → AreOf repo ws → AllByRecursion WriteFits ws
writes_fit repo [] all = tt
writes_fit repo (w ∷ ws) all = ((all.0.name, all.0.object), writes_fit repo ws all.1)

-- ---- the state

-- it has a spelling
pub moved_fits : (s : State) (objects : List (Oref × Obj)) → StateFits s → AreOf s.repo objects → AreDistinct objects → StateFits (record s { format = Two; installed = []; mob = objects })
moved_fits s objects fits own distinct = record {
  life = fits.life;
  count = fits.count;
  threshold = fits.threshold;
  next_page = fits.next_page;
  roots = fits.roots;
  installed = record { rising = tt; each = tt };
  mob = writes_fit s.repo objects own;
  mob_distinct = distinct_new objects distinct;
  prepared = fits.prepared;
  prepared_rise = fits.prepared_rise;
  kept = fits.kept;
  kept_rise = fits.kept_rise;
  alone = fits.alone;
  alone_rise = fits.alone_rise;
}

-- a migration made it of what is in memory, with the next page that is granted next
pub moved_is : (h : Held) (disk : List ℕ) (paged : List (Oref × Obj)) → Keeps h → ArePaged One h.repo disk h.objects.pages.sides paged → IsMigrated (in_format One (said h)) disk (migrated paged (spelled h))
moved_is h disk paged keeps on_pages = record { objects = paged; paged = on_pages; next_page = keeps.next; is = refl }

-- all else is as it was
pub migrated_same : (h : Held) (paged : List (Oref × Obj)) (state : State) → state ≡ migrated paged (spelled h) → state ≡ record (spelled h) { installed = state.installed; mob = state.mob }
migrated_same h paged state is = subst (λ (s : State). s ≡ record (spelled h) { installed = s.installed; mob = s.mob }) (sym is) refl

-- objects that are put over others are of the repository of both
pub own_put : (repo : ℕ) (paged mob objects : List (Oref × Obj)) → objects ≡ fold buffered paged mob → AreOf repo paged → AreOf repo mob → AreOf repo objects
own_put repo paged mob objects is older newer = subst (AreOf repo) (sym is) (all_put (IsOf repo) paged mob older newer)

with_own : (a b c own : Bool) → own ≡ true → a && b && c ≡ true → own && b && c ≡ true
with_own true b c true is whole = whole
with_own false b c true is whole = cc
with_own a b c false is whole = cc

-- it is whole
pub moved_whole : (s : State) (objects : List (Oref × Obj)) → AreOf s.repo objects → IsTrue (is_whole s) → IsTrue (is_whole (record s { format = Two; installed = []; mob = objects }))
moved_whole s objects own whole = with_own (are_of s.repo s.mob) (list_all (λ q. are_of s.repo q.writes) s.prepared) (list_all (λ t. not (is_some (request_at s.prepared t))) s.kept) (are_of s.repo objects) (writes_of s.repo objects own) whole
