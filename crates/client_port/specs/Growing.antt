-- How the traces that a client sees grow while it makes no call there.
use Rattle.log_entries.specs.declared.entry.Entry.TheVariants.{Decided, Finished, Life, One, Prepared, Upgraded}
use Rattle.log_entries.specs.declared.entry.Entry.{Entry}
use Rattle.spec_history.specs.History.{Base}
use Rattle.client_port.specs.Views.{Calm, Halted, MayCome, Unsettled, View}
use Rattle.spec_trace.specs.Gaps.{maker}
use Rattle.spec_trace.specs.Trace.{E, Item, M}
use Rattle.std.specs.Prelude.{List, Some, [], true, ℕ, ◌++◌, ◌∷◌, ◌≡◌, ◌≢◌, ◌⊎◌}

-- An entry d that comes behind T where the client's own e may still come: it is that one, or another's.
abbrev pub ComesDown : Base → ℕ → Entry → List Item → Entry → Unsettled → Type 0
ComesDown b c e T d u = ((d ≡ e) × (u ≡ Halted)) ⊎ ((maker b T (E d) ≢ Some c) × (u ≡ MayCome e))

-- an item of another's, which leaves what is unsettled
abbrev pub ComesBeside : Base → ℕ → List Item → Item → Unsettled → Unsettled → Type 0
ComesBeside b c T i w u = (maker b T i ≢ Some c) × (u ≡ w)

-- One more item behind T while the client c makes no call there, and what of c's is unsettled before and after. Before a Life
-- nothing of c's comes where the repository is down, but the one entry of an own call that stopped.
abbrev pub Gains : Base → ℕ → Unsettled → List Item → Item → Unsettled → Type 0
Gains b c Calm T i u = ComesBeside b c T i Calm u
Gains b c (MayCome e) T (M m) u = ComesBeside b c T (M m) (MayCome e) u
Gains b c (MayCome e) T (E (Life n)) u = u ≡ Calm
Gains b c (MayCome e) T (E (One q)) u = ComesDown b c e T (One q) u
Gains b c (MayCome e) T (E (Prepared q)) u = ComesDown b c e T (Prepared q) u
Gains b c (MayCome e) T (E (Decided t k)) u = ComesDown b c e T (Decided t k) u
Gains b c (MayCome e) T (E (Finished t k)) u = ComesDown b c e T (Finished t k) u
Gains b c (MayCome e) T (E (Upgraded q)) u = ComesDown b c e T (Upgraded q) u
Gains b c Halted T (M m) u = ComesBeside b c T (M m) Halted u
Gains b c Halted T (E (Life n)) u = u ≡ Calm
Gains b c Halted T (E (One q)) u = ComesBeside b c T (E (One q)) Halted u
Gains b c Halted T (E (Prepared q)) u = ComesBeside b c T (E (Prepared q)) Halted u
Gains b c Halted T (E (Decided t k)) u = ComesBeside b c T (E (Decided t k)) Halted u
Gains b c Halted T (E (Finished t k)) u = ComesBeside b c T (E (Finished t k)) Halted u
Gains b c Halted T (E (Upgraded q)) u = ComesBeside b c T (E (Upgraded q)) Halted u

-- What is unsettled where nothing comes: that stays, another's call may stop the repository, and a restart that fails may have
-- lost the entry that was being written.
abbrev pub MayHalt : Unsettled → Unsettled → Type 0
MayHalt Calm Calm = Unit {0}
MayHalt Calm Halted = Unit {0}
MayHalt Calm (MayCome e) = ⊥
MayHalt (MayCome e) Calm = ⊥
MayHalt (MayCome e) (MayCome d) = d ≡ e
MayHalt (MayCome e) Halted = Unit {0}
MayHalt Halted Calm = ⊥
MayHalt Halted (MayCome e) = ⊥
MayHalt Halted Halted = Unit {0}

-- the same of several items
abbrev pub GainsAll : Base → ℕ → Unsettled → List Item → List Item → Unsettled → Type 0
GainsAll b c u T [] w = MayHalt u w
GainsAll b c u T (i ∷ is) w = (v : Unsettled) × Gains b c u T i v × GainsAll b c v (T ++ i ∷ []) is w

-- A trace T with what is unsettled, u, became S with w, while the client c made no call there.
pub record Grew (b : Base) (c : ℕ) (u : Unsettled) (T : List Item) (w : Unsettled) (S : List Item) : Type 0 where
  pub gap : List Item
  pub gains : GainsAll b c u T gap w
  pub ends : S ≡ T ++ gap

-- What a call on the repository r met there, and what became of the others. `at` is the trace at the call,
-- and `met` what was unsettled then.
pub record Called (old new : View) (r : ℕ) (at : List Item) (met : Unsettled) : Type 0 where
  pub same : new.opened ≡ old.opened
  pub reached : Grew (old.opened.base r) old.opened.client (old.unsettled r) (old.seen r) met at
  pub others : (n : ℕ) → n ≢ r → Grew (old.opened.base n) old.opened.client (old.unsettled n) (old.seen n) (new.unsettled n) (new.seen n)
  -- where nobody else acts, it met what was seen, and changed nothing else
  pub alone : old.opened.alone ≡ true → (at ≡ old.seen r) × (met ≡ old.unsettled r)
  pub alone_others : old.opened.alone ≡ true → (n : ℕ) → n ≢ r → (new.seen n ≡ old.seen n) × (new.unsettled n ≡ old.unsettled n)
