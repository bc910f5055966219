-- What stands behind refusals.
use Rattle.log_entries.specs.declared.entry.Entry.{Entry}
use Rattle.repo_state.specs.declared.held.Held.{Held}
use Rattle.repo_core.proofs.Moves.{moves_on}
use Rattle.repo_core.specs.Behind.{MovesObjects, is_marked}
use Rattle.repo_core.specs.Moving.{MakesRoom}
use Rattle.repo_core.specs.Refusing.{GoesDown, Leaves, Moved, Rests, StaysAsWas, made_of}
use Rattle.repo_core.specs.Shown.{Shown}
use Rattle.repo_durable.specs.Kept.{is_fault}
use Rattle.std.proofs.Common.{Bool, Err, Ok, Option, Result, ap, arith, cond, false, inl, inr, refl, subst, sym, true, ℕ, ◌+◌, ◌-◌, ◌∙◌, ◌≡◌}
use Rattle.std.specs.Prelude.{IfErr, None, Some, ◌⊎◌}
use Rattle.repo_refusals.specs.declared.refusal.Refusal.{Refusal}
use Rattle.repo_volatile.proofs.Lasting.{lasts_itself, lasts_on, stayed}
use Rattle.repo_volatile.specs.Volatile.{Memory, Outlasts}

pub no_fault : (b : Bool) → b ≡ false → b ≡ true → ⊥
no_fault b f t = cc

no_torn : (b : Bool) → b ≡ true → b ≡ false → ⊥
no_torn b t f = cc

pub stays_itself : (x : Shown) → StaysAsWas x x
stays_itself x = record { held = refl; memory = refl; pending = refl; torn = refl; logs = refl; pages = refl }

pub leaves_so : (x y : Shown) (e : Option Entry) (r : Refusal) → is_fault r ≡ false → StaysAsWas x y → Leaves x y e r
leaves_so x y e r is so = record { fault = λ f. absurd (no_fault (is_fault r) is f); other = λ f. so }

pub leaves_same : (x : Shown) (e : Option Entry) (r : Refusal) → is_fault r ≡ false → Leaves x x e r
leaves_same x e r is = leaves_so x x e r is (stays_itself x)

pub leaves_down : (x y : Shown) (e : Option Entry) (r : Refusal) → is_fault r ≡ true → GoesDown x y e → Leaves x y e r
leaves_down x y e r is down = record { fault = λ f. down; other = λ f. absurd (no_fault (is_fault r) f is) }

pub moved_none : (x y : Shown) → y.held ≡ x.held → Moved x y
moved_none x y h = record { objects = subst (λ (g : Held). MovesObjects x.held g) (sym h) refl; limit = ap (λ (g : Held). g.objects.mob.limit) h }

pub moved_on : (x y z : Shown) → Moved x y → Moved y z → Moved x z
moved_on x y z a b = record { objects = moves_on x.held y.held z.held a.objects b.objects; limit = b.limit ∙ a.limit }

pub lasts_same : (x y : Shown) → y.memory ≡ x.memory → Outlasts x.memory y.memory
lasts_same x y m = subst (λ (n : Memory). Outlasts x.memory n) (sym m) (lasts_itself x.memory)

-- a fault with nothing pending
pub falls_with : (x y : Shown) → x.is_up ≡ true → Moved x y → Outlasts x.memory y.memory → y.pending ≡ None → (e : Option Entry) → GoesDown x y e
falls_with x y up moved lasts none e = record { was_up = up; held = λ t. moved; memory = lasts; pending = λ t. inl none }

-- with the entry pending
pub falls_pending : (x y : Shown) (e : Option Entry) → x.is_up ≡ true → Moved x y → Outlasts x.memory y.memory → y.pending ≡ e → GoesDown x y e
falls_pending x y e up moved lasts is = record { was_up = up; held = λ t. moved; memory = lasts; pending = λ t. inr is }

-- torn
pub falls_torn : (x y : Shown) (e : Option Entry) → x.is_up ≡ true → y.is_torn ≡ true → Outlasts x.memory y.memory → GoesDown x y e
falls_torn x y e up torn lasts = record { was_up = up; held = λ t. absurd (no_torn y.is_torn torn t); memory = lasts; pending = λ t. absurd (no_torn y.is_torn torn t) }

-- a fault behind what stayed up
pub falls_behind : (x y z : Shown) (e : Option Entry) → x.is_up ≡ true → Moved x y → Outlasts x.memory y.memory → GoesDown y z e → GoesDown x z e
falls_behind x y z e up moved lasts down = record {
  was_up = up;
  held = λ t. moved_on x y z moved (down.held t);
  memory = lasts_on x.memory y.memory z.memory lasts down.memory;
  pending = down.pending;
}

pub room_moved : (x y : Shown) → MakesRoom x y → Moved x y
room_moved x y made = record { objects = made.held; limit = made.limit }

-- a fault behind room that was made, of an entry against which nothing stood
pub leaves_written : (x y z : Shown) (o : Option Refusal) (e : Entry) (r : Refusal) → o ≡ None → x.is_up ≡ true → MakesRoom x y → is_fault r ≡ true → GoesDown y z (Some e) → Leaves x z (made_of o e) r
leaves_written x y z o e r none up made is down =
    leaves_down x z (made_of o e) r is (subst (GoesDown x z) (sym (ap (λ (p : Option Refusal). made_of p e) none)) (falls_behind x y z (Some e) up (room_moved x y made) (lasts_same x y made.memory) down))

-- what rests behind a refusal
pub rests_down : (x y : Shown) (r : Refusal) → is_fault r ≡ true → x.is_up ≡ true → y.pending ≡ None → y.is_torn ≡ false → Rests x y r
rests_down x y r is up none whole = record { fault = λ f. (up, none, whole); other = λ f. absurd (no_fault (is_fault r) f is) }

pub rests_so : (x y : Shown) (r : Refusal) → is_fault r ≡ false → StaysAsWas x y → Rests x y r
rests_so x y r is so = record { fault = λ f. absurd (no_fault (is_fault r) is f); other = λ f. so }

-- of a decision that the session may make
pub leaves_decided : (x y z : Shown) (live prepared : Bool) (e : Entry) (r : Refusal) → live ≡ true → prepared ≡ true → x.is_up ≡ true → MakesRoom x y → is_fault r ≡ true → GoesDown y z (Some e) → Leaves x z (cond live (cond prepared (Some e) None) None) r
leaves_decided x y z live prepared e r l p up made is down =
    leaves_down x z (cond live (cond prepared (Some e) None) None) r is
    (subst (GoesDown x z) (sym (ap (λ (b : Bool). cond b (cond prepared (Some e) None) None) l ∙ ap (λ (b : Bool). cond b (Some e) None) p)) (falls_behind x y z (Some e) up (room_moved x y made) (lasts_same x y made.memory) down))

-- of what is open
pub leaves_finished : (x y z : Shown) (prepared : Bool) (e : Entry) (r : Refusal) → prepared ≡ true → x.is_up ≡ true → MakesRoom x y → is_fault r ≡ true → GoesDown y z (Some e) → Leaves x z (cond prepared (Some e) None) r
leaves_finished x y z prepared e r p up made is down =
    leaves_down x z (cond prepared (Some e) None) r is
    (subst (GoesDown x z) (sym (ap (λ (b : Bool). cond b (Some e) None) p)) (falls_behind x y z (Some e) up (room_moved x y made) (lasts_same x y made.memory) down))

-- a fault of the mark behind what stayed up
pub leaves_behind : (x y z : Shown) (e : Option Entry) (r : Refusal) → x.is_up ≡ true → Moved x y → Outlasts x.memory y.memory → is_fault r ≡ true → GoesDown y z e → Leaves x z e r
leaves_behind x y z e r up moved lasts is down = leaves_down x z e r is (falls_behind x y z e up moved lasts down)

-- a fault has no mark
pub never_marked : (r s : Refusal) → is_marked r ≡ false → is_marked r ≡ true → r ≡ s
never_marked r s never is = absurd (no_fault (is_marked r) never is)

-- what is refused is what stood against it, where it has a mark
pub why_refused : (Q : Refusal → Type 0) (up : Bool) (r s : Refusal) → up ≡ true → (is_marked s ≡ true → s ≡ r) → Q r → is_marked s ≡ true → (up ≡ true) × Q s
why_refused Q up r s is same q m = (is, subst Q (sym (same m)) q)

pub stays_on : (x y z : Shown) → StaysAsWas x y → StaysAsWas y z → StaysAsWas x z
stays_on x y z a b = record { held = b.held ∙ a.held; memory = b.memory ∙ a.memory; pending = b.pending ∙ a.pending; torn = b.torn ∙ a.torn; logs = b.logs ∙ a.logs; pages = b.pages ∙ a.pages }

-- a refusal behind what changed nothing
pub leaves_on : (x y z : Shown) (e : Option Entry) (r : Refusal) → x.is_up ≡ true → StaysAsWas x y → Leaves y z e r → Leaves x z e r
leaves_on x y z e r up so left = record { fault = λ f. falls_behind x y z e up (moved_none x y so.held) (lasts_same x y so.memory) (left.fault f); other = λ f. stays_on x y z so (left.other f) }

-- a fault of the mark behind what was read and what was sent
pub leaves_read : (i x y z : Shown) (e : Option Entry) (r : Refusal) → (is_fault r ≡ true) × ((d : Option Entry) → GoesDown y z d) → i ≡ x → x.is_up ≡ true → MovesObjects i.held y.held → y.held.objects.mob.limit ≡ i.held.objects.mob.limit → Outlasts i.memory y.memory → Leaves x z e r
leaves_read i x y z e r falls is up moves limit lasts =
    subst (λ (s : Shown). Leaves s z e r) is (leaves_behind i y z e r (ap (λ (s : Shown). s.is_up) is ∙ up) (record { objects = moves; limit = limit }) lasts falls.0 (falls.1 e))

less_one : (n m k : ℕ) → n ≡ m + 1 → k ≡ n - 1 → k ≡ m
less_one n m k a b = omega (arith, a, b)

-- a fault of the mark of a session whose number is given again
pub leaves_given_back : (x y z i : Shown) (M : Memory) (e : Option Entry) (r : Refusal) → (is_fault r ≡ true) × ((d : Option Entry) → GoesDown y z d) → i ≡ z → z.memory ≡ y.memory → x.is_up ≡ true → y.held ≡ x.held
    → y.memory.requested ≡ x.memory.requested → y.memory.sessions.last ≡ x.memory.sessions.last + 1 → M.requested ≡ i.memory.requested → M.sessions.last ≡ i.memory.sessions.last - 1 → Leaves x (record i { memory = M }) e r
leaves_given_back x y z i M e r falls is memory up held requested last given back =
    let down : GoesDown y i e = subst (λ (s : Shown). GoesDown y s e) (sym is) (falls.1 e) in
    let same : i.memory ≡ y.memory = ap (λ (s : Shown). s.memory) is ∙ memory in
    leaves_down x (record i { memory = M }) e r falls.0 (record {
      was_up = up;
      held = λ t. moved_on x y (record i { memory = M }) (moved_none x y held) (record { objects = (down.held t).objects; limit = (down.held t).limit });
      memory = stayed x.memory M (given ∙ (ap (λ (m : Memory). m.requested) same ∙ requested)) (less_one y.memory.sessions.last x.memory.sessions.last M.sessions.last last (back ∙ ap (λ (m : Memory). m.sessions.last - 1) same));
      pending = down.pending;
    })

pub if_err_on : {T E : Type 0} (r : Result T E) (P Q : E → Type 0) → ((e : E) → P e → Q e) → IfErr r P → IfErr r Q
if_err_on (Ok x) P Q f h = tt
if_err_on (Err e) P Q f h = f e h
