-- What may happen while a run has stopped.
use Rattle.std.proofs.Common.{◌≡◌, ℕ, Bool, true, false, cond, List, [], ◌∷◌, ◌++◌, Option, refl, ap, subst, sym}
use Rattle.std.specs.Prelude.{map, not}
use Rattle.thor_value.specs.declared.names.Oref.{Oref}
use Rattle.class_defs.specs.Run.{begun}
use Rattle.class_defs.specs.declared.machine.Machine.{Machine}
use Rattle.class_defs.specs.declared.statements.Stmt.{Stmt}
use Rattle.class_defs.specs.declared.store.Object.{Object}
use Rattle.class_defs.specs.declared.store.Schema.{Schema}
use Rattle.client_cache.specs.Copies.{Contents}
use Rattle.method_eval.specs.Names.{Names, free, grant, orefs, waiting}
use Rattle.method_eval.specs.declared.held.Held.{Held}
use Rattle.lang_small_steps.proofs.Reaching as reaching
use Rattle.lang_small_steps.specs.Due.{due}
use Rattle.lang_small_steps.specs.Reaches.{Agree, granted, whole}
use Rattle.lang_small_steps.specs.Resume.{Left}
use Rattle.std.specs.Prelude.{None}
use Rattle.paused_eval.specs.Copies.{state_with}
use Rattle.paused_eval.specs.Standing.{Stands, newly_granted}

pub over_others : (s : Schema) (f g : Oref → Option Object) (tx : List Stmt) (given : List Oref) (l : Left) (m : Machine) → Stands s f tx given l m → Agree f g m → Stands s g tx given l m
over_others s f g tx given l m r agree = record { reaches = reaching.over_others s f g (whole tx) l (begun given None) m r.reaches agree; few = r.few }

with_more : (s : Schema) (f : Oref → Option Object) (new : List Oref) (tx : List Stmt) (given : List Oref) (l : Left) (m : Machine)
    → Stands s f tx given l m → Stands s f tx (given ++ new) l (granted new m)
unfolding due
with_more s f new tx given l m r = record { reaches = reaching.with_more s f new (whole tx) l (begun given None) m r.reaches; few = r.few }

-- ---- a page of names is granted

freed : (xs : List Oref) → orefs (waiting (map free xs)) ≡ xs
freed [] = refl
freed (x ∷ xs) = ap (λ (rest : List Oref). x ∷ rest) (freed xs)

more : (held : List Held) (xs : List Oref) → orefs (waiting (held ++ map free xs)) ≡ orefs (waiting held) ++ xs
more [] xs = freed xs
more (h ∷ held) xs = by (not h.given) (more held xs)
  where
    by : (b : Bool) → orefs (waiting (held ++ map free xs)) ≡ orefs (waiting held) ++ xs
        → orefs (cond b (h ∷ waiting (held ++ map free xs)) (waiting (held ++ map free xs))) ≡ orefs (cond b (h ∷ waiting held) (waiting held)) ++ xs
    by true rest = ap (λ (ys : List Oref). h.oref ∷ ys) rest
    by false rest = rest

page_granted : (m : Machine) (c : Contents) (n : Names) (repo page : ℕ) → granted (newly_granted n repo page) (state_with m c n) ≡ state_with m c (grant n repo page)
page_granted m c n repo page =
    ap (λ (names : List Oref). record (state_with m c n) { names = record { waiting = names; stand_in = n.stand_in } }) (sym (more n.held (newly_granted n repo page)))

pub with_page : (s : Schema) (f : Oref → Option Object) (tx : List Stmt) (given : List Oref) (l : Left) (m : Machine) (c : Contents) (n : Names) (repo page : ℕ)
    → Stands s f tx given l (state_with m c n) → Stands s f tx (given ++ newly_granted n repo page) l (state_with m c (grant n repo page))
with_page s f tx given l m c n repo page r =
    subst (λ (o : Machine). Stands s f tx (given ++ newly_granted n repo page) l o) (page_granted m c n repo page)
    (with_more s f (newly_granted n repo page) tx given l (state_with m c n) r)
