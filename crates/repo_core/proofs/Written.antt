-- What may be requested can be written, once nothing stands against it.
use Rattle.log_entries.specs.declared.entry.Entry.TheVariants.{Decided, Finished, Life, Prepared}
use Rattle.log_entries.specs.declared.request.Kind.TheVariants.{App, Transform, Upgrade}
use Rattle.log_entries.specs.declared.request.Kind.{Kind}
use Rattle.log_entries.specs.declared.request.Request.{Request}
use Rattle.repo_state.specs.declared.held.Held.{Held}
use Rattle.repo_core.specs.Behind.{MovesObjects, alone_entry}
use Rattle.repo_core.specs.Calls.{CanWrite, Comes, MayRequest}
use Rattle.std.proofs.Common.{Bool, None, cond, false, refl, subst, sym, true, ℕ, ◌<◌, ◌^◌, ◌≡◌}
use Rattle.thor_value.specs.FiniteMap.{has}
use Rattle.thor_value.specs.Spelling.{TsFits}
use Rattle.thor_value.specs.declared.names.Ts.{Ts}
use Rattle.validation_queue.specs.Clashes.{clash}
use Rattle.repo_volatile.specs.Volatile.{Memory, transaction_of}

second : (b c : Bool) → cond b true c ≡ false → c ≡ false
second true c e = cc
second false c e = e

comes : (h : Held) (M : Memory) (q : Request) (alone : Bool) → MayRequest h M q alone → clash M.queue (transaction_of q) ≡ None → Comes M q
comes h M q alone may accepted = record {
  in_order = may.in_order;
  accepted = accepted;
  new = second (has M.requested q.tx) (has M.queue.members q.tx) may.unknown;
}

pub can_prepare : (h h' : Held) (M : Memory) (q : Request) → MayRequest h M q false → MovesObjects h h' → clash M.queue (transaction_of q) ≡ None → CanWrite h' M (Prepared q)
can_prepare h h' M q may moves accepted =
    subst (λ (x : Held). CanWrite x M (Prepared q)) (sym moves) (record {
      fits = may.form.fits;
      takes = may.here;
      comes = comes h M q false may accepted;
    })

can_alone : (h : Held) (objects : _) (M : Memory) (q : Request) (k : Kind) → MayRequest h M q true → clash M.queue (transaction_of q) ≡ None → CanWrite (record h { objects = objects }) M (alone_entry k q)
can_alone h objects M q App may accepted = record { fits = may.form.fits; takes = may.here; comes = comes h M q true may accepted }
can_alone h objects M q Transform may accepted = record { fits = may.form.fits; takes = may.here; comes = comes h M q true may accepted }
can_alone h objects M q (Upgrade text) may accepted = record { fits = may.form.fits; takes = may.here; comes = comes h M q true may accepted }

pub can_commit : (h h' : Held) (M : Memory) (q : Request) → MayRequest h M q true → MovesObjects h h' → clash M.queue (transaction_of q) ≡ None → CanWrite h' M (alone_entry q.kind q)
can_commit h h' M q may moves accepted =
    subst (λ (x : Held). CanWrite x M (alone_entry q.kind q)) (sym moves) (can_alone h h'.objects M q q.kind may accepted)

pub can_live : (h : Held) (M : Memory) (n : ℕ) → n < 2 ^ 32 → CanWrite h M (Life n)
can_live h M n fits = record { fits = fits; takes = refl; comes = tt }

pub can_decide : (h : Held) (M : Memory) (t : Ts) (c : Bool) → TsFits t → CanWrite h M (Decided t c)
can_decide h M t c fits = record { fits = fits; takes = refl; comes = tt }

pub can_finish : (h : Held) (M : Memory) (t : Ts) (c : Bool) → TsFits t → CanWrite h M (Finished t c)
can_finish h M t c fits = record { fits = fits; takes = refl; comes = tt }
