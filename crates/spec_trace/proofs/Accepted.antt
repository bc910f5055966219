-- What the whole verdict's acceptance tells: the session is there, and the entry owes nothing.
use Rattle.log_entries.specs.declared.entry.Entry.TheVariants.{One, Prepared, Upgraded}
use Rattle.log_entries.specs.declared.entry.Entry.{Entry}
use Rattle.log_entries.specs.declared.request.Request.{Request}
use Rattle.spec_history.proofs.Growth.{sound-end}
use Rattle.spec_trace.proofs.Above.{request-above}
use Rattle.repo_refusals.proofs.Room.{room_left}
use Rattle.repo_refusals.proofs.Validated.{neither, nothing_holds, validated}
use Rattle.spec_history.specs.History.{Base, state}
use Rattle.spec_history.specs.Laws.{Continues}
use Rattle.spec_history.specs.Participants.{IsAlone, IsShared}
use Rattle.spec_history.specs.Requests.{is_upgrade}
use Rattle.spec_trace.specs.Session.{Session, session, session_lives}
use Rattle.spec_history.specs.Sound.{Admits, Vouches, owes, sound}
use Rattle.spec_trace.specs.Trace.{Item, entries}
use Rattle.repo_refusals.specs.Refusals.{first_refusal, full}
use Rattle.spec_trace.specs.Verdict.{stale, verdict, verdict_by}
use Rattle.repo_refusals.specs.Window.{window}
use Rattle.repo_refusals.specs.declared.refusal.Refusal.{Refusal}
use Rattle.std.proofs.Common.{List, cond, refl, ◌≡◌}
use Rattle.std.specs.Prelude.{Bool, None, Option, Some, false, true, ℕ}

only_live : (x : Bool) (o : Option Refusal) (r : Refusal) → cond x o (Some r) ≡ None → (x ≡ true) × (o ≡ None)
only_live true o r e = (refl, e)
only_live false o r e = cc

-- the session of an accepted request is there, and nothing else refuses it
pub passed : (b : Base) (H : List Entry) (s : ℕ) (q : Request) (o : Option Session) → verdict_by b H s q o ≡ None
    → (v : Session) × (o ≡ Some v) × (session_lives v ≡ true) × (first_refusal (state b H) (window b H) (stale b H s v q) (full b (window b H) q) q ≡ None)
passed b H s q None e = cc
passed b H s q (Some v) e = let p = only_live (session_lives v) _ _ e in (v, refl, p.0, p.1)

module _ (b : Base) (T : List Item) (s : ℕ) (q : Request) (sd : sound b (entries T)) (h : Vouches b (state b (entries T)) q) where
  pub admitted : verdict b T s q ≡ None → Admits b (state b (entries T)) q
  admitted e =
      let p = passed b (entries T) s q (session b T s) e in
      let a = validated b (entries T) q _ _ sd h.once p.3 in
      let none = nothing_holds (state b (entries T)) (window b (entries T)) _ _ q p.3 in
      record { vouched = h; current = a.0; above = request-above b (entries T) sd q none.old; accepted = a.1; room = room_left b (entries T) sd (neither _ _ none.limits).0 }

  continued : (e : Entry) → owes b (state b (entries T)) e → Continues b (entries T) e
  continued e o = (o, sound-end b (entries T) e sd o)

pub prepared : (b : Base) (T : List Item) (s : ℕ) (q : Request) → sound b (entries T) → Vouches b (state b (entries T)) q → IsShared q → verdict b T s q ≡ None → Continues b (entries T) (Prepared q)
prepared b T s q sd h shared e = continued b T s q sd h (Prepared q) (admitted b T s q sd h e, shared)

pub one : (b : Base) (T : List Item) (s : ℕ) (q : Request) → sound b (entries T) → Vouches b (state b (entries T)) q → IsAlone b q → is_upgrade q ≡ false → verdict b T s q ≡ None → Continues b (entries T) (One q)
one b T s q sd h alone kind e = continued b T s q sd h (One q) (admitted b T s q sd h e, alone, kind)

pub upgraded : (b : Base) (T : List Item) (s : ℕ) (q : Request) → sound b (entries T) → Vouches b (state b (entries T)) q → IsAlone b q → is_upgrade q ≡ true → verdict b T s q ≡ None → Continues b (entries T) (Upgraded q)
upgraded b T s q sd h alone kind e = continued b T s q sd h (Upgraded q) (admitted b T s q sd h e, alone, kind)
