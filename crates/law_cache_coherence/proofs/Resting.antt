-- What an accepted request rests on: what its client read stands there.
use Rattle.law_cache_coherence.specs.Fitting.{FitsAt, KeepsUp, Kept}
use Rattle.log_entries.specs.declared.request.Request.{Request}
use Rattle.spec_history.specs.History.{Base, known_by, state}
use Rattle.spec_history.specs.Requests.{has_read}
use Rattle.spec_history.specs.Sound.{sound}
use Rattle.client_port.specs.Views.{Calm}
use Rattle.spec_trace.proofs.Accepting.{found, right_copies}
use Rattle.spec_trace.proofs.Copies.{current-cases}
use Rattle.spec_trace.specs.Acceptance.{WasAccepted}
use Rattle.spec_trace.specs.Session.{session_lives, upto_of}
use Rattle.spec_trace.specs.Trace.{Item, entries}
use Rattle.spec_trace.specs.Verdict.{verdict}
use Rattle.std.proofs.Common.{List, ap, arith, refl, subst, sym, true, ◌∙◌, ◌≡◌, ◌≤◌, ℕ}
use Rattle.std.specs.Prelude.{Bool, None, Some}
use Rattle.thor_value.specs.FiniteMap.{get}
use Rattle.thor_value.specs.declared.names.Oref.{Oref}
use Rattle.thor_value.specs.declared.names.Ts.{Ts}
use Rattle.thor_value.specs.declared.values.Obj.{Obj}

pub rests : (c : ℕ) (b : Base) (T : List Item) (committed : Ts → Bool) (kept : Kept) (q : Request) → sound b (entries T) → known_by b (entries T) q.tx ≡ None → FitsAt c b Calm T committed kept
    → verdict b T kept.session q ≡ None → q.upto ≡ kept.upto → b.tells ≡ true → (x : Oref) (o : Obj) → x.repo ≡ b.repo → has_read q x ≡ true → kept.copies x ≡ Some o → get (state b (entries T)).objects x ≡ Some o
rests c b T committed kept q sd once h accepted upto tells x o here read copy =
    let y = found b T kept.session q sd once accepted in
    let both : Some h.v ≡ Some y.0 = sym h.there ∙ y.1.there in
    let same : h.v ≡ y.0 = cc in
    let live : session_lives h.v ≡ true = ap session_lives same ∙ y.1.live in
    let k : KeepsUp b T committed h.v kept = h.keeps refl live in
    let a : WasAccepted b T kept.session q h.v = subst (WasAccepted b T kept.session q) (sym same) y.1 in
    let low : q.upto ≤ upto_of h.v = known_upto q.upto (upto_of h.v) (upto ∙ k.known) in
    let cur = ((k.copies tells).current x o here copy).0 in
    right_copies b T kept.session q h.v committed x o a low read (current-cases b (entries T) kept.session h.v committed x o live k.step cur)
  where
    known_upto : (n m : ℕ) → n ≡ m → n ≤ m
    known_upto n m e = omega arith
