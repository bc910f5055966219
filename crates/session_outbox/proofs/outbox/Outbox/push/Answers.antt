use Rattle.session_outbox.proofs.outbox.Outbox.push.Goals as goal
use Rattle.session_outbox.specs.Outbox.{Waiting}
use Rattle.session_outbox.specs.declared.message.Message.{Message}
use Rattle.std.proofs.Common.{List, ap, sym, ◌∙◌, ◌≡◌, ℕ}
use Rattle.std.proofs.lemmas.Map.Steps.{set_value_same}
use Rattle.std.specs.BTreeMap.{is_at}
use Rattle.std.specs.Map.{set_value}
use Rattle.std.specs.Option.{option_copied_mut}
use Rattle.std.specs.Ordering.{nat_cmp}
use Rattle.std.specs.Prelude.{Err, Ok, Result, Some}
use Rattle.std.specs.Result.{OnErr}
use Rattle.thor_value.specs.FiniteMap.{get}

-- what follows where there was no memory
on_err : {T E : Type 0} {P Q : Type 0} (r : Result T E) → OnErr r P → (P → Q) → OnErr r Q
on_err (Ok x) p f = tt
on_err (Err e) p f = f p

pub returns-in-Some-clause-err : goal.returns-in-Some-clause-err
returns-in-Some-clause-err c =
    let W : Waiting = record { pairs = c.self.inside.lines.entries } in
    let there : get W c.args.session ≡ Some c.in-Some.line.now = sym c.get_mut.ensures.value ∙ ap option_copied_mut c.in-Some.is in
    let written = (c.get_mut.follows.holds c.push.new.self).0 in
    on_err c.push.result c.push.ensures.err (λ same.
    ap (λ (es : List (ℕ × List Message)). record { pairs = es }) (
    written
    ∙ ap (λ (ms : List Message). set_value (is_at (nat_cmp c.args.session)) W.pairs ms) same
    ∙ set_value_same (is_at (nat_cmp c.args.session)) W.pairs c.in-Some.line.now there
    )
    ∙ c.self.view_is
    )
