use Rattle.class_defs.specs.declared.store.Schema.{Schema}
use Rattle.client_state.proofs.held.Held.evaluate.Goals as goal
use Rattle.client_state.specs.Evaluating.{StandsBy, answered_by, epoch_in, schema_in}
use Rattle.method_eval.specs.declared.view.Ran.{Ran}
use Rattle.paused_eval.specs.Standing.{AtStop}
use Rattle.std.proofs.Common.{ap, subst, sym, ℕ, ◌≡◌, ◌∙◌}
use Rattle.std.specs.Prelude.{IfOk}

pub returns-clause-answers : goal.returns-clause-answers
returns-clause-answers c = λ tx given stands.
    let which : c.schema_of.result.0.now ≡ schema_in c.args.opened.now (epoch_in c.args.opened.now c.args.self.now) = c.schema_of.ensures.which ∙ ap (schema_in c.args.opened.now) c.epoch-epoch.ensures in
    subst (λ (n : ℕ). IfOk c.go.result (λ (ran : Ran). ran ≡ answered_by n (schema_in c.args.opened.now (epoch_in c.args.opened.now c.args.self.now)) c.args.self.now tx given)) c.epoch-epoch.ensures
    (subst (λ (s : Schema). IfOk c.go.result (λ (ran : Ran). ran ≡ answered_by c.epoch-epoch.result s c.args.self.now tx given)) which
    (c.go.ensures.answers tx given (subst (λ (s : Schema). StandsBy s c.args.self.now c.args.run.now tx given) (sym which) stands)))

pub returns-clause-stands : goal.returns-clause-stands
returns-clause-stands c = λ tx given stands.
    let which : c.schema_of.result.0.now ≡ schema_in c.args.opened.now (epoch_in c.args.opened.now c.args.self.now) = c.schema_of.ensures.which ∙ ap (schema_in c.args.opened.now) c.epoch-epoch.ensures in
    subst (λ (s : Schema). IfOk c.go.result (λ (ran : Ran). AtStop ran (StandsBy s (record c.args.self.now { cache = c.go.new.copies; names = c.go.new.names }) c.go.new.self tx given))) which
    (c.go.ensures.stands tx given (subst (λ (s : Schema). StandsBy s c.args.self.now c.args.run.now tx given) (sym which) stands))
