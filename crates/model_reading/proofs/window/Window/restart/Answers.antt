use Rattle.spec_history.specs.History.{is_undecided, known_in, put}
use Rattle.log_entries.specs.declared.entry.Entry.TheVariants.{Life}
use Rattle.std.proofs.Common.{refl, rules, ◌≡◌}
use Rattle.std.proofs.lemmas.Map.Made.{filter_same_pairs}
use Rattle.std.specs.List.{filter}
use Rattle.model_reading.specs.Opening.{base_of}
use Rattle.model_reading.proofs.window.Window.restart.Goals as goal

pub returns : goal.returns
returns c =
    let e : c.retain.new.self.entries ≡ filter (λ e. is_undecided (known_in (base_of c.args.opening.now) (put (base_of c.args.opening.now) c.args.state.now (Life c.args.life)) e.0)) c.self.inside.members.entries = filter_same_pairs _ (λ e. is_undecided (known_in (base_of c.args.opening.now) (put (base_of c.args.opening.now) c.args.state.now (Life c.args.life)) e.0)) _ (λ k v b w f t. search rules) _ _ c.retain.ensures.filtered in
    rw (← c.self.view_is, e, c.top-self-inside.ensures) refl
