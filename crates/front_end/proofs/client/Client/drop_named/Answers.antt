use Rattle.client_cache.specs.Pages.{same_name}
use Rattle.client_state.proofs.Writing.{less_without, none_without, nothing_unsent, still_writes}
use Rattle.front_end.proofs.client.Client.drop_named.Goals as goal
use Rattle.std.proofs.Common.{ap, cond, false, inl, refl, sym, true, ◌∙◌, ◌≡◌}
use Rattle.std.specs.List.{list_any}
use Rattle.std.specs.Prelude.{None, Option}
use Rattle.thor_value.specs.declared.values.Obj.{Obj}

pub returns-then-not-has_sent-clause-fewer : goal.returns-then-not-has_sent-clause-fewer
returns-then-not-has_sent-clause-fewer c = λ x. inl (c.drop_copies.ensures.writes x)

pub returns-then-not-has_sent-clause-writes : goal.returns-then-not-has_sent-clause-writes
returns-then-not-has_sent-clause-writes c = λ w. still_writes _ _ _ _ refl c.drop_copies.ensures.writes w

pub returns-clause-fewer : goal.returns-clause-fewer
returns-clause-fewer c = less_without c.args.orefs.now c.args.self.now.held.cache.cache c.drop_copies.new.self.cache.cache c.drop_written.new.self.cache.cache c.drop_copies.ensures.writes c.drop_written.ensures.written

pub returns-clause-none : goal.returns-clause-none
returns-clause-none c = λ sent. none_without c.args.orefs.now c.drop_copies.new.self.cache.cache c.drop_written.new.self.cache.cache c.drop_written.ensures.written

pub returns-clause-writes : goal.returns-clause-writes
returns-clause-writes c = λ w. nothing_unsent c.args.self.now.phase c.drop_written.new.self.cache.cache (c.has_sent.ensures.unsent c.if-not-has_sent.false)

pub returns-clause-sent : goal.returns-clause-sent
returns-clause-sent c = λ sent x. c.drop_written.ensures.written x ∙ ap (λ (o : Option Obj). cond (list_any (λ y. same_name y x) c.args.orefs.now) None o) (c.drop_copies.ensures.writes x)

pub returns-clause-unsent : goal.returns-clause-unsent
returns-clause-unsent c = λ no. absurd (let e : true ≡ false = sym c.if-not-has_sent.false ∙ (c.has_sent.ensures.sent ∙ no) in cc)

pub returns-then-not-has_sent-clause-unsent : goal.returns-then-not-has_sent-clause-unsent
returns-then-not-has_sent-clause-unsent c = λ no. c.drop_copies.ensures.writes
