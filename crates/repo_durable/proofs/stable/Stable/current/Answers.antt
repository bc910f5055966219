use Rattle.std.proofs.Common.{◌≡◌, ap, inl, inr, refl, subst, sym, ◌∙◌}
use Rattle.commit_log.specs.Holds.{Holds}
use Rattle.commit_log.specs.Recovered.{in_format}
use Rattle.disk_trait.proofs.Several.{goes_none}
use Rattle.page_format.specs.declared.format.StoreFormat.{StoreFormat}
use Rattle.recovery.specs.Found.{recorded}
use Rattle.repo_durable.proofs.Returning.{if_ok_on, none_more}
use Rattle.repo_durable.specs.Kept.{disks_of}
use Rattle.repo_state.specs.Said.{said}
use Rattle.repo_state.specs.declared.held.Held.{Held}
use Rattle.repo_durable.proofs.stable.Stable.current.Goals as goal

pub reached-requires-clause-stands : goal.reached-requires-clause-stands
reached-requires-clause-stands g c = subst (λ (f : StoreFormat). Holds (disks_of g.P.Parts.disks c.args.self.now) c.args.recovered.log (in_format f (said c.args.recovered.state))) c.in-Two.is c.requires.stands

pub returns-in-Two-clause-same : goal.returns-in-Two-clause-same
returns-in-Two-clause-same g c =
    let own : said c.args.recovered.state ≡ recorded c.args.recovered = subst (λ (f : StoreFormat). said c.args.recovered.state ≡ in_format f (said c.args.recovered.state)) (sym c.in-Two.is) refl in
    if_ok_on c.reached.result (λ r. r.state ≡ c.args.recovered.state) (λ r. said r.state ≡ recorded c.args.recovered) (λ r same. ap (λ (h : Held). said h) same ∙ own) c.reached.ensures.same

pub returns-in-Two-clause-damaged : goal.returns-in-Two-clause-damaged
returns-in-Two-clause-damaged g c = λ r place wrong. inr (c.reached.ensures.damaged r place wrong)

pub returns-in-One-clause-damaged : goal.returns-in-One-clause-damaged
returns-in-One-clause-damaged g c = λ r place wrong. inl c.in-One.is

pub returns-in-One-clause-crash : goal.returns-in-One-clause-crash
returns-in-One-clause-crash g c = none_more (disks_of g.P.Parts.disks c.args.self.now)

pub returns-in-One-clause-goes : goal.returns-in-One-clause-goes
returns-in-One-clause-goes g c = goes_none (disks_of g.P.Parts.disks c.args.self.now)
