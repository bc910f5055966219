use Rattle.schedule.proofs.Parses.{events_are, only_events, fault_is, only_fault}
use Rattle.schedule.proofs.parsing.parse_schedule.Goals as goal

pub returns-clause-events : goal.returns-clause-events
returns-clause-events c = events_are c.args.tokens.now c.events_by.result c.events_by.ensures

pub returns-clause-only_events : goal.returns-clause-only_events
returns-clause-only_events c = only_events c.args.tokens.now c.events_by.result c.events_by.ensures

pub returns-clause-first_fault : goal.returns-clause-first_fault
returns-clause-first_fault c = fault_is c.args.tokens.now c.events_by.result c.events_by.ensures

pub returns-clause-only_fault : goal.returns-clause-only_fault
returns-clause-only_fault c = only_fault c.args.tokens.now c.events_by.result c.events_by.ensures
