-- The exact traces of the examples, item by item.
use Rattle.log_entries.specs.declared.entry.Entry.TheVariants.{Decided}
use Rattle.spec_history.specs.Examples.{at, box, create_z, creating_z, home, prepare_x, preparing_x, read_x, reading_x, set_x, setting_x, x, z}
use Rattle.spec_trace.proofs.Exactness.{exact-end}
use Rattle.spec_trace.proofs.WrittenPages.{none_granted, none_paged, one_granted, one_paged}
use Rattle.spec_trace.specs.Exact.{ItemIsExact, exact}
use Rattle.spec_trace.specs.ExactExamples.{creating, deciding, forgetting, refusing}
use Rattle.spec_trace.specs.SessionExamples.{written_since}
use Rattle.spec_trace.specs.Trace.{E, M}
use Rattle.spec_trace.specs.VerdictExamples.{second_reads}
use Rattle.spec_trace.specs.declared.mark.Mark.TheVariants as the
use Rattle.base_reasons.specs.declared.reason.Reason.TheVariants as reasons
use Rattle.repo_refusals.specs.declared.refusal.Refusal.TheVariants as refused
use Rattle.std.proofs.Common.{rules, arith, refl, take, true, ◌<◌}
use Rattle.std.specs.Prelude.{Some}

first_page : 0 < 1
first_page = omega arith

second_page : 1 < 2
second_page = omega arith

-- ---- a write by another session

fetches : exact home (take 7 written_since)
fetches = search rules

reads : ItemIsExact home (take 7 written_since) (E (read_x 1))
reads = record {
  accepted = refl;
  client = refl;
  upto = omega arith;
  granted = none_granted home (take 7 written_since) (reading_x 1) refl;
  paged = none_paged home (take 7 written_since) (reading_x 1) refl;
}

has_read_it : exact home (take 8 written_since)
has_read_it = exact-end home (take 7 written_since) (E (read_x 1)) fetches reads

sets : ItemIsExact home (take 8 written_since) (E (set_x 2 7))
sets = record {
  accepted = refl;
  client = refl;
  upto = omega arith;
  granted = one_granted home (take 8 written_since) (setting_x 2 7) x (box 7) refl first_page;
  paged = one_paged home (take 8 written_since) (setting_x 2 7) x (box 7) refl refl;
}

pub exact_since : exact home written_since
exact_since = exact-end home (take 8 written_since) (E (set_x 2 7)) has_read_it sets

pub exact_refusing : exact home refusing
exact_refusing = exact-end home written_since (M (the.Refused 2 (Some (second_reads 3 0)) (refused.Reason (reasons.Stale x 2)))) exact_since (refl, refl)

-- ---- a new object

has_page : exact home (take 5 creating)
has_page = search rules

creates : ItemIsExact home (take 5 creating) (E (create_z 1))
creates = record {
  accepted = refl;
  client = refl;
  upto = omega arith;
  granted = one_granted home (take 5 creating) (creating_z 1) z (box 7) refl second_page;
  paged = one_paged home (take 5 creating) (creating_z 1) z (box 7) refl refl;
}

pub exact_creating : exact home creating
exact_creating = exact-end home (take 5 creating) (E (create_z 1)) has_page creates

-- ---- a decision

draws : exact home (take 5 deciding)
draws = search rules

prepares : ItemIsExact home (take 5 deciding) (E (prepare_x 1 5))
prepares = record {
  accepted = refl;
  client = refl;
  upto = omega arith;
  granted = one_granted home (take 5 deciding) (preparing_x 1 5) x (box 5) refl first_page;
  paged = one_paged home (take 5 deciding) (preparing_x 1 5) x (box 5) refl refl;
}

has_prepared : exact home (take 6 deciding)
has_prepared = exact-end home (take 5 deciding) (E (prepare_x 1 5)) draws prepares

has_decided : exact home deciding
has_decided = exact-end home (take 6 deciding) (E (Decided (at 1) true)) has_prepared refl

pub exact_forgetting : exact home forgetting
exact_forgetting = exact-end home deciding (M (the.Forgot (at 1))) has_decided refl
