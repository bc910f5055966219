use Rattle.cached_sets.specs.Sets.{Sets, told_of}
use Rattle.cached_sets.specs.declared.marked.Marked.{Marked}
use Rattle.link_table.specs.Pairs.{lefts}
use Rattle.repo_sessions.proofs.Gathering.{all_gathered}
use Rattle.repo_sessions.proofs.Told.{told_writes}
use Rattle.repo_sessions.proofs.sessions.Sessions.tell_writes.Goals as goal
use Rattle.repo_sessions.specs.Noting.{AreNoted, IsGathered, Named, named, noted_all}
use Rattle.std.proofs.Common.{List, ap, map, nat_eq, refl, subst, sym, ◌∙◌, ℕ}
use Rattle.std.proofs.lemmas.Result.{on_ok_weaker}
use Rattle.std.specs.List.{IsDistinct}
use Rattle.std.specs.Map.{keys_of}
use Rattle.thor_value.specs.FiniteMap.{empty}
use Rattle.thor_value.specs.declared.names.Oref.{Oref}

pub returns-clause-news : goal.returns-clause-news
returns-clause-news c =
    let C : List (ℕ × ℕ) = c.self.inside.sets.cached in
    let names : List Oref = keys_of c.args.writes.now in
    let es = c.in_ok-holders.holders.entries in
    let apart : (page : ℕ) → IsDistinct nat_eq (lefts C page) = subst (λ (S : Sets). (page : ℕ) → IsDistinct nat_eq (lefts S.cached page)) c.in_ok-marks.ensures.ok c.holders_are_apart.ensures in
    let held : IsGathered C c.args.writer names (named es) = subst (λ (N : Named). IsGathered C c.args.writer names N) (sym (c.in_ok-holders.ensures ∙ ap (λ (ms : List Marked). noted_all empty (map told_of ms)) c.as_slice.ensures.value ∙ ap (λ (ts : List (ℕ × Oref)). noted_all empty ts) c.in_ok-marks.ensures.marks)) (all_gathered C c.args.writer names apart) in
    let noted = subst (λ (S : Sets). AreNoted S c.note_all.new.sets (keys_of es) c.args.place c.in_ok-silent.silent.items) c.in_ok-marks.ensures.ok c.in_ok-silent.ensures in
    rw (← c.self.view_is) (on_ok_weaker c.retire_all.result (λ rest. told_writes _ _ _ c.args.writer names c.args.place es c.in_ok-silent.silent.items (record { clients = refl; live = refl; retired = refl; last = refl }) noted held c.in_ok-send_names.ensures rest) c.retire_all.ensures.ok)
