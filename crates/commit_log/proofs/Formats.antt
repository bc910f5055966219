-- What records do to a state doesn't look at its format.
use Rattle.std.proofs.Common.{◌≡◌, Bool, None, Option, Some, ap, cond, false, refl, true, ◌+◌, ◌∙◌}
use Rattle.std.specs.Option.{option_map}
use Rattle.commit_log.specs.Recovered.{after, can_follow, changed, closed, decided, in_format, is_whole, kept_by, next, opened_without, request_at, whole}
use Rattle.log_codec.specs.declared.body.Body.TheVariants.{Entry as AnEntry, Installed}
use Rattle.log_codec.specs.declared.body.Body.{Body}
use Rattle.log_codec.specs.declared.state.State.{State}
use Rattle.log_entries.specs.declared.entry.Entry.TheVariants.{Decided, Finished, Life, One, Prepared, Upgraded}
use Rattle.log_entries.specs.declared.entry.Entry.{Entry}
use Rattle.log_entries.specs.declared.request.Request.{Request}
use Rattle.page_format.specs.declared.format.StoreFormat.{StoreFormat}
use Rattle.thor_value.specs.declared.names.Ts.{Ts}

decided_aside : (f : StoreFormat) (s : State) (commit : Bool) (q : Option Request) → decided (in_format f s) commit q ≡ in_format f (decided s commit q)
decided_aside f s commit None = refl
decided_aside f s false (Some q) = refl
decided_aside f s true (Some q) = refl

closed_aside : (f : StoreFormat) (s : State) (t : Ts) (commit : Bool) → closed (in_format f s) t commit ≡ in_format f (closed s t commit)
closed_aside f s t commit = ap (λ (u : State). record u { prepared = opened_without s.prepared t }) (decided_aside f s commit (request_at s.prepared t))

kept_aside : (f : StoreFormat) (s : State) (t : Ts) (commit : Bool) → kept_by (in_format f s) t commit ≡ in_format f (kept_by s t commit)
kept_aside f s t true = refl
kept_aside f s t false = refl

changed_aside : (f : StoreFormat) (s : State) (e : Entry) → changed (in_format f s) e ≡ in_format f (changed s e)
changed_aside f s (Life n) = refl
changed_aside f s (One q) = refl
changed_aside f s (Upgraded q) = refl
changed_aside f s (Prepared q) = refl
changed_aside f s (Decided t commit) = ap (λ (u : State). kept_by u t commit) (closed_aside f s t commit) ∙ kept_aside f (closed s t commit) t commit
changed_aside f s (Finished t commit) = closed_aside f s t commit

after_aside : (f : StoreFormat) (s : State) (b : Body) → after (in_format f s) b ≡ in_format f (after s b)
after_aside f s (AnEntry e) = ap (λ (u : State). record u { count = s.count + 1 }) (changed_aside f s e)
after_aside f s (Installed page side) = refl

-- a record leaves the format as it is
pub format_stays : (s : State) (b : Body) → (after s b).format ≡ s.format
format_stays s b = ap (λ (u : State). u.format) (after_aside s.format s b)

follow_aside : (f : StoreFormat) (s : State) (b : Body) → can_follow (in_format f s) b ≡ can_follow s b
follow_aside f s (AnEntry e) = refl
follow_aside f s (Installed page side) = refl

where_so : (c : Bool) (f : StoreFormat) (u v : State) → u ≡ in_format f v → cond c (Some u) None ≡ option_map (in_format f) (cond c (Some v) None)
where_so true f u v is = ap (λ (x : State). Some x) is
where_so false f u v is = refl

-- a record is put behind a state in any format
pub next_aside : (f : StoreFormat) (s : State) (b : Body) → next (in_format f s) b ≡ option_map (in_format f) (next s b)
next_aside f s b = ap (λ (c : Bool). cond c (Some (after (in_format f s) b)) None) (follow_aside f s b) ∙ where_so (can_follow s b) f (after (in_format f s) b) (after s b) (after_aside f s b)

-- and a log begins with one
pub whole_aside : (f : StoreFormat) (s : State) → whole (in_format f s) ≡ option_map (in_format f) (whole s)
whole_aside f s = where_so (is_whole s) f (in_format f s) s refl
