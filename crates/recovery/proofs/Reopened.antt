-- Whether a log prepares what is decided, record by record.
use Rattle.std.proofs.Common.{◌≡◌, Bool, List, None, Option, Some, [], ◌∷◌, ◌++◌, ap, false, get_or, length, map, refl, sym, take, true, ℕ, ◌+◌, ◌<◌, ◌||◌, ◌∙◌}
use Rattle.std.proofs.lemmas.Map.Made.{is_some-lookup}
use Rattle.std.specs.BTreeMap.{is_at}
use Rattle.std.specs.List.{fold, list_any}
use Rattle.std.specs.Option.{is_some, option_and_then}
use Rattle.repo_state.specs.Keeps.{Keeps}
use Rattle.repo_state.specs.Said.{said}
use Rattle.repo_state.specs.declared.held.Held.{Held}
use Rattle.log_codec.specs.Checkpoint.{state_format}
use Rattle.log_codec.specs.Format.{value_of}
use Rattle.log_codec.specs.Grammar.{body_format}
use Rattle.log_codec.specs.declared.body.Body.{Body}
use Rattle.log_codec.specs.declared.state.State.{State}
use Rattle.log_frame.specs.Log.{Opened}
use Rattle.recovery.proofs.Read.{map_push, taken_next}
use Rattle.recovery.specs.Damage.{put_on}
use Rattle.recovery.specs.Reopening.{prepares_kept, prepares_kept_behind, put_read, reopened, reopens_in}
use Rattle.commit_log.specs.Recovered.{whole}
use Rattle.thor_value.specs.FiniteMap.{get}
use Rattle.thor_value.specs.Names.{same_ts, ts_cmp}
use Rattle.thor_value.specs.declared.names.Ts.{Ts}
use Rattle.two_phase.proofs.Lists.{lookup_those}
use Rattle.two_phase.specs.Contents.{keeps}
use Rattle.two_phase.specs.Lists.{decision_of, those}
use Rattle.two_phase.specs.declared.transaction.Transaction.TheVariants as kept
use Rattle.two_phase.specs.declared.transaction.Transaction.{Transaction}

-- ---- by memory

is_decided : (o : Option Transaction) → keeps o ≡ is_some (option_and_then decision_of o)
is_decided None = refl
is_decided (Some (kept.Open q)) = refl
is_decided (Some kept.Kept) = refl

-- a decision is kept in memory where the log's state has it
pub kept_said : (h : Held) (t : Ts) → Keeps h → keeps (get h.table.transactions t) ≡ list_any (same_ts t) (said h).kept
kept_said h t keeps_h =
    is_decided (get h.table.transactions t)
    ∙ ap (λ (o : Option (Unit {0})). is_some o) (sym (lookup_those decision_of t h.table.transactions.pairs keeps_h.table.sorted))
    ∙ is_some-lookup (is_at (ts_cmp t)) (those decision_of h.table.transactions.pairs)

-- ---- record by record

or_false : (b : Bool) → (b || false) ≡ b
or_false true = refl
or_false false = refl

or_again : (a b c : Bool) → (a || (b || c)) ≡ ((a || b) || c)
or_again true b c = refl
or_again false b c = refl

one_more : (o : Option State) (bodies : List (Option Body)) (b : Option Body) → reopened o (bodies ++ b ∷ []) ≡ (reopened o bodies || prepares_kept_behind (fold put_read o bodies) b)
one_more o [] b = or_false (prepares_kept_behind o b)
one_more o (c ∷ cs) b =
    ap (λ (x : Bool). prepares_kept_behind o c || x) (one_more (put_read o c) cs b)
    ∙ or_again (prepares_kept_behind o c) (reopened (put_read o c) cs) (prepares_kept_behind (fold put_read (put_read o c) cs) b)

put_all_read : (o : Option State) (bodies : List Body) → fold put_read o (map Some bodies) ≡ fold put_on o bodies
put_all_read o [] = refl
put_all_read o (b ∷ bs) = put_all_read (put_on o b) bs

-- one body more is put
pub reopens_next : (o : Option State) (t : State) (bodies : List Body) (n : ℕ) (b : Body) (first so_far now : Bool) → n < length bodies → b ≡ get_or bodies n b → fold put_on o (take n bodies) ≡ Some t
    → so_far ≡ (first || reopened o (map Some (take n bodies))) → now ≡ (so_far || prepares_kept t b) → now ≡ (first || reopened o (map Some (take (n + 1) bodies)))
reopens_next o t bodies n b first so_far now within is stands was one =
    one
    ∙ ap (λ (x : Bool). x || prepares_kept t b) was
    ∙ sym (or_again first (reopened o (map Some (take n bodies))) (prepares_kept t b))
    ∙ ap (λ (x : Bool). first || x) (ap (λ (s : Option State). reopened o (map Some (take n bodies)) || prepares_kept_behind s (Some b)) (sym stands ∙ sym (put_all_read o (take n bodies)))
    ∙ sym (one_more o (map Some (take n bodies)) (Some b))
    ∙ ap (reopened o) (sym (ap (λ (bs : List Body). map Some bs) (taken_next bodies n b within is) ∙ map_push Some (take n bodies) b)))

-- ---- the whole log

-- by its checkpoint and its bodies
pub reopens_is : (o : Opened) (s : State) (bodies : List Body) (told : Bool) → value_of state_format o.head ≡ Some s → map (value_of body_format) o.bodies ≡ map Some bodies → told ≡ reopened (whole s) (map Some bodies) → told ≡ reopens_in o
reopens_is o s bodies told head records is =
    is
    ∙ ap (λ (bs : List (Option Body)). reopened (whole s) bs) (sym records)
    ∙ ap (λ (h : Option State). reopened (option_and_then whole h) (map (value_of body_format) o.bodies)) (sym head)
