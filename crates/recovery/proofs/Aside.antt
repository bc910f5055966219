-- A log of an older format is read as one of the format that is written.
use Rattle.std.proofs.Common.{◌≡◌, Bool, List, None, Option, Some, [], ◌∷◌, ap, refl, sym, ◌||◌, ◌∙◌}
use Rattle.std.specs.List.{fold}
use Rattle.std.specs.Option.{option_map}
use Rattle.commit_log.proofs.Formats.{next_aside, whole_aside}
use Rattle.commit_log.specs.Recovered.{in_format, whole}
use Rattle.log_codec.specs.declared.body.Body.TheVariants.{Entry as AnEntry, Installed}
use Rattle.log_codec.specs.declared.body.Body.{Body}
use Rattle.log_codec.specs.declared.state.State.{State}
use Rattle.log_entries.specs.declared.entry.Entry.TheVariants.{Decided, Finished, Life, One, Prepared, Upgraded}
use Rattle.page_format.specs.declared.format.StoreFormat.{StoreFormat}
use Rattle.page_format.specs.declared.format.StoreFormat.TheVariants.{Two}
use Rattle.recovery.specs.Damage.{put_on}
use Rattle.recovery.specs.Reopening.{prepares_kept_behind, put_read, reopened}

put_aside : (f : StoreFormat) (o : Option State) (b : Body) → put_on (option_map (in_format f) o) b ≡ option_map (in_format f) (put_on o b)
put_aside f None b = refl
put_aside f (Some s) b = next_aside f s b

all_aside : (f : StoreFormat) (o : Option State) (bodies : List Body) → fold put_on (option_map (in_format f) o) bodies ≡ option_map (in_format f) (fold put_on o bodies)
all_aside f o [] = refl
all_aside f o (b ∷ bs) = ap (λ (p : Option State). fold put_on p bs) (put_aside f o b) ∙ all_aside f (put_on o b) bs

-- a state's own format is put back
begins : (s : State) → whole s ≡ option_map (in_format s.format) (whole (in_format Two s))
begins s = whole_aside s.format (in_format Two s)

behind : (s : State) (bodies : List Body) → fold put_on (whole s) bodies ≡ option_map (in_format s.format) (fold put_on (whole (in_format Two s)) bodies)
behind s bodies = ap (λ (o : Option State). fold put_on o bodies) (begins s) ∙ all_aside s.format (whole (in_format Two s)) bodies

-- what memory comes to is what the log says, of its own format
pub recorded_is : (s t : State) (bodies : List Body) → fold put_on (whole (in_format Two s)) bodies ≡ Some t → fold put_on (whole s) bodies ≡ Some (in_format s.format t)
recorded_is s t bodies is = behind s bodies ∙ ap (λ (o : Option State). option_map (in_format s.format) o) is

pub recorded_none : (s : State) (bodies : List Body) → fold put_on (whole (in_format Two s)) bodies ≡ None → fold put_on (whole s) bodies ≡ None
recorded_none s bodies is = behind s bodies ∙ ap (λ (o : Option State). option_map (in_format s.format) o) is

-- ---- transactions that are prepared behind their decision

kept_aside : (f : StoreFormat) (o : Option State) (b : Option Body) → prepares_kept_behind (option_map (in_format f) o) b ≡ prepares_kept_behind o b
kept_aside f None b = refl
kept_aside f (Some s) None = refl
kept_aside f (Some s) (Some (AnEntry (Life n))) = refl
kept_aside f (Some s) (Some (AnEntry (One q))) = refl
kept_aside f (Some s) (Some (AnEntry (Upgraded q))) = refl
kept_aside f (Some s) (Some (AnEntry (Prepared q))) = refl
kept_aside f (Some s) (Some (AnEntry (Decided t c))) = refl
kept_aside f (Some s) (Some (AnEntry (Finished t c))) = refl
kept_aside f (Some s) (Some (Installed page side)) = refl

read_aside : (f : StoreFormat) (o : Option State) (b : Option Body) → put_read (option_map (in_format f) o) b ≡ option_map (in_format f) (put_read o b)
read_aside f None b = refl
read_aside f (Some s) None = refl
read_aside f (Some s) (Some b) = next_aside f s b

reopened_aside : (f : StoreFormat) (o : Option State) (bodies : List (Option Body)) → reopened (option_map (in_format f) o) bodies ≡ reopened o bodies
reopened_aside f o [] = refl
reopened_aside f o (b ∷ bs) =
    ap (λ (x : Bool). x || reopened (put_read (option_map (in_format f) o) b) bs) (kept_aside f o b)
    ∙ ap (λ (x : Bool). prepares_kept_behind o b || x) (ap (λ (p : Option State). reopened p bs) (read_aside f o b) ∙ reopened_aside f (put_read o b) bs)

pub reopened_is : (s : State) (bodies : List (Option Body)) → reopened (whole (in_format Two s)) bodies ≡ reopened (whole s) bodies
reopened_is s bodies = sym (ap (λ (o : Option State). reopened o bodies) (begins s) ∙ reopened_aside s.format (whole (in_format Two s)) bodies)
