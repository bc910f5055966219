-- What a log says of installed pages, whether it can be taken into memory or not.
use Rattle.class_defs.specs.Stored.{Objects}
use Rattle.commit_log.proofs.Formats.{format_stays}
use Rattle.commit_log.proofs.Holding.{chosen_of, is_log, stands_of}
use Rattle.commit_log.specs.Holds.{Holds, beside}
use Rattle.commit_log.specs.Opening.{Found, IsTorn, log_of}
use Rattle.commit_log.specs.Recovered.{after, after_body, can_follow, changed, closed, decided, is_whole, kept_by, log_in, next, replayed, request_at, sequence_end, stands, state_in, whole, chosen}
use Rattle.disk_trait.proofs.Several.{goes_one, goes_then, settled_still}
use Rattle.disk_trait.specs.AllDisks.{AllSettled, GoesOn, ReadsAs}
use Rattle.disk_trait.specs.Disks.{Disks, Rose}
use Rattle.log_codec.specs.Checkpoint.{state_format}
use Rattle.log_codec.specs.Format.{value_of}
use Rattle.log_codec.specs.Grammar.{body_format}
use Rattle.log_codec.specs.declared.body.Body.TheVariants.{Entry as AnEntry, Installed}
use Rattle.log_codec.specs.declared.body.Body.{Body}
use Rattle.log_codec.specs.declared.state.State.{State}
use Rattle.log_entries.specs.declared.entry.Entry.TheVariants.{Decided, Finished, Life, One, Prepared, Upgraded}
use Rattle.log_entries.specs.declared.entry.Entry.{Entry}
use Rattle.log_entries.specs.declared.request.Request.{Request}
use Rattle.log_frame.specs.Log.{Opened, Place, Stands, read_log}
use Rattle.page_format.specs.Formats.{page_size_in}
use Rattle.page_format.specs.declared.format.StoreFormat.{StoreFormat}
use Rattle.page_store.specs.Sides.{place_in}
use Rattle.page_store.specs.declared.fault.StoreFault.TheVariants as of_page
use Rattle.page_store.specs.declared.fault.StoreFault.{StoreFault}
use Rattle.recovery.specs.Paged.{AreObjectPages, HasSide, Stays}
use Rattle.repo_opening.proofs.Paging.{next_first}
use Rattle.repo_opening.specs.Paged.{PutsPaged}
use Rattle.repo_opening.specs.Recovered.{HasBytes}
use Rattle.repo_opening.specs.Told.{page_fault_of}
use Rattle.recovery.specs.Found.{recorded}
use Rattle.recovery.specs.Reopening.{reopens}
use Rattle.recovery.specs.declared.recovered.Recovered.{Recovered}
use Rattle.repo_opening.specs.Unsound.{AreNoLogs, Failing, HasPages, Installs, IsNoPage, IsNoSide, IsUnsound, LacksPage, OfLogs, OfOther, OfPage, said_pages, said_sides, side_put, sides_behind, sides_in}
use Rattle.repo_opening.specs.declared.unopened.Unopened.TheVariants.{Damaged, Failed, NoMemory}
use Rattle.repo_opening.specs.declared.unopened.Unopened.{Unopened}
use Rattle.std.proofs.Common.{Bool, Err, List, None, Ok, Option, Result, Some, [], ap, arith, cond, false, get_or, inl, inr, length, nat_lt, refl, slice_get, subst, suc, sym, take, true, zero, ◌+◌, ◌<◌, ◌∙◌, ◌≡◌, ◌≤◌, ◌⊎◌, ◌≢◌, ◌∷◌, ℕ}
use Rattle.std.proofs.lemmas.List.Sums.{fold-append}
use Rattle.std.proofs.lemmas.Option.{same_Some, slice_get-get_or}
use Rattle.std.specs.List.{fold}
use Rattle.std.specs.Option.{option_and_then, option_map}
use Rattle.thor_value.specs.declared.names.Ts.{Ts}

-- ---- a log that stands for a state says the pages of the state

decided_installed : (s : State) (commit : Bool) (q : Option Request) → (decided s commit q).installed ≡ s.installed
decided_installed s commit None = refl
decided_installed s false (Some q) = refl
decided_installed s true (Some q) = refl

kept_installed : (s : State) (t : Ts) (commit : Bool) → (kept_by s t commit).installed ≡ s.installed
kept_installed s t true = refl
kept_installed s t false = refl

changed_installed : (s : State) (e : Entry) → (changed s e).installed ≡ s.installed
changed_installed s (Life n) = refl
changed_installed s (One q) = refl
changed_installed s (Upgraded q) = refl
changed_installed s (Prepared q) = refl
changed_installed s (Decided t commit) = kept_installed (closed s t commit) t commit ∙ decided_installed s commit (request_at s.prepared t)
changed_installed s (Finished t commit) = decided_installed s commit (request_at s.prepared t)

after_installed : (s : State) (b : Body) → (after s b).installed ≡ side_put s.installed b
after_installed s (AnEntry e) = changed_installed s e
after_installed s (Installed page side) = refl

-- what is said of the pages of a state, behind these records
abbrev Say : List (List ℕ) → State → State → Type 0
Say bodies t s = (fold sides_behind (Some t.installed) bodies ≡ Some s.installed) × (s.format ≡ t.format)

none_stays : (bodies : List (List ℕ)) → fold after_body None bodies ≡ None
none_stays [] = refl
none_stays (b ∷ bs) = none_stays bs

not_none : {A : Type 0} (bodies : List (List ℕ)) (s : State) → fold after_body None bodies ≡ Some s → A
not_none bodies s is = absurd (let no : ◌≡◌ {A = Option State} None (Some s) = sym (none_stays bodies) ∙ is in cc)

follow : (t s : State) (bs : List (List ℕ)) (b : Body) (c : Bool) → ((u : State) → fold after_body (Some u) bs ≡ Some s → Say bs u s) → fold after_body (cond c (Some (after t b)) None) bs ≡ Some s → (fold sides_behind (Some (side_put t.installed b)) bs ≡ Some s.installed) × (s.format ≡ t.format)
follow t s bs b false rest is = not_none bs s is
follow t s bs b true rest is =
    let r = rest (after t b) is in
    (subst (λ (sides : Installs). fold sides_behind (Some sides) bs ≡ Some s.installed) (after_installed t b) r.0, r.1 ∙ format_stays t b)

step : (t s : State) (bs : List (List ℕ)) (v : Option Body) → ((u : State) → fold after_body (Some u) bs ≡ Some s → Say bs u s) → fold after_body (option_and_then (next t) v) bs ≡ Some s → (fold sides_behind (option_map (side_put t.installed) v) bs ≡ Some s.installed) × (s.format ≡ t.format)
step t s bs None rest is = not_none bs s is
step t s bs (Some b) rest is = follow t s bs b (can_follow t b) rest is

behind : (bodies : List (List ℕ)) (t s : State) → fold after_body (Some t) bodies ≡ Some s → Say bodies t s
behind [] t s is =
    let same : t ≡ s = same_Some t s is in
    (ap (λ (u : State). Some u.installed) same, ap (λ (u : State). u.format) (sym same))
behind (b ∷ bs) t s is = step t s bs (value_of body_format b) (λ u rest. behind bs u s rest) is

begun : (bodies : List (List ℕ)) (t s : State) (c : Bool) → fold after_body (cond c (Some t) None) bodies ≡ Some s → sides_in bodies t ≡ Some (s.format, s.installed)
begun bodies t s false is = not_none bodies s is
begun bodies t s true is =
    let said = behind bodies t s is in
    ap (λ (sides : Option Installs). option_map (λ qs. (t.format, qs)) sides) said.0 ∙ ap (λ (f : StoreFormat). Some (f, s.installed)) (sym said.1)

by_head : (bodies : List (List ℕ)) (h : Option State) (s : State) → fold after_body (option_and_then whole h) bodies ≡ Some s → option_and_then (sides_in bodies) h ≡ Some (s.format, s.installed)
by_head bodies None s is = not_none bodies s is
by_head bodies (Some t) s is = begun bodies t s (is_whole t) is

by_sequence : (c : Bool) (o : Opened) (s : State) → cond c (replayed o.head o.bodies) None ≡ Some s → cond c (option_and_then (sides_in o.bodies) (value_of state_format o.head)) None ≡ Some (s.format, s.installed)
unfolding replayed
by_sequence true o s is = by_head o.bodies (value_of state_format o.head) s is
by_sequence false o s is = cc

by_log : (x : Option Opened) (s : State) → option_and_then state_in x ≡ Some s → option_and_then said_sides x ≡ Some (s.format, s.installed)
by_log None s is = cc
by_log (Some o) s is = by_sequence (nat_lt o.sequence sequence_end) o s is

pub said_of : (images : ℕ → List ℕ) (s : State) → stands images ≡ Some s → said_pages images ≡ Some (s.format, s.installed)
said_of images s is = by_log (log_in images) s is

-- ---- what is found says it

pub said_found : (images : ℕ → List ℕ) (found : Option Found) → log_in images ≡ option_map log_of found → said_pages images ≡ option_and_then (λ f. said_sides (log_of f)) found
said_found images None is = ap (λ (x : Option Opened). option_and_then said_sides x) is
said_found images (Some f) is = ap (λ (x : Option Opened). option_and_then said_sides x) is

damaged_second : (x : Option (Result Opened ℕ)) (place : ℕ) → chosen x (Some (Err place)) ≡ None
damaged_second None place = refl
damaged_second (Some (Ok a)) place = refl
damaged_second (Some (Err p)) place = refl

torn_log : (images : ℕ → List ℕ) (d place : ℕ) → IsTorn images d place → log_in images ≡ None
torn_log images zero place torn = subst (λ (r : Option (Result Opened ℕ)). chosen r (read_log (images 1)) ≡ None) (sym torn.1) refl
torn_log images (suc zero) place torn = subst (λ (r : Option (Result Opened ℕ)). chosen (read_log (images 0)) r ≡ None) (sym torn.1) (damaged_second (read_log (images 0)) place)
torn_log images (suc (suc d)) place torn = absurd (omega (arith, torn.0))

-- of a torn log no page is said
pub torn_pages : (images : ℕ → List ℕ) (repo d place : ℕ) → IsTorn images d place → HasPages repo (images 2) (said_pages images)
torn_pages images repo d place torn =
    let none : said_pages images ≡ None = ap (λ (x : Option Opened). option_and_then said_sides x) (torn_log images d place torn) in
    subst (HasPages repo (images 2)) (sym none) tt

pub sides_next : (o : Option Installs) (records : List (List ℕ)) (n : ℕ) (body : List ℕ) (sides now' : Option Installs) → n < length records → body ≡ get_or records n body → sides ≡ fold sides_behind o (take n records) → now' ≡ sides_behind sides body → now' ≡ fold sides_behind o (take (n + 1) records)
sides_next o records n body sides now' within is so_far more =
    more ∙ ap (λ (x : Option Installs). sides_behind x body) so_far ∙ sym (fold-append sides_behind o (take n records) (body ∷ [])) ∙ ap (λ (xs : List (List ℕ)). fold sides_behind o xs) (sym (next_first records n body within is))

-- ---- faults

pub same_err : {T E : Type 0} (r : Result T E) (a b : E) → r ≡ Err a → r ≡ Err b → a ≡ b
same_err r a b is e = cc

same_repo : (a b d e p q : ℕ) → Damaged a d p ≡ Damaged b e q → a ≡ b
same_repo a b d e p q is = cc

same_disk : (a b d e p q : ℕ) → Damaged a d p ≡ Damaged b e q → d ≡ e
same_disk a b d e p q is = cc

same_place : (a b d e p q : ℕ) → Damaged a d p ≡ Damaged b e q → p ≡ q
same_place a b d e p q is = cc

failed_repo : (a b : ℕ) → Failed a ≡ Failed b → a ≡ b
failed_repo a b is = cc

-- one fault is told
pub damaged_is : (a b d e p q : ℕ) → Damaged a d p ≡ Damaged b e q → (b ≡ a) × (e ≡ d) × (q ≡ p)
damaged_is a b d e p q is = (sym (same_repo a b d e p q is), sym (same_disk a b d e p q is), sym (same_place a b d e p q is))

pub page_damaged : (repo : ℕ) (fault : StoreFault) (r d place : ℕ) → page_fault_of repo fault ≡ Damaged r d place → (r ≡ repo) × (d ≡ 2) × (fault ≡ of_page.Damaged place)
page_damaged repo of_page.Failed r d place is = cc
page_damaged repo (of_page.Damaged p) r d place is =
    let same = damaged_is repo r 2 d p place is in
    (same.0, same.1, ap (λ (x : ℕ). of_page.Damaged x) (sym same.2))
page_damaged repo of_page.NoMemory r d place is = cc

pub page_failed : (repo : ℕ) (fault : StoreFault) (r : ℕ) → page_fault_of repo fault ≡ Failed r → (r ≡ repo) × (fault ≡ of_page.Failed)
page_failed repo of_page.Failed r is = (sym (failed_repo repo r is), refl)
page_failed repo (of_page.Damaged p) r is = cc
page_failed repo of_page.NoMemory r is = cc

-- the disk of pages ends before the end of a side
pub past_end : (format : StoreFormat) (disks : Disks) (installed : ℕ × ℕ) (size : ℕ) (disk : List ℕ) → HasBytes disks size → disks.content 2 ≡ Some disk → size < place_in format installed.0 installed.1 + page_size_in format → HasSide format disk installed → ⊥
past_end format disks installed size disk has told small side =
    let e : size ≡ length disk = has.told disk told in
    omega (arith, e, small, side)

-- the first page that isn't one
pub no_page : (format : StoreFormat) (repo : ℕ) (disk : List ℕ) (sides items : Installs) (i : ℕ) (d : ℕ × ℕ) (old new : Objects) (place : ℕ) → items ≡ sides → i < length items → PutsPaged format repo disk (take i sides) old new → place ≡ place_in format (get_or items i d).0 (get_or items i d).1 → IsNoSide format repo disk (get_or items i d) → IsNoPage format repo disk sides place
no_page format repo disk sides items i d old new place same within puts at none = record {
  at = i;
  page = get_or items i d;
  is = subst (λ (qs : Installs). slice_get qs i ≡ Some (get_or items i d)) same (slice_get-get_or items i d within);
  before = record { objects = puts.objects; paged = puts.paged };
  none = none;
  place_is = at;
}

pub rose_later : (a b c : ℕ) → a ≤ b → Rose b c → Rose a c
rose_later a b c before rose = λ small. let r = rose small in omega (arith, before, r)

-- the disk of pages failed
pub pages_fail : (old new : Disks) → Rose (old.faults 2) (new.faults 2) → Failing old new
pages_fail old new rose = record { disk = 2; within = omega arith; rose = rose }

-- where the disk of pages was read alone
pub settled_on : (old new : Disks) → AllSettled old → Stays old new → AllSettled new
settled_on old new settled stays = settled_still old new 2 (omega arith) stays.alone stays.content stays.crash settled

pub goes_on : (old mid new : Disks) → GoesOn old mid → Stays mid new → GoesOn old new
goes_on old mid new goes stays = goes_then old mid new goes (goes_one mid new 2 stays.alone)

-- the fault of this repository
pub failed_as : {X : Type 0} (a b : ℕ) → ◌≡◌ {A = Result X Unopened} (Err (Failed a)) (Err (Failed b)) → b ≡ a
failed_as a b is = cc

-- the logs are told, or a page
pub told_logs : (images : ℕ → List ℕ) (repo a b d place : ℕ) → AreNoLogs images a b
    → ((d ≡ a) × (place ≡ b) × HasPages repo (images 2) (said_pages images)) ⊎ ((d ≡ 2) × LacksPage repo (images 2) place (said_pages images))
    → (AreNoLogs images d place × HasPages repo (images 2) (said_pages images)) ⊎ ((d ≡ 2) × LacksPage repo (images 2) place (said_pages images))
told_logs images repo a b d place damaged told = elim told [
  | inl logs ↦ inl (subst (λ (n : ℕ). AreNoLogs images n place) (sym logs.0) (subst (λ (n : ℕ). AreNoLogs images a n) (sym logs.1) damaged), logs.2)
  | inr page ↦ inr page
]

-- and so of the repository
pub unsound_of : (images : ℕ → List ℕ) (repo repos d place : ℕ) → (AreNoLogs images d place × HasPages repo (images 2) (said_pages images)) ⊎ ((d ≡ 2) × LacksPage repo (images 2) place (said_pages images)) → IsUnsound repo repos images d place
unsound_of images repo repos d place told = elim told [
  | inl logs ↦ OfLogs logs.0 logs.1
  | inr page ↦ OfPage page.0 page.1
]

-- ---- what was recovered

-- pages that were read of what a repository stands for
pub has_said : (images : ℕ → List ℕ) (s : State) (repo : ℕ) (sides : Installs) (old new : Objects) → stands images ≡ Some s → sides ≡ s.installed → PutsPaged s.format repo (images 2) sides old new → HasPages repo (images 2) (said_pages images)
has_said images s repo sides old new is same puts =
    let all : AreObjectPages s.format repo s.installed (images 2) = subst (λ (qs : Installs). AreObjectPages s.format repo qs (images 2)) same (record { objects = puts.objects; paged = puts.paged }) in
    subst (HasPages repo (images 2)) (sym (said_of images s is)) all

-- or one that isn't one
pub lacks_said : (images : ℕ → List ℕ) (s : State) (repo place : ℕ) (sides : Installs) → stands images ≡ Some s → sides ≡ s.installed → IsNoPage s.format repo (images 2) sides place → LacksPage repo (images 2) place (said_pages images)
lacks_said images s repo place sides is same none =
    let one : IsNoPage s.format repo (images 2) s.installed place = subst (λ (qs : Installs). IsNoPage s.format repo (images 2) qs place) same none in
    subst (LacksPage repo (images 2) place) (sym (said_of images s is)) one

-- the checkpoint of another repository
pub other_is : (disks : Disks) (images : ℕ → List ℕ) (log : Place) (s : State) (repo repos d place : ℕ) → Holds disks log s → ReadsAs disks images → d ≡ log.disk → place ≡ 0
    → (s.repo ≢ repo) ⊎ (s.repos ≢ repos) ⊎ (reopens images ≡ true) → HasPages repo (images 2) (said_pages images) → IsUnsound repo repos images d place
other_is disks images log s repo repos d place holds reads on at other has =
    let here = reads log.disk (omega (arith, holds.within)) in
    let agrees = holds.agrees (images log.disk) here in
    let beside_log = is_log log.disk holds.within in
    let h = holds.told (images log.disk) (images (beside log.disk)) here (reads (beside log.disk) (omega (arith, beside_log))) agrees.opened agrees.stands in
    OfOther (record {
      log = agrees.opened;
      counts = chosen_of log.disk images agrees.opened holds.within agrees.stands h.under;
      on = subst (λ (n : ℕ). Stands (images n) agrees.opened) (sym on) agrees.stands;
      state = s;
      is = stands_of log.disk images agrees.opened s holds.within agrees.stands h.under h.state;
      other = other;
    }) at has

pub reopened_as : (repo repos : ℕ) (r : Recovered) (images : ℕ → List ℕ) → r.reopens ≡ reopens images → (r.state.repo ≢ repo) ⊎ (r.state.repos ≢ repos) ⊎ (r.reopens ≡ true) → ((recorded r).repo ≢ repo) ⊎ ((recorded r).repos ≢ repos) ⊎ (reopens images ≡ true)
reopened_as repo repos r images same other = elim other [
  | inl number ↦ inl number
  | inr rest ↦ elim rest [
    | inl count ↦ inr (inl count)
    | inr again ↦ inr (inr (sym same ∙ again))
  ]
]
