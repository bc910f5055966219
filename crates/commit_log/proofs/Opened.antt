-- The log that counts among what two disks opened as.
use Rattle.std.proofs.Common.{◌≡◌, ◌⊎◌, ℕ, zero, suc, ◌+◌, ◌<◌, List, Bool, true, false, nat_lt, cond, Option, Some, None, IfSome, Result, Ok, Err, refl, ap, sym, subst, arith, inl, inr}
use Rattle.std.proofs.lemmas.Bool.Decides.{nat_tests}
use Rattle.std.specs.Option.{option_and_then, option_map}
use Rattle.disk_trait.specs.Disks.{Disks, WhereTold}
use Rattle.log_frame.specs.Log.{Opened, Stands, Agrees, IsFound, read_log}
use Rattle.log_frame.proofs.LogAppends.{same_log}
use Rattle.log_codec.specs.declared.state.State.{State}
use Rattle.commit_log.specs.Recovered.{chosen, log_in, stands, state_in}
use Rattle.disk_trait.specs.AllDisks.{AllSettled}
use Rattle.commit_log.specs.Holds.{Under, Holding, Holds, beside}
use Rattle.commit_log.specs.Opening.{Found, IsOn, IsTorn, choice, log_of}
use Rattle.commit_log.proofs.Holding.{chosen_of}

-- a log that counts on this disk
pub holds_of : (disks : Disks) (d : ℕ) (f : Found) (s : State) → d < 2 → AllSettled disks → f.0.disk ≡ d → WhereTold disks d (λ bytes. IsFound d bytes (Some f)) → WhereTold disks (beside d) (λ other. Under d f.0.sequence (read_log other)) → state_in (log_of f) ≡ Some s → Holds disks f.0 s
holds_of disks d f s within settled on found under state = record {
  within = omega (arith, within, on);
  settled = settled;
  agrees = subst (λ (n : ℕ). WhereTold disks n (Agrees f.0)) (sym on) (λ bytes told. let is = found bytes told in record { opened = log_of f; stands = is.0; sequence = refl; end = is.2 });
  told = subst (λ (n : ℕ). (log other : List ℕ) → disks.content n ≡ Some log → disks.content (beside n) ≡ Some other → (opened : Opened) → Stands log opened → Holding n opened s other) (sym on)
      (λ log other told beside_told opened stood. subst (λ (o : Opened). Holding d o s other) (same_log log (log_of f) opened (found log told).0 stood) (record { under = under other beside_told; state = state }));
}

-- the other disk's log doesn't count beside this one
pub under_of : (d : ℕ) (sequence e : ℕ) (second : Option Found) (bytes : List ℕ) → IsFound e bytes second → ((g : Found) → second ≡ Some g → g.0.sequence < sequence + beside d) → Under d sequence (read_log bytes)
under_of d sequence e None bytes found less = inl found
under_of d sequence e (Some g) bytes found less = inr (log_of g, found.0, less g refl)

less_first : (f g : Found) → nat_lt f.0.sequence g.0.sequence ≡ false → g.0.sequence < f.0.sequence + 1
less_first f g test = grind (arith, nat_tests)

less_second : (f g : Found) → nat_lt f.0.sequence g.0.sequence ≡ true → f.0.sequence < g.0.sequence + 0
less_second f g test = let e : f.0.sequence < g.0.sequence = grind (arith, nat_tests) in omega (arith, e)

-- which of the two is chosen, and why the other one doesn't count
pub data Chose (first second : Option Found) (f : Found) : Type 0 where
  First : first ≡ Some f → ((g : Found) → second ≡ Some g → g.0.sequence < f.0.sequence + 1) → Chose first second f
  Second : second ≡ Some f → ((g : Found) → first ≡ Some g → g.0.sequence < f.0.sequence + 0) → Chose first second f

same_found : (a b : Found) → Some a ≡ Some b → a ≡ b
same_found a b is = cc

pub chose : (first second : Option Found) (f : Found) → choice first second ≡ Some f → Chose first second f
chose None second f is = Second is (λ g some. cc)
chose (Some a) None f is = First is (λ g some. cc)
chose (Some a) (Some b) f is = by (nat_lt a.0.sequence b.0.sequence) refl is
  where
    by : (t : Bool) → nat_lt a.0.sequence b.0.sequence ≡ t → cond t (Some b) (Some a) ≡ Some f → Chose (Some a) (Some b) f
    by true test is = Second is (λ g some. subst (λ (x : Found). x.0.sequence < f.0.sequence + 0) (same_found a g some) (subst (λ (y : Found). a.0.sequence < y.0.sequence + 0) (same_found b f is) (less_second a b test)))
    by false test is = First is (λ g some. subst (λ (x : Found). x.0.sequence < f.0.sequence + 1) (same_found b g some) (subst (λ (y : Found). b.0.sequence < y.0.sequence + 1) (same_found a f is) (less_first a b test)))

-- what is opened holds the state that its records give
pub opened_holds : (disks : Disks) (first second : Option Found) (f : Found) (s : State) → AllSettled disks → IsOn 0 first → IsOn 1 second → WhereTold disks 0 (λ bytes. IsFound 0 bytes first) → WhereTold disks 1 (λ bytes. IsFound 1 bytes second) → choice first second ≡ Some f → state_in (log_of f) ≡ Some s → Holds disks f.0 s
opened_holds disks first second f s settled on0 on1 found0 found1 is state = by (chose first second f is)
  where
    by : Chose first second f → Holds disks f.0 s
    by (First this less) = holds_of disks 0 f s (omega arith) settled (subst (λ (x : Option Found). IsOn 0 x) this on0) (subst (λ (x : Option Found). WhereTold disks 0 (λ bytes. IsFound 0 bytes x)) this found0) (λ other told. under_of 0 f.0.sequence 1 second other (found1 other told) less) state
    by (Second this less) = holds_of disks 1 f s (omega arith) settled (subst (λ (x : Option Found). IsOn 1 x) this on1) (subst (λ (x : Option Found). WhereTold disks 1 (λ bytes. IsFound 1 bytes x)) this found1) (λ other told. under_of 1 f.0.sequence 0 first other (found0 other told) less) state

-- the log that counts is what is opened
counts_as : (images : ℕ → List ℕ) (first second : Option Found) (f : Found) → IsFound 0 (images 0) first → IsFound 1 (images 1) second → choice first second ≡ Some f → log_in images ≡ Some (log_of f)
counts_as images first second f found0 found1 is = by (chose first second f is)
  where
    by : Chose first second f → log_in images ≡ Some (log_of f)
    by (First this less) = chosen_of 0 images (log_of f) (omega arith) (subst (λ (x : Option Found). IsFound 0 (images 0) x) this found0).0 (under_of 0 f.0.sequence 1 second (images 1) found1 less)
    by (Second this less) = chosen_of 1 images (log_of f) (omega arith) (subst (λ (x : Option Found). IsFound 1 (images 1) x) this found1).0 (under_of 1 f.0.sequence 0 first (images 0) found0 less)

-- nothing is open
counts_not : (images : ℕ → List ℕ) (first second : Option Found) → IsFound 0 (images 0) first → IsFound 1 (images 1) second → choice first second ≡ None → log_in images ≡ None
counts_not images None None found0 found1 is = subst (λ (r : Option (Result Opened ℕ)). chosen r (read_log (images 1)) ≡ None) (sym found0) (subst (λ (r : Option (Result Opened ℕ)). chosen None r ≡ None) (sym found1) refl)
counts_not images None (Some b) found0 found1 is = cc
counts_not images (Some a) None found0 found1 is = cc
counts_not images (Some a) (Some b) found0 found1 is = by (nat_lt a.0.sequence b.0.sequence) is
  where
    by : (t : Bool) → cond t (Some b) (Some a) ≡ None → log_in images ≡ None
    by true is = cc
    by false is = cc

pub counted : (images : ℕ → List ℕ) (first second : Option Found) → IsFound 0 (images 0) first → IsFound 1 (images 1) second → (r : Option Found) → r ≡ choice first second → log_in images ≡ option_map log_of r
counted images first second found0 found1 None is = counts_not images first second found0 found1 (sym is)
counted images first second found0 found1 (Some f) is = counts_as images first second f found0 found1 (sym is)

-- a damaged log
damaged_second : (x : Option (Result Opened ℕ)) (place : ℕ) → chosen x (Some (Err place)) ≡ None
damaged_second None place = refl
damaged_second (Some (Ok a)) place = refl
damaged_second (Some (Err p)) place = refl

pub stands_damaged : (images : ℕ → List ℕ) (place : ℕ) → (read_log (images 0) ≡ Some (Err place)) ⊎ (read_log (images 1) ≡ Some (Err place)) → stands images ≡ None
stands_damaged images place which = elim which [
  | inl first ↦ let e : chosen (read_log (images 0)) (read_log (images 1)) ≡ None = subst (λ (r : Option (Result Opened ℕ)). chosen r (read_log (images 1)) ≡ None) (sym first) refl in ap (λ (c : Option Opened). option_and_then state_in c) e
  | inr second ↦ let e : chosen (read_log (images 0)) (read_log (images 1)) ≡ None = subst (λ (r : Option (Result Opened ℕ)). chosen (read_log (images 0)) r ≡ None) (sym second) (damaged_second (read_log (images 0)) place) in ap (λ (c : Option Opened). option_and_then state_in c) e
]

-- a record opened as the fold over its bodies, or nothing did
pub found_as : (images : ℕ → List ℕ) (first second : Option Found) → IsFound 0 (images 0) first → IsFound 1 (images 1) second → (r : Option Found) → r ≡ choice first second → stands images ≡ option_and_then (λ f. state_in (log_of f)) r
found_as images first second found0 found1 None is = ap (λ (c : Option Opened). option_and_then state_in c) (counted images first second found0 found1 None is)
found_as images first second found0 found1 (Some f) is = ap (λ (c : Option Opened). option_and_then state_in c) (counted images first second found0 found1 (Some f) is)

-- what counts holds the state of its records
pub found_holds : (disks : Disks) (first second : Option Found) (s : State) → AllSettled disks → IsOn 0 first → IsOn 1 second → WhereTold disks 0 (λ bytes. IsFound 0 bytes first) → WhereTold disks 1 (λ bytes. IsFound 1 bytes second) → (r : Option Found) → r ≡ choice first second → IfSome r (λ f. state_in (log_of f) ≡ Some s → Holds disks f.0 s)
found_holds disks first second s settled on0 on1 found0 found1 None is = tt
found_holds disks first second s settled on0 on1 found0 found1 (Some f) is = λ state. opened_holds disks first second f s settled on0 on1 found0 found1 (sym is) state

-- a log disk that is torn stands for nothing
pub torn_none : (images : ℕ → List ℕ) (d place : ℕ) → IsTorn images d place → stands images ≡ None
torn_none images zero place torn = stands_damaged images place (inl torn.1)
torn_none images (suc zero) place torn = stands_damaged images place (inr torn.1)
torn_none images (suc (suc d)) place torn = absurd (omega (arith, torn.0))
