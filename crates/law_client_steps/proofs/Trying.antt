-- What the copies of a try are, where what it has written is what its request writes at a repository.
use Rattle.client_cache.specs.Copies.{Contents, changed, kept, seen}
use Rattle.law_cache_coherence.specs.Fitting.{with_writes}
use Rattle.log_entries.specs.declared.request.Request.{Request}
use Rattle.spec_history.specs.Requests.{written}
use Rattle.paused_eval.proofs.Hands.{seen_split}
use Rattle.std.proofs.Common.{Bool, ap, arith, cond, false, true, ◌∙◌, ◌≡◌, ◌≢◌, ℕ}
use Rattle.std.proofs.lemmas.Bool.Decides.{nat_tests}
use Rattle.std.specs.Option.{option_or}
use Rattle.std.specs.Prelude.{None, Option, nat_eq}
use Rattle.thor_value.specs.FiniteMap.{get}
use Rattle.thor_value.specs.declared.names.Oref.{Oref}
use Rattle.thor_value.specs.declared.values.Obj.{Obj}

module _ (cache : Contents) (q : Request) (r : ℕ) (wrote : (x : Oref) → changed cache x ≡ cond (nat_eq r x.repo) (get (written q) x) None) where
  seen_by : (x : Oref) (t : Bool) → nat_eq r x.repo ≡ t → seen cache x ≡ option_or (cond t (get (written q) x) None) (kept cache x)
  seen_by x t e = seen_split cache x ∙ ap (λ (o : Option Obj). option_or o (kept cache x)) (wrote x ∙ ap (λ (u : Bool). cond u (get (written q) x) None) e)

  -- at the repository the try sees what the request writes, else the copies
  pub sees_written : (x : Oref) → x.repo ≡ r → seen cache x ≡ with_writes q (kept cache) x
  sees_written x here = seen_by x true (same r x.repo here)
    where
      same : (n m : ℕ) → m ≡ n → nat_eq n m ≡ true
      same n m e = grind (arith, nat_tests)

  -- elsewhere it sees the copies
  pub sees_kept : (x : Oref) → x.repo ≢ r → seen cache x ≡ kept cache x
  sees_kept x away = seen_by x false (apart r x.repo away)
    where
      apart : (n m : ℕ) → m ≢ n → nat_eq n m ≡ false
      apart n m e = grind (arith, nat_tests, e)
