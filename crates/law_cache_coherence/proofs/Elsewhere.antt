-- Links with repositories that a call isn't made of.
use Rattle.law_cache_coherence.proofs.Lending.{others_fit}
use Rattle.law_cache_coherence.specs.Fitting.{Copies}
use Rattle.law_cache_coherence.specs.Seen.{IsSeenRight, LinkIn, called_at}
use Rattle.client_state.specs.declared.link.Link.{Link}
use Rattle.client_port.specs.Acting.{Acts, Asked, Committed, Connected, Decided, Drew, Fetched, Finished, Forgot, Granted, Prepared, Received, Rests}
use Rattle.client_port.specs.Views.{View}
use Rattle.client_port.specs.Works.{Does}
use Rattle.spec_trace.specs.Trace.{Item}
use Rattle.spec_history.specs.History.{Base}
use Rattle.client_port.specs.Views.{Unsettled}
use Rattle.std.proofs.Common.{Bool, List, ap, subst, sym, ◌≢◌, ℕ}
use Rattle.std.specs.Prelude.{Result, Some}
use Rattle.thor_value.specs.declared.names.Ts.{Ts}
use Rattle.repo_refusals.specs.declared.refusal.Refusal.{Refusal}

module _ (old new : View) (n : ℕ) (committed : Ts → Bool) (link : Link) (copies : Copies) where
  does : {X : Type 0} (r : ℕ) (result : Result X Refusal) (work : Base → List Item → List Item → Unsettled → Type 0) → Does old new r result work → Some r ≢ Some n → IsSeenRight new n committed → LinkIn old n committed link copies → LinkIn new n committed link copies
  does r result work y other seen h = others_fit old new r n y.at y.met committed link copies y.called (λ same. other (ap (λ (m : ℕ). Some m) (sym same))) seen h

  acts : (a : Acts old new) → called_at old new a ≢ Some n → IsSeenRight new n committed → LinkIn old n committed link copies → LinkIn new n committed link copies
  acts (Rests same) other seen h = subst (λ (v : View). LinkIn v n committed link copies) (sym same) h
  acts (Connected r c result y) other seen h = does r result _ y other seen h
  acts (Fetched r s page upto result y) other seen h = does r result _ y other seen h
  acts (Granted r s result y) other seen h = does r result _ y other seen h
  acts (Received r s result y) other seen h = does r result _ y other seen h
  acts (Drew r s floor result y) other seen h = does r result _ y other seen h
  acts (Prepared r s q result y) other seen h = does r result _ y other seen h
  acts (Committed r s q result y) other seen h = does r result _ y other seen h
  acts (Decided r s t commit result y) other seen h = does r result _ y other seen h
  acts (Finished r t commit result y) other seen h = does r result _ y other seen h
  acts (Forgot r t result y) other seen h = does r result _ y other seen h
  acts (Asked r t result y) other seen h = does r result _ y other seen h

pub elsewhere_fit : (old new : View) (a : Acts old new) (n : ℕ) (committed : Ts → Bool) (link : Link) (copies : Copies) → called_at old new a ≢ Some n → IsSeenRight new n committed → LinkIn old n committed link copies → LinkIn new n committed link copies
elsewhere_fit old new a n committed link copies other seen h = acts old new n committed link copies a other seen h
