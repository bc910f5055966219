-- A client that fits does so at the end of its steps, whatever others do between.
use Rattle.client_cache.specs.Copies.{kept}
use Rattle.law_cache_coherence.proofs.OwnVerdicts.{others_told}
use Rattle.law_cache_coherence.proofs.Stepping.{new_fits, waiting_fits}
use Rattle.law_cache_coherence.specs.Steps.{LinksFit}
use Rattle.client_state.specs.declared.held.Held.{Held}
use Rattle.client_state.specs.declared.link.Link.TheVariants.{Apart}
use Rattle.client_state.specs.declared.link.Link.{Link}
use Rattle.law_client_steps.proofs.Calls.{step_fits}
use Rattle.law_client_steps.specs.Owed.{ClientFits}
use Rattle.law_client_steps.specs.Runs.{Leads, Moment, Stepped, Turn, Waited}
use Rattle.client_port.specs.Views.{Opened, View}
use Rattle.std.proofs.Common.{Bool, List, [], ap, subst, sym, ◌∙◌, ◌∷◌, ◌≡◌, ℕ}
use Rattle.std.specs.List.{slice_get}
use Rattle.std.specs.Prelude.{None, Some, ◌≤◌}
use Rattle.thor_value.specs.declared.names.Oref.{Oref}
use Rattle.thor_value.specs.declared.names.Ts.{Ts}

turn : (a z : Moment) → Turn a z → ClientFits a.port a.committed a.held → ClientFits z.port z.committed z.held
turn a z (Stepped moves owed told right) fits = step_fits a.port z.port a.held z.held a.committed z.committed moves owed told right fits
turn a z (Waited same opened grew told right) fits = record {
  own = ap (λ (h : Held). h.client) same ∙ fits.own ∙ ap (λ (o : Opened). o.client) (sym opened);
  few = subst (λ (o : Opened). o.repos ≤ 8) (sym opened) fits.few;
  links = subst (λ (h : Held). LinksFit z.port z.committed h.links.items (kept h.cache.cache)) (sym same)
      (waiting_fits a.port z.port z.committed a.held.links.items (kept a.held.cache.cache) opened grew right (others_told a.port a.held.links.items a.committed z.committed (kept a.held.cache.cache) told fits.links));
}

pub running : (a z : Moment) (ms : List Moment) → Leads a ms z → ClientFits a.port a.committed a.held → ClientFits z.port z.committed z.held
running a z [] t fits = turn a z t fits
running a z (m ∷ ms) t fits = running m z ms t.1 (turn a m t.0 fits)

pub new_client : (port : View) (committed : Ts → Bool) (held : Held) → held.client ≡ port.opened.client → port.opened.repos ≤ 8 → ((n : ℕ) (link : Link) → slice_get held.links.items n ≡ Some link → link ≡ Apart)
    → ((x : Oref) → kept held.cache.cache x ≡ None) → ClientFits port committed held
new_client port committed held own few apart none = record { own = own; few = few; links = new_fits port committed held.links.items (kept held.cache.cache) apart none }
