-- What a call leaves of a client's links.
use Rattle.law_cache_coherence.proofs.Elsewhere.{elsewhere_fit}
use Rattle.law_cache_coherence.proofs.Lending.{agrees_now, exact_now, fits_now, same_copies, sound_now}
use Rattle.law_cache_coherence.proofs.Linked.{outlives_while}
use Rattle.law_cache_coherence.specs.Fitting.{Copies, SameCopies}
use Rattle.law_cache_coherence.specs.Seen.{LinkAt, LinkIn, called_at}
use Rattle.law_cache_coherence.specs.Steps.{AllSeenRight, LinksFit, OthersStay}
use Rattle.client_state.specs.declared.link.Link.TheVariants.{Apart, Joined, Unsettled}
use Rattle.client_state.specs.declared.link.Link.{Link}
use Rattle.client_state.specs.Links.{is_reply}
use Rattle.client_port.specs.Acting.{Acts, Asked, Committed, Connected, Decided, Drew, Fetched, Finished, Forgot, Granted, Prepared, Received, Rests}
use Rattle.client_port.specs.Growing.{Grew}
use Rattle.client_port.specs.Views.{Opened, View}
use Rattle.std.proofs.Common.{Bool, List, ap, inl, inr, refl, subst, sym, ℕ, ◌∙◌, ◌≡◌, ◌≢◌}
use Rattle.std.proofs.lemmas.Bool.{cases_eq}
use Rattle.std.proofs.lemmas.Option.{same_Some}
use Rattle.std.specs.List.{slice_get}
use Rattle.std.specs.Prelude.{None, Option, Some, ◌<◌}
use Rattle.thor_value.specs.declared.names.Oref.{Oref}
use Rattle.thor_value.specs.declared.names.Ts.{Ts}

-- no call changes what was opened
pub opened_stays : (old new : View) → Acts old new → new.opened ≡ old.opened
opened_stays old new (Rests same) = ap (λ (v : View). v.opened) same
opened_stays old new (Connected r c result d) = d.called.same
opened_stays old new (Fetched r s page upto result d) = d.called.same
opened_stays old new (Granted r s result d) = d.called.same
opened_stays old new (Received r s result d) = d.called.same
opened_stays old new (Drew r s floor result d) = d.called.same
opened_stays old new (Prepared r s q result d) = d.called.same
opened_stays old new (Committed r s q result d) = d.called.same
opened_stays old new (Decided r s t commit result d) = d.called.same
opened_stays old new (Finished r t commit result d) = d.called.same
opened_stays old new (Forgot r t result d) = d.called.same
opened_stays old new (Asked r t result d) = d.called.same

-- ---- copies that are the same of the repository's objects

pub same_there : (port : View) (n : ℕ) (committed : Ts → Bool) (link : Link) (copies left : Copies) → SameCopies (port.opened.base n) left copies → LinkIn port n committed link copies → LinkIn port n committed link left
same_there port n committed Apart copies left same h = λ x here. same x here ∙ h x here
same_there port n committed (Joined s upto waits) copies left same h = same_copies port.opened.client (port.opened.base n) (port.unsettled n) (port.seen n) committed (record { session = s; upto = upto; awaits = is_reply waits; copies = copies }) left same h
same_there port n committed (Unsettled sent index) copies left same h = λ x here. same x here ∙ h x here

-- ---- all links

module _ (old new : View) (acts : Acts old new) (committed : Ts → Bool) (before after : List Link) (copies left : Copies) (seen : AllSeenRight new committed) (stay : OthersStay new (called_at old new acts) before after copies left)
    (there : (r : ℕ) → called_at old new acts ≡ Some r → r < new.opened.repos → LinkAt old r committed (slice_get before r) copies → LinkAt new r committed (slice_get after r) left) (fit : LinksFit old committed before copies) where
  elsewhere : (n : ℕ) → n < new.opened.repos → called_at old new acts ≢ Some n → (link : Option Link) → LinkAt old n committed link copies → LinkAt new n committed link left
  elsewhere n within other None h = h
  elsewhere n within other (Some link) h = same_there new n committed link copies left (stay.copies_stay n within other) (elsewhere_fit old new acts n committed link copies other (seen.each n within) h)

  abbrev within_old : (n : ℕ) → n < new.opened.repos → n < old.opened.repos
  within_old n within = subst (λ (o : Opened). n < o.repos) (opened_stays old new acts) within

  stays : (n : ℕ) → n < new.opened.repos → called_at old new acts ≢ Some n → LinkAt new n committed (slice_get after n) left
  stays n within other = subst (λ (l : Option Link). LinkAt new n committed l left) (sym (stay.links n other)) (elsewhere n within other (slice_get before n) (fit.each n (within_old n within)))

  by_called : (n : ℕ) → n < new.opened.repos → (called : Option ℕ) → called_at old new acts ≡ called → LinkAt new n committed (slice_get after n) left
  by_called n within None is = stays n within (λ e. let no : None ≡ Some n = sym is ∙ e in cc)
  by_called n within (Some r) is = elim (cases_eq r n) [
    | inl e ↦ there n (is ∙ ap Some e) within (fit.each n (within_old n within))
    | inr ne ↦ stays n within (λ e. ne (same_Some r n (sym is ∙ e)))
  ]

  pub all_fit : LinksFit new committed after left
  all_fit = record { each = λ n within. by_called n within (called_at old new acts) refl }

-- ---- a client that has called nothing yet, and one that waits

pub new_fits : (port : View) (committed : Ts → Bool) (links : List Link) (copies : Copies) → ((n : ℕ) (link : Link) → slice_get links n ≡ Some link → link ≡ Apart) → ((x : Oref) → copies x ≡ None) → LinksFit port committed links copies
new_fits port committed links copies apart none = record { each = λ r within. by r (slice_get links r) refl }
  where
    by : (r : ℕ) (o : Option Link) → slice_get links r ≡ o → LinkAt port r committed o copies
    by r None e = tt
    by r (Some link) e = subst (λ (l : Link). LinkIn port r committed l copies) (sym (apart r link e)) (λ x here. none x)

pub waiting_fits : (old new : View) (committed : Ts → Bool) (links : List Link) (copies : Copies) → new.opened ≡ old.opened
    → ((r : ℕ) → r < old.opened.repos → Grew (old.opened.base r) old.opened.client (old.unsettled r) (old.seen r) (new.unsettled r) (new.seen r)) → AllSeenRight new committed → LinksFit old committed links copies → LinksFit new committed links copies
waiting_fits old new committed links copies same grew seen fit = record { each = λ r within. by r within (slice_get links r) (fit.each r (within_old r within)) }
  where
    within_old : (r : ℕ) → r < new.opened.repos → r < old.opened.repos
    within_old r within = subst (λ (o : Opened). r < o.repos) same within

    by : (r : ℕ) → r < new.opened.repos → (o : Option Link) → LinkAt old r committed o copies → LinkAt new r committed o copies
    by r within None h = h
    by r within (Some link) h =
        let right = seen.each r within in
        fits_now old new r committed same right (Some link) copies
        (outlives_while old.opened.client (old.opened.base r) committed link copies (old.unsettled r) (new.unsettled r) (old.seen r) (new.seen r) (grew r (within_old r within)) (exact_now old new r committed same right) (sound_now old new r committed same right) (agrees_now old new r committed same right) h)
