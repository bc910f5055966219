-- The session of a link is one of its repository.
use Rattle.client_state.proofs.Moving.{session_is_here}
use Rattle.client_state.specs.Calling.{is_session_of}
use Rattle.client_state.specs.Links.{session_at, session_in}
use Rattle.client_state.specs.declared.link.Link.TheVariants.{Apart, Joined, Unsettled}
use Rattle.client_state.specs.declared.link.Link.{Link}
use Rattle.session_outbox.specs.declared.answers.At.{At}
use Rattle.std.proofs.Common.{List, ap, false, nat_eq, refl, sym, ◌≡◌, ◌∙◌, ℕ}
use Rattle.std.proofs.lemmas.Option.{same_Some}
use Rattle.std.specs.Prelude.{IfSome, None, Option, Some, slice_get}

pub in_session : (links : List Link) (r : ℕ) (link : Link) (o : Option At) → slice_get links r ≡ Some link → o ≡ session_at r link → IfSome o (λ at. session_in at.repo (slice_get links at.repo) ≡ Some at)
in_session links r link None is h = tt
in_session links r link (Some at) is h = session_is_here links r at (ap (session_in r) is ∙ sym h)

pub none_in_session : (links : List Link) (o : Option At) → o ≡ None → IfSome o (λ at. session_in at.repo (slice_get links at.repo) ≡ Some at)
none_in_session links None h = tt
none_in_session links (Some at) h = cc

-- the session of this number at the link's repository
pub same_session : (repo : ℕ) (link : Option Link) (here at : At) → session_in repo link ≡ Some here → here.session ≡ at.session → at.repo ≡ repo → session_in repo link ≡ Some at
same_session repo None here at e s r = cc
same_session repo (Some Apart) here at e s r = cc
same_session repo (Some (Unsettled sent index)) here at e s r = cc
same_session repo (Some (Joined n upto waits)) here at e s r =
    let h : record { repo = repo; session = n } ≡ here = same_Some (record { repo = repo; session = n }) here e in
    ap (λ (m : ℕ). Some (record { repo = repo; session = m })) (ap (λ (a : At). a.session) h ∙ s)
    ∙ ap (λ (q : ℕ). Some (record { repo = q; session = at.session })) (sym r)

-- whether it is the session of this number
pub session_is : (repo n : ℕ) (o : Option Link) (here : At) → Some here ≡ session_in repo o → nat_eq here.session n ≡ is_session_of n o
session_is repo n None here e = cc
session_is repo n (Some Apart) here e = cc
session_is repo n (Some (Unsettled sent index)) here e = cc
session_is repo n (Some (Joined s upto waits)) here e = ap (λ (a : At). nat_eq a.session n) (same_Some here (record { repo = repo; session = s }) e)

pub no_session_is : (repo n : ℕ) (o : Option Link) → None ≡ session_in repo o → false ≡ is_session_of n o
no_session_is repo n None e = refl
no_session_is repo n (Some Apart) e = refl
no_session_is repo n (Some (Unsettled sent index)) e = refl
no_session_is repo n (Some (Joined s upto waits)) e = cc
