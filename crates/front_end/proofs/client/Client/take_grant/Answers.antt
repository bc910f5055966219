use Rattle.front_end.proofs.Stepping.{notes_same}
use Rattle.client_state.proofs.Pending.{still_written}
use Rattle.client_state.specs.declared.held.Held.{Held}
use Rattle.front_end.proofs.Receiving.{grants_none, takes_so}
use Rattle.front_end.proofs.client.Client.take_grant.Goals as goal
use Rattle.front_end.proofs.client.Client.take_grant.Goals.{else-has_none_of, then-has_none_of+in_ok-grant}
use Rattle.std.proofs.Common.{ap, inr, refl}

pub returns-clause-takes : goal.returns-clause-takes
returns-clause-takes c = elim c.if-has_none_of.branch [ then-has_none_of+in_ok-grant w ↦ λ place. rw (w.self-is) (takes_so c.args.repo _ c.args.self.now.held _ (grants_none c.args.repo c.args.page place _ _ c.args.self.now.held.cache.cache c.place.new.self.cache.cache c.in_ok-empty.ensures.made c.ranges.page.fits c.new-bytes.ensures c.in_ok-place.ensures.kept) (ap (λ (h : Held). h.client) c.place.ensures.rest) (ap (λ (h : Held). h.links.items) c.place.ensures.rest)) | else-has_none_of w ↦ λ place. rw (w.self-is) (takes_so c.args.repo _ c.args.self.now.held _ (grants_none c.args.repo c.args.page place _ _ c.args.self.now.held.cache.cache c.place.new.self.cache.cache c.in_ok-empty.ensures.made c.ranges.page.fits c.new-bytes.ensures c.in_ok-place.ensures.kept) (ap (λ (h : Held). h.client) c.place.ensures.rest) (ap (λ (h : Held). h.links.items) c.place.ensures.rest)) ]

pub returns-clause-stays : goal.returns-clause-stays
returns-clause-stays c = elim c.if-has_none_of.branch [ then-has_none_of+in_ok-grant w ↦ rw (w.self-is) (inr (refl, still_written c.args.self.now.held c.place.new.self (ap (λ (h : Held). h.links.items) c.place.ensures.rest) c.place.ensures.writes)) | else-has_none_of w ↦ rw (w.self-is) (inr (refl, still_written c.args.self.now.held c.place.new.self (ap (λ (h : Held). h.links.items) c.place.ensures.rest) c.place.ensures.writes)) ]

pub returns-clause-notes : goal.returns-clause-notes
returns-clause-notes c = elim c.if-has_none_of.branch [ then-has_none_of+in_ok-grant w ↦ rw (w.self-is) (notes_same c.args.self.now c.args.self.now refl refl) | else-has_none_of w ↦ rw (w.self-is) (notes_same c.args.self.now c.args.self.now refl refl) ]

pub returns-clause-wrote : goal.returns-clause-wrote
returns-clause-wrote c = elim c.if-has_none_of.branch [ then-has_none_of+in_ok-grant w ↦ rw (w.self-is) (λ und. c.place.ensures.writes) | else-has_none_of w ↦ rw (w.self-is) (λ und. c.place.ensures.writes) ]
