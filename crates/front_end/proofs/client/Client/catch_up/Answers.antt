use Rattle.client_state.specs.Drawing.{drawn_in}
use Rattle.client_state.specs.Settling.{NewsAsSent}
use Rattle.client_items.specs.declared.news.News.{News}
use Rattle.client_state.specs.Pending.{pending_in}
use Rattle.front_end.proofs.Stepping.{by_none_idle_so, notes_same}
use Rattle.front_end.proofs.client.Client.catch_up.Goals as goal
use Rattle.front_end.specs.Stepping.{ClientSteps, news_in}
use Rattle.std.proofs.Common.{ap, inr, subst}
use Rattle.std.specs.Prelude.{Option}

pub returns-in-Some-clause-moves : goal.returns-in-Some-clause-moves
returns-in-Some-clause-moves g c = λ item joined. subst (λ (o : Option News). ClientSteps g.Q.Port.shows item (g.Q.Port.view c.args.port.now) (g.Q.Port.view c.receive.new.port) c.args.self.now c.receive.new.self (news_in o)) c.in-Some.is (c.in_ok-news.ensures.moves item joined)

pub returns-in-None-clause-moves : goal.returns-in-None-clause-moves
returns-in-None-clause-moves g c = λ item joined. by_none_idle_so item _ _ _ c.args.at c.args.self.now.held c.receive.new.self.held (c.in_ok-news.ensures.none c.in-None.is) joined _ _ (ap pending_in (c.in_ok-news.ensures.still c.in-None.is)) _ _ c.in_ok-news.ensures.duties (notes_same c.args.self.now c.receive.new.self (c.in_ok-news.ensures.still c.in-None.is) (c.in_ok-news.ensures.owes c.in-None.is)).0 _ (inr (ap drawn_in (c.in_ok-news.ensures.still c.in-None.is))) c.wait.new.self c.wait.ensures.rest c.wait.ensures.links

pub returns-in-None-clause-writes : goal.returns-in-None-clause-writes
returns-in-None-clause-writes g c = λ w. rw (c.wait.ensures.rest) (c.receive.ensures.writes w)

pub returns-in-Some-clause-as_sent : goal.returns-in-Some-clause-as_sent
returns-in-Some-clause-as_sent g c = λ links. subst (λ (o : Option News). NewsAsSent links (news_in o)) c.in-Some.is (c.in_ok-news.ensures.as_sent links)
