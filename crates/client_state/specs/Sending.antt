-- What a participant is sent, and by which session (this project's).
use Rattle.client_items.specs.Meanings.{answer_in, kind_of}
use Rattle.client_state.specs.Calling.{is_session_of, upto_in}
use Rattle.client_state.specs.Participants.{first_in, others_in}
use Rattle.client_state.specs.Writing.{FirstOf, is_of}
use Rattle.client_state.specs.declared.link.Link.{Link}
use Rattle.client_state.specs.declared.link.Link.TheVariants.{Apart, Joined, Unsettled}
use Rattle.client_state.specs.declared.phase.Phase.{Phase}
use Rattle.client_state.specs.declared.phase.Phase.TheVariants.{Asking, Beginning, Between, Drawn, Evaluated, Evaluating, Preparing, Transforming}
use Rattle.client_state.specs.declared.requests.Sending.{Sending}
use Rattle.client_state.specs.declared.transaction.Share.{Share}
use Rattle.client_state.specs.declared.transaction.Transaction.{Transaction}
use Rattle.log_entries.specs.declared.request.Kind.TheVariants as kinds
use Rattle.log_entries.specs.declared.request.Request.{Request}
use Rattle.std.specs.List.{AllByRecursion, list_any}
use Rattle.std.specs.Option.{option_map}
use Rattle.std.specs.Prelude.{List, None, Option, Some, [], cond, nat_eq, slice_get, slice_set, true, ℕ, ◌∷◌, ◌≡◌}
use Rattle.thor_value.specs.declared.names.Oref.{Oref}
use Rattle.thor_value.specs.declared.names.Ts.{Ts}
use Rattle.thor_value.specs.declared.values.Answer.TheVariants.{Ints}
use Rattle.thor_value.specs.declared.values.Obj.{Obj}
use Rattle.thor_value.specs.declared.values.Who.{Who}

-- how far the messages of a session were taken: as its link tells, and as it was before where it is no more
abbrev pub upto_behind : Option Link → ℕ → ℕ → ℕ
upto_behind link session before = cond (is_session_of session link) (upto_in link) before

-- A request names the session by which it is sent. Where that is the one of its link, it acknowledges all messages that were
-- taken.
pub record IsOfSession (links : List Link) (s : Sending) : Type 0 where
  pub session : s.request.session ≡ s.at.session
  pub upto : is_session_of s.at.session (slice_get links s.at.repo) ≡ true → s.request.upto ≡ upto_in (slice_get links s.at.repo)

-- What is sent of a share: it goes out by the session that the share names, with what the share has written.
pub record IsOfShare (links : List Link) (share : Share) (s : Sending) : Type 0 where
  pub at_is : s.at ≡ record { repo = share.repo; session = share.session }
  pub session : s.request.session ≡ share.session
  pub upto : s.request.upto ≡ upto_behind (slice_get links share.repo) share.session share.upto
  pub writes : s.request.writes ≡ share.writes

-- the request of a transaction to the participant of a share, where the messages below `upto` were taken: who, kind, epoch, new names,
-- answer and other participants are the whole transaction's
abbrev pub request_of : Who → Ts → ℕ → Transaction → Share → Request
request_of who t upto transaction share = record {
  tx = t;
  who = who;
  session = share.session;
  kind = kind_of transaction.meaning;
  epoch = transaction.epoch;
  upto = upto;
  ros = share.ros;
  writes = share.writes;
  fresh = transaction.fresh;
  answer = answer_in transaction.meaning;
  others = others_in transaction.participants share.repo;
}

-- what is sent of a share of a transaction
abbrev pub sending_of : List Link → Who → Ts → Transaction → Share → Sending
sending_of links who t transaction share = record {
  at = record { repo = share.repo; session = share.session };
  request = request_of who t (upto_behind (slice_get links share.repo) share.session share.upto) transaction share;
}

-- The first share of a transaction is sent so, and the others are left.
pub record SendsShare (links : List Link) (who : Who) (t : Ts) (before left : Transaction) (s : Sending) : Type 0 where
  pub share : Share
  pub taken : before.shares.items ≡ share ∷ left.shares.items
  pub rest : left ≡ record before { shares = left.shares }
  pub sent : s ≡ sending_of links who t left share

-- Each share that is left goes to a participant.
abbrev pub GoToParticipants : Transaction → Type 0
GoToParticipants transaction = AllByRecursion (λ (s : Share). list_any (nat_eq s.repo) transaction.participants ≡ true) transaction.shares.items

-- A transaction has its timestamp from the participant that decides, to which its first share goes, and each of its shares goes to a participant.
pub record IsDrawnAt (t : Ts) (transaction : Transaction) : Type 0 where
  pub coordinator : first_in transaction.participants ≡ t.repo
  pub first : is_of t.repo (slice_get transaction.shares.items 0) ≡ true
  pub shares : GoToParticipants transaction

-- The share at a place, where there is one, is the first of its repository.
abbrev pub IsFirstOfItsOwn : ℕ → List Share → Option Share → Type 0
IsFirstOfItsOwn place shares None = Unit {0}
IsFirstOfItsOwn place shares (Some s) = FirstOf s.repo place shares

-- No two of some shares are of one repository.
abbrev pub AreApart : List Share → Type 0
AreApart shares = (n : ℕ) → IsFirstOfItsOwn n shares (slice_get shares n)

-- the request of a transform, which brings the object to what it becomes by what it has read
abbrev pub transform_of : ℕ → ℕ → ℕ → Ts → Oref → Obj → List Oref → Request
transform_of client session upto t oref made ros = record {
  tx = t;
  who = record { client = client; index = 0 };
  session = session;
  kind = kinds.Transform;
  epoch = made.ver;
  upto = upto;
  ros = ros;
  writes = (oref, made) ∷ [];
  fresh = [];
  answer = Ints [];
  others = [];
}

-- The first of some shares is sent so.
abbrev pub SendsFirst : List Link → List Share → Sending → Type 0
SendsFirst links shares s = (share : Share) → slice_get shares 0 ≡ Some share → IsOfShare links share s

-- ---- what is sent as the transaction is drawn

-- a share names the session of a link, and how far the messages were taken in it
abbrev pub in_session : Option Link → Share → Share
in_session None share = share
in_session (Some Apart) share = share
in_session (Some (Joined s upto waits)) share = record share { session = s; upto = upto }
in_session (Some (Unsettled sent index)) share = share

-- the same of the link at its repository
abbrev pub carried : List Link → Share → Share
carried links share = in_session (slice_get links share.repo) share

abbrev pub changed_share : List Link → ℕ → List Share → Option Share → List Share
changed_share links place shares None = shares
changed_share links place shares (Some share) = slice_set shares place (carried links share)

-- the share at a place names the session at its repository
abbrev pub carried_at : List Link → ℕ → List Share → List Share
carried_at links place shares = changed_share links place shares (slice_get shares place)

-- Each share names the session at its repository.
abbrev pub CarriesSessions : List Link → List Share → List Share → Type 0
CarriesSessions links old new = (n : ℕ) → slice_get new n ≡ option_map (carried links) (slice_get old n)

-- A transaction is drawn: its shares name the sessions that there are.
pub record BecomesDrawn (t : Ts) (links : List Link) (before : Transaction) (after : Phase) : Type 0 where
  pub transaction : Transaction
  pub phase_is : after ≡ Drawn t transaction
  pub rest : transaction ≡ record before { shares = transaction.shares }
  pub carries : CarriesSessions links before.shares.items transaction.shares.items

-- The same of a phase: one in which no transaction was evaluated stays.
abbrev pub DrawsPhase : Ts → List Link → Phase → Phase → Type 0
DrawsPhase t links Between after = after ≡ Between
DrawsPhase t links Beginning after = after ≡ Beginning
DrawsPhase t links (Evaluating run awaited) after = after ≡ Evaluating run awaited
DrawsPhase t links (Transforming run transform) after = after ≡ Transforming run transform
DrawsPhase t links (Evaluated transaction) after = BecomesDrawn t links transaction after
DrawsPhase t links (Drawn u transaction) after = after ≡ Drawn u transaction
DrawsPhase t links (Preparing u transaction coordinator prepared) after = after ≡ Preparing u transaction coordinator prepared
DrawsPhase t links (Asking sent answers) after = after ≡ Asking sent answers
