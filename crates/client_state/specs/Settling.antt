-- How an item that was Unknown ends: as it was sent (this project's).
use Rattle.client_items.specs.Courses.{is_committed}
use Rattle.client_items.specs.Meanings.{settled_as}
use Rattle.client_items.specs.declared.news.News.TheVariants as news
use Rattle.client_items.specs.declared.news.News.{News}
use Rattle.client_items.specs.declared.news.Settled.{Settled}
use Rattle.client_state.specs.declared.calls.Came.TheVariants as came
use Rattle.client_state.specs.declared.calls.Came.{Came}
use Rattle.client_state.specs.declared.calls.Drew.TheVariants as drew
use Rattle.client_state.specs.declared.calls.Drew.{Drew}
use Rattle.client_state.specs.declared.link.Link.TheVariants.{Unsettled}
use Rattle.client_state.specs.declared.link.Link.{Link}
use Rattle.client_state.specs.declared.transaction.Sent.{Sent}
use Rattle.std.specs.Prelude.{List, Some, slice_get, ℕ, ◌≡◌}

-- An item that was Unknown ends by the transaction that was sent for it, which the link with its coordinator has kept: by the answer
-- that was sent where that has committed; else its coordinator was down.
pub record SettlesAsSent (links : List Link) (settled : Settled) : Type 0 where
  pub coordinator : ℕ
  pub sent : Sent
  pub kept : slice_get links coordinator ≡ Some (Unsettled sent settled.index)
  pub tx : settled.ts ≡ sent.ts
  pub own : settled.outcome ≡ settled_as sent.ts (is_committed settled.outcome) coordinator sent.meaning

-- What a step has come to: where an item that was Unknown has ended, it has ended as it was sent.
abbrev pub NewsAsSent : List Link → News → Type 0
NewsAsSent links news.Nothing = Unit {0}
NewsAsSent links (news.TryEnded cause) = Unit {0}
NewsAsSent links (news.Ended outcome) = Unit {0}
NewsAsSent links (news.Settled settled) = SettlesAsSent links settled

-- the same of what a call of a try has come to
abbrev pub CameAsSent : List Link → Came → Type 0
CameAsSent links came.Well = Unit {0}
CameAsSent links came.Anew = Unit {0}
CameAsSent links (came.Refused cause) = Unit {0}
CameAsSent links (came.Learnt learnt) = SettlesAsSent links learnt.settled

-- the same where a timestamp is drawn
abbrev pub DrewAsSent : List Link → Drew → Type 0
DrewAsSent links (drew.Ts t) = Unit {0}
DrewAsSent links (drew.Refused c) = CameAsSent links c
