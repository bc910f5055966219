use Rattle.std.proofs.Common.{◌≡◌, ◌∙◌, sym}
use Rattle.std.specs.Option.{option_copied}
use Rattle.page_format.specs.Pages as page
use Rattle.client_cache.specs.Changes.{kept_behind}
use Rattle.client_cache.proofs.Brought.{told_kept, told_none}
use Rattle.client_cache.proofs.placing.changes_of.Goals as goal

-- a page with these bytes is this one
only : (c : goal.After-changes_on) (p : page.Contents) → page.PageFits p → c.args.bytes.now ≡ page.page_bytes p → c.page-page.result.now ≡ p
only c p fits is = c.pages_are_apart.ensures _ p c.page-page.ensures.fits fits (sym c.page-page.ensures.bytes ∙ is)

pub returns-clause-kept : goal.returns-clause-kept
returns-clause-kept c = told_kept (λ changes. kept_behind changes (option_copied c.args.held)) c.changes_on.result c.page-page.result.now c.args.bytes.now c.args.number c.objects_are_apart.ensures (only c) c.changes_on.ensures.brings

pub returns-clause-none : goal.returns-clause-none
returns-clause-none c = told_none c.changes_on.result c.page-page.result.now c.args.bytes.now c.args.number (only c) c.changes_on.ensures.none
