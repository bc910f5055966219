use Rattle.repo_site.proofs.Standing.{is_exact, is_sound, stays}
use Rattle.repo_site.proofs.laws.sites_stay_right.Goals as goal

pub returns : goal.returns
returns c = record { right = stays; sound = is_sound; exact = is_exact }
