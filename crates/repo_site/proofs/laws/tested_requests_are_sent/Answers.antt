use Rattle.repo_site.proofs.Sending.{is_sent}
use Rattle.repo_site.proofs.laws.tested_requests_are_sent.Goals as goal

pub returns : goal.returns
returns c = λ b x number repos s q alone base k up may own counted t. is_sent b x number repos s q alone base k up may own counted t
