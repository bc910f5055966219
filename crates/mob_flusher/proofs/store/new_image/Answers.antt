use Rattle.mob_flusher.proofs.store.new_image.Goals as goal

pub returns-clause-image : goal.returns-clause-image
returns-clause-image c = record { repo = c.repo_of-repo.result; one_repo = c.repo_of-repo.ensures; is_image = c.in_ok-image.ensures.image }
