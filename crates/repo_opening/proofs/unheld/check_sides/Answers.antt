use Rattle.repo_opening.proofs.unheld.check_sides.Goals as goal

pub returns-in-Ok-clause-pages : goal.returns-in-Ok-clause-pages
returns-in-Ok-clause-pages g c = λ disk told. let puts = c.in-Ok.ensures.paged disk told in record { objects = puts.objects; paged = puts.paged }
