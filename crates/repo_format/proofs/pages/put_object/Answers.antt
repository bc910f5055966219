use Rattle.mob_flusher.proofs.Fits.{put_has}
use Rattle.object_codec.specs.Spelling.{obj_bytes}
use Rattle.std.proofs.Common.{List, ap, ◌++◌, ◌∙◌, ◌≡◌, ℕ}
use Rattle.repo_format.proofs.pages.put_object.Goals as goal
use Rattle.thor_value.specs.FiniteMap.{insert}

pub returns-in-Ok-clause-objects : goal.returns-in-Ok-clause-objects
returns-in-Ok-clause-objects c =
    let spelled : c.as_slice.result.now ≡ obj_bytes c.args.object.now = c.as_slice.ensures ∙ c.in_ok-put_obj.ensures.ok ∙ ap (λ (l : List ℕ). l ++ obj_bytes c.args.object.now) c.new-bytes.ensures in
    put_has c.put.result c.args.page.now c.put.new.self c.args.slot c.as_slice.result.now c.put.ensures.ok c.put.ensures.fits c.put.ensures.err c.requires.objects c.requires.slot (c.args.object.now, c.requires.object, spelled)

pub returns-in-Ok-clause-put : goal.returns-in-Ok-clause-put
returns-in-Ok-clause-put c =
    let spelled : c.as_slice.result.now ≡ obj_bytes c.args.object.now = c.as_slice.ensures ∙ c.in_ok-put_obj.ensures.ok ∙ ap (λ (l : List ℕ). l ++ obj_bytes c.args.object.now) c.new-bytes.ensures in
    c.in-Ok.ensures.ok ∙ ap (λ (bytes : List ℕ). record c.args.page.now { objects = insert c.args.page.now.objects c.args.slot bytes }) spelled
