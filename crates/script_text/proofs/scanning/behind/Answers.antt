use Rattle.std.proofs.Common.{ap, ◌∙◌, arith, take}
use Rattle.std.specs.List.{count_by}
use Rattle.script_text.specs.Bytes.{is_newline}
use Rattle.script_text.proofs.Lines.{line_further}
use Rattle.script_text.proofs.scanning.behind.Goals as goal

pub returns-clause-place : goal.returns-clause-place
returns-clause-place c =
    let bytes = c.split_at-2.ensures.front ∙ ap (λ t. take c.args.count t) c.split_at.ensures.back in
    let lines = c.lines_ended.ensures.count ∙ ap (λ t. count_by is_newline t) bytes in
    record {
      within = c.requires.within;
      line = omega (arith, c.requires.place.line, lines, line_further c.args.text.now c.args.place.from c.args.count);
    }
