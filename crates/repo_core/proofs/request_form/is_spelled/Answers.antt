use Rattle.std.proofs.Common.{rules, arith}
use Rattle.std.proofs.lemmas.Cmp.{nat_cmp_total}
use Rattle.std.specs.Ordering.{nat_cmp}
use Rattle.log_codec.proofs.RiseLaws.{sorted_from_rise}
use Rattle.repo_core.proofs.request_form.is_spelled.Goals as goal

pub returns-then-len-le8 : goal.returns-then-len-le8
returns-then-len-le8 c = λ t.
    record {
      tx = search rules;
      index = search rules;
      session = search rules;
      epoch = search rules;
      upto = search rules;
      ros = search rules;
      writes = search rules;
      fresh = search rules;
      answer = search rules;
      others = omega arith;
      others_rise = search (rules, sorted_from_rise nat_cmp nat_cmp_total c.args.request.now.others);
    }
