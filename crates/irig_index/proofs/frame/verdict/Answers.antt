use Rattle.std.proofs.Common.{◌+◌, ap, ◌∙◌, arith}
use Rattle.irig_index.specs.Checked.{looks_of}
use Rattle.irig_track.specs.Looks.{after_looks}
use Rattle.irig_index.proofs.frame.verdict.Goals as goal

pub returns-clause-looked : goal.returns-clause-looked
returns-clause-looked c =
    let made = looks_of c.check-verdict.result in
    record {
      reach = c.args.at + made;
      from = omega arith;
      to = omega (arith, c.check-verdict.ensures.near);
      looked = record {
        made = made;
        few = omega arith;
        lens = c.check-verdict.ensures.looked;
        count = c.add_looks.ensures ∙ ap (after_looks c.args.looks.now) c.looks_of.ensures;
      };
      alone = c.check-verdict.ensures.alone;
    }
