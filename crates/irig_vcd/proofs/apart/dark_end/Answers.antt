use Rattle.std.proofs.Common.{◌≤◌, ◌+◌, ◌∙◌, length, arith}
use Rattle.irig_vcd.proofs.DarkLanes.{dark_run}
use Rattle.irig_vcd.proofs.apart.dark_end.Goals as goal

pub loop-at-preserved : goal.loop-at-preserved
loop-at-preserved c =
    let within : c.loop-at.at + c.dark_count-count.result ≤ length c.args.source.now =
    omega (arith, c.dark_count-count.ensures.few, c.loop-at-test.true, c.loop-at.invariant.within) in
    record {
      within = within;
      words = dark_run c.dark_count-count.result c.args.source.now c.loop-at.at within c.dark_count-count.ensures.dark ∙ c.loop-at.invariant.words;
    }

pub returns-then-count-lt16-clause-words : goal.returns-then-count-lt16-clause-words
returns-then-count-lt16-clause-words c =
    let within : c.loop-at.at + c.dark_count-count.result ≤ length c.args.source.now =
    omega (arith, c.dark_count-count.ensures.few, c.loop-at-test.true, c.loop-at.invariant.within) in
    dark_run c.dark_count-count.result c.args.source.now c.loop-at.at within c.dark_count-count.ensures.dark ∙ c.loop-at.invariant.words
