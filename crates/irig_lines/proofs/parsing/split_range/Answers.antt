use Rattle.std.proofs.Common.{arith, rules, ◌≡◌, ◌∙◌, drop, get_or, true, false}
use Rattle.irig_lines.proofs.RangeCut.{ends_range, range_done, range_found, range_length, range_stops}
use Rattle.irig_lines.proofs.WordLemmas.{rest_whole}
use Rattle.irig_lines.proofs.parsing.split_range.Goals.{then-loop-at-test+else-not-ends_range, else-loop-at-test}
use Rattle.irig_lines.proofs.parsing.split_range.Goals as goal

pub returns-clause-cut : goal.returns-clause-cut
returns-clause-cut c = λ range rest r e is follows.
    let text = c.args.text.now in
    let stopped : range_length c.loop-at.quoted (drop c.loop-at.at text) ≡ 0 =
    elim c.loop-at-test.branch [
      | then-loop-at-test+else-not-ends_range w ↦ (let ends : ends_range c.loop-at.quoted (get_or text c.loop-at.at 0) ≡ true = search rules in
          range_stops c.loop-at.quoted text c.loop-at.at w.loop-at-test.true ends)
      | else-loop-at-test w ↦ range_done c.loop-at.quoted text c.loop-at.at w.loop-at-test.false
    ] in
    let long : range_length false text ≡ c.loop-at.at = omega (arith, c.loop-at.invariant.1, stopped) in
    let parts = rw long at (range_found text range rest r e is follows) in
    (parts.0, rest_whole text c.loop-at.at ∙ parts.1)
