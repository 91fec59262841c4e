use Rattle.std.proofs.Common.{rules, ◌≡◌, None, take, arith}
use Rattle.irig_script.specs.Print.Listings.{mark_line}
use Rattle.irig_print.specs.Numbered.{numbered}
use Rattle.irig_print.proofs.Numbered.{listed_front, listed_more}
use Rattle.irig_script.proofs.{PrintLemmas.MarkLines.few_marks, PrintLemmas.MarkLines.mark_listed}
use Rattle.irig_print.proofs.Blocks.{prints_end}
use Rattle.irig_script.proofs.print.mark_lines.print_marks.Goals as goal

pub returns-in-Err : goal.returns-in-Err
returns-in-Err g c =
    let ms = c.args.session.now.state.marks in
    let k = c.loop-place.place in
    let listed = mark_listed ms _ _ k _ _ _ c.new-letter.ensures (omega (arith, c.loop-place-test.true)) c.byte.ensures.value c.mark_time.ensures
    c.text.ensures.text c.put_mark.ensures in
    listed_front mark_line 0 (take 26 ms) k None _ _ _ _ _ listed.0 listed.1 c.loop-place.invariant c.in-Err.ensures.err

pub loop-place-preserved : goal.loop-place-preserved
loop-place-preserved g c =
    let ms = c.args.session.now.state.marks in
    let k = c.loop-place.place in
    let listed = mark_listed ms _ _ k _ _ _ c.new-letter.ensures (omega (arith, c.loop-place-test.true)) c.byte.ensures.value c.mark_time.ensures
    c.text.ensures.text c.put_mark.ensures in
    listed_more mark_line 0 (take 26 ms) k None _ _ _ _ _ _ listed.0 listed.1 c.loop-place.invariant c.in-Ok.ensures.ok

pub returns : goal.returns
returns g c =
    let ms = c.args.session.now.state.marks in
    let done : c.loop-place.place ≡ 26 = search rules in
    let all = rw (done, few_marks ms) at c.loop-place.invariant in
    prints_end _ _ _ _ (numbered mark_line 0 (take 26 ms)) c.flush.result all c.flush.ensures.printed
