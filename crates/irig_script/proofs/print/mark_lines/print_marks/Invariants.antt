use Rattle.std.proofs.Common.{[], take}
use Rattle.irig_script.specs.Print.Listings.{mark_line}
use Rattle.irig_print.specs.{Blocks.Sends, Numbered.numbered}
use Rattle.irig_script.proofs.print.mark_lines.print_marks.Given as goal

abbrev pub invariant-loop-place : goal.invariant-loop-place
invariant-loop-place g l = Sends (g.W.Write.contents l.fn.out) (g.W.Write.contents l.out) [] l.block
    (numbered mark_line 0 (take l.place (take 26 l.session.state.marks)))
