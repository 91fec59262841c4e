use Rattle.std.proofs.Common.{[], take}
use Rattle.irig_edit.specs.State.State.{frames_of}
use Rattle.irig_script.specs.Print.Printed.{record_line}
use Rattle.irig_print.specs.{Blocks.Sends, Numbered.numbered}
use Rattle.irig_script.proofs.print.listing.print_frames.Given as goal

abbrev pub invariant-loop-index : goal.invariant-loop-index
invariant-loop-index g l = Sends (g.W.Write.contents l.fn.out) (g.W.Write.contents l.out) [] l.block
    (numbered (record_line l.session.state) 1 (take l.index (frames_of l.session.state)))
