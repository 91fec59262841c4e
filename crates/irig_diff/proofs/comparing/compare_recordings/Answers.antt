use Rattle.irig_diff.proofs.Compared.{printed-frames, printed-plain}
use Rattle.irig_diff.proofs.comparing.compare_recordings.Goals as goal

pub returns-in-None : goal.returns-in-None
returns-in-None g c =
    printed-plain c.args.chosen.now c.args.before c.args.after (g.W.Write.contents c.args.out.now)
    (g.W.Write.contents c.print_patch.new.out) c.print_patch.result
    c.in-None.is c.print_patch.ensures

pub returns : goal.returns
returns g c =
    printed-frames c.args.chosen.now c.in-Some.format c.args.before c.args.after (g.W.Write.contents c.args.out.now)
    (g.W.Write.contents c.compare_with_frames.new.out) c.compare_with_frames.result c.in-Some.is c.compare_with_frames.ensures
