use Rattle.irig_diff.proofs.Compared.{obeyed, read_both}
use Rattle.irig_diff.proofs.comparing.compare_with_block.Goals as goal

pub returns-clause-obeyed : goal.returns-clause-obeyed
returns-clause-obeyed g c =
    obeyed (g.D.Disk.held c.args.disk.now) (g.D.Disk.unread c.args.disk.now) c.args.chosen.now c.in-Ok.before
    c.in-Ok-read_track.after (g.W.Write.contents c.args.out.now) (g.W.Write.contents c.compare_recordings.new.out) c.compare_recordings.result c.in-Ok.ensures
    c.in-Ok-read_track.ensures c.compare_recordings.ensures

pub returns-clause-unread : goal.returns-clause-unread
returns-clause-unread g c =
    read_both (g.D.Disk.held c.args.disk.now) (g.D.Disk.unread c.args.disk.now) c.args.chosen.now c.in-Ok.before
    c.in-Ok-read_track.after c.compare_recordings.result c.in-Ok.ensures c.in-Ok-read_track.ensures
