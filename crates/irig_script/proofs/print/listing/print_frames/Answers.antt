use Rattle.std.proofs.Common.{rules, ◌≡◌, ◌<◌, length}
use Rattle.std.proofs.Math.Seq.{take-length}
use Rattle.irig_edit.specs.State.State.{frames_of}
use Rattle.irig_script.specs.Print.Printed.{record_line}
use Rattle.irig_print.specs.Numbered.{numbered}
use Rattle.irig_script.proofs.PrintLemmas.FrameLines.{no_record, frame_listed}
use Rattle.irig_print.proofs.{Blocks.prints_end, Numbered.listed_front, Numbered.listed_more}
use Rattle.irig_script.proofs.print.listing.print_frames.Goals as goal

pub returns-in-Err : goal.returns-in-Err
returns-in-Err g c =
    let s = c.args.session.now.state in
    let k = c.loop-index.index in
    let rs = frames_of s in
    let within : k < length rs = search rules in
    let line = frame_listed s k _ _ within c.text.ensures.text c.put_record.ensures in
    listed_front (record_line s) 1 rs k no_record _ _ _ _ _ within line c.loop-index.invariant c.in-Err.ensures.err

pub loop-index-preserved : goal.loop-index-preserved
loop-index-preserved g c =
    let s = c.args.session.now.state in
    let k = c.loop-index.index in
    let rs = frames_of s in
    let within : k < length rs = search rules in
    let line = frame_listed s k _ _ within c.text.ensures.text c.put_record.ensures in
    listed_more (record_line s) 1 rs k no_record _ _ _ _ _ _ within line c.loop-index.invariant c.in-Ok.ensures.ok

pub returns : goal.returns
returns g c =
    let s = c.args.session.now.state in
    let rs = frames_of s in
    let done : c.loop-index.index ≡ length rs = search rules in
    let all = rw (done, take-length) at c.loop-index.invariant in
    prints_end _ _ _ _ (numbered (record_line s) 1 rs) c.flush.result all c.flush.ensures.printed
