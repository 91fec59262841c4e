use Rattle.std.proofs.Common.{◌≡◌, ◌+◌, ◌-◌, ◌++◌, ◌∷◌, [], get_or, slice_get, take, arith, sym, ap, ◌∙◌}
use Rattle.std.specs.List.{flat_map}
use Rattle.std.proofs.lemmas.{List.append-nil, List.take_more, Grind.flat_map-append, Option.slice_get-get_or}
use Rattle.irig_edit.specs.State.State.{frames_of}
use Rattle.irig_script.proofs.PrintLemmas.FrameLines.{no_record}
use Rattle.irig_guarding.specs.Reading.{seen_by}
use Rattle.irig_guarding.proofs.seen.seen_frames.Goals as goal

pub loop-index-preserved : goal.loop-index-preserved
loop-index-preserved c =
    let s = c.args.session.now.state in
    let k = c.loop-index.index in
    let rs = frames_of s in
    let show = seen_by s.pulses in
    let here = slice_get-get_or rs k no_record (omega arith) in
    let place : k + 1 - 1 ≡ k = omega arith in
    let put = c.in_ok-put_frame.ensures (get_or rs k no_record) (ap (slice_get rs) place ∙ here) in
    put ∙ ap (λ l. l ++ show (get_or rs k no_record)) c.loop-index.invariant
    ∙ (ap (λ l. flat_map show (take k rs) ++ l) (sym (append-nil (show (get_or rs k no_record))))
    ∙ (sym (flat_map-append show (take k rs) (get_or rs k no_record ∷ []))
    ∙ ap (flat_map show) (sym (take_more rs k no_record (omega arith)))))
