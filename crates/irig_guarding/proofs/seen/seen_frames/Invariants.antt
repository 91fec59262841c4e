use Rattle.std.proofs.Common.{◌≡◌, take}
use Rattle.std.specs.List.{flat_map}
use Rattle.irig_edit.specs.State.State.{frames_of}
use Rattle.irig_guarding.specs.Reading.{seen_by}
use Rattle.irig_guarding.proofs.seen.seen_frames.Given as goal

abbrev pub invariant-loop-index : goal.invariant-loop-index
invariant-loop-index l = l.seen.items
    ≡ flat_map (seen_by l.session.state.pulses) (take l.index (frames_of l.session.state))
