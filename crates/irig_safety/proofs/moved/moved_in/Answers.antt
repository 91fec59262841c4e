use Rattle.std.proofs.lemmas.Option.{slice_get-get_or}
use Rattle.irig_safety.proofs.MovedLemmas.{moves_on}
use Rattle.irig_safety.proofs.moved.moved_in.Goals as goal

pub loop-frame-preserved : goal.loop-frame-preserved
loop-frame-preserved c =
    moves_on c.args.old.now c.args.new.now c.loop-frame.moved.items c.push.new.self.items c.loop-frame.from c.loop-frame.frame-index
    c.place_of-place.result c.search_from-from.result _ _ _ (slice_get-get_or c.args.old.now c.loop-frame.frame-index _ c.loop-frame-test.true)
    c.place_of-place.ensures.first c.search_from-from.ensures.within c.search_from-from.ensures.rest c.in_ok-push.ensures.items c.moved_to.ensures
    c.frame_at.ensures
    c.loop-frame.invariant
