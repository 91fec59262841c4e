use Rattle.std.proofs.Common.{◌≡◌, ◌-◌, ◌+◌, ◌*◌, ◌%◌, ◌^◌, length, min, take, ap, subst, ◌∙◌, sym, arith}
use Rattle.irig_index.specs.{Frames.records_in, Looked.Looked, Sides.shown, Stale.LastMayBeStale}
use Rattle.irig_index.proofs.PlaceLemmas.{passed_in, same_pulses}
use Rattle.irig_index.proofs.RepairLemmas.{Filled, all_room, frames_long, kept_in_place, length-filled, repaired, stale, were_kept}
use Rattle.irig_index.proofs.{LookLemmas.looked_more, SideLemmas.length-shown, index.Index.repair.Goals.After-cut_out}
use Rattle.irig_index.proofs.index.Index.repair.Goals as goal

pub retell_up_to-some_go-requires : goal.retell_up_to-some_go-requires
retell_up_to-some_go-requires c = λ count before after.
    let f = c.args.format in
    let e = c.args.edit in
    let ps = c.args.lens.now.track.pulses in
    let all = shown c.self.inside.pulses c.self.inside.records in
    let settled : e.at - 100 ≡ c.saturating_sub-from.result - 99 = omega (arith, c.saturating_sub-from.ensures) in
    subst (λ n. LastMayBeStale f ps n (take count all)) settled
    (stale f e.at e.old e.new _ all ps (were_kept _ _ _ _ _ _ _ _ _ _ c.self.view_is c.requires.were) c.last_place-to.ensures.few (omega arith)
    c.saturating_sub-from.result count c.saturating_sub-from.ensures before after)

pub returns-then-not-some_go-clause-frames : goal.returns-then-not-some_go-clause-frames
returns-then-not-some_go-clause-frames c =
    let e = c.args.edit in
    let told = c.retell_up_to-some_go.ensures.told in
    let passed = passed_in c.retell_up_to-some_go.ensures.looked c.next_marked-place.ensures.passed in
    kept_in_place c.args.format e.at e.old e.new _ _ c.args.lens.now.track.pulses
    (were_kept _ _ _ _ _ _ _ _ _ _ c.self.view_is c.requires.were) c.last_place-to.ensures.few (omega arith)
    c.saturating_sub-from.result told.count c.saturating_sub-from.ensures told.before told.after
    c.last_place-to.result c.next_marked-place.result c.last_place-to.ensures.least passed.order c.next_marked-place.ensures.within passed.none
    (shown c.self.inside.pulses c.retell_up_to-some_go.new.records) told.told
    (omega arith) (omega arith) (told.none c.if-not-some_go.true)

pub returns-then-not-some_go-clause-looked : goal.returns-then-not-some_go-clause-looked
returns-then-not-some_go-clause-looked c =
    let most = 3 * (c.args.edit.new + 200) in
    let sought = 2 * (c.next_marked-place.result - c.saturating_sub-from.result) + 2 in
    subst (λ n. Looked c.args.lens.now c.next_marked-place.new.lens n c.next_marked-place.new.looks most) (ap (λ v. v.looks) c.self.view_is)
    (looked_more _ _ _ _ _ _ 100 sought most c.retell_up_to-some_go.ensures.looked c.next_marked-place.ensures.passed.looked
    (omega (arith, c.last_place-to.ensures.least, c.saturating_sub-from.ensures, c.next_marked-place.ensures.within)))

-- the records that stay, with those of the window between them, are the frames
filled : (c : After-cut_out) → Filled c.args.format c.args.lens.now.track.pulses
    (((c.self.inside.pulses + (2 ^ 64 - c.args.edit.old)) % 2 ^ 64 + c.args.edit.new) % 2 ^ 64) c.cut_out.new.records
    (records_in c.args.format c.next_marked-place.new.lens.track.pulses c.next_marked-place.result (c.last_place-to.result - c.next_marked-place.result))
filled c =
    let f = c.args.format in
    let e = c.args.edit in
    let ps = c.args.lens.now.track.pulses in
    let told = c.retell_up_to-some_go.ensures.told in
    let passed = passed_in c.retell_up_to-some_go.ensures.looked c.next_marked-place.ensures.passed in
    let place = c.next_marked-place.result in
    let to = c.last_place-to.result in
    let wrapped = ((c.self.inside.pulses + (2 ^ 64 - e.old)) % 2 ^ 64 + e.new) % 2 ^ 64 in
    subst (λ qs. Filled f ps wrapped c.cut_out.new.records (records_in f qs place (to - place)))
    (sym (same_pulses passed.looked ∙ same_pulses c.retell_up_to-some_go.ensures.looked))
    (repaired f e.at e.old e.new _ _ ps (were_kept _ _ _ _ _ _ _ _ _ _ c.self.view_is c.requires.were) c.last_place-to.ensures.few (omega arith)
    c.saturating_sub-from.result told.count c.saturating_sub-from.ensures told.before told.after
    to place c.last_place-to.ensures.least passed.order c.next_marked-place.ensures.within passed.none
    (shown c.self.inside.pulses c.retell_up_to-some_go.new.records) told.told
    c.self.inside.pulses c.cut_out.new.records c.cut_out.ensures.sides)

pub refill-requires-clause-room : goal.refill-requires-clause-room
refill-requires-clause-room c = omega (
  arith,
  frames_long _ _ _ _ _ (filled (goal.at.refill-requires-clause-room c).After-cut_out),
  all_room c.self.inside.records c.self.inside.pulses c.self.inside.looks c.args.self.now c.self.view_is c.retell_up_to-some_go.ensures.within,
  c.requires.room,
  c.retell_up_to-some_go.ensures.length,
  c.retell_up_to-some_go.ensures.capacity,
  c.cut_out.ensures.capacity,
)

pub returns-clause-frames : goal.returns-clause-frames
returns-clause-frames c = (filled (goal.at.returns-clause-frames c).After-cut_out).shows c.refill.new.records c.refill.ensures.left c.refill.ensures.right

pub returns-clause-room : goal.returns-clause-room
returns-clause-room c =
    let window = records_in c.args.format c.next_marked-place.new.lens.track.pulses c.next_marked-place.result
    (c.last_place-to.result - c.next_marked-place.result) in
    let room = all_room c.self.inside.records c.self.inside.pulses c.self.inside.looks c.args.self.now c.self.view_is c.retell_up_to-some_go.ensures.within in
    omega (
      arith,
      length-shown (((c.self.inside.pulses + (2 ^ 64 - c.args.edit.old)) % 2 ^ 64 + c.args.edit.new) % 2 ^ 64) c.refill.new.records,
      length-filled c.cut_out.new.records c.refill.new.records window c.refill.ensures.left c.refill.ensures.right,
      room,
      c.refill.ensures.capacity,
      ap length (returns-clause-frames c),
      c.requires.room,
      c.retell_up_to-some_go.ensures.length,
      c.retell_up_to-some_go.ensures.capacity,
      c.cut_out.ensures.capacity,
    )

pub returns-clause-looked : goal.returns-clause-looked
returns-clause-looked c =
    let most = 3 * (c.args.edit.new + 200) in
    let sought = 2 * (c.next_marked-place.result - c.saturating_sub-from.result) + 2 in
    let w = c.last_place-to.result - c.next_marked-place.result in
    subst (λ n. Looked c.args.lens.now c.refill.new.lens n c.refill.new.looks most) (ap (λ v. v.looks) c.self.view_is)
    (looked_more _ _ _ _ _ _ (100 + sought) (min (101 * w) (3 * w + 98)) most
    (looked_more _ _ _ _ _ _ 100 sought (100 + sought) c.retell_up_to-some_go.ensures.looked c.next_marked-place.ensures.passed.looked (omega arith))
    c.refill.ensures.looked
    (omega (arith, c.last_place-to.ensures.least, c.saturating_sub-from.ensures, c.next_marked-place.ensures.within, c.next_marked-place.ensures.passed.order)))
