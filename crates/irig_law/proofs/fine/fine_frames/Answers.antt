use Rattle.std.proofs.Common.{◌+◌, ◌++◌, ◌≤◌, List, drop, length, slice_get, arith, ap, sym, ◌∙◌}
use Rattle.std.proofs.lemmas.{List.append-nil, Option.slice_get_within}
use Rattle.irig_index.specs.declared.record.Record.{Record}
use Rattle.irig_law.specs.Chains.{fine_in, with_fine}
use Rattle.irig_law.proofs.ChainLists.{drop-at, drop-end}
use Rattle.irig_times.proofs.Records.{frame-tells}
use Rattle.irig_law.proofs.fine.fine_frames.Goals as goal

pub add_fine-requires : goal.add_fine-requires
add_fine-requires c =
    let ps = c.args.pulses.now.track.pulses in
    let r = c.record-record.result in
    let here = ap (λ (rs : List Record). slice_get rs c.loop-place.place) (sym (c.loop-place.invariant.same ∙ c.requires.frames))
    ∙ c.record-record.ensures.value in
    let tells = frame-tells c.args.format ps c.loop-place.place r here in
    let inside = slice_get_within ps r.marker tells.marker tells.stands in
    omega (arith, inside, c.len-count.ensures.track.few)

pub loop-place-preserved : goal.loop-place-preserved
loop-place-preserved c =
    let f = c.args.format in
    let ps = c.args.pulses.now.track.pulses in
    let rs = c.args.records.now.records in
    let before = c.loop-place.invariant in
    let k = c.loop-place.place in
    let r = c.record-record.result in
    let old = c.loop-place.list.items in
    let rest = fine_in f ps (drop (k + 1) rs) in
    let track = before.track in
    let fields = c.timed-fields.ensures in
    let at = ap (λ (l : List Record). slice_get l k) (sym before.same) ∙ c.record-record.ensures.value in
    record {
      track = c.in_ok-add_fine.ensures.pulses ∙ track;
      same = ap (λ v. v.records) c.record-record.ensures.counted ∙ before.same;
      left = c.in_ok-add_fine.ensures.added rest
          ∙ ((λ i. old ++ with_fine (track i).pulses r.marker (fields i) rest)
          ∙ (ap (λ (l : List Record). old ++ fine_in f ps l) (sym (drop-at Record rs k r at)) ∙ before.left));
    }

pub returns-clause-fine : goal.returns-clause-fine
returns-clause-fine c =
    let f = c.args.format in
    let ps = c.args.pulses.now.track.pulses in
    let rs = c.args.records.now.records in
    let list = c.loop-place.list.items in
    let past : length rs ≤ c.loop-place.place = omega (arith, c.loop-place-test.false, c.len-place-end.ensures) in
    sym (append-nil list) ∙ (ap (λ (l : List Record). list ++ fine_in f ps l) (sym (drop-end Record rs c.loop-place.place past))
    ∙ (c.loop-place.invariant.left ∙ ap (λ (l : List Record). fine_in f ps l) c.requires.frames))
