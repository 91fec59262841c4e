use Rattle.std.proofs.Common.{◌<◌, ◌≤◌, ◌++◌, Bool, List, [], drop, get_or, length, slice_get, refl, ap, sym, ◌∙◌, subst, arith}
use Rattle.std.proofs.lemmas.{List.append-nil, List.drop_all, Option.slice_get-get_or}
use Rattle.irig_index.specs.{declared.record.Cause.TheVariants.Ended, declared.record.Record.Record, declared.record.Verdict.TheVariants.Broken}
use Rattle.irig_times.specs.Starts.{IsStartOf}
use Rattle.irig_stamps.specs.Tables.{IsTable, row_of}
use Rattle.irig_stamps.proofs.TableRows.{row-more}
use Rattle.irig_stamps.proofs.table.table.Goals as goal

pub loop-place-preserved : goal.loop-place-preserved
loop-place-preserved c =
    let rs = c.args.records.now.records in
    let ps = c.args.pulses.now.track.pulses in
    let k = c.loop-place.place in
    let none : Record = record { marker = 0; verdict = Broken 0 Ended } in
    let same = c.loop-place.invariant.same in
    let within : k < length rs = omega (arith, c.loop-place-test.true, c.len-place-end.ensures) in
    let here = slice_get-get_or rs k none within in
    let row = c.in_ok-put_frame.ensures.row (get_or rs k none) (ap (λ (l : List Record). slice_get l k) same ∙ here) in
    record {
      track = c.put_frame.ensures.pulses ∙ c.loop-place.invariant.track;
      same = c.put_frame.ensures.same ∙ same;
      goes = row-more c.args.format ps c.args.settings.now rs k (get_or rs k none) c.loop-place.text.items c.put_frame.new.text.items row.0 here
          (subst (λ t. IsStartOf c.args.format c.args.settings.now.century t.pulses (get_or rs k none) row.0) c.loop-place.invariant.track row.1)
          (row.2 ∙ ap (λ (b : List Bool). c.loop-place.text.items ++ row_of c.args.settings.now (slice_get b k) row.0) c.requires.held)
          c.loop-place.invariant.goes;
    }

pub returns : goal.returns
returns c =
    let rs = c.args.records.now.records in
    let ps = c.args.pulses.now.track.pulses in
    let past : length rs ≤ c.loop-place.place = omega (arith, c.loop-place-test.false, c.len-place-end.ensures) in
    let left : IsTable c.args.format ps c.args.settings.now c.loop-place.place (drop c.loop-place.place rs) [] =
    subst (λ (l : List Record). IsTable c.args.format ps c.args.settings.now c.loop-place.place l []) (sym (drop_all c.loop-place.place rs past)) refl in
    subst (IsTable c.args.format ps c.args.settings.now 0 rs) (append-nil c.loop-place.text.items) (c.loop-place.invariant.goes [] left)
