use Rattle.std.proofs.Common.{◌≡◌, ◌+◌, ◌↔◌, List, slice_get, true, ap, sym, ◌∙◌, subst}
use Rattle.std.proofs.lemmas.Option.{same_Some, slice_get_within}
use Rattle.irig_index.specs.{declared.record.Record.Record}
use Rattle.irig_times.specs.{Starts.IsFollowed, FrameLooks.PartedAt, Starts.IsStart}
use Rattle.irig_times.proofs.Records.{frame-tells, parted-end}
use Rattle.irig_times.proofs.start.start_of.Goals as goal

pub started-requires-clause-stands : goal.started-requires-clause-stands
started-requires-clause-stands c =
    let ps = c.args.pulses.now.track.pulses in
    let here = ap (λ (rs : List Record). slice_get rs c.args.place) (sym c.requires.frames) ∙ c.record-record.ensures.value in
    let tells = frame-tells c.args.format ps c.args.place c.record-record.result here in
    slice_get_within ps c.record-record.result.marker tells.marker tells.stands

pub started-requires-clause-parted : goal.started-requires-clause-parted
started-requires-clause-parted c =
    let ps = c.args.pulses.now.track.pulses in
    let here = ap (λ (rs : List Record). slice_get rs c.args.place) (sym c.requires.frames) ∙ c.record-record.ensures.value in
    subst (λ (rs : List Record). PartedAt rs (c.record-record.result.marker + 99) (c.args.place + 1))
    (sym (ap (λ v. v.records) c.record-record.ensures.counted ∙ c.requires.frames))
    (parted-end c.args.format ps c.args.place c.record-record.result c.in-Some.fields here (sym c.in-Some.ensures))

pub returns-in-Some-clause-exact : goal.returns-in-Some-clause-exact
returns-in-Some-clause-exact c r there =
    let ps = c.args.pulses.now.track.pulses in
    let f = c.args.format in
    let one = c.record-record.result in
    let here = ap (λ (rs : List Record). slice_get rs c.args.place) (sym c.requires.frames) ∙ c.record-record.ensures.value in
    let tells = frame-tells f ps c.args.place one here in
    let same : one ≡ r = same_Some one r (sym c.record-record.ensures.value ∙ there) in
    subst (λ (z : Record). IsStart f c.args.century ps z c.started.result) same (record {
      fields = c.in-Some.fields;
      point = tells.marker;
      tells = sym c.in-Some.ensures;
      stands = tells.stands;
      rise = c.started.ensures.rise tells.marker tells.stands;
      time = c.started.ensures.time;
      follows = subst (λ (rs : List Record). (c.started.result.is_followed ≡ true) ↔ IsFollowed f c.args.century rs (one.marker + 99) c.in-Some.fields)
          (ap (λ v. v.records) c.record-record.ensures.counted ∙ c.requires.frames) c.started.ensures.follows;
    })
