use Rattle.std.proofs.Common.{◌≡◌, ◌∙◌, ap, subst}
use Rattle.std.specs.Io.KnownBytes.{Appends}
use Rattle.irig_index.specs.{Frames.frames}
use Rattle.irig_times.specs.FrameLooks.{FramesView}
use Rattle.irig_track.specs.{Looks.LensView, Track.TrackView}
use Rattle.irig_print.specs.Front.{AppendsFront}
use Rattle.irig_stamps.specs.{Dates.doubted, Dates.first_day}
use Rattle.irig_timed.specs.Held.{held}
use Rattle.irig_stamps.proofs.TableRows.{listed, standing-of}
use Rattle.irig_stamps.proofs.table.list_track.Goals as goal

pub returns-in-Ok-put_all : goal.returns-in-Ok-put_all
returns-in-Ok-put_all g c =
    let f = c.args.format in
    let s = c.args.settings.now in
    let ps = c.args.pulses.now.track.pulses in
    let track : c.build.new.lens.track ≡ c.args.pulses.now.track = ap (λ (v : LensView). v.track) c.in-Ok.ensures.looked.lens in
    let same = c.in-Ok-held_frames.ensures.held ∙ ap (λ (t : TrackView). held f s.alone s.century t.pulses) track in
    let found : c.held_frames.new.records.records ≡ frames f ps =
    c.in-Ok-held_frames.ensures.same ∙ (ap (λ (v : FramesView). v.records) c.new-records.ensures ∙ c.in-Ok.ensures.frames) in
    let days : c.first_day-day.result ≡ first_day f c.in-Ok-held_frames.held.items 0 (frames f ps) =
    c.first_day-day.ensures.day ∙ (λ i. first_day f (c.deref.ensures.value i) 0 (found i)) in
    let next = c.first_day-day.ensures.same ∙ found in
    let pulses = ap (λ (t : TrackView). t.pulses) (c.in-Ok-held_frames.ensures.pulses ∙ track) in
    let table = listed f ps s c.in-Ok-held_frames.held.items c.first_day-day.result same days c.held_frames.new.pulses.track.pulses
    c.count_doubted-doubted.new.records.records c.unwrap_or.result c.in-Ok-table.text.items pulses (c.count_doubted-doubted.ensures.same ∙ next)
    c.unwrap_or.ensures c.in-Ok-table.ensures in
    let count = c.count_doubted-doubted.ensures.count ∙ (λ i. doubted f (c.deref-2.ensures.value i) 0 (next i)) in (
      standing-of f ps s c.in-Ok-held_frames.held.items c.first_day-day.result same days c.is_some.result c.count_doubted-doubted.result
          c.is_some.ensures count,
      c.in-Ok-table.text.items,
      table,
      subst (λ t. Appends (g.W.Write.contents c.args.out.now) (g.W.Write.contents c.put_all.new.out) t) c.deref-4.ensures.value c.in-Ok-put_all.ensures,
    )

pub returns : goal.returns
returns g c =
    let f = c.args.format in
    let s = c.args.settings.now in
    let ps = c.args.pulses.now.track.pulses in
    let track : c.build.new.lens.track ≡ c.args.pulses.now.track = ap (λ (v : LensView). v.track) c.in-Ok.ensures.looked.lens in
    let same = c.in-Ok-held_frames.ensures.held ∙ ap (λ (t : TrackView). held f s.alone s.century t.pulses) track in
    let found : c.held_frames.new.records.records ≡ frames f ps =
    c.in-Ok-held_frames.ensures.same ∙ (ap (λ (v : FramesView). v.records) c.new-records.ensures ∙ c.in-Ok.ensures.frames) in
    let days : c.first_day-day.result ≡ first_day f c.in-Ok-held_frames.held.items 0 (frames f ps) =
    c.first_day-day.ensures.day ∙ (λ i. first_day f (c.deref.ensures.value i) 0 (found i)) in
    let next = c.first_day-day.ensures.same ∙ found in
    let pulses = ap (λ (t : TrackView). t.pulses) (c.in-Ok-held_frames.ensures.pulses ∙ track) in
    let table = listed f ps s c.in-Ok-held_frames.held.items c.first_day-day.result same days c.held_frames.new.pulses.track.pulses
    c.count_doubted-doubted.new.records.records c.unwrap_or.result c.in-Ok-table.text.items pulses (c.count_doubted-doubted.ensures.same ∙ next)
    c.unwrap_or.ensures c.in-Ok-table.ensures in (
      c.in-Ok-table.text.items,
      table,
      subst (λ t. AppendsFront (g.W.Write.contents c.args.out.now) (g.W.Write.contents c.put_all.new.out) t) c.deref-4.ensures.value c.in-Err.ensures,
    )
