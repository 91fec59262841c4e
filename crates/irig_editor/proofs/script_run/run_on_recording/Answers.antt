use Rattle.std.proofs.Common.{◌∷◌, ◌∙◌, ap, drop, List, ℕ, rules, subst, sym}
use Rattle.std.specs.Prelude.{IsTrue}
use Rattle.irig_edit.specs.Opened.Openings.{MayBeShort}
use Rattle.irig_files.proofs.{Apart.stays_apart, PutsAt.texts_where}
use Rattle.irig_files.specs.{Goes.GoesTo, Puts.texts_at, Puts.writes_on, Taken.StaysBarred, Tracks.name_in}
use Rattle.irig_editor.specs.Given.{files}
use Rattle.irig_editor.proofs.{RunsBy.runs_by, Windows.runs_in}
use Rattle.irig_editor.proofs.script_run.run_on_recording.Goals as goal

pub returns : goal.returns
returns g c = λ source is.
    let old = c.new-shelf.result in
    let new = c.run_on_parts.new.shelf in
    let disk = g.D.Disk.disk in
    let told = g.D.Disk.is_told in
    let chosen = c.args.chosen.now in
    let same_path = ap (λ (l : List ℕ). drop 1 l) c.run_on_parts.ensures.label ∙ c.new-shelf.ensures.path in
    let kept : GoesTo told (disk c.args.disk.now) (disk new.disk.now) chosen.out.now =
    rw (c.new-shelf.ensures.disk, c.new-shelf.ensures.path) at c.run_on_parts.ensures.since.1 in
    let is_barred = g.D.Disk.is_barred in
    let barred : IsTrue told → StaysBarred (is_barred c.args.disk.now) (is_barred new.disk.now) (disk c.args.disk.now) (disk new.disk.now) chosen.out.now =
    rw (c.new-shelf.ensures.disk, c.new-shelf.ensures.path) at c.run_on_parts.ensures.since.0.1 in
    let done = runs_by (files (g.D.Disk.held c.args.disk.now) (g.D.Disk.unread c.args.disk.now) told
    (is_barred c.args.disk.now) (is_barred new.disk.now) (disk c.args.disk.now) (disk new.disk.now))
    chosen source c.args.screen.now c.run_on_parts.new.screen
    (g.R.Read.remaining c.args.script.now) (g.R.Read.remaining c.run_on_parts.new.script)
    (texts_at ((disk old.disk.now).paths old.path.now) (writes_on told (disk old.disk.now)))
    (texts_at ((disk new.disk.now).paths new.path.now) (writes_on told (disk new.disk.now)))
    (old.disk.ghost_name ∷ old.path.now) (new.disk.ghost_name ∷ new.path.now)
    (writes_on told (disk c.args.disk.now)) (writes_on told (disk new.disk.now)) old.failures new.failures
    c.run_on_parts.result c.run_on_parts.ensures.label
    (λ j. texts_at ((disk (c.new-shelf.ensures.disk j)).paths (c.new-shelf.ensures.path j)) (writes_on told (disk (c.new-shelf.ensures.disk j))))
    (texts_where told (disk c.args.disk.now) (disk new.disk.now) chosen.out.now new.path.now same_path (λ is_told. (kept is_told).paths))
    c.new-shelf.ensures.none_failed (kept, barred)
    (λ asked is_told. stays_apart (disk c.args.disk.now) (disk new.disk.now) chosen.track.now chosen.out.now (kept is_told)
    (c.requires.apart is_told asked))
    (λ memory. subst MayBeShort (sym is) (c.run_on_parts.ensures.memory memory))
    (runs_in (name_in chosen.wire) chosen.format source _ _ _ _ chosen.window c.args.recording c.args.journal
    c.run_on_parts.result is c.read_back_parts.ensures.plain c.requires.whole c.run_on_parts.ensures.ends) in
    search (rules, done)
