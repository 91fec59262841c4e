use Rattle.std.proofs.Common.{rules, ◌≡◌, ◌∷◌, ◌∙◌, ap, drop, List, ℕ, Ok}
use Rattle.irig_vcd.specs.{Answer.bytes_of, Window.parts_in}
use Rattle.irig_files.specs.Tracks.{name_in}
use Rattle.irig_files.proofs.Apart.{stays_here}
use Rattle.irig_files.proofs.PutsAt.{texts_where}
use Rattle.std.specs.Prelude.{IsTrue}
use Rattle.irig_files.specs.{Goes.GoesTo, Nowhere.leaves_nowhere, Puts.texts_at, Puts.writes_on, Taken.StaysBarred}
use Rattle.irig_guard.specs.Given.{AreSpared, files, place_of, product_of}
use Rattle.irig_guard.proofs.{RunsBy.apart_from, RunsBy.fails_by, RunsBy.path_stays, RunsBy.runs_by, Windows.guards_in, Windows.runs_short}
use Rattle.irig_guarding.specs.declared.product.Product.TheVariants as product
use Rattle.irig_guard.proofs.script_run.run_on_read.Goals as goal

pub returns-in-Err-clause-ran : goal.returns-in-Err-clause-ran
returns-in-Err-clause-ran g c = λ source is. fails_by _ c.args.chosen.now source _ c.in-Err.fault (leaves_nowhere _ _ _ _ (g.met.D.Disk.only_now _))
    c.args.terms c.requires.shown (rw c.in-Err.is at is)

pub returns-in-Err-clause-spared : goal.returns-in-Err-clause-spared
returns-in-Err-clause-spared g c = λ path read told. stays_here (g.D.Disk.disk c.args.disk.now) path (g.met.D.Disk.only_now c.args.disk.now)

pub returns-clause-ran : goal.returns-clause-ran
returns-clause-ran g c = λ source is.
    let old = c.new-shelf.result in
    let new = c.guard_on_parts.new.shelf in
    let disk = g.D.Disk.disk in
    let told = g.D.Disk.is_told in
    let chosen = c.args.chosen.now in
    let path : old.path.now ≡ place_of chosen = c.new-shelf.ensures.path ∙ c.place_of.ensures in
    let same_path = ap (λ (l : List ℕ). drop 1 l) c.guard_on_parts.ensures.label ∙ (c.new-shelf.ensures.path ∙ c.place_of.ensures) in
    let kept : GoesTo told (disk c.args.disk.now) (disk new.disk.now) (place_of chosen) =
    rw (c.new-shelf.ensures.disk, path) at c.guard_on_parts.ensures.since.1 in
    let is_barred = g.D.Disk.is_barred in
    let barred : IsTrue told → StaysBarred (is_barred c.args.disk.now) (is_barred new.disk.now) (disk c.args.disk.now) (disk new.disk.now)
    (place_of chosen) = rw (c.new-shelf.ensures.disk, path) at c.guard_on_parts.ensures.since.0.1 in
    let recording = c.in-Ok.parts.0 in
    let journal = bytes_of c.in-Ok.parts.1 in
    let read : parts_in chosen.window (name_in chosen.wire) source ≡ Ok (recording, journal) = rw c.in-Ok.is at is in
    let done = runs_by (files (g.D.Disk.held c.args.disk.now) (g.D.Disk.unread c.args.disk.now) told
    (is_barred c.args.disk.now) (is_barred new.disk.now) (disk c.args.disk.now) (disk new.disk.now))
    chosen source (g.W.Write.contents c.args.out.now) (g.W.Write.contents c.guard_on_parts.new.out)
    (g.R.Read.remaining c.args.script.now) (g.R.Read.remaining c.guard_on_parts.new.script)
    (texts_at ((disk old.disk.now).paths old.path.now) (writes_on told (disk old.disk.now)))
    (texts_at ((disk new.disk.now).paths new.path.now) (writes_on told (disk new.disk.now)))
    (old.disk.ghost_name ∷ old.path.now) (new.disk.ghost_name ∷ new.path.now)
    (writes_on told (disk c.args.disk.now)) (writes_on told (disk new.disk.now)) old.failures new.failures
    c.guard_on_parts.result c.guard_on_parts.ensures.label
    (λ j. texts_at ((disk (c.new-shelf.ensures.disk j)).paths (path j)) (writes_on told (disk (c.new-shelf.ensures.disk j))))
    (texts_where told (disk c.args.disk.now) (disk new.disk.now) (place_of chosen) new.path.now same_path (λ is_told. (kept is_told).paths))
    c.new-shelf.ensures.none_failed (kept, barred)
    (λ memory. runs_short chosen.window (name_in chosen.wire) source _ _ read
    (rw c.used_journal-journal.ensures.used at c.guard_on_parts.ensures.memory memory))
    c.args.terms c.requires.shown
    (guards_in (name_in chosen.wire) chosen.format _ source (product_of chosen) _ _ _ _ chosen.window recording journal
    c.guard_on_parts.result read c.read_back_parts.ensures.plain
    (rw (c.used_journal-journal.ensures.used, c.product_of.ensures) at c.guard_on_parts.ensures.ends)) in
    search (rules, done)

pub returns-clause-spared : goal.returns-clause-spared
returns-clause-spared g c =
    let old = c.new-shelf.result in
    let new = c.guard_on_parts.new.shelf in
    let disk = g.D.Disk.disk in
    let told = g.D.Disk.is_told in
    let chosen = c.args.chosen.now in
    let path : old.path.now ≡ place_of chosen = c.new-shelf.ensures.path ∙ c.place_of.ensures in
    let kept : GoesTo told (disk c.args.disk.now) (disk new.disk.now) (place_of chosen) =
    rw (c.new-shelf.ensures.disk, path) at c.guard_on_parts.ensures.since.1 in
    let here : product_of chosen ≡ product.Nothing → disk new.disk.now ≡ disk old.disk.now =
    λ asked. λ j. disk (c.guard_on_parts.ensures.nothing (c.product_of.ensures ∙ asked) j).disk.now in
    let nothing : product_of chosen ≡ product.Nothing → disk new.disk.now ≡ disk c.args.disk.now =
    λ asked. here asked ∙ ap disk c.new-shelf.ensures.disk in
    let done : AreSpared told (disk c.args.disk.now) (disk new.disk.now) chosen =
    λ at read is_told. path_stays (disk c.args.disk.now) (disk new.disk.now) chosen at
    (apart_from (disk c.args.disk.now) chosen (c.requires.apart is_told) (c.requires.others is_told) at read) (kept is_told) nothing
    (g.met.D.Disk.only_now c.args.disk.now) in
    search (rules, done)
