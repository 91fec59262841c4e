use Rattle.std.proofs.Common.{◌≡◌, ◌∙◌, Ok, refl, sym}
use Rattle.irig_editor.proofs.{RunsBy.fails_by, Windows.few_of, Windows.of_session}
use Rattle.irig_files.proofs.Apart.{stays_here}
use Rattle.irig_files.specs.{Nowhere.leaves_nowhere, Tracks.name_in}
use Rattle.irig_vcd.specs.{Answer.bytes_of, Window.parts_in}
use Rattle.irig_editor.proofs.script_run.run_on_read.Goals as goal

pub returns-in-Err-clause-obeyed : goal.returns-in-Err-clause-obeyed
returns-in-Err-clause-obeyed g c = λ source is whole. (
  refl,
  (
    source,
    whole,
    fails_by _ c.args.chosen.now source _ c.in-Err.fault (leaves_nowhere _ _ _ _ (g.met.D.Disk.only_now _))
        (λ told. stays_here (g.D.Disk.disk c.args.disk.now) c.args.chosen.now.track.now (g.met.D.Disk.only_now c.args.disk.now))
        (rw c.in-Err.is at is),
  ),
)

pub returns-then-is_of_session-clause-obeyed : goal.returns-then-is_of_session-clause-obeyed
returns-then-is_of_session-clause-obeyed g c = λ source is whole.
    let chosen = c.args.chosen.now in
    let read : parts_in chosen.window (name_in chosen.wire) source ≡ Ok (c.in-Ok.parts.0, bytes_of c.in-Ok.parts.1) = rw c.in-Ok.is at is in (
      refl,
      (
        refl,
        (λ to. (leaves_nowhere _ _ _ _ (g.met.D.Disk.only_now _))),
        (λ at told. stays_here (g.D.Disk.disk c.args.disk.now) at (g.met.D.Disk.only_now c.args.disk.now)),
      ),
      (
        source,
        whole,
        of_session chosen.window (name_in chosen.wire) source _ c.in-Ok.parts.1 (sym c.is_of_session.ensures ∙ c.if-is_of_session.true) read,
      ),
    )

pub run_on_recording-result-requires-clause-few : goal.run_on_recording-result-requires-clause-few
run_on_recording-result-requires-clause-few g c =
    few_of c.args.chosen.now.window c.in-Ok.parts.1 (sym c.is_of_session.ensures ∙ c.if-is_of_session.false) (rw c.in-Ok.is at c.requires.few)

pub run_on_recording-result-requires-clause-whole : goal.run_on_recording-result-requires-clause-whole
run_on_recording-result-requires-clause-whole g c = sym c.is_of_session.ensures ∙ c.if-is_of_session.false

pub returns-clause-obeyed : goal.returns-clause-obeyed
returns-clause-obeyed g c = λ source is whole. (refl, (source, whole, c.run_on_recording-result.ensures source (rw c.in-Ok.is at is)))
