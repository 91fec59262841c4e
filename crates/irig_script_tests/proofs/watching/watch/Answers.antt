use Rattle.std.proofs.Common.{◌∙◌, rules, ap, drop, List, ℕ, subst}
use Rattle.std.specs.Prelude.{Some}
use Rattle.irig_files.specs.{Puts.texts_at, Writes.writes_in}
use Rattle.irig_folders.specs.LogDisk.{own_place, steps_in}
use Rattle.irig_script_tests.specs.{Known.given, Known.known, Known.texts_in, Watched.IsWatched}
use Rattle.irig_script_tests.proofs.WatchedRuns.{watched_run}
use Rattle.irig_script_tests.proofs.watching.watch.Goals as goal

pub returns : goal.returns
returns g c = record {
  seen = λ out texts sights shows.
      let run = given c.args.dump.items c.args.format c.args.script.now.now in
      let new = c.run_on_dump.new.shelf in
      let screen = c.run_on_dump.new.screen in
      let same_path = ap (λ (l : List ℕ). drop 1 l) c.run_on_dump.ensures.label ∙ c.new-shelf.ensures.path in
      let was = (λ j. known c.args.screen.now
      (texts_at (own_place (c.new-shelf.ensures.path j)) (Some (writes_in (steps_in (c.new-shelf.ensures.disk j).system.calls.items))))) ∙ shows in
      let done : IsWatched run out texts sights (known screen (texts_in new.disk.now.system.calls.items)) c.run_on_dump.result =
      subst (λ (path : List ℕ). IsWatched run out texts sights
      (known screen (texts_at (own_place path) (Some (writes_in (steps_in new.disk.now.system.calls.items))))) c.run_on_dump.result) same_path
      (watched_run run out texts sights _ _ was _ c.run_on_dump.result c.run_on_dump.ensures.ends) in
      search (rules, done);
}
