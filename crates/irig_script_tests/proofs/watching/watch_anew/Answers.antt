use Rattle.std.proofs.Common.{◌≡◌, ◌∙◌, []}
use Rattle.std.specs.Prelude.{Some}
use Rattle.irig_script.specs.Print.Screen.{shown}
use Rattle.irig_script_tests.specs.Known.{known}
use Rattle.irig_script_tests.proofs.watching.watch_anew.Goals as goal

pub returns : goal.returns
returns c =
    let screen : c.new-screen.result ≡ shown (Some []) (Some []) =
    c.new-screen.ensures ∙ (λ j. shown (Some (c.new.ensures.items j)) (Some (c.new-2.ensures.none j))) in
    record { seen = c.watch-ended.ensures.seen [] [] [] (λ j. known (screen j) (c.new_files-files.ensures.empty j)) }
