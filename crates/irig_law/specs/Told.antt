-- What is known of a stretch between two frames next to each other. This project's own.
use Rattle.std.specs.Prelude.{◌≡◌, ℕ, ◌+◌, ◌-◌, ◌<◌, ◌^◌, List, length}
use Rattle.irig_codes.specs.Format.{FormatView}
use Rattle.irig_recording.specs.declared.pulse.Pulse.{Pulse}
use Rattle.irig_law.specs.{Clocks.slack_of, Happened.AreDenials, Happened.HasHappened}
use Rattle.irig_law.specs.{Seens.SeenAfter, Seens.SeenBefore, Stretches.stretch}
use Rattle.irig_law.specs.declared.{frame.Frame.Frame, told.Told.Told}
use Rattle.irig_law.specs.declared.happened.Happened.TheVariants.{Nothing}

pub record IsTold (f : FormatView) (century : ℕ) (ps : List Pulse) (a b : Frame) (t : Told)
    : Type 0 where
  pub happened : HasHappened f century ps a b t.happened
  pub few : (n : ℕ) → t.happened ≡ Nothing n → n < 2 ^ 41
  pub denials : AreDenials f ps a b t.happened t.denials.items
  pub after : SeenAfter f ps a (slack_of ps a b) t.after.items
  pub before : SeenBefore f ps b (slack_of ps a b) t.before.items
  pub long : length t.after.items ≡ stretch f a b
  pub long_too : length t.before.items ≡ b.marker - a.marker + 1
