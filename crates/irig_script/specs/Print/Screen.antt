-- What is known of a screen, and what its witness sees. This project's own.
use Rattle.std.specs.Prelude.{ℕ, Bool, false, List, Option}
use Rattle.irig_edit.specs.State.State.{State}
use Rattle.irig_script.specs.declared.print.reply.Reply.{Reply}
use Rattle.irig_script.specs.declared.print.reply.Reply.TheVariants.{Frames}
use Rattle.irig_script.specs.Print.Fine.{is_none_fine}

-- an output and a shelf at one moment: what was printed, and the texts written
pub record Sight : Type 0 where
  pub out : Option (List ℕ)
  pub texts : Option (List (List ℕ))

-- the sight of these
abbrev pub sight : Option (List ℕ) → Option (List (List ℕ)) → Sight
sight out texts = record { out = out; texts = texts }

-- what was printed, what the witness saw, if it shows it, and whether frames were listed of which
-- none was fine, and no others after them
pub record Shown : Type 0 where
  pub out : Option (List ℕ)
  pub seen : Option (List Sight)
  pub none_fine : Bool

-- the screen with these
abbrev pub screen_of : Option (List ℕ) → Option (List Sight) → Bool → Shown
screen_of out seen none_fine = record { out = out; seen = seen; none_fine = none_fine }

-- the screen before any listing of frames
abbrev pub shown : Option (List ℕ) → Option (List Sight) → Shown
shown out seen = screen_of out seen false

-- whether the last listing of frames had none that is fine, after one more reply
abbrev pub none_fine_after : Bool → Reply → State → Bool
none_fine_after before Frames s = is_none_fine s
none_fine_after before reply s = before
