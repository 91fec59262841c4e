-- What is printed of two recordings, and what of the tracks of two files.
use Rattle.std.proofs.Common.{◌≡◌, ℕ, List, Option, Some, None, ap, sym, subst, inl, inr}
use Rattle.irig_codes.specs.Format.{FormatView}
use Rattle.irig_diff.specs.Patches.{PrintsIfRoom, PrintsText, text_between}
use Rattle.irig_comments.specs.{Framed.framed, Commented.commented_text}
use Rattle.irig_diff.specs.{Ending.Obeys, Unread.FailsForItself, Unread.Held}
use Rattle.irig_difference.specs.PatchText.{patch_text}
use Rattle.irig_recording.specs.Recording.{RecordingView}
use Rattle.irig_files.specs.Tracks.{Says, Unreadable, name_in}
use Rattle.irig_diff.specs.{declared.chosen.Settings.Settings, declared.ending.Ending.Ending}
use Rattle.irig_diff.specs.declared.ending.Ending.TheVariants as ending

-- a text was printed that takes no memory
if_room : (chosen : Settings) (text : List ℕ) (b a : RecordingView) (old new : Option (List ℕ)) (e : Ending) → PrintsText text b a old new e
    → PrintsIfRoom chosen text b a old new e
if_room chosen text b a old new (ending.Compared same) p = p
if_room chosen text b a old new (ending.Unprinted why) p = p
if_room chosen text b a old new (ending.Usage error) p = absurd p
if_room chosen text b a old new (ending.Unread path fault) p = absurd p

pub printed-plain : (chosen : Settings) (b a : RecordingView) (old new : Option (List ℕ)) (e : Ending) → chosen.frames ≡ None
    → PrintsText (patch_text b a) b a old new e → PrintsIfRoom chosen (text_between chosen.frames b a) b a old new e
printed-plain chosen b a old new e none p =
    subst (λ (f : Option FormatView). PrintsIfRoom chosen (text_between f b a) b a old new e) (sym none) (if_room chosen (patch_text b a) b a old new e p)

pub printed-frames : (chosen : Settings) (f : FormatView) (b a : RecordingView) (old new : Option (List ℕ)) (e : Ending) → chosen.frames ≡ Some f
    → PrintsIfRoom chosen (commented_text (framed f b) (framed f a)) b a old new e → PrintsIfRoom chosen (text_between chosen.frames b a) b a old new e
printed-frames chosen f b a old new e some p = subst (λ (g : Option FormatView). PrintsIfRoom chosen (text_between g b a) b a old new e) (sym some) p

-- of the tracks of two files
pub obeyed : (held : Held) (unread : Unreadable) (chosen : Settings) (b a : RecordingView) (old new : Option (List ℕ)) (e : Ending)
    → Says chosen.window (held chosen.before.now) (name_in chosen.wire) b → Says chosen.window (held chosen.after.now) (name_in chosen.wire_after) a
    → PrintsIfRoom chosen (text_between chosen.frames b a) b a old new e → Obeys held unread chosen old new e
obeyed held unread chosen b a old new (ending.Compared same) x y p = record { before = b; after = a; of_before = x; of_after = y; printed = p.0; told = p.1 }
obeyed held unread chosen b a old new (ending.Unprinted why) x y p = record { before = b; after = a; of_before = x; of_after = y; printed = p }
obeyed held unread chosen b a old new (ending.Usage error) x y p = absurd p
obeyed held unread chosen b a old new (ending.Unread path fault) x y p = elim p.0 [
  | inl first ↦ (inl (inl (ap (λ z. z.now) first), p.1), p.2)
  | inr second ↦ (inl (inr (ap (λ z. z.now) second), p.1), p.2)
]

-- after both tracks were read
pub read_both : (held : Held) (unread : Unreadable) (chosen : Settings) (b a : RecordingView) (e : Ending)
    → Says chosen.window (held chosen.before.now) (name_in chosen.wire) b → Says chosen.window (held chosen.after.now) (name_in chosen.wire_after) a
    → FailsForItself held unread chosen e
read_both held unread chosen b a (ending.Compared same) x y = tt
read_both held unread chosen b a (ending.Unprinted why) x y = tt
read_both held unread chosen b a (ending.Usage error) x y = tt
read_both held unread chosen b a (ending.Unread path fault) x y = inr (b, a, x, y)
