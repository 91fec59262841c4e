-- What each word of the language asks for. This project's own, after the commands of ed.
use Rattle.std.specs.Prelude.{◌≡◌, ◌<◌, ℕ, ℤ, List, [], ◌∷◌}
use Rattle.irig_codes.specs.Words.{element_word, kind_word}
use Rattle.irig_codes.specs.{declared.format.Kind.Kind, declared.width.Element.Element}
use Rattle.irig_moment.specs.Moment.{MomentView}
use Rattle.irig_saved.specs.Letters.{letter_word}
use Rattle.irig_lines.specs.Addresses.{IsAddress, IsAddressOrCursor, IsRange, IsTime}
use Rattle.irig_lines.specs.Arguments.{AreFrames, AreTimes, IsExpression}
use Rattle.irig_lines.specs.{Numbers.IsDistance, declared.address.Address.Address}
use Rattle.irig_lines.specs.{declared.command.Command.Command, declared.keyword.Keyword.Keyword}
use Rattle.irig_lines.specs.{declared.range.Range.Range, declared.time.Time.Time}
use Rattle.irig_lines.specs.declared.command.Command.TheVariants as command
use Rattle.irig_lines.specs.declared.keyword.Keyword.TheVariants as word

-- a word that takes neither a range nor an argument
abbrev pub IsAlone : Keyword → Type 0
IsAlone word.Undo = Unit {0}
IsAlone word.Redo = Unit {0}
IsAlone word.Begin = Unit {0}
IsAlone word.End = Unit {0}
IsAlone word.Abort = Unit {0}
IsAlone word.Frames = Unit {0}
IsAlone word.Marks = Unit {0}
IsAlone word.Info = Unit {0}
IsAlone word.Write = Unit {0}
IsAlone word.Save = Unit {0}
IsAlone word.Quit = Unit {0}
IsAlone _ = ⊥

-- what a word asks for, with the range before it and the words after it
abbrev pub Asks : Keyword → List ℕ → List (List ℕ) → Command → Type 0
Asks word.Missing range args asked = (a : Address) × (asked ≡ command.Show a) × IsAddress range a
Asks word.List range args asked = (r : Range) × (asked ≡ command.List r)
    × IsRange range r × (args ≡ [])
Asks word.Delete range args asked = (r : Range) × (asked ≡ command.Delete r)
    × IsRange range r × (args ≡ [])
Asks word.Join range args asked = (r : Range) × (asked ≡ command.Join r)
    × IsRange range r × (args ≡ [])
Asks word.Shift range args asked = (r : Range) × (d : ℤ) × (x : List ℕ)
    × (asked ≡ command.Shift r d) × IsRange range r × (args ≡ x ∷ []) × IsDistance x d
Asks word.Split range args asked = (a : Address) × (s : Time) × (t : Time)
    × (asked ≡ command.Split a s t) × IsAddressOrCursor range a × AreTimes args s t
Asks word.Force range args asked = (a : Address) × (e : Element) × (asked ≡ command.Force a e)
    × IsAddressOrCursor range a × (args ≡ element_word e ∷ [])
Asks word.Insert range args asked = (s : Time) × (t : Time) × (asked ≡ command.Insert s t)
    × (range ≡ []) × AreTimes args s t
Asks word.Invert range args asked = (s : Time) × (t : Time) × (asked ≡ command.Invert s t)
    × (range ≡ []) × AreTimes args s t
Asks word.Regen range args asked = (s : Time) × (f : ℕ) × (m : MomentView) × (c : ℕ)
    × (asked ≡ command.Regen s f m c) × (range ≡ []) × AreFrames args s f m c
Asks word.Format range args asked = (k : Kind) × (n : ℕ) × (x : List ℕ)
    × (asked ≡ command.Format k n) × (range ≡ []) × (args ≡ kind_word k ∷ x ∷ []) × IsExpression x n
Asks word.Mark range args asked = (l : ℕ) × (t : Time) × (x : List ℕ) × (asked ≡ command.Mark l t)
    × (range ≡ []) × (args ≡ letter_word l ∷ x ∷ []) × (l < 26) × IsTime x t
Asks word.Unmark range args asked = (l : ℕ) × (asked ≡ command.Unmark l)
    × (range ≡ []) × (args ≡ letter_word l ∷ []) × (l < 26)
Asks word.Undo range args asked = (asked ≡ command.Undo) × (range ≡ []) × (args ≡ [])
Asks word.Redo range args asked = (asked ≡ command.Redo) × (range ≡ []) × (args ≡ [])
Asks word.Begin range args asked = (asked ≡ command.Begin) × (range ≡ []) × (args ≡ [])
Asks word.End range args asked = (asked ≡ command.End) × (range ≡ []) × (args ≡ [])
Asks word.Abort range args asked = (asked ≡ command.Abort) × (range ≡ []) × (args ≡ [])
Asks word.Frames range args asked = (asked ≡ command.Frames) × (range ≡ []) × (args ≡ [])
Asks word.Marks range args asked = (asked ≡ command.Marks) × (range ≡ []) × (args ≡ [])
Asks word.Info range args asked = (asked ≡ command.Info) × (range ≡ []) × (args ≡ [])
Asks word.Write range args asked = (asked ≡ command.Write) × (range ≡ []) × (args ≡ [])
Asks word.Save range args asked = (asked ≡ command.Save) × (range ≡ []) × (args ≡ [])
Asks word.Quit range args asked = (asked ≡ command.Quit) × (range ≡ []) × (args ≡ [])
Asks word.Unknown range args asked = ⊥
