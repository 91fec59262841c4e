-- What a saved journal may hold: numbers of 64 bits. This project's own.
use Rattle.std.specs.Prelude.{◌≡◌, ◌<◌, ◌≤◌, ◌^◌, ℕ, ℤ, List, Option, Some, None, length, negsuc}
use Rattle.std.specs.Prelude.{pos}
use Rattle.std.specs.List.{AllByRecursion}
use Rattle.irig_recording.specs.declared.pulse.Pulse.{Pulse}
use Rattle.irig_saved.specs.declared.single.Single.TheVariants.{Splice, Toggle, Shift, SetFormat}
use Rattle.irig_saved.specs.declared.single.Single.TheVariants.{SetMark}
use Rattle.irig_saved.specs.declared.change.Change.TheVariants.{One, Group}
use Rattle.irig_saved.specs.{declared.single.Single.Single, declared.change.Change.Change}
use Rattle.irig_saved.specs.{declared.step.SavedStep.SavedStep, declared.saved.Saved.Saved}

-- a number of 64 bits
abbrev pub IsNumber : ℕ → Type 0
IsNumber n = n < 2 ^ 64

-- a number of 64 bits with a sign
abbrev pub IsDistance : ℤ → Type 0
IsDistance (pos n) = n < 2 ^ 63
IsDistance (negsuc n) = n < 2 ^ 63

-- nothing, or a number
abbrev pub IsTime : Option ℕ → Type 0
IsTime None = Unit {0}
IsTime (Some t) = IsNumber t

-- both of its times are numbers of 64 bits
abbrev pub IsPulse : Pulse → Type 0
IsPulse p = IsNumber p.rise × IsNumber p.fall

-- all its numbers are of 64 bits, an expression is a digit 0 to 7, a letter is one of 26
abbrev pub IsSingle : Single → Type 0
IsSingle (Splice at count put) =
    IsNumber at × IsNumber count × IsNumber (length put) × AllByRecursion IsPulse put
IsSingle (Toggle a b) = IsNumber a × IsNumber b
IsSingle (Shift i j by marks) = IsNumber i × IsNumber j × IsDistance by × (length marks ≡ 26)
IsSingle (SetFormat kind expression) = expression ≤ 7
IsSingle (SetMark letter time) = letter < 26 × IsTime time

-- a change alone, or a group whose count fits 64 bits
abbrev pub IsChange : Change → Type 0
IsChange (One x) = IsSingle x
IsChange (Group xs) = IsNumber (length xs) × AllByRecursion IsSingle xs

-- a cursor of 64 bits, and the change
abbrev pub IsStep : SavedStep → Type 0
IsStep s = IsNumber s.cursor × IsChange s.change

-- this many pulses
abbrev pub ArePulses : ℕ → List Pulse → Type 0
ArePulses count ps = (length ps ≡ count) × AllByRecursion IsPulse ps

-- this many changes
abbrev pub AreSingles : ℕ → List Single → Type 0
AreSingles count xs = (length xs ≡ count) × AllByRecursion IsSingle xs

-- this many steps
abbrev pub ManySteps : ℕ → List SavedStep → Type 0
ManySteps count ss = (length ss ≡ count) × AllByRecursion IsStep ss

-- a count of steps that fits 64 bits
abbrev pub AreSteps : List SavedStep → Type 0
AreSteps ss = IsNumber (length ss) × AllByRecursion IsStep ss

-- what can be saved: an expression 0 to 7, and numbers of 64 bits
pub record IsSaved (s : Saved) : Type 0 where
  pub expression : s.expression ≤ 7
  pub cursor : IsNumber s.cursor
  pub letters : length s.marks ≡ 26
  pub marks : AllByRecursion IsTime s.marks
  pub past : AreSteps s.past
  pub future : AreSteps s.future
