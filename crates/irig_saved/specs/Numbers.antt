-- What the numbers of a saved journal are, but for how many there are of its parts. This project's
-- own.
use Rattle.std.specs.List.{AllByRecursion}
use Rattle.irig_saved.specs.Ranges.{IsNumber, IsPulse, IsSingle}
use Rattle.irig_saved.specs.declared.change.Change.TheVariants.{One, Group}
use Rattle.irig_saved.specs.{declared.change.Change.Change, declared.single.Single.Single}
use Rattle.irig_saved.specs.declared.single.Single.TheVariants.{Splice}
use Rattle.irig_saved.specs.declared.step.SavedStep.{SavedStep}

-- a change may be in a journal, but for how many pulses a splice inserts
abbrev pub NumbersOfSingle : Single → Type 0
NumbersOfSingle (Splice at count put) = IsNumber at × IsNumber count × AllByRecursion IsPulse put
NumbersOfSingle single = IsSingle single

-- and for how many changes are in a group
abbrev pub NumbersOfChange : Change → Type 0
NumbersOfChange (One x) = NumbersOfSingle x
NumbersOfChange (Group xs) = AllByRecursion NumbersOfSingle xs

-- with a cursor of 64 bits
abbrev pub NumbersOfStep : SavedStep → Type 0
NumbersOfStep t = IsNumber t.cursor × NumbersOfChange t.change
