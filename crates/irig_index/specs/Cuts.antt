-- What a repair removes on its way to the place of the edit. This project's own.
use Rattle.std.specs.Prelude.{◌≡◌, ℕ, ◌+◌, ◌<◌, ◌≤◌, List, ◌++◌, slice_get, Some}
use Rattle.irig_index.specs.{declared.record.Record.Record, Sides.AllUpTo, Sides.AllAfter}

-- the record before a place is of a marker after `first`, up to `last`
pub record EndsWithin (first last : ℕ) (items : List Record) (place : ℕ) : Type 0 where
  pub number : ℕ
  pub at : number + 1 ≡ place
  pub one : Record
  pub there : slice_get items number ≡ Some one
  pub after : first < one.marker
  pub up_to : one.marker ≤ last

-- of all records those on both sides are left: what was between them is of markers after `first`,
-- up to `last`
pub record Cut (first last : ℕ) (all left right : List Record) : Type 0 where
  pub gone : List Record
  pub whole : all ≡ left ++ (gone ++ right)
  pub after : AllAfter first gone
  pub up_to : AllUpTo last gone

-- records in three parts: of markers up to `first`, of those after it up to `last`, and of later
-- ones
pub record Parts (first last : ℕ) (all start middle rest : List Record) : Type 0 where
  pub whole : all ≡ start ++ (middle ++ rest)
  pub early : AllUpTo first start
  pub after : AllAfter first middle
  pub up_to : AllUpTo last middle
  pub late : AllAfter last rest
