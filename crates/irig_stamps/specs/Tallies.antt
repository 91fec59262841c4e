-- What is counted of lines, but for those of the header. This project's own.
use Rattle.std.specs.Prelude.{◌≡◌, ◌+◌, ◌-◌, ◌^◌, ℕ, Bool, false, not, min, max, List, Option, Some, None}
use Rattle.std.specs.Prelude.{if◌then◌else◌}
use Rattle.std.specs.List.{count_by, fold, list_any}
use Rattle.irig_stamps.specs.declared.look.Look.{Look}
use Rattle.irig_stamps.specs.{declared.tally.Span.Span, declared.tally.Tally.Tally}
use Rattle.irig_stamps.specs.Uneven.{uneven_in, width_after}

-- a count, and one more if that is asked for, up to 2^64 - 1
abbrev pub add_one : ℕ → Bool → ℕ
add_one n more = if more then min (n + 1) (2 ^ 64 - 1) else n

-- a span that has one more moment, too, if there is one
abbrev pub widened : Option Span → Option ℕ → Option Span
widened span None = span
widened None (Some m) = Some (record { first = m; last = m })
widened (Some span) (Some m) =
    Some (record { first = min span.first m; last = max span.last m })

-- from the first moment to the last one of the lines that are in the track
abbrev pub span_of : List Look → Option Span
span_of xs = fold (λ span x. widened span x.moment) None xs

-- how many lines there are after the header, how many have a time, how many have no number, each up
-- to 2^64 - 1, from when to when they are, the first one with another number of columns, and
-- whether the header names another unit
pub record IsTally (xs : List Look) (tally : Tally) : Type 0 where
  pub lines : tally.lines ≡ min (count_by (λ x. not x.header) xs) (2 ^ 64 - 1)
  pub timed : tally.timed ≡ min (count_by (λ x. x.timed) xs) (2 ^ 64 - 1)
  pub unnumbered : tally.unnumbered ≡ min (count_by (λ x. not x.numbered) xs) (2 ^ 64 - 1)
  pub span : tally.span ≡ span_of xs
  pub width : tally.width ≡ width_after None xs
  pub uneven : tally.uneven ≡ uneven_in None xs
  pub other_unit : tally.other_unit ≡ list_any (λ x. x.other_unit) xs

-- what is counted of no line
abbrev pub no_tally : Tally
no_tally = record {
  lines = 0;
  timed = 0;
  unnumbered = 0;
  span = None;
  width = None;
  uneven = None;
  other_unit = false;
}
