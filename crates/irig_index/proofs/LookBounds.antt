-- A search and the checks of the frames that it finds look at few pulses: a check ends at the next marker at the latest.
use Rattle.std.proofs.Common.{◌≡◌, ℕ, ◌+◌, ◌-◌, ◌*◌, ◌<◌, ◌≤◌, List, [], min, inl, inr, arith}
use Rattle.std.proofs.lemmas.Bool.{cases_lt}
use Rattle.irig_codes.specs.Format.{FormatView}
use Rattle.irig_recording.specs.declared.pulse.Pulse.{Pulse}
use Rattle.irig_track.specs.Looks.{LensView}
use Rattle.irig_index.specs.{Checked.Checked, Frames.record_after, Looked.Looked, Passed.Passed}
use Rattle.irig_index.proofs.LookLemmas.{looked_more, looked_none, looked_up}

-- the looks from the place `first` up to another: two a place to find the markers, and those of the
-- checks, which reach from one marker to the next
pub record Spent (f : FormatView) (ps : List Pulse) (first place : ℕ) (old new : LensView) (before after : ℕ) : Type 0 where
  pub reach : ℕ
  pub order : first ≤ place
  pub from : first + 1 ≤ reach
  pub to : reach ≤ place + 99
  pub few : reach ≤ first + 1 + 99 * (place - first)
  pub looked : Looked old new before after (2 * (place - first) + (reach - (first + 1)))
  pub alone : (k : ℕ) → place ≤ k → k + 1 < reach → record_after f ps k ≡ []

pub spent_none : (f : FormatView) (ps : List Pulse) (first : ℕ) (a : LensView) (l : ℕ) → Spent f ps first first a a l l
spent_none f ps first a l = record {
  reach = first + 1;
  order = omega arith;
  from = omega arith;
  to = omega arith;
  few = omega arith;
  looked = looked_up a a l l 0 (2 * (first - first) + (first + 1 - (first + 1))) (looked_none a l) (omega arith);
  alone = λ k le lt. absurd (omega (arith, le, lt));
}

-- places that have no marker after them
pub spent_passed : (f : FormatView) (ps : List Pulse) (first place next : ℕ) (a b c : LensView) (l m n : ℕ)
    → Spent f ps first place a b l m → Passed f ps place next 0 b c m n → Spent f ps first next a c l n
spent_passed f ps first place next a b c l m n s passed = record {
  reach = s.reach;
  order = omega (arith, s.order, passed.order);
  from = s.from;
  to = omega (arith, s.to, passed.order);
  few = omega (arith, s.few, s.order, passed.order);
  looked = looked_more a b c l m n (2 * (place - first) + (s.reach - (first + 1))) (2 * (next - place) + 0) (2 * (next - first) + (s.reach - (first + 1)))
      s.looked passed.looked (omega (arith, s.order, passed.order));
  alone = λ k from to. s.alone k (omega (arith, passed.order, from)) to;
}

-- a place further on, with no more looks
pub spent_on : (f : FormatView) (ps : List Pulse) (first place next : ℕ) (a b : LensView) (l m : ℕ) → place ≤ next
    → Spent f ps first place a b l m → Spent f ps first next a b l m
spent_on f ps first place next a b l m more s = record {
  reach = s.reach;
  order = omega (arith, s.order, more);
  from = s.from;
  to = omega (arith, s.to, more);
  few = omega (arith, s.few, s.order, more);
  looked = looked_up a b l m (2 * (place - first) + (s.reach - (first + 1))) (2 * (next - first) + (s.reach - (first + 1))) s.looked
      (omega (arith, s.order, more));
  alone = λ k from to. s.alone k (omega (arith, more, from)) to;
}

-- and then a marker, and the check of its frame
pub spent_checked : (f : FormatView) (ps : List Pulse) (first place before : ℕ) (a b c d : LensView) (l m n o : ℕ)
    → Spent f ps first place a b l m → Passed f ps place before 2 b c m n → Checked f ps (before + 1) c d n o
    → (record_after f ps before ≡ [] → ⊥) → Spent f ps first (before + 1) a d l o
spent_checked f ps first place before a b c d l m n o s passed check some = elim (cases_lt (before + 1) s.reach) [
  | inl within ↦ absurd (some (s.alone before passed.order within))
  | inr past ↦ record {
    reach = check.reach;
    order = omega (arith, s.order, passed.order);
    from = omega (arith, s.order, passed.order, check.from);
    to = check.to;
    few = omega (arith, check.to, s.order, passed.order);
    looked = looked_more a c d l n o (2 * (before - first) + 2 + (s.reach - (first + 1))) (check.reach - (before + 1))
        (2 * (before + 1 - first) + (check.reach - (first + 1)))
        (looked_more a b c l m n (2 * (place - first) + (s.reach - (first + 1))) (2 * (before - place) + 2) (2 * (before - first) + 2 + (s.reach - (first + 1)))
        s.looked passed.looked (omega (arith, s.order, passed.order)))
        check.looked (omega (arith, past, s.order, s.from, passed.order, check.from));
    alone = check.alone;
  }
]

-- all of a window
pub spent_all : (f : FormatView) (ps : List Pulse) (first last : ℕ) (a b : LensView) (l m : ℕ) → Spent f ps first last a b l m
    → Looked a b l m (min (101 * (last - first)) (3 * (last - first) + 98))
spent_all f ps first last a b l m s =
    looked_up a b l m (2 * (last - first) + (s.reach - (first + 1))) (min (101 * (last - first)) (3 * (last - first) + 98)) s.looked
    (omega (arith, s.few, s.to, s.order, s.from))
