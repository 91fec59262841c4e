-- What a trace has kept of the changes that it followed.
use Rattle.std.specs.Prelude.{◌≡◌, ◌≤◌, ◌<◌, ℕ, Bool, true, List, Result, Ok, Err, take}
use Rattle.std.specs.List.{AllByRecursion}
use Rattle.irig_vcd.specs.{Level.Change, Level.change, Level.level_by_changes, Level.level_before}
use Rattle.irig_vcd.specs.{Level.edges_below, Level.edges_up_to, declared.fault.VcdFault.VcdFault}
use Rattle.irig_vcd.specs.{Answer.IsFaultOf, declared.reading.Body.Body, declared.trace.Trace.Trace}
use Rattle.irig_vcd.specs.{Extent.most_pulses, Window.moved, Window.within}
use Rattle.irig_vcd.specs.declared.extent.Extent.{Extent}
use Rattle.irig_recording.specs.Edges.{edges_kept}

-- a time and the level from it on, as a change
abbrev pub change_of : ℕ × Bool → Change
change_of c = change c.0 c.1

-- a trace whose time is one of its window has followed these changes of the window
pub record Traces (changes : List Change) (t : Trace) : Type 0 where
  pub upto : AllByRecursion (λ c. c.time ≤ t.time) changes
  pub before : t.before ≡ level_before changes t.time
  pub now : t.now ≡ level_by_changes changes t.time
  pub edges : t.edges ≡ take (edges_kept (most_pulses t.extent)) (edges_below changes t.time)

-- a trace at the microsecond of a window that its time falls on
abbrev pub placed : Extent → Trace → Trace
placed extent t = record {
  extent = extent;
  time = moved extent.window t.time;
  before = t.before;
  now = t.now;
  edges = t.edges;
}

-- a trace has followed these changes of a dump
pub record Follows (changes : List Change) (t : Trace) : Type 0 where
  pub upto : AllByRecursion (λ c. c.time ≤ t.time) changes
  pub traces : Traces (within t.extent.window changes) (placed t.extent t)

-- the level is high at some time before another, so that there is an edge
pub record EdgeBefore (time : ℕ) (changes : List Change) : Type 0 where
  pub at : ℕ
  pub before : at < time
  pub high : level_by_changes changes at ≡ true

-- the edges of changes up to an end, up to the most that are kept for `most` pulses
abbrev pub IsKept : ℕ → List Change → ℕ → List ℕ → Type 0
IsKept most changes end edges = edges ≡ take (edges_kept most) (edges_up_to changes end)

-- the length and the edges are those that are kept of the changes that were read, or it is the
-- fault unless memory ran out
abbrev pub KeepsEdges : Extent → Result Body VcdFault → Result (List Change × ℕ) VcdFault
    → Type 0
KeepsEdges extent (Ok x) read =
    (changes : List Change) × (last : ℕ) × (read ≡ Ok (changes, last))
    × (x.end ≡ moved extent.window last)
    × IsKept (most_pulses extent) (within extent.window changes) x.end x.edges
KeepsEdges extent (Err e) read = IsFaultOf e read
