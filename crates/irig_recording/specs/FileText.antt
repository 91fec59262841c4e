-- The dump that is written of a recording. The form is IEEE 1364-2005, clause 18; that it is this
-- one is this project's own.
use Rattle.std.specs.Prelude.{◌≡◌, ◌==◌, ◌&&◌, ◌++◌, ℕ, Bool, false, not, List, [], ◌∷◌, codes}
use Rattle.std.specs.Prelude.{decimal, drop, nat_lt, if◌then◌else◌}
use Rattle.std.specs.List.{list_any}
use Rattle.irig_recording.specs.Recording.{RecordingView}

-- the lines before the first level
unfoldable pub head_text : List ℕ
head_text =
    codes "$timescale 1 us $end\n$scope module irig $end\n$var wire 1 ! code $end\n"
    ++ codes "$upscope $end\n$enddefinitions $end\n#0\n$dumpvars\n"

-- the line that sets a time in microseconds
abbrev pub time_line : ℕ → List ℕ
time_line time = 35 ∷ decimal time ++ 10 ∷ []

-- the line 1! or 0!
abbrev pub level_line : Bool → List ℕ
level_line high = (if high then 49 else 48) ∷ 33 ∷ 10 ∷ []

-- each edge with its level, the first of them high or low
abbrev pub edge_lines : Bool → List ℕ → List ℕ
edge_lines high [] = []
edge_lines high (edge ∷ edges) = time_line edge ++ level_line high ++ edge_lines (not high) edges

-- in a buffer, what is after the digits of an edge's time, which end at 21
pub record EndsLines (line : List ℕ) : Type 0 where
  pub level : ℕ
  pub pad : List ℕ
  pub ends : drop 21 line ≡ 10 ∷ level ∷ 33 ∷ 10 ∷ pad

-- whether the level is high from 0 on
abbrev pub begins_high : List ℕ → Bool
begins_high [] = false
begins_high (edge ∷ edges) = edge == 0

-- the edges above 0
abbrev pub later_edges : List ℕ → List ℕ
later_edges [] = []
later_edges (edge ∷ edges) = if edge == 0 then edges else edge ∷ edges

-- the line that sets the length, unless an edge is there or it is 0
abbrev pub end_line : RecordingView → List ℕ
end_line r =
    if nat_lt 0 r.micros && not (list_any (λ edge. edge == r.micros) r.edges)
    then time_line r.micros else []

-- the lines before the first edge above 0
abbrev pub header_text : Bool → List ℕ
header_text high = head_text ++ level_line high ++ codes "$end\n"

-- all lines
unfoldable pub file_text : RecordingView → List ℕ
file_text r =
    header_text (begins_high r.edges)
    ++ edge_lines (not (begins_high r.edges)) (later_edges r.edges)
    ++ end_line r

-- The same text, edge by edge.

-- what a contract sees of the writer of a text: the last edge or 0
pub record WriterView : Type 0 where
  pub last : ℕ

-- a writer after an edge
abbrev pub writer_view : ℕ → WriterView
writer_view last = record { last = last }

-- the lines of an edge: none at 0, since the header has that level
abbrev pub lines_at : Bool → ℕ → List ℕ
lines_at high edge = if edge == 0 then [] else time_line edge ++ level_line high

-- the line that sets the length, unless the last edge is there
abbrev pub length_line : ℕ → ℕ → List ℕ
length_line last length = if last == length then [] else time_line length
