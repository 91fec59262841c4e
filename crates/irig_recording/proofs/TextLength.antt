-- How long the text of a recording is: it can be read again.
use Rattle.std.proofs.Common.{◌≡◌, ◌≤◌, ◌*◌, ◌^◌, ◌==◌, ◌++◌, ◌∷◌, [], ℕ, Bool, true, false, not, List, length, decimal, refl, arith, length-append}
use Rattle.std.proofs.Common.{if◌then◌else◌, nat_lt, ◌&&◌, Result, Ok, Err, IsOk, OnOk}
use Rattle.std.specs.List.{list_any}
use Rattle.std.proofs.lemmas.{Bool.false≢true, Fmt.length-decimal-le}
use Rattle.irig_recording.specs.FileText.{time_line, level_line, edge_lines, head_text, header_text, later_edges, begins_high, end_line, lines_at, file_text}
use Rattle.irig_recording.specs.Recording.{UpTo, RecordingView, IsRecording}

-- what a function ensures of an Ok, if it answers Ok
pub at_ok : {T E P : Type 0} (r : Result T E) → IsOk r → OnOk r P → P
at_ok (Ok x) ok p = p
at_ok (Err e) ok p = absurd (false≢true ok)

-- 2^40 has 13 digits
pub length-time_line : (time : ℕ) → time ≤ 2 ^ 40 → length (time_line time) ≤ 15
length-time_line time early =
    let digits : length (decimal time) ≤ 13 = length-decimal-le 13 time (omega arith) (omega (arith, early)) (omega arith) in
    omega (arith, digits, length-append (decimal time) (10 ∷ []))

lines_or_none : (none : Bool) (lines : List ℕ) → length lines ≤ 18 → length (if none then [] else lines) ≤ 18
lines_or_none true lines few = omega arith
lines_or_none false lines few = few

-- the two lines of an edge
pub length-lines_at : (high : Bool) (edge : ℕ) → edge ≤ 2 ^ 40 → length (lines_at high edge) ≤ 18
length-lines_at high edge early = lines_or_none (edge == 0) (time_line edge ++ level_line high)
    (omega (arith, length-time_line edge early, length-append (time_line edge) (level_line high)))

length-edge_lines : (high : Bool) (top : ℕ) (edges : List ℕ) → top ≤ 2 ^ 40 → UpTo top edges → length (edge_lines high edges) ≤ 18 * length edges
length-edge_lines high top [] short within = omega arith
length-edge_lines high top (edge ∷ edges) short within =
    let line : length (time_line edge) ≤ 15 = length-time_line edge (omega (arith, within.0, short)) in
    let more = length-edge_lines (not high) top edges short within.1 in
    omega (arith, line, more, length-append (time_line edge ++ level_line high) (edge_lines (not high) edges), length-append (time_line edge) (level_line high))

pub length-header_text : (high : Bool) → length (header_text high) ≡ 125
unfolding head_text
length-header_text true = refl
length-header_text false = refl

-- an edge at 0 has no lines
without : (at_start : Bool) (edge : ℕ) (edges : List ℕ) → length (if at_start then edges else edge ∷ edges) ≤ length (edge ∷ edges)
without true edge edges = omega arith
without false edge edges = omega arith

without_up : (at_start : Bool) (top edge : ℕ) (edges : List ℕ) → UpTo top (edge ∷ edges) → UpTo top (if at_start then edges else edge ∷ edges)
without_up true top edge edges within = within.1
without_up false top edge edges within = within

length-later_edges : (edges : List ℕ) → length (later_edges edges) ≤ length edges
length-later_edges [] = omega arith
length-later_edges (edge ∷ edges) = without (edge == 0) edge edges

pub later_up : (top : ℕ) (edges : List ℕ) → UpTo top edges → UpTo top (later_edges edges)
later_up top [] within = within
later_up top (edge ∷ edges) within = without_up (edge == 0) top edge edges within

length-end_line : (stands : Bool) (time : ℕ) → time ≤ 2 ^ 40 → length (if stands then time_line time else []) ≤ 15
length-end_line true time early = length-time_line time early
length-end_line false time early = omega arith

pub length-file_text : (r : RecordingView) → IsRecording r.micros r.edges → length (file_text r) ≤ 2 ^ 28
unfolding file_text
length-file_text r is =
    let high = begins_high r.edges in let later = later_edges r.edges in
    let lines = length-edge_lines (not high) r.micros later is.short (later_up r.micros r.edges is.within) in
    let end = length-end_line (nat_lt 0 r.micros && not (list_any (λ edge. edge == r.micros) r.edges)) r.micros is.short in
    omega (
      arith,
      length-header_text high,
      lines,
      length-later_edges r.edges,
      end,
      is.few,
      length-append (header_text high ++ edge_lines (not high) later) (end_line r),
      length-append (header_text high) (edge_lines (not high) later),
    )
