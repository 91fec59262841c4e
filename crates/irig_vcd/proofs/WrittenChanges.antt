-- The changes of the lines that are written.
use Rattle.std.proofs.Common.{◌≡◌, ◌≤◌, ◌+◌, ◌++◌, ◌∷◌, ◌&&◌, ◌==◌, [], ℕ, Bool, true, false, not, List, nat_lt, decimal, Some, Ok, refl, ap, length}
use Rattle.std.proofs.Common.{length-append, ◌∙◌, arith, inl, inr, append_assoc}
use Rattle.std.specs.List.{list_any}
use Rattle.std.proofs.lemmas.Bool.{le-ltb, ltb-false, and_cases, cases_Bool, eqb-true, or_cases, not-false, false≢true}
use Rattle.std.proofs.lemmas.List.{append-nil}
use Rattle.irig_vcd.specs.{Answer.◌>>=◌, Journals.Comment, Level.Change, Level.change, Scan.Scan, Scan.closed, Scan.given, Scan.scan_words, Times.time_of}
use Rattle.irig_vcd.specs.{Times.micros_of, Values.scalar_level, Words.Word, Words.hash, Words.words_from, Words.rest_of}
use Rattle.irig_recording.specs.FileText.{time_line, level_line, edge_lines, end_line}
use Rattle.irig_recording.specs.Recording.{RisesFrom, UpTo, recording_view}
use Rattle.irig_recording.proofs.WrittenText.{last_or}
use Rattle.irig_vcd.proofs.WrittenWords.{time_word, level_word, level_words}
use Rattle.irig_vcd.proofs.{DecimalLemmas.spells, DecimalLemmas.decimal_is_number, ScanSteps.one_word, ScanSteps.own, WrittenEdges.turns}

-- a unit of ten to the nine femtoseconds is a microsecond
pub same_micros : (t : ℕ) → micros_of 9 t ≡ t
unfolding micros_of
same_micros t = omega arith

-- a decimal sets its time
pub decimal_time : (last t offset : ℕ) → last ≤ t → t ≤ 1099511627776 → time_of 9 last (decimal t) offset ≡ Ok t
unfolding time_of
decimal_time last t offset later low =
    let s = spells t (omega arith) in
    rw (decimal_is_number t (omega arith), s.value, le-ltb t last later, same_micros t, le-ltb 1099511627776 t low) refl

pub rises_after : (low : ℕ) (xs : List ℕ) → RisesFrom (low + 1) xs → RisesFrom low xs
rises_after low [] h = h
rises_after low (x ∷ xs) h = (omega (arith, h.0), h.1)

pub regroup : (a b c d : List ℕ) → ((a ++ b) ++ c) ++ d ≡ a ++ (b ++ (c ++ d))
regroup a b c d = simp append_assoc

-- a scan with nothing open
abbrev pub at_rest : ℕ → List Change → List Comment → Scan
at_rest last changes journals = record { last = last; changes = changes; journals = journals; opened = closed }

-- words lead from one scan to another one, before others
abbrev pub Leads : Scan → List Word → Scan → List Word → Type 0
Leads s words t rest = scan_words (33 ∷ []) 9 s words ≡ scan_words (33 ∷ []) 9 t rest

-- the line of a time
time_read : (last time at : ℕ) (changes : List Change) (journals : List Comment) (rest : List ℕ) → last ≤ time → time ≤ 1099511627776
    → Leads (at_rest last changes journals) (words_from at false (time_line time ++ rest)) (at_rest time changes journals)
    (words_from (at + length (time_line time)) false rest)
time_read last time at changes journals rest later low =
    let w = time_word time at rest (omega (arith, low)) in
    let s = at_rest last changes journals in
    let set : time_of 9 last (rest_of w.word.bytes) w.word.offset ≡ Ok time = rw w.digits (decimal_time last time w.word.offset later low) in
    ap (scan_words (33 ∷ []) 9 s) w.words
    ∙ (one_word (33 ∷ []) 9 s (at_rest time changes journals) w.word (words_from w.next false rest)
    (own (33 ∷ []) 9 s w.word hash refl w.kind ∙ ap (λ r. r >>= λ t. Ok (record s { last = t })) set)
    ∙ ap (λ n. scan_words (33 ∷ []) 9 (at_rest time changes journals) (words_from n false rest)) w.place)

read_level : (high : Bool) (at : ℕ) → scalar_level (33 ∷ []) (level_word high at) ≡ Ok (Some high)
read_level true at = refl
read_level false at = refl

-- the line of a level
level_line_read : (last at : ℕ) (high : Bool) (changes : List Change) (journals : List Comment) (rest : List ℕ)
    → Leads (at_rest last changes journals) (words_from at false (level_line high ++ rest)) (at_rest last (changes ++ change last high ∷ []) journals)
    (words_from (at + 1 + 1 + 1) false rest)
level_line_read last at high changes journals rest =
    let s = at_rest last changes journals in
    let ws = words_from (at + 1 + 1 + 1) false rest in
    ap (scan_words (33 ∷ []) 9 s) (level_words high at rest)
    ∙ (one_word (33 ∷ []) 9 s (given 9 s (Some high)) (level_word high at) ws (ap (λ r. r >>= λ level. Ok (given 9 s level)) (read_level high at))
    ∙ ap (λ n. scan_words (33 ∷ []) 9 (at_rest last (changes ++ change n high ∷ []) journals) ws) (same_micros last))

-- the lines of edges
pub lines : (edges : List ℕ) (high : Bool) (last at top : ℕ) (changes : List Change) (journals : List Comment) (rest : List ℕ) → RisesFrom last edges
    → UpTo top edges → top ≤ 1099511627776
    → Leads (at_rest last changes journals) (words_from at false (edge_lines high edges ++ rest))
    (at_rest (last_or last edges) (changes ++ turns high edges) journals) (words_from (at + length (edge_lines high edges)) false rest)
lines [] high last at top changes journals rest r u low =
    let same : at ≡ at + 0 = omega arith in
    rw (append-nil, ← same) refl
lines (t ∷ ts) high last at top changes journals rest r u low =
    let more = edge_lines (not high) ts ++ rest in
    let text : edge_lines high (t ∷ ts) ++ rest ≡ time_line t ++ (level_line high ++ more) =
    regroup (time_line t) (level_line high) (edge_lines (not high) ts) rest in
    let len : length (edge_lines high (t ∷ ts)) ≡ length (time_line t) + 3 + length (edge_lines (not high) ts) =
    omega (arith, length-append (time_line t ++ level_line high) (edge_lines (not high) ts), length-append (time_line t) (level_line high)) in
    let next = at + length (time_line t) in
    let one : List Change = changes ++ change t high ∷ [] in
    let end : next + 1 + 1 + 1 + length (edge_lines (not high) ts) ≡ at + length (edge_lines high (t ∷ ts)) = omega (arith, len) in
    ap (λ (l : List ℕ). scan_words (33 ∷ []) 9 (at_rest last changes journals) (words_from at false l)) text
    ∙ (time_read last t at changes journals (level_line high ++ more) r.0 (omega (arith, u.0, low))
    ∙ (level_line_read t next high changes journals more
    ∙ (lines ts (not high) t (next + 1 + 1 + 1) top one journals rest (rises_after t ts r.1) u.1 low
    ∙ rw (end, append_assoc changes (change t high ∷ []) (turns (not high) ts)) refl)))

-- an edge at the end is the last one
pub last_top : (edges : List ℕ) (low last top : ℕ) → RisesFrom low edges → UpTo top edges → list_any (λ edge. edge == top) edges ≡ true
    → last_or last edges ≡ top
last_top [] low last top r u h = absurd (false≢true h)
last_top (x ∷ []) low last top r u h = elim (or_cases (x == top) false h) [
  | inl is ↦ eqb-true x top is
  | inr never ↦ absurd (false≢true never)
]
last_top (x ∷ y ∷ ys) low last top r u h = elim (or_cases (x == top) (list_any (λ edge. edge == top) (y ∷ ys)) h) [
  | inl is ↦ (let e : x ≡ top = eqb-true x top is in absurd (omega (arith, r.1.0, u.1.0)))
  | inr more ↦ last_top (y ∷ ys) (x + 1) x top r.1 u.1 more
]

-- the line of the length, if there is one
pub ending : (last at top : ℕ) (edges : List ℕ) (changes : List Change) (journals : List Comment) (rest : List ℕ) → last ≤ top → top ≤ 1099511627776
    → (list_any (λ edge. edge == top) edges ≡ true → last ≡ top)
    → Leads (at_rest last changes journals) (words_from at false (end_line (recording_view top edges) ++ rest)) (at_rest top changes journals)
    (words_from (at + length (end_line (recording_view top edges))) false rest)
ending last at top edges changes journals rest up low there = elim (cases_Bool (nat_lt 0 top && not (list_any (λ edge. edge == top) edges))) [
  | inl line ↦ rw line (time_read last top at changes journals rest up low)
  | inr none ↦
      let same : last ≡ top = elim (and_cases (nat_lt 0 top) (not (list_any (λ edge. edge == top) edges)) none) [
        | inl zero_long ↦ (let z = ltb-false 0 top zero_long in omega arith)
        | inr some ↦ there (not-false (list_any (λ edge. edge == top) edges) some)
      ] in
      let stay : at ≡ at + 0 = omega arith in
      (rw (none, same, ← stay) refl)
]
