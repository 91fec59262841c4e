-- What is written is read back.
use Rattle.std.proofs.Common.{◌≡◌, ◌≤◌, ◌+◌, ◌*◌, ◌++◌, ◌∷◌, ◌==◌, [], ℕ, Bool, true, false, not, List, length, codes, None, Ok, refl, ap, sym, ◌∙◌, arith, inl, inr}
use Rattle.std.proofs.Common.{subst, length-append}
use Rattle.std.specs.List.{list_any}
use Rattle.std.proofs.lemmas.{Bool.le-ltb, Bool.cases_eq, Bool.eq-eqb, Bool.ne_eqb, List.append-nil}
use Rattle.irig_vcd.specs.Words.{Word, words_from, words_of, dollar, hash}
use Rattle.irig_vcd.specs.{Answer.◌>>=◌, Answer.pair_of, Declarations.declarations_of, Dump.dump, Dump.recorded, Dump.scan_of, Dump.scanned, Journals.Comment}
use Rattle.irig_vcd.specs.{Level.edges_up_to, Level.Change, Level.change, Scales.exponent_of, Scan.scan_ended, Scan.scan_words, Scan.start, Sections.section_of}
use Rattle.irig_vcd.specs.{Sections.is_mark, Times.time_of, Times.micros_of, Variables.declared_by, Variables.variable_of}
use Rattle.irig_recording.specs.FileText.{file_text, head_text, header_text, edge_lines, begins_high, later_edges, end_line}
use Rattle.irig_recording.specs.Recording.{RisesFrom, UpTo, RecordingView, recording_view, IsRecording}
use Rattle.irig_recording.proofs.{TextLength.length-header_text, WrittenText.last_or, WrittenText.last_up}
use Rattle.irig_vcd.proofs.WrittenChanges.{at_rest, ending, last_top, lines, regroup, rises_after, same_micros}
use Rattle.irig_vcd.proofs.{WrittenEdges.turns, WrittenEdges.high_edges, WrittenEdges.low_edges, WrittenWords.level_word}

-- the words after the declarations
abbrev pub after_header : Bool → List Word → List Word
after_header high ws =
    record { kind = hash; bytes = codes "#0"; offset = 104 }
    ∷ record { kind = dollar; bytes = codes "$dumpvars"; offset = 107 }
    ∷ level_word high 117
    ∷ record { kind = dollar; bytes = codes "$end"; offset = 120 }
    ∷ ws

pub declared : (high : Bool) (rest : List ℕ) → declarations_of None (words_of (header_text high ++ rest))
    ≡ Ok ((9, codes "!"), after_header high (words_from 125 false rest))
unfolding head_text declarations_of section_of is_mark exponent_of declared_by variable_of
declared true rest = refl
declared false rest = refl

header_played : (high : Bool) (ws : List Word)
    → scan_words (codes "!") 9 start (after_header high ws) ≡ scan_words (codes "!") 9 (at_rest 0 (change 0 high ∷ []) []) ws
unfolding time_of micros_of is_mark
header_played true ws = refl
header_played false ws = refl

-- a text that begins with a recording's: its changes are those of the recording, and then comes the rest
pub record Begun (top : ℕ) (edges rest : List ℕ) : Type 0 where
  pub changes : List Change
  pub recorded : recorded changes top ≡ Ok (recording_view top edges)
  pub scan : scan_of None (file_text (recording_view top edges) ++ rest)
      ≡ Ok (9, scan_words (codes "!") 9 (at_rest top changes []) (words_from (length (file_text (recording_view top edges))) false rest))

-- a header, lines of edges and the line of the length, and a text after them
played_back : (high : Bool) (later : List ℕ) (top : ℕ) (edges rest : List ℕ) → RisesFrom 1 later → UpTo top later → top ≤ 1099511627776
    → (list_any (λ edge. edge == top) edges ≡ true → last_or 0 later ≡ top)
    → scan_of None (header_text high ++ (edge_lines (not high) later ++ (end_line (recording_view top edges) ++ rest)))
    ≡ Ok (
      9,
      scan_words (codes "!") 9 (at_rest top (change 0 high ∷ turns (not high) later) [])
          (words_from (125 + length (edge_lines (not high) later) + length (end_line (recording_view top edges))) false rest),
    )
played_back high later top edges rest r u low there =
    let behind_header = edge_lines (not high) later ++ (end_line (recording_view top edges) ++ rest) in
    let one : List Change = change 0 high ∷ [] in
    ap (λ r. r >>= λ begun. pair_of begun.0.0 (scan_words begun.0.1 begun.0.0 start begun.1)) (declared high behind_header)
    ∙ ap (λ x. Ok (9, x)) (header_played high (words_from 125 false behind_header)
    ∙ (lines later (not high) 0 125 top one [] (end_line (recording_view top edges) ++ rest) (rises_after 0 later r) u low
    ∙ ending (last_or 0 later) (125 + length (edge_lines (not high) later)) top edges (one ++ turns (not high) later) [] rest
    (last_up later 0 top (omega arith) u) low there))

few_recorded : (cs : List Change) (top : ℕ) (edges : List ℕ) → edges_up_to cs top ≡ edges → length edges ≤ 2 * 4194304
    → recorded cs top ≡ Ok (recording_view top edges)
few_recorded cs top edges is few = rw (is, le-ltb (2 * 4194304) (length edges) few) refl

text_back : (high : Bool) (later : List ℕ) (top : ℕ) (edges rest : List ℕ) → begins_high edges ≡ high → later_edges edges ≡ later
    → RisesFrom 1 later → UpTo top later → IsRecording top edges
    → (list_any (λ edge. edge == top) edges ≡ true → last_or 0 later ≡ top) → edges_up_to (change 0 high ∷ turns (not high) later) top ≡ edges
    → Begun top edges rest
unfolding file_text
text_back high later top edges rest begins behind_first r u lawful there is =
    let lines = edge_lines (not high) later in
    let end = end_line (recording_view top edges) in
    let text : file_text (recording_view top edges) ≡ (header_text high ++ lines) ++ end = rw (begins, behind_first) refl in
    let len : 125 + length lines + length end ≡ length (file_text (recording_view top edges)) =
    omega (arith, ap length text, length-header_text high, length-append (header_text high ++ lines) end, length-append (header_text high) lines) in
    record {
      changes = change 0 high ∷ turns (not high) later;
      recorded = few_recorded (change 0 high ∷ turns (not high) later) top edges is lawful.few;
      scan = ap (λ (l : List ℕ). scan_of None (l ++ rest)) text ∙ (ap (scan_of None) (regroup (header_text high) lines end rest)
          ∙ (played_back high later top edges rest r u lawful.short there
          ∙ ap (λ n. Ok (9, scan_words (codes "!") 9 (at_rest top (change 0 high ∷ turns (not high) later) []) (words_from n false rest))) len));
    }

pub begun : (top : ℕ) (edges rest : List ℕ) → IsRecording top edges → Begun top edges rest
begun top [] rest lawful = text_back false [] top [] rest refl refl tt tt lawful (λ never. absurd (cc)) (low_edges [] top tt tt refl)
begun top (e ∷ es) rest lawful = elim (cases_eq e 0) [
  | inl is ↦
      let r : RisesFrom 1 es = subst (λ n. RisesFrom (n + 1) es) is lawful.rises.1 in
      let begins : (e == 0) ≡ true = eq-eqb e 0 is in
      text_back true es top (e ∷ es) rest (rw begins refl) (rw begins refl) r lawful.within.1 lawful
      (λ some. subst (λ n. last_or n es ≡ top) is (last_top (e ∷ es) 0 0 top lawful.rises lawful.within some))
      (high_edges es top r lawful.within.1 lawful.even ∙ ap (λ n. n ∷ es) (sym is))
  | inr apart ↦
      let r : RisesFrom 1 (e ∷ es) = (omega arith, lawful.rises.1) in
      let begins : (e == 0) ≡ false = ne_eqb e 0 apart in
      text_back false (e ∷ es) top (e ∷ es) rest (rw begins refl) (rw begins refl) r lawful.within lawful
      (λ some. last_top (e ∷ es) 0 0 top lawful.rises lawful.within some)
      (low_edges (e ∷ es) top r lawful.within lawful.even)
]

-- the recording, if the rest changes nothing
pub back : (r : RecordingView) (rest : List ℕ) (b : Begun r.micros r.edges rest) (js : List Comment)
    → scan_words (codes "!") 9 (at_rest r.micros b.changes []) (words_from (length (file_text r)) false rest) ≡ (at_rest r.micros b.changes js, None)
    → (dump None (file_text r ++ rest) ≡ Ok r) × (scanned (scan_of None (file_text r ++ rest)) ≡ at_rest r.micros b.changes js)
unfolding dump
back r rest b js h =
    let scan : scan_of None (file_text r ++ rest) ≡ Ok (9, (at_rest r.micros b.changes js, None)) = b.scan ∙ ap (λ x. Ok (9, x)) h in (
      ap (λ x. (x >>= λ x. scan_ended x.0 x.1) >>= λ x. recorded x.0 x.1) scan ∙ (ap (recorded b.changes) (same_micros r.micros) ∙ b.recorded),
      ap scanned scan,
    )

pub read_back : (r : RecordingView) → IsRecording r.micros r.edges → dump None (file_text r) ≡ Ok r
read_back r lawful = ap (dump None) (sym (append-nil (file_text r))) ∙ (back r [] (begun r.micros r.edges [] lawful) [] refl).0
