-- Reading the words after the declarations, one after the other: IEEE 1364-2005, clause 18; the
-- wire, the levels and the journals are this project's own.
use Rattle.std.specs.Prelude.{◌≡◌, ◌++◌, ℕ, Bool, List, [], ◌∷◌, Option, Some, None, Result, Ok}
use Rattle.std.specs.Prelude.{Err, if◌then◌else◌}
use Rattle.irig_vcd.specs.Journals.{Comment, comment, first_or, is_journal}
use Rattle.irig_vcd.specs.Sections.{is_comment, is_end, is_mark}
use Rattle.irig_vcd.specs.Values.{level_by, scalar_level}
use Rattle.irig_vcd.specs.Words.{Word, WordKind, dollar, hash, scalar, vector, real, text, other}
use Rattle.irig_vcd.specs.Words.{rest_of}
use Rattle.irig_vcd.specs.declared.fault.VcdFault.TheVariants.{Unclosed, BadToken}
use Rattle.irig_vcd.specs.{Answer.◌>>=◌, Answer.pair_of, Level.Change, Level.change, Times.time_of}
use Rattle.irig_vcd.specs.{Times.micros_of, declared.fault.VcdFault.VcdFault}

-- what is open after a word: nothing, a value without its code, or a comment, by its first word if
-- that has come
pub data Open : Type 0 where
  closed : Open
  code_of : Word → Open
  comment_of : Option Word → Open

-- what was read so far: the time in units, the changes and the journals, and what is open
pub record Scan : Type 0 where
  pub last : ℕ
  pub changes : List Change
  pub journals : List Comment
  pub opened : Open

-- nothing
abbrev pub start : Scan
start = record { last = 0; changes = []; journals = []; opened = closed }

-- changes, and one more at a time in microseconds if there is a level
abbrev pub and_level : ℕ → Option Bool → List Change → List Change
and_level t None changes = changes
and_level t (Some b) changes = changes ++ change t b ∷ []

-- a level at the last time, or none, and nothing open
abbrev pub given : ℕ → Scan → Option Bool → Scan
given unit s level = record s {
  changes = and_level (micros_of unit s.last) level s.changes;
  opened = closed;
}

-- a comment that ends; a journal is kept
abbrev pub shut : Scan → Comment → Scan
shut s c =
    record s { journals = s.journals ++ (if is_journal c then c ∷ [] else []); opened = closed }

-- a word of its own, by its kind
abbrev pub word_by_kind : WordKind → List ℕ → ℕ → Scan → Word → Result Scan VcdFault
word_by_kind hash code unit s w =
    time_of unit s.last (rest_of w.bytes) w.offset >>= λ t. Ok (record s { last = t })
word_by_kind scalar code unit s w = scalar_level code w >>= λ level. Ok (given unit s level)
word_by_kind vector code unit s w = Ok (record s { opened = code_of w })
word_by_kind real code unit s w = Ok (record s { opened = code_of w })
word_by_kind text code unit s w = Ok (record s { opened = code_of w })
word_by_kind dollar code unit s w =
    if is_mark w.bytes then Ok s
    else (if is_comment w.bytes then Ok (record s { opened = comment_of None })
    else Err (BadToken w.offset))
word_by_kind other code unit s w = Err (BadToken w.offset)

-- a word, by what is open before it
abbrev pub word_in : Open → List ℕ → ℕ → Scan → Word → Result Scan VcdFault
word_in closed code unit s w = word_by_kind w.kind code unit s w
word_in (code_of value) code unit s w =
    level_by value.kind code value w.bytes >>= λ level. Ok (given unit s level)
word_in (comment_of first) code unit s w =
    Ok (if is_end w.bytes then shut s (comment (first_or first w) w.offset)
    else record s { opened = comment_of (Some (first_or first w)) })

-- what is read after a scan; after a fault nothing is
abbrev pub scan_on : Scan → Result Scan VcdFault → (Scan → Scan × Option VcdFault)
    → Scan × Option VcdFault
scan_on s (Ok t) f = f t
scan_on s (Err e) f = (s, Some e)

-- what is read of words up to the first fault, and that fault, if one comes
abbrev pub scan_words : List ℕ → ℕ → Scan → List Word → Scan × Option VcdFault
scan_words code unit s [] = (s, None)
scan_words code unit s (w ∷ ws) =
    scan_on s (word_in s.opened code unit s w) (λ t. scan_words code unit t ws)

-- what is at fault if nothing comes after
abbrev pub left_open : Open → Option VcdFault
left_open closed = None
left_open (code_of value) = Some (BadToken value.offset)
left_open (comment_of first) = Some Unclosed

-- what a function answers is at fault if nothing comes after
abbrev pub IsClosed : {X : Type 0} → Result X VcdFault → Option VcdFault → Type 0
IsClosed (Ok _) fault = fault ≡ None
IsClosed (Err e) fault = fault ≡ Some e

-- the changes and the last time in microseconds, unless there is a fault
abbrev pub unless : Option VcdFault → ℕ → Scan → Result (List Change × ℕ) VcdFault
unless None unit s = pair_of s.changes (micros_of unit s.last)
unless (Some e) unit s = Err e

-- the same of what was read, if nothing comes after
abbrev pub scan_ended : ℕ → Scan × Option VcdFault → Result (List Change × ℕ) VcdFault
scan_ended unit (s, None) = unless (left_open s.opened) unit s
scan_ended unit (s, Some e) = Err e
