-- What is open after a word: a value without its code, or a comment.
use Rattle.std.specs.Prelude.{◌≡◌, ℕ, true, false, List, Option, Some, None, Ok, codes}
use Rattle.std.specs.Prelude.{if◌then◌else◌}
use Rattle.std.specs.Str.{bytes_eq}
use Rattle.irig_vcd.specs.Scan.{Open, closed, code_of, comment_of}
use Rattle.irig_vcd.specs.declared.pending.Pending.{Pending}
use Rattle.irig_vcd.specs.{Values.level_by, Words.Word, declared.pending.Value.Value}
use Rattle.irig_vcd.specs.declared.pending.Pending.TheVariants as pending

-- a value as it is kept: its place, and the level that it gives its wire
pub record IsValue (w : Word) (v : Value) : Type 0 where
  pub offset : v.offset ≡ w.offset
  pub level : (code next : List ℕ)
      → level_by w.kind code w next ≡ (if bytes_eq next code then v.level else Ok None)

-- the first word of a comment as it is kept: its place, if the comment is a journal
abbrev pub Begins : Option ℕ → Word → Type 0
Begins None w = bytes_eq w.bytes (codes "irig-journal-1") ≡ false
Begins (Some at) w = (bytes_eq w.bytes (codes "irig-journal-1") ≡ true) × (w.offset ≡ at)

-- what is open, as it is kept
abbrev pub Means : Pending → Open → Type 0
Means pending.Nothing now = now ≡ closed
Means (pending.Code v) now = (w : Word) × (now ≡ code_of w) × IsValue w v
Means pending.Comment now = now ≡ comment_of None
Means (pending.Rest start) now = (w : Word) × (now ≡ comment_of (Some w)) × Begins start w
