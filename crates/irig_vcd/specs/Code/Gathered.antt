-- The bytes of the first journal, while its dump comes in parts. This project's own.
use Rattle.std.specs.Prelude.{◌-◌, ℕ, List, [], ◌∷◌, Option, Some, None, length, take, drop}
use Rattle.std.specs.Prelude.{if◌then◌else◌}
use Rattle.irig_vcd.specs.Journals.{Comment, comment, is_journal}
use Rattle.irig_vcd.specs.Scan.{Open, closed, code_of, comment_of, Scan}
use Rattle.irig_vcd.specs.declared.reading.Reading.{Reading}
use Rattle.irig_vcd.specs.{Code.Journals.place_view, declared.pending.Pending.Pending}
use Rattle.irig_vcd.specs.declared.pending.Pending.TheVariants as pending

-- the place of a journal that is open: from its first word up to the last byte so far
abbrev pub open_place : Option ℕ → ℕ → Option (ℕ × ℕ)
open_place None top = None
open_place (Some start) top = Some (start, top)

-- the place of the first journal so far, by the first that is whole, and by what is open
abbrev pub so_far : Option (ℕ × ℕ) → Pending → ℕ → Option (ℕ × ℕ)
so_far (Some place) now top = Some place
so_far None pending.Nothing top = None
so_far None (pending.Code v) top = None
so_far None pending.Comment top = None
so_far None (pending.Rest start) top = open_place start top

-- the same of a scan
abbrev pub place_by : List Comment → Open → ℕ → Option (ℕ × ℕ)
place_by (c ∷ cs) now top = Some (c.first.offset, c.end)
place_by [] closed top = None
place_by [] (code_of value) top = None
place_by [] (comment_of None) top = None
place_by [] (comment_of (Some w)) top =
    if is_journal (comment w top) then Some (w.offset, top) else None

abbrev pub place_in : Scan → ℕ → Option (ℕ × ℕ)
place_in s top = place_by s.journals s.opened top

-- the bytes at such a place
abbrev pub bytes_at : Option (ℕ × ℕ) → List ℕ → List ℕ
bytes_at None bytes = []
bytes_at (Some place) bytes = take (place.1 - place.0) (drop place.0 bytes)

-- those of them that a part has, which comes after that many bytes
abbrev pub part_at : Option (ℕ × ℕ) → ℕ → List ℕ → List ℕ
part_at None gone part = []
part_at (Some place) gone part =
    take ((place.1 - gone) - (place.0 - gone)) (drop (place.0 - gone) part)

-- the bytes of the first journal so far among those that are read, of a scan
abbrev pub journal_in : Scan → List ℕ → List ℕ
journal_in s front = bytes_at (place_in s (length front)) front

-- the same of what the code keeps
abbrev pub gathered : Reading → List ℕ → List ℕ
gathered r front = bytes_at (so_far (place_view r.journals.first) r.pending (length front)) front
