-- Texts written to files. This project's own.
use Rattle.std.specs.Prelude.{ℕ, List, [], ◌∷◌, Bool, true, false, Option, Some, None, option_map}
use Rattle.std.specs.Prelude.{if◌then◌else◌, is_some}
use Rattle.std.specs.Str.{bytes_eq}
use Rattle.irig_disk.specs.Disk.{Disk}
use Rattle.irig_files.specs.declared.written.Written.TheVariants.{Whole, InPlace}
use Rattle.irig_files.specs.{Writes.Write, Writes.writes_in, declared.written.Written.Written}

-- the texts with that of one more write before them, if it succeeded
abbrev pub with_text : Bool → List ℕ → Option (List (List ℕ)) → Option (List (List ℕ))
with_text true text texts = option_map (λ ts. text ∷ ts) texts
with_text false text texts = texts

-- the texts of the writes that succeeded, if each write was at the place
abbrev pub texts_of : List ℕ → List Write → Option (List (List ℕ))
texts_of place [] = Some []
texts_of place (w ∷ writes) =
    if bytes_eq w.place place then with_text (is_some w.kept_at) w.held.bytes
    (texts_of place writes) else None

-- the texts written at a place, if the writes are known and none was elsewhere
abbrev pub texts_at : Option (List ℕ) → Option (List Write) → Option (List (List ℕ))
texts_at None writes = None
texts_at (Some place) None = None
texts_at (Some place) (Some writes) = texts_of place writes

-- the writes on a disk, if its contracts give them
abbrev pub writes_on : Bool → Disk → Option (List Write)
writes_on told disk = if told then Some (writes_in disk.log) else None

-- how many bytes a text has that was written
abbrev pub count_of : Written → ℕ
count_of (Whole kept) = kept.count
count_of (InPlace all) = all.count
