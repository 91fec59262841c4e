-- What one more call makes of a text that is being written.
use Rattle.std.proofs.Common.{◌≡◌, ◌++◌, ℕ, List, append_assoc}
use Rattle.irig_disk.specs.{Disk.Disk, Parts.Adds, Parts.Spoils}

-- the same names and the same file, by other words for them
pub adds_more : {F : Type 0} (disk : F → Disk) (a b c : F) (beside beside' : List ℕ) (file file' : ℕ) (bytes more : List ℕ) → beside' ≡ beside → file' ≡ file
    → Adds disk a b beside file bytes → Adds disk b c beside' file' more → Adds disk a c beside file (bytes ++ more)
adds_more disk a b c beside beside' file file' bytes more eb ef one two = record {
  still = λ target mode start text w.
      rw (append_assoc text bytes more) at ((rw (eb, ef) at two).still target mode start (text ++ bytes) (one.still target mode start text w));
}

pub spoils_later : {F : Type 0} (disk : F → Disk) (a b c : F) (beside beside' : List ℕ) (file file' : ℕ) (bytes : List ℕ) → beside' ≡ beside → file' ≡ file
    → Adds disk a b beside file bytes → Spoils disk b c beside' file' → Spoils disk a c beside file
spoils_later disk a b c beside beside' file file' bytes eb ef one two = record {
  still = λ target mode start text w. (rw (eb, ef) at two).still target mode start (text ++ bytes) (one.still target mode start text w);
}
