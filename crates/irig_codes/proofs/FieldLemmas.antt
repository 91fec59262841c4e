-- Parts of the fields that a format has or lacks.
use Rattle.std.proofs.Common.{◌≡◌, ℕ, Bool, true, false, refl}
use Rattle.std.specs.Bool.{then_some}
use Rattle.irig_codes.specs.Fields.{fits_part, part}

-- a part that is made passes the test that its value passes
pub fits_part-part : (there : Bool) (p : ℕ → Bool) (v : ℕ) → p v ≡ true → fits_part there p (part there v) ≡ true
fits_part-part true p v h = h
fits_part-part false p v h = refl

-- as code makes it
pub then_some-part : (there : Bool) (v : ℕ) → then_some there v ≡ part there v
then_some-part true v = refl
then_some-part false v = refl
