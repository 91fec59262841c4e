-- Looks at pulses add up.
use Rattle.std.proofs.Common.{◌≡◌, ℕ, ◌+◌, arith}
use Rattle.irig_track.specs.Looks.{LensView, LookedThrough, counted, lens_view}
use Rattle.irig_track.proofs.Looks.{lens_next}

-- looks and then one look
pub through-next : (a b c : LensView) (most : ℕ) → LookedThrough a b most → c ≡ lens_view b.track (counted b.looks 1) → LookedThrough a c (most + 1)
through-next a b c most h look =
    record { made = h.made + 1; few = omega (arith, h.few); lens = lens_next a b c h.made h.lens look }
