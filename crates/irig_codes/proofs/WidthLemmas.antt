-- Intervals, frame periods and nominal widths, kind by kind: computed.
use Rattle.std.proofs.Common.{◌≡◌, ◌≤◌, ◌<◌, ◌*◌, ◌/◌, true, nat_le, [], ◌∷◌, Some, refl, arith}
use Rattle.std.specs.Prelude.{find}
use Rattle.std.specs.Int.{abs_diff}
use Rattle.irig_codes.specs.Width.{band_of, class_of, is_in_band, is_in_step, nominal_of, tenths_of}
use Rattle.irig_codes.specs.declared.format.Kind.TheVariants.{A, B, E, G}
use Rattle.irig_codes.specs.declared.width.Element.TheVariants.{Zero, One, Position}
use Rattle.irig_codes.specs.{Format.FormatView, Format.interval_of, Format.frame_period_of, declared.format.Kind.Kind, declared.width.Element.Element}

-- a frame takes ten seconds at most, in hundredths
pub frame_period_of-le : (k : Kind) → frame_period_of k / 10000 ≤ 1000
frame_period_of-le A = omega arith
frame_period_of-le B = omega arith
frame_period_of-le E = omega arith
frame_period_of-le G = omega arith

-- an interval is in step
pub is_in_step-interval_of : (f : FormatView) → is_in_step f (interval_of f.kind) ≡ true
is_in_step-interval_of f = by_kind f.kind where
  by_kind : (k : Kind) → nat_le (10 * abs_diff (interval_of k) (interval_of k)) (interval_of k) ≡ true
  by_kind A = refl
  by_kind B = refl
  by_kind E = refl
  by_kind G = refl

-- a nominal width means its element
pub class_of-nominal_of : (f : FormatView) (x : Element) → class_of f (nominal_of f x) ≡ Some x
class_of-nominal_of f x = by_kind f.kind x where
  by_kind : (k : Kind) (x : Element)
      → find (λ y. is_in_band (interval_of k) (tenths_of x * interval_of k / 10) (band_of y))
      (Zero ∷ One ∷ Position ∷ []) ≡ Some x
  by_kind A Zero = refl
  by_kind A One = refl
  by_kind A Position = refl
  by_kind B Zero = refl
  by_kind B One = refl
  by_kind B Position = refl
  by_kind E Zero = refl
  by_kind E One = refl
  by_kind E Position = refl
  by_kind G Zero = refl
  by_kind G One = refl
  by_kind G Position = refl

-- it is some, and ends before the next index point
pub nominal_of-within : (f : FormatView) (x : Element) → (0 < nominal_of f x) × (nominal_of f x < interval_of f.kind)
nominal_of-within f x = by_kind f.kind x where
  by_kind : (k : Kind) (x : Element)
      → (0 < tenths_of x * interval_of k / 10) × (tenths_of x * interval_of k / 10 < interval_of k)
  by_kind A Zero = (omega arith, omega arith)
  by_kind A One = (omega arith, omega arith)
  by_kind A Position = (omega arith, omega arith)
  by_kind B Zero = (omega arith, omega arith)
  by_kind B One = (omega arith, omega arith)
  by_kind B Position = (omega arith, omega arith)
  by_kind E Zero = (omega arith, omega arith)
  by_kind E One = (omega arith, omega arith)
  by_kind E Position = (omega arith, omega arith)
  by_kind G Zero = (omega arith, omega arith)
  by_kind G One = (omega arith, omega arith)
  by_kind G Position = (omega arith, omega arith)
