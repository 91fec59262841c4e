-- Worked values of pulses that are not as wide as the others of their class.
use Rattle.std.proofs.Common.{◌≡◌, ℕ, zero, suc, true, false, List, [], ◌∷◌, refl}
use Rattle.std.specs.Prelude.{◌++◌}
use Rattle.irig_codes.specs.declared.format.Kind.TheVariants.{B}
use Rattle.irig_codes.specs.Format.{FormatView}
use Rattle.irig_recording.specs.declared.pulse.Pulse.{Pulse}
use Rattle.irig_safety.specs.Widths.{is_odd}

abbrev b2 : FormatView
b2 = record { kind = B; expression = 2 }

abbrev pulse : ℕ → Pulse
pulse width = record { rise = 0; fall = width }

-- that many pulses of a width
abbrev many : ℕ → ℕ → List Pulse
many zero width = []
many (suc n) width = pulse width ∷ many n width

-- a frame with a pulse of this width as its element 0, these others, and zeros
abbrev frame : ℕ → List Pulse → List Pulse
frame width others = pulse width ∷ (others ++ many 75 2000)

-- 24 ones of 5,004 us, one of them 5,003
abbrev ones : List Pulse
ones = pulse 5003 ∷ many 23 5004

-- a one of 4,874 us is odd, as is one of 5,107; the others are not
narrow : is_odd b2 (frame 4874 ones) 0 0 ≡ true
narrow = refl

wide : is_odd b2 (frame 5107 ones) 0 0 ≡ true
wide = refl

other : is_odd b2 (frame 4874 ones) 0 5 ≡ false
other = refl

-- one of 4,910 us is 93 us off, and not odd: the margin is 102 us, a hundredth of 10,000 and twice what the others differ by
near : is_odd b2 (frame 4910 ones) 0 0 ≡ false
near = refl

at_margin : is_odd b2 (frame 4901 ones) 0 0 ≡ false
at_margin = refl

beyond_margin : is_odd b2 (frame 4900 ones) 0 0 ≡ true
beyond_margin = refl

-- with four others it is not odd, with five it is
four : is_odd b2 (frame 4874 (many 4 5004)) 0 0 ≡ false
four = refl

five : is_odd b2 (frame 4874 (many 5 5004)) 0 0 ≡ true
five = refl

-- if the others differ by 100 us it is not
spread : is_odd b2 (frame 4874 (pulse 5104 ∷ ones)) 0 0 ≡ false
spread = refl

-- the zeros of the frame do not count, nor does a pulse of no class
zeros : is_odd b2 (frame 4874 []) 0 0 ≡ false
zeros = refl

bad : is_odd b2 (frame 300 ones) 0 0 ≡ false
bad = refl

-- nor do pulses before the marker
before_marker : is_odd b2 (many 5 5004 ++ frame 4874 (many 4 5004)) 5 0 ≡ false
before_marker = refl

-- an element without a pulse is not odd
missing : is_odd b2 [] 0 0 ≡ false
missing = refl
