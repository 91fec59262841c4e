-- Known frames and times, worked out by hand from the weights of IRIG Standard 200-04 and the calendar, and what the definitions make of them.
use Rattle.std.proofs.Common.{◌≡◌, ℕ, List, [], ◌∷◌, refl}
use Rattle.std.specs.List.{filter, range_with_len}
use Rattle.irig_codes.specs.declared.format.Kind.TheVariants.{A, B, E, G}
use Rattle.irig_codes.specs.Format.{FormatView}
use Rattle.irig_candidates.specs.{Bits.carries, Bits.is_bit, Bits.is_one, Far.far, Times.is_time, Times.time_of}

abbrev b0 : FormatView
b0 = record { kind = B; expression = 0 }

abbrev ones : FormatView → ℕ → List ℕ
ones f t = filter (is_one f t) (range_with_len 0 100)

-- day 173, 21:18:42, in B with straight binary seconds: 172 days and 76,722 seconds after the begin of the year
pub summer-b : ones b0 14937522 ≡ 2 ∷ 8 ∷ 13 ∷ 15 ∷ 20 ∷ 26 ∷ 30 ∷ 31 ∷ 35 ∷ 36 ∷ 37 ∷ 40 ∷ 81 ∷ 84 ∷ 85 ∷ 87 ∷ 88 ∷ 90 ∷ 92 ∷ 94 ∷ 97 ∷ []
unfolding is_one
summer-b = refl

-- the same in A, with eight tenths of a second, with ten frames a second
pub summer-a : ones (record { kind = A; expression = 1 }) 149375228 ≡ 2 ∷ 8 ∷ 13 ∷ 15 ∷ 20 ∷ 26 ∷ 30 ∷ 31 ∷ 35 ∷ 36 ∷ 37 ∷ 40 ∷ 48 ∷ []
unfolding is_one
summer-a = refl

-- the same in E, at second 40, with six frames a minute
pub summer-e : ones (record { kind = E; expression = 1 }) 1493752 ≡ 8 ∷ 13 ∷ 15 ∷ 20 ∷ 26 ∷ 30 ∷ 31 ∷ 35 ∷ 36 ∷ 37 ∷ 40 ∷ []
unfolding is_one
summer-e = refl

-- the same in G, with 87 hundredths; the year is no part of the time
pub summer-g : ones (record { kind = G; expression = 5 }) 1493752287
    ≡ 2 ∷ 8 ∷ 13 ∷ 15 ∷ 20 ∷ 26 ∷ 30 ∷ 31 ∷ 35 ∷ 36 ∷ 37 ∷ 40 ∷ 48 ∷ 50 ∷ 51 ∷ 52 ∷ []
unfolding is_one
summer-g = refl

-- day 181, 23:59:60, two years after 23:59:59
pub leap-b : ones b0 78883199 ≡ 7 ∷ 8 ∷ 10 ∷ 13 ∷ 15 ∷ 17 ∷ 20 ∷ 21 ∷ 26 ∷ 30 ∷ 38 ∷ 40 ∷ 87 ∷ 88 ∷ 93 ∷ 95 ∷ 97 ∷ []
unfolding is_one
leap-b = refl

-- the bits of B with the year and control functions: seconds, minutes, hours and days
pub bits-b : filter (is_bit (record { kind = B; expression = 5 })) (range_with_len 0 100)
    ≡ 1 ∷ 2 ∷ 3 ∷ 4 ∷ 6 ∷ 7 ∷ 8 ∷ 10 ∷ 11 ∷ 12 ∷ 13 ∷ 15 ∷ 16 ∷ 17 ∷ 20 ∷ 21 ∷ 22 ∷ 23 ∷ 25 ∷ 26 ∷ 30 ∷ 31 ∷ 32 ∷ 33 ∷ 35 ∷ 36 ∷ 37 ∷ 38 ∷ 40 ∷ 41 ∷ []
unfolding is_bit carries
bits-b = refl

-- the last second of day 365 is followed by day 1, or by day 366
pub new-year : far B 31535999 2 0 ≡ 0
new-year = refl

pub day-366 : far B 31535999 2 31536000 ≡ 0
day-366 = refl

-- in the same frame it is not
pub same-frame : far B 31535999 1 0 ≡ 86401
same-frame = refl

-- second 60 follows second 59, and the next minute follows that
pub second-60 : far B 15638399 2 78883199 ≡ 0
second-60 = refl

pub after-60 : far B 78883199 2 15638400 ≡ 0
after-60 = refl

-- in A it has ten frames
pub in-60 : far A 632448590 2 632448591 ≡ 0
in-60 = refl

-- a second 60 follows only second 59
pub is-time-60 : is_time B 78883199 ≡ is_time B 0
is-time-60 = refl

-- a stretch with a base of a second 60 stays in it
pub stays-in-60 : time_of B 63244859 31622400 ≡ 63244859
stays-in-60 = refl
