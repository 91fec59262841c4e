-- Addresses, ranges and times as a script writes them. This project's own, after those of ed. In
-- brackets is what may be missing:
--
-- range   := , | address [, address]
-- address := base [offset] | offset
-- base    := number | . | $ | 'letter
-- offset  := + [number] | - [number]
-- time    := number | 'letter
use Rattle.std.specs.Prelude.{◌≡◌, ◌≢◌, ◌==◌, ◌<◌, ℕ, ℤ, pos, Bool, true, false, List, [], ◌∷◌}
use Rattle.std.specs.Prelude.{◌++◌}
use Rattle.irig_saved.specs.Letters.{letter_word}
use Rattle.irig_lines.specs.Numbers.{IsNumber, IsSigned, is_sign, size}
use Rattle.irig_lines.specs.declared.address.Base.TheVariants.{Number, Current, Last, Mark}
use Rattle.irig_lines.specs.declared.range.Range.TheVariants.{One, Two}
use Rattle.irig_lines.specs.{declared.address.Base.Base, declared.address.Address.Address}
use Rattle.irig_lines.specs.{declared.range.Range.Range, declared.time.Time.Time}
use Rattle.irig_lines.specs.declared.time.Time.TheVariants as time

-- an apostrophe and the letter of a mark
abbrev pub IsMark : List ℕ → ℕ → Type 0
IsMark text letter = (text ≡ 39 ∷ letter_word letter) × (letter < 26)

-- nothing, or a dot
abbrev pub is_cursor : List ℕ → Bool
is_cursor [] = true
is_cursor (b ∷ []) = b == 46
is_cursor _ = false

-- what an address counts from; if there is nothing it counts from the cursor
abbrev pub IsBase : List ℕ → Base → Type 0
IsBase text (Number n) = IsNumber text n
IsBase text Current = is_cursor text ≡ true
IsBase text Last = text ≡ 36 ∷ []
IsBase text (Mark letter) = IsMark text letter

-- a sign and a number, which is 1 if it is missing; or nothing
abbrev pub IsOffset : List ℕ → ℤ → Type 0
IsOffset [] d = d ≡ pos 0
IsOffset (sign ∷ []) d = (is_sign sign ≡ true) × IsSigned sign d × (size d ≡ 1)
IsOffset (sign ∷ digits) d = (is_sign sign ≡ true) × IsSigned sign d × IsNumber digits (size d)

-- an address: a base, an offset, or both
pub record IsAddress (text : List ℕ) (a : Address) : Type 0 where
  pub front : List ℕ
  pub back : List ℕ
  pub some : text ≢ []
  pub whole : text ≡ front ++ back
  pub base : IsBase front a.base
  pub offset : IsOffset back a.offset

-- the address of what it counts from
abbrev pub at : Base → Address
at base = record { base = base; offset = pos 0 }

-- an address; if there is nothing it is that of the cursor
abbrev pub IsAddressOrCursor : List ℕ → Address → Type 0
IsAddressOrCursor [] a = a ≡ at Current
IsAddressOrCursor text a = IsAddress text a

-- what is before a comma and after it: two addresses, or nothing, which is 1,$
abbrev pub IsPair : List ℕ → List ℕ → Address → Address → Type 0
IsPair [] [] a b = (a ≡ at (Number 1)) × (b ≡ at Last)
IsPair first second a b = IsAddress first a × IsAddress second b

-- a range: nothing, an address, two round a comma, or a comma
abbrev pub IsRange : List ℕ → Range → Type 0
IsRange text (One a) = IsAddressOrCursor text a
IsRange text (Two a b) = (first : List ℕ) × (second : List ℕ)
    × (text ≡ first ++ 44 ∷ second) × IsPair first second a b

-- a time in microseconds, or that of a mark
abbrev pub IsTime : List ℕ → Time → Type 0
IsTime text (time.At n) = IsNumber text n
IsTime text (time.Mark letter) = IsMark text letter
