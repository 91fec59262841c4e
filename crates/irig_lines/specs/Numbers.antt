-- Numbers in a script: counts and times in decimal, distances with a sign, and control functions in
-- hexadecimal. This project's own.
use Rattle.std.specs.Prelude.{◌≡◌, ◌==◌, ◌+◌, ◌-◌, ◌*◌, ◌≤◌, ℕ, ℤ, Bool, true, ◌&&◌, ◌||◌, List, []}
use Rattle.std.specs.Prelude.{◌∷◌, length, nat_le, if◌then◌else◌}
use Rattle.std.specs.List.{list_all}
use Rattle.irig_moment.specs.Written.{digits_after}
use Rattle.irig_track.specs.Shifts.{ahead, back}

-- the byte is a decimal digit
abbrev pub is_digit : ℕ → Bool
is_digit b = nat_le 48 b && nat_le b 57

-- the word is a number of 1 to 18 digits
pub record IsNumber (word : List ℕ) (n : ℕ) : Type 0 where
  pub digits : list_all is_digit word ≡ true
  pub some : 1 ≤ length word
  pub few : length word ≤ 18
  pub value : n ≡ digits_after 0 word

-- how far a distance goes, on or back
abbrev pub size : ℤ → ℕ
size d = ahead d + back d

-- the byte is a sign
abbrev pub is_sign : ℕ → Bool
is_sign b = (b == 43) || (b == 45)

-- a distance goes back after a minus, and on after anything else
abbrev pub IsSigned : ℕ → ℤ → Type 0
IsSigned sign d = (if sign == 45 then ahead d else back d) ≡ 0

-- a word without the sign that it may begin with
abbrev pub unsigned : List ℕ → List ℕ
unsigned [] = []
unsigned (b ∷ bs) = if is_sign b then bs else b ∷ bs

-- the byte that may be its sign: its first, or a plus if it has none
abbrev pub sign_of : List ℕ → ℕ
sign_of [] = 43
sign_of (b ∷ bs) = b

-- the word is a distance: a number with an optional sign
pub record IsDistance (word : List ℕ) (d : ℤ) : Type 0 where
  pub sign : IsSigned (sign_of word) d
  pub size : IsNumber (unsigned word) (size d)

-- the digit that a byte is in hexadecimal, of either case; 16 if it is none
abbrev pub hex_digit : ℕ → ℕ
hex_digit b =
    if is_digit b then b - 48
    else (if nat_le 97 b && nat_le b 102 then b - 87
    else (if nat_le 65 b && nat_le b 70 then b - 55 else 16))

-- the byte is a hexadecimal digit
abbrev pub is_hex_digit : ℕ → Bool
is_hex_digit b = nat_le (hex_digit b) 15

-- the number that hexadecimal digits are, after the number that those before them are
abbrev pub hex_after : ℕ → List ℕ → ℕ
hex_after n [] = n
hex_after n (d ∷ ds) = hex_after (16 * n + hex_digit d) ds

-- the word is a number of 1 to 12 hexadecimal digits
pub record IsControl (word : List ℕ) (n : ℕ) : Type 0 where
  pub digits : list_all is_hex_digit word ≡ true
  pub some : 1 ≤ length word
  pub few : length word ≤ 12
  pub value : n ≡ hex_after 0 word
