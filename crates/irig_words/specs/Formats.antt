-- The format that the options of a command line name. This project's own.
use Rattle.std.specs.Prelude.{◌≡◌, ◌⊎◌, ◌&&◌, ◌-◌, ℕ, true, false, List, [], ◌∷◌, codes}
use Rattle.std.specs.Prelude.{Option, Some, None, if◌then◌else◌, nat_le, option_map, unwrap_or}
use denote.Ref.{Bor}
use Rattle.irig_codes.specs.Format.{FormatView, is_permitted}
use Rattle.irig_codes.specs.{Words.kind_named, declared.format.Kind.Kind}
use Rattle.irig_words.specs.declared.formats.FormatFault.{FormatFault}
use Rattle.irig_words.specs.declared.formats.FormatFault.TheVariants as fault

-- the text of an option, if it is given
abbrev pub given : Option (Bor (List ℕ)) → Option (List ℕ)
given value = option_map (λ v. v.now) value

-- or another one
abbrev pub text_or : Option (Bor (List ℕ)) → List ℕ → List ℕ
text_or value other = unwrap_or (given value) other

-- the number of a text that is one digit
abbrev pub digit_named : List ℕ → Option ℕ
digit_named [] = None
digit_named (d ∷ []) = if nat_le 48 d && nat_le d 57 then Some (d - 48) else None
digit_named (d ∷ e ∷ ds) = None

-- the kind of a letter: of B, if none is given
abbrev pub kind_of : Option (List ℕ) → Option Kind
kind_of letter = kind_named (unwrap_or letter (codes "B"))

-- the expression of a number: 2, if none is given
abbrev pub expression_of : Option (List ℕ) → Option ℕ
expression_of number = digit_named (unwrap_or number (codes "2"))

-- the format is the one of the letter and the number
pub record IsFormat (letter number : Option (List ℕ)) (f : FormatView) : Type 0 where
  pub kind : kind_of letter ≡ Some f.kind
  pub expression : expression_of number ≡ Some f.expression
  pub permitted : is_permitted f.kind f.expression ≡ true

-- the letter is that of no format, or the number that of no expression, or of one that the format
-- does not permit
abbrev pub HasFormatFault : Option (List ℕ) → Option (List ℕ) → FormatFault → Type 0
HasFormatFault letter number fault.Format = kind_of letter ≡ None
HasFormatFault letter number fault.Expression =
    (expression_of number ≡ None)
    ⊎ ((k : Kind) × (n : ℕ) × (kind_of letter ≡ Some k) × (expression_of number ≡ Some n)
    × (is_permitted k n ≡ false))
