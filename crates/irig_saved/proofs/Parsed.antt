-- What std reads of a word that is a number.
use Rattle.std.proofs.Common.{◌≡◌, ℕ, ℤ, pos, negsuc, List, decimal, Ok, Err, Result, ap, sym, ◌∙◌, w64, rules}
use Rattle.std.specs.{Fmt.signed_decimal, Str.IsUtf8, Str.Parse.ParsesUnsigned, Str.Parse.ParsesSigned, Int.RustNames.FitsSigned as SFits}
use Rattle.std.proofs.lemmas.{Fmt.IsAscii-decimal, Fmt.IsAscii-signed, Fmt.parse-decimal, Fmt.parse-signed_decimal, Str.IsUtf8-from_ascii}
use Rattle.irig_saved.specs.Ranges.{IsNumber, IsDistance}

pub ok_same : {X E : Type 0} (x y : X) (r : Result X E) → r ≡ Ok x → r ≡ Ok y → x ≡ y
ok_same {X} {E} x y r e f = ap (λ v. ok_or x v) (sym e ∙ f) where
  ok_or : X → Result X E → X
  ok_or d (Ok v) = v
  ok_or d (Err _) = d

pub utf8_number : (n : ℕ) → IsNumber n → IsUtf8 (decimal n)
utf8_number n h = IsUtf8-from_ascii (decimal n) (IsAscii-decimal n h)

pub parsed_number : {E : Type 0} (n : ℕ) (bs : List ℕ) (r : Result ℕ E) → IsNumber n → bs ≡ decimal n → ParsesUnsigned 64 10 bs r → r ≡ Ok n
parsed_number n bs r h e p = parse-decimal 64 n bs r h h e p

pub fits : (d : ℤ) → IsDistance d → SFits w64 d
fits (pos n) h = search (rules, h)
fits (negsuc n) h = search (rules, h)

pub utf8_distance : (d : ℤ) → IsDistance d → IsUtf8 (signed_decimal d)
utf8_distance (pos n) h = IsUtf8-from_ascii (signed_decimal (pos n)) (IsAscii-signed (pos n) h)
utf8_distance (negsuc n) h = IsUtf8-from_ascii (signed_decimal (negsuc n)) (IsAscii-signed (negsuc n) h)

pub parsed_distance : {E : Type 0} (d : ℤ) (bs : List ℕ) (r : Result ℤ E) → IsDistance d → bs ≡ signed_decimal d → ParsesSigned w64 10 bs r → r ≡ Ok d
parsed_distance (pos n) bs r h e p = parse-signed_decimal w64 (pos n) bs r (fits (pos n) h) h e p
parsed_distance (negsuc n) bs r h e p = parse-signed_decimal w64 (negsuc n) bs r (fits (negsuc n) h) h e p
