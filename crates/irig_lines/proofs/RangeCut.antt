-- Where the range at the front of a text ends: the loop that looks for it, and the ranges that it finds.
use Rattle.std.proofs.Common.{◌≡◌, ◌==◌, ℕ, ℤ, suc, ◌+◌, ◌<◌, ◌≤◌, ◌++◌, Bool, true, false, not, ◌&&◌, ◌||◌, List, [], ◌∷◌, length, take, drop, get_or, refl}
use Rattle.std.proofs.Common.{sym, ap, ap₂, ◌∙◌, subst, arith, append_assoc, length-append, if◌then◌else◌, drop-cons}
use Rattle.std.proofs.{Math.ListN.drop_of_length-le, Math.Seq.take-append_seam, Math.Seq.drop-append_seam}
use Rattle.std.proofs.lemmas.Bool.Decides.{nat_tests}
use Rattle.std.specs.List.{list_all}
use Rattle.irig_lines.specs.Addresses.{IsAddress, IsBase, IsMark, IsOffset, IsPair, IsAddressOrCursor, IsRange, is_cursor}
use Rattle.irig_lines.specs.declared.address.Base.TheVariants.{Number, Current, Last, Mark}
use Rattle.irig_lines.specs.{Grammar.follows_range, Numbers.is_digit, Numbers.is_sign, Words.is_letter, Words.is_space, declared.address.Address.Address}
use Rattle.irig_lines.specs.{declared.address.Base.Base, declared.range.Range.Range, declared.range.Range.TheVariants.One, declared.range.Range.TheVariants.Two}

-- white space ends the range of a line, and so does the first letter of a word, which is one that
-- is after no apostrophe
abbrev pub ends_range : Bool → ℕ → Bool
ends_range quoted b = is_space b || (not quoted && is_letter b)

-- how long the range at the front of a text is, if the byte before it is an apostrophe, or none
abbrev pub range_length : Bool → List ℕ → ℕ
range_length quoted [] = 0
range_length quoted (b ∷ bs) = if ends_range quoted b then 0 else suc (range_length (b == 39) bs)

pub range_stops : (quoted : Bool) (s : List ℕ) (i : ℕ) → i < length s → ends_range quoted (get_or s i 0) ≡ true → range_length quoted (drop i s) ≡ 0
range_stops quoted s i h k = rw (drop-cons s i 0, k) refl

pub range_done : (quoted : Bool) (s : List ℕ) (i : ℕ) → length s ≤ i → range_length quoted (drop i s) ≡ 0
range_done quoted s i h = rw (drop_of_length-le s h) refl

-- the loop goes through the text, and then is after no apostrophe
abbrev IsPassed : List ℕ → Type 0
IsPassed text = (rest : List ℕ) → range_length false (text ++ rest) ≡ length text + range_length false rest

passed_none : IsPassed []
passed_none rest = omega arith

passed-append : (s t : List ℕ) → IsPassed s → IsPassed t → IsPassed (s ++ t)
passed-append s t h k rest =
    let e = ap (range_length false) (append_assoc s t rest) in
    omega (arith, e, h (t ++ rest), k rest, length-append s t)

passed_byte : (b : ℕ) → ends_range false b ≡ false → (b == 39) ≡ false → IsPassed (b ∷ [])
passed_byte b e q rest = rw (e, q) (omega arith)

digit_stays : (b : ℕ) → is_digit b ≡ true → (ends_range false b ≡ false) × ((b == 39) ≡ false)
digit_stays b h = (grind (arith, nat_tests), grind (arith, nat_tests))

passed_digits : (s : List ℕ) → list_all is_digit s ≡ true → IsPassed s
passed_digits [] h = passed_none
passed_digits (b ∷ s) h = go (is_digit b) refl h (passed_digits s)
  where
    go : (v : Bool) → is_digit b ≡ v → (v && list_all is_digit s) ≡ true → (list_all is_digit s ≡ true → IsPassed s) → IsPassed (b ∷ s)
    go true e k more =
        let stays = digit_stays b e in
        passed-append (b ∷ []) s (passed_byte b stays.0 stays.1) (more k)
    go false e k more = absurd (cc)

letter_stays : (letter : ℕ) → letter < 26 → (ends_range true (97 + letter) ≡ false) × ((97 + letter == 39) ≡ false)
letter_stays letter h = (grind (arith, nat_tests), grind (arith, nat_tests))

passed_mark : (text : List ℕ) (letter : ℕ) → IsMark text letter → IsPassed text
passed_mark text letter h = subst IsPassed (sym h.0) (λ rest.
    (let stays = letter_stays letter h.1 in
    rw (stays.0, stays.1) (omega arith)))

passed_cursor : (text : List ℕ) → is_cursor text ≡ true → IsPassed text
passed_cursor [] h = passed_none
passed_cursor (b ∷ []) h =
    let same : b ≡ 46 = grind (arith, nat_tests) in
    subst (λ (c : ℕ). IsPassed (c ∷ [])) (sym same) (λ rest. omega arith)
passed_cursor (b ∷ c ∷ bs) h = absurd (cc)

passed_base : (text : List ℕ) (b : Base) → IsBase text b → IsPassed text
passed_base text (Number n) h = passed_digits text h.digits
passed_base text Current h = passed_cursor text h
passed_base text Last h = subst IsPassed (sym h) (λ rest. omega arith)
passed_base text (Mark letter) h = passed_mark text letter h

sign_stays : (b : ℕ) → is_sign b ≡ true → (ends_range false b ≡ false) × ((b == 39) ≡ false)
sign_stays b h = (grind (arith, nat_tests), grind (arith, nat_tests))

passed_offset : (text : List ℕ) (d : ℤ) → IsOffset text d → IsPassed text
passed_offset [] d h = passed_none
passed_offset (sign ∷ []) d h = let stays = sign_stays sign h.0 in passed_byte sign stays.0 stays.1
passed_offset (sign ∷ b ∷ bs) d h =
    let stays = sign_stays sign h.0 in
    passed-append (sign ∷ []) (b ∷ bs) (passed_byte sign stays.0 stays.1) (passed_digits (b ∷ bs) h.2.digits)

passed_address : (text : List ℕ) (a : Address) → IsAddress text a → IsPassed text
passed_address text a h = subst IsPassed (sym h.whole)
    (passed-append h.front h.back (passed_base h.front a.base h.base) (passed_offset h.back a.offset h.offset))

passed_address_or_cursor : (text : List ℕ) (a : Address) → IsAddressOrCursor text a → IsPassed text
passed_address_or_cursor [] a h = passed_none
passed_address_or_cursor (b ∷ bs) a h = passed_address (b ∷ bs) a h

passed_comma : (second : List ℕ) → IsPassed second → IsPassed (44 ∷ second)
passed_comma second h = passed-append (44 ∷ []) second (λ rest. omega arith) h

passed_pair : (first second : List ℕ) (a b : Address) → IsPair first second a b → IsPassed (first ++ 44 ∷ second)
passed_pair [] [] a b h = passed_comma [] passed_none
passed_pair [] (y ∷ second) a b h = absurd (h.0.some refl)
passed_pair (x ∷ first) second a b h =
    passed-append (x ∷ first) (44 ∷ second) (passed_address (x ∷ first) a h.0) (passed_comma second (passed_address second b h.1))

passed_range : (text : List ℕ) (r : Range) → IsRange text r → IsPassed text
passed_range text (One a) h = passed_address_or_cursor text a h
passed_range text (Two a b) h = subst IsPassed (sym h.2) (passed_pair h.0 h.1 a b h.3)

-- no range continues after it
ended : (rest : List ℕ) → follows_range rest ≡ true → range_length false rest ≡ 0
ended [] h = refl
ended (b ∷ bs) h = rw h refl

-- a range is found whole
pub range_found : (text range rest : List ℕ) (r : Range) → text ≡ range ++ rest → IsRange range r → follows_range rest ≡ true
    → (take (range_length false text) text ≡ range) × (drop (range_length false text) text ≡ rest)
range_found text range rest r e h f =
    let long : range_length false text ≡ length range =
    ap (range_length false) e ∙ passed_range range r h rest ∙ omega (arith, ended rest f) in (
      ap₂ take long e ∙ take-append_seam range rest,
      ap₂ drop long e ∙ drop-append_seam range rest,
    )
