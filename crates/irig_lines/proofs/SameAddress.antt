-- A text is one address or range at most.
use Rattle.std.proofs.Common.{◌≡◌, ◌==◌, ◌+◌, ◌++◌, ℕ, ℤ, pos, negsuc, Bool, true, false, List, [], ◌∷◌, refl, sym, ap, ap₂, ◌∙◌, subst, arith, if◌then◌else◌}
use Rattle.std.proofs.lemmas.Bool.Decides.{nat_tests}
use Rattle.std.specs.List.{list_all}
use Rattle.irig_track.specs.Shifts.{ahead, back}
use Rattle.irig_saved.specs.Letters.{letter_word}
use Rattle.irig_lines.specs.Addresses.{IsMark, IsBase, IsOffset, IsAddress, IsPair, IsAddressOrCursor, IsRange, is_cursor}
use Rattle.irig_lines.specs.declared.address.Base.TheVariants.{Number, Current, Last, Mark}
use Rattle.irig_lines.specs.{Numbers.IsControl, Numbers.IsNumber, Numbers.IsSigned, Numbers.is_digit, Numbers.size, declared.address.Address.Address}
use Rattle.irig_lines.specs.{declared.address.Base.Base, declared.range.Range.Range, declared.range.Range.TheVariants.One, declared.range.Range.TheVariants.Two}
use Rattle.irig_lines.proofs.AddressCut.{address_cut, pair_cut, place_uncut}

-- numbers
pub number_one : (text : List ℕ) (n m : ℕ) → IsNumber text n → IsNumber text m → n ≡ m
number_one text n m h k = h.value ∙ sym k.value

pub control_one : (text : List ℕ) (n m : ℕ) → IsControl text n → IsControl text m → n ≡ m
control_one text n m h k = h.value ∙ sym k.value

-- a distance is given by how far it goes on and back
distance_told : (d e : ℤ) → ahead d ≡ ahead e → back d ≡ back e → d ≡ e
distance_told (pos n) (pos m) h k = ap pos h
distance_told (pos n) (negsuc m) h k = absurd (cc)
distance_told (negsuc n) (pos m) h k = absurd (cc)
distance_told (negsuc n) (negsuc m) h k = let same : n ≡ m = cc in ap negsuc same

pub signed_one : (sign : ℕ) (d e : ℤ) → IsSigned sign d → IsSigned sign e → size d ≡ size e → d ≡ e
signed_one sign d e h k s = go (sign == 45) h k
  where
    go : (v : Bool) → (if v then ahead d else back d) ≡ 0 → (if v then ahead e else back e) ≡ 0 → d ≡ e
    go true p q = distance_told d e (p ∙ sym q) (omega (arith, p, q, s))
    go false p q = distance_told d e (omega (arith, p, q, s)) (p ∙ sym q)

-- a number is no other base
number_not_cursor : (text : List ℕ) (n : ℕ) → IsNumber text n → is_cursor text ≡ true → ⊥
number_not_cursor [] n h e = omega (arith, h.some)
number_not_cursor (b ∷ []) n h e =
    let same : b ≡ 46 = grind (arith, nat_tests) in
    let bad = subst (λ (c : ℕ). list_all is_digit (c ∷ []) ≡ true) same h.digits in
    cc
number_not_cursor (b ∷ c ∷ bs) n h e = cc

number_not_last : (text : List ℕ) (n : ℕ) → IsNumber text n → text ≡ 36 ∷ [] → ⊥
number_not_last text n h e = let bad = subst (λ (t : List ℕ). list_all is_digit t ≡ true) e h.digits in cc

pub number_not_mark : (text : List ℕ) (n letter : ℕ) → IsNumber text n → IsMark text letter → ⊥
number_not_mark text n letter h e = let bad = subst (λ (t : List ℕ). list_all is_digit t ≡ true) e.0 h.digits in cc

cursor_not_last : (text : List ℕ) → is_cursor text ≡ true → text ≡ 36 ∷ [] → ⊥
cursor_not_last text h e = let bad = subst (λ (t : List ℕ). is_cursor t ≡ true) e h in cc

cursor_not_mark : (text : List ℕ) (letter : ℕ) → is_cursor text ≡ true → IsMark text letter → ⊥
cursor_not_mark text letter h e = let bad = subst (λ (t : List ℕ). is_cursor t ≡ true) e.0 h in cc

last_not_mark : (text : List ℕ) (letter : ℕ) → text ≡ 36 ∷ [] → IsMark text letter → ⊥
last_not_mark text letter h e = let bad = sym h ∙ e.0 in cc

pub letter_one : (l m : ℕ) → letter_word l ≡ letter_word m → l ≡ m
letter_one l m h =
    let same : 97 + l ≡ 97 + m = cc in
    omega arith

pub mark_one : (text : List ℕ) (l m : ℕ) → IsMark text l → IsMark text m → l ≡ m
mark_one text l m h k =
    let same = sym h.0 ∙ k.0 in
    letter_one l m cc

base_one : (text : List ℕ) (a b : Base) → IsBase text a → IsBase text b → a ≡ b
base_one text (Number n) (Number m) h k = ap Number (number_one text n m h k)
base_one text (Number n) Current h k = absurd (number_not_cursor text n h k)
base_one text (Number n) Last h k = absurd (number_not_last text n h k)
base_one text (Number n) (Mark l) h k = absurd (number_not_mark text n l h k)
base_one text Current (Number n) h k = absurd (number_not_cursor text n k h)
base_one text Current Current h k = refl
base_one text Current Last h k = absurd (cursor_not_last text h k)
base_one text Current (Mark l) h k = absurd (cursor_not_mark text l h k)
base_one text Last (Number n) h k = absurd (number_not_last text n k h)
base_one text Last Current h k = absurd (cursor_not_last text k h)
base_one text Last Last h k = refl
base_one text Last (Mark l) h k = absurd (last_not_mark text l h k)
base_one text (Mark l) (Number n) h k = absurd (number_not_mark text n l k h)
base_one text (Mark l) Current h k = absurd (cursor_not_mark text l k h)
base_one text (Mark l) Last h k = absurd (last_not_mark text l k h)
base_one text (Mark l) (Mark m) h k = ap Mark (mark_one text l m h k)

offset_one : (text : List ℕ) (d e : ℤ) → IsOffset text d → IsOffset text e → d ≡ e
offset_one [] d e h k = h ∙ sym k
offset_one (sign ∷ []) d e h k = signed_one sign d e h.1 k.1 (h.2 ∙ sym k.2)
offset_one (sign ∷ b ∷ bs) d e h k = signed_one sign d e h.1 k.1 (number_one (b ∷ bs) (size d) (size e) h.2 k.2)

pub address_one : (text : List ℕ) (a b : Address) → IsAddress text a → IsAddress text b → a ≡ b
address_one text a b h k =
    let x = address_cut text a h in
    let y = address_cut text b k in
    let front : h.front ≡ k.front = sym x.0 ∙ y.0 in
    let back : h.back ≡ k.back = sym x.1 ∙ y.1 in
    let base = base_one k.front a.base b.base (subst (λ (t : List ℕ). IsBase t a.base) front h.base) k.base in
    let offset = offset_one k.back a.offset b.offset (subst (λ (t : List ℕ). IsOffset t a.offset) back h.offset) k.offset in
    λ i. record { base = base i; offset = offset i }

pub address_or_cursor_one : (text : List ℕ) (a b : Address) → IsAddressOrCursor text a → IsAddressOrCursor text b → a ≡ b
address_or_cursor_one [] a b h k = h ∙ sym k
address_or_cursor_one (c ∷ text) a b h k = address_one (c ∷ text) a b h k

pair_one : (first second : List ℕ) (a b c d : Address) → IsPair first second a b → IsPair first second c d → (a ≡ c) × (b ≡ d)
pair_one [] [] a b c d h k = (h.0 ∙ sym k.0, h.1 ∙ sym k.1)
pair_one [] (y ∷ second) a b c d h k = absurd (h.0.some refl)
pair_one (x ∷ first) second a b c d h k = (address_one (x ∷ first) a c h.0 k.0, address_one second b d h.1 k.1)

no_pair : (text first second : List ℕ) (a b c : Address) → IsAddressOrCursor text a → text ≡ first ++ 44 ∷ second → IsPair first second b c → ⊥
no_pair text first second a b c h e k =
    let none : 44 ∷ second ≡ [] = sym (pair_cut text first second b c e k).1 ∙ place_uncut text a h in
    cc

pub range_one : (text : List ℕ) (r s : Range) → IsRange text r → IsRange text s → r ≡ s
range_one text (One a) (One b) h k = ap One (address_or_cursor_one text a b h k)
range_one text (One a) (Two b c) h k = absurd (no_pair text k.0 k.1 a b c h k.2 k.3)
range_one text (Two b c) (One a) h k = absurd (no_pair text h.0 h.1 a b c k h.2 h.3)
range_one text (Two a b) (Two c d) h k =
    let x = pair_cut text h.0 h.1 a b h.2 h.3 in
    let y = pair_cut text k.0 k.1 c d k.2 k.3 in
    let first : h.0 ≡ k.0 = sym x.0 ∙ y.0 in
    let after : 44 ∷ h.1 ≡ 44 ∷ k.1 = sym x.1 ∙ y.1 in
    let second : h.1 ≡ k.1 = cc in
    let moved : IsPair k.0 k.1 a b = subst (λ (t : List ℕ). IsPair k.0 t a b) second (subst (λ (t : List ℕ). IsPair t h.1 a b) first h.3) in
    let both = pair_one k.0 k.1 a b c d moved k.3 in
    ap₂ Two both.0 both.1
