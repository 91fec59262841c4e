-- Addresses and ranges, cut at the sign and at the comma that they are put together round.
use Rattle.std.proofs.Common.{◌≡◌, ◌==◌, ◌+◌, ◌<◌, ◌≤◌, ℕ, ℤ, ◌++◌, Bool, true, false, not, ◌||◌, List, [], ◌∷◌, length, drop, refl, sym, ap, ap₂, ◌∙◌, subst}
use Rattle.std.proofs.Common.{arith}
use Rattle.std.proofs.lemmas.{Bool.Decides.nat_tests, List.append-nil, Bool.and_from, Bool.and_parts, List.Folds.list_all-append}
use Rattle.std.specs.List.{list_all}
use Rattle.irig_lines.specs.Addresses.{IsAddress, IsBase, IsOffset, IsPair, IsAddressOrCursor, IsRange}
use Rattle.irig_lines.specs.declared.address.Base.TheVariants.{Number, Current, Last, Mark}
use Rattle.irig_lines.specs.declared.cutting.Until.TheVariants.{Comma, Sign}
use Rattle.irig_lines.specs.{Numbers.is_digit, Numbers.is_sign, Words.before, Words.is_letter, Words.onward, declared.address.Address.Address}
use Rattle.irig_lines.specs.{declared.address.Base.Base, declared.range.Range.Range, declared.range.Range.TheVariants.One, declared.range.Range.TheVariants.Two}
use Rattle.irig_lines.proofs.WordLemmas.{BeginsAt, Lacks, before_front, cut_begins, cut_whole, onward_back}

-- the bytes of a base
abbrev is_base_byte : ℕ → Bool
is_base_byte b = is_digit b || (is_letter b || ((b == 46) || ((b == 36) || (b == 39))))

-- those of an address
abbrev is_address_byte : ℕ → Bool
is_address_byte b = is_base_byte b || is_sign b

base_no_sign : (b : ℕ) → is_base_byte b ≡ true → not (is_sign b) ≡ true
base_no_sign b h = grind (arith, nat_tests)

address_no_comma : (b : ℕ) → is_address_byte b ≡ true → not (b == 44) ≡ true
address_no_comma b h = grind (arith, nat_tests)

digit_in_base : (b : ℕ) → is_digit b ≡ true → is_base_byte b ≡ true
digit_in_base b h = rw h refl

letter_in_base : (letter : ℕ) → letter < 26 → is_base_byte (97 + letter) ≡ true
letter_in_base letter h = grind (arith, nat_tests)

base_in_address : (b : ℕ) → is_base_byte b ≡ true → is_address_byte b ≡ true
base_in_address b h = rw h refl

sign_in_address : (b : ℕ) → is_sign b ≡ true → is_address_byte b ≡ true
sign_in_address b h = grind (arith, nat_tests)

-- what holds of each byte of a text
all_weaker : (p q : ℕ → Bool) → ((b : ℕ) → p b ≡ true → q b ≡ true) → (s : List ℕ) → list_all p s ≡ true → list_all q s ≡ true
all_weaker p q f [] h = refl
all_weaker p q f (b ∷ s) h =
    let parts = and_parts (p b) (list_all p s) h in
    and_from (q b) (list_all q s) (f b parts.0) (all_weaker p q f s parts.1)

all-append : (p : ℕ → Bool) (s t : List ℕ) → list_all p s ≡ true → list_all p t ≡ true → list_all p (s ++ t) ≡ true
all-append p s t h k = list_all-append p s t ∙ and_from (list_all p s) (list_all p t) h k

-- a base has no sign in it, and an address no comma
base_bytes : (s : List ℕ) (b : Base) → IsBase s b → list_all is_base_byte s ≡ true
base_bytes s (Number n) h = all_weaker is_digit is_base_byte digit_in_base s h.digits
base_bytes [] Current h = refl
base_bytes (b ∷ []) Current h =
    let same : b ≡ 46 = grind (arith, nat_tests) in
    subst (λ (c : ℕ). list_all is_base_byte (c ∷ []) ≡ true) (sym same) refl
base_bytes (b ∷ c ∷ s) Current h = absurd (cc)
base_bytes s Last h = subst (λ (t : List ℕ). list_all is_base_byte t ≡ true) (sym h) refl
base_bytes s (Mark letter) h = subst (λ (t : List ℕ). list_all is_base_byte t ≡ true) (sym h.0)
    (and_from (is_base_byte (97 + letter)) true (letter_in_base letter h.1) refl)

offset_bytes : (s : List ℕ) (d : ℤ) → IsOffset s d → list_all is_address_byte s ≡ true
offset_bytes [] d h = refl
offset_bytes (sign ∷ []) d h = and_from (is_address_byte sign) true (sign_in_address sign h.0) refl
offset_bytes (sign ∷ b ∷ bs) d h = and_from (is_address_byte sign) (list_all is_address_byte (b ∷ bs)) (sign_in_address sign h.0)
    (all_weaker is_digit is_address_byte (λ c e. base_in_address c (digit_in_base c e)) (b ∷ bs) h.2.digits)

offset_begins : (s : List ℕ) (d : ℤ) → IsOffset s d → BeginsAt Sign s
offset_begins [] d h = tt
offset_begins (sign ∷ []) d h = h.0
offset_begins (sign ∷ b ∷ bs) d h = h.0

-- an address is cut at its sign
pub address_cut : (text : List ℕ) (a : Address) (h : IsAddress text a) → (before Sign text ≡ h.front) × (onward Sign text ≡ h.back)
address_cut text a h =
    let none : Lacks Sign h.front = all_weaker is_base_byte (λ b. not (is_sign b)) base_no_sign h.front (base_bytes h.front a.base h.base) in
    let begins = offset_begins h.back a.offset h.offset in (
      ap (before Sign) h.whole ∙ before_front Sign h.front h.back none begins,
      ap (onward Sign) h.whole ∙ onward_back Sign h.front h.back none begins,
    )

address_lacks : (text : List ℕ) (a : Address) → IsAddress text a → Lacks Comma text
address_lacks text a h =
    let front : list_all is_address_byte h.front ≡ true = all_weaker is_base_byte is_address_byte base_in_address h.front (base_bytes h.front a.base h.base) in
    let all : list_all is_address_byte (h.front ++ h.back) ≡ true = all-append is_address_byte h.front h.back front (offset_bytes h.back a.offset h.offset) in
    all_weaker is_address_byte (λ b. not (b == 44)) address_no_comma text (subst (λ (t : List ℕ). list_all is_address_byte t ≡ true) (sym h.whole) all)

place_lacks : (text : List ℕ) (a : Address) → IsAddressOrCursor text a → Lacks Comma text
place_lacks [] a h = refl
place_lacks (b ∷ bs) a h = address_lacks (b ∷ bs) a h

-- one address has no comma to be cut at, and two are cut at theirs
pub place_uncut : (text : List ℕ) (a : Address) → IsAddressOrCursor text a → onward Comma text ≡ []
place_uncut text a h = ap (onward Comma) (sym (append-nil text)) ∙ onward_back Comma text [] (place_lacks text a h) tt

pair_lacks : (first second : List ℕ) (a b : Address) → IsPair first second a b → Lacks Comma first
pair_lacks [] second a b h = refl
pair_lacks (x ∷ first) second a b h = address_lacks (x ∷ first) a h.0

pub pair_cut : (text first second : List ℕ) (a b : Address) → text ≡ first ++ 44 ∷ second → IsPair first second a b
    → (before Comma text ≡ first) × (onward Comma text ≡ 44 ∷ second)
pair_cut text first second a b e h = (
  ap (before Comma) e ∙ before_front Comma first (44 ∷ second) (pair_lacks first second a b h) refl,
  ap (onward Comma) e ∙ onward_back Comma first (44 ∷ second) (pair_lacks first second a b h) refl,
)

-- the first byte of a range
abbrev pub is_range_byte : ℕ → Bool
is_range_byte b = is_address_byte b || (b == 44)

address_first : (b : ℕ) (bs : List ℕ) (a : Address) → IsAddress (b ∷ bs) a → is_address_byte b ≡ true
address_first b bs a h =
    let front : list_all is_address_byte h.front ≡ true = all_weaker is_base_byte is_address_byte base_in_address h.front (base_bytes h.front a.base h.base) in
    let all : list_all is_address_byte (h.front ++ h.back) ≡ true = all-append is_address_byte h.front h.back front (offset_bytes h.back a.offset h.offset) in
    let here : list_all is_address_byte (b ∷ bs) ≡ true = subst (λ (t : List ℕ). list_all is_address_byte t ≡ true) (sym h.whole) all in
    (and_parts (is_address_byte b) (list_all is_address_byte bs) here).0

pub range_first : (b : ℕ) (bs : List ℕ) (r : Range) → IsRange (b ∷ bs) r → is_range_byte b ≡ true
range_first b bs (One a) h = rw (address_first b bs a h) refl
range_first b bs (Two a c) h = go h.0 h.2 h.3
  where
    go : (first : List ℕ) → b ∷ bs ≡ first ++ 44 ∷ h.1 → IsPair first h.1 a c → is_range_byte b ≡ true
    go [] e k = let same : b ≡ 44 = cc in subst (λ (x : ℕ). is_range_byte x ≡ true) (sym same) refl
    go (x ∷ first) e k =
        let same : b ≡ x = cc in
        subst (λ (y : ℕ). is_range_byte y ≡ true) (sym same) (rw (address_first x first a k.0) refl)

-- what the parser reads of an address
pub address_of : (text front back : List ℕ) (a : Address) → (length text == 0) ≡ false → front ≡ before Sign text → back ≡ onward Sign text
    → IsBase front a.base → IsOffset back a.offset → IsAddress text a
address_of text front back a some f b base offset = record {
  front = front;
  back = back;
  some = λ e. (let bad : true ≡ false = sym (ap (λ (t : List ℕ). length t == 0) e) ∙ some in cc);
  whole = sym (cut_whole Sign text) ∙ sym (ap₂ (λ x y. x ++ y) f b);
  base = base;
  offset = offset;
}

pub address_parts : (text front back : List ℕ) (a : Address) → front ≡ before Sign text → back ≡ onward Sign text → IsAddress text a
    → IsBase front a.base × IsOffset back a.offset
address_parts text front back a f b h =
    let cut = address_cut text a h in (
      subst (λ (t : List ℕ). IsBase t a.base) (sym (f ∙ cut.0)) h.base,
      subst (λ (t : List ℕ). IsOffset t a.offset) (sym (b ∙ cut.1)) h.offset,
    )

-- two addresses, if something is next to the comma
pub pair_addresses : (first second : List ℕ) (a b : Address) → (first ≡ [] → second ≡ [] → ⊥) → IsPair first second a b → IsAddress first a × IsAddress second b
pair_addresses [] [] a b some h = absurd (some refl refl)
pair_addresses [] (y ∷ second) a b some h = h
pair_addresses (x ∷ first) second a b some h = h

-- a range without a comma, and one with a comma
no_byte : (s : List ℕ) → length s < 1 → s ≡ []
no_byte [] h = refl
no_byte (b ∷ s) h = absurd (omega (arith, h))

pub uncut_range : (text rest : List ℕ) (r : Range) → rest ≡ onward Comma text → length rest < 1 → IsRange text r → (a : Address) × IsAddressOrCursor text a
uncut_range text rest (One a) e h k = (a, k)
uncut_range text rest (Two a b) e h k =
    let bad : [] ≡ 44 ∷ k.1 = sym (no_byte rest h) ∙ e ∙ (pair_cut text k.0 k.1 a b k.2 k.3).1 in
    cc

comma_first : (rest : List ℕ) → 1 ≤ length rest → BeginsAt Comma rest → rest ≡ 44 ∷ drop 1 rest
comma_first [] h k = absurd (omega (arith, h))
comma_first (b ∷ s) h k = let same : b ≡ 44 = grind (arith, nat_tests) in ap (λ x. x ∷ s) same

pub pair_range : (text first rest second : List ℕ) (a b : Address) → first ≡ before Comma text → rest ≡ onward Comma text → 1 ≤ length rest
    → second ≡ drop 1 rest
    → IsPair first second a b → IsRange text (Two a b)
pair_range text first rest second a b f e some s h =
    let comma = comma_first rest some (subst (BeginsAt Comma) (sym e) (cut_begins Comma text)) in
    (first, second, sym (cut_whole Comma text) ∙ sym (ap₂ (λ x y. x ++ y) f e) ∙ ap (λ t. first ++ t) (comma ∙ ap (λ t. 44 ∷ t) (sym s)), h)

pub pair_refused : (text first rest second : List ℕ) → first ≡ before Comma text → rest ≡ onward Comma text → 1 ≤ length rest → second ≡ drop 1 rest
    → ((a : Address) → (b : Address) → IsPair first second a b → ⊥) → (r : Range) → IsRange text r → ⊥
pair_refused text first rest second f e some s bad (One a) h =
    let none : rest ≡ [] = e ∙ place_uncut text a h in
    omega (arith, some, ap length none)
pair_refused text first rest second f e some s bad (Two a b) h =
    let cut = pair_cut text h.0 h.1 a b h.2 h.3 in
    let one : h.0 ≡ first = sym (f ∙ cut.0) in
    let two : h.1 ≡ second = sym (s ∙ ap (drop 1) (e ∙ cut.1)) in
    bad a b (subst (λ (t : List ℕ). IsPair first t a b) two (subst (λ (t : List ℕ). IsPair t h.1 a b) one h.3))
