-- A line that inverts, and what it asks for.
use Rattle.std.proofs.Common.{◌≡◌, ◌≢◌, ◌<◌, ◌≤◌, ◌^◌, ◌++◌, ◌∷◌, ◌==◌, ◌&&◌, ◌∙◌, nat_lt, ℕ, Bool, true, false, not, List, [], length, length-append, decimal}
use Rattle.std.proofs.Common.{codes, refl, sym, ap, inl, arith, lit<, append_assoc, inr}
use Rattle.std.specs.List.{list_all}
use Rattle.std.proofs.lemmas.{Bool.and_from, Bool.and_parts, Bool.Decides.nat_tests, Fmt.length-decimal-le, List.append-nil, List.Folds.list_all-append}
use Rattle.irig_lines.specs.{Grammar.AreWords, Grammar.IsWord, Grammar.Means, Lines.is_quit, Lines.are_quit, Numbers.IsNumber, Numbers.is_digit, Words.is_space}
use Rattle.irig_lines.specs.declared.command.Command.TheVariants as command
use Rattle.irig_lines.specs.declared.time.Time.TheVariants as time
use Rattle.irig_lines.proofs.Spacing.{words_found}
use Rattle.irig_script.specs.Obey.Run.{IsPlain}
use Rattle.irig_vcd.proofs.DecimalLemmas.{spells}

-- the line without the newline that ends it
abbrev pub invert_line : ℕ → ℕ → List ℕ
invert_line a b = codes "invert" ++ 32 ∷ decimal a ++ 32 ∷ decimal b

-- a decimal of up to 18 digits is a number
number_spelled : (n : ℕ) → n < 10 ^ 18 → IsNumber (decimal n) n
number_spelled n few =
    let s = spells n (omega (arith, few)) in
    record { digits = s.digits; some = s.some; few = length-decimal-le 18 n (lit< tt) few (omega (arith, few)); value = sym s.value }

-- digits are neither white space nor newlines
joined_digits : (ds : List ℕ) → list_all is_digit ds ≡ true → list_all (λ b. not (is_space b)) ds ≡ true
joined_digits [] h = refl
joined_digits (d ∷ ds) h =
    let p = and_parts (is_digit d) (list_all is_digit ds) h in
    let here : not (is_space d) ≡ true = one_joined d p.0 in
    and_from _ _ here (joined_digits ds p.1)
  where
    one_joined : (d : ℕ) → is_digit d ≡ true → not (is_space d) ≡ true
    one_joined d h = grind (arith, nat_tests)

plain_digits : (ds : List ℕ) → list_all is_digit ds ≡ true → IsPlain ds
plain_digits [] h = refl
plain_digits (d ∷ ds) h =
    let p = and_parts (is_digit d) (list_all is_digit ds) h in
    and_from _ _ (one_plain d p.0) (plain_digits ds p.1)
  where
    one_plain : (d : ℕ) → is_digit d ≡ true → not (d == 10) ≡ true
    one_plain d h = grind (arith, nat_tests)

some_length : (ds : List ℕ) → 0 < length ds → ds ≢ []
some_length ds h e = omega (arith, h, ap length e)

word_spelled : (n : ℕ) → n < 2 ^ 64 → IsWord (decimal n)
word_spelled n h = let s = spells n h in record { some = some_length (decimal n) s.some; joined = joined_digits (decimal n) s.digits }

invert_words : (a b : ℕ) → a < 2 ^ 64 → b < 2 ^ 64 → AreWords (invert_line a b) (codes "invert" ∷ decimal a ∷ decimal b ∷ [])
invert_words a b h k = (
  32 ∷ decimal a ++ 32 ∷ decimal b,
  append_assoc (codes "invert") (32 ∷ decimal a) (32 ∷ decimal b),
  record { some = λ e. absurd (cc); joined = refl },
  (
    32 ∷ [],
    32 ∷ decimal b,
    refl,
    refl,
    λ e. absurd (cc),
    word_spelled a h,
    (32 ∷ [], [], ap (λ (l : List ℕ). 32 ∷ l) (sym (append-nil (decimal b))), refl, λ e. absurd (cc), word_spelled b k, refl),
  ),
)

-- what the line asks for
pub invert_means : (a b : ℕ) → a < 10 ^ 18 → b < 10 ^ 18 → Means (command.Invert (time.At a) (time.At b)) (invert_line a b)
invert_means a b h k = (
  [],
  invert_line a b,
  refl,
  refl,
  inr (
    [],
    codes "invert" ∷ decimal a ∷ decimal b ∷ [],
    record { blank = []; rest = invert_line a b; whole = refl; between = refl; behind = invert_words a b (omega (arith, h)) (omega (arith, k)) },
    (time.At a, time.At b, refl, refl, (decimal a, decimal b, refl, number_spelled a h, number_spelled b k)),
  ),
)

never_both : (v : Bool) → (v && false) ≡ false
never_both true = refl
never_both false = refl

-- the line does not end the script
pub invert_goes_on : (a b : ℕ) → a < 2 ^ 64 → b < 2 ^ 64 → is_quit (invert_line a b) ≡ false
invert_goes_on a b h k =
    let short = not (nat_lt 1000 (length (invert_line a b))) in
    ap (λ ws. short && are_quit ws) (words_found (invert_line a b) (codes "invert" ∷ decimal a ∷ decimal b ∷ []) (invert_words a b h k)) ∙ never_both short

pub invert_plain : (a b : ℕ) → a < 2 ^ 64 → b < 2 ^ 64 → IsPlain (invert_line a b)
invert_plain a b h k =
    let plain = λ (x : ℕ). not (x == 10) in
    list_all-append plain (codes "invert" ++ 32 ∷ decimal a) (32 ∷ decimal b)
    ∙ and_from _ _ (list_all-append plain (codes "invert") (32 ∷ decimal a) ∙ plain_digits (decimal a) (spells a h).digits)
    (plain_digits (decimal b) (spells b k).digits)

pub invert_short : (a b : ℕ) → a < 2 ^ 64 → b < 2 ^ 64 → length (invert_line a b) ≤ 1000
invert_short a b h k =
    omega (
      arith,
      length-append (codes "invert" ++ 32 ∷ decimal a) (32 ∷ decimal b),
      length-append (codes "invert") (32 ∷ decimal a),
      length-decimal-le 20 a (lit< tt) (omega (arith, h)) h,
      length-decimal-le 20 b (lit< tt) (omega (arith, k)) k,
    )

-- the comment without the newline that ends it
abbrev pub note_line : ℕ → ℕ → List ℕ
note_line a b = codes "# length" ++ 32 ∷ decimal a ++ 32 ∷ decimal b

note_words : (a b : ℕ) → a < 2 ^ 64 → b < 2 ^ 64 → AreWords (note_line a b) (codes "#" ∷ codes "length" ∷ decimal a ∷ decimal b ∷ [])
note_words a b h k = (
  codes " length" ++ 32 ∷ decimal a ++ 32 ∷ decimal b,
  refl,
  record { some = λ e. absurd (cc); joined = refl },
  (
    32 ∷ [],
    32 ∷ decimal a ++ 32 ∷ decimal b,
    append_assoc (codes " length") (32 ∷ decimal a) (32 ∷ decimal b),
    refl,
    λ e. absurd (cc),
    record { some = λ e. absurd (cc); joined = refl },
    (
      32 ∷ [],
      32 ∷ decimal b,
      refl,
      refl,
      λ e. absurd (cc),
      word_spelled a h,
      (32 ∷ [], [], ap (λ (l : List ℕ). 32 ∷ l) (sym (append-nil (decimal b))), refl, λ e. absurd (cc), word_spelled b k, refl),
    ),
  ),
)

pub note_goes_on : (a b : ℕ) → a < 2 ^ 64 → b < 2 ^ 64 → is_quit (note_line a b) ≡ false
note_goes_on a b h k =
    let short = not (nat_lt 1000 (length (note_line a b))) in
    ap (λ ws. short && are_quit ws) (words_found (note_line a b) (codes "#" ∷ codes "length" ∷ decimal a ∷ decimal b ∷ []) (note_words a b h k))
    ∙ never_both short

pub note_plain : (a b : ℕ) → a < 2 ^ 64 → b < 2 ^ 64 → IsPlain (note_line a b)
note_plain a b h k =
    let plain = λ (x : ℕ). not (x == 10) in
    list_all-append plain (codes "# length" ++ 32 ∷ decimal a) (32 ∷ decimal b)
    ∙ and_from _ _ (list_all-append plain (codes "# length") (32 ∷ decimal a) ∙ plain_digits (decimal a) (spells a h).digits)
    (plain_digits (decimal b) (spells b k).digits)

pub note_short : (a b : ℕ) → a < 2 ^ 64 → b < 2 ^ 64 → length (note_line a b) ≤ 1000
note_short a b h k =
    omega (
      arith,
      length-append (codes "# length" ++ 32 ∷ decimal a) (32 ∷ decimal b),
      length-append (codes "# length") (32 ∷ decimal a),
      length-decimal-le 20 a (lit< tt) (omega (arith, h)) h,
      length-decimal-le 20 b (lit< tt) (omega (arith, k)) k,
    )

-- a comment asks for nothing
pub note_means : (a b : ℕ) → Means command.Nothing (note_line a b)
note_means a b = ([], note_line a b, refl, refl, inl (refl, refl))
