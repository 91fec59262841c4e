-- Words determine what they are the words of.
use Rattle.std.proofs.Common.{◌≡◌, ◌<◌, ◌≤◌, ◌+◌, ◌∷◌, [], ℕ, suc, Bool, true, false, Option, Some, None, List, length, drop, get_or, nat_lt, refl, sym, ap}
use Rattle.std.proofs.Common.{ap₂, ◌∙◌, arith}
use Rattle.std.specs.Str.{bytes_eq}
use Rattle.std.proofs.lemmas.Bool.{and_from, lt-ltb}
use Rattle.irig_saved.specs.ChangeWords.{letters_from, letters_or_dash, moved_word, time_word, head_of, words_of}
use Rattle.irig_saved.specs.declared.single.Single.TheVariants.{Splice, Toggle, Shift, SetFormat, SetMark}
use Rattle.irig_saved.specs.{Ranges.IsNumber, Ranges.IsTime, Ranges.IsSingle, declared.single.Single.Single}
use Rattle.irig_codes.specs.declared.format.Kind.TheVariants.{A, B, E, G}
use Rattle.irig_codes.specs.{Words.kind_word, declared.format.Kind.Kind}
use Rattle.irig_recording.specs.declared.pulse.Pulse.{Pulse}
use Rattle.irig_saved.proofs.Decimals.{number_is_plain, distance_is_plain, same_number, same_distance, no_dash}
use Rattle.irig_saved.proofs.{Cuts.IsWord, Cuts.AreWords, PlainWords.IsPlain, PlainWords.ArePlain, PlainWords.plain_is_word, PlainWords.plain_are_words}

pub small_is_number : (n : ℕ) → n ≤ 7 → IsNumber n
small_is_number n h = omega (arith, h)

-- words, one by one
pub word_at : (n : ℕ) (ws vs : List (List ℕ)) → ws ≡ vs → get_or ws n [] ≡ get_or vs n []
word_at n ws vs e = ap (λ (l : List (List ℕ)). get_or l n []) e

pub byte_at : (n : ℕ) (w v : List ℕ) → w ≡ v → get_or w n 0 ≡ get_or v n 0
byte_at n w v e = ap (λ (l : List ℕ). get_or l n 0) e

-- words that differ are not the same: they are compared by computing
pub unlike : {P : Type 0} (w v : List ℕ) → bytes_eq w w ≡ true → bytes_eq w v ≡ false → w ≡ v → P
unlike w v own other same = let bad : true ≡ false = sym own ∙ (ap (bytes_eq w) same ∙ other) in absurd (cc)

pub byte_is_word : (b : ℕ) → 32 < b → IsWord (b ∷ [])
byte_is_word b h = and_from (nat_lt 32 b) true (lt-ltb 32 b h) refl

pub byte_is_plain : (b : ℕ) → 36 < b → IsPlain (b ∷ [])
byte_is_plain b h = and_from (nat_lt 36 b) true (lt-ltb 36 b h) refl

-- the letters of the marks that move

pub later_letters : (x y : ℕ) (ms : List Bool) (ys : List ℕ) → letters_from x ms ≡ y ∷ ys → x ≤ y
later_letters x y [] ys e = absurd (no_nil y ys e) where
  no_nil : (y : ℕ) (ys : List ℕ) → [] ≡ y ∷ ys → ⊥
  no_nil y ys e = let n : 0 ≡ suc (length ys) = ap length e in omega (arith, n)
later_letters x y (true ∷ ms) ys e = let same : x ≡ y = byte_at 0 (x ∷ letters_from (x + 1) ms) (y ∷ ys) e in omega (arith, same)
later_letters x y (false ∷ ms) ys e = let more : x + 1 ≤ y = later_letters (x + 1) y ms ys e in omega (arith, more)

same_letters : (x : ℕ) (ms ns : List Bool) → length ms ≡ length ns → letters_from x ms ≡ letters_from x ns → ms ≡ ns
same_letters x [] [] n e = refl
same_letters x [] (b ∷ ns) n e = absurd (omega (arith, n))
same_letters x (b ∷ ms) [] n e = absurd (omega (arith, n))
same_letters x (true ∷ ms) (true ∷ ns) n e = ap (λ (l : List Bool). true ∷ l) (same_letters (x + 1) ms ns (omega (arith, n)) (ap (λ (l : List ℕ). drop 1 l) e))
same_letters x (false ∷ ms) (false ∷ ns) n e = ap (λ (l : List Bool). false ∷ l) (same_letters (x + 1) ms ns (omega (arith, n)) e)
same_letters x (true ∷ ms) (false ∷ ns) n e = let bad : x + 1 ≤ x = later_letters (x + 1) x ns (letters_from (x + 1) ms) (sym e) in absurd (omega (arith, bad))
same_letters x (false ∷ ms) (true ∷ ns) n e = let bad : x + 1 ≤ x = later_letters (x + 1) x ms (letters_from (x + 1) ns) e in absurd (omega (arith, bad))

undash : (us vs : List ℕ) → ((y : ℕ) (ys : List ℕ) → us ≡ y ∷ ys → 97 ≤ y) → ((y : ℕ) (ys : List ℕ) → vs ≡ y ∷ ys → 97 ≤ y)
    → letters_or_dash us ≡ letters_or_dash vs → us ≡ vs
undash [] [] hu hv e = refl
undash [] (v ∷ vs) hu hv e =
    let same : 45 ≡ v = byte_at 0 (45 ∷ []) (v ∷ vs) e in
    let high : 97 ≤ v = hv v vs refl in
    absurd (omega (arith, same, high))
undash (u ∷ us) [] hu hv e =
    let same : u ≡ 45 = byte_at 0 (u ∷ us) (45 ∷ []) e in
    let high : 97 ≤ u = hu u us refl in
    absurd (omega (arith, same, high))
undash (u ∷ us) (v ∷ vs) hu hv e = e

same_moved : (ms ns : List Bool) → length ms ≡ length ns → moved_word ms ≡ moved_word ns → ms ≡ ns
same_moved ms ns n e = same_letters 97 ms ns n (undash (letters_from 97 ms) (letters_from 97 ns) (λ y ys h. later_letters 97 y ms ys h)
    (λ y ys h. later_letters 97 y ns ys h) e)

letters_are_plain : (x : ℕ) (ms : List Bool) → 36 < x → IsPlain (letters_from x ms)
letters_are_plain x [] h = refl
letters_are_plain x (true ∷ ms) h = and_from (nat_lt 36 x) _ (lt-ltb 36 x h) (letters_are_plain (x + 1) ms (omega (arith, h)))
letters_are_plain x (false ∷ ms) h = letters_are_plain (x + 1) ms (omega (arith, h))

dash_is_plain : (us : List ℕ) → IsPlain us → IsPlain (letters_or_dash us)
dash_is_plain [] h = refl
dash_is_plain (u ∷ us) h = h

moved_is_plain : (ms : List Bool) → IsPlain (moved_word ms)
moved_is_plain ms = dash_is_plain (letters_from 97 ms) (letters_are_plain 97 ms (omega arith))

-- times and kinds

time_is_plain : (t : Option ℕ) → IsTime t → IsPlain (time_word t)
time_is_plain None h = refl
time_is_plain (Some t) h = number_is_plain t h

same_time : (t u : Option ℕ) → IsTime t → IsTime u → time_word t ≡ time_word u → t ≡ u
same_time None None ht hu e = refl
same_time None (Some u) ht hu e = absurd (no_dash u hu (sym e))
same_time (Some t) None ht hu e = absurd (no_dash t ht e)
same_time (Some t) (Some u) ht hu e = ap Some (same_number t u ht hu e)

pub kind_is_plain : (k : Kind) → IsPlain (kind_word k)
kind_is_plain A = refl
kind_is_plain B = refl
kind_is_plain E = refl
kind_is_plain G = refl

pub kind_is_word : (k : Kind) → IsWord (kind_word k)
kind_is_word k = plain_is_word (kind_word k) (kind_is_plain k)

pub same_kind : (k l : Kind) → kind_word k ≡ kind_word l → k ≡ l
same_kind A A e = refl
same_kind B B e = refl
same_kind E E e = refl
same_kind G G e = refl
same_kind k m e = unlike (kind_word k) (kind_word m) refl refl e

-- the first line of a change

pub head_is_plain : (x : Single) → IsPlain (head_of x)
head_is_plain (Splice at count put) = refl
head_is_plain _ = refl

pub head_is_word : (x : Single) → IsWord (head_of x)
head_is_word x = plain_is_word (head_of x) (head_is_plain x)

pub words_are_plain : (x : Single) → IsSingle x → ArePlain (words_of x)
words_are_plain (Splice at count put) h = (number_is_plain at h.0, (number_is_plain count h.1, (number_is_plain (length put) h.2, tt)))
words_are_plain (Toggle a b) h = (number_is_plain a h.0, (number_is_plain b h.1, tt))
words_are_plain (Shift i j by marks) h = (number_is_plain i h.0, (number_is_plain j h.1, (distance_is_plain by h.2, (moved_is_plain marks, tt))))
words_are_plain (SetFormat kind expression) h = (kind_is_plain kind, (number_is_plain expression (small_is_number expression h), tt))
words_are_plain (SetMark letter time) h = (byte_is_plain (97 + letter) (omega arith), (time_is_plain time h.1, tt))

pub words_are_words : (x : Single) → IsSingle x → AreWords (words_of x)
words_are_words x h = plain_are_words (words_of x) (words_are_plain x h)

-- the same change, but for the pulses that a splice inserts: only their number is given
abbrev pub Alike : Single → Single → Type 0
Alike x (Splice at count put) = (ps : List Pulse) × (x ≡ Splice at count ps) × (length ps ≡ length put)
Alike x y = x ≡ y

pub alike : (x y : Single) → IsSingle x → IsSingle y → head_of x ≡ head_of y → words_of x ≡ words_of y → Alike x y
alike (Splice at count put) (Splice at' count' put') hx hy h w = (
  put,
  ap₂ (λ m n. Splice m n put) (same_number at at' hx.0 hy.0 (word_at 0 _ _ w)) (same_number count count' hx.1 hy.1 (word_at 1 _ _ w)),
  same_number (length put) (length put') hx.2 hy.2 (word_at 2 _ _ w),
)
alike (Toggle a b) (Toggle a' b') hx hy h w = ap₂ Toggle (same_number a a' hx.0 hy.0 (word_at 0 _ _ w)) (same_number b b' hx.1 hy.1 (word_at 1 _ _ w))
alike (Shift i j by marks) (Shift i' j' by' marks') hx hy h w =
    ap₂ (λ m n. Shift m n by marks) (same_number i i' hx.0 hy.0 (word_at 0 _ _ w)) (same_number j j' hx.1 hy.1 (word_at 1 _ _ w))
    ∙ ap₂ (λ d ms. Shift i' j' d ms) (same_distance by by' hx.2 hy.2 (word_at 2 _ _ w)) (same_moved marks marks' (hx.3 ∙ sym hy.3) (word_at 3 _ _ w))
alike (SetFormat kind expression) (SetFormat kind' expression') hx hy h w =
    ap₂ SetFormat (same_kind kind kind' (word_at 0 _ _ w)) (same_number expression expression' (small_is_number expression hx) (small_is_number expression' hy)
    (word_at 1 _ _ w))
alike (SetMark letter time) (SetMark letter' time') hx hy h w =
    ap₂ SetMark (let plus : 97 + letter ≡ 97 + letter' = byte_at 0 _ _ (word_at 0 _ _ w) in omega (arith, plus))
    (same_time time time' hx.1 hy.1 (word_at 1 _ _ w))
alike x y hx hy h w = unlike (head_of x) (head_of y) refl refl h
