-- Values on other codes, which say nothing.
use Rattle.std.proofs.Common.{◌≡◌, ◌<◌, ◌≤◌, ◌+◌, ◌∷◌, [], ℕ, true, false, List, length, drop, get_or, None, Ok, refl, ap, sym, ◌∙◌, arith}
use Rattle.std.specs.Str.{bytes_eq}
use Rattle.irig_vcd.specs.Words.{Word, WordKind, is_space, kind_of_byte, words_from, before_space, dollar, hash, scalar, vector, real, text, other}
use Rattle.irig_vcd.specs.{Code.Short.TakesValue, Code.Short.takes_code, Values.level_by}
use Rattle.irig_vcd.proofs.{CodeRuns.other_bytes, DigitRuns.dark_above, DigitRuns.none_before, Runs.begins, Runs.newline, Runs.skips}

-- a space ends a word
space : (s : List ℕ) (i : ℕ) → get_or s i 0 ≡ 32 → is_space (get_or s i 0) ≡ true
space s i is = rw is refl

-- a value on another code gives the wire no level
other_level : (kind : WordKind) (code : List ℕ) (w : Word) (next : List ℕ) → bytes_eq next code ≡ false → level_by kind code w next ≡ Ok None
other_level vector code w next h = rw h refl
other_level dollar code w next h = refl
other_level hash code w next h = refl
other_level scalar code w next h = refl
other_level real code w next h = refl
other_level text code w next h = refl
other_level other code w next h = refl

-- a value up to a space, and after it another code of one byte
pub value_word : (s code : List ℕ) (start mid byte : ℕ) → start < length s → mid + 3 ≤ length s
    → 32 < get_or s start 0 → takes_code (kind_of_byte (get_or s start 0)) ≡ true
    → words_from mid true (drop mid s) ≡ words_from (start + 1) true (drop (start + 1) s)
    → get_or s mid 0 ≡ 32 → get_or s (mid + 1) 0 ≡ byte → get_or s (mid + 2) 0 ≡ 10 → 32 < byte → (code ≡ byte ∷ [] → ⊥)
    → TakesValue (words_from start false (drop start s)) (words_from (mid + 3) false (drop (mid + 3) s)) code
value_word s code start mid byte lt room dark kind dots gap at line low apart =
    let w : Word = record { kind = kind_of_byte (get_or s start 0); bytes = get_or s start 0 ∷ before_space (drop (start + 1) s); offset = start } in
    let one : mid + 1 + 1 ≡ mid + 2 = omega arith in
    let three : mid + 2 + 1 ≡ mid + 3 = omega arith in
    let shut : before_space (drop (mid + 2) s) ≡ [] = none_before s (mid + 2) (λ _. newline s (mid + 2) line) in
    let c : Word = record { kind = kind_of_byte byte; bytes = byte ∷ []; offset = mid + 1 } in
    let code_begins : words_from (mid + 1) false (drop (mid + 1) s) ≡ c ∷ words_from (mid + 2) true (drop (mid + 2) s) =
    begins s (mid + 1) (omega arith) (rw at (dark_above byte low)) ∙ rw (at, one, shut) refl in
    let rest : words_from (mid + 2) true (drop (mid + 2) s) ≡ words_from (mid + 3) false (drop (mid + 3) s) =
    sym (skips s (mid + 2) true (omega arith) (newline s (mid + 2) line)) ∙ ap (λ n. words_from n false (drop n s)) three in
    let gone : words_from (start + 1) true (drop (start + 1) s) ≡ c ∷ words_from (mid + 3) false (drop (mid + 3) s) =
    sym dots ∙ (sym (skips s mid true (omega arith) (space s mid gap)) ∙ (code_begins ∙ ap (λ (l : List Word). c ∷ l) rest)) in
    record {
      word = w;
      next = c;
      left = begins s start lt (dark_above (get_or s start 0) dark) ∙ ap (λ (l : List Word). w ∷ l) gone;
      kind = kind;
      level = other_level (kind_of_byte (get_or s start 0)) code w (byte ∷ []) (other_bytes code byte apart);
    }
