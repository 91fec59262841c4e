-- Changes of one line, by what is in it.
use Rattle.std.proofs.Common.{◌≡◌, ℕ, ℤ, Bool, List, Option, codes}
use Rattle.irig_codes.specs.declared.format.Kind.{Kind}
use Rattle.irig_saved.specs.Values.{IsFormat, words_of_format, AreTwo, words_of_two, IsShift, words_of_shift, IsMark, words_of_mark}
use Rattle.irig_saved.specs.declared.single.Single.TheVariants.{Splice, Toggle, Shift, SetFormat, SetMark}
use Rattle.irig_saved.specs.{Lines.line, ChangeWords.single_line, Reading.IsShort, declared.single.Single.Single}

-- a line that is none of the four is no change of one line
pub no_short : (text : List ℕ)
    → ((t : ℕ × ℕ) → AreTwo t → text ≡ line (codes "toggle") (words_of_two t) → ⊥)
    → ((f : Kind × ℕ) → IsFormat f → text ≡ line (codes "setformat") (words_of_format f) → ⊥)
    → ((t : ℕ × Option ℕ) → IsMark t → text ≡ line (codes "setmark") (words_of_mark t) → ⊥)
    → ((t : ℕ × ℕ × ℤ × List Bool) → IsShift t → text ≡ line (codes "shift") (words_of_shift t) → ⊥)
    → (x : Single) → IsShort x → text ≡ single_line x → ⊥
no_short text toggle format mark shift (Splice at count put) h e = h
no_short text toggle format mark shift (Toggle a b) h e = toggle (a, b) h e
no_short text toggle format mark shift (Shift i j by marks) h e = shift (i, j, by, marks) h e
no_short text toggle format mark shift (SetFormat kind expression) h e = format (kind, expression) h e
no_short text toggle format mark shift (SetMark letter time) h e = mark (letter, time) h e
