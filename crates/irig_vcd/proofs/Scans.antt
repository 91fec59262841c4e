-- Words after others.
use Rattle.std.proofs.Common.{◌≡◌, ◌++◌, ◌∷◌, [], ℕ, List, Option, Some, None, Result, Ok, Err, refl}
use Rattle.irig_vcd.specs.{Scan.Scan, Scan.scan_on, Scan.scan_words, Scan.word_in, Words.Word, declared.fault.VcdFault.VcdFault}

-- what is read after words, if there is no fault among them
abbrev pub after : Scan × Option VcdFault → (Scan → Scan × Option VcdFault) → Scan × Option VcdFault
after (s, None) f = f s
after (s, Some e) f = (s, Some e)

on_after : (s : Scan) (r : Result Scan VcdFault) (f g : Scan → Scan × Option VcdFault) (h : Scan → Scan × Option VcdFault)
    → ((t : Scan) → f t ≡ after (g t) h) → scan_on s r f ≡ after (scan_on s r g) h
on_after s (Ok t) f g h ih = ih t
on_after s (Err e) f g h ih = refl

pub scan-append : (code : List ℕ) (unit : ℕ) (s : Scan) (xs ys : List Word)
    → scan_words code unit s (xs ++ ys) ≡ after (scan_words code unit s xs) (λ t. scan_words code unit t ys)
scan-append code unit s [] ys = refl
scan-append code unit s (x ∷ xs) ys = on_after s (word_in s.opened code unit s x) _ _ _ (λ t. scan-append code unit t xs ys)
