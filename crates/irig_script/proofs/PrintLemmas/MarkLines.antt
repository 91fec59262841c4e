-- The marks a to z, one after another.
use Rattle.std.proofs.Common.{◌≡◌, ◌+◌, ◌-◌, ◌<◌, ℕ, List, Option, None, Some, length, take, get_or, slice_get, ap₂, sym, subst, ◌∙◌, arith}
use Rattle.std.proofs.lemmas.{List.get_or-take, List.length-take, List.take_all, Option.get_or_from_slice_get, Option.slice_get_within}
use Rattle.irig_script.specs.Print.Listings.{mark_line}

pub few_marks : (marks : List (Option ℕ)) → take 26 (take 26 marks) ≡ take 26 marks
few_marks marks = take_all 26 (take 26 marks) (omega (arith, length-take 26 marks))

-- the mark of a letter's byte is that of the letter
pub mark_named : (marks : List (Option ℕ)) (byte letter : ℕ) (mark : Option ℕ) → byte ≡ 97 + letter → slice_get marks (byte - 97) ≡ Some mark
    → slice_get marks letter ≡ Some mark
mark_named marks byte letter mark e h = let place : byte - 97 ≡ letter = omega arith in rw place at h

-- its line is the next one
pub mark_listed : (marks : List (Option ℕ)) (byte letter k : ℕ) (mark : Option ℕ) (line row : List ℕ) → letter ≡ k → k < 26 → byte ≡ 97 + letter
    → slice_get marks (byte - 97) ≡ Some mark → line ≡ row → row ≡ mark_line letter mark
    → (k < length (take 26 marks)) × (line ≡ mark_line (0 + k) (get_or (take 26 marks) k None))
mark_listed marks byte letter k mark line row e h named there same is =
    let here = subst (λ (n : ℕ). slice_get marks n ≡ Some mark) e (mark_named marks byte letter mark named there) in
    let within = slice_get_within marks k mark here in
    let place : letter ≡ 0 + k = omega arith in
    let read : mark ≡ get_or (take 26 marks) k None = sym (get_or_from_slice_get marks k mark None here) ∙ sym (get_or-take 26 marks k None h) in
    (omega (arith, h, within, length-take 26 marks), same ∙ is ∙ ap₂ mark_line place read)
