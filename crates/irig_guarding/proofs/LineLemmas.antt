-- The lines of a text are parts of it.
use Rattle.std.proofs.Common.{◌≡◌, ◌≢◌, ◌==◌, ◌+◌, ◌-◌, ◌<◌, ◌≤◌, ◌++◌, ℕ, false, List, [], ◌∷◌, length, drop, take, not}
use Rattle.std.proofs.Common.{get_or, refl, ap, sym, ◌∙◌, subst, arith, append_assoc, length-drop}
use Rattle.std.proofs.lemmas.List.{append-nil, get_or-drop, take_more}
use Rattle.std.proofs.lemmas.{Bool.Decides.nat_tests, Bool.and_from, List.Folds.list_all-append}
use Rattle.irig_script.specs.Obey.Run.{IsPlain, unlines}
use Rattle.irig_guarding.proofs.GuardLemmas.{unlines-append, unlines_one}

-- from a place of a text up to another one
abbrev pub part : ℕ → ℕ → List ℕ → List ℕ
part begin at script = take (at - begin) (drop begin script)

part_more : (script : List ℕ) (begin at : ℕ) → begin ≤ at → at < length script
    → part begin (at + 1) script ≡ part begin at script ++ get_or script at 0 ∷ []
part_more script begin at le lt =
    let step : at + 1 - begin ≡ (at - begin) + 1 = omega (arith, le) in
    let there : begin + (at - begin) ≡ at = omega (arith, le) in
    ap (λ n. take n (drop begin script)) step
    ∙ (take_more (drop begin script) (at - begin) 0 (omega (arith, length-drop begin script, le, lt))
    ∙ ap (λ y. part begin at script ++ y ∷ []) (get_or-drop begin script (at - begin) 0 ∙ ap (λ n. get_or script n 0) there))

apart : (b : ℕ) → b ≢ 10 → (b == 10) ≡ false
apart b e = grind (arith, nat_tests)

-- a byte that ends no line
pub plain_on : (script : List ℕ) (begin at : ℕ) → begin ≤ at → at < length script → get_or script at 0 ≢ 10
    → IsPlain (part begin at script) → IsPlain (part begin (at + 1) script)
plain_on script begin at le lt other h =
    subst IsPlain (sym (part_more script begin at le lt))
    (list_all-append (λ x. not (x == 10)) (part begin at script) (get_or script at 0 ∷ []) ∙ and_from _ _ h (rw (apart (get_or script at 0) other) refl))

pub read_on : (script : List ℕ) (begin at : ℕ) (lines : List (List ℕ)) → begin ≤ at → at < length script
    → take at script ≡ unlines lines ++ part begin at script → take (at + 1) script ≡ unlines lines ++ part begin (at + 1) script
read_on script begin at lines le lt h =
    take_more script at 0 lt
    ∙ (ap (λ l. l ++ get_or script at 0 ∷ []) h
    ∙ (append_assoc (unlines lines) (part begin at script) (get_or script at 0 ∷ [])
    ∙ ap (λ l. unlines lines ++ l) (sym (part_more script begin at le lt))))

-- a byte that ends one
pub line_cut : (script : List ℕ) (begin at : ℕ) (lines new : List (List ℕ)) → at < length script → get_or script at 0 ≡ 10
    → new ≡ lines ++ part begin at script ∷ [] → take at script ≡ unlines lines ++ part begin at script
    → take (at + 1) script ≡ unlines new ++ part (at + 1) (at + 1) script
line_cut script begin at lines new lt ten e h =
    let none : at + 1 - (at + 1) ≡ 0 = omega arith in
    let more : unlines new ≡ unlines lines ++ (part begin at script ++ 10 ∷ []) =
    ap unlines e ∙ (unlines-append lines (part begin at script ∷ []) ∙ ap (λ l. unlines lines ++ l) (unlines_one (part begin at script))) in
    take_more script at 0 lt
    ∙ (ap (λ y. take at script ++ y ∷ []) ten
    ∙ (ap (λ l. l ++ 10 ∷ []) h
    ∙ (append_assoc (unlines lines) (part begin at script) (10 ∷ [])
    ∙ (sym more
    ∙ (sym (append-nil (unlines new)) ∙ ap (λ n. unlines new ++ take n (drop (at + 1) script)) (sym none))))))

pub plain_none : (script : List ℕ) (at : ℕ) → IsPlain (part at at script)
plain_none script at = let none : at - at ≡ 0 = omega arith in subst (λ (n : ℕ). IsPlain (take n (drop at script))) (sym none) refl
