use Rattle.std.proofs.Common.{[], ◌≡◌, ◌++◌, ◌∙◌, ap, sym, refl, true, Bool, List, ℕ, append_assoc, ◌∷◌}
use Rattle.std.specs.Prelude.{◌↔◌}
use Rattle.std.proofs.lemmas.List.{append-nil}
use Rattle.std.proofs.KnownBytes.{Appends-nil, Appends-trans}
use Rattle.irig_diff.proofs.printing.print.Goals as goal

-- two parts are empty if and only if both are
none_in_both : (was empty : Bool) (so_far part : List ℕ) → (was ≡ true ↔ so_far ≡ []) → (empty ≡ true ↔ (was ≡ true) × (part ≡ []))
    → (empty ≡ true ↔ so_far ++ part ≡ [])
none_in_both was empty [] part h k = (λ e. (k.0 e).1, λ e. k.1 (h.1 refl, e))
none_in_both was empty (x ∷ so_far) part h k = (
  λ e. absurd (let bad = h.0 (k.0 e).0 in cc),
  λ e. absurd (cc),
)

more : (so_far part whole left rest : List ℕ) → so_far ++ whole ≡ rest → whole ≡ part ++ left → (so_far ++ part) ++ left ≡ rest
more so_far part whole left rest h e = append_assoc so_far part left ∙ ap (λ (l : List ℕ). so_far ++ l) (sym e) ∙ h

pub parts-init : goal.parts-init
parts-init g c = ([], refl, (λ _. refl, λ _. refl), Appends-nil _)

pub parts-preserved : goal.parts-preserved
parts-preserved g c =
    let inv = c.parts.invariant in
    let done = c.in-Ok-false.ensures.ok in
    (inv.0 ++ done.0, more inv.0 done.0 _ _ _ inv.1 done.1, none_in_both _ _ inv.0 done.0 inv.2 done.2, Appends-trans _ _ _ inv.0 done.0 inv.3 done.3)

pub returns-in-Ok-true-clause-printed : goal.returns-in-Ok-true-clause-printed
returns-in-Ok-true-clause-printed g c =
    let inv = c.parts.invariant in
    let done = c.in-Ok-true.ensures.ok in
    let whole = more inv.0 done.0 _ _ _ inv.1 done.1 in
    let end =
    sym (append-nil (inv.0 ++ done.0)) ∙ ap (λ (l : List ℕ). (inv.0 ++ done.0) ++ l) (sym (c.in-Ok-true.ensures.end c.in-Ok-true.field-0-test)) ∙ whole in
    rw end at (Appends-trans _ _ _ inv.0 done.0 inv.3 done.3)

pub returns-in-Ok-true-clause-empty : goal.returns-in-Ok-true-clause-empty
returns-in-Ok-true-clause-empty g c =
    let inv = c.parts.invariant in
    let done = c.in-Ok-true.ensures.ok in
    let whole = more inv.0 done.0 _ _ _ inv.1 done.1 in
    let end =
    sym (append-nil (inv.0 ++ done.0)) ∙ ap (λ (l : List ℕ). (inv.0 ++ done.0) ++ l) (sym (c.in-Ok-true.ensures.end c.in-Ok-true.field-0-test)) ∙ whole in
    rw end at (none_in_both _ _ inv.0 done.0 inv.2 done.2)
