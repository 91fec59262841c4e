-- One claim more, after which something happened.
use Rattle.std.proofs.Common.{◌≡◌, ◌+◌, ◌++◌, ◌∷◌, [], ◌∙◌, ℕ, Bool, false, List, ap, sym, append_assoc}
use Rattle.std.specs.Prelude.{slice_get, if◌then◌else◌}
use Rattle.irig_explaining.specs.declared.{claim.Claim.Claim, prices.Prices.Prices}
use Rattle.irig_happenings.specs.{Happenings.happening, Happenings.is_plain}
use Rattle.irig_happenings.specs.Parts.{begun, longer, rest_of, stretch}
use Rattle.irig_happenings.specs.declared.{part.Part.Part, run.Run.Run}
use Rattle.irig_happenings.specs.declared.part.Part.TheVariants as part

pub two_more : (p : Prices) (margins : List ℕ) (run : Run) (to : Claim) (later : List Claim) (old : List Part) → is_plain p run.last to ≡ false
    → ((old ++ part.Stretch (stretch p run) ∷ []) ++ part.Happening (happening p run.last to (slice_get margins run.happened)) ∷ [])
    ++ rest_of p margins (begun to (run.happened + 1)) later ≡ old ++ rest_of p margins run (to ∷ later)
two_more p margins run to later old e =
    let s = part.Stretch (stretch p run) in
    let h = part.Happening (happening p run.last to (slice_get margins run.happened)) in
    let rest = rest_of p margins (begun to (run.happened + 1)) later in
    append_assoc (old ++ s ∷ []) (h ∷ []) rest ∙ (append_assoc old (s ∷ []) (h ∷ rest)
    ∙ ap (λ (b : Bool). old ++ (if b then rest_of p margins (longer run to) later else s ∷ h ∷ rest)) (sym e))
