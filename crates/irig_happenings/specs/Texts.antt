-- The text of a listing. This project's own.
use Rattle.std.specs.Prelude.{ℕ, ◌==◌, ◌++◌, Bool, true, false, List, [], ◌∷◌, Option}
use Rattle.std.specs.Prelude.{Some, None, codes, decimal, if◌then◌else◌}
use Rattle.irig_explaining.specs.declared.claim.Kind.{Kind}
use Rattle.irig_explaining.specs.declared.claim.Kind.TheVariants.{Next, Step, Jump}
use Rattle.irig_happenings.specs.JsonTexts.{json_part}
use Rattle.irig_happenings.specs.declared.happening.Happening.{Happening}
use Rattle.irig_happenings.specs.declared.{noise.Noise.Noise, stretch.Stretch.Stretch}
use Rattle.irig_happenings.specs.declared.part.Part.{Part}
use Rattle.irig_happenings.specs.declared.part.Part.TheVariants as part

-- two moments
abbrev pub span : ℕ → ℕ → List ℕ
span begin end = decimal begin ++ (codes "\t" ++ decimal end) ++ codes "\t"

abbrev pub stretch_text : Stretch → List ℕ
stretch_text s = span s.begin s.end ++ (codes "elements " ++ decimal s.count)
    ++ (codes " from " ++ decimal s.element) ++ codes "\n"

abbrev pub noise_text : Noise → List ℕ
noise_text n = span n.begin n.end ++ (codes "noise " ++ decimal n.count) ++ codes "\n"

-- what happened
abbrev pub what_of : Kind → Happening → List ℕ
what_of Next h =
    if h.missing == 0 then codes "damaged" else codes "missing " ++ decimal h.missing
what_of Step h = codes "step"
what_of Jump h = (codes "jump from " ++ decimal h.element) ++ (codes " to " ++ decimal h.to)

abbrev pub what_text : Happening → List ℕ
what_text h = what_of h.kind h

abbrev pub noise_words : ℕ → List ℕ
noise_words n = if n == 0 then [] else codes ", noise " ++ decimal n

abbrev pub margin_text : Option ℕ → List ℕ
margin_text None = []
margin_text (Some margin) = codes "\tmargin " ++ decimal margin

abbrev pub cost_text : Happening → List ℕ
cost_text h = (codes "\tcost " ++ decimal h.cost) ++ margin_text h.margin ++ codes "\n"

abbrev pub happening_text : Happening → List ℕ
happening_text h = span h.begin h.end ++ what_text h ++ noise_words h.noise ++ cost_text h

abbrev pub plain_part : Part → List ℕ
plain_part (part.Stretch s) = stretch_text s
plain_part (part.Happening h) = happening_text h
plain_part (part.Noise n) = noise_text n

-- a line for each part, as an object of JSON if that is asked for
abbrev pub part_text : Bool → Part → List ℕ
part_text true p = json_part p
part_text false p = plain_part p

abbrev pub texts : Bool → List Part → List ℕ
texts json [] = []
texts json (p ∷ ps) = part_text json p ++ texts json ps
