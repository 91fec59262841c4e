-- The parts of a listing as objects of JSON. This project's own.
use Rattle.std.specs.Prelude.{ℕ, ◌==◌, ◌++◌, List, [], Option, Some, None, codes, decimal}
use Rattle.std.specs.Prelude.{if◌then◌else◌}
use Rattle.irig_explaining.specs.declared.claim.Kind.{Kind}
use Rattle.irig_explaining.specs.declared.claim.Kind.TheVariants.{Next, Step, Jump}
use Rattle.irig_happenings.specs.declared.happening.Happening.{Happening}
use Rattle.irig_happenings.specs.declared.{noise.Noise.Noise, stretch.Stretch.Stretch}
use Rattle.irig_happenings.specs.declared.part.Part.{Part}
use Rattle.irig_happenings.specs.declared.part.Part.TheVariants as part

abbrev pub json_span : ℕ → ℕ → List ℕ
json_span begin end =
    (codes "{\"begin\":" ++ decimal begin) ++ (codes ",\"end\":" ++ decimal end)

-- what it is, with how many there are
abbrev pub json_elements : ℕ → List ℕ
json_elements n = codes ",\"what\":\"elements\",\"count\":" ++ decimal n

abbrev pub json_rises : ℕ → List ℕ
json_rises n = codes ",\"what\":\"noise\",\"noise\":" ++ decimal n

-- both elements
abbrev pub json_element : ℕ → List ℕ
json_element e = codes ",\"element\":" ++ decimal e

abbrev pub json_to : ℕ → List ℕ
json_to e = codes ",\"to\":" ++ decimal e

-- what is between them
abbrev pub json_missing : ℕ → List ℕ
json_missing n = codes ",\"missing\":" ++ decimal n

abbrev pub json_passed : ℕ → List ℕ
json_passed n = codes ",\"noise\":" ++ decimal n

abbrev pub json_stretch : Stretch → List ℕ
json_stretch s =
    json_span s.begin s.end ++ json_elements s.count ++ json_element s.element ++ codes "}\n"

abbrev pub json_noise : Noise → List ℕ
json_noise n = json_span n.begin n.end ++ json_rises n.count ++ codes "}\n"

-- what happened
abbrev pub what_word : Kind → ℕ → List ℕ
what_word Next missing =
    if missing == 0 then codes ",\"what\":\"damaged\"" else codes ",\"what\":\"missing\""
what_word Step missing = codes ",\"what\":\"step\""
what_word Jump missing = codes ",\"what\":\"jump\""

abbrev pub json_counts : Happening → List ℕ
json_counts h =
    json_element h.element ++ json_to h.to ++ json_missing h.missing ++ json_passed h.noise

abbrev pub json_margin : Option ℕ → List ℕ
json_margin None = []
json_margin (Some margin) = codes ",\"margin\":" ++ decimal margin

abbrev pub json_cost : Happening → List ℕ
json_cost h = (codes ",\"cost\":" ++ decimal h.cost) ++ json_margin h.margin ++ codes "}\n"

abbrev pub json_happening : Happening → List ℕ
json_happening h =
    json_span h.begin h.end ++ what_word h.kind h.missing ++ json_counts h ++ json_cost h

abbrev pub json_part : Part → List ℕ
json_part (part.Stretch s) = json_stretch s
json_part (part.Happening h) = json_happening h
json_part (part.Noise n) = json_noise n
