-- How the logic stores what a witness saw. This project's own.
use Rattle.std.specs.Prelude.{ℕ, List, Option, refl}
use Rattle.std.specs.Coded.{Coded, code_by, coded×, coded_ℕ, coded_list, coded_option}
use Rattle.irig_script.specs.Print.Screen.{Sight, sight}

-- what was printed, and the texts written
abbrev Parts : Type 0
Parts = Option (List ℕ) × Option (List (List ℕ))

-- that pair
abbrev coded_parts : Coded Parts
coded_parts =
    coded× (coded_option (coded_list coded_ℕ)) (coded_option (coded_list (coded_list coded_ℕ)))

-- sights, as a list of such pairs
abbrev pub sights_code : Coded (List Sight)
sights_code = coded_list
    (code_by Parts coded_parts (λ s. (s.out, s.texts)) (λ p. sight p.0 p.1) (λ _. refl))
