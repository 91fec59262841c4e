-- The parts of an explanation's listing. This project's own.
use Rattle.std.specs.Prelude.{ℕ, ◌+◌, ◌-◌, ◌==◌, ◌++◌, Bool, true, false, List, [], ◌∷◌, length}
use Rattle.std.specs.Prelude.{slice_get, if◌then◌else◌}
use Rattle.irig_explaining.specs.declared.{claim.Claim.Claim, prices.Prices.Prices}
use Rattle.irig_explaining.specs.Distances.{rise_at}
use Rattle.irig_happenings.specs.Happenings.{happening, is_plain}
use Rattle.irig_happenings.specs.declared.part.Part.{Part}
use Rattle.irig_happenings.specs.declared.part.Part.TheVariants as part
use Rattle.irig_happenings.specs.declared.{run.Run.Run, stretch.Stretch.Stretch}

-- some rises from one to another that are no element, if there are any
abbrev pub noise : Prices → ℕ → ℕ → ℕ → List Part
noise p from to count =
    if count == 0 then []
    else part.Noise (record { begin = rise_at p from; end = rise_at p to; count = count }) ∷ []

-- the elements in step that are not listed yet: one, after something happened that often
abbrev pub begun : Claim → ℕ → Run
begun c happened = record { first = c; last = c; count = 1; happened = happened }

abbrev pub start : Claim → Run
start c = begun c 0

-- and one more
abbrev pub longer : Run → Claim → Run
longer run d =
    record { first = run.first; last = d; count = run.count + 1; happened = run.happened }

-- a stretch of them
abbrev pub stretch : Prices → Run → Stretch
stretch p run = record {
  begin = rise_at p run.first.rise;
  end = rise_at p run.last.rise;
  count = run.count;
  element = run.first.element;
}

-- a stretch for elements in step, then what happened, and so on; the margins are those of what
-- happened, in order
abbrev pub rest_of : Prices → List ℕ → Run → List Claim → List Part
rest_of p margins run [] =
    part.Stretch (stretch p run)
    ∷ noise p run.last.rise (length p.pulses.now - 1) (length p.pulses.now - run.last.rise - 1)
rest_of p margins run (d ∷ ds) =
    if is_plain p run.last d then rest_of p margins (longer run d) ds
    else part.Stretch (stretch p run)
    ∷ part.Happening (happening p run.last d (slice_get margins run.happened))
    ∷ rest_of p margins (begun d (run.happened + 1)) ds

-- the parts of an explanation
abbrev pub parts_of : Prices → List ℕ → List Claim → List Part
parts_of p margins [] = noise p 0 (length p.pulses.now - 1) (length p.pulses.now)
parts_of p margins (c ∷ cs) = noise p 0 c.rise c.rise ++ rest_of p margins (start c) cs

-- nothing happened: all is one stretch, or there is nothing
abbrev pub is_quiet : List Part → Bool
is_quiet [] = true
is_quiet (part.Stretch stretch ∷ []) = true
is_quiet _ = false
