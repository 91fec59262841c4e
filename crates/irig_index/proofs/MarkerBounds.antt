-- Records of markers up to a number, and of later ones.
use Rattle.std.proofs.Common.{◌≡◌, ℕ, suc, zero, ◌+◌, ◌<◌, ◌≤◌, Bool, true, false, cond, List, [], ◌∷◌, ◌++◌, length, take, drop, map, refl, ap, arith}
use Rattle.std.proofs.Common.{length-append}
use Rattle.irig_codes.specs.Format.{FormatView}
use Rattle.irig_recording.specs.declared.pulse.Pulse.{Pulse}
use Rattle.irig_index.specs.{declared.record.Record.Record, Frames.record_after, Frames.record_of, Frames.records_in, Laws.moved, Marker.is_marker}
use Rattle.irig_index.specs.{Sides.EndsUpTo, Sides.BeginsAfter, Sides.AllUpTo, Sides.AllAfter, Verdict.verdict_of}

-- bounds on the markers of a list
pub AllUpTo-append : (last : ℕ) (rs ss : List Record) → AllUpTo last rs → AllUpTo last ss → AllUpTo last (rs ++ ss)
AllUpTo-append last [] ss h i = i
AllUpTo-append last (r ∷ rs) ss h i = (h.0, AllUpTo-append last rs ss h.1 i)

pub AllUpTo-more : (last more : ℕ) (rs : List Record) → last ≤ more → AllUpTo last rs → AllUpTo more rs
AllUpTo-more last more [] le h = tt
AllUpTo-more last more (r ∷ rs) le h = (omega (arith, h.0), AllUpTo-more last more rs le h.1)

pub AllAfter-append : (last : ℕ) (rs ss : List Record) → AllAfter last rs → AllAfter last ss → AllAfter last (rs ++ ss)
AllAfter-append last [] ss h i = i
AllAfter-append last (r ∷ rs) ss h i = (h.0, AllAfter-append last rs ss h.1 i)

pub AllAfter-less : (last less : ℕ) (rs : List Record) → less ≤ last → AllAfter last rs → AllAfter less rs
AllAfter-less last less [] le h = tt
AllAfter-less last less (r ∷ rs) le h = (omega (arith, h.0), AllAfter-less last less rs le h.1)

pub AllAfter-moved : (d : ℕ) (rs : List Record) → AllAfter 0 rs → AllAfter d (map (moved d) rs)
AllAfter-moved d [] h = tt
AllAfter-moved d (r ∷ rs) h = (omega (arith, h.0), AllAfter-moved d rs h.1)

pub AllUpTo-ends : (last : ℕ) (rs : List Record) → AllUpTo last rs → EndsUpTo last rs
AllUpTo-ends last [] h = tt
AllUpTo-ends last (r ∷ []) h = h.0
AllUpTo-ends last (r ∷ s ∷ rs) h = AllUpTo-ends last (s ∷ rs) h.1

EndsUpTo-rest : (last : ℕ) (r : Record) (rs : List Record) → EndsUpTo last (r ∷ rs) → EndsUpTo last rs
EndsUpTo-rest last r [] h = tt
EndsUpTo-rest last r (s ∷ rs) h = h

-- records of later markers do not end up to this one
none_after : (last : ℕ) (rs ss bs : List Record) (r : Record) → bs ≡ (r ∷ rs) ++ ss → AllAfter last bs → EndsUpTo last (r ∷ rs) → ⊥
none_after last rs ss [] r e h ends = cc
none_after last [] ss (b ∷ bs) r e h ends =
    let same : b ≡ r = cc in
    let number : b.marker ≡ r.marker = ap (λ s. s.marker) same in
    omega (arith, h.0, ends)
none_after last (s ∷ rs) ss (b ∷ bs) r e h ends =
    let rest : bs ≡ (s ∷ rs) ++ ss = cc in
    none_after last rs ss bs s rest h.1 ends

-- a list of records is parted at a marker in one way
pub parted_same : (last : ℕ) (us bs cs ds : List Record) → us ++ bs ≡ cs ++ ds → AllUpTo last us → AllAfter last bs
    → EndsUpTo last cs → BeginsAfter last ds → (us ≡ cs) × (bs ≡ ds)
parted_same last [] bs [] ds e up after ends begins = (refl, e)
parted_same last [] bs (c ∷ cs) ds e up after ends begins = absurd (none_after last cs ds bs c e after ends)
parted_same last (u ∷ us) bs [] [] e up after ends begins = cc
parted_same last (u ∷ us) bs [] (d ∷ ds) e up after ends begins =
    let same : u ≡ d = cc in
    let number : u.marker ≡ d.marker = ap (λ s. s.marker) same in
    absurd (omega (arith, up.0, begins))
parted_same last (u ∷ us) bs (c ∷ cs) ds e up after ends begins =
    let rest : us ++ bs ≡ cs ++ ds = cc in
    let first : u ≡ c = cc in
    let both = parted_same last us bs cs ds rest up.1 after (EndsUpTo-rest last c cs ends) begins in
    (λ i. first i ∷ both.0 i, both.1)

-- the markers of a window
module _ (f : FormatView) where
  of_cond : (b : Bool) (r : Record) (last less : ℕ) → r.marker ≤ last → less < r.marker
      → AllUpTo last (cond b (r ∷ []) []) × AllAfter less (cond b (r ∷ []) [])
  of_cond true r last less le lt = ((le, tt), (lt, tt))
  of_cond false r last less le lt = (tt, tt)

  record_of-within : (number : ℕ) (w : List Pulse) → AllUpTo (number + 1) (record_of f (number + 1) w) × AllAfter number (record_of f (number + 1) w)
  record_of-within number [] = (tt, tt)
  record_of-within number (p ∷ []) = (tt, tt)
  record_of-within number (p ∷ q ∷ w) =
      of_cond (is_marker f p q) (record { marker = number + 1; verdict = verdict_of f (q ∷ w) }) (number + 1) number (omega arith) (omega arith)

  pub records_in-up_to : (ps : List Pulse) (i n : ℕ) → AllUpTo (i + n) (records_in f ps i n)
  unfolding records_in
  records_in-up_to ps i zero = tt
  records_in-up_to ps i (suc n) =
      AllUpTo-append (i + suc n) (records_in f ps i n) (record_after f ps (i + n))
      (AllUpTo-more (i + n) (i + suc n) (records_in f ps i n) (omega arith) (records_in-up_to ps i n))
      (AllUpTo-more (i + n + 1) (i + suc n) (record_after f ps (i + n)) (omega arith) (record_of-within (i + n) (take 101 (drop (i + n) ps))).0)

  pub records_in-after : (ps : List Pulse) (i n : ℕ) → AllAfter i (records_in f ps i n)
  unfolding records_in
  records_in-after ps i zero = tt
  records_in-after ps i (suc n) =
      AllAfter-append i (records_in f ps i n) (record_after f ps (i + n)) (records_in-after ps i n)
      (AllAfter-less (i + n) i (record_after f ps (i + n)) (omega arith) (record_of-within (i + n) (take 101 (drop (i + n) ps))).1)

  length-cond : (b : Bool) (r : Record) → length (cond b (r ∷ []) []) ≤ 1
  length-cond true r = omega arith
  length-cond false r = omega arith

  length-record_of : (number : ℕ) (w : List Pulse) → length (record_of f number w) ≤ 1
  length-record_of number [] = omega arith
  length-record_of number (p ∷ []) = omega arith
  length-record_of number (p ∷ q ∷ w) = length-cond (is_marker f p q) (record { marker = number; verdict = verdict_of f (q ∷ w) })

  -- a place has one record at most
  pub length-records_in : (ps : List Pulse) (i n : ℕ) → length (records_in f ps i n) ≤ n
  unfolding records_in
  length-records_in ps i zero = omega arith
  length-records_in ps i (suc n) =
      omega (
        arith,
        length-append (records_in f ps i n) (record_after f ps (i + n)),
        length-records_in ps i n,
        length-record_of (i + n + 1) (take 101 (drop (i + n) ps)),
      )
