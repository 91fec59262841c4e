-- Records that are cut out from between others.
use Rattle.std.proofs.Common.{◌≡◌, ℕ, ◌≤◌, List, [], ◌∷◌, ◌++◌, sym, ap, ◌∙◌, arith}
use Rattle.irig_gap.specs.Items.{GapView}
use Rattle.irig_index.specs.Sides.{left_of, right_of, shown, EndsUpTo, BeginsAfter, AllUpTo, AllAfter, Dropped}
use Rattle.irig_index.specs.{declared.record.Record.Record, Cuts.Cut, Cuts.Parts}
use Rattle.irig_index.proofs.MarkerBounds.{AllAfter-append, AllAfter-less, AllUpTo-ends, parted_same}

-- if records up to a number go from records after it, nothing goes
none_cut : (last : ℕ) (left gone right rest : List Record) → left ++ (gone ++ right) ≡ rest → AllUpTo last gone → AllAfter last rest
    → left ++ right ≡ rest
none_cut last [] [] right rest e up after = e
none_cut last [] (g ∷ gone) right [] e up after = cc
none_cut last [] (g ∷ gone) right (r ∷ rest) e up after =
    let same : g ≡ r = cc in
    absurd (omega (arith, ap (λ s. s.marker) same, up.0, after.0))
none_cut last (l ∷ left) gone right [] e up after = cc
none_cut last (l ∷ left) gone right (r ∷ rest) e up after =
    let same : l ≡ r = cc in
    let others : left ++ (gone ++ right) ≡ rest = cc in
    λ i. same i ∷ none_cut last left gone right rest others up after.1 i

-- records in three parts. Some of the middle one have gone
record Thinned (first last : ℕ) (all start rest : List Record) : Type 0 where
  left : List Record
  whole : all ≡ start ++ (left ++ rest)
  after : AllAfter first left
  up_to : AllUpTo last left

thinned : (first last : ℕ) (start left gone right touched rest : List Record)
    → left ++ (gone ++ right) ≡ start ++ (touched ++ rest) → AllAfter first gone → AllUpTo last gone
    → AllUpTo first start → AllAfter first touched → AllUpTo last touched → AllAfter last rest
    → Thinned first last (left ++ right) start rest
thinned first last [] [] [] right touched rest e ga gu su ta tu ra =
    record { left = touched; whole = e; after = ta; up_to = tu }
thinned first last [] [] (g ∷ gone) right [] rest e ga gu su ta tu ra =
    record { left = []; whole = none_cut last [] (g ∷ gone) right rest e gu ra; after = tt; up_to = tt }
thinned first last [] [] (g ∷ gone) right (t ∷ touched) rest e ga gu su ta tu ra =
    let others : gone ++ right ≡ touched ++ rest = cc in
    thinned first last [] [] gone right touched rest others ga.1 gu.1 su ta.1 tu.1 ra
thinned first last [] (l ∷ left) gone right [] rest e ga gu su ta tu ra =
    record { left = []; whole = none_cut last (l ∷ left) gone right rest e gu ra; after = tt; up_to = tt }
thinned first last [] (l ∷ left) gone right (t ∷ touched) rest e ga gu su ta tu ra =
    let same : l ≡ t = cc in
    let others : left ++ (gone ++ right) ≡ touched ++ rest = cc in
    let more = thinned first last [] left gone right touched rest others ga gu su ta.1 tu.1 ra in
    record { left = t ∷ more.left; whole = (λ i. same i ∷ more.whole i); after = (ta.0, more.after); up_to = (tu.0, more.up_to) }
thinned first last (s ∷ start) [] [] right touched rest e ga gu su ta tu ra =
    record { left = touched; whole = e; after = ta; up_to = tu }
thinned first last (s ∷ start) [] (g ∷ gone) right touched rest e ga gu su ta tu ra =
    let same : g ≡ s = cc in
    absurd (omega (arith, ap (λ r. r.marker) same, ga.0, su.0))
thinned first last (s ∷ start) (l ∷ left) gone right touched rest e ga gu su ta tu ra =
    let same : l ≡ s = cc in
    let others : left ++ (gone ++ right) ≡ start ++ (touched ++ rest) = cc in
    let more = thinned first last start left gone right touched rest others ga gu su.1 ta tu ra in
    record { left = more.left; whole = (λ i. same i ∷ more.whole i); after = more.after; up_to = more.up_to }

-- what is left of a gap and right of it, if records are cut out there
pub cut_out : (first last pulses : ℕ) → first ≤ last → (all : List Record) (g0 g1 g2 : GapView Record)
    → Cut first last all (left_of g0) (right_of pulses g0) → shown pulses g1 ≡ shown pulses g0
    → EndsUpTo first (left_of g1) → BeginsAfter first (right_of pulses g1)
    → left_of g2 ≡ left_of g1 → Dropped last (right_of pulses g1) (right_of pulses g2)
    → (start middle rest : List Record) → Parts first last all start middle rest → (left_of g2 ≡ start) × (right_of pulses g2 ≡ rest)
cut_out first last pulses order all g0 g1 g2 cut same ends begins stays dropped start middle rest parts =
    let left = thinned first last start (left_of g0) cut.gone (right_of pulses g0) middle rest (sym cut.whole ∙ parts.whole) cut.after cut.up_to
    parts.early parts.after parts.up_to parts.late in
    let gap = parted_same first start (left.left ++ rest) (left_of g1) (right_of pulses g1) (sym left.whole ∙ sym same) parts.early
    (AllAfter-append first left.left rest left.after (AllAfter-less last first rest order parts.late)) ends begins in
    let behind = parted_same last left.left rest dropped.gone (right_of pulses g2) (gap.1 ∙ dropped.all)
    left.up_to parts.late (AllUpTo-ends last dropped.gone dropped.up_to) dropped.rest in
    (stays ∙ sym gap.0, sym behind.1)
