-- A table that grows by a row.
use Rattle.std.proofs.Common.{◌≡◌, ◌++◌, ◌+◌, ◌∷◌, ℕ, suc, Bool, List, Option, Some, drop, slice_get, refl, sym, ap, ◌∙◌, subst, append_assoc, add-one}
use Rattle.std.specs.Prelude.{is_some, unwrap_or}
use Rattle.irig_index.specs.Frames.{frames}
use Rattle.irig_codes.specs.Format.{FormatView}
use Rattle.irig_index.specs.declared.record.Record.{Record}
use Rattle.irig_recording.specs.declared.pulse.Pulse.{Pulse}
use Rattle.irig_times.specs.{Starts.IsStartOf, declared.start.FrameStart.FrameStart}
use Rattle.irig_stamps.specs.{Aligned.standing, Aligned.standing_of, Dates.doubted, Dates.first_day, Tables.IsTable, Tables.row_of, declared.settings.Settings.Settings}
use Rattle.irig_stamps.specs.TrackSettings.{day_of, held_of, with_first_day}
use Rattle.irig_stamps.proofs.DateSteps.{from-place}

module _ (f : FormatView) (ps : List Pulse) (s : Settings) (rs : List Record) where
  -- the text makes a table with that of the records from a place on
  abbrev pub Makes : ℕ → List ℕ → Type 0
  Makes k text = (rest : List ℕ) → IsTable f ps s k (drop k rs) rest → IsTable f ps s 0 rs (text ++ rest)

  pub row-more : (k : ℕ) (r : Record) (text new : List ℕ) (start : Option FrameStart) → slice_get rs k ≡ Some r → IsStartOf f s.century ps r start
      → new ≡ text ++ row_of s (slice_get (held_of f ps s) k) start → Makes k text → Makes (k + 1) new
  row-more k r text new start here is grows goes rest h =
      let row = row_of s (slice_get (held_of f ps s) k) start in
      let one : IsTable f ps s k (r ∷ drop (suc k) rs) (row ++ rest) =
      (start, rest, is, (subst (λ n. IsTable f ps s n (drop n rs) rest) (add-one k) h, refl)) in
      let there = subst (λ (l : List Record). IsTable f ps s k l (row ++ rest)) (sym (from-place rs k r here)) one in
      subst (IsTable f ps s 0 rs) (sym (append_assoc text row rest) ∙ sym (ap (λ t. t ++ rest) grows)) (goes (row ++ rest) there)

-- by what is known of the track on the way
module _ (f : FormatView) (ps : List Pulse) (s : Settings) (held : List Bool) (day : Option ℕ) (same : held ≡ held_of f ps s)
    (days : day ≡ first_day f held 0 (frames f ps)) where
  days-of : day ≡ day_of f ps s
  days-of = days ∙ ap (λ (h : List Bool). first_day f h 0 (frames f ps)) same

  pub listed : (qs : List Pulse) (rs : List Record) (first : ℕ) (text : List ℕ) → qs ≡ ps → rs ≡ frames f ps → first ≡ unwrap_or day 0
      → IsTable f qs (record s { first_day = first }) 0 rs text → IsTable f ps (with_first_day f ps s) 0 (frames f ps) text
  listed qs rs first text q r e h =
      let first-day : first ≡ unwrap_or (day_of f ps s) 0 = e ∙ ap (λ (o : Option ℕ). unwrap_or o 0) days-of in
      subst (λ (n : ℕ). IsTable f ps (record s { first_day = n }) 0 (frames f ps) text) first-day
      (subst (λ (l : List Record). IsTable f ps (record s { first_day = first }) 0 l text) r
      (subst (λ (l : List Pulse). IsTable f l (record s { first_day = first }) 0 rs text) q h))

  pub standing-of : (timed : Bool) (count : ℕ) → timed ≡ is_some day → count ≡ doubted f held 0 (frames f ps)
      → standing timed count ≡ standing_of f ps (with_first_day f ps s)
  standing-of timed count e h =
      let one : timed ≡ is_some (day_of f ps s) = e ∙ ap (λ (o : Option ℕ). is_some o) days-of in
      let other : count ≡ doubted f (held_of f ps s) 0 (frames f ps) = h ∙ ap (λ (l : List Bool). doubted f l 0 (frames f ps)) same in
      λ i. standing (one i) (other i)
