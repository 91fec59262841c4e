-- An edit leaves the markers before it, and the verdicts on their frames but the last.
use Rattle.std.proofs.Common.{◌≡◌, ℕ, suc, zero, ◌+◌, ◌-◌, ◌<◌, ◌≤◌, ◌&&◌, true, cond, List, [], ◌∷◌, ◌++◌, length, get_or, Some, slice_get, refl, sym, ap}
use Rattle.std.proofs.Common.{subst, ◌∙◌, inl, inr, arith}
use Rattle.std.proofs.lemmas.{Bool.and_parts, Bool.cases_Bool, List.append-nil, Option.slice_get-get_or}
use Rattle.irig_codes.specs.Format.{FormatView}
use Rattle.irig_recording.specs.declared.pulse.Pulse.{Pulse}
use Rattle.irig_index.specs.{declared.record.Record.Record, Frames.record_after, Frames.records_in, Marker.class_at, Marker.follows, Marker.is_marker}
use Rattle.irig_index.specs.{Marker.is_position, Stale.MayBeStale, Stale.LastMayBeStale, Stale.retold, Stale.last_retold}
use Rattle.irig_index.proofs.FrameLemmas.{frames-suc, position_class, record_after-pulses, records_in-none}
use Rattle.irig_index.proofs.{PlaceLemmas.found_record, SettledVerdicts.slice_get-front, SettledVerdicts.verdict-before, SettledVerdicts.verdict-within}

-- the last record
module _ (f : FormatView) (ps : List Pulse) where
  pub last_retold-push : (rs : List Record) (r : Record) → last_retold f ps (rs ++ r ∷ []) ≡ rs ++ retold f ps r ∷ []
  last_retold-push [] r = refl
  last_retold-push (s ∷ []) r = refl
  last_retold-push (s ∷ t ∷ rs) r = ap (λ us. s ∷ us) (last_retold-push (t ∷ rs) r)

  LastMayBeStale-push : (settled : ℕ) (rs : List Record) (r : Record) → MayBeStale f ps settled r → LastMayBeStale f ps settled (rs ++ r ∷ [])
  LastMayBeStale-push settled [] r h = h
  LastMayBeStale-push settled (s ∷ []) r h = h
  LastMayBeStale-push settled (s ∷ t ∷ rs) r h = LastMayBeStale-push settled (t ∷ rs) r h

  pub LastMayBeStale-there : (settled : ℕ) (rs : List Record) (r : Record) → LastMayBeStale f ps settled (rs ++ r ∷ []) → MayBeStale f ps settled r
  LastMayBeStale-there settled [] r h = h
  LastMayBeStale-there settled (s ∷ []) r h = h
  LastMayBeStale-there settled (s ∷ t ∷ rs) r h = LastMayBeStale-there settled (t ∷ rs) r h

-- a track that begins with these pulses
abbrev pulse_at : List Pulse → ℕ → Pulse
pulse_at a n = get_or a n (record { rise = 0; fall = 0 })

stands_at : (a z : List Pulse) (n : ℕ) → n < length a → slice_get (a ++ z) n ≡ Some (pulse_at a n)
stands_at a z n lt = slice_get-front a z n lt ∙ slice_get-get_or a n (record { rise = 0; fall = 0 }) lt

module _ (f : FormatView) (a : List Pulse) where
  by_pulses : (z : List Pulse) (n : ℕ) → n + 1 < length a
      → record_after f (a ++ z) n ≡ cond (is_marker f (pulse_at a n) (pulse_at a (n + 1))) (found_record f (a ++ z) n ∷ []) []
  by_pulses z n within =
      record_after-pulses f (a ++ z) n (pulse_at a n) (pulse_at a (n + 1)) (stands_at a z n (omega arith)) (stands_at a z (n + 1) within)

  -- of two pulses that make a marker, each is a position identifier
  positions : (n : ℕ) → is_marker f (pulse_at a n) (pulse_at a (n + 1)) ≡ true
      → (is_position (class_at f (pulse_at a n)) ≡ true) × (is_position (class_at f (pulse_at a (n + 1))) ≡ true)
  positions n marks =
      let p = pulse_at a n in
      let q = pulse_at a (n + 1) in
      let parts = and_parts (is_position (class_at f p)) (is_position (class_at f q) && follows f p q) marks in
      (parts.0, (and_parts (is_position (class_at f q)) (follows f p q) parts.1).0)

  module _ (x y : List Pulse) (n : ℕ) (within : n + 1 < length a) (marks : is_marker f (pulse_at a n) (pulse_at a (n + 1)) ≡ true) where
    -- before a marker each record stays
    record_stays : (k : ℕ) → k < n → record_after f (a ++ x) k ≡ record_after f (a ++ y) k
    record_stays k lt =
        let p = pulse_at a k in
        let q = pulse_at a (k + 1) in
        let both = positions n marks in
        let place : k + 1 + (n - k) - 1 ≡ n = omega arith in
        let next : k + 1 + (n - k) ≡ n + 1 = omega arith in
        let verdict = verdict-before f a x y (k + 1) (n - k) (pulse_at a n) (pulse_at a (n + 1)) (omega arith) (omega (arith, within))
        (ap (slice_get (a ++ x)) place ∙ stands_at a x n (omega (arith, within))) (ap (slice_get (a ++ x)) next ∙ stands_at a x (n + 1) within) both.0 both.1 in
        by_pulses x k (omega (arith, within))
        ∙ (ap (λ v. cond (is_marker f p q) ((record { marker = k + 1; verdict = v }) ∷ []) []) verdict
        ∙ sym (by_pulses y k (omega (arith, within))))

    records_stay : (m : ℕ) → m ≤ n → records_in f (a ++ x) 0 m ≡ records_in f (a ++ y) 0 m
    records_stay zero le = records_in-none f (a ++ x) 0 ∙ sym (records_in-none f (a ++ y) 0)
    records_stay (suc m) le =
        frames-suc f (a ++ x) m
        ∙ ((λ i. records_stay m (omega arith) i ++ record_stays m (omega arith) i)
        ∙ sym (frames-suc f (a ++ y) m))

    may_be_stale : MayBeStale f (a ++ y) (length a - 100) (found_record f (a ++ x) n)
    may_be_stale = record {
      first = pulse_at a (n + 1);
      stands = stands_at a y (n + 1) within;
      position = position_class (class_at f (pulse_at a (n + 1))) (positions n marks).1;
      told = λ le. verdict-within f a x y (n + 1) (omega (arith, le));
    }

  -- the records of the markers before an edit, read again
  pub start_retold : (x y : List Pulse) (n : ℕ) → n ≤ length a - 1
      → (last_retold f (a ++ y) (records_in f (a ++ x) 0 n) ≡ records_in f (a ++ y) 0 n)
      × LastMayBeStale f (a ++ y) (length a - 100) (records_in f (a ++ x) 0 n)
  start_retold x y zero le = (
    ap (last_retold f (a ++ y)) (records_in-none f (a ++ x) 0) ∙ sym (records_in-none f (a ++ y) 0),
    subst (LastMayBeStale f (a ++ y) (length a - 100)) (sym (records_in-none f (a ++ x) 0)) tt,
  )
  start_retold x y (suc n) le = elim (cases_Bool (is_marker f (pulse_at a n) (pulse_at a (n + 1)))) [
    | inl marks ↦
        let within : n + 1 < length a = omega (arith, le) in
        let found = found_record f (a ++ x) n in
        let one : (z : List Pulse) → records_in f (a ++ z) 0 (suc n) ≡ records_in f (a ++ z) 0 n ++ found_record f (a ++ z) n ∷ [] =
        λ z. frames-suc f (a ++ z) n
        ∙ ap (λ rs. records_in f (a ++ z) 0 n ++ rs) (by_pulses z n within ∙ ap (λ b. cond b (found_record f (a ++ z) n ∷ []) []) marks) in (
          ap (last_retold f (a ++ y)) (one x)
              ∙ (last_retold-push f (a ++ y) (records_in f (a ++ x) 0 n) found
              ∙ (ap (λ rs. rs ++ found_record f (a ++ y) n ∷ []) (records_stay x y n within marks n (omega arith)) ∙ sym (one y))),
          subst (LastMayBeStale f (a ++ y) (length a - 100)) (sym (one x))
              (LastMayBeStale-push f (a ++ y) (length a - 100) (records_in f (a ++ x) 0 n) found (may_be_stale x y n within marks)),
        )
    | inr not ↦
        let within : n + 1 < length a = omega (arith, le) in
        let earlier = start_retold x y n (omega arith) in
        let none : (z : List Pulse) → records_in f (a ++ z) 0 (suc n) ≡ records_in f (a ++ z) 0 n =
        λ z. frames-suc f (a ++ z) n
        ∙ (ap (λ rs. records_in f (a ++ z) 0 n ++ rs) (by_pulses z n within ∙ ap (λ b. cond b (found_record f (a ++ z) n ∷ []) []) not)
        ∙ append-nil (records_in f (a ++ z) 0 n)) in (
          ap (last_retold f (a ++ y)) (none x) ∙ (earlier.0 ∙ sym (none y)),
          subst (LastMayBeStale f (a ++ y) (length a - 100)) (sym (none x)) earlier.1,
        )
  ]
