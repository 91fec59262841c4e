-- Of each record, whether its frame is believed, one after the other.
use Rattle.std.proofs.Common.{◌≡◌, ◌+◌, ◌++◌, ℕ, zero, suc, Bool, true, false, cond, List, [], ◌∷◌, drop, slice_get, Some, arith, refl, sym, ap, ◌∙◌, append_assoc}
use Rattle.irig_index.specs.declared.record.Record.{Record}
use Rattle.irig_law.specs.declared.frame.Frame.{Frame}
use Rattle.irig_timed.specs.Held.{begins_at, held_in}
use Rattle.irig_timed.proofs.Lists.{drop-at}

drop-next : (frames : List Frame) (n : ℕ) → drop 1 (drop n frames) ≡ drop (n + 1) frames
drop-next frames n = go frames n ∙ (let e : suc n ≡ n + 1 = omega arith in ap (λ m. drop m frames) e)
  where
    go : (frames : List Frame) (n : ℕ) → drop 1 (drop n frames) ≡ drop (suc n) frames
    go [] zero = refl
    go [] (suc n) = refl
    go (a ∷ frames) zero = refl
    go (a ∷ frames) (suc n) = go frames n

module _ (frames : List Frame) (rs : List Record) (k : ℕ) (r : Record) (at : slice_get rs k ≡ Some r) (old : List Bool) (next : ℕ) where
  abbrev rest : List Record
  rest = drop (k + 1) rs

  abbrev believed : List Frame
  believed = drop next frames

  -- the list from a record on
  from-here : held_in believed (drop k rs)
      ≡ begins_at believed r.marker ∷ held_in (cond (begins_at believed r.marker) (drop 1 believed) believed) rest
  from-here = ap (held_in believed) (drop-at Record rs k r at)

  by-test : (h : Bool) → begins_at believed r.marker ≡ h → held_in believed (drop k rs) ≡ h ∷ held_in (cond h (drop 1 believed) believed) rest
  by-test h is = from-here ∙ ap (λ b. b ∷ held_in (cond b (drop 1 believed) believed) rest) is

  pub held-next : begins_at believed r.marker ≡ true → (old ++ true ∷ []) ++ held_in (drop (next + 1) frames) rest ≡ old ++ held_in believed (drop k rs)
  held-next is =
      append_assoc old (true ∷ []) (held_in (drop (next + 1) frames) rest)
      ∙ (ap (λ (l : List Frame). old ++ true ∷ held_in l rest) (sym (drop-next frames next)) ∙ sym (ap (λ (l : List Bool). old ++ l) (by-test true is)))

  pub held-same : begins_at believed r.marker ≡ false → (old ++ false ∷ []) ++ held_in believed rest ≡ old ++ held_in believed (drop k rs)
  held-same is = append_assoc old (false ∷ []) (held_in believed rest) ∙ sym (ap (λ (l : List Bool). old ++ l) (by-test false is))
