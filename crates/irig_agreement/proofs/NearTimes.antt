-- Times that are near each other are near by more, too.
use Rattle.std.proofs.Common.{◌≡◌, inl, inr, ◌≤◌, ◌&&◌, ◌||◌, ℕ, true, arith}
use Rattle.std.specs.Prelude.{nat_le, nat_lt}
use Rattle.std.proofs.lemmas.Bool.{and_parts, le-leb, leb-true}
use Rattle.irig_times.specs.{Follows.same_time, declared.time.Time.Time}
use Rattle.irig_law.specs.Calendar.{micros_after}
use Rattle.irig_agreement.specs.Agreement.{is_later_by, is_within}
use Rattle.irig_agreement.proofs.DoubtLists.{and-both, either, or-left, or-right}

module _ (century a b : ℕ) (more : a ≤ b) where
  later-more : (t u : Time) → is_later_by century a t u ≡ true → is_later_by century b t u ≡ true
  later-more t u e =
      let m = micros_after century t u in
      let parts = and_parts (nat_lt 0 m) (nat_le m a) e in
      let few = leb-true m a parts.1 in
      and-both (nat_lt 0 m) (nat_le m b) parts.0 (le-leb m b (omega (arith, few, more)))

  pub within-more : (t u : Time) → is_within century a t u ≡ true → is_within century b t u ≡ true
  within-more t u e = elim (either (same_time t u) (is_later_by century a t u || is_later_by century a u t) e) [
    | inl same ↦ or-left (same_time t u) (is_later_by century b t u || is_later_by century b u t) same
    | inr near ↦ or-right (same_time t u) (is_later_by century b t u || is_later_by century b u t)
        (elim (either (is_later_by century a t u) (is_later_by century a u t) near) [
          | inl on ↦ or-left (is_later_by century b t u) (is_later_by century b u t) (later-more t u on)
          | inr back ↦ or-right (is_later_by century b t u) (is_later_by century b u t) (later-more u t back)
        ])
  ]
