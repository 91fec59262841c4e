-- When a recorder's time is in a track. Each greatest number stands for all that are further from zero.
use Rattle.std.proofs.Common.{◌≡◌, ◌+◌, ◌-◌, ◌*◌, ◌^◌, ◌<◌, ◌≤◌, ◌&&◌, ℕ, Bool, true, false, Option, Some, None, min, sym, ap, ◌∙◌, subst, arith}
use Rattle.std.proofs.Math.Bool.{and-false}
use Rattle.std.proofs.lemmas.{Bool.and_from, Bool.le-leb, Bool.le-ltb, Bool.lt-leb, Bool.lt-ltb}
use Rattle.std.specs.Prelude.{nat_le, nat_lt, if◌then◌else◌}
use Rattle.irig_stamps.specs.{Numbers.capped, Looks.moment_at, Stamps.added, Stamps.taken}
use Rattle.irig_stamps.specs.{declared.picos.Picos.Picos, declared.settings.Settings.Settings}

in-track : (early negative : Bool) (size offset add take limit : ℕ) → offset ≤ 2 ^ 119
    → add ≡ min ((if negative then 0 else min size (2 ^ 120)) + (if early then offset else 0)) (2 ^ 128 - 1)
    → take ≡ min ((if negative then min size (2 ^ 120) else 0) + (if early then 0 else offset)) (2 ^ 128 - 1)
    → limit ≤ 2 ^ 100 → take ≤ add → add - take < limit
    → (add ≡ (if negative then 0 else size) + (if early then offset else 0))
    × (take ≡ (if negative then size else 0) + (if early then 0 else offset))
in-track true true size offset add take limit small a t few le near = (omega (arith, small, a, t, few, le, near), omega (arith, small, a, t, few, le, near))
in-track true false size offset add take limit small a t few le near = (omega (arith, small, a, t, few, le, near), omega (arith, small, a, t, few, le, near))
in-track false true size offset add take limit small a t few le near = (omega (arith, small, a, t, few, le, near), omega (arith, small, a, t, few, le, near))
in-track false false size offset add take limit small a t few le near = (omega (arith, small, a, t, few, le, near), omega (arith, small, a, t, few, le, near))

after-it : (early negative : Bool) (size offset add take limit : ℕ) → offset ≤ 2 ^ 119
    → add ≡ min ((if negative then 0 else min size (2 ^ 120)) + (if early then offset else 0)) (2 ^ 128 - 1)
    → take ≡ min ((if negative then min size (2 ^ 120) else 0) + (if early then 0 else offset)) (2 ^ 128 - 1)
    → limit ≤ 2 ^ 100 → take ≤ add → limit ≤ add - take
    → limit ≤ ((if negative then 0 else size) + (if early then offset else 0)) - ((if negative then size else 0) + (if early then 0 else offset))
after-it true true size offset add take limit small a t few le far = omega (arith, small, a, t, few, le, far)
after-it true false size offset add take limit small a t few le far = omega (arith, small, a, t, few, le, far)
after-it false true size offset add take limit small a t few le far = omega (arith, small, a, t, few, le, far)
after-it false false size offset add take limit small a t few le far = omega (arith, small, a, t, few, le, far)

before-it : (early negative : Bool) (size offset add take : ℕ) → offset ≤ 2 ^ 119
    → add ≡ min ((if negative then 0 else min size (2 ^ 120)) + (if early then offset else 0)) (2 ^ 128 - 1)
    → take ≡ min ((if negative then min size (2 ^ 120) else 0) + (if early then 0 else offset)) (2 ^ 128 - 1)
    → add < take → (if negative then 0 else size) + (if early then offset else 0) < (if negative then size else 0) + (if early then 0 else offset)
before-it true true size offset add take small a t lt = omega (arith, small, a, t, lt)
before-it true false size offset add take small a t lt = omega (arith, small, a, t, lt)
before-it false true size offset add take small a t lt = omega (arith, small, a, t, lt)
before-it false false size offset add take small a t lt = omega (arith, small, a, t, lt)

module _ (s : Settings) (picos v : Picos) (add take : ℕ) (is : picos ≡ capped v) (small : s.offset ≤ 2 ^ 119)
    (a : add ≡ min (added s picos) (2 ^ 128 - 1)) (t : take ≡ min (taken s picos) (2 ^ 128 - 1)) where
  adds : add ≡ min (added s (capped v)) (2 ^ 128 - 1)
  adds = subst (λ (p : Picos). add ≡ min (added s p) (2 ^ 128 - 1)) is a

  takes : take ≡ min (taken s (capped v)) (2 ^ 128 - 1)
  takes = subst (λ (p : Picos). take ≡ min (taken s p) (2 ^ 128 - 1)) is t

  abbrev chosen : Bool → Option ℕ
  chosen b = if b then Some (added s v - taken s v) else None

  pub moment-in : 1000000 * s.micros ≤ 2 ^ 100 → take ≤ add → add - take < 1000000 * s.micros → Some (add - take) ≡ moment_at s v
  moment-in few le near =
      let same = in-track s.early v.negative v.size s.offset add take (1000000 * s.micros) small adds takes few le near in
      let since : add - take ≡ added s v - taken s v = omega (arith, same.0, same.1) in
      let order : taken s v ≤ added s v = omega (arith, same.0, same.1, le) in
      let within : added s v - taken s v < 1000000 * s.micros = omega (arith, since, near) in
      ap (λ n. Some n) since ∙ sym (ap chosen (and_from _ _ (le-leb (taken s v) (added s v) order)
      (lt-ltb (added s v - taken s v) (1000000 * s.micros) within)))

  pub moment-after : 1000000 * s.micros ≤ 2 ^ 100 → take ≤ add → 1000000 * s.micros ≤ add - take → None ≡ moment_at s v
  moment-after few le far =
      let late = after-it s.early v.negative v.size s.offset add take (1000000 * s.micros) small adds takes few le far in
      sym (ap (λ (b : Bool). chosen (nat_le (taken s v) (added s v) && b)) (le-ltb (added s v - taken s v) (1000000 * s.micros) late)
      ∙ ap chosen (and-false (nat_le (taken s v) (added s v))))

  pub moment-before : add < take → None ≡ moment_at s v
  moment-before lt =
      let early = before-it s.early v.negative v.size s.offset add take small adds takes lt in
      sym (ap (λ (b : Bool). chosen (b && nat_lt (added s v - taken s v) (1000000 * s.micros))) (lt-leb (taken s v) (added s v) early))
