-- Looks add up, and a search by halving makes few.
use Rattle.std.proofs.Common.{◌≡◌, ℕ, suc, zero, ◌+◌, ◌*◌, ◌^◌, ◌<◌, ◌≤◌, ap, ap₂, ◌∙◌, arith}
use Rattle.std.proofs.Math.Nat.{pow-suc}
use Rattle.irig_track.specs.Looks.{LensView, after_looks, counted, lens_view}

pub after_looks-after_looks : (n j k : ℕ) → after_looks (after_looks n j) k ≡ after_looks n (j + k)
after_looks-after_looks n j zero = let same : j ≡ j + 0 = omega arith in ap (after_looks n) same
after_looks-after_looks n zero (suc k) = let same : suc k ≡ 0 + suc k = omega arith in ap (after_looks n) same
after_looks-after_looks n (suc j) (suc k) =
    let sum : suc (j + suc k) ≡ suc j + suc k = omega arith in
    let both : counted (counted n (j + 1)) (k + 1) ≡ counted n (j + suc k + 1) = omega arith in
    both ∙ ap (after_looks n) sum

-- one more look, of looks that the lens alone counts
pub lens_next : (old lens new : LensView) (made : ℕ) → lens ≡ lens_view old.track (after_looks old.looks made)
    → new ≡ lens_view lens.track (counted lens.looks 1) → new ≡ lens_view old.track (after_looks old.looks (made + 1))
lens_next old lens new made so_far look =
    look ∙ ap₂ lens_view (ap (λ v. v.track) so_far) (ap (λ v. counted v.looks 1) so_far ∙ after_looks-after_looks old.looks made 1)

-- this many pulses are left to search, and of the allowed looks enough are left for them
pub record Narrowed (left digits : ℕ) (old new : LensView) : Type 0 where
  pub rest : ℕ
  pub made : ℕ
  pub small : left < 2 ^ rest
  pub enough : made + rest ≤ digits
  pub lens : new ≡ lens_view old.track (after_looks old.looks made)

-- half of them are left after a look
pub narrowed_half : (left half digits : ℕ) (a b c : LensView) → half * 2 ≤ left → 0 < left → Narrowed left digits a b
    → c ≡ lens_view b.track (counted b.looks 1) → Narrowed half digits a c
narrowed_half left half digits a b c less some h look = more h.rest h.small h.enough
  where
    more : (rest : ℕ) → left < 2 ^ rest → h.made + rest ≤ digits → Narrowed half digits a c
    more zero small enough = absurd (omega arith)
    more (suc rest) small enough = record {
      rest = rest;
      made = h.made + 1;
      small = omega (arith, pow-suc 2 rest);
      enough = omega arith;
      lens = lens_next a b c h.made h.lens look;
    }
