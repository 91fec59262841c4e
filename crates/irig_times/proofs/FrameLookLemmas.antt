-- Looks at records add up, and a search by halving makes few.
use Rattle.std.proofs.Common.{◌≡◌, ℕ, suc, zero, ◌+◌, ◌*◌, ◌^◌, ◌<◌, ◌≤◌, ap, ap₂, ◌∙◌, arith}
use Rattle.std.proofs.Math.Nat.{pow-suc}
use Rattle.irig_track.specs.Looks.{after_looks, counted}
use Rattle.irig_track.proofs.Looks.{after_looks-after_looks}
use Rattle.irig_times.specs.FrameLooks.{FramesView, frames_view}

-- one more look
pub look-next : (old lens new : FramesView) (made : ℕ) → lens ≡ frames_view old.records (after_looks old.looks made)
    → new ≡ frames_view lens.records (counted lens.looks 1) → new ≡ frames_view old.records (after_looks old.looks (made + 1))
look-next old lens new made so_far look =
    look ∙ ap₂ frames_view (ap (λ (v : FramesView). v.records) so_far)
    (ap (λ (v : FramesView). counted v.looks 1) so_far ∙ after_looks-after_looks old.looks made 1)

-- this many records are left to search, and of the allowed looks enough are left for them
pub record Narrowed (left digits : ℕ) (old new : FramesView) : Type 0 where
  pub rest : ℕ
  pub made : ℕ
  pub small : left < 2 ^ rest
  pub enough : made + rest ≤ digits
  pub lens : new ≡ frames_view old.records (after_looks old.looks made)

-- half of them are left after a look
pub narrowed_half : (left half digits : ℕ) (a b c : FramesView) → half * 2 ≤ left → 0 < left → Narrowed left digits a b
    → c ≡ frames_view b.records (counted b.looks 1) → Narrowed half digits a c
narrowed_half left half digits a b c less some h look = more h.rest h.small h.enough
  where
    more : (rest : ℕ) → left < 2 ^ rest → h.made + rest ≤ digits → Narrowed half digits a c
    more zero small enough = absurd (omega arith)
    more (suc rest) small enough = record {
      rest = rest;
      made = h.made + 1;
      small = omega (arith, pow-suc 2 rest);
      enough = omega arith;
      lens = look-next a b c h.made h.lens look;
    }
