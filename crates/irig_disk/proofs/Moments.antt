-- How a run of calls goes on.
use Rattle.std.proofs.Common.{inl, inr, ⊎_elim, ℕ, List, Option, arith}
use Rattle.irig_disk.specs.{Disk.Disk, Disk.MayLeave, Disk.Elapses, Disk.LeavesOnly, Held.Held}

-- one call more, after which a crash leaves what has P
pub goes_on : (old mid new : Disk) (P : List ℕ → Option Held → Type 0) → LeavesOnly old mid P → Elapses mid new
    → ((n : List ℕ) (c : Option Held) → MayLeave new n c → P n c) → LeavesOnly old new P
goes_on old mid new P so_far time here = record {
  later = omega (arith, so_far.later, time.later);
  each = λ n c left. ⊎_elim (so_far.each n c) (here n c) (time.nothing_else old.moment n c so_far.later left);
  before = λ t n c le left. ⊎_elim (so_far.before t n c le) (λ now. inr (here n c now)) (time.nothing_else t n c (omega (arith, le, so_far.later)) left);
}

-- what has P has Q
pub weaker : (old new : Disk) (P Q : List ℕ → Option Held → Type 0) → ((n : List ℕ) (c : Option Held) → P n c → Q n c) → LeavesOnly old new P
    → LeavesOnly old new Q
weaker old new P Q implies so_far = record {
  later = so_far.later;
  each = λ n c left. implies n c (so_far.each n c left);
  before = λ t n c le left. ⊎_elim (λ was. inl was) (λ now. inr (implies n c now)) (so_far.before t n c le left);
}
