-- Nothing was done.
use Rattle.std.proofs.Common.{Bool, inl, refl, sym, arith, ℕ, List, [], Option}
use Rattle.std.proofs.lemmas.List.{append-nil}
use Rattle.irig_disk.specs.{Disk.Disk, Disk.MayLeave, Held.Held}
use Rattle.irig_files.specs.Goes.{Goes, LeavesTo}

-- nothing was done
pub goes_nowhere : (at : Disk) (target : Option (List ℕ))
    → ((n : List ℕ) (c : Option Held) → at.left_since at.moment n c → MayLeave at n c)
    → Goes at at target
goes_nowhere at target now = record {
  more = [];
  grows = sym (append-nil at.log);
  begins = refl;
  later = omega arith;
  paths = refl;
  there = λ place is. is;
  at_target = tt;
  seen = λ place meant. inl refl;
  any_moment = λ place c meant l. inl (now place c l);
  before = λ t place c le meant l. inl l;
  kept = tt;
}

-- nothing was done, and what must not be written is still there
pub leaves_nowhere : (told : Bool) (barred : ℕ → Type 0) (at : Disk) (path : List ℕ)
    → ((n : List ℕ) (c : Option Held) → at.left_since at.moment n c → MayLeave at n c)
    → LeavesTo told barred barred at at path
leaves_nowhere told barred at path now =
    ((λ is_told. goes_nowhere at (at.paths path) now), (λ is_told has. (refl, has)))
