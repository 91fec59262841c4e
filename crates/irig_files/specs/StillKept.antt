-- What was kept still is, after other writes.
use Rattle.std.proofs.Common.{◌≡◌, ◌⊎◌, inl, inr, ⊎_elim, sym, ◌∙◌, subst, arith, ℕ, List, [], ◌∷◌}
use Rattle.std.proofs.Common.{◌++◌, Option, Some, None, ◌≤◌}
use Rattle.irig_disk.specs.{Disk.Disk, Disk.seen_under, Held.Held}
use Rattle.irig_files.specs.WriteLists.{left_front, left_back}
use Rattle.irig_files.specs.Writes.{Write, writes_in, IsLeftBy}
use Rattle.irig_files.specs.Goes.{IsKeptIfDone, EachIsKept, IsMeant, Goes}

-- what is seen after both
pub seen_then : (a b c : Disk) (target : Option (List ℕ)) → (bc : Goes b c target)
    → (ws : List Write) (place : List ℕ) (x : Option Held)
    → IsMeant b target place → (seen_under b place ≡ x) ⊎ IsLeftBy ws place (seen_under b place)
    → (seen_under c place ≡ x) ⊎ IsLeftBy (ws ++ writes_in bc.more) place (seen_under c place)
seen_then a b c target bc ws place x meant first = ⊎_elim
    (λ same. ⊎_elim
    (λ is. inl (same ∙ is))
    (λ by. inr (subst (IsLeftBy (ws ++ writes_in bc.more) place) (sym same)
    (left_front ws (writes_in bc.more) place (seen_under b place) by)))
    first)
    (λ by. inr (left_back ws (writes_in bc.more) place (seen_under c place) by))
    (bc.seen place meant)

-- what was kept still is
still_kept : (a b c : Disk) (target : Option (List ℕ)) → Goes a b target → (bc : Goes b c target)
    → (w : Write) (after : List Write) (at : Option ℕ)
    → IsKeptIfDone a b w after at → IsKeptIfDone a c w (after ++ writes_in bc.more) at
still_kept a b c target ab bc w after None k = tt
still_kept a b c target ab bc w after (Some m) k = record {
  began = k.began;
  ended = omega (arith, k.ended, bc.later);
  there = bc.there w.place k.there;
  seen = seen_then a b c target bc after w.place (Some w.held) (inl k.there) k.seen;
  left = λ x l. ⊎_elim
      (λ was. ⊎_elim (λ is. inl is) (λ later. inr
      (left_front after (writes_in bc.more) w.place x later)) (k.left x was))
      (λ now. inr (left_back after (writes_in bc.more) w.place x now))
      (bc.before m w.place x k.ended (inl k.there) l);
}

begun_later : (a b c : Disk) → a.moment ≤ b.moment → (w : Write) (after : List Write)
    (at : Option ℕ) → IsKeptIfDone b c w after at → IsKeptIfDone a c w after at
begun_later a b c le w after None k = tt
begun_later a b c le w after (Some m) k = record {
  began = omega (arith, le, k.began);
  ended = k.ended;
  there = k.there;
  seen = k.seen;
  left = k.left;
}

each_begun_later : (a b c : Disk) → a.moment ≤ b.moment → (ws : List Write) → EachIsKept b c ws
    → EachIsKept a c ws
each_begun_later a b c le [] each = tt
each_begun_later a b c le (w ∷ ws) each =
    (begun_later a b c le w ws w.kept_at each.0, each_begun_later a b c le ws each.1)

pub each_still_kept : (a b c : Disk) (target : Option (List ℕ)) → Goes a b target
    → (bc : Goes b c target) → a.moment ≤ b.moment → (ws : List Write)
    → EachIsKept a b ws → EachIsKept a c (ws ++ writes_in bc.more)
each_still_kept a b c target ab bc le [] each =
    each_begun_later a b c le (writes_in bc.more) bc.kept
each_still_kept a b c target ab bc le (w ∷ ws) each = (
  still_kept a b c target ab bc w ws w.kept_at each.0,
  each_still_kept a b c target ab bc le ws each.1,
)
