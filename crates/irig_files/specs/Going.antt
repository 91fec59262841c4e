-- Writes one after another.
use Rattle.std.proofs.Common.{◌≡◌, ◌⊎◌, inl, inr, ⊎_elim, sym, ◌∙◌, ap, subst, arith, ℕ, List, ◌++◌}
use Rattle.std.proofs.Common.{append_assoc, Option}
use Rattle.irig_disk.specs.{Disk.Disk, Disk.MayLeave, Disk.seen_under}
use Rattle.irig_files.specs.Taken.{HasFile, StaysBarred}
use Rattle.irig_files.specs.WriteLists.{writes_more, begins_more, left_front, left_back, at_both}
use Rattle.irig_files.specs.StillKept.{seen_then, each_still_kept}
use Rattle.irig_files.specs.Writes.{writes_in, IsLeftBy, AreAt}
use Rattle.irig_files.specs.Goes.{EachIsKept, IsMeant, Goes}

-- writes, and then others
pub goes_on : (a b c : Disk) (target : Option (List ℕ)) → Goes a b target → Goes b c target
    → Goes a c target
goes_on a b c target ab bc =
    let both : writes_in (ab.more ++ bc.more) ≡ writes_in ab.more ++ writes_in bc.more =
    writes_more ab.more bc.more bc.begins in
    record {
      more = ab.more ++ bc.more;
      grows = bc.grows ∙ ap (λ l. l ++ bc.more) ab.grows ∙ append_assoc a.log ab.more bc.more;
      begins = begins_more ab.more bc.more ab.begins bc.begins;
      later = omega (arith, ab.later, bc.later);
      paths = bc.paths ∙ ab.paths;
      there = λ place is. bc.there place (ab.there place is);
      at_target = subst (AreAt target) (sym both)
          (at_both target (writes_in ab.more) (writes_in bc.more) ab.at_target bc.at_target);
      seen = λ place meant.
          let meant_then : IsMeant b target place =
          ⊎_elim (λ is. inl (ab.there place is)) (λ at. inr at) meant in
          let done : (seen_under c place ≡ seen_under a place)
          ⊎ IsLeftBy (writes_in ab.more ++ writes_in bc.more) place (seen_under c place) =
          seen_then a b c target bc (writes_in ab.more) place (seen_under a place) meant_then
          (ab.seen place meant) in
          subst
          (λ ws. (seen_under c place ≡ seen_under a place) ⊎ IsLeftBy ws place (seen_under c place))
          (sym both) done;
      any_moment = λ place x meant l.
          let done : MayLeave a place x
          ⊎ IsLeftBy (writes_in ab.more ++ writes_in bc.more) place x = ⊎_elim
          (λ mid. ⊎_elim (λ was. inl was) (λ by. inr
          (left_front (writes_in ab.more) (writes_in bc.more) place x by))
          (ab.any_moment place x meant mid))
          (λ by. inr (left_back (writes_in ab.more) (writes_in bc.more) place x by))
          (bc.before a.moment place x ab.later (⊎_elim (λ is. inl (ab.there place is))
          (λ at. inr at) meant) l) in
          subst (λ ws. MayLeave a place x ⊎ IsLeftBy ws place x) (sym both) done;
      before = λ t place x le meant l.
          let meant_then : IsMeant b target place =
          ⊎_elim (λ is. inl (ab.there place is)) (λ at. inr at) meant in
          let done : a.left_since t place x
          ⊎ IsLeftBy (writes_in ab.more ++ writes_in bc.more) place x = ⊎_elim
          (λ mid. ⊎_elim (λ was. inl was) (λ by. inr
          (left_front (writes_in ab.more) (writes_in bc.more) place x by))
          (ab.before t place x le meant mid))
          (λ by. inr (left_back (writes_in ab.more) (writes_in bc.more) place x by))
          (bc.before t place x (omega (arith, le, ab.later)) meant_then l) in
          subst (λ ws. a.left_since t place x ⊎ IsLeftBy ws place x) (sym both) done;
      kept = subst (EachIsKept a c) (sym both)
          (each_still_kept a b c target ab bc ab.later (writes_in ab.more) ab.kept);
    }

-- to where the path leads each time
pub goes_by_both : (a b c : Disk) (path path' : List ℕ) → path' ≡ path → Goes a b (a.paths path)
    → Goes b c (b.paths path') → Goes a c (a.paths path)
goes_by_both a b c path path' same ab bc =
    let target : b.paths path' ≡ a.paths path = ap b.paths same ∙ ap (λ ps. ps path) ab.paths in
    goes_on a b c (a.paths path) ab (subst (Goes b c) target bc)

-- what must not be written stays each time
pub barred_by_both : (p q r : ℕ → Type 0) (a b c : Disk) (path path' : List ℕ) → path' ≡ path
    → StaysBarred p q a b path → StaysBarred q r b c path' → StaysBarred p r a c path
barred_by_both p q r a b c path path' same ab bc has =
    let mid = ab has in
    let end = bc (subst (λ to. HasFile q b (b.paths to)) (sym same) mid.1) in
    (end.0 ∙ mid.0, subst (λ to. HasFile r c (c.paths to)) same end.1)
