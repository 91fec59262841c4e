-- The other recordings of the settings, one by one.
use Rattle.std.proofs.Common.{◌≡◌, ◌∙◌, ◌+◌, ◌<◌, ◌≤◌, ◌==◌, ℕ, zero, suc, Bool, true, false, List, [], ◌∷◌, Option, Some, None}
use Rattle.std.proofs.Common.{add-one, ap, arith, drop, drop-cons, inr, length, map, refl, slice_get, subst, sym}
use Rattle.std.specs.Prelude.{IfSome, option_map, unwrap_or}
use Rattle.std.proofs.lemmas.Bool.Decides.{nat_tests}
use Rattle.irig_disk.specs.Disk.{Disk}
use Rattle.irig_files.specs.Apart.{AreApart}
use Rattle.irig_files.specs.declared.dump_file.DumpFileFault.{DumpFileFault}
use Rattle.std.proofs.lemmas.{List.drop_all, List.length-map, Option.get_or_from_slice_get, Option.slice_get_within}
use denote.Ref.{Bor}
use Rattle.irig_codes.specs.Format.{FormatView}
use Rattle.irig_guard.specs.Others.{IsUnusable, IsUnusableDump, Shows, ShowsAll}
use Rattle.irig_guard.specs.Settings.{paths}
use Rattle.irig_guard.specs.declared.other_fault.{OtherFault.OtherFault, OtherFault.TheVariants.Dump, OtherFault.TheVariants.File}
use Rattle.irig_safety.specs.Terms.{TermsView}

-- what the bytes of a file cannot be used for, the file cannot
pub unusable_by_dump : (held : Option (List ℕ)) (unread : DumpFileFault → Type 0) (source : List ℕ) (why : OtherFault) → IfSome held (λ all. source ≡ all)
    → IsUnusableDump source why → IsUnusable held unread why
unusable_by_dump held unread source (Dump fault) whole is = (source, whole, is)
unusable_by_dump held unread source (File fault) whole is = inr (source, whole, is)

-- the path at a place
pub path_at : (given : List (Bor (List ℕ))) (i : ℕ) (p : Bor (List ℕ)) → slice_get given i ≡ Some p → slice_get (paths given) i ≡ Some p.now
path_at [] i p e = absurd (cc)
path_at (q ∷ given) zero p e = ap (option_map (λ (x : Bor (List ℕ)). x.now)) e
path_at (q ∷ given) (suc i) p e = path_at given i p e

pub from_place : (given : List (Bor (List ℕ))) (i : ℕ) (p : Bor (List ℕ)) → slice_get given i ≡ Some p → drop i given ≡ p ∷ drop (i + 1) given
from_place given i p e = rw add-one
    (drop-cons given i p (slice_get_within given i p e) ∙ ap (λ y. y ∷ drop (suc i) given) (get_or_from_slice_get given i p p e))

-- with those from a place on, all are shown
abbrev pub ShowsRest : (List ℕ → Option (List ℕ)) → FormatView → List (Bor (List ℕ)) → TermsView → TermsView → ℕ → Type 0
ShowsRest held f given old shown i =
    (new : TermsView) → ShowsAll held f (paths (drop i given)) shown new → ShowsAll held f (paths given) old new

pub shows_none : (held : List ℕ → Option (List ℕ)) (f : FormatView) (given : List (Bor (List ℕ))) (old shown : TermsView) → shown ≡ old
    → ShowsRest held f given old shown 0
shows_none held f given old shown e = λ new h. subst (λ (l : TermsView). ShowsAll held f (paths given) l new) e h

pub shows_more : (held : List ℕ → Option (List ℕ)) (f : FormatView) (given : List (Bor (List ℕ))) (old shown more : TermsView) (i : ℕ) (p : Bor (List ℕ))
    → slice_get given i ≡ Some p → Shows (held p.now) f shown more → ShowsRest held f given old shown i → ShowsRest held f given old more (i + 1)
shows_more held f given old shown more i p here one h = λ new rest.
    h new (subst (λ (l : List (Bor (List ℕ))). ShowsAll held f (paths l) shown new) (sym (from_place given i p here)) (more, one, rest))

pub shows_all : (held : List ℕ → Option (List ℕ)) (f : FormatView) (given : List (Bor (List ℕ))) (old shown : TermsView) (i : ℕ) → length given ≤ i
    → ShowsRest held f given old shown i → ShowsAll held f (paths given) old shown
shows_all held f given old shown i past h =
    h shown (subst (λ (l : List (Bor (List ℕ))). ShowsAll held f (paths l) shown shown) (sym (drop_all i given past)) refl)

-- up to a place, the path to write leads to none of them
abbrev pub ApartUpTo : Disk → List (Bor (List ℕ)) → List ℕ → ℕ → Type 0
ApartUpTo disk given out n = (place : ℕ) (path : List ℕ) → place < n → slice_get (paths given) place ≡ Some path → AreApart disk path out

pub apart_none : (disk : Disk) (given : List (Bor (List ℕ))) (out : List ℕ) → ApartUpTo disk given out 0
apart_none disk given out = λ place path less is. absurd (omega (arith, less))

is_it : (k n : ℕ) (b : Bool) → b ≡ (k == n) → b ≡ true → k ≡ n
is_it k n b is t = grind (arith, nat_tests)

is_below : (k n : ℕ) (b : Bool) → b ≡ (k == n) → b ≡ false → k < n + 1 → k < n
is_below k n b is t less = grind (arith, nat_tests)

some_is : (one other : List ℕ) → Some one ≡ Some other → one ≡ other
some_is one other e = ap (λ (o : Option (List ℕ)). unwrap_or o one) e

apart_by : (disk : Disk) (given : List (Bor (List ℕ))) (out : List ℕ) (n : ℕ) (p : Bor (List ℕ)) (place : ℕ) (path : List ℕ) (b : Bool)
    → b ≡ (place == n) → slice_get given n ≡ Some p → AreApart disk p.now out → ApartUpTo disk given out n → place < n + 1
    → slice_get (paths given) place ≡ Some path → AreApart disk path out
apart_by disk given out n p place path true is here apart each less there =
    let same : place ≡ n = is_it place n true is refl in
    subst (λ (l : List ℕ). AreApart disk l out)
    (some_is p.now path (sym (path_at given n p here) ∙ (ap (slice_get (paths given)) (sym same) ∙ there))) apart
apart_by disk given out n p place path false is here apart each less there = each place path (is_below place n false is refl less) there

pub apart_more : (disk : Disk) (given : List (Bor (List ℕ))) (out : List ℕ) (n : ℕ) (p : Bor (List ℕ)) → slice_get given n ≡ Some p
    → AreApart disk p.now out → ApartUpTo disk given out n → ApartUpTo disk given out (n + 1)
apart_more disk given out n p here apart each = λ place path less there.
    apart_by disk given out n p place path (place == n) refl here apart each less there

length-paths : (given : List (Bor (List ℕ))) → length (paths given) ≡ length given
length-paths given = length-map given (λ (p : Bor (List ℕ)). p.now)

pub apart_all : (disk : Disk) (given : List (Bor (List ℕ))) (out : List ℕ) (n : ℕ) → length given ≤ n → ApartUpTo disk given out n
    → (place : ℕ) (path : List ℕ) → slice_get (paths given) place ≡ Some path → AreApart disk path out
apart_all disk given out n past each place path there =
    let less = slice_get_within (paths given) place path there in
    let long = length-paths given in
    each place path (omega (arith, less, long, past)) there
