-- Frames that are safe are kept, mended, or borne out.
use Rattle.std.proofs.Common.{◌≡◌, ◌<◌, ◌++◌, ◌-◌, ℕ, suc, List, [], ◌∷◌, Option, Some, None, length, slice_get, inl, inr, refl, ap, sym, ◌∙◌, append_assoc}
use Rattle.std.proofs.Common.{length-append, subst, arith}
use Rattle.std.specs.List.{AllByRecursion}
use Rattle.irig_codes.specs.Format.{FormatView}
use Rattle.irig_safety.specs.Meaning.{AreRising, IsKept, IsOneOf, IsTold, SafeMeans}
use Rattle.irig_safety.specs.{Safety.IsSafeFrom, Safety.behind, Terms.OthersView, declared.shown.Shown.Shown}

all_map : {X : Type 0} (P Q : X → Type 0) → ((x : X) → P x → Q x) → (xs : List X) → AllByRecursion P xs → AllByRecursion Q xs
all_map P Q f [] h = tt
all_map P Q f (x ∷ xs) h = (f x h.0, all_map P Q f xs h.1)

all_both : {X : Type 0} (P Q R : X → Type 0) → ((x : X) → P x → Q x → R x) → (xs : List X) → AllByRecursion P xs → AllByRecursion Q xs → AllByRecursion R xs
all_both P Q R f [] h k = tt
all_both P Q R f (x ∷ xs) h k = (f x h.0 k.0, all_both P Q R f xs h.1 k.1)

all_one_more : {X : Type 0} (P : X → Type 0) (xs : List X) (y : X) → AllByRecursion P xs → P y → AllByRecursion P (xs ++ y ∷ [])
all_one_more P [] y h k = (k, tt)
all_one_more P (x ∷ xs) y h k = (h.0, all_one_more P xs y h.1 k)

-- above a frame are all above one that is no lower
above : (n : ℕ) (o : Shown) (xs : List Shown) → n < o.rise → AllByRecursion (λ x. o.rise < x.rise) xs → AllByRecursion (λ x. n < x.rise) xs
above n o xs less h = all_map (λ x. o.rise < x.rise) (λ x. n < x.rise) (λ x k. omega (arith, less, k)) xs h

one_later : (n x : Shown) (xs : List Shown) → IsOneOf x xs → IsOneOf x (n ∷ xs)
one_later n x xs h = record { before = n ∷ h.before; after = h.after; whole = ap (λ l. n ∷ l) h.whole }

kept_later : (f : FormatView) (ws : OthersView) (whole : List Shown) (n x : Shown) (new : List Shown) → IsKept f ws whole new x → IsKept f ws whole (n ∷ new) x
kept_later f ws whole n x new (inl one) = inl (one_later n x new one)
kept_later f ws whole n x new (inr k) = inr (k.0, one_later n k.0 new k.1, k.2)

-- the last two of a list with one more
last_of_more : (xs : List Shown) (o : Shown) → behind (length (xs ++ o ∷ [])) (xs ++ o ∷ []) ≡ Some o
last_of_more xs o =
    let n : length (xs ++ o ∷ []) ≡ suc (length xs) = omega (arith, length-append xs (o ∷ [])) in
    ap (λ k. behind k (xs ++ o ∷ [])) n ∙ at_end xs
  where
    at_end : (xs : List Shown) → slice_get (xs ++ o ∷ []) (length xs) ≡ Some o
    at_end [] = refl
    at_end (x ∷ xs) = at_end xs

before_last : (xs : List Shown) (o : Shown) → behind (length (xs ++ o ∷ []) - 1) (xs ++ o ∷ []) ≡ behind (length xs) xs
before_last xs o =
    let n : length (xs ++ o ∷ []) - 1 ≡ length xs = omega (arith, length-append xs (o ∷ [])) in
    ap (λ k. behind k (xs ++ o ∷ [])) n ∙ same xs
  where
    at : (x : Shown) (xs : List Shown) → slice_get ((x ∷ xs) ++ o ∷ []) (length xs) ≡ slice_get (x ∷ xs) (length xs)
    at x [] = refl
    at x (y ∷ ys) = at y ys

    same : (xs : List Shown) → behind (length xs) (xs ++ o ∷ []) ≡ behind (length xs) xs
    same [] = refl
    same (x ∷ xs) = at x xs

-- the two frames before what is left
abbrev From : FormatView → OthersView → List Shown → List Shown → List Shown → Type 0
From f ws passed old new = IsSafeFrom f ws (behind (length passed - 1) passed) (behind (length passed) passed) old new

on_from : (f : FormatView) (ws : OthersView) (passed : List Shown) (o : Shown) (old new : List Shown)
    → IsSafeFrom f ws (behind (length passed) passed) (Some o) old new → From f ws (passed ++ o ∷ []) old new
on_from f ws passed o old new h =
    subst (λ (a2 : Option Shown). IsSafeFrom f ws a2 (behind (length (passed ++ o ∷ [])) (passed ++ o ∷ [])) old new) (sym (before_last passed o))
    (subst (λ (a : Option Shown). IsSafeFrom f ws (behind (length passed) passed) a old new) (sym (last_of_more passed o)) h)

-- each former frame is kept or mended, when these are passed
kept : (f : FormatView) (ws : OthersView) (passed old new : List Shown) → From f ws passed old new → AllByRecursion (IsKept f ws (passed ++ old) new) old
kept f ws passed [] new h = tt
kept f ws passed (o ∷ old) [] h = absurd h
kept f ws passed (o ∷ old) (n ∷ new) (inl k) =
    let rest = subst (λ (l : List Shown). AllByRecursion (IsKept f ws l new) old) (append_assoc passed (o ∷ []) old)
    (kept f ws (passed ++ o ∷ []) old new (on_from f ws passed o old new k.2)) in
    let later = all_map (IsKept f ws (passed ++ o ∷ old) new) (IsKept f ws (passed ++ o ∷ old) (n ∷ new))
    (λ x one. kept_later f ws (passed ++ o ∷ old) n x new one) old rest in (
      elim k.1 [
        | inl same ↦ inl (record { before = []; after = new; whole = ap (λ x. x ∷ new) (sym same) })
        | inr mended ↦
            inr (n, record { before = []; after = new; whole = refl }, record { before = passed; after = old; whole = refl; rise = k.0; mended = mended })
      ],
      later,
    )
kept f ws passed (o ∷ old) (n ∷ new) (inr k) =
    all_map (IsKept f ws (passed ++ o ∷ old) new) (IsKept f ws (passed ++ o ∷ old) (n ∷ new))
    (λ x one. kept_later f ws (passed ++ o ∷ old) n x new one) (o ∷ old)
    (kept f ws passed (o ∷ old) new k.2)

-- the frames of a rest, when these of the former are passed
others : (f : FormatView) (ws : OthersView) (passed old new : List Shown) → From f ws passed old new → AreRising old → AreRising new
    → AllByRecursion (λ n. AllByRecursion (λ p. p.rise < n.rise) passed) new → AllByRecursion (IsTold f ws (passed ++ old)) new
others f ws passed [] [] h former rising below = tt
others f ws passed (o ∷ old) [] h former rising below = absurd h
others f ws passed [] (n ∷ new) h former rising below = (
  inr (inr (record { before = passed; after = []; whole = refl; earlier = below.0; later = tt; borne = h.0 })),
  others f ws passed [] new h.1 former rising.1 below.1,
)
others f ws passed (o ∷ old) (n ∷ new) (inl k) former rising below =
    let over : AllByRecursion (λ m. o.rise < m.rise) new =
    all_map (λ m. n.rise < m.rise) (λ m. o.rise < m.rise) (λ m less. omega (arith, k.0, less)) new rising.0 in
    let all : AllByRecursion (λ m. AllByRecursion (λ p. p.rise < m.rise) (passed ++ o ∷ [])) new =
    all_both (λ m. AllByRecursion (λ p. p.rise < m.rise) passed) (λ m. o.rise < m.rise) (λ m. AllByRecursion (λ p. p.rise < m.rise) (passed ++ o ∷ []))
    (λ m p q. all_one_more (λ x. x.rise < m.rise) passed o p q) new below.1 over in (
      elim k.1 [
        | inl same ↦ inl (record { before = passed; after = old; whole = ap (λ x. passed ++ x ∷ old) same })
        | inr mended ↦ inr (inl (o, record { before = passed; after = old; whole = refl; rise = k.0; mended = mended }))
      ],
      subst (λ (l : List Shown). AllByRecursion (IsTold f ws l) new) (append_assoc passed (o ∷ []) old)
          (others f ws (passed ++ o ∷ []) old new (on_from f ws passed o old new k.2) former.1 rising.1 all),
    )
others f ws passed (o ∷ old) (n ∷ new) (inr k) former rising below = (
  inr (inr (record {
    before = passed;
    after = o ∷ old;
    whole = refl;
    earlier = below.0;
    later = (k.0, above n.rise o old k.0 former.0);
    borne = k.1;
  })),
  others f ws passed (o ∷ old) new k.2 former rising.1 below.1,
)

none_below : (new : List Shown) → AllByRecursion (λ n. AllByRecursion (λ (p : Shown). p.rise < n.rise) []) new
none_below [] = tt
none_below (n ∷ new) = (tt, none_below new)

-- the former frames rise as the others do
all_above : (f : FormatView) (ws : OthersView) (a2 a : Option Shown) (old new : List Shown) (n : ℕ)
    → IsSafeFrom f ws a2 a old new → AllByRecursion (λ x. n < x.rise) new
    → AllByRecursion (λ x. n < x.rise) old
all_above f ws a2 a [] new n h all = tt
all_above f ws a2 a (o ∷ old) [] n h all = absurd h
all_above f ws a2 a (o ∷ old) (m ∷ new) n (inl k) all = (omega (arith, k.0, all.0), all_above f ws a (Some o) old new n k.2 all.1)
all_above f ws a2 a (o ∷ old) (m ∷ new) n (inr k) all = all_above f ws a2 a (o ∷ old) new n k.2 all.1

former_rise : (f : FormatView) (ws : OthersView) (a2 a : Option Shown) (old new : List Shown) → IsSafeFrom f ws a2 a old new → AreRising new → AreRising old
former_rise f ws a2 a [] new h rising = tt
former_rise f ws a2 a (o ∷ old) [] h rising = absurd h
former_rise f ws a2 a (o ∷ old) (n ∷ new) (inl k) rising =
    let over : AllByRecursion (λ m. o.rise < m.rise) new =
    all_map (λ m. n.rise < m.rise) (λ m. o.rise < m.rise) (λ m less. omega (arith, k.0, less)) new rising.0 in
    (all_above f ws a (Some o) old new o.rise k.2 over, former_rise f ws a (Some o) old new k.2 rising.1)
former_rise f ws a2 a (o ∷ old) (n ∷ new) (inr k) rising = former_rise f ws a2 a (o ∷ old) new k.2 rising.1

pub safe_means : SafeMeans
safe_means f ws old new rising h = (kept f ws [] old new h, others f ws [] old new h (former_rise f ws None None old new h rising) rising (none_below new))
