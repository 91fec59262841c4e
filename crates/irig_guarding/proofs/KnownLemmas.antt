-- What stays known of the pulses of former frames.
use Rattle.std.proofs.Common.{◌≡◌, ◌≢◌, ◌≤◌, ◌<◌, ◌+◌, ◌-◌, ◌++◌, ◌⊎◌, ℕ, zero, suc, List, [], ◌∷◌, Option, Some, None, drop, get_or, length, length-drop, set, slice_get, refl, ap, sym, ◌∙◌, subst, arith, inl, inr}
use Rattle.std.specs.Prelude.{IfSome}
use Rattle.std.proofs.lemmas.{Bool.cases_lt, Grind.get_or-set_at, List.get_or-set_other, List.get_or_past, List.length-set}
use Rattle.irig_recording.specs.declared.pulse.Pulse.{Pulse}
use Rattle.irig_track.specs.Splices.{IsSpan}
use Rattle.irig_track.proofs.Items.{slice_get-drop, slice_get-part}
use Rattle.irig_safety.specs.{Original.OriginalView, Rises.KeepsRises, Rises.rise_in, Rises.rise_or}
use Rattle.irig_guarding.specs.{Known.AreKnown, Known.Became, Known.Follows, declared.place.Place.Place}

-- the pulses of a frame are the same in both lists
abbrev IsAlike : List Pulse → ℕ → List Pulse → ℕ → Type 0
IsAlike ps m qs n = (j : ℕ) → j < 100 → slice_get qs (n + j) ≡ slice_get ps (m + j)

keeps_alike : (os ps qs : List Pulse) (former m n : ℕ) → IsAlike ps m qs n → KeepsRises os former ps m → KeepsRises os former qs n
keeps_alike os ps qs former m n same h = λ j within.
    let here : rise_in qs n j ≡ rise_in ps m j = ap rise_or (same j within) in
    let first : rise_in qs n 0 ≡ rise_in ps m 0 = ap rise_or (same 0 (omega arith)) in
    h j within ∙ sym (λ i. here i - first i)

-- before the pulses that became others
alike_before : (at gone come : ℕ) (ps qs : List Pulse) (m : ℕ) → IsSpan at gone come ps qs → m + 100 ≤ at → IsAlike ps m qs m
alike_before at gone come ps qs m h within = λ j less.
    sym (slice_get-part at 0 qs (m + j) (m + j) (omega arith) (omega arith)) ∙ ap (λ (l : List Pulse). slice_get l (m + j)) h.before
    ∙ slice_get-part at 0 ps (m + j) (m + j) (omega arith) (omega arith)

long_before : (at gone come : ℕ) (ps qs : List Pulse) → IsSpan at gone come ps qs → length qs + gone ≡ length ps + come
long_before at gone come ps qs h =
    let one = length-drop (at + come) qs in
    let other = length-drop (at + gone) ps in
    let same : length (drop (at + come) qs) ≡ length (drop (at + gone) ps) = ap length h.after in
    omega (arith, one, other, same, h.there, h.came)

-- after them
alike_after : (at gone come : ℕ) (ps qs : List Pulse) (m n : ℕ) → IsSpan at gone come ps qs → at + length ps + come ≤ m + length qs
    → n + length ps ≡ m + length qs → IsAlike ps m qs n
alike_after at gone come ps qs m n h past e = λ j less.
    let long = long_before at gone come ps qs h in
    let one : n + j ≡ at + come + (n + j - (at + come)) = omega (arith, long) in
    let other : m + j ≡ at + gone + (n + j - (at + come)) = omega (arith, long) in
    sym (slice_get-drop (at + come) qs (n + j - (at + come)) (n + j) one) ∙ ap (λ (l : List Pulse). slice_get l (n + j - (at + come))) h.after
    ∙ slice_get-drop (at + gone) ps (n + j - (at + come)) (m + j) other

pub still_known : (os ps qs : List Pulse) (former at come m n : ℕ) → Became at come ps qs → Follows at come (length ps) (length qs) (Some m) (Some n)
    → KeepsRises os former ps m → KeepsRises os former qs n
still_known os ps qs former at come m n h (inl k) keeps =
    subst (λ x. KeepsRises os former qs x) (sym k.1) (keeps_alike os ps qs former m m (alike_before at h.0 come ps qs m h.1 k.0) keeps)
still_known os ps qs former at come m n h (inr k) keeps = keeps_alike os ps qs former m n (alike_after at h.0 come ps qs m n h.1 k.0 k.1) keeps

-- nothing is known
pub none_more : {X : Type 0} (xs : List (Option X)) → ((p : ℕ) → get_or xs p None ≡ None) → (p : ℕ) → get_or (xs ++ None ∷ []) p None ≡ None
none_more [] h zero = refl
none_more [] h (suc p) = refl
none_more (x ∷ xs) h zero = h 0
none_more (x ∷ xs) h (suc p) = none_more xs (λ q. h (suc q)) p

pub none_some : {X : Type 0} (o : Option X) (m : X) → o ≡ None → o ≡ Some m → ⊥
none_some o m e h = let bad : None ≡ Some m = sym e ∙ h in cc

pub none_known : (o : OriginalView) (ps : List Pulse) (known : List (Option ℕ)) → ((p : ℕ) → get_or known p None ≡ None) → AreKnown o ps known
none_known o ps known h = λ place marker e. absurd (none_some _ marker (h place) e)

pub same_place : (p q : ℕ) → (p ≡ q) ⊎ (p ≢ q)
same_place p q = go (cases_lt p q) (cases_lt q p)
  where
    go : (p < q) ⊎ (q ≤ p) → (q < p) ⊎ (p ≤ q) → (p ≡ q) ⊎ (p ≢ q)
    go (inl less) k = inr (λ e. absurd (omega (arith, less, e)))
    go (inr from) (inl less) = inr (λ e. absurd (omega (arith, less, e)))
    go (inr from) (inr upto) = inl (omega (arith, from, upto))

-- one more is known
pub known_more : (o : OriginalView) (ps : List Pulse) (known : List (Option ℕ)) (place marker : ℕ) → place < length known
    → KeepsRises o.pulses (get_or o.markers place 0) ps marker → AreKnown o ps known → AreKnown o ps (set known place (Some marker))
known_more o ps known place marker within keeps h = λ p m e. go p m e (same_place p place)
  where
    go : (p m : ℕ) → get_or (set known place (Some marker)) p None ≡ Some m → (p ≡ place) ⊎ (p ≢ place) → KeepsRises o.pulses (get_or o.markers p 0) ps m
    go p m e (inl same) =
        let there : Some marker ≡ Some m = sym (get_or-set_at known place p (Some marker) None same within) ∙ e in
        let is : marker ≡ m = cc in
        subst (λ x. KeepsRises o.pulses (get_or o.markers p 0) ps x) is (subst (λ k. KeepsRises o.pulses (get_or o.markers k 0) ps marker) (sym same) keeps)
    go p m e (inr other) = h p m (sym (get_or-set_other known place p (Some marker) None other) ∙ e)

-- a marker is known after an edit
abbrev pub IsFollowed : Option Place → ℕ → ℕ → Option ℕ → ℕ → Type 0
IsFollowed None before after one n = ⊥
IsFollowed (Some p) before after one n = Follows p.at p.come before after one (Some n)

-- so up to a place
pub record AreFollowed (place : Option Place) (before after : ℕ) (old new : List (Option ℕ)) (i : ℕ) : Type 0 where
  pub done : (p n : ℕ) → p < i → get_or new p None ≡ Some n → IsFollowed place before after (get_or old p None) n
  pub left : (p : ℕ) → i ≤ p → get_or new p None ≡ get_or old p None
  pub long : length new ≡ length old

pub followed_none : (place : Option Place) (before after : ℕ) (old : List (Option ℕ)) → AreFollowed place before after old old 0
followed_none place before after old = record {
  done = λ p n less e. absurd (omega (arith, less));
  left = λ p le. refl;
  long = refl;
}

is_followed : (place : Option Place) (before after : ℕ) (one v : Option ℕ) (n : ℕ) → (place ≡ None → v ≡ None)
    → IfSome place (λ p. Follows p.at p.come before after one v) → v ≡ Some n → IsFollowed place before after one n
is_followed None before after one v n none some e = none_some v n (none refl) e
is_followed (Some p) before after one v n none some e = subst (λ x. Follows p.at p.come before after one x) e some

pub followed_more : (place : Option Place) (before after : ℕ) (old new : List (Option ℕ)) (i : ℕ) (v : Option ℕ) → i < length new
    → (place ≡ None → v ≡ None) → IfSome place (λ p. Follows p.at p.come before after (get_or new i None) v)
    → AreFollowed place before after old new i → AreFollowed place before after old (set new i v) (i + 1)
followed_more place before after old new i v within none some h = record {
  done = λ p n less e. go p n less e (same_place p i);
  left = λ p le. get_or-set_other new i p v None (λ e. absurd (omega (arith, le, e))) ∙ h.left p (omega (arith, le));
  long = length-set new i v ∙ h.long;
}
  where
    lower : (p : ℕ) → p < i + 1 → p ≢ i → (p < i) ⊎ (i ≤ p) → p < i
    lower p less other (inl is) = is
    lower p less other (inr le) = let same : p ≡ i = omega (arith, less, le) in absurd (other same)

    go : (p n : ℕ) → p < i + 1 → get_or (set new i v) p None ≡ Some n → (p ≡ i) ⊎ (p ≢ i) → IsFollowed place before after (get_or old p None) n
    go p n less e (inl same) =
        let there : v ≡ Some n = sym (get_or-set_at new i p v None same within) ∙ e in
        let was : get_or new i None ≡ get_or old p None = h.left i (omega arith) ∙ ap (λ k. get_or old k None) (sym same) in
        subst (λ x. IsFollowed place before after x n) was (is_followed place before after (get_or new i None) v n none some there)
    go p n less e (inr other) = h.done p n (lower p less other (cases_lt p i)) (sym (get_or-set_other new i p v None other) ∙ e)

pub known_after : (o : OriginalView) (ps qs : List Pulse) (place : Option Place) (before after : ℕ) (old new : List (Option ℕ)) (i : ℕ)
    → IfSome place (λ p. Became p.at p.come ps qs) → length ps ≡ before → length qs ≡ after → length new ≤ i
    → AreFollowed place before after old new i → AreKnown o ps old → AreKnown o qs new
known_after o ps qs place before after old new i change b a end h known = λ p m e. go p m place change (h.done p m (within p m e (cases_lt p i)) e)
  where
    within : (p m : ℕ) → get_or new p None ≡ Some m → (p < i) ⊎ (i ≤ p) → p < i
    within p m e (inl less) = less
    within p m e (inr le) = absurd (none_some (get_or new p None) m (get_or_past new p None (omega (arith, le, end))) e)

    some : (at come : ℕ) (p m : ℕ) (one : Option ℕ) → get_or old p None ≡ one → Became at come ps qs → Follows at come before after one (Some m)
        → KeepsRises o.pulses (get_or o.markers p 0) qs m
    some at come p m None is change follows = absurd follows
    some at come p m (Some l) is change follows =
        still_known o.pulses ps qs (get_or o.markers p 0) at come l m change
        (subst (λ x. Follows at come x (length qs) (Some l) (Some m)) (sym b) (subst (λ x. Follows at come before x (Some l) (Some m)) (sym a) follows))
        (known p l is)

    go : (p m : ℕ) (place : Option Place) → IfSome place (λ p. Became p.at p.come ps qs) → IsFollowed place before after (get_or old p None) m
        → KeepsRises o.pulses (get_or o.markers p 0) qs m
    go p m None change follows = absurd follows
    go p m (Some x) change follows = some x.at x.come p m (get_or old p None) refl change follows
