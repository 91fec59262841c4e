-- A search among the rises of pulses.
use Rattle.std.proofs.Common.{◌≡◌, ◌==◌, ◌<◌, ◌≤◌, ◌-◌, ◌∙◌, ℕ, true, false, List, ap, arith, get_or, inl, inr, length, nat_lt, sym}
use Rattle.std.specs.List.{list_any}
use Rattle.std.specs.List.Sorted.{IsNonDecreasingBy}
use Rattle.std.proofs.lemmas.List.Folds.{list_any_at, list_any_none}
use Rattle.std.proofs.lemmas.Bool.{cases_lt, cases_order}
use Rattle.std.proofs.lemmas.Bool.Decides.{nat_tests}
use Rattle.std.proofs.lemmas.Option.{get_or_from_slice_get, slice_get-get_or}
use Rattle.irig_recording.specs.declared.pulse.Pulse.{Pulse}

not_same : (m n : ℕ) → (m ≡ n → ⊥) → (m == n) ≡ false
not_same m n other = grind (arith, nat_tests)

is_one : (m n : ℕ) → m ≡ n → (m == n) ≡ true
is_one m n same = grind (arith, nat_tests)

-- none before a place, and the place has it or all from there on are later
pub rise_here : (key : Pulse → ℕ) (ps : List Pulse) (t place : ℕ) (d : Pulse) → place < length ps → key (get_or ps place d) ≡ t
    → list_any (λ p. key p == t) ps ≡ true
rise_here key ps t place d within same = list_any_at (λ p. key p == t) ps place d within (is_one (key (get_or ps place d)) t same)

pub rise_none : (key : Pulse → ℕ) (ps : List Pulse) (t place : ℕ) → IsNonDecreasingBy key ps
    → ((j : ℕ) (d : Pulse) → j < place → j < length ps → key (get_or ps j d) < t)
    → ((d : Pulse) → place < length ps → t < key (get_or ps place d)) → list_any (λ p. key p == t) ps ≡ false
rise_none key ps t place up before after =
    list_any_none (λ p. key p == t) ps (λ j d within. not_same (key (get_or ps j d)) t (λ same. elim (cases_lt j place) [
      | inl less ↦ let low = before j d less within in omega (arith, low, same)
      | inr from ↦
          let high = after d (omega (arith, from, within)) in
          let more = up place j d from within in
          omega (arith, high, more, same)
    ]))

pub rise_at : (key : Pulse → ℕ) (ps : List Pulse) (t place : ℕ) (d : Pulse) → IsNonDecreasingBy key ps
    → ((j : ℕ) (e : Pulse) → j < place → j < length ps → key (get_or ps j e) < t)
    → ((e : Pulse) → place < length ps → t ≤ key (get_or ps place e)) → place < length ps
    → (key (get_or ps place d) == t) ≡ list_any (λ p. key p == t) ps
rise_at key ps t place d up before from within = elim (cases_order (key (get_or ps place d)) t) [
  | inl same ↦ is_one (key (get_or ps place d)) t same ∙ sym (rise_here key ps t place d within same)
  | inr other ↦ elim other [
    | inl less ↦ let least = from d within in absurd (omega (arith, less, least))
    | inr more ↦ not_same (key (get_or ps place d)) t (λ same. omega (arith, more, same))
        ∙ sym (rise_none key ps t place up before (λ e within. let least = from e within in later e least within more))
  ]
]
  where
    same_item : (ps : List Pulse) (k : ℕ) (d e : Pulse) → k < length ps → get_or ps k d ≡ get_or ps k e
    same_item ps k d e within = get_or_from_slice_get ps k (get_or ps k e) d (slice_get-get_or ps k e within)

    later : (e : Pulse) → t ≤ key (get_or ps place e) → place < length ps → t < key (get_or ps place d) → t < key (get_or ps place e)
    later e least within more = let one = up place place e (omega arith) within in let same = same_item ps place d e within in omega (arith, more, ap key same)

not_less : (m n : ℕ) → n ≤ m → nat_lt m n ≡ false
not_less m n most = grind (arith, nat_tests)

pub rise_past : (key : Pulse → ℕ) (ps : List Pulse) (t place : ℕ) → IsNonDecreasingBy key ps
    → ((j : ℕ) (e : Pulse) → j < place → j < length ps → key (get_or ps j e) < t) → length ps ≤ place
    → nat_lt place (length ps) ≡ list_any (λ p. key p == t) ps
rise_past key ps t place up before past =
    not_less place (length ps) past ∙ sym (rise_none key ps t place up before (λ d within. absurd (omega (arith, past, within))))

-- none before a place rises at a time or later, if the one right before it does not
pub all_early : (key : Pulse → ℕ) (ps : List Pulse) (t place : ℕ) (e : Pulse) → IsNonDecreasingBy key ps → place < length ps → 0 < place
    → key (get_or ps (place - 1) e) < t → (j : ℕ) (d : Pulse) → j < place → j < length ps → key (get_or ps j d) < t
all_early key ps t place e up there some early j d less within =
    let more = up j (place - 1) d (omega (arith, less)) (omega (arith, there)) in
    let same : get_or ps (place - 1) d ≡ get_or ps (place - 1) e =
    get_or_from_slice_get ps (place - 1) (get_or ps (place - 1) e) d (slice_get-get_or ps (place - 1) e (omega (arith, there))) in
    omega (arith, more, early, ap key same)

pub at_place : (key : Pulse → ℕ) (ps : List Pulse) (t place : ℕ) (e d : Pulse) → place < length ps → t ≤ key (get_or ps place e)
    → t ≤ key (get_or ps place d)
at_place key ps t place e d there least =
    let same : get_or ps place d ≡ get_or ps place e = get_or_from_slice_get ps place (get_or ps place e) d (slice_get-get_or ps place e there) in
    omega (arith, least, ap key same)
