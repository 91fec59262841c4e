-- Frames of other recordings, one by one.
use Rattle.std.proofs.Common.{◌≡◌, ◌∙◌, ◌+◌, ◌≤◌, ◌++◌, ℕ, Bool, true, false, List, [], ◌∷◌, Option, None, Some, ap, arith, drop}
use Rattle.std.proofs.Common.{◌||◌, append_assoc, if◌then◌else◌, length, slice_get, sym}
use Rattle.std.proofs.lemmas.List.{append-nil, drop_all}
use Rattle.irig_codes.specs.Format.{FormatView}
use Rattle.irig_safety.specs.Others.{backed, backed_from, is_among, is_backed, is_of_time, is_vote, votes}
use Rattle.irig_safety.specs.{Safety.behind, declared.shown.Shown.Shown}
use Rattle.irig_safety.proofs.SafetyLemmas.{drop-item, first_from, next_behind}

-- with those from a place on, all votes
abbrev pub Votes : Bool → ℕ → List Shown → Shown → ℕ → ℕ → Type 0
Votes so k others y many i = (many ≤ i) × (many + votes so k (drop i others) y ≡ votes so k others y)

pub vote_none : (so : Bool) (k : ℕ) (others : List Shown) (y : Shown) → Votes so k others y 0 0
vote_none so k others y = let all : 0 + votes so k others y ≡ votes so k others y = omega arith in (omega arith, all)

pub vote_same : {m n : ℕ} → m ≡ n → m ≡ n + 0
vote_same e = omega (arith, e)

pub vote_on : (so : Bool) (k : ℕ) (others : List Shown) (x y : Shown) (many more i : ℕ) (b : Bool) → slice_get others i ≡ Some x
    → b ≡ is_vote so k x y → more ≡ many + (if b then 1 else 0) → Votes so k others y many i → Votes so k others y more (i + 1)
vote_on so k others x y many more i true here is sum h =
    let one : votes so k (drop i others) y ≡ 1 + votes so k (drop (i + 1) others) y =
    ap (λ l. votes so k l y) (drop-item others i x here) ∙ ap (λ (c : Bool). (if c then 1 else 0) + votes so k (drop (i + 1) others) y) (sym is) in
    let most = h.0 in let all = h.1 in
    (omega (arith, sum, most), omega (arith, sum, one, all))
vote_on so k others x y many more i false here is sum h =
    let one : votes so k (drop i others) y ≡ 0 + votes so k (drop (i + 1) others) y =
    ap (λ l. votes so k l y) (drop-item others i x here) ∙ ap (λ (c : Bool). (if c then 1 else 0) + votes so k (drop (i + 1) others) y) (sym is) in
    let most = h.0 in let all = h.1 in
    (omega (arith, sum, most), omega (arith, sum, one, all))

pub vote_all : (so : Bool) (k : ℕ) (others : List Shown) (y : Shown) (many i : ℕ) → length others ≤ i → Votes so k others y many i
    → many ≡ votes so k others y
vote_all so k others y many i past h =
    let none : votes so k (drop i others) y ≡ 0 = ap (λ l. votes so k l y) (drop_all i others past) in
    let all = h.1 in
    omega (arith, none, all)

-- with those from a place on, whether one of all has the time
abbrev pub Among : List Shown → Shown → ℕ → Type 0
Among others y i = is_among others y ≡ is_among (drop i others) y

among_at : (others : List Shown) (x y : Shown) (i : ℕ) (b : Bool) → slice_get others i ≡ Some x → b ≡ is_of_time x.fields y.fields
    → is_among (drop i others) y ≡ (b || is_among (drop (i + 1) others) y)
among_at others x y i b here is =
    ap (λ l. is_among l y) (drop-item others i x here) ∙ ap (λ (c : Bool). c || is_among (drop (i + 1) others) y) (sym is)

pub among_on : (others : List Shown) (x y : Shown) (i : ℕ) (b : Bool) → slice_get others i ≡ Some x → b ≡ is_of_time x.fields y.fields → b ≡ false
    → Among others y i → Among others y (i + 1)
among_on others x y i b here is not h =
    h ∙ (among_at others x y i b here is ∙ ap (λ (c : Bool). c || is_among (drop (i + 1) others) y) not)

pub among_found : (others : List Shown) (x y : Shown) (i : ℕ) (b : Bool) → slice_get others i ≡ Some x → b ≡ is_of_time x.fields y.fields → b ≡ true
    → Among others y i → true ≡ is_among others y
among_found others x y i b here is so h =
    sym (h ∙ (among_at others x y i b here is ∙ ap (λ (c : Bool). c || is_among (drop (i + 1) others) y) so))

pub among_none : (others : List Shown) (y : Shown) (i : ℕ) → length others ≤ i → Among others y i → false ≡ is_among others y
among_none others y i past h = sym (h ∙ ap (λ l. is_among l y) (drop_all i others past))

-- with those from a place on, all that count
abbrev pub Backs : FormatView → List Shown → List Shown → ℕ → Type 0
Backs f frames kept i = kept ++ backed_from f (behind i frames) (drop i frames) ≡ backed f frames

back_one : (f : FormatView) (frames : List Shown) (i : ℕ) (y : Shown) → slice_get frames i ≡ Some y
    → backed_from f (behind i frames) (drop i frames)
    ≡ (if is_backed f (behind i frames) y (slice_get frames (i + 1)) then y ∷ [] else []) ++ backed_from f (behind (i + 1) frames) (drop (i + 1) frames)
back_one f frames i y here =
    ap (backed_from f (behind i frames)) (drop-item frames i y here)
    ∙ (λ j. (if is_backed f (behind i frames) y (first_from (i + 1) frames j) then y ∷ [] else [])
    ++ backed_from f (sym (next_behind i frames ∙ here) j) (drop (i + 1) frames))

back_on : (f : FormatView) (frames kept more : List Shown) (i : ℕ) (a : Option Shown) (y : Shown) (b : Option Shown) (is : Bool) → slice_get frames i ≡ Some y
    → a ≡ behind i frames → b ≡ slice_get frames (i + 1) → is_backed f a y b ≡ is → more ≡ kept ++ (if is then y ∷ [] else []) → Backs f frames kept i
    → Backs f frames more (i + 1)
back_on f frames kept more i a y b is here before after e put h =
    let same : is ≡ is_backed f (behind i frames) y (slice_get frames (i + 1)) = sym e ∙ (λ j. is_backed f (before j) y (after j)) in
    ap (λ l. l ++ backed_from f (behind (i + 1) frames) (drop (i + 1) frames)) (put ∙ ap (λ (c : Bool). kept ++ (if c then y ∷ [] else [])) same)
    ∙ (append_assoc kept (if is_backed f (behind i frames) y (slice_get frames (i + 1)) then y ∷ [] else [])
    (backed_from f (behind (i + 1) frames) (drop (i + 1) frames)) ∙ (ap (λ l. kept ++ l) (sym (back_one f frames i y here)) ∙ h))

pub back_more : (f : FormatView) (frames kept more : List Shown) (i : ℕ) (a : Option Shown) (y : Shown) (b : Option Shown) → slice_get frames i ≡ Some y
    → a ≡ behind i frames → b ≡ slice_get frames (i + 1) → is_backed f a y b ≡ true → more ≡ kept ++ y ∷ [] → Backs f frames kept i
    → Backs f frames more (i + 1)
back_more f frames kept more i a y b here before after e put h = back_on f frames kept more i a y b true here before after e put h

pub back_same : (f : FormatView) (frames kept more : List Shown) (i : ℕ) (a : Option Shown) (y : Shown) (b : Option Shown) → slice_get frames i ≡ Some y
    → a ≡ behind i frames → b ≡ slice_get frames (i + 1) → is_backed f a y b ≡ false → more ≡ kept → Backs f frames kept i
    → Backs f frames more (i + 1)
back_same f frames kept more i a y b here before after e put h =
    back_on f frames kept more i a y b false here before after e (put ∙ sym (append-nil kept)) h

pub back_none : (f : FormatView) (frames kept : List Shown) → kept ≡ [] → Backs f frames kept 0
back_none f frames kept e = ap (λ l. l ++ backed_from f None frames) e

pub back_all : (f : FormatView) (frames kept : List Shown) (i : ℕ) → length frames ≤ i → Backs f frames kept i → kept ≡ backed f frames
back_all f frames kept i past h =
    sym (append-nil kept) ∙ (ap (λ l. kept ++ backed_from f (behind i frames) l) (sym (drop_all i frames past)) ∙ h)
