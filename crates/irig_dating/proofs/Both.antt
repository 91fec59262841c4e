-- What comes before a candidate, and what comes after it, make a choice.
use Rattle.std.proofs.Common.{◌≡◌, ◌+◌, ◌-◌, ◌<◌, ◌≤◌, ℕ, zero, suc, List, [], ◌∷◌, length, get_or, slice_get, Some, ap, arith, refl, sym, subst}
use Rattle.std.specs.Global.{Vec}
use Rattle.irig_dating.specs.Choices.{Prices, AreChosen, IsChoice, cost, cost_from}
use Rattle.irig_dating.specs.Rows.{AreRows, IsLeast, IsRow}
use Rattle.irig_dating.specs.Sure.{Has, IsWith, turned}
use Rattle.irig_dating.proofs.Growing.{row_at}

-- a list, its last one first, and another one after it
abbrev pub onto : List ℕ → List ℕ → List ℕ
onto [] ys = ys
onto (x ∷ xs) ys = onto xs (x ∷ ys)

length_onto : (xs ys : List ℕ) → length (onto xs ys) ≡ length xs + length ys
length_onto [] ys = omega arith
length_onto (x ∷ xs) ys = let e = length_onto xs (x ∷ ys) in omega (arith, e)

at_onto : (xs ys : List ℕ) (i : ℕ) → slice_get (onto xs ys) (length xs + i) ≡ slice_get ys i
at_onto [] ys i = subst (λ n. slice_get ys n ≡ slice_get ys i) (let e : i ≡ 0 + i = omega arith in e) refl
at_onto (x ∷ xs) ys i =
    subst (λ n. slice_get (onto xs (x ∷ ys)) n ≡ slice_get ys i) (let e : length xs + suc i ≡ suc (length xs) + i = omega arith in e)
    (at_onto xs (x ∷ ys) (suc i))

-- a list that is cut at one of its items
pub record Cut (t : ℕ) (cs : List ℕ) : Type 0 where
  pub before : List ℕ
  pub at : ℕ
  pub after : List ℕ
  pub whole : onto before (at ∷ after) ≡ cs
  pub count : length before ≡ t

cut_more : (t : ℕ) (done rest : List ℕ) → t < length rest → Cut (length done + t) (onto done rest)
cut_more t done [] lt = absurd (omega arith)
cut_more zero done (c ∷ cs) lt = record { before = done; at = c; after = cs; whole = refl; count = omega arith }
cut_more (suc t) done (c ∷ cs) lt =
    subst (λ n. Cut n (onto done (c ∷ cs))) (let e : length (c ∷ done) + t ≡ length done + suc t = omega arith in e)
    (cut_more t (c ∷ done) cs (omega arith))

pub cut : (t : ℕ) (cs : List ℕ) → t < length cs → Cut t cs
cut t cs lt = subst (λ n. Cut n cs) (let e : 0 + t ≡ t = omega arith in e) (cut_more t [] cs lt)

-- candidates from the last bit on are some of the bits
pub chosen_onto : (p : Prices) (bits t : ℕ) (xs ys : List ℕ) → length xs ≡ t → t ≤ bits → AreChosen (turned bits p) (bits - t) xs
    → AreChosen p t ys → AreChosen p 0 (onto xs ys)
chosen_onto p bits t [] ys count le before after = subst (λ n. AreChosen p n ys) (let e : t ≡ 0 = omega arith in e) after
chosen_onto p bits zero (x ∷ xs) ys count le before after = absurd (cc)
chosen_onto p bits (suc t) (x ∷ xs) ys count le before after =
    chosen_onto p bits t xs (x ∷ ys) (omega arith) (omega arith)
    (subst (λ n. AreChosen (turned bits p) n xs) (let e : bits - suc t + 1 ≡ bits - t = omega arith in e) before.1) (
      subst (λ n. x ≤ p.last n) (let e : bits - 1 - (bits - suc t) ≡ t = omega arith in e) before.0,
      subst (λ n. AreChosen p n ys) (let e : suc t ≡ t + 1 = omega arith in e) after,
    )

pub record AreBoth (p : Prices) (bits t : ℕ) (xs ys : List ℕ) : Type 0 where
  pub before : AreChosen (turned bits p) (bits - t) xs
  pub after : AreChosen p t ys

-- and the other way round
pub both_chosen : (p : Prices) (bits t : ℕ) (xs ys : List ℕ) → length xs ≡ t → t ≤ bits → AreChosen p 0 (onto xs ys)
    → AreBoth p bits t xs ys
both_chosen p bits t [] ys count le all = record {
  before = tt;
  after = subst (λ n. AreChosen p n ys) (let e : 0 ≡ t = omega arith in e) all;
}
both_chosen p bits zero (x ∷ xs) ys count le all = absurd (cc)
both_chosen p bits (suc t) (x ∷ xs) ys count le all =
    let both = both_chosen p bits t xs (x ∷ ys) (omega arith) (omega arith) all in record {
      before = (
        subst (λ n. x ≤ p.last n) (let e : t ≡ bits - 1 - (bits - suc t) = omega arith in e) both.after.0,
        subst (λ n. AreChosen (turned bits p) n xs) (let e : bits - t ≡ bits - suc t + 1 = omega arith in e) both.before,
      );
      after = subst (λ n. AreChosen p n ys) (let e : t + 1 ≡ suc t = omega arith in e) both.after.1;
    }

-- a choice costs what comes before one of its candidates, that itself, and what comes after it
pub cost_onto : (p : Prices) (bits t c : ℕ) (xs ys : List ℕ) → length xs ≡ t → t < bits
    → cost p (onto xs (c ∷ ys)) ≡ cost_from (turned bits p) (bits - t) (Some c) xs + p.pay t c + cost_from p (t + 1) (Some c) ys
cost_onto p bits zero c [] ys count lt = omega arith
cost_onto p bits (suc t) c [] ys count lt = absurd (cc)
cost_onto p bits zero c (x ∷ xs) ys count lt = absurd (cc)
cost_onto p bits (suc t) c (x ∷ xs) ys count lt =
    let all = cost_onto p bits t x xs (c ∷ ys) (omega arith) (omega arith) in
    let at : p.pay (bits - 1 - (bits - suc t)) x ≡ p.pay t x = ap (λ n. p.pay n x) (let e : bits - 1 - (bits - suc t) ≡ t = omega arith in e) in
    let join_at : p.join (bits - (bits - suc t)) x c ≡ p.join (t + 1) x c =
    ap (λ n. p.join n x c) (let e : bits - (bits - suc t) ≡ t + 1 = omega arith in e) in
    let next : cost_from (turned bits p) (bits - suc t + 1) (Some x) xs ≡ cost_from (turned bits p) (bits - t) (Some x) xs =
    ap (λ n. cost_from (turned bits p) n (Some x) xs) (let e : bits - suc t + 1 ≡ bits - t = omega arith in e) in
    let more : suc t ≡ t + 1 = omega arith in
    let pay : p.pay (suc t) c ≡ p.pay (t + 1) c = ap (λ n. p.pay n c) more in
    let rest : cost_from p (suc t + 1) (Some c) ys ≡ cost_from p (t + 1 + 1) (Some c) ys = ap (λ n. cost_from p (n + 1) (Some c) ys) more in
    omega (arith, all, at, join_at, next, pay, rest)

-- the cheapest choice with a candidate
pub least_with : (p : Prices) (bits t c x y : ℕ) → t < bits → IsLeast (turned bits p) bits (bits - t) (Some c) x
    → IsLeast p bits (t + 1) (Some c) y → (cs : List ℕ) → IsChoice p bits cs → Has t c cs → x + p.pay t c + y ≤ cost p cs
least_with p bits t c x y lt before after cs is has =
    let parts = cut t cs (let e = is.0 in omega arith) in
    let all = subst (λ l. length l ≡ length parts.before + length (parts.at ∷ parts.after)) parts.whole
    (length_onto parts.before (parts.at ∷ parts.after)) in
    let there = at_onto parts.before (parts.at ∷ parts.after) 0 in
    let count = parts.count in
    let here : slice_get cs t ≡ Some parts.at =
    subst (λ l. slice_get l t ≡ Some parts.at) parts.whole
    (subst (λ n. slice_get (onto parts.before (parts.at ∷ parts.after)) n ≡ Some parts.at)
    (let e : length parts.before + 0 ≡ t = omega arith in e) there) in
    let had : slice_get cs t ≡ Some c = has in
    let same : parts.at ≡ c = cc in
    let chosen = both_chosen p bits t parts.before (parts.at ∷ parts.after) count (omega arith)
    (subst (λ l. AreChosen p 0 l) (sym parts.whole) is.1) in
    let costs : cost p (onto parts.before (parts.at ∷ parts.after))
    ≡ cost_from (turned bits p) (bits - t) (Some c) parts.before + p.pay t c + cost_from p (t + 1) (Some c) parts.after =
    subst (λ k. cost p (onto parts.before (parts.at ∷ parts.after))
    ≡ cost_from (turned bits p) (bits - t) (Some k) parts.before + p.pay t k + cost_from p (t + 1) (Some k) parts.after)
    same (cost_onto p bits t parts.at parts.before parts.after count lt) in
    let n = is.0 in
    let one = before.low parts.before (omega arith, chosen.before) in
    let other = after.low parts.after (omega (arith, all), chosen.after.1) in
    subst (λ l. x + p.pay t c + y ≤ cost p l) parts.whole (omega (arith, one, other, costs))

-- each choice has some candidate
pub record HasSome (p : Prices) (t : ℕ) (cs : List ℕ) : Type 0 where
  pub candidate : ℕ
  pub there : candidate ≤ p.last t
  pub has : Has t candidate cs

some_at : (p : Prices) (first t : ℕ) (cs : List ℕ) → t < length cs → AreChosen p first cs
    → (c : ℕ) × (c ≤ p.last (first + t)) × (slice_get cs t ≡ Some c)
some_at p first t [] lt h = absurd (omega arith)
some_at p first zero (c ∷ cs) lt h = (c, subst (λ n. c ≤ p.last n) (let e : first ≡ first + 0 = omega arith in e) h.0, refl)
some_at p first (suc t) (c ∷ cs) lt h =
    let some = some_at p (first + 1) t cs (omega arith) h.1 in
    (some.0, subst (λ n. some.0 ≤ p.last n) (let e : first + 1 + t ≡ first + suc t = omega arith in e) some.1, some.2)

pub has_some : (p : Prices) (bits t : ℕ) (cs : List ℕ) → t < bits → IsChoice p bits cs → HasSome p t cs
has_some p bits t cs lt is =
    let some = some_at p 0 t cs (let n = is.0 in omega arith) is.1 in record {
      candidate = some.0;
      there = subst (λ n. some.0 ≤ p.last n) (let e : 0 + t ≡ t = omega arith in e) some.1;
      has = some.2;
    }

pub some_with : (p : Prices) (bits t c x y : ℕ) → t < bits → c ≤ p.last t → IsLeast (turned bits p) bits (bits - t) (Some c) x
    → IsLeast p bits (t + 1) (Some c) y → IsWith p bits t c (x + p.pay t c + y)
some_with p bits t c x y lt le before after =
    let one = before.possible.0 in let other = after.possible.0 in
    let count : length before.rest ≡ t = omega arith in record {
      choice = onto before.rest (c ∷ after.rest);
      possible = (
        let e = length_onto before.rest (c ∷ after.rest) in omega (arith, e),
        chosen_onto p bits t before.rest (c ∷ after.rest) count (omega arith) before.possible.1 (le, after.possible.1),
      );
      has = subst (λ n. slice_get (onto before.rest (c ∷ after.rest)) n ≡ Some c) (let e : length before.rest + 0 ≡ t = omega arith in e)
          (at_onto before.rest (c ∷ after.rest) 0);
      exact = let e = cost_onto p bits t c before.rest after.rest count lt in omega (arith, e, before.exact, after.exact);
    }

-- what the tables have for a candidate
pub before_entry : (p : Prices) (bits t c : ℕ) (rows : List (Vec ℕ)) (row : Vec ℕ) → t < bits → c ≤ p.last t → length rows ≡ bits
    → AreRows (turned bits p) bits rows → row ≡ get_or rows t row
    → (c < length row.items) × IsLeast (turned bits p) bits (bits - t) (Some c) (get_or row.items c 0)
before_entry p bits t c rows row lt le all are is =
    let q = turned bits p in
    let row_is : IsRow q bits (bits - 1 - t) row.items = row_at q bits rows (bits - 1 - t) t row are (omega arith) refl is in
    let last : c ≤ p.last (bits - 1 - (bits - 1 - t)) =
    subst (λ n. c ≤ p.last n) (let e : t ≡ bits - 1 - (bits - 1 - t) = omega arith in e) le in (
      let full = row_is.full in omega arith,
      subst (λ n. IsLeast q bits n (Some c) (get_or row.items c 0)) (let e : bits - 1 - t + 1 ≡ bits - t = omega arith in e) (row_is.each c last),
    )

pub after_entry : (p : Prices) (bits t c : ℕ) (rows : List (Vec ℕ)) (row : Vec ℕ) → t < bits → c ≤ p.last t → length rows ≡ bits
    → AreRows p bits rows → row ≡ get_or rows (bits - 1 - t) row
    → (c < length row.items) × IsLeast p bits (t + 1) (Some c) (get_or row.items c 0)
after_entry p bits t c rows row lt le all are is =
    let row_is : IsRow p bits t row.items = row_at p bits rows t (bits - 1 - t) row are (omega arith) (omega arith) is in
    (let full = row_is.full in omega arith, row_is.each c le)
