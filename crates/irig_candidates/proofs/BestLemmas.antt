-- The base that costs least so far.
use Rattle.std.proofs.Common.{◌≡◌, ℕ, ◌+◌, ◌<◌, ◌≤◌, List, get_or, take, length, sym, subst, arith, Option, Some, None, IfSome, MatchOption}
use Rattle.std.specs.List.{All}
use Rattle.std.proofs.lemmas.List.{take_all}
use Rattle.std.proofs.lemmas.List.Elements.{All-more, All-nil, All-same, All-weaker}
use Rattle.irig_codes.specs.Format.{FormatView}
use Rattle.irig_candidates.specs.{Bits.cost_of, declared.bit.Bit.Bit, declared.found.Found.Found}

-- the cost of a base is known
abbrev pub IsExact : FormatView → List Bit → Found → Type 0
IsExact f bits x = cost_of f x.base bits ≡ x.cost

-- no other one costs less
abbrev pub IsLeast : FormatView → List Bit → List ℕ → Found → Type 0
IsLeast f bits xs x = All (λ other. x.cost ≤ cost_of f other bits) xs

pub least-more : (f : FormatView) (bits : List Bit) (best : Option Found) (xs : List ℕ) (i : ℕ) (new : Found) → i < length xs
    → MatchOption best (i ≡ 0) (IsLeast f bits (take i xs)) → new.cost ≤ cost_of f (get_or xs i 0) bits → IfSome best (λ x. new.cost ≤ x.cost)
    → IsLeast f bits (take (i + 1) xs) new
least-more f bits None xs i new h none own less =
    let P : ℕ → Type 0 = λ other. new.cost ≤ cost_of f other bits in
    All-more P xs i 0 h (subst (λ n. All P (take n xs)) (sym none) (All-nil P)) own
least-more f bits (Some x) xs i new h least own less =
    let P : ℕ → Type 0 = λ other. new.cost ≤ cost_of f other bits in
    let Q : ℕ → Type 0 = λ other. x.cost ≤ cost_of f other bits in
    All-more P xs i 0 h (All-weaker Q P (λ other k. omega (arith, k, less)) (take i xs) least) own

pub least-end : (f : FormatView) (bits : List Bit) (best : Option Found) (found : Found) (xs : List ℕ) (i : ℕ) → best ≡ Some found
    → IfSome best (IsExact f bits) → MatchOption best (i ≡ 0) (IsLeast f bits (take i xs)) → length xs ≤ i
    → All (λ other. cost_of f found.base bits ≤ cost_of f other bits) xs
least-end f bits best found xs i is exact least end =
    let P : ℕ → Type 0 = λ other. cost_of f found.base bits ≤ cost_of f other bits in
    let Q : ℕ → Type 0 = λ other. found.cost ≤ cost_of f other bits in
    let known : cost_of f found.base bits ≡ found.cost = subst (λ (o : Option Found). IfSome o (IsExact f bits)) is exact in
    let all : All Q (take i xs) = subst (λ (o : Option Found). MatchOption o (i ≡ 0) (IsLeast f bits (take i xs))) is least in
    All-same P xs (take i xs) (sym (take_all i xs end)) (All-weaker Q P (λ other k. omega (arith, k, known)) (take i xs) all)
