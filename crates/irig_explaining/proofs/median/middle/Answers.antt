use Rattle.std.proofs.Common.{◌≡◌, ◌/◌, ◌<◌, ◌∙◌, ℕ, List, length, get_or, sym, subst, arith}
use Rattle.std.specs.List.Sorted.{IsPermutation}
use Rattle.std.proofs.lemmas.Option.{get_or_from_slice_get, slice_get-get_or}
use Rattle.std.proofs.lemmas.List.Sorted.{IsNonDecreasingBy-from_sort, length_permutation}
use Rattle.irig_explaining.proofs.median.middle.Goals as goal

-- within a list nothing depends on what is read past its end
any_default : (xs : List ℕ) (i d e : ℕ) → i < length xs → get_or xs i d ≡ get_or xs i e
any_default xs i d e lt = get_or_from_slice_get xs i (get_or xs i e) d (slice_get-get_or xs i e lt)

pub returns : goal.returns
returns c =
    let xs = c.args.numbers.items in let ys = c.sort_unstable.new.self.items in let x = c.index.result.now in
    let same : IsPermutation xs ys = c.sort_unstable.ensures.permutation in
    let all : length ys ≡ length xs = length_permutation xs ys same in
    let half : c.len-half.result ≡ length xs = omega (arith, c.len-half.ensures, all) in
    let lt : length xs / 2 < length ys = omega (arith, c.if-len-half.false, c.len-half.ensures, c.len.ensures, all) in
    let at : x ≡ get_or ys (length xs / 2) x = subst (λ n. x ≡ get_or ys (n / 2) x) half c.index.ensures in
    record {
      sorted = ys;
      same = same;
      rising = IsNonDecreasingBy-from_sort (λ n. n) ys c.sort_unstable.ensures.sorted;
      middle = any_default ys (length xs / 2) 0 x lt ∙ sym at;
    }
