use Rattle.std.proofs.Common.{◌≡◌, ◌⊎◌, ◌-◌, ◌<◌, ◌≤◌, ◌^◌, ℕ, length, get_or, slice_get, Some, sym, subst, inl, inr, arith, ap}
use Rattle.std.proofs.Math.Nat.{mul-le-mul_left}
use Rattle.std.proofs.lemmas.Bool.{cases_lt}
use Rattle.std.proofs.lemmas.Option.{get_or_from_slice_get, slice_get-get_or}
use Rattle.std.proofs.lemmas.List.Elements.{Contains-get_or}
use Rattle.irig_explaining.specs.declared.nodes.Node.{Node}
use Rattle.irig_explaining.specs.{Bounds.EndsBelow, Ends.ending}
use Rattle.irig_explaining.proofs.Members.{at_contains, no_node}
use Rattle.irig_explaining.proofs.EndsSoFar.{in_table, end_small}
use Rattle.irig_explaining.proofs.bounds.ends_below.Goals as goal

pub of_rises_before-count-requires : goal.of_rises_before-count-requires
of_rises_before-count-requires c = c.requires.table.1.sorted

pub is_early-requires-clause-there : goal.is_early-requires-clause-there
is_early-requires-clause-there c =
    let i = c.of_rises_before-count.result - 1 - c.loop-back.back in let below = c.of_rises_before-count.ensures.below in
    (in_table c.args.rises c.args.nodes.now i c.requires.table (omega (arith, below))).rise

pub with_end-least-requires-clause-there : goal.with_end-least-requires-clause-there
with_end-least-requires-clause-there c =
    let i = c.of_rises_before-count.result - 1 - c.loop-back.back in let below = c.of_rises_before-count.ensures.below in
    (in_table c.args.rises c.args.nodes.now i c.requires.table (omega (arith, below))).rise

pub with_end-least-requires-clause-small : goal.with_end-least-requires-clause-small
with_end-least-requires-clause-small c =
    let i = c.of_rises_before-count.result - 1 - c.loop-back.back in let below = c.of_rises_before-count.ensures.below in
    let nodes = c.args.nodes.now in let fits : c.args.rises.skip < 2 ^ 32 = omega arith in
    let lt : i < length nodes = omega (arith, below) in
    end_small c.args.rises (get_or nodes i no_node) (2 ^ 30) (in_table c.args.rises nodes i c.requires.table lt) fits c.requires.few (omega arith)

pub loop-back-preserved : goal.loop-back-preserved
loop-back-preserved c =
    let count = c.of_rises_before-count.result in let split = c.of_rises_before-count.ensures in
    let i = count - 1 - c.loop-back.back in let nodes = c.args.nodes.now in let rises = c.args.rises in
    let below = split.below in let lt : i < length nodes = omega (arith, below) in let n = get_or nodes i no_node in
    let new = c.with_end-least.result in let more = c.with_end-least.ensures in let so_far = c.loop-back.invariant in
    let Q : ℕ → Type 0 = λ x. (x ≡ c.args.best) ⊎ EndsBelow rises nodes c.args.below x in
    record {
      kept = omega (arith, more.kept, so_far.kept);
      least = λ v m from less at. elim (cases_lt i v) [
        | inl later ↦ omega (arith, so_far.least v m (omega (arith, later)) less at, more.kept)
        | inr le ↦
            let same : v ≡ i = omega (arith, from, less, le) in
            subst (λ (x : Node). new ≤ ending rises x)
            (get_or_from_slice_get nodes i m no_node (subst (λ w. slice_get nodes w ≡ Some m) same at)) more.least
      ];
      origin = elim more.origin [
        | inl same ↦ subst Q (sym same) so_far.origin
        | inr exact ↦ inr (record {
          node = n;
          there = Contains-get_or nodes i no_node lt;
          early = split.before i n (slice_get-get_or nodes i no_node lt) (omega arith);
          exact = exact;
        })
      ];
    }

pub returns-clause-least : goal.returns-clause-least
returns-clause-least c = λ n there low.
    let at = at_contains c.args.nodes.now n there in let split = c.of_rises_before-count.ensures in
    elim (cases_lt at.0 c.of_rises_before-count.result) [
      | inl less ↦ c.loop-back.invariant.least at.0 n (let end = c.loop-back-test.false in omega (arith, end)) less at.1
      | inr le ↦ (let late = split.after at.0 n at.1 le in absurd (omega (arith, late, low)))
    ]

pub returns-then-is_early-clause-least : goal.returns-then-is_early-clause-least
returns-then-is_early-clause-least c = λ n there low.
    let count = c.of_rises_before-count.result in let split = c.of_rises_before-count.ensures in
    let i = count - 1 - c.loop-back.back in let nodes = c.args.nodes.now in let rises = c.args.rises in
    let below = split.below in let lt : i < length nodes = omega (arith, below) in
    let at = at_contains nodes n there in
    elim (cases_lt at.0 count) [
      | inr le ↦ (let late = split.after at.0 n at.1 le in absurd (omega (arith, late, low)))
      | inl less ↦ elim (cases_lt i at.0) [
        | inl later ↦ c.loop-back.invariant.least at.0 n (omega (arith, later)) less at.1
        | inr le ↦
            let rising = c.requires.table.1.sorted at.0 i no_node le lt in
            let itself = ap (λ (x : Node). x.rise) (get_or_from_slice_get nodes at.0 n no_node at.1) in
            let fewer : rises.count - (get_or nodes i no_node).rise - 1 ≤ rises.count - n.rise - 1 = omega (arith, rising, itself) in
            omega (arith, c.is_early.ensures c.if-is_early.true, mul-le-mul_left rises.skip fewer)
      ]
    ]
