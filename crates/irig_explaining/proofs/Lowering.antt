-- The least costs of a rise, as steps lower them.
use Rattle.std.proofs.Common.{◌≡◌, ◌+◌, ◌<◌, ◌≤◌, ◌⊎◌, ◌∙◌, ℕ, List, Some, length, get_or, slice_get, set, Bool, true, false, refl, sym, subst, inl, inr, arith}
use Rattle.std.specs.List.{Contains}
use Rattle.std.proofs.lemmas.Bool.{cases_eq}
use Rattle.std.proofs.lemmas.Option.{get_or_from_slice_get}
use Rattle.std.proofs.lemmas.List.Elements.{All-contains}
use Rattle.std.proofs.lemmas.List.{get_or-set_other, get_or-set_same, length-set}
use Rattle.irig_explaining.specs.declared.{claim.Kind.Kind, near.Near.Near, nodes.Node.Node, opened.Open.Open, rises.Rises.Rises, ways.Way.Way}
use Rattle.irig_explaining.specs.declared.claim.Kind.TheVariants.{Next, Step, Jump}
use Rattle.irig_explaining.specs.{Explanation.Price, Lows.IsFrom, Lows.IsLower, Lows.IsUnder, Nodes.IsCost, Nodes.IsLow, Nodes.Within, Nodes.going}
use Rattle.irig_explaining.specs.{Offers.IsTop, Opened.AreOpen, Opened.IsJump, Opened.IsOpen, Reached.reaches}
use Rattle.irig_explaining.proofs.{Members.at_contains, Members.no_node, Opens.jump_top, Opens.open_low}

-- nothing has been lowered
pub lower_none : (price : Price) (m : Node) (q : ℕ) (xs : List ℕ) → IsLower price m q xs xs
lower_none price m q xs = record {
  all = refl;
  kept = λ e. omega arith;
  origin = λ e. inl refl;
}

-- one cost has been
pub lower_one : (price : Price) (m : Node) (q : ℕ) (xs : List ℕ) (i x : ℕ) → i < length xs → x ≤ get_or xs i 0
    → (x ≡ get_or xs i 0) ⊎ ((k : Kind) × (x ≡ going price m q i k)) → IsLower price m q xs (set xs i x)
lower_one price m q xs i x lt le from = record {
  all = length-set xs i x;
  kept = λ e. elim (cases_eq e i) [
    | inl same ↦
        subst (λ n. get_or (set xs i x) n 0 ≤ get_or xs n 0) (sym same) (subst (λ v. v ≤ get_or xs i 0) (sym (get_or-set_same xs i x 0 lt)) le)
    | inr other ↦ subst (λ v. v ≤ get_or xs e 0) (sym (get_or-set_other xs i e x 0 other)) (omega arith)
  ];
  origin = λ e. elim (cases_eq e i) [
    | inl same ↦
        let here : (get_or (set xs i x) i 0 ≡ get_or xs i 0) ⊎ ((k : Kind) × (get_or (set xs i x) i 0 ≡ going price m q i k)) =
        subst (λ v. (v ≡ get_or xs i 0) ⊎ ((k : Kind) × (v ≡ going price m q i k))) (sym (get_or-set_same xs i x 0 lt)) from in
        subst (λ n. (get_or (set xs i x) n 0 ≡ get_or xs n 0) ⊎ ((k : Kind) × (get_or (set xs i x) n 0 ≡ going price m q n k))) (sym same) here
    | inr other ↦ inl (get_or-set_other xs i e x 0 other)
  ];
}

-- some, and then others
pub lower_more : (price : Price) (m : Node) (q : ℕ) (xs ys zs : List ℕ) → IsLower price m q xs ys → IsLower price m q ys zs → IsLower price m q xs zs
lower_more price m q xs ys zs first then = record {
  all = then.all ∙ first.all;
  kept = λ e. omega (arith, first.kept e, then.kept e);
  origin = λ e. elim (then.origin e) [
    | inl same ↦ elim (first.origin e) [
      | inl was ↦ inl (same ∙ was)
      | inr by ↦ inr (by.0, same ∙ by.1)
    ]
    | inr by ↦ inr by
  ];
}

-- a lower cost is under the same steps
pub under_less : (price : Price) (m : Node) (q e x y : ℕ) → y ≤ x → IsUnder price m q e x → IsUnder price m q e y
under_less price m q e x y le is = record { next = omega (arith, le, is.next); step = omega (arith, le, is.step) }

by_under : (price : Price) (m : Node) (q f low : ℕ) (k : Kind) → IsUnder price m q f low → low ≤ going price m q f Jump → low ≤ going price m q f k
by_under price m q f low Next is jump = is.next
by_under price m q f low Step is jump = is.step
by_under price m q f low Jump is jump = jump

true_or_false : (b : Bool) → (b ≡ true) ⊎ (b ≡ false)
true_or_false true = inl refl
true_or_false false = inr refl

one_node : (nodes : List Node) (u : ℕ) (m n : Node) → slice_get nodes u ≡ Some m → slice_get nodes u ≡ Some n → m ≡ n
one_node nodes u m n at there = sym (get_or_from_slice_get nodes u m no_node at) ∙ get_or_from_slice_get nodes u n no_node there

-- what no open node lowers any more is the least cost of a claim
pub least_cost : (price : Price) (rises : Rises) (nodes : List Node) (near : Near) (q f top : ℕ) (opens : List Open) (w : Way) (low : ℕ)
    → ((u : ℕ) (m : Node) → slice_get nodes u ≡ Some m → m.rise < q → q ≤ m.rise + rises.window → (near.start ≤ u) × (u < near.end))
    → IsTop price rises nodes near q f top → AreOpen price rises nodes q near.start near.end top opens → IsJump price rises nodes opens q f w
    → low ≤ w.cost
    → ((o : Open) (m : Node) → Contains opens o → slice_get nodes o.from ≡ Some m → reaches o.reach f ≡ true → IsUnder price m q f low)
    → (low ≡ w.cost) ⊎ IsFrom price nodes opens q f low → IsCost price rises nodes q f low
least_cost price rises nodes near q f top opens w low all is are jump le under from =
    let steps : (o : Open) (m : Node) (k : Kind) → Contains opens o → slice_get nodes o.from ≡ Some m → low ≤ going price m q f k =
    λ o m k there at.
    let known = All-contains (IsOpen price rises nodes q) opens o are.each there in
    let less : low ≤ going price m q f Jump = omega (arith, le, jump.jumps o m there at) in
    elim (true_or_false (reaches o.reach f)) [
      | inl on ↦ by_under price m q f low k (under o m there at on) less
      | inr off ↦
          let same : known.node ≡ m = one_node nodes o.from known.node m known.at at in
          omega (arith, less, subst (λ (x : Node). going price x q f Jump ≤ going price x q f k) same (known.reach f k off))
    ] in
    let top_le : low ≤ top = omega (arith, le, jump_top price rises nodes near q f top opens w is are jump) in
    let low_is : IsLow price rises nodes q f low = record {
      first = omega (arith, le, jump.first);
      steps = λ m k there within.
          let at = at_contains nodes m there in
          let place = all at.0 m at.1 within.later within.near in
          open_low price rises nodes near q f top opens low are top_le steps at.0 m k at.1 place.0 place.1;
    } in
    elim from [
      | inl same ↦ record {
        way = w;
        is = record { low = subst (IsLow price rises nodes q f) same low_is; backed = jump.backed };
        exact = sym same;
      }
      | inr by ↦
          let known = All-contains (IsOpen price rises nodes q) opens by.one are.each by.there in
          let same : known.node ≡ by.node = one_node nodes by.one.from known.node by.node known.at by.at in
          let way : Way = record { cost = low; from = Some by.one.from; kind = by.kind } in record {
            way = way;
            is = record {
              low = low_is;
              backed = record {
                before = by.node;
                at = by.at;
                within = subst (λ (x : Node). Within rises x q) same known.within;
                exact = by.exact;
              };
            };
            exact = refl;
          }
    ]
