-- The open nodes of a rise, as loops find them and go over them.
use Rattle.std.proofs.Common.{◌≡◌, ◌+◌, ◌*◌, ◌<◌, ◌≤◌, ◌⊎◌, ◌++◌, ℕ, List, [], ◌∷◌, length, get_or, MatchOption, slice_get, Some, false, refl, sym, subst, inl, inr, arith, below_more}
use Rattle.std.specs.List.{Contains}
use Rattle.std.proofs.lemmas.Option.{get_or_from_slice_get, slice_get_read}
use Rattle.std.proofs.lemmas.List.Elements.{All-push, Contains-append_left, Contains-push}
use Rattle.irig_explaining.specs.declared.{claim.Kind.Kind, near.Near.Near, nodes.Node.Node, opened.Open.Open, rises.Rises.Rises, ways.Way.Way}
use Rattle.irig_explaining.specs.declared.claim.Kind.TheVariants.{Jump}
use Rattle.irig_explaining.specs.Explanation.{Price}
use Rattle.irig_explaining.specs.{Nodes.ComesFrom, Nodes.Within, Nodes.going, Offers.IsTop, Opened.AreOpen, Opened.HasOpen, Opened.IsJump, Opened.IsOpen}
use Rattle.irig_explaining.proofs.Members.{no_node}

-- one more node is opened
pub opened_more : (price : Price) (rises : Rises) (nodes : List Node) (q start i top : ℕ) (opens : List Open) (o : Open)
    → AreOpen price rises nodes q start i top opens → IsOpen price rises nodes q o → o.from ≡ i
    → AreOpen price rises nodes q start (i + 1) top (opens ++ o ∷ [])
opened_more price rises nodes q start i top opens o so_far is same =
    let new = opens ++ o ∷ [] in
    let P : ℕ → Type 0 = λ u. (m : Node) → slice_get nodes u ≡ Some m → start ≤ u
    → HasOpen new u ⊎ ((f : ℕ) (k : Kind) → top < going price m q f k) in
    record {
      each = All-push (IsOpen price rises nodes q) opens o so_far.each is;
      others = λ u m at le lt. below_more P i
          (λ u lt m at le. elim (so_far.others u m at le lt) [
            | inl h ↦ inl (record { one = h.one; there = Contains-append_left opens (o ∷ []) h.one h.there; same = h.same })
            | inr above ↦ inr above
          ])
          (λ m at le. inl (record { one = o; there = Contains-push opens o; same = same }))
          u lt m at le;
    }

-- and one more is not
pub closed_more : (price : Price) (rises : Rises) (nodes : List Node) (q start i top : ℕ) (opens : List Open)
    → AreOpen price rises nodes q start i top opens → ((f : ℕ) (k : Kind) → top < going price (get_or nodes i no_node) q f k)
    → AreOpen price rises nodes q start (i + 1) top opens
closed_more price rises nodes q start i top opens so_far above =
    let P : ℕ → Type 0 = λ u. (m : Node) → slice_get nodes u ≡ Some m → start ≤ u
    → HasOpen opens u ⊎ ((f : ℕ) (k : Kind) → top < going price m q f k) in
    record {
      each = so_far.each;
      others = λ u m at le lt. below_more P i
          (λ u lt m at le. so_far.others u m at le lt)
          (λ m at le. inr (subst (λ (x : Node). (f : ℕ) (k : Kind) → top < going price x q f k) (get_or_from_slice_get nodes i m no_node at) above))
          u lt m at le;
    }

-- the cheapest jump costs no more than the top
pub jump_top : (price : Price) (rises : Rises) (nodes : List Node) (near : Near) (q f top : ℕ) (opens : List Open) (w : Way)
    → IsTop price rises nodes near q f top → AreOpen price rises nodes q near.start near.end top opens
    → IsJump price rises nodes opens q f w → w.cost ≤ top
jump_top price rises nodes near q f top opens w is are jump =
    elim is [
      | inl first ↦ omega (arith, first, jump.first)
      | inr j ↦ elim (are.others j.number j.node j.at j.start j.end) [
        | inl h ↦ omega (arith, j.jump, jump.jumps h.one j.node h.there (subst (λ u. slice_get nodes u ≡ Some j.node) (sym h.same) j.at))
        | inr above ↦ (let over = above f Jump in absurd (omega (arith, over, j.jump)))
      ]
    ]

-- no way to the claim is cheaper than the least of those by open nodes
pub open_low : (price : Price) (rises : Rises) (nodes : List Node) (near : Near) (q f top : ℕ) (opens : List Open) (low : ℕ)
    → AreOpen price rises nodes q near.start near.end top opens → low ≤ top
    → ((o : Open) (m : Node) (k : Kind) → Contains opens o → slice_get nodes o.from ≡ Some m → low ≤ going price m q f k)
    → (u : ℕ) (m : Node) (k : Kind) → slice_get nodes u ≡ Some m → near.start ≤ u → u < near.end → low ≤ going price m q f k
open_low price rises nodes near q f top opens low are le steps u m k at start end =
    elim (are.others u m at start end) [
      | inl h ↦ steps h.one m k h.there (subst (λ u. slice_get nodes u ≡ Some m) (sym h.same) at)
      | inr above ↦ (let over = above f k in omega (arith, over, le))
    ]

-- what is read past the end of the open nodes
abbrev pub no_open : Open
no_open = record { from = 0; reach = record { size = 0; turned = false; origin = 0; turn = 0; spare = 0 }; least = 0 }

-- a way from a node by a step is backed by it
pub comes : (price : Price) (rises : Rises) (nodes : List Node) (q f u : ℕ) (w : Way) (m : Node) → slice_get nodes u ≡ Some m
    → Within rises m q → w.from ≡ Some u → w.cost ≡ going price m q f w.kind
    → MatchOption w.from (w.cost ≡ rises.skip * q) (λ u. ComesFrom price rises nodes q f w u)
comes price rises nodes q f u w m at within from exact =
    subst (λ x. MatchOption x (w.cost ≡ rises.skip * q) (λ u. ComesFrom price rises nodes q f w u)) (sym from) (record {
      before = m;
      at = at;
      within = within;
      exact = exact;
    })

pub place_of : (xs : List Open) (o : Open) → Contains xs o → (j : ℕ) × (slice_get xs j ≡ Some o)
place_of xs o c = (c.0, slice_get_read xs (length xs) c.0 o refl c.1 (sym c.2))
