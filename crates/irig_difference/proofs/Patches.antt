-- Stretches as a script of inverts: it leads from the one to the other, and none is shorter.
use Rattle.std.proofs.Common.{◌≡◌, ℕ, ◌*◌, ◌≤◌, true, List, [], ◌∷◌, length, refl, sym, ap, ◌∙◌, arith}
use Rattle.std.proofs.Math.Bool.{not-not}
use Rattle.irig_recording.specs.{Recording.RisesFrom, Recording.is_even_long, declared.pulse.Pulse.Pulse}
use Rattle.irig_recording.proofs.PulseEdges.{length-edges_of}
use Rattle.irig_track.specs.{Edges.edges_of, Toggles.flipped, Toggles.toggled}
use Rattle.irig_track.proofs.RisingLists.{RisesFrom-flipped}
use Rattle.irig_difference.specs.{Flips.flips, Flips.patched, Stretches.pairs}
use Rattle.irig_difference.proofs.{FlipLists.even-flips, FlipSets.flips-flips, FlipSets.flips-same, FlipSets.length-flips_least}

-- numbers two by two, one after the other
pub edges_of-pairs : (xs : List ℕ) → is_even_long xs ≡ true → edges_of (pairs xs) ≡ xs
edges_of-pairs [] e = refl
edges_of-pairs (a ∷ []) e = absurd (cc)
edges_of-pairs (a ∷ b ∷ xs) e = ap (λ (l : List ℕ). a ∷ b ∷ l) (edges_of-pairs xs (sym (not-not (is_even_long xs)) ∙ e))

patched-flips : (ps : List Pulse) (xs : List ℕ) → patched ps xs ≡ flips (edges_of ps) xs
patched-flips [] xs = refl
patched-flips (p ∷ ps) xs = patched-flips ps (toggled p.rise p.fall xs)

RisesFrom-toggled : (a b : ℕ) (xs : List ℕ) → RisesFrom 0 xs → RisesFrom 0 (toggled a b xs)
RisesFrom-toggled a b xs h = RisesFrom-flipped 0 b _ (omega arith) (RisesFrom-flipped 0 a xs (omega arith) h)

-- the stretches between two rising lists of even numbers
module _ (before after : List ℕ) (even : is_even_long before ≡ true) (even2 : is_even_long after ≡ true) (h : RisesFrom 0 before) (i : RisesFrom 0 after) where
  pub edges_of-stretches : edges_of (pairs (flips after before)) ≡ flips after before
  edges_of-stretches = edges_of-pairs (flips after before) (even-flips after before even even2)

  pub patched-stretches : patched (pairs (flips after before)) before ≡ after
  patched-stretches = patched-flips (pairs (flips after before)) before ∙ ap (λ ts. flips ts before) edges_of-stretches ∙ flips-flips after before i h

-- each invert brings two lists closer by two at most
closer : (ps : List Pulse) (after before : List ℕ) → RisesFrom 0 after → RisesFrom 0 before → patched ps before ≡ after
    → length (flips after before) ≤ 2 * length ps
closer [] after before i h e = omega (arith, ap length (ap (λ xs. flips xs before) (sym e) ∙ flips-same before h))
closer (p ∷ ps) after before i h e =
    let once : RisesFrom 0 (flipped p.rise before) = RisesFrom-flipped 0 p.rise before (omega arith) h in
    omega (
      arith,
      length-flips_least p.rise after before i h,
      length-flips_least p.fall after (flipped p.rise before) i once,
      closer ps after (toggled p.rise p.fall before) i (RisesFrom-toggled p.rise p.fall before h) e,
    )

-- no script of inverts is shorter
pub least_patch : (others : List Pulse) (before after : List ℕ) → is_even_long before ≡ true → is_even_long after ≡ true → RisesFrom 0 before
    → RisesFrom 0 after
    → patched others before ≡ after → length (pairs (flips after before)) ≤ length others
least_patch others before after even even2 h i e = omega (
  arith,
  closer others after before i h e,
  length-edges_of (pairs (flips after before)),
  ap length (edges_of-stretches before after even even2 h i),
)

-- lists that differ nowhere are equal
pub no_stretches : (before after : List ℕ) → is_even_long before ≡ true → is_even_long after ≡ true → RisesFrom 0 before → RisesFrom 0 after
    → pairs (flips after before) ≡ [] → before ≡ after
no_stretches before after even even2 h i e = sym (ap (λ ps. patched ps before) e) ∙ patched-stretches before after even even2 h i
