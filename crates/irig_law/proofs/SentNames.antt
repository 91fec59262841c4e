-- The names by a clock are the elements that were sent.
use Rattle.std.proofs.Common.{◌≡◌, ◌<◌, ◌≤◌, ◌+◌, ◌-◌, ℕ, suc, zero, Bool, true, false, Option, Some, None, arith, refl, sym, subst}
use Rattle.std.specs.Prelude.{if◌then◌else◌}
use Rattle.irig_law.specs.Names.{hop, is_sure, nearest}
use Rattle.irig_law.specs.Names.{judged, moved, seen, seen_at, walk}
use Rattle.irig_law.specs.Truth.{NamesAreSent, Runs, Sent}
use Rattle.irig_law.specs.declared.clock.Clock.{Clock}
use Rattle.irig_law.specs.declared.names.{Seen.Seen, Walk.Walk}
use Rattle.irig_law.specs.declared.names.Seen.TheVariants.{Named, Astray, Unknown}
use Rattle.irig_law.proofs.Hops.{hops_are_true}

-- what is named is named by a hop
record Hopped (c : Clock) (distance element e : ℕ) : Type 0 where
  many : ℕ
  hop : hop c distance ≡ Some many
  sum : e ≡ element + many

named-judged : (c : Clock) (element distance e : ℕ) (o : Option ℕ) → hop c distance ≡ o → judged c element distance o ≡ Named e
    → Hopped c distance element e
named-judged c element distance e None is h = no-name (is_sure c (nearest c distance)) h
  where
    no-name : (b : Bool) → (if b then Astray else Unknown) ≡ Named e → Hopped c distance element e
    no-name true h = absurd (cc)
    no-name false h = absurd (cc)
named-judged c element distance e (Some n) is h = record { many = n; hop = is; sum = cc }

named-hopped : (c : Clock) (rise : ℕ → ℕ) (runs : ℕ → Bool) (k e : ℕ) (w : Walk) → seen_at c rise runs k w ≡ Named e
    → Hopped c (rise k - rise w.last) w.element e
named-hopped c rise runs k e w h = by-run (runs k) h
  where
    by-run : (b : Bool) → (if b then judged c w.element (rise k - rise w.last) (hop c (rise k - rise w.last)) else Unknown) ≡ Named e
        → Hopped c (rise k - rise w.last) w.element e
    by-run true h = named-judged c w.element (rise k - rise w.last) e (hop c (rise k - rise w.last)) refl h
    by-run false h = absurd (cc)

-- the walk is at the last pulse that has a name, with that name
record IsAt (c : Clock) (rise : ℕ → ℕ) (runs : ℕ → Bool) (m : ℕ) (w : Walk) : Type 0 where
  low : w.last ≤ m
  named : seen c rise runs w.last ≡ Named w.element

module _ (c : Clock) (rise : ℕ → ℕ) (runs : ℕ → Bool) where
  step-at : (m : ℕ) (w : Walk) (s : Seen) → seen c rise runs (suc m) ≡ s → IsAt c rise runs m w → IsAt c rise runs (suc m) (moved w (suc m) s)
  step-at m w (Named e) is at = record { low = omega arith; named = is }
  step-at m w Astray is at = let low = at.low in record { low = omega (arith, low); named = at.named }
  step-at m w Unknown is at = let low = at.low in record { low = omega (arith, low); named = at.named }

  walk-at : (m : ℕ) → IsAt c rise runs m (walk c rise runs m)
  walk-at zero = record { low = omega arith; named = refl }
  walk-at (suc m) = step-at m (walk c rise runs m) (seen_at c rise runs (suc m) (walk c rise runs m)) refl (walk-at m)

module _ (c : Clock) (rise : ℕ → ℕ) (runs : ℕ → Bool) (moment name : ℕ → ℕ) (last : ℕ) (sent : Sent c rise runs moment name last) where
  runs-within : (i k : ℕ) → name 0 ≤ i → k ≤ sent.top → Runs c i k moment
  runs-within i k low high a b one two three = sent.clock a b (omega (arith, low, one)) two (omega (arith, high, three))

  -- no name is before the first one
  in-order : (j e : ℕ) → j ≤ last → seen c rise runs j ≡ Named e → name 0 ≤ name j
  in-order zero e few is = omega arith
  in-order (suc j) e few is = let less = sent.order 0 (suc j) 0 e (omega arith) few refl is in omega (arith, less)

  -- a hop from a name that is true leads to one that is
  one-more : (j k e g : ℕ) → j < k → k ≤ last → seen c rise runs j ≡ Named e → seen c rise runs k ≡ Named g
      → Hopped c (rise k - rise j) e g → name 0 + e ≡ name j → name 0 + g ≡ name k
  one-more j k e g less few at is h before =
      let here = sent.rises k g few is in
      let there = sent.rises j e (omega (arith, less, few)) at in
      let sum = h.sum in
      let apart : moment (name k) - moment (name j) ≡ rise k - rise j = omega (arith, here, there) in
      let hopped : hop c (moment (name k) - moment (name j)) ≡ Some h.many = subst (λ d. hop c d ≡ Some h.many) (sym apart) h.hop in
      let step = hops_are_true c moment (name j) (name k) h.many (sent.order j k e g less few at is)
      (runs-within (name j) (name k) (in-order j e (omega (arith, less, few)) at) (sent.inside k g few is)) hopped in
      omega (arith, step, before, sum)

  -- from where the walk is, to a pulse after it
  from-walk : (m e : ℕ) → suc m ≤ last → seen c rise runs (suc m) ≡ Named e
      → name 0 + (walk c rise runs m).element ≡ name (walk c rise runs m).last → name 0 + e ≡ name (suc m)
  from-walk m e few is before =
      let at = walk-at c rise runs m in
      let low = at.low in
      one-more (walk c rise runs m).last (suc m) (walk c rise runs m).element e (omega (arith, low)) few at.named is
      (named-hopped c rise runs (suc m) e (walk c rise runs m) is) before

  walked-on : (m : ℕ) → suc m ≤ last → (s : Seen) → seen c rise runs (suc m) ≡ s
      → name 0 + (walk c rise runs m).element ≡ name (walk c rise runs m).last
      → name 0 + (moved (walk c rise runs m) (suc m) s).element ≡ name (moved (walk c rise runs m) (suc m) s).last
  walked-on m few (Named e) is before = from-walk m e few is before
  walked-on m few Astray is before = before
  walked-on m few Unknown is before = before

  walked : (m : ℕ) → m ≤ last → name 0 + (walk c rise runs m).element ≡ name (walk c rise runs m).last
  walked zero few = omega arith
  walked (suc m) few = walked-on m few (seen_at c rise runs (suc m) (walk c rise runs m)) refl (walked m (omega (arith, few)))

  pub named_sent : (k e : ℕ) → k ≤ last → seen c rise runs k ≡ Named e → name 0 + e ≡ name k
  named_sent zero e few is = let z : 0 ≡ e = cc in omega (arith, z)
  named_sent (suc m) e few is = from-walk m e few is (walked m (omega (arith, few)))

pub names_are_sent : NamesAreSent
names_are_sent c rise runs moment name last sent k e few is = named_sent c rise runs moment name last sent k e few is
