-- Pulses and their edges: as many again, and even in number; and edges that are kept as pulses.
use Rattle.std.proofs.Common.{◌≡◌, ◌≤◌, ◌+◌, ◌*◌, ◌∙◌, ℕ, Bool, true, false, not, List, [], ◌∷◌, ◌++◌, length, refl, ap, sym, arith, append_assoc}
use Rattle.std.proofs.Common.{length-append}
use Rattle.std.proofs.lemmas.List.{append-nil}
use Rattle.irig_recording.specs.{Edges.kept_edges, Pulses.edges_of, Pulses.pulse, Recording.is_even_long, declared.pulse.Pulse.Pulse}
use Rattle.std.proofs.Math.Bool.{not-not}

pub edges_of-append : (ps qs : List Pulse) → edges_of (ps ++ qs) ≡ edges_of ps ++ edges_of qs
edges_of-append [] qs = refl
edges_of-append (p ∷ ps) qs = ap (λ xs. p.rise ∷ p.fall ∷ xs) (edges_of-append ps qs)

pub length-edges_of : (ps : List Pulse) → length (edges_of ps) ≡ 2 * length ps
length-edges_of [] = refl
length-edges_of (p ∷ ps) = omega (arith, length-edges_of ps)

even-more : (ps : List Pulse) (xs : List ℕ) → is_even_long (edges_of ps ++ xs) ≡ is_even_long xs
even-more [] xs = refl
even-more (p ∷ ps) xs = not-not (is_even_long (edges_of ps ++ xs)) ∙ even-more ps xs

pub even-edges_of : (ps : List Pulse) → is_even_long (edges_of ps) ≡ true
even-edges_of [] = refl
even-edges_of (p ∷ ps) = not-not (is_even_long (edges_of ps)) ∙ even-edges_of ps

-- a rise is open if the edges are odd in number
pub even-kept_edges : (ps : List Pulse) (is_open : Bool) (rise : ℕ) → is_even_long (kept_edges ps is_open rise) ≡ not is_open
even-kept_edges ps true rise = even-more ps (rise ∷ [])
even-kept_edges ps false rise = even-more ps []

pub length-kept_open : (ps : List Pulse) (rise : ℕ) → length (kept_edges ps true rise) ≡ 2 * length ps + 1
length-kept_open ps rise = omega (arith, length-append (edges_of ps) (rise ∷ []), length-edges_of ps)

pub length-kept_closed : (ps : List Pulse) (rise : ℕ) → length (kept_edges ps false rise) ≡ 2 * length ps
length-kept_closed ps rise = ap length (append-nil (edges_of ps)) ∙ length-edges_of ps

pub length-kept_most : (ps : List Pulse) (is_open : Bool) (rise : ℕ) → length (kept_edges ps is_open rise) ≤ 2 * length ps + 1
length-kept_most ps true rise = omega (arith, length-kept_open ps rise)
length-kept_most ps false rise = omega (arith, length-kept_closed ps rise)

pub length-kept_least : (ps : List Pulse) (is_open : Bool) (rise : ℕ) → 2 * length ps ≤ length (kept_edges ps is_open rise)
length-kept_least ps true rise = omega (arith, length-kept_open ps rise)
length-kept_least ps false rise = omega (arith, length-kept_closed ps rise)

-- of edges that are known: whether a rise is open, how many there are, and the pulses of an even number
module _ (ps : List Pulse) (is_open : Bool) (rise : ℕ) (now : List ℕ) (is : kept_edges ps is_open rise ≡ now) where
  pub opens : is_open ≡ not (is_even_long now)
  opens = sym (not-not is_open) ∙ ap not (sym (even-kept_edges ps is_open rise)) ∙ ap (λ xs. not (is_even_long xs)) is

  pub open_odd : is_even_long now ≡ false → is_open ≡ true
  open_odd odd = opens ∙ ap not odd

  pub closed_even : is_even_long now ≡ true → is_open ≡ false
  closed_even even = opens ∙ ap not even

  pub most : length now ≤ 2 * length ps + 1
  most = omega (arith, length-kept_most ps is_open rise, ap length is)

  pub least : 2 * length ps ≤ length now
  least = omega (arith, length-kept_least ps is_open rise, ap length is)

  pub count_open : is_open ≡ true → length now ≡ 2 * length ps + 1
  count_open is_up = sym (ap length is) ∙ ap (λ b. length (kept_edges ps b rise)) is_up ∙ length-kept_open ps rise

  pub count_closed : is_open ≡ false → length now ≡ 2 * length ps
  count_closed closed = sym (ap length is) ∙ ap (λ b. length (kept_edges ps b rise)) closed ∙ length-kept_closed ps rise

  pub pulses_even : is_even_long now ≡ true → edges_of ps ≡ now
  pulses_even even = sym (append-nil (edges_of ps)) ∙ ap (λ b. kept_edges ps b rise) (sym (closed_even even)) ∙ is

-- an edge after the others: a fall closes a pulse, a rise opens one
pub closed : (ps : List Pulse) (rise fall last : ℕ) → kept_edges (ps ++ pulse rise fall ∷ []) false last ≡ kept_edges ps true rise ++ fall ∷ []
closed ps rise fall last = append-nil (edges_of (ps ++ pulse rise fall ∷ [])) ∙ edges_of-append ps (pulse rise fall ∷ [])
    ∙ sym (append_assoc (edges_of ps) (rise ∷ []) (fall ∷ []))

-- a fall and the next rise after the others
pub closed_and_opened : (ps : List Pulse) (last fall rise : ℕ)
    → kept_edges (ps ++ pulse last fall ∷ []) true rise ≡ kept_edges ps true last ++ fall ∷ rise ∷ []
closed_and_opened ps last fall rise = ap (λ xs. xs ++ rise ∷ []) (edges_of-append ps (pulse last fall ∷ []))
    ∙ append_assoc (edges_of ps) (last ∷ fall ∷ []) (rise ∷ []) ∙ sym (append_assoc (edges_of ps) (last ∷ []) (fall ∷ rise ∷ []))
