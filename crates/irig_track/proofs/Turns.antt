-- A toggle turns one edge, then the other.
use Rattle.std.proofs.Common.{◌≡◌, ℕ, ◌+◌, ◌<◌, ◌≤◌, ◌≢◌, List, [], ◌∷◌, ◌++◌, length, insert, remove, slice_get, Some, None, refl, sym, ap, ◌∙◌, subst, arith}
use Rattle.std.proofs.Common.{append_assoc}
use Rattle.std.proofs.lemmas.{List.take-append-drop, List.append-nil, Option.slice_get_within}
use Rattle.irig_gap.specs.Items.{GapView, gap_view}
use Rattle.irig_recording.specs.{declared.pulse.Pulse.Pulse, Recording.RisesFrom}
use Rattle.irig_track.specs.Sides.{left_of, right_of, waiting, RiseUpTo, Stays, Took, Wrote, Begun, Finished}
use Rattle.irig_track.specs.{Edges.Under, Edges.edges_of, Edges.pulse, Toggles.flipped}
use Rattle.irig_recording.proofs.PulseEdges.{edges_of-append}
use Rattle.irig_track.proofs.Items.{drop-insert, drop-removed, slice_get-drop, take-insert, take-remove}
use Rattle.irig_track.proofs.RisingLists.{flip_low, flip_same, flip_high, flipped-past, Under-more, rises_right, rises_more}

pub edges_of-sides : (v : GapView Pulse) → edges_of v.items ≡ edges_of (left_of v) ++ edges_of (right_of v)
edges_of-sides v = sym (ap edges_of (take-append-drop v.place v.items)) ∙ edges_of-append (left_of v) (right_of v)

pub stays_same : (b : ℕ) (v : GapView Pulse) → Stays b v v
stays_same b v = record { gone = []; made = []; right = refl; left = sym (append-nil (left_of v)); early = tt; late = tt; capacity = refl }

pub stays_took : (b : ℕ) (p : Pulse) (u v : GapView Pulse) → p.rise ≤ b → Took p u v → Stays b u v
stays_took b p u v le t = record {
  gone = p ∷ [];
  made = [];
  right = t.right;
  left = t.left ∙ sym (append-nil (left_of u));
  early = (le, tt);
  late = tt;
  capacity = t.capacity;
}

pub stays_wrote : (b : ℕ) (p : Pulse) (u v : GapView Pulse) → p.rise ≤ b → Wrote p u v → Stays b u v
stays_wrote b p u v le t = record { gone = []; made = p ∷ []; right = sym t.right; left = t.left; early = tt; late = (le, tt); capacity = t.capacity }

pub RiseUpTo-append : (b : ℕ) (ps qs : List Pulse) → RiseUpTo b ps → RiseUpTo b qs → RiseUpTo b (ps ++ qs)
RiseUpTo-append b [] qs h i = i
RiseUpTo-append b (p ∷ ps) qs h i = (h.0, RiseUpTo-append b ps qs h.1 i)

RiseUpTo-more : (b d : ℕ) (ps : List Pulse) → b ≤ d → RiseUpTo b ps → RiseUpTo d ps
RiseUpTo-more b d [] le h = tt
RiseUpTo-more b d (p ∷ ps) le h = (omega (arith, h.0), RiseUpTo-more b d ps le h.1)

pub stays_then : (b : ℕ) (u v w : GapView Pulse) → Stays b u v → Stays b v w → Stays b u w
stays_then b u v w s t = record {
  gone = s.gone ++ t.gone;
  made = s.made ++ t.made;
  right = s.right ∙ ap (λ ps. s.gone ++ ps) t.right ∙ sym (append_assoc s.gone t.gone (right_of w));
  left = t.left ∙ ap (λ ps. ps ++ t.made) s.left ∙ append_assoc (left_of u) s.made t.made;
  early = RiseUpTo-append b s.gone t.gone s.early t.early;
  late = RiseUpTo-append b s.made t.made s.late t.late;
  capacity = t.capacity ∙ s.capacity;
}

pub stays_up : (b d : ℕ) (u v : GapView Pulse) → b ≤ d → Stays b u v → Stays d u v
stays_up b d u v le s = record {
  gone = s.gone;
  made = s.made;
  right = s.right;
  left = s.left;
  early = RiseUpTo-more b d s.gone le s.early;
  late =
      RiseUpTo-more b d s.made le s.late;
  capacity = s.capacity;
}

-- a step on the sides
pub took_step : (v : GapView Pulse) (p : Pulse) → slice_get (right_of v) 0 ≡ Some p → Took p v (gap_view (remove v.items v.place) v.place v.capacity)
took_step v p is =
    let at : slice_get v.items v.place ≡ Some p = sym (slice_get-drop v.place v.items 0 v.place (omega arith)) ∙ is in
    let lt : v.place < length v.items = slice_get_within v.items v.place p at in
    record { left = take-remove v.items v.place (omega arith); right = drop-removed v.items v.place p at; capacity = refl }

pub wrote_step : (v : GapView Pulse) (p : Pulse) → v.place ≤ length v.items → Wrote p v (gap_view (insert v.items v.place p) (v.place + 1) v.capacity)
wrote_step v p le = record { left = take-insert v.items v.place p le; right = drop-insert v.items v.place p le; capacity = refl }

-- the first edge of the right is turned
first_above : (a : ℕ) (ps : List Pulse) → ((p : Pulse) → slice_get ps 0 ≡ Some p → a < p.rise) → flipped a (edges_of ps) ≡ a ∷ edges_of ps
first_above a [] h = refl
first_above a (p ∷ ps) h = flip_low a p.rise (p.fall ∷ edges_of ps) (h p refl)

took_edges : (a : ℕ) (p : Pulse) (u v : GapView Pulse) → Under a (edges_of (left_of u)) → Took p u v → flipped a (edges_of u.items) ≡ edges_of (left_of v)
    ++ flipped a (p.rise ∷ p.fall ∷ edges_of (right_of v))
took_edges a p u v h t =
    let l = t.left in let r = t.right in
    let here : edges_of (left_of u) ++ edges_of (right_of u) ≡ edges_of (left_of v) ++ (p.rise ∷ p.fall ∷ edges_of (right_of v)) =
    (λ j. edges_of (sym l j) ++ edges_of (r j)) in
    ap (flipped a) (edges_of-sides u ∙ here) ∙ flipped-past a (edges_of (left_of v)) _ (subst (λ ps. Under a (edges_of ps)) (sym l) h)

wrote_edges : (p : Pulse) (v w : GapView Pulse) (xs : List ℕ) → Wrote p v w → edges_of (left_of w) ++ xs ≡ edges_of (left_of v) ++ (p.rise ∷ p.fall ∷ xs)
wrote_edges p v w xs t = ap (λ ps. edges_of ps ++ xs) t.left ∙ ap (λ es. es ++ xs) (edges_of-append (left_of v) (p ∷ []))
    ∙ append_assoc (edges_of (left_of v)) (p.rise ∷ p.fall ∷ []) xs

pub Under-append : (a : ℕ) (xs ys : List ℕ) → Under a xs → Under a ys → Under a (xs ++ ys)
Under-append a [] ys h i = i
Under-append a (x ∷ xs) ys h i = (h.0, Under-append a xs ys h.1 i)

under_wrote : (a : ℕ) (p : Pulse) (v w : GapView Pulse) → Wrote p v w → p.rise < a → p.fall < a → Under a (edges_of (left_of v))
    → Under a (edges_of (left_of w))
under_wrote a p v w t r f h = subst (λ ps. Under a (edges_of ps)) (sym t.left)
    (subst (Under a) (sym (edges_of-append (left_of v) (p ∷ []))) (Under-append a (edges_of (left_of v)) (p.rise ∷ p.fall ∷ []) h (r, (f, tt))))

under_took : (a : ℕ) (p : Pulse) (u v : GapView Pulse) → Took p u v → Under a (edges_of (left_of u)) → Under a (edges_of (left_of v))
under_took a p u v t h = subst (λ ps. Under a (edges_of ps)) (sym t.left) h

pub begun_none : (a : ℕ) (v : GapView Pulse) → Under a (edges_of (left_of v)) → ((p : Pulse) → slice_get (right_of v) 0 ≡ Some p → a < p.rise) → Begun a a v v
begun_none a v h above = record {
  edges = sym (ap (flipped a) (edges_of-sides v) ∙ flipped-past a (edges_of (left_of v)) _ h
      ∙ ap (λ es. edges_of (left_of v) ++ es) (first_above a (right_of v) above));
  left = Under-more a (a + 1) _ (omega arith) h;
  stays = stays_same a v;
}

pub begun_rise : (a : ℕ) (p : Pulse) (u v : GapView Pulse) → Under a (edges_of (left_of u)) → Took p u v → p.rise ≡ a → Begun a p.fall u v
begun_rise a p u v h t e = record {
  edges = sym (took_edges a p u v h t ∙ ap (λ es. edges_of (left_of v) ++ es) (flip_same a p.rise _ (sym e)));
  left = Under-more a (a + 1) _ (omega arith) (under_took a p u v t h);
  stays = stays_took a p u v (omega arith) t;
}

pub begun_fall : (a : ℕ) (p : Pulse) (u v : GapView Pulse) → Under a (edges_of (left_of u)) → Took p u v → p.rise < a → p.fall ≡ a → Begun a p.rise u v
begun_fall a p u v h t lt e = record {
  edges = sym (took_edges a p u v h t ∙ ap (λ es. edges_of (left_of v) ++ es)
      (flip_high a p.rise _ lt ∙ ap (λ es. p.rise ∷ es) (flip_same a p.fall _ (sym e))));
  left = Under-more a (a + 1) _ (omega arith) (under_took a p u v t h);
  stays = stays_took a p u v (omega arith) t;
}

pub begun_both : (a : ℕ) (p : Pulse) (u v w : GapView Pulse) → Under a (edges_of (left_of u)) → Took p u v → Wrote (pulse p.rise a) v w → p.rise < a
    → a < p.fall → Begun a p.fall u w
begun_both a p u v w h t o lt gt = record {
  edges = wrote_edges (pulse p.rise a) v w (p.fall ∷ edges_of (right_of w)) o ∙ ap (λ ps. edges_of (left_of v) ++ (p.rise ∷ a ∷ p.fall ∷ edges_of ps)) o.right
      ∙ sym (took_edges a p u v h t ∙ ap (λ es. edges_of (left_of v) ++ es) (flip_high a p.rise _ lt ∙ ap (λ es. p.rise ∷ es) (flip_low a p.fall _ gt)));
  left = under_wrote (a + 1) (pulse p.rise a) v w o (omega arith) (omega arith) (Under-more a (a + 1) _ (omega arith) (under_took a p u v t h));
  stays = stays_then a u v w (stays_took a p u v (omega arith) t) (stays_wrote a (pulse p.rise a) v w (omega arith) o);
}

-- the waiting rise continues over a pulse
pub waiting_on : (x : ℕ) (q : Pulse) (v w y : GapView Pulse) → Took q v w → Wrote (pulse x q.rise) w y → waiting y q.fall ≡ waiting v x
waiting_on x q v w y t o =
    let l = t.left in let r = t.right in
    wrote_edges (pulse x q.rise) w y (q.fall ∷ edges_of (right_of y)) o ∙ ap (λ ps. edges_of (left_of w) ++ (x ∷ q.rise ∷ q.fall ∷ edges_of ps)) o.right
    ∙ (λ j. edges_of (l j) ++ (x ∷ edges_of (sym r j)))

pub waits_below : (x : ℕ) (q : Pulse) (v w : GapView Pulse) → RisesFrom 0 (waiting v x) → Took q v w → RisesFrom 0 (x ∷ q.rise ∷ q.fall ∷ edges_of (right_of w))
waits_below x q v w h t = rises_right 0 (edges_of (left_of v)) _ (subst (λ ps. RisesFrom 0 (edges_of (left_of v) ++ (x ∷ edges_of ps))) t.right h)

pub under_on : (b x : ℕ) (q : Pulse) (v w y : GapView Pulse) → RisesFrom 0 (waiting v x) → Under b (edges_of (left_of v)) → q.rise < b → Took q v w
    → Wrote (pulse x q.rise) w y → Under b (edges_of (left_of y))
under_on b x q v w y h u lt t o = under_wrote b (pulse x q.rise) w y o (omega (arith, (waits_below x q v w h t).1.0)) lt (under_took b q v w t u)

finished_edges : (b x : ℕ) (v : GapView Pulse) → Under b (edges_of (left_of v))
    → flipped b (waiting v x) ≡ edges_of (left_of v) ++ flipped b (x ∷ edges_of (right_of v))
finished_edges b x v u = flipped-past b (edges_of (left_of v)) _ u

pub finished_some : (b x : ℕ) (q : Pulse) (v w y : GapView Pulse) → RisesFrom 0 (waiting v x) → Under b (edges_of (left_of v)) → q.rise ≡ b → Took q v w
    → Wrote (pulse x q.fall) w y → Finished b x v y
finished_some b x q v w y h u e t o =
    let k = waits_below x q v w h t in let l = t.left in let r = t.right in
    record {
      edges = edges_of-sides y ∙ wrote_edges (pulse x q.fall) w y (edges_of (right_of y)) o
          ∙ ap (λ ps. edges_of (left_of w) ++ (x ∷ q.fall ∷ edges_of ps)) o.right
          ∙ ap (λ ps. edges_of ps ++ (x ∷ q.fall ∷ edges_of (right_of w))) l
          ∙ sym (finished_edges b x v u ∙ ap (λ ps. edges_of (left_of v) ++ flipped b (x ∷ edges_of ps)) r
          ∙ ap (λ es. edges_of (left_of v) ++ es) (flip_high b x _ (omega (arith, k.1.0)) ∙ ap (λ es. x ∷ es) (flip_same b q.rise _ (sym e))));
      right = subst (λ ps. RisesFrom (b + 1) (edges_of ps)) (sym o.right) (rises_more (q.fall + 1) (b + 1) _ (omega (arith, k.1.1.0)) k.1.1.1);
      stays = stays_then b v w y (stays_took b q v w (omega arith) t) (stays_wrote b (pulse x q.fall) w y (omega (arith, k.1.0)) o);
    }

-- no pulse rises at b
abbrev pub NotHere : ℕ → List Pulse → Type 0
NotHere b ps = (p : Pulse) → slice_get ps 0 ≡ Some p → p.rise ≢ b

rises_past : (b : ℕ) (ps : List Pulse) → NotHere b ps → RisesFrom b (edges_of ps) → RisesFrom (b + 1) (edges_of ps)
rises_past b [] n h = tt
rises_past b (p ∷ ps) n h = (let ne = n p refl in omega (arith, h.0), h.1)

above_first : (b : ℕ) (ps : List Pulse) → RisesFrom (b + 1) (edges_of ps) → flipped b (edges_of ps) ≡ b ∷ edges_of ps
above_first b [] h = refl
above_first b (p ∷ ps) h = flip_low b p.rise _ (omega (arith, h.0))

pub finished_below : (b x : ℕ) (v w : GapView Pulse) → Under b (edges_of (left_of v)) → RisesFrom b (edges_of (right_of v)) → NotHere b (right_of v) → x < b
    → Wrote (pulse x b) v w → Finished b x v w
finished_below b x v w u h n lt o = let up = rises_past b (right_of v) n h in record {
  edges = edges_of-sides w ∙ wrote_edges (pulse x b) v w (edges_of (right_of w)) o ∙ ap (λ ps. edges_of (left_of v) ++ (x ∷ b ∷ edges_of ps)) o.right
      ∙ sym (finished_edges b x v u ∙ ap (λ es. edges_of (left_of v) ++ es) (flip_high b x _ lt ∙ ap (λ es. x ∷ es) (above_first b (right_of v) up)));
  right = subst (λ ps. RisesFrom (b + 1) (edges_of ps)) (sym o.right) up;
  stays = stays_wrote b (pulse x b) v w (omega arith) o;
}

pub finished_above : (b x : ℕ) (v w : GapView Pulse) → Under b (edges_of (left_of v)) → RisesFrom b (edges_of (right_of v)) → NotHere b (right_of v) → b < x
    → Wrote (pulse b x) v w → Finished b x v w
finished_above b x v w u h n lt o = let up = rises_past b (right_of v) n h in record {
  edges = edges_of-sides w ∙ wrote_edges (pulse b x) v w (edges_of (right_of w)) o ∙ ap (λ ps. edges_of (left_of v) ++ (b ∷ x ∷ edges_of ps)) o.right
      ∙ sym (finished_edges b x v u ∙ ap (λ es. edges_of (left_of v) ++ es) (flip_low b x _ lt));
  right = subst (λ ps. RisesFrom (b + 1) (edges_of ps)) (sym o.right) up;
  stays = stays_wrote b (pulse b x) v w (omega arith) o;
}

pub finished_at : (b x : ℕ) (v : GapView Pulse) → Under b (edges_of (left_of v)) → RisesFrom b (edges_of (right_of v)) → NotHere b (right_of v) → x ≡ b
    → Finished b x v v
finished_at b x v u h n e = record {
  edges = edges_of-sides v ∙ sym (finished_edges b x v u ∙ ap (λ es. edges_of (left_of v) ++ es) (flip_same b x _ (sym e)));
  right = rises_past b (right_of v) n h;
  stays = stays_same b v;
}

pub stays_step : (b : ℕ) (q p : Pulse) (u v w y : GapView Pulse) → q.rise ≤ b → p.rise ≤ b → Stays b u v → Took q v w → Wrote p w y → Stays b u y
stays_step b q p u v w y le early s t o =
    stays_then b u v y s (stays_then b v w y (stays_took b q v w le t) (stays_wrote b p w y early o))

late_list : (b : ℕ) (q : Pulse) (ps : List Pulse) → RisesFrom 0 (edges_of ps) → slice_get ps 0 ≡ Some q → b ≤ q.rise → RisesFrom b (edges_of ps)
late_list b q [] h is le = tt
late_list b q (p ∷ ps) h is le = (let e : p ≡ q = cc in subst (λ (r : Pulse). b ≤ r.rise) (sym e) le, h.1)

pub late_some : (b x : ℕ) (q : Pulse) (v : GapView Pulse) → RisesFrom 0 (waiting v x) → slice_get (right_of v) 0 ≡ Some q → b ≤ q.rise
    → RisesFrom b (edges_of (right_of v))
late_some b x q v h is le = late_list b q (right_of v) (rises_more (x + 1) 0 _ (omega arith)
    (rises_right 0 (edges_of (left_of v)) (x ∷ edges_of (right_of v)) h).1) is le

late_empty : (b : ℕ) (ps : List Pulse) → slice_get ps 0 ≡ None → RisesFrom b (edges_of ps)
late_empty b [] is = tt
late_empty b (p ∷ ps) is = absurd (cc)

pub late_none : (b : ℕ) (v : GapView Pulse) → slice_get (right_of v) 0 ≡ None → RisesFrom b (edges_of (right_of v))
late_none b v is = late_empty b (right_of v) is
