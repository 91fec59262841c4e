-- What lies outside the gap after each step, as lists of places.
use Rattle.std.proofs.Common.{◌≡◌, ℕ, suc, zero, ◌+◌, ◌-◌, ◌<◌, ◌≤◌, List, [], ◌∷◌, ◌++◌, map, length, take, drop, set, get_or, insert, remove, replicate}
use Rattle.std.proofs.Common.{Option, Some, None, slice_get, refl, sym, ap, ◌∙◌, subst, arith, append_assoc, length-append, length-drop}
use Rattle.std.proofs.Math.Seq.{take-add, take-set-lt, take-append_seam, drop-append_seam, drop-drop}
use Rattle.std.proofs.lemmas.List.{get_or-take, get_or-drop, map-append, take-map, drop-map, drop_more, take_more, set-append_left, set-append_right}
use Rattle.std.proofs.lemmas.List.{drop-set-add, get_or_append_left, get_or-append_right, length-take, take-set-le, drop-set-lt, take-append-drop}
use Rattle.std.proofs.lemmas.List.{length-replicate}
use Rattle.std.proofs.lemmas.{Grind.take-set_at, Grind.drop-set_at, List.Edits.insert-append_left, List.Edits.insert_end, List.Edits.remove-append_right}
use Rattle.irig_gap.specs.{Cells.laid, Cells.moved, Slots.somes, Slots.live}
use Rattle.irig_gap.proofs.Overlays.{length-laid, take-laid, drop-laid_at, take-laid_past, drop-laid}

module _ {X : Type 0} where
  pub somes-map : (l : List X) → somes (map Some l) ≡ l
  somes-map [] = refl
  somes-map (x ∷ l) = ap (λ xs. x ∷ xs) (somes-map l)

  pub read_map : (l : List X) (i : ℕ) → get_or (map Some l) i None ≡ slice_get l i
  read_map [] i = refl
  read_map (x ∷ l) zero = refl
  read_map (x ∷ l) (suc i) = read_map l i

  pub map-insert : (l : List X) (i : ℕ) (x : X) → map Some (insert l i x) ≡ insert (map Some l) i (Some x)
  map-insert l i x = map-append Some (take i l) (x ∷ drop i l) ∙ ap (λ ys. ys ++ Some x ∷ map Some (drop i l)) (sym (take-map Some i l))
      ∙ ap (λ ys. take i (map Some l) ++ Some x ∷ ys) (sym (drop-map Some i l))

  pub length-live : (cs : List (Option X)) (g a : ℕ) → g ≤ a → a ≤ length cs → length (live cs g a) + a ≡ g + length cs
  unfolding live
  length-live cs g a p q = omega (arith, length-append (take g cs) (drop a cs), length-take g cs, length-drop a cs)

  pub live-put : (cs : List (Option X)) (g a : ℕ) (y : Option X) → g < a → a ≤ length cs → live (set cs g y) (g + 1) a ≡ insert (live cs g a) g y
  unfolding live
  live-put cs g a y p q =
      let lt : g < length cs = omega arith in let long : length (take g cs) ≡ g = omega (arith, length-take g cs) in
      ap (λ ys. ys ++ drop a (set cs g y)) (take-set_at cs g (g + 1) y refl lt) ∙ ap (λ ys. (take g cs ++ y ∷ []) ++ ys) (drop-set-lt a cs g y p)
      ∙ sym (insert-append_left (take g cs) (drop a cs) g y (omega arith)
      ∙ ap (λ ys. ys ++ drop a cs) (subst (λ k. insert (take g cs) k y ≡ take g cs ++ y ∷ []) long (insert_end (take g cs) y)))

  pub live-left : (cs : List (Option X)) (m b : ℕ) → m ≤ b → b < length cs → live (set cs b (get_or cs m None)) m b ≡ live cs (m + 1) (b + 1)
  unfolding live
  live-left cs m b p q =
      let y = get_or cs m None in
      ap (λ ys. ys ++ drop b (set cs b y)) (take-set-le m cs b y p) ∙ ap (λ ys. take m cs ++ ys) (drop-set_at cs b b y refl q)
      ∙ sym (append_assoc (take m cs) (y ∷ []) (drop (b + 1) cs)) ∙ ap (λ ys. ys ++ drop (b + 1) cs) (sym (take_more cs m None (omega arith)))

  pub live-right : (cs : List (Option X)) (g a : ℕ) → g ≤ a → a < length cs → live (set cs g (get_or cs a None)) (g + 1) (a + 1) ≡ live cs g a
  unfolding live
  live-right cs g a p q =
      let y = get_or cs a None in
      ap (λ ys. ys ++ drop (a + 1) (set cs g y)) (take-set_at cs g (g + 1) y refl (omega arith))
      ∙ ap (λ ys. (take g cs ++ y ∷ []) ++ ys) (drop-set-lt (a + 1) cs g y (omega arith))
      ∙ append_assoc (take g cs) (y ∷ []) (drop (a + 1) cs) ∙ ap (λ ys. take g cs ++ ys) (sym (drop_more cs a None q))

  pub live-set_left : (cs : List (Option X)) (g a i : ℕ) (y : Option X) → i < g → g ≤ a → a ≤ length cs → live (set cs i y) g a ≡ set (live cs g a) i y
  unfolding live
  live-set_left cs g a i y p q r =
      ap (λ ys. ys ++ drop a (set cs i y)) (take-set-lt g cs i y p) ∙ ap (λ ys. set (take g cs) i y ++ ys) (drop-set-lt a cs i y (omega arith))
      ∙ sym (set-append_left (take g cs) (drop a cs) i y (omega (arith, length-take g cs)))

  pub live-set_right : (cs : List (Option X)) (g a i : ℕ) (y : Option X) → g ≤ i → g ≤ a → a ≤ length cs
      → live (set cs (a + (i - g)) y) g a ≡ set (live cs g a) i y
  unfolding live
  live-set_right cs g a i y p q r =
      ap (λ ys. ys ++ drop a (set cs (a + (i - g)) y)) (take-set-le g cs (a + (i - g)) y (omega arith))
      ∙ ap (λ ys. take g cs ++ ys) (drop-set-add a cs (i - g) y)
      ∙ sym (set-append_right (take g cs) (drop a cs) g i y (omega (arith, length-take g cs)) p)

  pub read_left : (cs : List (Option X)) (g a i : ℕ) → i < g → g ≤ a → a ≤ length cs → get_or (live cs g a) i None ≡ get_or cs i None
  unfolding live
  read_left cs g a i p q r = get_or_append_left (take g cs) (drop a cs) None i (omega (arith, length-take g cs)) ∙ get_or-take g cs i None p

  pub read_right : (cs : List (Option X)) (g a i : ℕ) → g ≤ i → g ≤ a → a ≤ length cs → get_or (live cs g a) i None ≡ get_or cs (a + (i - g)) None
  unfolding live
  read_right cs g a i p q r = get_or-append_right (take g cs) (drop a cs) g i None (omega (arith, length-take g cs)) p ∙ get_or-drop a cs (i - g) None

  pub live-of : (ds : List (Option X)) (b : ℕ) (cs : List (Option X)) (g a : ℕ) → take g ds ≡ take g cs → drop b ds ≡ drop a cs → live ds g b ≡ live cs g a
  unfolding live
  live-of ds b cs g a front back = λ t. front t ++ back t

  pub seam-take : (xs ys : List (Option X)) (k : ℕ) → length xs ≡ k → take k (xs ++ ys) ≡ xs
  seam-take xs ys k e = ap (λ j. take j (xs ++ ys)) (sym e) ∙ take-append_seam xs ys

  pub seam-drop : (xs ys : List (Option X)) (k : ℕ) → length xs ≡ k → drop k (xs ++ ys) ≡ ys
  seam-drop xs ys k e = ap (λ j. drop j (xs ++ ys)) (sym e) ∙ drop-append_seam xs ys

  pub live-none : (cs : List (Option X)) (g : ℕ) → live cs g g ≡ cs
  unfolding live
  live-none cs g = take-append-drop g cs

  -- n items left of the gap move to its right
  pub live-up : (cs : List (Option X)) (low high n : ℕ) → low + n ≤ high → high + n ≤ length cs
      → live (moved cs low high n) low high ≡ live cs (low + n) (high + n)
  unfolding live
  live-up cs low high n p q =
      let none : List (Option X) = replicate n None in let emptied = laid cs low none in let run = take n (drop low cs) in
      let ln : length none ≡ n = length-replicate n None in let lr : length run ≡ n = omega (arith, length-take n (drop low cs), length-drop low cs) in
      let long = length-laid cs low none (omega (arith, ln)) in let end : high + length run ≡ high + n = ap (λ k. high + k) lr in
      let left : take low (laid emptied high run) ≡ take low cs = take-laid emptied high run low (omega arith) (omega (arith, long))
      ∙ take-laid cs low none low (omega arith) (omega arith) in
      let right : drop high (laid emptied high run) ≡ run ++ drop (high + n) cs =
      drop-laid_at emptied high run (omega (arith, long)) ∙ ap (λ k. run ++ drop k emptied) end
      ∙ ap (λ l. run ++ l) (drop-laid cs low none (high + n) (omega (arith, ln)) (omega arith)) in
      (λ t. left t ++ right t) ∙ sym (append_assoc (take low cs) run (drop (high + n) cs)) ∙ ap (λ l. l ++ drop (high + n) cs) (sym (take-add low n cs))

  -- n items right of the gap move to its left
  pub live-down : (cs : List (Option X)) (low high n : ℕ) → low + n ≤ high → high + n ≤ length cs
      → live (moved cs high low n) (low + n) (high + n) ≡ live cs low high
  unfolding live
  live-down cs low high n p q =
      let none : List (Option X) = replicate n None in let emptied = laid cs high none in let run = take n (drop high cs) in
      let ln : length none ≡ n = length-replicate n None in let lr : length run ≡ n = omega (arith, length-take n (drop high cs), length-drop high cs) in
      let long = length-laid cs high none (omega (arith, ln)) in let end : low + n ≡ low + length run = ap (λ k. low + k) (sym lr) in
      let left : take (low + n) (laid emptied low run) ≡ take low cs ++ run =
      ap (λ k. take k (laid emptied low run)) end ∙ take-laid_past emptied low run (omega (arith, long))
      ∙ ap (λ l. l ++ run) (take-laid cs high none low (omega arith) (omega arith)) in
      let right : drop (high + n) (laid emptied low run) ≡ drop (high + n) cs =
      drop-laid emptied low run (high + n) (omega (arith, lr)) (omega (arith, long)) ∙ drop-laid cs high none (high + n) (omega (arith, ln)) (omega arith) in
      (λ t. left t ++ right t) ∙ append_assoc (take low cs) run (drop (high + n) cs)
      ∙ ap (λ l. take low cs ++ l) (ap (λ l. run ++ l) (sym (drop-drop n high cs)) ∙ take-append-drop n (drop high cs))

  pub length-moved : (cs : List (Option X)) (from to n : ℕ) → from + n ≤ length cs → to + n ≤ length cs → length (moved cs from to n) ≡ length cs
  length-moved cs from to n p q =
      let none : List (Option X) = replicate n None in let run = take n (drop from cs) in
      let ln : length none ≡ n = length-replicate n None in let lr : length run ≡ n = omega (arith, length-take n (drop from cs), length-drop from cs) in
      let once = length-laid cs from none (omega (arith, ln)) in length-laid (laid cs from none) to run (omega (arith, lr, once)) ∙ once

  pub live-left_side : (cs : List (Option X)) (g a : ℕ) → g ≤ length cs → take g (live cs g a) ≡ take g cs
  unfolding live
  live-left_side cs g a p = seam-take (take g cs) (drop a cs) g (omega (arith, length-take g cs))

  pub live-right_side : (cs : List (Option X)) (g a : ℕ) → g ≤ length cs → drop g (live cs g a) ≡ drop a cs
  unfolding live
  live-right_side cs g a p = seam-drop (take g cs) (drop a cs) g (omega (arith, length-take g cs))

  pub cut_at : (l : List X) (m : ℕ) → m < length l → (x : X) × (slice_get l m ≡ Some x)
  cut_at [] m lt = absurd (omega arith)
  cut_at (x ∷ l) zero lt = (x, refl)
  cut_at (x ∷ l) (suc m) lt = cut_at l m (omega arith)

  pub map-remove : (l : List X) (i : ℕ) → map Some (remove l i) ≡ remove (map Some l) i
  map-remove l i = map-append Some (take i l) (drop (suc i) l) ∙ ap (λ ys. ys ++ map Some (drop (suc i) l)) (sym (take-map Some i l))
      ∙ ap (λ ys. take i (map Some l) ++ ys) (sym (drop-map Some (suc i) l))

  pub live-taken : (cs : List (Option X)) (m a : ℕ) → m < a → a ≤ length cs → live cs m a ≡ remove (live cs (m + 1) a) m
  unfolding live
  live-taken cs m a p q =
      let y = get_or cs m None in let long : length (take m cs) ≡ m = omega (arith, length-take m cs) in
      sym (ap (λ ys. remove (ys ++ drop a cs) m) (take_more cs m None (omega arith)) ∙ ap (λ ys. remove ys m) (append_assoc (take m cs) (y ∷ []) (drop a cs))
      ∙ remove-append_right (take m cs) (y ∷ drop a cs) m m long (omega arith)
      ∙ (let none : m - m ≡ 0 = omega arith in ap (λ k. take m cs ++ remove (y ∷ drop a cs) k) none))

  pub live-taken_right : (cs : List (Option X)) (g a : ℕ) → g ≤ a → a < length cs → live cs g (a + 1) ≡ remove (live cs g a) g
  unfolding live
  live-taken_right cs g a p q =
      let long : length (take g cs) ≡ g = omega (arith, length-take g cs) in
      sym (remove-append_right (take g cs) (drop a cs) g g long (omega arith)
      ∙ (let none : g - g ≡ 0 = omega arith in ap (λ k. take g cs ++ remove (drop a cs) k) none)
      ∙ ap (λ ys. take g cs ++ remove ys 0) (drop_more cs a None q))
