-- Runs of places laid over others, as lists.
use Rattle.std.proofs.Common.{◌≡◌, ℕ, ◌+◌, ◌-◌, ◌≤◌, List, ◌++◌, length, take, drop, Option, sym, ap, ◌∙◌, arith, append_assoc, length-append, length-drop}
use Rattle.std.proofs.Math.Seq.{drop-drop, take-append-add, drop-append-add, take-append_seam, drop-append_seam}
use Rattle.std.proofs.lemmas.List.{length-take, take-append-drop, drop-take, take-append-le, drop-append-le, take-take}
use Rattle.irig_gap.specs.Cells.{laid}

module _ {X : Type 0} (cs : List (Option X)) (at : ℕ) (ps : List (Option X)) where
  -- what lies after the places
  abbrev rest : List (Option X)
  rest = drop (at + length ps) cs

  pub length-laid : at + length ps ≤ length cs → length (laid cs at ps) ≡ length cs
  length-laid inside = omega (arith, length-append (take at cs) (ps ++ rest), length-append ps rest, length-take at cs, length-drop (at + length ps) cs)

  -- what lies before and after the run stays
  pub take-laid : (k : ℕ) → k ≤ at → at ≤ length cs → take k (laid cs at ps) ≡ take k cs
  take-laid k before inside =
      let long : length (take at cs) ≡ at = omega (arith, length-take at cs) in
      take-append-le k (take at cs) (ps ++ rest) (omega (arith, long)) ∙ take-take k at cs before

  pub drop-laid_at : at ≤ length cs → drop at (laid cs at ps) ≡ ps ++ rest
  drop-laid_at inside =
      let long : at ≡ length (take at cs) = omega (arith, length-take at cs) in
      ap (λ k. drop k (laid cs at ps)) long ∙ drop-append_seam (take at cs) (ps ++ rest)

  front : at ≤ length cs → length (take at cs ++ ps) ≡ at + length ps
  front inside = omega (arith, length-append (take at cs) ps, length-take at cs)

  pub take-laid_past : at ≤ length cs → take (at + length ps) (laid cs at ps) ≡ take at cs ++ ps
  take-laid_past inside =
      ap (take (at + length ps)) (sym (append_assoc (take at cs) ps rest)) ∙ ap (λ k. take k ((take at cs ++ ps) ++ rest)) (sym (front inside))
      ∙ take-append_seam (take at cs ++ ps) rest

  pub drop-laid : (k : ℕ) → at + length ps ≤ k → at ≤ length cs → drop k (laid cs at ps) ≡ drop k cs
  drop-laid k after inside =
      let m = k - (at + length ps) in let past : k ≡ length (take at cs ++ ps) + m = omega (arith, front inside) in let up : at + length ps + m ≡ k =
      omega arith in
      (λ t. drop (past t) (sym (append_assoc (take at cs) ps rest) t)) ∙ drop-append-add (take at cs ++ ps) rest m ∙ drop-drop m (at + length ps) cs
      ∙ ap (λ j. drop j cs) up

module _ {X : Type 0} (cs : List X) (low high n : ℕ) (apart : low + n ≤ high) (inside : high + n ≤ length cs) where
  -- what lies between the two
  abbrev pub between : List X
  between = take (high - (low + n)) (drop (low + n) cs)

  -- the row is its five parts
  pub in_parts : cs ≡ take low cs ++ (take n (drop low cs) ++ (between ++ (take n (drop high cs) ++ drop (high + n) cs)))
  in_parts =
      let up : low + n + (high - (low + n)) ≡ high = omega arith in
      sym (take-append-drop low cs) ∙ ap (λ l. take low cs ++ l)
      (sym (take-append-drop n (drop low cs)) ∙ ap (λ l. take n (drop low cs) ++ l) (drop-drop n low cs
      ∙ sym (take-append-drop (high - (low + n)) (drop (low + n) cs))
      ∙ ap (λ l. between ++ l) (drop-drop (high - (low + n)) (low + n) cs ∙ ap (λ k. drop k cs) up
      ∙ sym (take-append-drop n (drop high cs)) ∙ ap (λ l. take n (drop high cs) ++ l) (drop-drop n high cs))))

  pub longs : (length (take low cs) ≡ low) × (length between ≡ high - (low + n)) × (length (take n (drop low cs)) ≡ n) × (length (take n (drop high cs)) ≡ n)
      × (length (drop (high + n) cs) ≡ length cs - (high + n))
  longs = (
    omega (arith, length-take low cs),
    omega (arith, length-take (high - (low + n)) (drop (low + n) cs), length-drop (low + n) cs),
    omega (arith, length-take n (drop low cs), length-drop low cs),
    omega (arith, length-take n (drop high cs), length-drop high cs),
    length-drop (high + n) cs,
  )

  -- the row with other runs instead of the two
  abbrev pub exchanged : List X → List X → List X
  exchanged ps qs = take low cs ++ (ps ++ (between ++ (qs ++ drop (high + n) cs)))

module _ {X : Type 0} (cs : List (Option X)) (low high n : ℕ) (apart : low + n ≤ high) (inside : high + n ≤ length cs) (ps qs : List (Option X))
    (lp : length ps ≡ n) (lq : length qs ≡ n) where
  -- the row with both laid
  abbrev two : List (Option X)
  two = exchanged cs low high n apart inside ps qs

  -- whichever run is laid first
  pub laid_low_first : laid (laid cs low ps) high qs ≡ two
  laid_low_first =
      let A = take low cs in let D = drop (low + n) cs in let m = high - (low + n) in let k = high + n - (low + n) in
      let front : length (A ++ ps) ≡ low + n = omega (arith, length-append A ps, length-take low cs, lp) in
      let once : laid cs low ps ≡ (A ++ ps) ++ D = ap (λ j. A ++ (ps ++ drop (low + j) cs)) lp ∙ sym (append_assoc A ps D) in
      let upto : high ≡ length (A ++ ps) + m = omega (arith, front) in let past : high + length qs ≡ length (A ++ ps) + k = omega (arith, front, lq) in
      let end : low + n + k ≡ high + n = omega arith in
      let left : take high (laid cs low ps) ≡ (A ++ ps) ++ take m D = (λ t. take (upto t) (once t)) ∙ take-append-add (A ++ ps) D m in
      let right : drop (high + length qs) (laid cs low ps) ≡ drop (high + n) cs = (λ t. drop (past t) (once t)) ∙ drop-append-add (A ++ ps) D k
      ∙ drop-drop k (low + n) cs ∙ ap (λ j. drop j cs) end in
      (λ t. left t ++ (qs ++ right t)) ∙ append_assoc (A ++ ps) (take m D) (qs ++ drop (high + n) cs)
      ∙ append_assoc A ps (take m D ++ (qs ++ drop (high + n) cs))

  pub laid_high_first : laid (laid cs high qs) low ps ≡ two
  laid_high_first =
      let W = qs ++ drop (high + n) cs in let m = high - (low + n) in
      let long : length (take high cs) ≡ high = omega (arith, length-take high cs) in let mid : high ≡ low + n + m = omega arith in
      let once : laid cs high qs ≡ take high cs ++ W = ap (λ j. take high cs ++ (qs ++ drop (high + j) cs)) lq in
      let left : take low (laid cs high qs) ≡ take low cs = ap (take low) once ∙ take-append-le low (take high cs) W (omega (arith, long))
      ∙ take-take low high cs (omega arith) in
      let right : drop (low + length ps) (laid cs high qs) ≡ take m (drop (low + n) cs) ++ W =
      (λ t. drop (low + lp t) (once t)) ∙ drop-append-le (low + n) (take high cs) W (omega (arith, long))
      ∙ ap (λ l. l ++ W) (ap (λ j. drop (low + n) (take j cs)) mid ∙ drop-take (low + n) m cs) in
      λ t. left t ++ (ps ++ right t)
