-- Two runs of a row come out and go back as others, as items or as memory. Assumes `Logic`.
use mathlib.Core.Path.{◌≡◌, refl, sym, ap, ◌∙◌}
use Prim.Native.Nat.{ℕ, ◌+◌, ◌-◌, ◌*◌, ◌≤◌}
use native.Mathlib.Omega.{arith}
use mathlib.Core.List.{List, [], ◌∷◌, ◌++◌, map}
use lib.ListN.{length, take, drop}
use seplogic.Ra.Ura.{Ura}
use base.Fraction.{full_share}
use base.Logic.{SProp, ent, sep, id⊢}
use base.Fml.{Fml, fsep, froom}
use mir.Syntax.{ty_array}
use types.Logic.{Logic, sem}
use types.Kit.{‵, ◌⊛◌, given, ◌$◌, ◌∵◌, !, qed, by, done, move, use1, use2, use3, learn, split, frame, rewrite, fsplit, fjoin}
use denote.Array.{Array}
use denote.Index.{row as items}
use denote.Memory.{part_at}
use Rattle.std.proofs.Common.{inl, inr}
use Rattle.std.specs.Prelude.{Some}
use Rattle.core.proofs.mem.Param.{El, R, el_x, elτ}
use Rattle.core.proofs.ptr.Rows as arrays
use Rattle.irig_gap.specs.Cells.{row, laid, AreApart}
use Rattle.irig_gap.proofs.Overlays.{between, in_parts, longs, exchanged, laid_low_first, laid_high_first}
use Rattle.irig_gap.proofs.Rows.{Place, sz, cut, glue, to_room}

module _ (E : El) {M : Type 1} {𝓤 : Ura M} (𝓛 : Logic 𝓤) (b : ℕ) where
  open 𝓛 use {H}

  abbrev ◌⊢◌ : SProp 𝓤 → SProp 𝓤 → Type 1
  P ⊢ Q = ent 𝓤 P Q

  abbrev ◌∗◌ : SProp 𝓤 → SProp 𝓤 → SProp 𝓤
  P ∗ Q = sep 𝓤 P Q

  abbrev ⟦◌⟧ : Fml → SProp 𝓤
  ⟦ P ⟧ = sem 𝓛 P

  infix 26 ◌⊢◌
  infixr 35 ◌∗◌
  abbrev s : ℕ
  s = sz E

  abbrev Row : ℕ → List (Place E) → Fml
  Row = row (R E) b

  abbrev E' : arrays.El
  E' = record { row = E.row; laws = E.laws }

  module _ (o : ℕ) (cs : List (Place E)) (low high n : ℕ) (apart : low + n ≤ high) (inside : high + n ≤ length cs) where
    -- all but the two runs
    abbrev Rest : Fml
    Rest = fsep (Row o (take low cs)) (fsep (Row (n * s + (low * s + o)) (between cs low high n apart inside))
        (Row (n * s + (high * s + o)) (drop (high + n) cs)))

    first : low * s + o ≡ length (take low cs) * s + o
    first = ap (λ k. k * s + o) (sym (longs cs low high n apart inside).0)

    second : high * s + o ≡ length (between cs low high n apart inside) * s + (n * s + (low * s + o))
    second =
        let m = high - (low + n) in let e : high ≡ m + (n + low) = omega arith in
        let p = ap (λ k. k * s) e ∙ arrays.add_times m (n + low) s in let q = arrays.add_times n low s in
        let r = ap (λ k. k * s) (longs cs low high n apart inside).1 in omega arith

    two_out : ⟦ Row o cs ⟧ ⊢ ⟦ Row (low * s + o) (take n (drop low cs)) ⟧ ∗ ⟦ Row (high * s + o) (take n (drop high cs)) ⟧ ∗ ⟦ Rest ⟧
    two_out =
        let l = longs cs low high n apart inside in let A = take low cs in let P = take n (drop low cs) in let B = between cs low high n apart inside in let Q =
        take n (drop high cs) in let Z = drop (high + n) cs in
        let low' = low * s + o in let high' = high * s + o in
        qed 𝓛 (‵ (Row o cs) ∷ []) ∵ rewrite ! 0 (λ (l : List (Place E)). ‵ (Row o l)) (in_parts cs low high n apart inside) refl $
        use1 𝓛 (‵ (Row o A) ⊛ ‵ (Row low' (P ++ (B ++ (Q ++ Z))))) (cut E 𝓛 b A (P ++ (B ++ (Q ++ Z))) o low' first) $ split ! $ move ! (1 ∷ []) $
        use1 𝓛 (‵ (Row low' P) ⊛ ‵ (Row (n * s + low') (B ++ (Q ++ Z)))) (cut E 𝓛 b P (B ++ (Q ++ Z)) low' (n * s + low') (ap (λ k. k * s + low') (sym l.2))) $
        split ! $ frame ! $
        use1 𝓛 (‵ (Row (n * s + low') B) ⊛ ‵ (Row high' (Q ++ Z))) (cut E 𝓛 b B (Q ++ Z) (n * s + low') high' second) $ split ! $ move ! (1 ∷ []) $
        use1 𝓛 (‵ (Row high' Q) ⊛ ‵ (Row (n * s + high') Z)) (cut E 𝓛 b Q Z high' (n * s + high') (ap (λ k. k * s + high') (sym l.3))) $ split ! $ frame ! $
        move ! (1 ∷ 0 ∷ []) $ fjoin ! $ move ! (1 ∷ 0 ∷ []) $ fjoin ! $ done !

    two_in : (ps qs : List (Place E)) → length ps ≡ n → length qs ≡ n
        → ⟦ Row (low * s + o) ps ⟧ ∗ ⟦ Row (high * s + o) qs ⟧ ∗ ⟦ Rest ⟧ ⊢ ⟦ Row o (exchanged cs low high n apart inside ps qs) ⟧
    two_in ps qs lp lq =
        let A = take low cs in let B = between cs low high n apart inside in let Z = drop (high + n) cs in
        let low' = low * s + o in let high' = high * s + o in
        qed 𝓛 (‵ (Row low' ps) ∷ ‵ (Row high' qs) ∷ ‵ Rest ∷ []) ∵ move ! (2 ∷ []) $ fsplit ! $ move ! (1 ∷ []) $ fsplit ! $
        -- [between; the end; the front; the two runs]
        move ! (4 ∷ 1 ∷ []) $ use2 𝓛 (‵ (Row high' (qs ++ Z))) (glue E 𝓛 b qs Z high' (n * s + high') (ap (λ k. k * s + high') (sym lq))) $
        move ! (1 ∷ 0 ∷ []) $ use2 𝓛 (‵ (Row (n * s + low') (B ++ (qs ++ Z)))) (glue E 𝓛 b B (qs ++ Z) (n * s + low') high' second) $
        move ! (2 ∷ 0 ∷ []) $ use2 𝓛 (‵ (Row low' (ps ++ (B ++ (qs ++ Z)))))
        (glue E 𝓛 b ps (B ++ (qs ++ Z)) low' (n * s + low') (ap (λ k. k * s + low') (sym lp))) $
        move ! (1 ∷ []) $ by ! (glue E 𝓛 b A (ps ++ (B ++ (qs ++ Z))) o low' first)

  -- the run at from and the run at to come out with the rest, and go back as others, whichever lies first
  module _ (o : ℕ) (cs : List (Place E)) (from to n : ℕ) (source : from + n ≤ length cs) (target : to + n ≤ length cs) where
    pub Others : AreApart from to n → Fml
    Others (inl below) = Rest o cs from to n below target
    Others (inr above) = Rest o cs to from n above source

    pub runs_out : (apart : AreApart from to n) → ⟦ Row o cs ⟧ ⊢ ⟦ Row (from * s + o) (take n (drop from cs)) ⟧ ∗ ⟦ Row (to * s + o) (take n (drop to cs)) ⟧ ∗ ⟦
        Others apart ⟧
    unfolding Others
    runs_out (inl below) = two_out o cs from to n below target
    runs_out (inr above) =
        let P = take n (drop to cs) in let Q = take n (drop from cs) in let R = Rest o cs to from n above source in
        qed 𝓛 (‵ (Row o cs) ∷ []) ∵ use1 𝓛 (‵ (Row (to * s + o) P) ⊛ ‵ (Row (from * s + o) Q) ⊛ ‵ R) (two_out o cs to from n above source) $
        split ! $ move ! (1 ∷ []) $ split ! $ frame ! $ move ! (1 ∷ 0 ∷ []) $ frame ! $ done !

    pub runs_in : (apart : AreApart from to n) (ps qs : List (Place E)) → length ps ≡ n → length qs ≡ n
        → ⟦ Row (from * s + o) ps ⟧ ∗ ⟦ Row (to * s + o) qs ⟧ ∗ ⟦ Others apart ⟧ ⊢ ⟦ Row o (laid (laid cs from ps) to qs) ⟧
    unfolding Others
    runs_in (inl below) ps qs lp lq =
        qed 𝓛 (‵ (Row (from * s + o) ps) ∷ ‵ (Row (to * s + o) qs) ∷ ‵ (Rest o cs from to n below target) ∷ []) ∵
        use3 𝓛 (‵ (Row o (exchanged cs from to n below target ps qs))) (two_in o cs from to n below target ps qs lp lq) $
        rewrite ! 0 (λ (l : List (Place E)). ‵ (Row o l)) (sym (laid_low_first cs from to n below target ps qs lp lq)) refl $ done !
    runs_in (inr above) ps qs lp lq =
        qed 𝓛 (‵ (Row (from * s + o) ps) ∷ ‵ (Row (to * s + o) qs) ∷ ‵ (Rest o cs to from n above source) ∷ []) ∵ move ! (1 ∷ 0 ∷ []) $
        use3 𝓛 (‵ (Row o (exchanged cs to from n above source qs ps))) (two_in o cs to from n above source qs ps lq lp) $
        rewrite ! 0 (λ (l : List (Place E)). ‵ (Row o l)) (sym (laid_high_first cs to from n above source qs ps lq lp)) refl $ done !

  to_items : (xs : List (el_x E)) (o : ℕ) → ⟦ Row o (map Some xs) ⟧ ⊢ ⟦ items (R E) full_share xs b o ⟧
  to_items [] o = id⊢ 𝓤 _
  to_items (x ∷ xs) o = qed 𝓛 (‵ (part_at (R E) full_share x b o) ∷ ‵ (Row (o + s) (map Some xs)) ∷ []) ∵ frame ! $ by ! (to_items xs (o + s))

  of_items : (xs : List (el_x E)) (o : ℕ) → ⟦ items (R E) full_share xs b o ⟧ ⊢ ⟦ Row o (map Some xs) ⟧
  of_items [] o = id⊢ 𝓤 _
  of_items (x ∷ xs) o = qed 𝓛 (‵ (part_at (R E) full_share x b o) ∷ ‵ (items (R E) full_share xs b (o + s)) ∷ []) ∵ frame ! $ by ! (of_items xs (o + s))

  module _ (o n : ℕ) (xs : List (el_x E)) (long : length xs ≡ n) where
    pub to_array : ⟦ Row o (map Some xs) ⟧ ⊢ ⟦ part_at (Array (R E) n) full_share xs b o ⟧
    to_array = qed 𝓛 (‵ (Row o (map Some xs)) ∷ []) ∵ use1 𝓛 (‵ (items (R E) full_share xs b o)) (to_items xs o) $
        by ! (arrays.whole E' 𝓛 full_share n xs b o long)

    pub of_array : ⟦ part_at (Array (R E) n) full_share xs b o ⟧ ⊢ ⟦ Row o (map Some xs) ⟧
    of_array = qed 𝓛 (‵ (part_at (Array (R E) n) full_share xs b o) ∷ []) ∵
        use1 𝓛 (given (length xs ≡ n) (‵ (items (R E) full_share xs b o))) (arrays.apart E' 𝓛 full_share n xs b o) $ learn ! (λ _. by ! (of_items xs o))

  pub to_space : (cs : List (Place E)) (o n : ℕ) → length cs ≡ n → ⟦ Row o cs ⟧ ⊢ H.room (ty_array (elτ E) n) b o
  to_space cs o n long = qed 𝓛 (‵ (Row o cs) ∷ []) ∵
      use1 𝓛 (‵ (froom (ty_array (elτ E) (length cs)) b o)) (to_room E 𝓛 b cs o) $ rewrite ! 0 (λ (k : ℕ). ‵ (froom (ty_array (elτ E) k) b o)) long refl $
      done !
