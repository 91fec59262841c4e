-- `write` writes an item to a place, over whatever it held. Assumes `Logic`.
use Rattle.irig_gap.proofs.Steps.{refl, sym, subst, ℕ, ◌+◌, ◌*◌, ◌<◌, ◌^◌, arith, List, [], ◌∷◌, ◌++◌, length, set, length-set, ftrue, froom, flft, Fn, w64}
use Rattle.irig_gap.proofs.Steps.{inst_fn, Val, vint, vptr, vunit, WpFn, ◌⊑◌, fact, tables, ‵, raw, ◌⊛◌, at_ret, ◌$◌, ◌∵◌, !, qed, done, move, keep, drop, use1}
use Rattle.irig_gap.proofs.Steps.{use3, split, join, fsplit, fsplit3, fjoin, fjoin3, feq_i, rewrite, suffices, regoal, prop, whole, sub, look_in, init, stop}
use Rattle.irig_gap.proofs.Steps.{fld, load, size_lit, unit_lit, of_opd, bin, assigns_last, first, blocks, exec, returns, enter, alloc_all, pass_all, free_all}
use Rattle.irig_gap.proofs.Steps.{look_at, local, through, sets, env, usize, yes, no, owns, plain, types_at, heard, nothing, Stays, stay_dropped, stay_ref}
use Rattle.irig_gap.proofs.Steps.{walk_of, Goes-dropped, Goes-ref, ends_at, proved_at, Some, El, R, args, elτ, after}
use Rattle.irig_gap.proofs.Rows.{Ce, sz, Beside, place_out, place_in, cells_opens, cells_closes}
use Rattle.irig_gap.proofs.cells.Cells.write.Statement.{statement}
use Rattle.core.proofs.{mem.Param.lawful, mem.Param.one, mem.Facts.says_two, ptr.Rows.times_below, ptr.Rows.one_below}
use Rattle.irig_gap.specs.{Cells.row, contracts.cells.Cells.write.Key.name as #self}
use Rattle.irig_gap.specs.contracts.cells.Cells.write as F
use Rattle.irig_gap.proofs.cells.Cells.write.Code as code

pub write_spec : {M : Type 1} → statement M
write_spec 𝓤 𝓛 𝓜 𝓡 wired X L =
    let E : El = record { row = X; laws = L } in let c = F.clauses X 𝓛 𝓜.mem 𝓡.returns in let 𝓣 = tables 𝓤 𝓛.H 𝓜 𝓡 𝓡.env in
    let body : Fn = inst_fn (args E) code.function in let s = sz E in
    let stayed : Stays (F.signature X).params (F.ended X).kept =
    (stay_ref (0 ∷ []) tt (plain (λ _. Ce E)), (stay_dropped (plain (λ _. usize)) yes, (stay_dropped (plain (λ _. R E)) no, tt))) in
    proved_at 𝓛 (F.ended X) stayed c 𝓜 𝓡 (
      Goes-ref 𝓛 2 0 tt (plain (λ _. Ce E)),
      (
        Goes-dropped 𝓛 2 (plain (λ _. usize)) yes (λ κs x f. refl),
        (Goes-dropped 𝓛 2 (plain (λ _. R E)) no (λ κs x f. refl), tt),
      ),
    )
    (#self (args E)) body (code.unfolded 𝓤 𝓛.H 𝓜 𝓡 wired (X, tt)) (λ y are.
    let W = walk_of 𝓛 (F.ended X) stayed c in let κs = y.0.0 in let qs = y.0.1 in let vss = y.0.4 in
    let self = y.0.3.0 in let i = y.0.3.1.0 in let x = y.0.3.1.1.0 in let d = self.now in let rb = self.ref_ptr.0 in let ro = self.ref_ptr.1 in
    let stored = one E vss.1.1.0 ((lawful E 𝓛).typed x vss.1.1.0 are.1.1.0) in let v = stored.0 in
    let us : List Val = vptr rb ro ∷ vint w64 i ∷ v ∷ [] in
    let new : (Ce E).Denot = record { start = d.start; slots = set d.slots i (Some x) } in
    qed 𝓛 (((‵ (flft κs.0 qs.0) ⊛ ‵ (flft κs.1.0 qs.1.0) ⊛ ‵ ftrue) ⊛ ‵ (owns (types_at (F.signature X).params κs) y.0.3 vss))
    ∷ (raw (fact 𝓤 (κs.1.0 ⊑ X.lives)) ⊛ raw (fact 𝓤 (i < length d.slots))) ∷ []) ∵
    move ! (1 ∷ []) $ split ! $ drop ! $ heard ! (i < length d.slots) (λ within.
    split ! $ split ! $ move ! (2 ∷ []) $ fsplit3 ! $ move ! (2 ∷ []) $ fsplit ! $ rewrite ! 0 (λ ws. ‵ (X.own_val x ws)) stored.1 refl $
    -- [the item; nothing; self; the index; the token of self; the other tokens]
    move ! (2 ∷ []) $ fsplit3 ! $ move ! (1 ∷ 2 ∷ 6 ∷ 3 ∷ []) $
    regoal ! (λ ws. prop (WpFn 𝓤 𝓛.H 𝓣.C 𝓣.Λ body ws (W.post y))) (λ k. are.0.0 k ++ (are.1.0.0 k ++ (stored.1 k ++ []))) refl $
    enter ! 𝓣.C 𝓣.Λ body us (W.post y) $ alloc_all ! (λ l. pass_all ! refl ((tt, tt), ((tt, record { fits = are.1.0.1 }), (stored.2, tt))) $
    cells_opens E ! tt d rb ro (λ b o start fit.
    let tiny : s < 2 ^ 64 = omega (arith, one_below (length d.slots) s (2 ^ 63) (omega arith) fit) in
    let far : i * s < 2 ^ 64 = omega (arith, times_below i (length d.slots) s (2 ^ 63) (omega arith) fit) in
    use1 𝓛 (‵ (froom (elτ E) b (i * s + o)) ⊛ ‵ (Beside E 𝓛 b o i d.slots)) (place_out E 𝓛 b o i d.slots within) $ split ! $
    -- [the memory; the other places; the word; the open borrow, in three; the item; self's first part; ..; the other tokens]
    first ! $ blocks ! $
    sets ! (of_opd ! (load ! (through ! refl (fld ! refl (stop !))) (look_in ! 2 (sub ! 0 refl (whole !))))) refl (tt, tt) $
    sets ! (bin ! (local ! refl) (size_lit ! (record { fits = tiny })) (record { fits = far })) refl (tt, record { fits = far }) $
    sets ! (bin ! (local ! refl) (local ! refl) tt) refl (tt, tt) $ sets ! (of_opd ! (local ! refl)) refl stored.2 $
    assigns_last ! (of_opd ! (local ! refl)) (through ! refl (stop !)) (init ! 0 refl stored.2) $
    exec ! 𝓣.C 𝓣.Λ (env body.locals l) (after 1 body.body) (at_ret (env body.locals l) (W.post y)) $ sets ! (of_opd ! (unit_lit !)) refl (tt, tt) $
    move ! (0 ∷ 6 ∷ []) $ use3 𝓛 (‵ (row (R E) b o new.slots)) (place_in E 𝓛 b o i d.slots within x v) $
    cells_closes E ! tt new b o rb ro start (subst (λ (k : ℕ). k * s < 2 ^ 63) (sym (length-set d.slots i (Some x))) fit) $
    returns ! (look_at ! 0 refl) $ free_all ! refl $
    suffices ! _ (ends_at 𝓛 (F.ended X) stayed c y vunit tt (new, (tt, (tt, tt))) (tt, (tt, (tt, tt)))) $ says_two ! (refl, refl) $
    move ! (3 ∷ []) $ fjoin3 ! $ nothing ! $ nothing ! $ fjoin ! $ nothing ! $ fjoin ! $ move ! (1 ∷ 0 ∷ []) $ fjoin ! $
    move ! (1 ∷ 4 ∷ []) $ join ! $ feq_i ! _ (vunit ∷ []) _ refl $ keep ! (1 ∷ 2 ∷ 0 ∷ []) $ done !))))
