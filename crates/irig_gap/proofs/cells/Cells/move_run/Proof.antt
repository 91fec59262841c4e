-- `move_run` hands a run of items and the memory of another run to `copy_nonoverlapping`, and gets both back. Assumes `Logic`.
use Rattle.irig_gap.proofs.Steps.{◌≡◌, refl, sym, ap, subst, ◌∙◌, ℕ, ◌+◌, ◌*◌, ◌≤◌, ◌<◌, ◌^◌, arith, List, [], ◌∷◌, map, T, length, take, dropped, replicate}
use Rattle.irig_gap.proofs.Steps.{length-replicate, length-take, length-drop, emp, id⊢, ftrue, froom, flft, Fn, w64, named, ty_unit, ty_array, inst_fn, Val}
use Rattle.irig_gap.proofs.Steps.{vint, vunit, has_ty, WT, ◌⊑◌, fact, fact_i, tables, ‵, raw, ◌⊛◌, later, at_ret, ◌$◌, ◌∵◌, !, qed, done, move, keep, drop}
use Rattle.irig_gap.proofs.Steps.{use0, use1, use3, split, join, await, fsplit, fsplit3, fjoin, fjoin3, feq_i, feq_l, rewrite, suffices, pick, some, whole, sub}
use Rattle.irig_gap.proofs.Steps.{look_in, stop, fld, load, size_word, unit_lit, of_opd, bin, and_then, no_more, first, blocks, exec, returns, enter, alloc_all}
use Rattle.irig_gap.proofs.Steps.{pass_all, free_all, look_at, local, is, through, sets, lands_last, env, usize, unit, yes, uint_vals, uint_Tells, owns, RawPtr}
use Rattle.irig_gap.proofs.Steps.{block_ptr, mut_vals, mut_Tells, plain, types_at, heard, nothing, Stays, stay_dropped, stay_ref, walk_of, Goes-dropped}
use Rattle.irig_gap.proofs.Steps.{Goes-ref, ends_at, proved, Some, None, El, R, args, elτ, after}
use Rattle.irig_gap.proofs.Rows.{Place, Ce, sz, of_room, cells_opens, cells_closes}
use Rattle.irig_gap.proofs.RowPairs.{Others, runs_out, runs_in, to_array, of_array, to_space}
use Rattle.irig_gap.proofs.{Overlays.length-laid, cells.Cells.move_run.Statement.statement}
use lib.ListN.{length-map}
use base.Fraction.{full_share}
use base.Fml.{fsep}
use denote.Array.{Array}
use denote.Memory.{part_at}
use denote.RawPtr.{rawptr_vals}
use denote.Shadow.{pure_i}
use denote.Steps.{only}
use denote.Triple.Call.{calls_at_last}
use denote.Triple.Spec.{triple_of}
use denote.Triple.Table.{framed}
use Rattle.core.proofs.{mem.Facts.says_two, ptr.Rows.times_below, slots.Leases.uncapped, ptr.copy_nonoverlapping.Met.met}
use Rattle.core.specs.contracts.ptr.copy_nonoverlapping as copy
use Rattle.irig_gap.specs.{Cells.IsRun, Cells.AreApart, Cells.laid, Cells.row, contracts.cells.Cells.move_run.Key.name as #self}
use Rattle.irig_gap.specs.contracts.cells.Cells.move_run as F
use Rattle.irig_gap.proofs.cells.Cells.move_run.Code as code

length_run : {X : Type 0} (cs : List X) (i n : ℕ) → i + n ≤ length cs → length (take n (dropped i cs)) ≡ n
length_run cs i n inside = omega (arith, length-take n (dropped i cs), length-drop i cs)

pub move_run_spec : {M : Type 1} → statement M
move_run_spec 𝓤 𝓛 𝓜 𝓡 wired X L =
    let E : El = record { row = X; laws = L } in let c = F.clauses X 𝓛 𝓜.mem 𝓡.returns in let 𝓣 = tables 𝓤 𝓛.H 𝓜 𝓡 𝓡.env in
    let body : Fn = inst_fn (args E) code.function in let s = sz E in let copies = triple_of 𝓛 (copy.signature X) (copy.spec X 𝓛 𝓜.mem 𝓡.returns) in
    let number = stay_dropped (plain (λ _. usize)) yes in let goes = Goes-dropped 𝓛 2 (plain (λ _. usize)) yes (λ κs x f. refl) in
    let stayed : Stays (F.signature X).params (F.ended X).kept = (stay_ref (0 ∷ []) tt (plain (λ _. Ce E)), (number, (number, (number, tt)))) in
    proved 𝓛 (F.ended X) stayed c 𝓜 𝓡 (Goes-ref 𝓛 2 0 tt (plain (λ _. Ce E)), (goes, (goes, (goes, tt))))
    (#self (args E)) body (code.unfolded 𝓤 𝓛.H 𝓜 𝓡 wired (X, tt))
    (λ κs. (mut_vals, (uint_vals w64, (uint_vals w64, (uint_vals w64, tt)))))
    (λ κs. (mut_Tells (named 0) κs.0 (Ce E), (uint_Tells w64, (uint_Tells w64, (uint_Tells w64, tt))))) (λ κs qs bounds a g are.
    let W = walk_of 𝓛 (F.ended X) stayed c in
    let rb = a.0.ref_ptr.0 in let ro = a.0.ref_ptr.1 in let d = a.0.now in let from = a.1.0 in let to = a.1.1.0 in let n = a.1.1.1.0 in
    let cs : List (Place E) = d.slots in
    let y : W.Ghost = ((κs, qs, bounds, a, (mut_vals a.0, (uint_vals w64 from, (uint_vals w64 to, (uint_vals w64 n, tt))))), g) in
    let Inside : Type 0 = (from + n ≤ length cs) × (to + n ≤ length cs) in let Apart : Type 0 = AreApart from to n in let Full : Type 0 = IsRun cs from n in
    qed 𝓛 (((‵ (flft κs.0 qs.0) ⊛ ‵ (flft κs.1.0 qs.1.0) ⊛ ‵ ftrue) ⊛ ‵ (owns (types_at (F.signature X).params κs) a y.0.4))
    ∷ (raw (fact 𝓤 (κs.1.0 ⊑ X.lives)) ⊛ raw (fact 𝓤 Inside) ⊛ raw (fact 𝓤 Apart) ⊛ raw (fact 𝓤 Full)) ∷ []) ∵
    move ! (1 ∷ []) $ split ! $ heard ! (κs.1.0 ⊑ X.lives) (λ lives. split ! $ heard ! Inside (λ inside. split ! $ heard ! Apart (λ apart. heard ! Full (λ full.
    let xs = full.0 in let long : length xs ≡ n = sym (length-map xs Some) ∙ sym (ap length full.1) ∙ length_run cs from n inside.0 in
    let ps : List (Place E) = replicate n None in let qs₁ : List (Place E) = map Some xs in
    let lp : length ps ≡ n = length-replicate n None in let lq : length qs₁ ≡ n = length-map xs Some ∙ long in
    let new : (Ce E).Denot = record { start = d.start; slots = laid (laid cs from ps) to qs₁ } in
    split ! $ split ! $ move ! (2 ∷ []) $ fsplit ! $ fsplit3 ! $ keep ! (1 ∷ 2 ∷ 4 ∷ 0 ∷ 5 ∷ []) $
    enter ! _ _ _ _ _ $ alloc_all ! (λ l. pass_all ! refl (
      (tt, tt),
      ((tt, record { fits = are.1.0.1 }), ((tt, record { fits = are.1.1.0.1 }), ((tt, record { fits = are.1.1.1.0.1 }), tt))),
    ) $
    cells_opens E ! tt d rb ro (λ b o start fit.
    let far : from * s < 2 ^ 64 = omega (arith, times_below from (length cs) s (2 ^ 63) (omega (arith, inside.0)) fit) in
    let far₁ : to * s < 2 ^ 64 = omega (arith, times_below to (length cs) s (2 ^ 63) (omega (arith, inside.1)) fit) in
    let wide : n * s < 2 ^ 63 = times_below n (length cs) s (2 ^ 63) (omega (arith, inside.0)) fit in
    let src = from * s + o in let dst = to * s + o in let others = Others E 𝓛 b o cs from to n inside.0 inside.1 apart in
    let z : copies.Ghost = (
      (
        (κs.1.0, tt),
        (qs.1.0, tt),
        tt,
        (block_ptr b src, (block_ptr b dst, (n, tt))),
        (rawptr_vals (block_ptr b src), (rawptr_vals (block_ptr b dst), (vint w64 n ∷ [], tt))),
      ),
      xs,
    ) in
    first ! $ blocks ! $
    sets ! (of_opd ! (load ! (through ! refl (fld ! refl (stop !))) (look_in ! 1 (sub ! 0 refl (whole !))))) refl (tt, tt) $
    sets ! (is ! (bin ! (local ! refl) (size_word !) (record { fits = subst (λ (k : ℕ). k < 2 ^ 64) (sym (uncapped from s far)) far }))
    (ap (vint w64) (uncapped from s far))) refl (tt, record { fits = far }) $
    sets ! (bin ! (local ! refl) (local ! refl) tt) refl (tt, tt) $
    sets ! (of_opd ! (load ! (through ! refl (fld ! refl (stop !))) (look_in ! 1 (sub ! 0 refl (whole !))))) refl (tt, tt) $
    sets ! (is ! (bin ! (local ! refl) (size_word !) (record { fits = subst (λ (k : ℕ). k < 2 ^ 64) (sym (uncapped to s far₁)) far₁ }))
    (ap (vint w64) (uncapped to s far₁))) refl (tt, record { fits = far₁ }) $
    sets ! (bin ! (local ! refl) (local ! refl) tt) refl (tt, tt) $
    use1 𝓛 (‵ (row (R E) b src (take n (dropped from cs))) ⊛ ‵ (row (R E) b dst (take n (dropped to cs))) ⊛ ‵ others)
    (runs_out E 𝓛 b o cs from to n inside.0 inside.1 apart) $
    split ! $ move ! (1 ∷ []) $ split ! $
    -- [the run at to; the other places; the run at from; the word; the open borrow, in three; self's first part; the other tokens]
    use1 𝓛 (‵ (froom (ty_array (elτ E) n) b dst)) (to_space E 𝓛 b (take n (dropped to cs)) dst n (length_run cs to n inside.1)) $
    move ! (2 ∷ []) $ rewrite ! 0 (λ (l : List (Place E)). ‵ (row (R E) b src l)) full.1 refl $
    use1 𝓛 (‵ (part_at (Array (R E) n) full_share xs b src)) (to_array E 𝓛 b src n xs long) $ fjoin ! $
    use0 𝓛 (raw (fact 𝓤 (n * s < 2 ^ 63))) (fact_i 𝓤 (n * s < 2 ^ 63) (emp 𝓤) wide) $ join ! $
    use0 𝓛 (raw (fact 𝓤 (κs.1.0 ⊑ X.lives))) (fact_i 𝓤 (κs.1.0 ⊑ X.lives) (emp 𝓤) lives) $ join ! $
    pure_i ! (owns (RawPtr ∷ RawPtr ∷ usize ∷ []) z.0.3 z.0.4) (tt, (tt, ((tt, tt), tt))) (refl, (refl, ((refl, are.1.1.1.0.1), tt))) $ move ! (8 ∷ 0 ∷ []) $
    join ! $ join ! $
    use1 𝓛 (raw (copies.pre z)) (id⊢ 𝓤 _) $
    calls_at_last ! (framed 𝓤 𝓛.H 𝓜 𝓣) copies (met 𝓤 𝓛 𝓜 𝓡 (code.calls-core::ptr::copy_nonoverlapping 𝓡.env wired) X L) z
    (and_then ! (local ! refl) (and_then ! (local ! refl) (and_then ! (local ! refl) (no_more !)))) (λ v.
    use1 𝓛 (later (some (λ (r : Unit {0}). ((‵ (flft κs.1.0 qs.1.0) ⊛ ‵ ftrue) ⊛ ‵ (unit.own_val r (v ∷ []))) ⊛ some
    (λ (ws : Unit {0} × (Unit {0} × (Unit {0} × Unit {0}))).
    ‵ (fsep ftrue (fsep ftrue (fsep ftrue ftrue))) ⊛ ‵ (fsep (part_at (Array (R E) n) full_share xs b dst) (froom (ty_array (elτ E) n) b src)))))) (id⊢ 𝓤 _) $
    await ! tt $ pick ! (λ r. split ! $ split ! $ move ! (1 ∷ []) $ feq_l ! (λ is_unit. move ! (1 ∷ []) $ pick ! (λ ws. split ! $ drop ! $ fsplit ! $
    lands_last ! refl (subst (λ (u : Val). T (has_ty ty_unit u) × WT u) (sym (ap only is_unit)) (tt, tt)) $
    exec ! 𝓣.C 𝓣.Λ (env body.locals l) (after 1 body.body) (at_ret (env body.locals l) (W.post y)) $ sets ! (of_opd ! (unit_lit !)) refl (tt, tt) $
    use1 𝓛 (‵ (row (R E) b dst qs₁)) (of_array E 𝓛 b dst n xs long) $ move ! (1 ∷ []) $ use1 𝓛 (‵ (row (R E) b src ps)) (of_room E 𝓛 b n src) $
    move ! (0 ∷ 1 ∷ 3 ∷ []) $ use3 𝓛 (‵ (row (R E) b o new.slots)) (runs_in E 𝓛 b o cs from to n inside.0 inside.1 apart ps qs₁ lp lq) $
    move ! (0 ∷ 2 ∷ 3 ∷ 4 ∷ 5 ∷ []) $
    let once : length (laid cs from ps) ≡ length cs = length-laid cs from ps (omega (arith, lp, inside.0)) in
    let twice : length new.slots ≡ length cs = length-laid (laid cs from ps) to qs₁ (omega (arith, lq, once, inside.1)) ∙ once in
    cells_closes E ! tt new b o rb ro start (subst (λ (k : ℕ). k * s < 2 ^ 63) (sym twice) fit) $
    returns ! (look_at ! 0 refl) $ free_all ! refl $
    suffices ! _ (ends_at 𝓛 (F.ended X) stayed c y vunit tt (new, (tt, (tt, (tt, tt)))) (tt, (tt, (tt, (tt, tt))))) $
    says_two ! (ap (laid (laid cs from ps) to) (sym full.1), refl) $
    move ! (4 ∷ []) $ fjoin3 ! $ nothing ! $ nothing ! $ fjoin ! $ nothing ! $ fjoin ! $ nothing ! $ fjoin ! $ move ! (1 ∷ 0 ∷ []) $ fjoin ! $
    move ! (1 ∷ 2 ∷ []) $ join ! $ feq_i ! _ (vunit ∷ []) _ refl $ keep ! (1 ∷ 2 ∷ 0 ∷ []) $ done !)))))))))))
