-- `get` hands on the `&` to the item that a `&` to the row holds. Assumes `Logic`.
use Rattle.irig_gap.proofs.Steps.{refl, ◌+◌, ◌*◌, ◌<◌, ◌^◌, arith, [], ◌∷◌, length, get_or, id⊢, never, ftrue, flft, w64, named, inst_fn, vptr, ◌⊑◌, fact}
use Rattle.irig_gap.proofs.Steps.{tables, ‵, raw, ◌⊛◌, at_ret, ◌$◌, ◌∵◌, !, qed, done, move, keep, drop, use1, split, join, fsplit, fjoin, feq_i, flt_l}
use Rattle.irig_gap.proofs.Steps.{rewrite, suffices, stop, fld, load, addr, size_lit, of_opd, bin, first, blocks, exec, returns, enter, alloc_all, pass_all}
use Rattle.irig_gap.proofs.Steps.{free_all, look_at, local, through, sets, sets_last, env, usize, RefOf, yes, uint_vals, uint_Tells, owns, RawPtr, in_a_block}
use Rattle.irig_gap.proofs.Steps.{shr_vals, shr_Tells, plain, types_at, heard, nothing, Stays, stay_dropped, walk_of, Goes-dropped, ends_at, says, proved, None}
use Rattle.irig_gap.proofs.Steps.{El, R, args, after}
use Rattle.irig_gap.proofs.{Copies.full_within, Rows.Place, Rows.Ce, Rows.sz, Rows.seen, Rows.shown, cells.Cells.get.Statement.statement}
use types.Run.{look}
use denote.Memory.{hidden_shr}
use denote.Opens.{hide}
use Rattle.core.proofs.{ptr.Rows.times_below, ptr.Rows.one_below, slots.Lent.pointer_in, slots.Lent.pointer_out}
use Rattle.irig_gap.specs.{Cells.IsFull, Cells.place_lent, Cells.cells_lent, contracts.cells.Cells.get.Key.name as #self}
use Rattle.irig_gap.specs.contracts.cells.Cells.get as F
use Rattle.irig_gap.proofs.cells.Cells.get.Code as code

pub get_spec : {M : Type 1} → statement M
get_spec 𝓤 𝓛 𝓜 𝓡 wired X L =
    let E : El = record { row = X; laws = L } in let c = F.clauses X 𝓛 𝓜.mem 𝓡.returns in let 𝓣 = tables 𝓤 𝓛.H 𝓜 𝓡 𝓡.env in
    let cells = RefOf (0 ∷ []) tt (plain (λ _. Ce E)) (λ _. tt) in
    let stayed : Stays (F.signature X).params (F.ended X).kept = (stay_dropped cells yes, (stay_dropped (plain (λ _. usize)) yes, tt)) in
    proved 𝓛 (F.ended X) stayed c 𝓜 𝓡 (Goes-dropped 𝓛 2 cells yes (λ κs x f. refl), (Goes-dropped 𝓛 2 (plain (λ _. usize)) yes (λ κs x f. refl), tt))
    (#self (args E)) (inst_fn (args E) code.function) (code.unfolded 𝓤 𝓛.H 𝓜 𝓡 wired (X, tt))
    (λ κs. (shr_vals, (uint_vals w64, tt))) (λ κs. (shr_Tells (named 0) κs.0 (Ce E), (uint_Tells w64, tt))) (λ κs qs bounds a g are.
    let W = walk_of 𝓛 (F.ended X) stayed c in let s = sz E in let self = a.0 in let i = a.1.0 in let d = self.now in let rb = self.ref_ptr.0 in let ro =
    self.ref_ptr.1 in
    let y : W.Ghost = ((κs, qs, bounds, a, (shr_vals self, (uint_vals w64 i, tt))), g) in
    let body = inst_fn (args E) code.function in
    qed 𝓛 (((‵ (flft κs.0 qs.0) ⊛ ‵ (flft κs.1.0 qs.1.0) ⊛ ‵ ftrue) ⊛ ‵ (owns (types_at (F.signature X).params κs) a y.0.4))
    ∷ (raw (fact 𝓤 (κs.1.0 ⊑ X.lives)) ⊛ raw (fact 𝓤 (IsFull d.slots i))) ∷ []) ∵
    move ! (1 ∷ []) $ split ! $ drop ! $ heard ! (IsFull d.slots i) (λ full.
    let within = full_within d.slots i full.0 full.1 in
    split ! $ split ! $ move ! (2 ∷ []) $ fsplit ! $ fsplit ! $ drop ! $
    use1 𝓛 (‵ (hidden_shr RawPtr κs.0 d.start rb (ro + 0)) ⊛ ‵ (cells_lent (R E) d.start d.slots κs.0)) (shown E 𝓛 κs.0 d rb ro) $ split ! $ move ! (1 ∷ []) $
    in_a_block ! d.start (λ p. cells_lent (R E) p d.slots κs.0) (id⊢ 𝓤 (never 𝓤)) (λ b o start. fsplit ! $ flt_l ! (λ fit.
    let tiny : s < 2 ^ 64 = omega (arith, one_below (length d.slots) s (2 ^ 63) (omega arith) fit) in
    let far : i * s < 2 ^ 64 = omega (arith, times_below i (length d.slots) s (2 ^ 63) (omega arith) fit) in
    use1 𝓛 (‵ (place_lent (R E) b (i * s + o) (get_or d.slots i None) κs.0)) (seen E 𝓛 b κs.0 d.slots i o within) $
    rewrite ! 0 (λ (p : Place E). ‵ (place_lent (R E) b (i * s + o) p κs.0)) full.1 refl $ hide ! $ move ! (1 ∷ 3 ∷ []) $
    -- [the pointer; its token; the item; ..; the other tokens]
    enter ! _ _ _ _ _ $ alloc_all ! (λ l. pass_all ! refl ((tt, tt), ((tt, record { fits = are.1.0.1 }), tt)) $
    first ! $ blocks ! $ pointer_in ! tt d.start b o start rb (ro + 0) (λ whole.
    sets ! (of_opd ! (load ! (through ! refl (fld ! refl (stop !))) (look ! 0 refl))) refl (tt, tt) $
    pointer_out ! tt d.start b o start rb (ro + 0) $
    sets ! (bin ! (local ! refl) (size_lit ! (record { fits = tiny })) (record { fits = far })) refl (tt, record { fits = far }) $
    sets ! (bin ! (local ! refl) (local ! refl) tt) refl (tt, tt) $
    sets_last ! (addr ! (through ! refl (stop !))) refl (tt, tt) $
    exec ! 𝓣.C 𝓣.Λ (env body.locals l) (after 1 body.body) (at_ret (env body.locals l) (W.post y)) $ sets ! (of_opd ! (local ! refl)) refl (tt, tt) $
    returns ! (look_at ! 0 refl) $ free_all ! refl $
    suffices ! _ (ends_at 𝓛 (F.ended X) stayed c y (vptr b (i * s + o)) (record { ref_ptr = (b, i * s + o); now = full.0 }) (tt, (tt, tt)) (tt, (tt, tt))) $
    says ! full.1 $
    move ! (1 ∷ []) $ feq_i ! _ (vptr b (i * s + o) ∷ []) _ refl $ fjoin ! $ nothing ! $ nothing ! $ fjoin ! $ nothing ! $ fjoin ! $
    move ! (2 ∷ 4 ∷ []) $ join ! $ keep ! (0 ∷ 1 ∷ 2 ∷ []) $ done !))))))
