-- `nowhere` makes a row of no bytes of nothing. Assumes `Logic`.
use Rattle.irig_gap.proofs.Steps.{◌≡◌, refl, sym, ap, subst, ◌∙◌, ℕ, ◌*◌, ◌<◌, ◌^◌, [], ◌∷◌, lit<, length, replicate, length-replicate, w64, named, inst_fn}
use Rattle.irig_gap.proofs.Steps.{◌⊑◌, fact, ‵, raw, ◌⊛◌, ◌$◌, ◌∵◌, !, qed, done, move, keep, drop, use0, split, fjoin, suffices, agg, stop, addr, of_opd}
use Rattle.irig_gap.proofs.Steps.{and_then, no_more, returns, enter, alloc_all, pass_all, free_all, look_at, local, through, sets, u8, usize, RefOf, yes}
use Rattle.irig_gap.proofs.Steps.{uint_vals, uint_Tells, owns, block_ptr, shr_vals, shr_Tells, plain, types_at, heard, nothing, alive, Stays, stay_dropped}
use Rattle.irig_gap.proofs.Steps.{walk_of, Goes-dropped, ends_at, says, proved, None, El, R, args}
use Rattle.irig_gap.proofs.{Rows.Ce, Rows.sz, Rows.word, Rows.of_nothing, Rows.cells_made, cells.nowhere.Statement.statement}
use Rattle.irig_gap.specs.{Cells.row, contracts.cells.nowhere.Key.name as #self}
use Rattle.irig_gap.specs.contracts.cells.nowhere as F
use Rattle.irig_gap.proofs.cells.nowhere.Code as code

pub nowhere_spec : {M : Type 1} → statement M
nowhere_spec 𝓤 𝓛 𝓜 𝓡 wired X L =
    let E : El = record { row = X; laws = L } in let c = F.clauses X 𝓛 𝓜.mem 𝓡.returns in let s = sz E in
    let lent = RefOf (0 ∷ []) tt (plain (λ _. u8)) (λ _. tt) in
    let stayed : Stays (F.signature X).params (F.ended X).kept = (stay_dropped lent yes, (stay_dropped (plain (λ _. usize)) yes, tt)) in
    proved 𝓛 (F.ended X) stayed c 𝓜 𝓡 (Goes-dropped 𝓛 2 lent yes (λ κs x f. refl), (Goes-dropped 𝓛 2 (plain (λ _. usize)) yes (λ κs x f. refl), tt))
    (#self (args E)) (inst_fn (args E) code.function) (code.unfolded 𝓤 𝓛.H 𝓜 𝓡 wired (X, tt))
    (λ κs. (shr_vals, (uint_vals w64, tt))) (λ κs. (shr_Tells (named 0) κs.0 u8, (uint_Tells w64, tt))) (λ κs qs bounds a g are.
    let W = walk_of 𝓛 (F.ended X) stayed c in let b = a.0.ref_ptr.0 in let o = a.0.ref_ptr.1 in let len = a.1.0 in
    let y : W.Ghost = ((κs, qs, bounds, a, (shr_vals a.0, (uint_vals w64 len, tt))), g) in
    let made : (Ce E).Denot = record { start = block_ptr b o; slots = replicate len None } in
    qed 𝓛 ((raw (alive 𝓛 (F.signature X) κs qs) ⊛ ‵ (owns (types_at (F.signature X).params κs) a y.0.4))
    ∷ (raw (fact 𝓤 (κs.1.0 ⊑ X.lives)) ⊛ raw (fact 𝓤 (len * s ≡ 0))) ∷ []) ∵
    move ! (1 ∷ []) $ split ! $ drop ! $ heard ! (len * s ≡ 0) (λ none.
    let long : length made.slots * s ≡ 0 = ap (λ (k : ℕ). k * s) (length-replicate len None) ∙ none in
    split ! $ enter ! _ _ _ _ _ $ alloc_all ! (λ l. pass_all ! refl ((tt, tt), ((tt, record { fits = are.1.0.1 }), tt)) $
    sets ! (addr ! (through ! refl (stop !))) refl (tt, tt) $ sets ! (of_opd ! (local ! refl)) refl (tt, tt) $ sets ! (of_opd ! (local ! refl)) refl (tt, tt) $
    sets ! (agg ! (and_then ! (local ! refl) (no_more !))) refl (tt, (tt, tt)) $
    use0 𝓛 (‵ (row (R E) b o made.slots)) (of_nothing E 𝓛 b len o none) $ cells_made E ! made b o refl (subst (λ (k : ℕ). k < 2 ^ 63) (sym long) (lit< tt)) $
    returns ! (look_at ! 0 refl) $ free_all ! refl $
    suffices ! _ (ends_at 𝓛 (F.ended X) stayed c y (word (block_ptr b o)) made (tt, (tt, tt)) (tt, (tt, tt))) $ says ! refl $
    nothing ! $ nothing ! $ fjoin ! $ nothing ! $ fjoin ! $ keep ! (2 ∷ 0 ∷ 1 ∷ []) $ done !)))
