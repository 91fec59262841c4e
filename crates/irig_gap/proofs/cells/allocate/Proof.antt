-- `allocate` makes a row of empty places of the block that it is given. Assumes `Logic`.
use Rattle.irig_gap.proofs.Steps.{refl, sym, ap, subst, ℕ, ◌*◌, ◌<◌, ◌^◌, arith, true, false, [], ◌∷◌, lit<, length, replicate, length-replicate, Incl-trans}
use Rattle.irig_gap.proofs.Steps.{ftrue, flft, Fn, Body, w64, named, ty_array, inst_fn, Val, vint, vstruct, vcons, vnil, Env, ◌⊑◌, fact, tables, ‵, raw, ◌⊛◌}
use Rattle.irig_gap.proofs.Steps.{later, at_ret, ◌$◌, ◌∵◌, !, qed, done, move, keep, drop, use1, use2, split, join, await, fsplit, fjoin, suffices, whole, agg}
use Rattle.irig_gap.proofs.Steps.{stop, fld, size_word, align_word, lit, of_opd, bin, and_then, no_more, first, switches_on, exec, returns, enter, alloc_all}
use Rattle.irig_gap.proofs.Steps.{pass_all, free_all, look_at, local, get_in, get_tag, is, sets, sets_last, lands_as, env, usize, RefOf, yes, uint_vals}
use Rattle.irig_gap.proofs.Steps.{uint_Tells, RattleType, owns, block_ptr, shr_vals, shr_Tells, plain, types_at, heard, nothing, owned, Stays, stay_dropped}
use Rattle.irig_gap.proofs.Steps.{walk_of, Goes-dropped, ends_at, says, proved, None, El, R, elτ, after}
use Rattle.irig_gap.proofs.Blocks.{De, mark, pair, deed, deed_made, pair_of}
use Rattle.irig_gap.proofs.{Rows.Ce, Rows.sz, Rows.word, Rows.of_room, Rows.cells_made, cells.allocate.Statement.statement}
use prog.Capped.{capped_fits}
use prog.Memory.{align, capped}
use prog.Wp.{Wp, after_seq, at_return}
use types.Kit.{Post as After, any_q}
use types.Match.{live, vrt, in_variant}
use denote.Laws.{Is}
use denote.Param.{layout}
use denote.Struct.Struct.{Struct, Struct-Makes}
use denote.Struct.Declared as Declared
use denote.Struct.Tuple.{Tuple}
use denote.Triple.Call.{calls_at}
use denote.Triple.Table.{framed}
use Rattle.core.proofs.alloc.Calls.{Al, Answer-typed, Takes, at_takes, Answered, Takes-goes, Takes-gives, answers}
use Rattle.core.proofs.slots.Bodies.{head, arm_body}
use Rattle.core.proofs.slots.Leases.{uncapped, block_ty, block_size, block_align, args as both_args, P}
use Rattle.core.specs.contracts.result.Result as RS
use Rattle.core.specs.contracts.alloc.AllocError as AE
use Rattle.std.proofs.{RawLayout.as_written, ResultValues.ok_of, ResultValues.err_of, RcSteps.Good, RcSteps.first_Good}
use Rattle.std.specs.Prelude.{Ok, Err}
use Rattle.irig_gap.specs.{Cells.row, contracts.cells.allocate.Key.name as #self}
use Rattle.irig_gap.specs.contracts.cells.allocate as F
use Rattle.irig_gap.proofs.cells.allocate.Code as code

pub allocate_spec : {M : Type 1} → statement M
allocate_spec 𝓤 𝓛 𝓜 𝓡 wired X Y LX LY g d dd met md =
    let E : El = record { row = X; laws = LX } in let Z : Al = record { row = Y; laws = LY; g = g; d = d; drops = dd } in
    let G = F.ended X Y g d dd in let c = F.clauses X Y g d dd 𝓛 𝓜.mem 𝓡.returns in let 𝓣 = tables 𝓤 𝓛.H 𝓜 𝓡 𝓡.env in
    let body : Fn = inst_fn (both_args E Z) code.function in let s = sz E in let al = capped (align (elτ E)) in
    let Both : RattleType = Tuple (Ce E ∷ De E Z ∷ []) in let Out : RattleType = RS.the_row Both AE.the_row in
    let handle = RefOf (0 ∷ []) tt (plain (λ _. P E Z)) (λ _. tt) in
    let stayed : Stays G.signature.params G.kept = (stay_dropped handle yes, (stay_dropped (plain (λ _. usize)) yes, tt)) in
    proved 𝓛 G stayed c 𝓜 𝓡 (Goes-dropped 𝓛 3 handle yes (λ κs x f. refl), (Goes-dropped 𝓛 3 (plain (λ _. usize)) yes (λ κs x f. refl), tt))
    (#self (both_args E Z)) body (code.unfolded 𝓤 𝓛.H 𝓜 𝓡 wired (X, (Y, tt)) d dd)
    (λ κs. (shr_vals, (uint_vals w64, tt))) (λ κs. (shr_Tells (named 0) κs.0 (P E Z), (uint_Tells w64, tt))) (λ κs qs bounds args asked are.
    let W = walk_of 𝓛 G stayed c in let at = args.0.ref_ptr in let a = args.0.now in let n = args.1.0 in
    let y : W.Ghost = ((κs, qs, bounds, args, (shr_vals args.0, (uint_vals w64 n, tt))), asked) in
    qed 𝓛 (((‵ (flft κs.0 qs.0) ⊛ ‵ (flft κs.1.0 qs.1.0) ⊛ ‵ (flft κs.1.1.0 qs.1.1.0) ⊛ ‵ ftrue) ⊛ ‵ (owns (types_at G.signature.params κs) args y.0.4))
    ∷ (raw (fact 𝓤 (κs.1.0 ⊑ X.lives)) ⊛ raw (fact 𝓤 (κs.1.1.0 ⊑ Y.lives)) ⊛ raw (fact 𝓤 (n * s < 2 ^ 63))) ∷ []) ∵
    move ! (1 ∷ []) $ split ! $ drop ! $ split ! $ heard ! (κs.1.1.0 ⊑ Y.lives) (λ lives. heard ! (n * s < 2 ^ 63) (λ small.
    let bytes : n * s < 2 ^ 64 = omega (arith, small) in
    split ! $ split ! $ move ! (2 ∷ []) $ fsplit ! $ fsplit ! $ drop ! $ keep ! (0 ∷ 2 ∷ 3 ∷ []) $
    -- [the handle; its token; the other tokens]
    enter ! _ _ _ _ _ $ alloc_all ! (λ l. pass_all ! refl ((tt, tt), ((tt, record { fits = are.1.0.1 }), tt)) $
    let En : Env 𝓤 𝓛.H = env body.locals l in let both : Body = head (after 2 body.body) in
    let Then : After 𝓤 𝓛.H = any_q (after_seq 𝓤 𝓛.H (Wp 𝓤 𝓛.H 𝓣.C 𝓣.Λ En (after 3 body.body) (at_return 𝓤 𝓛.H En (W.post y)))
    (at_return 𝓤 𝓛.H En (W.post y))) in
    let takes = Takes Z 𝓛 𝓜.mem 𝓡.returns in let z = at_takes Z 𝓛 𝓜.mem 𝓡.returns κs.0 qs.0 at a (n * s) al (block_ty E n) in
    sets ! (is ! (bin ! (local ! refl) (size_word !) (record { fits = subst (λ (k : ℕ). k < 2 ^ 64) (sym (uncapped n s bytes)) bytes }))
    (ap (vint w64) (uncapped n s bytes))) refl (tt, record { fits = bytes }) $
    use2 𝓛 (raw (takes.pre z)) (Takes-goes Z 𝓛 𝓜.mem 𝓡.returns κs.0 qs.0 at a (Incl-trans bounds.0 lives) (n * s) al (block_ty E n) (block_size E n bytes)
    (block_align E n) bytes (capped_fits (align (elτ E)))) $
    calls_at ! (framed 𝓤 𝓛.H 𝓜 𝓣) takes (met.allocate dd) z (and_then ! (local ! refl) (and_then ! (local ! refl) (and_then ! (align_word !) (no_more !))))
    (λ v.
    use1 𝓛 (later (raw (Answered Z 𝓛 𝓜.mem 𝓡.returns a (block_ty E n) v) ⊛ ‵ (flft κs.0 qs.0)))
    (Takes-gives Z 𝓛 𝓜.mem 𝓡.returns κs.0 qs.0 at a (n * s) al (block_ty E n) v) $ await ! tt $ split ! $
    answers Z ! 𝓜.mem 𝓡.returns a (block_ty E n) v
    (λ b o given_block.
    let cells : (Ce E).Denot = record { start = block_ptr b o; slots = replicate n None } in let right = deed E Z a b o n in
    let fit : length cells.slots * s < 2 ^ 63 = subst (λ (k : ℕ). k * s < 2 ^ 63) (sym (length-replicate n None)) small in
    let made : Val = pair (word (block_ptr b o)) mark in let answer = live 0 (vcons made vnil) in
    let typed : Good (layout Both) made = (tt, ((tt, tt), ((tt, tt), tt))) in let ok : Good (layout Out) answer = first_Good (layout Both) made typed in
    lands_as ! given_block refl (Answer-typed true b o) $ first ! $ switches_on ! (get_tag ! (vrt ! refl (fld ! refl (stop !))) (whole !)) $
    exec ! 𝓣.C 𝓣.Λ En (arm_body 0 both) Then $
    sets ! (of_opd ! (get_in ! (vrt ! refl (fld ! refl (stop !))) (in_variant ! 0 0 refl refl (whole !)))) refl (tt, tt) $
    sets ! (of_opd ! (local ! refl)) refl (tt, tt) $
    sets ! (agg ! (and_then ! (local ! refl) (no_more !))) refl (tt, (tt, tt)) $
    sets ! (agg ! (no_more !)) refl (tt, tt) $ sets ! (agg ! (and_then ! (local ! refl) (no_more !))) refl (tt, (tt, tt)) $
    sets ! (agg ! (and_then ! (local ! refl) (and_then ! (local ! refl) (no_more !)))) refl typed $
    sets_last ! (agg ! (and_then ! (lit ! tt) (and_then ! (local ! refl) (no_more !)))) refl ok $
    exec ! 𝓣.C 𝓣.Λ En (after 3 body.body) (at_ret En (W.post y)) $ sets ! (of_opd ! (local ! refl)) refl ok $
    move ! (1 ∷ []) $ deed_made E Z ! a b o n $ move ! (1 ∷ []) $ as_written ! (ty_array (elτ E) n) b o $
    use1 𝓛 (‵ (row (R E) b o cells.slots)) (of_room E 𝓛 b n o) $ cells_made E ! cells b o refl fit $
    use2 𝓛 (‵ (Both.own_val (cells, right) (made ∷ []))) (pair_of 𝓛 (Ce E) (De E Z) cells right (word (block_ptr b o)) mark) $
    use1 𝓛 (‵ (Out.own_val (Ok (cells, right)) (answer ∷ []))) (ok_of 𝓛 Both AE.the_row (cells, right) made) $
    returns ! (look_at ! 0 refl) $ free_all ! refl $
    suffices ! _ (ends_at 𝓛 G stayed c y answer (Ok (cells, right)) (tt, (tt, tt)) (tt, (tt, tt))) $ says ! (refl, refl, refl, refl) $
    move ! (1 ∷ 2 ∷ []) $ join ! $ nothing ! $ nothing ! $ fjoin ! $ nothing ! $ fjoin ! $ keep ! (1 ∷ 0 ∷ 2 ∷ []) $ done !)
    (λ refused.
    let Refusal : RattleType = Struct (Declared.shape AE.the_type) in let answer = live 1 (vcons (vstruct vnil) vnil) in
    let ok : Good (layout Out) answer = (tt, (record { fits = lit< tt }, (tt, tt))) in
    lands_as ! refused refl (Answer-typed false 0 0) $ first ! $ switches_on ! (get_tag ! (vrt ! refl (fld ! refl (stop !))) (whole !)) $
    exec ! 𝓣.C 𝓣.Λ En (arm_body 1 both) Then $
    sets ! (of_opd ! (get_in ! (vrt ! refl (fld ! refl (stop !))) (in_variant ! 1 0 refl refl (whole !)))) refl (tt, tt) $
    sets_last ! (agg ! (and_then ! (lit ! tt) (and_then ! (local ! refl) (no_more !)))) refl ok $
    exec ! 𝓣.C 𝓣.Λ En (after 3 body.body) (at_ret En (W.post y)) $ sets ! (of_opd ! (local ! refl)) refl ok $
    owned ! Refusal (Is Refusal) (Struct-Makes 𝓛 (Declared.shape AE.the_type) tt) tt (vstruct vnil ∷ []) (tt, (refl, tt)) $
    use1 𝓛 (‵ (Out.own_val (Err (record {})) (answer ∷ []))) (err_of 𝓛 Both AE.the_row (record {}) (vstruct vnil)) $
    returns ! (look_at ! 0 refl) $ free_all ! refl $
    suffices ! _ (ends_at 𝓛 G stayed c y answer (Err (record {})) (tt, (tt, tt)) (tt, (tt, tt))) $ says ! tt $
    move ! (1 ∷ 2 ∷ []) $ join ! $ nothing ! $ nothing ! $ fjoin ! $ nothing ! $ fjoin ! $ keep ! (1 ∷ 0 ∷ 2 ∷ []) $ done !))))))
