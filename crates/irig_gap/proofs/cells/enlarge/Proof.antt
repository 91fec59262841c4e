-- `enlarge` hands the block with its items to the allocator, and makes a row of the one that comes back. Assumes `Logic`.
use Rattle.irig_gap.proofs.Steps.{◌≡◌, refl, sym, ap, subst, ◌∙◌, ℕ, ◌-◌, ◌*◌, ◌≤◌, ◌<◌, ◌^◌, arith, true, false, [], ◌∷◌, ◌++◌, T, lit<, map, length}
use Rattle.irig_gap.proofs.Steps.{replicate, length-replicate, length-take, Incl-trans, ftrue, flft, Fn, Body, inst_fn, Val, vcons, vnil, has_ty, List, WT, Env}
use Rattle.irig_gap.proofs.Steps.{WpFn, ◌⊑◌, fact, tables, ‵, raw, ◌⊛◌, later, at_ret, ◌$◌, ◌∵◌, !, qed, done, move, keep, drop, use1, use2, split, join, await}
use Rattle.irig_gap.proofs.Steps.{fsplit, fsplit3, fjoin, rewrite, suffices, regoal, prop, whole, sub, agg, stop, fld, lit, of_opd, and_then, no_more, first}
use Rattle.irig_gap.proofs.Steps.{blocks, switches_on, exec, returns, enter, alloc_all, pass_all, free_all, look_at, local, get_in, get_tag, is, sets}
use Rattle.irig_gap.proofs.Steps.{sets_last, lands_last, env, usize, RefOf, yes, no, RattleType, owns, Ptr, block_ptr, plain, types_at, heard, nothing, Stays}
use Rattle.irig_gap.proofs.Steps.{stay_dropped, walk_of, Goes-dropped, ends_at, says, proved_at, None, El, R, el_x, after}
use Rattle.irig_gap.proofs.Blocks.{De, mark, pair, deed, deed_had, deed_made, pair_of, Block, row_out, row_in}
use Rattle.irig_gap.proofs.{Rows.Place, Rows.Ce, Rows.sz, Rows.word, Rows.cells_had, Rows.cells_made, cells.enlarge.Statement.statement}
use lib.ListN.{length-append}
use base.Logic.{ex}
use prog.Wp.{Wp, after_seq, at_return}
use types.Kit.{Post as After, any_q}
use types.Match.{live, vrt, in_variant}
use denote.Param.{layout}
use denote.Struct.Tuple.{Tuple}
use denote.Triple.Call.{calls_at_last}
use denote.Triple.Table.{framed}
use Rattle.core.proofs.alloc.Calls.{Al, token, Answer, Answer-typed, Goes-blank}
use Rattle.core.proofs.alloc.Resizes.{Grows, Resizes, Resized, left_by, at_resizes, Resizes-goes, Resizes-gives, flagged}
use Rattle.core.proofs.{slots.Bodies.head, slots.Bodies.arm_body, slots.Leases.block_ty, slots.Leases.args as both_args, slots.Leases.P}
use Rattle.core.specs.contracts.result.Result as RS
use Rattle.std.proofs.{ResultValues.ok_of, ResultValues.err_of, RcSteps.Good, RcSteps.first_Good}
use Rattle.std.proofs.lemmas.List.{length-map}
use Rattle.std.specs.Prelude.{Ok, Err, Some}
use Rattle.irig_gap.specs.{Cells.IsRun, Cells.row, contracts.cells.enlarge.Key.name as #self}
use Rattle.irig_gap.specs.contracts.cells.enlarge as F
use Rattle.irig_gap.proofs.cells.enlarge.Code as code

pub enlarge_spec : {M : Type 1} → statement M
enlarge_spec 𝓤 𝓛 𝓜 𝓡 wired X Y LX LY g d dd met md =
    let E : El = record { row = X; laws = LX } in let Z : Al = record { row = Y; laws = LY; g = g; d = d; drops = dd } in
    let G = F.ended X Y g d dd in let c = F.clauses X Y g d dd 𝓛 𝓜.mem 𝓡.returns in let 𝓣 = tables 𝓤 𝓛.H 𝓜 𝓡 𝓡.env in
    let body : Fn = inst_fn (both_args E Z) code.function in let s = sz E in
    let Both : RattleType = Tuple (Ce E ∷ De E Z ∷ []) in let Out : RattleType = RS.the_row Both Both in
    let handle = RefOf (0 ∷ []) tt (plain (λ _. P E Z)) (λ _. tt) in
    let stayed : Stays G.signature.params G.kept = (
      stay_dropped handle yes,
      (
        stay_dropped (plain (λ _. usize)) yes,
        (
          stay_dropped (plain (λ _. usize)) yes,
          (stay_dropped (plain (λ _. usize)) yes, (stay_dropped (plain (λ _. Ce E)) no, (stay_dropped (plain (λ _. De E Z)) no, tt))),
        ),
      ),
    ) in
    proved_at 𝓛 G stayed c 𝓜 𝓡 (
      Goes-dropped 𝓛 3 handle yes (λ κs x f. refl),
      (
        Goes-dropped 𝓛 3 (plain (λ _. usize)) yes (λ κs x f. refl),
        (
          Goes-dropped 𝓛 3 (plain (λ _. usize)) yes (λ κs x f. refl),
          (
            Goes-dropped 𝓛 3 (plain (λ _. usize)) yes (λ κs x f. refl),
            (Goes-dropped 𝓛 3 (plain (λ _. Ce E)) no (λ κs x f. refl), (Goes-blank 𝓛 3 (plain (λ _. De E Z)) no (λ κs x f. tt), tt)),
          ),
        ),
      ),
    )
    (#self (both_args E Z)) body (code.unfolded 𝓤 𝓛.H 𝓜 𝓡 wired (X, (Y, tt)) d dd) (λ y are.
    let W = walk_of 𝓛 G stayed c in let κs = y.0.0 in let qs = y.0.1 in let vss = y.0.4 in
    let at = y.0.3.0.ref_ptr in let a = y.0.3.0.now in let full = y.0.3.1.0 in let old = y.0.3.1.1.0 in let n = y.0.3.1.1.1.0 in
    let cells = y.0.3.1.1.1.1.0 in let right = y.0.3.1.1.1.1.1.0 in
    let Ok' : Type 0 = IsRun cells.slots 0 full × (right.at ≡ cells.start) × (right.len ≡ old) × (length cells.slots ≡ old) × (right.alloc ≡ a) × (full ≤ old)
    × (old ≤ n) × (n * s < 2 ^ 63) in
    qed 𝓛 (((‵ (flft κs.0 qs.0) ⊛ ‵ (flft κs.1.0 qs.1.0) ⊛ ‵ (flft κs.1.1.0 qs.1.1.0) ⊛ ‵ ftrue) ⊛ ‵ (owns (types_at G.signature.params κs) y.0.3 vss))
    ∷ (raw (fact 𝓤 (κs.1.0 ⊑ X.lives)) ⊛ raw (fact 𝓤 (κs.1.1.0 ⊑ Y.lives)) ⊛ raw (fact 𝓤 Ok')) ∷ []) ∵
    move ! (1 ∷ []) $ split ! $ heard ! (κs.1.0 ⊑ X.lives) (λ items. split ! $ heard ! (κs.1.1.0 ⊑ Y.lives) (λ lives. heard ! Ok' (λ ok.
    split ! $ split ! $ move ! (2 ∷ []) $ fsplit3 ! $ move ! (2 ∷ []) $ fsplit3 ! $ move ! (2 ∷ []) $ fsplit3 ! $
    -- [the cells; the deed; nothing; the old length; the new one; the handle; how many are full; the token of the handle; the other tokens]
    cells_had E ! cells vss.1.1.1.1.0 (λ b o start is_word fit. move ! (1 ∷ []) $ deed_had E Z ! right vss.1.1.1.1.1.0 (λ is_mark.
    let run = ok.0 in let xs : List (el_x E) = run.0 in
    let front : length xs ≡ full = omega (arith, ap length run.1, length-map xs Some, length-take full cells.slots, ok.3, ok.5) in
    rewrite ! 0 (λ (t : Z.row.Denot × Ptr × ℕ). ‵ (token Z t.0 (block_ty E t.2) t.1)) (λ k. (ok.4 k, (ok.1 ∙ start) k, ok.2 k)) refl $ move ! (1 ∷ 0 ∷ []) $
    use2 𝓛 (‵ (Block E Z 𝓛 a b o full old xs front)) (row_out E Z 𝓛 a b o full old xs front cells.slots ok.3 run.1) $
    move ! (4 ∷ []) $ fsplit ! $ drop ! $ move ! (7 ∷ []) $ split ! $ keep ! (3 ∷ 2 ∷ 8 ∷ 0 ∷ 1 ∷ []) $
    -- [the block; the handle; its token; that of the items; the other tokens]
    regoal ! (λ ws. prop (WpFn 𝓤 𝓛.H 𝓣.C 𝓣.Λ body ws (W.post y)))
    (λ k. are.0.0 k ++ (are.1.0.0 k ++ (are.1.1.0.0 k ++ (are.1.1.1.0.0 k ++ (is_word k ++ (is_mark k ++ [])))))) refl $
    enter ! _ _ _ _ _ $ alloc_all ! (λ l. pass_all ! refl (
      (tt, tt),
      (
        (tt, record { fits = are.1.0.1 }),
        ((tt, record { fits = are.1.1.0.1 }), ((tt, record { fits = are.1.1.1.0.1 }), ((tt, (tt, tt)), ((tt, (tt, tt)), tt)))),
      ),
    ) $
    let En : Env 𝓤 𝓛.H = env body.locals l in let both : Body = head (after 3 body.body) in
    let Then : After 𝓤 𝓛.H = any_q (after_seq 𝓤 𝓛.H (Wp 𝓤 𝓛.H 𝓣.C 𝓣.Λ En (after 4 body.body) (at_return 𝓤 𝓛.H En (W.post y)))
    (at_return 𝓤 𝓛.H En (W.post y))) in
    let grows = Resizes Z X (Grows X) 𝓛 𝓜.mem 𝓡.returns in
    let z = at_resizes Z X (Grows X) 𝓛 𝓜.mem 𝓡.returns κs.0 κs.1.0 qs.0 qs.1.0 at a b o full old n xs in
    sets ! (of_opd ! (get_in ! (fld ! refl (stop !)) (sub ! 0 refl (whole !)))) refl (tt, tt) $ first ! $ blocks ! $
    move ! (2 ∷ 3 ∷ []) $ join ! $ move ! (2 ∷ 0 ∷ []) $ join ! $ move ! (1 ∷ 0 ∷ []) $
    use2 𝓛 (raw (grows.pre z)) (Resizes-goes Z X (Grows X) 𝓛 𝓜.mem 𝓡.returns κs.0 κs.1.0 qs.0 qs.1.0 at a b o full old n xs (Incl-trans y.0.2.0 lives) items
    (ok.5, ok.6, ok.7) are.1.0.1 are.1.1.0.1 are.1.1.1.0.1) $
    calls_at_last ! (framed 𝓤 𝓛.H 𝓜 𝓣) grows (met.grow dd X LX) z
    (and_then ! (local ! refl) (and_then ! (local ! refl) (and_then ! (local ! refl) (and_then ! (local ! refl) (and_then ! (local ! refl) (no_more !)))))) (λ v.
    use1 𝓛 (later (raw (ex 𝓤 (Resized Z X (Grows X) 𝓛 𝓜.mem 𝓡.returns κs.0 κs.1.0 qs.0 qs.1.0 at a b o full old n xs v)) ⊛ ‵ (flft κs.0 qs.0) ⊛ ‵ (flft κs.1.0 qs.1.0)))
    (Resizes-gives Z X (Grows X) 𝓛 𝓜.mem 𝓡.returns κs.0 κs.1.0 qs.0 qs.1.0 at a b o full old n xs v) $ await ! tt $ split ! $
    -- [what comes back; the tokens of the handle and the items; the other tokens]
    flagged ! v (left_by Z X (Grows X) 𝓛 𝓜.mem 𝓡.returns κs.0 κs.1.0 qs.0 qs.1.0 at a b o full old n xs)
    (λ b' o' is_new.
    let made : (Ce E).Denot = record { start = block_ptr b' o'; slots = map Some xs ++ replicate (n - full) None } in let back = deed E Z a b' o' n in
    let long : length made.slots ≡ n = omega (arith, length-append (map Some xs) (replicate {A = Place E} (n - full) None), length-replicate {A = Place E} (n - full) None, length-map xs Some, front, ok.5, ok.6) in
    let fits : length made.slots * s < 2 ^ 63 = subst (λ (k : ℕ). k * s < 2 ^ 63) (sym long) ok.7 in
    let value : Val = pair (word (block_ptr b' o')) mark in let answer = live 0 (vcons value vnil) in
    let good : Good (layout Both) value = (tt, ((tt, tt), ((tt, tt), tt))) in let fine : Good (layout Out) answer = first_Good (layout Both) value good in
    lands_last ! refl (subst (λ (u : Val). T (has_ty (layout Answer) u) × WT u) (sym is_new) (Answer-typed true b' o')) $
    exec ! 𝓣.C 𝓣.Λ En (after 2 body.body) (at_ret En (W.post y)) $
    sets ! (is ! (of_opd ! (local ! refl)) is_new) refl (Answer-typed true b' o') $
    first ! $ switches_on ! (get_tag ! (vrt ! refl (fld ! refl (stop !))) (whole !)) $ exec ! 𝓣.C 𝓣.Λ En (arm_body 0 both) Then $
    sets ! (of_opd ! (get_in ! (vrt ! refl (fld ! refl (stop !))) (in_variant ! 0 0 refl refl (whole !)))) refl (tt, tt) $
    sets ! (agg ! (and_then ! (local ! refl) (no_more !))) refl (tt, (tt, tt)) $
    sets ! (agg ! (no_more !)) refl (tt, tt) $ sets ! (agg ! (and_then ! (local ! refl) (no_more !))) refl (tt, (tt, tt)) $
    sets ! (agg ! (and_then ! (local ! refl) (and_then ! (local ! refl) (no_more !)))) refl good $
    sets_last ! (agg ! (and_then ! (lit ! tt) (and_then ! (local ! refl) (no_more !)))) refl fine $
    exec ! 𝓣.C 𝓣.Λ En (after 4 body.body) (at_ret En (W.post y)) $ sets ! (of_opd ! (local ! refl)) refl fine $
    use1 𝓛 (‵ (row (R E) b' o' made.slots) ⊛ ‵ (token Z a (block_ty E n) (block_ptr b' o'))) (row_in E Z 𝓛 a b' o' full n xs front) $ split ! $
    cells_made E ! made b' o' refl fits $ move ! (1 ∷ []) $ deed_made E Z ! a b' o' n $ move ! (1 ∷ 0 ∷ []) $
    use2 𝓛 (‵ (Both.own_val (made, back) (value ∷ []))) (pair_of 𝓛 (Ce E) (De E Z) made back (word (block_ptr b' o')) mark) $
    use1 𝓛 (‵ (Out.own_val (Ok (made, back)) (answer ∷ []))) (ok_of 𝓛 Both Both (made, back) value) $
    returns ! (look_at ! 0 refl) $ free_all ! refl $
    suffices ! _ (ends_at 𝓛 G stayed c y answer (Ok (made, back)) (tt, (tt, (tt, (tt, (tt, (tt, tt)))))) (tt, (tt, (tt, (tt, (tt, (tt, tt))))))) $
    says ! (ap (λ l. l ++ replicate (n - full) None) (sym run.1), refl, refl, refl) $
    move ! (1 ∷ []) $ split ! $ move ! (1 ∷ 3 ∷ []) $ join ! $ move ! (1 ∷ 0 ∷ []) $ join ! $ nothing ! $ nothing ! $ fjoin ! $ nothing ! $ fjoin ! $
    nothing ! $ fjoin ! $ nothing ! $ fjoin ! $ nothing ! $ fjoin ! $ nothing ! $ fjoin ! $ keep ! (1 ∷ 0 ∷ 2 ∷ []) $ done !)
    (λ refused.
    let made : (Ce E).Denot = record { start = block_ptr b o; slots = map Some xs ++ replicate (old - full) None } in let back = deed E Z a b o old in
    let long : length made.slots ≡ old = omega (
      arith,
      length-append (map Some xs) (replicate {A = Place E} (old - full) None),
      length-replicate {A = Place E} (old - full) None,
      length-map xs Some,
      front,
      ok.5,
    ) in
    let fits : length made.slots * s < 2 ^ 63 = subst (λ (k : ℕ). k * s < 2 ^ 63) (ok.3 ∙ sym long) fit in
    let value : Val = pair (word (block_ptr b o)) mark in let answer = live 1 (vcons value vnil) in
    let good : Good (layout Both) value = (tt, ((tt, tt), ((tt, tt), tt))) in
    let fine : Good (layout Out) answer = (tt, (record { fits = lit< tt }, (good.1, tt))) in
    lands_last ! refl (subst (λ (u : Val). T (has_ty (layout Answer) u) × WT u) (sym refused) (Answer-typed false 0 0)) $
    exec ! 𝓣.C 𝓣.Λ En (after 2 body.body) (at_ret En (W.post y)) $
    sets ! (is ! (of_opd ! (local ! refl)) refused) refl (Answer-typed false 0 0) $
    first ! $ switches_on ! (get_tag ! (vrt ! refl (fld ! refl (stop !))) (whole !)) $ exec ! 𝓣.C 𝓣.Λ En (arm_body 1 both) Then $
    sets ! (agg ! (and_then ! (local ! refl) (no_more !))) refl (tt, (tt, tt)) $
    sets ! (agg ! (no_more !)) refl (tt, tt) $ sets ! (agg ! (and_then ! (local ! refl) (no_more !))) refl (tt, (tt, tt)) $
    sets ! (agg ! (and_then ! (local ! refl) (and_then ! (local ! refl) (no_more !)))) refl good $
    sets_last ! (agg ! (and_then ! (lit ! tt) (and_then ! (local ! refl) (no_more !)))) refl fine $
    exec ! 𝓣.C 𝓣.Λ En (after 4 body.body) (at_ret En (W.post y)) $ sets ! (of_opd ! (local ! refl)) refl fine $
    use1 𝓛 (‵ (row (R E) b o made.slots) ⊛ ‵ (token Z a (block_ty E old) (block_ptr b o))) (row_in E Z 𝓛 a b o full old xs front) $ split ! $
    cells_made E ! made b o refl fits $ move ! (1 ∷ []) $ deed_made E Z ! a b o old $ move ! (1 ∷ 0 ∷ []) $
    use2 𝓛 (‵ (Both.own_val (made, back) (value ∷ []))) (pair_of 𝓛 (Ce E) (De E Z) made back (word (block_ptr b o)) mark) $
    use1 𝓛 (‵ (Out.own_val (Err (made, back)) (answer ∷ []))) (err_of 𝓛 Both Both (made, back) value) $
    returns ! (look_at ! 0 refl) $ free_all ! refl $
    suffices ! _ (ends_at 𝓛 G stayed c y answer (Err (made, back)) (tt, (tt, (tt, (tt, (tt, (tt, tt)))))) (tt, (tt, (tt, (tt, (tt, (tt, tt))))))) $
    says ! (ap (λ l. l ++ replicate (old - full) None) (sym run.1), refl, refl, refl) $
    move ! (1 ∷ []) $ split ! $ move ! (1 ∷ 3 ∷ []) $ join ! $ move ! (1 ∷ 0 ∷ []) $ join ! $ nothing ! $ nothing ! $ fjoin ! $ nothing ! $ fjoin ! $
    nothing ! $ fjoin ! $ nothing ! $ fjoin ! $ nothing ! $ fjoin ! $ nothing ! $ fjoin ! $ keep ! (1 ∷ 0 ∷ 2 ∷ []) $ done !)))))))))
