-- `deallocate` makes the block of its places, and hands it back with the right to free it. Assumes `Logic`.
use Rattle.irig_gap.proofs.Steps.{◌≡◌, refl, sym, ap, subst, ◌∙◌, ℕ, ◌*◌, ◌<◌, ◌^◌, arith, [], ◌∷◌, ◌++◌, T, length, Incl-trans, ftrue, froom, flft, Fn, w64}
use Rattle.irig_gap.proofs.Steps.{ty_unit, ty_array, inst_fn, Val, vint, vunit, has_ty, WT, WpFn, ◌⊑◌, fact, tables, ‵, raw, ◌⊛◌, later, at_ret, ◌$◌, ◌∵◌, ! }
use Rattle.irig_gap.proofs.Steps.{qed, done, move, keep, drop, use1, use3, split, join, await, fsplit, fsplit3, fjoin, fjoin3, feq_i, rewrite, suffices, regoal}
use Rattle.irig_gap.proofs.Steps.{prop, learn, given, whole, sub, stop, fld, size_word, align_word, unit_lit, of_opd, bin, and_then, no_more, first, blocks}
use Rattle.irig_gap.proofs.Steps.{exec, returns, enter, alloc_all, pass_all, free_all, look_at, local, get_in, is, sets, lands_last, env, usize, RefOf, yes, no}
use Rattle.irig_gap.proofs.Steps.{owns, Ptr, plain, types_at, heard, nothing, Stays, stay_dropped, walk_of, Goes-dropped, ends_at, proved_at, El, elτ, after}
use Rattle.irig_gap.proofs.{Blocks.De, Blocks.deed_had, Rows.Ce, Rows.sz, Rows.to_room, Rows.cells_had, cells.deallocate.Statement.statement}
use prog.Capped.{capped_fits}
use prog.Memory.{align, capped}
use denote.Triple.Table.{framed}
use denote.Triple.Call.{calls_at_last}
use Rattle.core.proofs.alloc.Calls.{Al, token, Gives, at_gives, Gives-goes, Gives-Gives, Goes-blank}
use Rattle.core.proofs.slots.Leases.{uncapped, block_ty, block_size, block_align, args as both_args, P}
use Rattle.irig_gap.specs.contracts.cells.deallocate as F
use Rattle.irig_gap.specs.contracts.cells.deallocate.Key.{name as #self}
use Rattle.irig_gap.proofs.cells.deallocate.Code as code

pub deallocate_spec : {M : Type 1} → statement M
deallocate_spec 𝓤 𝓛 𝓜 𝓡 wired X Y LX LY g d dd met md =
    let E : El = record { row = X; laws = LX } in let Z : Al = record { row = Y; laws = LY; g = g; d = d; drops = dd } in
    let G = F.ended X Y g d dd in let c = F.clauses X Y g d dd 𝓛 𝓜.mem 𝓡.returns in let 𝓣 = tables 𝓤 𝓛.H 𝓜 𝓡 𝓡.env in
    let body : Fn = inst_fn (both_args E Z) code.function in let s = sz E in let al = capped (align (elτ E)) in
    let handle = RefOf (0 ∷ []) tt (plain (λ _. P E Z)) (λ _. tt) in
    let stayed : Stays G.signature.params G.kept = (
      stay_dropped handle yes,
      (stay_dropped (plain (λ _. usize)) yes, (stay_dropped (plain (λ _. Ce E)) no, (stay_dropped (plain (λ _. De E Z)) no, tt))),
    ) in
    proved_at 𝓛 G stayed c 𝓜 𝓡 (
      Goes-dropped 𝓛 3 handle yes (λ κs x f. refl),
      (
        Goes-dropped 𝓛 3 (plain (λ _. usize)) yes (λ κs x f. refl),
        (Goes-dropped 𝓛 3 (plain (λ _. Ce E)) no (λ κs x f. refl), (Goes-blank 𝓛 3 (plain (λ _. De E Z)) no (λ κs x f. tt), tt)),
      ),
    )
    (#self (both_args E Z)) body (code.unfolded 𝓤 𝓛.H 𝓜 𝓡 wired (X, (Y, tt)) d dd) (λ y are.
    let W = walk_of 𝓛 G stayed c in let κs = y.0.0 in let qs = y.0.1 in let vss = y.0.4 in
    let at = y.0.3.0.ref_ptr in let a = y.0.3.0.now in let n = y.0.3.1.0 in let cells = y.0.3.1.1.0 in let deed = y.0.3.1.1.1.0 in
    let Ok : Type 0 = (deed.at ≡ cells.start) × (deed.len ≡ n) × (length cells.slots ≡ n) × (deed.alloc ≡ a) in
    qed 𝓛 (((‵ (flft κs.0 qs.0) ⊛ ‵ (flft κs.1.0 qs.1.0) ⊛ ‵ (flft κs.1.1.0 qs.1.1.0) ⊛ ‵ ftrue) ⊛ ‵ (owns (types_at G.signature.params κs) y.0.3 vss))
    ∷ (raw (fact 𝓤 (κs.1.0 ⊑ X.lives)) ⊛ raw (fact 𝓤 (κs.1.1.0 ⊑ Y.lives)) ⊛ raw (fact 𝓤 Ok)) ∷ []) ∵
    move ! (1 ∷ []) $ split ! $ drop ! $ split ! $ heard ! (κs.1.1.0 ⊑ Y.lives) (λ lives. heard ! Ok (λ ok.
    split ! $ split ! $ move ! (2 ∷ []) $ fsplit3 ! $ move ! (2 ∷ []) $ fsplit3 ! $
    -- [the cells; the deed; nothing; the handle; the length; the token of the handle; the other tokens]
    cells_had E ! cells vss.1.1.0 (λ b o start is_word fit.
    let small : n * s < 2 ^ 63 = subst (λ (k : ℕ). k * s < 2 ^ 63) ok.2 fit in let bytes : n * s < 2 ^ 64 = omega arith in
    use1 𝓛 (‵ (froom (ty_array (elτ E) (length cells.slots)) b o)) (to_room E 𝓛 b cells.slots o) $
    rewrite ! 0 (λ (k : ℕ). ‵ (froom (ty_array (elτ E) k) b o)) ok.2 refl $ use1 𝓛 (‵ (froom (block_ty E n) b o)) (𝓛.laws.room-raw (ty_array (elτ E) n) b o) $
    move ! (1 ∷ []) $ deed_had E Z ! deed vss.1.1.1.0 (λ is_mark.
    rewrite ! 0 (λ (t : Z.row.Denot × Ptr × ℕ). ‵ (token Z t.0 (block_ty E t.2) t.1)) (λ k. (ok.3 k, (ok.0 ∙ start) k, ok.1 k)) refl $
    move ! (3 ∷ []) $ fsplit ! $ drop ! $
    -- [the handle; the right to free the block; its room; ..; the token of the handle; the other tokens]
    regoal ! (λ ws. prop (WpFn 𝓤 𝓛.H 𝓣.C 𝓣.Λ body ws (W.post y))) (λ k. are.0.0 k ++ (are.1.0.0 k ++ (is_word k ++ (is_mark k ++ [])))) refl $
    enter ! _ _ _ _ _ $ alloc_all ! (λ l. pass_all ! refl ((tt, tt), ((tt, record { fits = are.1.0.1 }), ((tt, (tt, tt)), ((tt, (tt, tt)), tt)))) $
    let gives = Gives Z 𝓛 𝓜.mem 𝓡.returns in let z = at_gives Z 𝓛 𝓜.mem 𝓡.returns κs.0 qs.0 at a b o (n * s) al (block_ty E n) in
    sets ! (of_opd ! (get_in ! (fld ! refl (stop !)) (sub ! 0 refl (whole !)))) refl (tt, tt) $ first ! $ blocks ! $
    sets ! (of_opd ! (local ! refl)) refl (tt, tt) $
    sets ! (is ! (bin ! (local ! refl) (size_word !) (record { fits = subst (λ (k : ℕ). k < 2 ^ 64) (sym (uncapped n s bytes)) bytes }))
    (ap (vint w64) (uncapped n s bytes))) refl (tt, record { fits = bytes }) $
    move ! (0 ∷ 5 ∷ []) $ join ! $ move ! (2 ∷ 1 ∷ 0 ∷ []) $ use3 𝓛 (raw (gives.pre z))
    (Gives-goes Z 𝓛 𝓜.mem 𝓡.returns κs.0 qs.0 at a (Incl-trans y.0.2.0 lives) b o (n * s) al (block_ty E n) (block_size E n bytes) (block_align E n) bytes
    (capped_fits (align (elτ E)))) $
    calls_at_last ! (framed 𝓤 𝓛.H 𝓜 𝓣) gives (met.deallocate dd) z
    (and_then ! (local ! refl) (and_then ! (local ! refl) (and_then ! (local ! refl) (and_then ! (align_word !) (no_more !))))) (λ v.
    use1 𝓛 (later (given (v ≡ vunit) (‵ (flft κs.0 qs.0)))) (Gives-Gives Z 𝓛 𝓜.mem 𝓡.returns κs.0 qs.0 at a b o (n * s) al (block_ty E n) v) $ await ! tt $
    learn ! (λ is_unit.
    lands_last ! refl (subst (λ (u : Val). T (has_ty ty_unit u) × WT u) (sym is_unit) (tt, tt)) $
    exec ! 𝓣.C 𝓣.Λ (env body.locals l) (after 2 body.body) (at_ret (env body.locals l) (W.post y)) $
    sets ! (of_opd ! (unit_lit !)) refl (tt, tt) $ returns ! (look_at ! 0 refl) $ free_all ! refl $
    suffices ! _ (ends_at 𝓛 G stayed c y vunit tt (tt, (tt, (tt, (tt, tt)))) (tt, (tt, (tt, (tt, tt))))) $
    move ! (0 ∷ 3 ∷ []) $ join ! $ feq_i ! _ (vunit ∷ []) _ refl $ nothing ! $ nothing ! $ fjoin ! $ nothing ! $ nothing ! $ fjoin3 ! $ nothing ! $ fjoin ! $
    join ! $ move ! (1 ∷ 0 ∷ []) $ join ! $ nothing ! $ keep ! (1 ∷ 0 ∷ []) $ done !))))))))
