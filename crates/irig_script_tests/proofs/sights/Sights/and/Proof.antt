-- `and` makes the empty struct, with the list that its clause names. Assumes `Logic`.
use Rattle.std.proofs.Common.{[], ◌∷◌, ◌++◌, refl}
use Rattle.std.proofs.raw_atomic.Walks.{proved}
use mir.Syntax.{a_type, dcons, dnil, named}
use mir.Val.{vptr, vstruct, vnil}
use mir.MapTy.{inst_fn}
use base.Logic.{via, fst∗}
use contract.Running.{tables}
use types.Kit.{‵, raw, ◌$◌, ◌∵◌, !, qed, move, suffices, done}
use types.Run.{no_more, returns, enter}
use types.Part.{agg}
use types.ByLocal.{alloc_all, pass_all, free_all, look_at, sets}
use denote.Exit.{yes}
use denote.RattleType.{owns}
use denote.Param.{param, bounded}
use denote.Ref.{shr_vals, shr_Tells}
use denote.Shadow.{pure_i}
use denote.Signature.{plain, types_at}
use denote.Triple.Entry.{alive}
use denote.Triple.Walked.{says, stay_none_ref, Stays, walk_of, ends_at, Goes-none_ref}
use Rattle.irig_script.specs.Print.Screen.{sight}
use Rattle.irig_script_tests.specs.contracts.sights.Sights as made
use Rattle.irig_script_tests.specs.contracts.sights.Sights.and as F
use Rattle.irig_script_tests.specs.contracts.sights.Sights.and.Key.{name as #self}
use Rattle.irig_script_tests.proofs.sights.Sights.and.Statement.{statement}
use Rattle.irig_script_tests.proofs.sights.Sights.and.Code as code

pub and_spec : {M : Type 1} → statement M
and_spec 𝓤 𝓛 𝓜 𝓡 wired W S LW LS g d h e _ _ =
    let 𝓣 = tables 𝓤 𝓛.H 𝓜 𝓡 𝓡.env in let En = F.ended W S g d h e in let c = F.clauses W S g d h e 𝓛 𝓜.mem 𝓡.returns in
    let inst = bounded (a_type ∷ a_type ∷ []) (W, (S, tt)) (dcons d (dcons e dnil)) in let fn = inst_fn inst code.function in
    let list = plain (λ _. made.the_row) in let out = plain (λ _. param 0 W) in let shelf = plain (λ _. param 1 S) in
    let stayed : Stays En.signature.params En.kept =
    (stay_none_ref (0 ∷ []) tt list yes, (stay_none_ref (1 ∷ []) tt out yes, (stay_none_ref (2 ∷ []) tt shelf yes, tt))) in
    proved 𝓛 En stayed c 𝓜 𝓡
    (Goes-none_ref 𝓛 5 (0 ∷ []) tt list yes, (Goes-none_ref 𝓛 5 (1 ∷ []) tt out yes, (Goes-none_ref 𝓛 5 (2 ∷ []) tt shelf yes, tt)))
    (#self inst) fn (code.unfolded 𝓤 𝓛.H 𝓜 𝓡 wired (W, (S, tt)) d e) (λ κs. (shr_vals, (shr_vals, (shr_vals, tt))))
    (λ κs. (shr_Tells (named 0) κs.0 made.the_row, (shr_Tells (named 1) κs.1.0 (param 0 W), (shr_Tells (named 2) κs.1.1.0 (param 1 S), tt))))
    (λ κs qs bounds a gh are.
    let p = vptr a.0.ref_ptr.0 a.0.ref_ptr.1 in let q = vptr a.1.0.ref_ptr.0 a.1.0.ref_ptr.1 in let r = vptr a.1.1.0.ref_ptr.0 a.1.1.0.ref_ptr.1 in
    let y : (walk_of 𝓛 En stayed c).Ghost = ((κs, qs, bounds, a, (p ∷ [], (q ∷ [], (r ∷ [], tt)))), gh) in
    let now : made.the_row.Denot = record { list = a.0.now.list ++ sight (g.contents a.1.0.now) (h.known a.1.1.0.now).texts ∷ [] } in
    via 𝓤 _ (fst∗ 𝓤 _ ((c κs a).requires gh)) (
    qed 𝓛 (raw (alive 𝓛 En.signature κs qs) ∷ ‵ (owns (types_at En.signature.params κs) a y.0.4) ∷ []) ∵
    enter ! 𝓣.C 𝓣.Λ fn (p ∷ q ∷ r ∷ []) _ $ alloc_all ! (λ l. pass_all ! refl ((tt, tt), ((tt, tt), ((tt, tt), tt))) $
    sets ! (agg ! (no_more !)) refl (tt, tt) $ returns ! (look_at ! 0 refl) $ free_all ! refl $
    suffices ! _ (ends_at 𝓛 En stayed c y (vstruct vnil) now (tt, (tt, (tt, tt))) (tt, (tt, (tt, tt)))) $ says ! refl $
    pure_i ! (made.the_row.own_val now (vstruct vnil ∷ [])) ((λ vss. (tt, tt)), tt) ((tt, (refl, tt)), tt) $
    move ! (1 ∷ 2 ∷ 0 ∷ []) $ done !)))
