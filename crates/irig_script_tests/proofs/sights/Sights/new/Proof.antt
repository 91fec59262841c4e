-- `new` makes the empty struct, with the list that its clause names. Assumes `Logic`.
use Rattle.std.proofs.Common.{[], ◌∷◌, refl}
use Rattle.std.proofs.raw_atomic.Walks.{proved}
use mir.Val.{vstruct, vnil}
use base.Logic.{via, fst∗}
use contract.Running.{tables}
use types.Kit.{‵, raw, ◌$◌, ◌∵◌, !, qed, move, suffices, done}
use types.Run.{no_more, returns, enter}
use types.Part.{agg}
use types.ByLocal.{alloc_all, pass_all, free_all, look_at, sets}
use denote.RattleType.{owns}
use denote.Shadow.{pure_i}
use denote.Triple.Entry.{alive}
use denote.Triple.Walked.{says, Stays, walk_of, ends_at}
use Rattle.irig_script_tests.specs.contracts.sights.Sights as made
use Rattle.irig_script_tests.specs.contracts.sights.Sights.new as F
use Rattle.irig_script_tests.specs.contracts.sights.Sights.new.Key.{name as #self}
use Rattle.irig_script_tests.proofs.sights.Sights.new.Statement.{statement}
use Rattle.irig_script_tests.proofs.sights.Sights.new.Code as code

pub new_spec : {M : Type 1} → statement M
new_spec 𝓤 𝓛 𝓜 𝓡 wired =
    let 𝓣 = tables 𝓤 𝓛.H 𝓜 𝓡 𝓡.env in let c = F.clauses 𝓛 𝓜.mem 𝓡.returns in let stayed : Stays F.signature.params F.ended.kept = tt in
    proved 𝓛 F.ended stayed c 𝓜 𝓡 tt #self code.function (code.unfolded 𝓤 𝓛.H 𝓜 𝓡 wired) (λ κs. tt) (λ κs. tt) (λ κs qs bounds a gh are.
    let y : (walk_of 𝓛 F.ended stayed c).Ghost = ((κs, qs, bounds, a, tt), gh) in let now : made.the_row.Denot = record { list = [] } in
    via 𝓤 _ (fst∗ 𝓤 _ ((c κs a).requires gh)) (
    qed 𝓛 (raw (alive 𝓛 F.signature κs qs) ∷ ‵ (owns [] tt tt) ∷ []) ∵ enter ! 𝓣.C 𝓣.Λ code.function [] _ $
    alloc_all ! (λ l. pass_all ! refl tt $ sets ! (agg ! (no_more !)) refl (tt, tt) $ returns ! (look_at ! 0 refl) $ free_all ! refl $
    suffices ! _ (ends_at 𝓛 F.ended stayed c y (vstruct vnil) now tt tt) $ says ! refl $
    pure_i ! (made.the_row.own_val now (vstruct vnil ∷ [])) ((λ vss. (tt, tt)), tt) ((tt, (refl, tt)), tt) $ move ! (1 ∷ 2 ∷ 0 ∷ []) $ done !)))
