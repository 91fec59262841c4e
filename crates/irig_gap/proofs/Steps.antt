-- What the walks by hand are written with: the names that they share, passed on.
pub use mathlib.Core.Path.{◌≡◌, refl, sym, ap, subst, ◌∙◌}
pub use Prim.Native.Nat.{ℕ, zero, suc, ◌+◌, ◌-◌, ◌*◌, ◌≤◌, ◌<◌, ◌^◌}
pub use native.Mathlib.Omega.{arith}
pub use mathlib.Core.Bool.{true, false}
pub use mathlib.Core.List.{List, [], ◌∷◌, ◌++◌, map}
pub use lib.Dec.{T, lit<}
pub use lib.ListN.{length, take, drop as dropped, set, get_or, replicate, length-replicate, length-set, length-take, length-drop}
pub use seplogic.Ra.Ura.{Ura}
pub use base.Logic.{SProp, ent, emp, id⊢, never}
pub use base.Fml.{Incl-trans, ftrue, froom, flft}
pub use mir.Syntax.{Fn, Body, w64, named, ty_unit, ty_array}
pub use mir.MapTy.{inst_fn}
pub use mir.Val.{Val, vint, vptr, vunit, vstruct, vcons, vnil, has_ty, WT}
pub use prog.Wp.{Env, WpFn}
pub use contract.BorrowLft.{◌⊑◌}
pub use contract.Monad.{fact, fact_i}
pub use contract.Running.{tables}
pub use types.Kit.{‵, raw, ◌⊛◌, later, at_ret, ◌$◌, ◌∵◌, !, qed, by, done, move, keep, drop, use0, use1, use2, use3, split, join, await, fsplit, fsplit3, fjoin}
pub use types.Kit.{fjoin3, feq_i, feq_l, flt_l, rewrite, suffices, regoal, prop, frame, learn, pick, some, given}
pub use types.Part.{whole, sub, look_in, agg}
pub use types.Run.{init, stop, fld, load, addr, size_lit, size_word, align_word, unit_lit, lit, of_opd, bin, and_then, no_more, assigns_last, first, blocks}
pub use types.Run.{switches_on, exec, returns, enter}
pub use types.ByLocal.{alloc_all, pass_all, free_all, look_at, get as local, get_in, get_tag, is, through, sets, sets_last, lands_as, lands_last, env}
pub use denote.Builtin.{u8, usize, unit, RefOf}
pub use denote.Exit.{yes, no}
pub use denote.Plain.{uint_vals, uint_Tells}
pub use denote.RattleType.{RattleType, owns}
pub use denote.RawPtr.{RawPtr, Ptr, block_ptr, in_a_block}
pub use denote.Ref.{shr_vals, shr_Tells, mut_vals, mut_Tells}
pub use denote.Signature.{plain, types_at}
pub use denote.Steps.{heard, nothing, owned}
pub use denote.Triple.Entry.{alive}
pub use denote.Triple.Walked.{Stays, stay_dropped, stay_ref, walk_of, Goes-dropped, Goes-ref, ends_at, says}
pub use Rattle.std.proofs.raw_atomic.Walks.{proved, proved_at}
pub use Rattle.std.specs.Prelude.{Option, Some, None}
pub use Rattle.core.proofs.mem.Param.{El, R, args, el_x, elτ}
pub use Rattle.core.proofs.slots.Bodies.{after}
