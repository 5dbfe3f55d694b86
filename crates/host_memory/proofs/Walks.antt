-- The names that a proof by hand about a pointer cites, and steps for a struct of a pointer and the heap's handle,
-- whatever else it owns.
pub use mathlib.Core.Path.{◌≡◌, refl, sym, subst, ap, ◌∙◌}
pub use mathlib.Core.Bool.{Bool, true, false, ◌&&◌}
pub use lib.Dec.{T, lit<}
pub use mathlib.Core.List.{List, [], ◌∷◌, ◌++◌}
pub use seplogic.Ra.Ura.{Ura}
pub use mir.Syntax.{Fn, Args, Dict, a_type, ty_ptr, impl, tnil, dnil, dcons}
pub use mir.MapTy.{inst_fn}
pub use mir.Val.{Val, vptr, vstruct, vnil, vcons, of_list, has_ty, WT}
pub use base.Logic.{SProp, ent, id⊢, emp}
pub use base.Fml.{Fml, ftrue, fsep, flft}
pub use contract.BorrowLft.{◌⊑◌}
pub use prog.Memory.{Memory}
pub use prog.Routine.{Routine}
pub use prog.Wp.{WpFn, Tables}
pub use types.Logic.{Logic}
pub use contract.Monad.{Fun, fact}
unfoldable pub use contract.Running.{tables, tables_of}
pub use sound.WpLaws.{fm_of, WpFn-mono}
pub use types.Kit.{Goal, Seq, Step, step, Item, ⋆, at_ret, ‵, raw, ◌⊛◌, some, later, ◌$◌, ◌∵◌, !, qed, by, move, drop, use1, join, split, split3, pick, rewrite, fsplit, fjoin, fpick, fpack, feq_l, feq_i, suffices, await, done}
pub use types.Part.{whole, sub, agg}
pub use types.Run.{stop, fld, no_more, and_then, of_opd, lit, returns, enter}
pub use types.ByLocal.{alloc_all, pass_all, free_all, look_at, get, get_in, sets, lands_as}
pub use denote.RattleType.{RattleType, Valss}
pub use denote.Exit.{yes, no, rest}
pub use denote.Param.{bounded, param}
pub use denote.Param.Laws.{Laws}
pub use denote.RawPtr.{Ptr, RawPtr, block_ptr, null_ptr, ptr_val}
pub use denote.Signature.{plain}
pub use denote.Steps.{heard, nothing, only}
pub use denote.Struct.Owning.{shape}
pub use denote.Struct.Struct.{Shape, Struct, within}
pub use denote.Triple.Clauses.{Ended, Clauses}
pub use denote.Triple.Spec.{triple_of}
pub use denote.Triple.Table.{entered}
pub use denote.Triple.Walked.{says, Stays, stay_dropped, walk_of, ends_at, Goes-dropped, walk_Meets}
pub use Rattle.std.specs.Prelude.{Option, None, Some, IsSome}
pub use Rattle.std.proofs.lemmas.Bool.{false≢true}
pub use Rattle.std.specs.Box.Ownership.{box_owns}
pub use Rattle.core.proofs.alloc.Calls.{Al, α, Fits, Goes-blank, handle_tells}
pub use Rattle.std_heap.specs.contracts.GlobalAllocator.TheImpl.{ghosts, dict}
use Rattle.std_heap.specs.contracts.Global as Heap
use Rattle.std_heap.proofs.Global.TheLaws as heap

abbrev pub al : Al
al = record { row = Heap.the_row; laws = heap.the_row_laws; g = ghosts; d = dict; drops = impl [] tnil dnil }

-- the machine value of such a struct
abbrev pub word : Ptr → Val → Val
word p hv = vstruct (vcons (ptr_val p) (vcons hv vnil))

pub both : (x y : Bool) → T x → T y → T (x && y)
both true y s t = t
both false y s t = absurd s

pub and_tt : (b : Bool) → T b → T (b && true)
and_tt true t = tt
and_tt false t = absurd t

pub ptr_typed : (p : Ptr) → T (has_ty ty_ptr (ptr_val p)) × WT (ptr_val p)
ptr_typed (block_ptr b o) = (tt, tt)
ptr_typed null_ptr = (tt, record { fits = lit< tt })

-- it is of the type of a struct of these two
pub word_typed : (p : Ptr) (hv : Val) → Fits al hv → T (has_ty ty_ptr (ptr_val p) && (has_ty (α al) hv && true)) × WT (word p hv)
word_typed p hv fa = (both (has_ty ty_ptr (ptr_val p)) (has_ty (α al) hv && true) (ptr_typed p).0 (and_tt (has_ty (α al) hv) fa.0), ((ptr_typed p).1, (fa.1, tt)))

abbrev pub parts : List RattleType
parts = RawPtr ∷ Heap.the_row ∷ []

abbrev pub with_parts : Shape → Shape
with_parts S = record { name = S.name; args = S.args; types = S.types; fields = parts }

module _ (S : Shape) {M : Type 1} {𝓤 : Ura M} {𝓛 : Logic 𝓤} {K : Type 0} {Γ : List (Item 𝓤)} {G : Goal 𝓤 𝓛.H} where
  pub parts_out : K → (p : Ptr) (a : Heap.the_row.Denot) (vs : List Val) (F : Fml)
      → ((hv : Val) → vs ≡ word p hv ∷ [] → Fits al hv → Seq K 𝓛 (‵ F ∷ ‵ (Heap.the_row.own_val a (hv ∷ [])) ∷ Γ) G)
      → Seq K 𝓛 (‵ (fsep ((Struct (with_parts S)).own_val (p, (a, tt)) vs) F) ∷ Γ) G
  parts_out t p a vs F k =
      fsplit t $ fpick t (λ vss. fsplit t $ feq_l t (λ ev. fsplit t $ feq_l t (λ ep. fsplit t $ handle_tells al t a vss.1.0 (λ hv ea fa. move t (1 ∷ []) $ drop t $ move t (1 ∷ []) $
      k hv
      (subst (λ (ws : List Val). vs ≡ vstruct (of_list (ptr_val p ∷ (ws ++ []))) ∷ []) ea (subst (λ (ps : List Val). vs ≡ vstruct (of_list (ps ++ (vss.1.0 ++ []))) ∷ []) ep ev)) fa))))

  pub parts_in : K → (hv : Val) (p : Ptr) (a : Heap.the_row.Denot) (F : Fml)
      → Step K 𝓛 (‵ (fsep ((Struct (with_parts S)).own_val (p, (a, tt)) (word p hv ∷ [])) F) ∷ Γ) G (‵ F ∷ ‵ (Heap.the_row.own_val a (hv ∷ [])) ∷ Γ) G
  parts_in t hv p a F = step (λ s.
      nothing t $ move t (2 ∷ 0 ∷ []) $ fjoin t $ feq_i t (List Val) (ptr_val p ∷ []) (ptr_val p ∷ []) refl $ fjoin t $
      feq_i t (List Val) (word p hv ∷ []) (word p hv ∷ []) refl $ fjoin t $
      fpack t (Valss parts) (within (with_parts S) (p, (a, tt)) (word p hv ∷ [])) (ptr_val p ∷ [], (hv ∷ [], tt)) $ fjoin t $ s)
