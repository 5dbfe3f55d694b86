-- A function that makes a struct of a pointer and the heap's handle, whatever else the struct owns: of the two fields of
-- another such struct (`moved`), or of null and a handle (`made` with `makes_null`).
use Rattle.host_memory.proofs.Walks.{◌≡◌, refl, sym, subst, false≢true, IsSome, Option, Some, None, List, [], ◌∷◌, ◌++◌, T, Ura, Fn, ty_ptr, Val, SProp, ent, Fml, ftrue, fsep, WpFn, Logic, fact, tables, Item, ⋆, ‵, raw, ◌⊛◌, ◌$◌, ◌∵◌, !, qed, by, move, drop, use1, join, split, fsplit, fjoin, suffices, done}
use Rattle.host_memory.proofs.Walks.{whole, sub, agg, stop, fld, no_more, and_then, of_opd, lit, returns, enter, alloc_all, pass_all, free_all, look_at, get, get_in, sets, RattleType, Ptr, null_ptr, plain, heard, nothing, shape, Shape, Struct, Ended, Clauses, Stays, stay_dropped}
use Rattle.host_memory.proofs.Walks.{walk_of, al, α, Goes-blank, handle_tells, word, ptr_typed, word_typed, with_parts, parts_out, parts_in}
use Prim.Native.Nat.{ℕ}
use mir.Syntax.{Callee, Ty, ty_struct, tcons, tnil, local, value_local, seq, assign, place, rv_opd, copy, field, aggregate, int, return, w64}
use base.Logic.{emp, via}
use contract.Lifetimes.{Lfts}
use contract.Monad.{fact_i, top}
use contract.Running.{Running}
use prog.Model.{Model}
use prog.Wp.{Calls, Loops, Closed}
use types.Kit.{use0}
use denote.Exit.{Kept, Last, left, rest}
use denote.Param.Mute.{blank}
use denote.Struct.Owning.{Owning, row}
use denote.Triple.Clauses.{closing, at_exit, Lasts}
use denote.Triple.Entry.{alive}
use denote.Triple.Spec.{Meets}
use Rattle.std.proofs.raw_atomic.Walks.{leaves, proved_at}
use Rattle.std_heap.specs.contracts.Global as Heap

-- the type of such a struct
abbrev two : Shape → Ty
two S = ty_struct S.name (tcons ty_ptr (tcons (α al) tnil))

-- e, if it moves the fields of a struct into another one
abbrev pub moves : (from to : Shape) → Fn → Fn
moves from to e = record e {
  params = 1;
  locals = local (two to) value_local ∷ local (two from) value_local ∷ local ty_ptr value_local ∷ local (α al) value_local
      ∷ local ty_ptr value_local ∷ [];
  body = seq (assign (place 2 []) (rv_opd (copy (place 1 (field 0 ∷ [])))))
      (seq (assign (place 3 []) (rv_opd (copy (place 1 (field 1 ∷ []))))) (seq (assign (place 4 []) (rv_opd (copy (place 2 []))))
      (seq (assign (place 0 []) (aggregate (copy (place 4 []) ∷ copy (place 3 []) ∷ []))) return)));
}

-- e, if it makes a struct of null and a handle
abbrev pub makes : (to : Shape) → Fn → Fn
makes to e = record e {
  params = 1;
  locals = local (two to) value_local ∷ local (α al) value_local ∷ [];
  body = seq (assign (place 0 []) (aggregate (int w64 0 ∷ copy (place 1 []) ∷ []))) return;
}

-- what such a struct owns, if it owns F besides
abbrev pub owned : Shape → Ptr → Heap.the_row.Denot → Fml → List Val → Fml
owned S p a F vs = fsep ((Struct (with_parts S)).own_val (p, (a, tt)) vs) F

-- what an option has
pub some_of : {K : Type 0} (o : Option K) → IsSome o → (k : K) × (Some k ≡ o)
some_of None some = absurd (false≢true some)
some_of (Some k) some = (k, refl)

module _ {M : Type 1} (𝓤 : Ura M) where
  pub shown : {φ : Type 0} → φ → ent 𝓤 (emp 𝓤) (fact 𝓤 φ)
  shown {φ = φ} x = fact_i 𝓤 φ (emp 𝓤) x

  pub always : (P : SProp 𝓤) → ent 𝓤 P (fact 𝓤 (Unit {0}))
  always P = via 𝓤 (emp 𝓤) (top 𝓤 P) (shown tt)

module _ {M : Type 1} {𝓤 : Ura M} (𝓛 : Logic 𝓤) where
  open 𝓛 use {H}

  -- Run at values that own `given`, e ends with such a struct, which owns F besides.
  abbrev EndsIn : Calls 𝓤 H → Loops 𝓤 H → Fn → List Val → (given : Fml) (to : Shape) → Ptr → Heap.the_row.Denot → Fml → Type 2
  EndsIn C Λ e vs given to p a F = (A : SProp 𝓤) (Post : Val → SProp 𝓤)
      → ((hv : Val) → ent 𝓤 (⋆ 𝓛 (‵ (owned to p a F (word p hv ∷ [])) ∷ raw A ∷ [])) (Post (word p hv)))
      → ent 𝓤 (⋆ 𝓛 (‵ given ∷ raw A ∷ [])) (WpFn 𝓤 H C Λ e (vs ++ []) Post)

  -- the code that moves two fields does
  moves_fields : (C : Calls 𝓤 H) (Λ : Loops 𝓤 H) (from to : Shape) (e : Fn) (p : Ptr) (a : Heap.the_row.Denot) (F : Fml) (vs : List Val)
      → EndsIn C Λ (moves from to e) vs (owned from p a F vs) to p a F
  moves_fields C Λ from to e p a F vs A Post ends =
      qed 𝓛 (‵ (owned from p a F vs) ∷ raw A ∷ []) ∵ parts_out from ! p a vs F (λ hv ws fa.
      let Γ : List (Item 𝓤) = ‵ F ∷ ‵ (Heap.the_row.own_val a (hv ∷ [])) ∷ raw A ∷ [] in
      by ! (subst (λ (us : List Val). ent 𝓤 (⋆ 𝓛 Γ) (WpFn 𝓤 H C Λ (moves from to e) (us ++ []) Post)) (sym ws)
      (qed 𝓛 Γ ∵ enter ! C Λ (moves from to e) (word p hv ∷ []) _ $ alloc_all ! (λ ls. pass_all ! refl (word_typed p hv fa, tt) $
      sets ! (of_opd ! (get_in ! (fld ! refl (stop !)) (sub ! 0 refl (whole !)))) refl (ptr_typed p) $
      sets ! (of_opd ! (get_in ! (fld ! refl (stop !)) (sub ! 1 refl (whole !)))) refl fa $
      sets ! (of_opd ! (get ! refl)) refl (ptr_typed p) $
      sets ! (agg ! (and_then ! (get ! refl) (and_then ! (get ! refl) (no_more !)))) refl (word_typed p hv fa) $
      returns ! (look_at ! 0 refl) $ free_all ! refl $ parts_in to ! hv p a F $ by ! (ends hv)))))

  -- so does the code that makes a struct of null
  pub makes_null : (C : Calls 𝓤 H) (Λ : Loops 𝓤 H) (to : Shape) (e : Fn) (a : Heap.the_row.Denot) (vs : List Val)
      → EndsIn C Λ (makes to e) vs (Heap.the_row.own_val a vs) to null_ptr a ftrue
  makes_null C Λ to e a vs A Post ends =
      qed 𝓛 (‵ (Heap.the_row.own_val a vs) ∷ raw A ∷ []) ∵ handle_tells al ! a vs (λ hv ws fa.
      let Γ : List (Item 𝓤) = ‵ (Heap.the_row.own_val a (hv ∷ [])) ∷ raw A ∷ [] in
      by ! (subst (λ (us : List Val). ent 𝓤 (⋆ 𝓛 Γ) (WpFn 𝓤 H C Λ (makes to e) (us ++ []) Post)) (sym ws)
      (qed 𝓛 Γ ∵ enter ! C Λ (makes to e) (hv ∷ []) _ $ alloc_all ! (λ ls. pass_all ! refl (fa, tt) $
      sets ! (agg ! (and_then ! (lit ! tt) (and_then ! (get ! refl) (no_more !)))) refl (word_typed null_ptr hv fa) $
      returns ! (look_at ! 0 refl) $ free_all ! refl $ nothing ! $ parts_in to ! hv null_ptr a ftrue $ by ! (ends hv)))))

  module _ (𝓜 : Model 𝓤 H) (𝓡 : Running 𝓤 H 𝓜) (n : ℕ) where
    abbrev C : Calls 𝓤 H
    C = (tables 𝓤 H 𝓜 𝓡 𝓡.env).C

    abbrev Λ : Loops 𝓤 H
    Λ = (tables 𝓤 H 𝓜 𝓡 𝓡.env).Λ

    -- a signature with one parameter, which is used up
    abbrev ended : RattleType → Owning → Kept → Ended
    ended From O k = record {
      signature = record { lifetimes = n; outlives = []; params = plain (λ κs. From) ∷ []; result = plain (λ κs. row O) };
      kept = (k, tt);
    }

    -- The `requires` gives Pre. Under it the struct that is made is `to x`, which owns what x owned, and the `ensures` holds.
    module _ (From : RattleType) (O : Owning) (k : Kept) (c : Clauses 𝓤 (ended From O k))
        (p : From.Denot → Ptr) (a : From.Denot → Heap.the_row.Denot) (F : From.Denot → Fml)
        (Pre : From.Denot → Type 0) (to : (x : From.Denot) → Pre x → O.D)
        (needs : (κs : Lfts n) (x : From.Denot) (g : (c κs (x, tt)).ghost) → ent 𝓤 ((c κs (x, tt)).requires g) (fact 𝓤 (Pre x)))
        (owns : (x : From.Denot) (pre : Pre x) (vs : List Val) → owned (shape O) (p x) (a x) (F x) vs ≡ (row O).own_val (to x pre) vs)
        (gives : (κs : Lfts n) (x : From.Denot) (pre : Pre x) (g : (c κs (x, tt)).ghost) (w : Lasts (ended From O k) κs (x, tt))
        → ent 𝓤 (emp 𝓤) ((c κs (x, tt)).ensures g (to x pre) (at_exit (ended From O k) κs (x, tt) w))) where
      abbrev stayed : Stays (ended From O k).signature.params (ended From O k).kept
      stayed = (stay_dropped (plain (λ _. From)) k, tt)

      pub made : (key : Callee) (e : Fn) → Closed 𝓤 H C Λ key e → ((x : From.Denot) (f : Last (From.exit k) x) → T (blank (left (From.exit k) x f)))
          → ((x : From.Denot) (vs : List Val) → EndsIn C Λ e vs (From.own_val x vs) (shape O) (p x) (a x) (F x))
          → Meets 𝓛 (ended From O k).signature (C key) (closing 𝓛 (ended From O k) c)
      made key e closed is_blank ends =
          proved_at 𝓛 (ended From O k) stayed c 𝓜 𝓡 (Goes-blank 𝓛 n (plain (λ _. From)) k (λ κs. is_blank), tt) key e closed (λ y are.
          let κs = y.0.0 in let x = y.0.3.0 in let vs = y.0.4.0 in let A : SProp 𝓤 = alive 𝓛 (ended From O k).signature κs y.0.1 in
          let w : Lasts (ended From O k) κs y.0.3 = (rest (From.exit k) x, tt) in
          qed 𝓛 ((raw A ⊛ ‵ (fsep (From.own_val x vs) ftrue)) ∷ raw ((c κs y.0.3).requires y.1) ∷ []) ∵ move ! (1 ∷ []) $
          use1 𝓛 (raw (fact 𝓤 (Pre x))) (needs κs x y.1) $ heard ! (Pre x) (λ pre. split ! $ move ! (1 ∷ []) $ fsplit ! $ move ! (1 ∷ []) $ drop ! $
          by ! (ends x vs A ((walk_of 𝓛 (ended From O k) stayed c).post y) (λ hv. let v : Val = word (p x) hv in
          subst (λ (G : Fml). ent 𝓤 (⋆ 𝓛 (‵ G ∷ raw A ∷ [])) ((walk_of 𝓛 (ended From O k) stayed c).post y v)) (sym (owns x pre (v ∷ [])))
          (qed 𝓛 (‵ ((row O).own_val (to x pre) (v ∷ [])) ∷ raw A ∷ []) ∵
          suffices ! _ (leaves 𝓛 (ended From O k) stayed c y v (to x pre) w (tt, tt)) $
          use0 𝓛 (raw ((c κs y.0.3).ensures y.1 (to x pre) (at_exit (ended From O k) κs y.0.3 w))) (gives κs x pre y.1 w) $
          move ! (1 ∷ 0 ∷ []) $ join ! $ nothing ! $ nothing ! $ fjoin ! $ join ! $ move ! (1 ∷ 0 ∷ []) $ join ! $ done !)))))

      pub moved : (from : Shape) (key : Callee) (e : Fn) → Closed 𝓤 H C Λ key (moves from (shape O) e)
          → ((x : From.Denot) (f : Last (From.exit k) x) → T (blank (left (From.exit k) x f)))
          → ((x : From.Denot) (vs : List Val) → owned from (p x) (a x) (F x) vs ≡ From.own_val x vs)
          → Meets 𝓛 (ended From O k).signature (C key) (closing 𝓛 (ended From O k) c)
      moved from key e closed is_blank is = made key (moves from (shape O) e) closed is_blank (λ x vs.
          subst (λ (G : Fml). EndsIn C Λ (moves from (shape O) e) vs G (shape O) (p x) (a x) (F x)) (is x vs)
          (moves_fields C Λ from (shape O) e (p x) (a x) (F x) vs))
