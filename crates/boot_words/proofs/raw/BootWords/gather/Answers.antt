use Rattle.std.proofs.Common.{◌≡◌, [], ◌∷◌, ◌++◌, length, List, sym, ap, ◌∙◌, subst, append_assoc, append-nil, arith, refl}
use Rattle.std.specs.Vec.Iter.{into_iter_items}
use Rattle.boot_words.specs.{AllOf, HasCpuPast, pasts_of_cpus}
use Rattle.boot_words.proofs.raw.BootWords.gather.Goals as goal

pub join-requires : goal.join-requires
join-requires c =
    let at = c.loop-cpu in
    let steps : into_iter_items at.cpu-iterator ≡ c.in-Some.cpu ∷ into_iter_items c.next.new.self = c.in-Some.ensures.steps.0 in
    record { tables = (at.invariant.table, ap (λ k. k.past.table) c.cpu.view_is ∙ (subst (AllOf (HasCpuPast c.args.self.now)) steps at.invariant.left).0.table_is) }

pub loop-cpu-preserved : goal.loop-cpu-preserved
loop-cpu-preserved c =
    let at = c.loop-cpu in
    let steps : into_iter_items at.cpu-iterator ≡ c.in-Some.cpu ∷ into_iter_items c.next.new.self = c.in-Some.ensures.steps.0 in
    let more = pasts_of_cpus (into_iter_items c.next.new.self) in record {
      table = ap (λ s. s.table) c.join.ensures.seat;
      left = (subst (AllOf (HasCpuPast c.args.self.now)) steps at.invariant.left).1;
      counted = (let was = at.invariant.counted in let gone = c.in-Some.ensures.steps.1 in let short = ap length steps in omega arith);
      pasts = ap (λ s. s.pasts ++ more) c.join.ensures.seat ∙ ap (λ k. (at.zone.pasts ++ k.past.pasts) ++ more) c.cpu.view_is
          ∙ append_assoc at.zone.pasts c.in-Some.cpu.past.pasts more ∙ ap (λ l. at.zone.pasts ++ pasts_of_cpus l) (sym steps) ∙ at.invariant.pasts;
    }

nothing_left : {X : Type 0} (l : List X) → length l ≡ 0 → l ≡ []
nothing_left [] h = refl
nothing_left (x ∷ xs) h = absurd (omega arith)

pub returns : goal.returns
returns c =
    let at = c.loop-cpu in
    let gone = c.in-None.ensures.steps in
    let empty : into_iter_items at.cpu-iterator ≡ [] = nothing_left _ (sym at.invariant.counted ∙ gone.0) in
    let items = c.into_iter-cpu-iterator.ensures.into_iter_gives.0 in
    let pasts = sym (append-nil at.zone.pasts) ∙ ap (λ l. at.zone.pasts ++ pasts_of_cpus l) (sym empty) ∙ at.invariant.pasts
    ∙ ap (λ l. c.args.zone.now.pasts ++ pasts_of_cpus l) items in
    λ i. record { table = at.invariant.table i; pasts = pasts i }
