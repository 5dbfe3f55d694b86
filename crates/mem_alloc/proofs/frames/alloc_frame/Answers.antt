use Rattle.std.proofs.Common.{◌≡◌, ℕ, ◌∷◌, ◌++◌, [], length, false, inl, refl, sym, ap, ◌∙◌, subst, arith, rules}
use Rattle.std.specs.Prelude.{Err, IfErr, Ok, Result}
use Rattle.std.proofs.lemmas.Result.{err_from_is_err_and}
use Rattle.mem_machine.specs.Machines.{is_killed}
use Rattle.cpu_part.specs.Cpus.{KnownCpuLists}
use Rattle.mem_alloc.specs.declared.faults.AllocFault.{AllocFault}
use Rattle.mem_alloc.proofs.Making.{refused_with, if_ok_none}
use Rattle.mem_alloc.proofs.Filling.{keeps_both, pays_keep, no_frame_keeps, filled_part, not_paid, not_found, gets_frame}
use Rattle.mem_machine.proofs.Followed.{makes_none}
use Rattle.mem_alloc.proofs.frames.alloc_frame.Goals as goal

pub pay_for_frame-requires : goal.pay_for_frame-requires
pay_for_frame-requires g c = record {
  visit = c.requires.visit;
  size = c.requires.size;
  sizes = c.requires.sizes;
  there = c.requires.there;
  alive = sym c.is_killed.ensures ∙ c.if-is_killed.false;
  none_fresh = c.requires.settled.0;
}

pub returns-in_err-pay_for_frame : goal.returns-in_err-pay_for_frame
returns-in_err-pay_for_frame g c =
    let t = g.N.BootName.table in
    let alive : is_killed c.args.machine.now.killed c.args.group ≡ false = sym c.is_killed.ensures ∙ c.if-is_killed.false in
    let r = c.from_residual.result in
    let x = c.in_err-pay_for_frame.field-0.0 in
    let not = c.from_residual.ensures.0 in
    let is : IfErr r (λ e. e ≡ x) = search rules in
    let refused = c.in_err-pay_for_frame.ensures.pays in
    let k = pays_keep t c.args.sizes c.args.group (Err x) _ _ _ _ refused.steps refused.does in
    let fresh = k.fresh ∙ c.requires.settled.0 in
    record {
      allocates = not_paid t c.args.sizes c.args.group c.args.machine.now c.args.cpu.now alive r x _ _ not is refused;
      stays = record { visit = c.in_err-pay_for_frame.ensures.visit; number = k.number; back = k.back };
      fresh = refused_with r x _ _ not is (λ e same. fresh);
      at_most_high = λ low. let a = ap length k.list in let b = ap length k.fresh in omega (arith, a, b, low);
      frame = if_ok_none r _ not;
    }

pub returns-in_err-fill_list : goal.returns-in_err-fill_list
returns-in_err-fill_list g c =
    let t = g.N.BootName.table in
    let alive : is_killed c.args.machine.now.killed c.args.group ≡ false = sym c.is_killed.ensures ∙ c.if-is_killed.false in
    let r = c.from_residual-in_err-fill_list.result in
    let x = c.in_err-fill_list.field-0.0 in
    let not = c.from_residual-in_err-fill_list.ensures.0 in
    let err = err_from_is_err_and r c.from_residual-in_err-fill_list.ensures.1 in
    let is : IfErr r (λ e. e ≡ x) = subst (λ (z : Result ℕ AllocFault). IfErr z (λ e. e ≡ x)) (sym err.1) err.2 in
    let paid = c.in_ok-pay_for_frame.ensures.pays in
    let none = c.in_err-fill_list.ensures.fills in
    let first = pays_keep t c.args.sizes c.args.group (Ok tt) _ _ _ _ paid.steps paid.does in
    let then = no_frame_keeps g.N.BootName.table c.args.sizes x _ _ _ _ none.steps none.does in
    let k = keeps_both _ _ _ first then in
    let fresh = k.fresh ∙ c.requires.settled.0 in
    record {
      allocates = not_found t c.args.sizes c.args.group c.args.machine.now c.args.cpu.now alive _ _ paid r x _ _ not is none;
      stays = record { visit = c.in_err-fill_list.ensures.visit; number = k.number; back = k.back };
      fresh = refused_with r x _ _ not is (λ e same. fresh);
      at_most_high = λ low. let a = ap length k.list in let b = ap length k.fresh in omega (arith, a, b, low);
      frame = if_ok_none r _ not;
    }

pub take_front-requires-clause-none_fresh : goal.take_front-requires-clause-none_fresh
take_front-requires-clause-none_fresh g c =
    let paid = c.in_ok-pay_for_frame.ensures.pays in
    let fills = c.in_ok-fill_list.ensures.fills in
    let first = pays_keep g.N.BootName.table c.args.sizes c.args.group (Ok tt) _ _ _ _ paid.steps paid.does in
    (filled_part g.N.BootName.table c.args.sizes _ _ _ _ fills.steps c.requires.sizes fills.does).fresh ∙ first.fresh ∙ c.requires.settled.0

pub returns : goal.returns
returns g c =
    let t = g.N.BootName.table in
    let alive : is_killed c.args.machine.now.killed c.args.group ≡ false = sym c.is_killed.ensures ∙ c.if-is_killed.false in
    let paid = c.in_ok-pay_for_frame.ensures.pays in
    let fills = c.in_ok-fill_list.ensures.fills in
    let first = pays_keep t c.args.sizes c.args.group (Ok tt) _ _ _ _ paid.steps paid.does in
    let next = filled_part g.N.BootName.table c.args.sizes _ _ _ _ fills.steps c.requires.sizes fills.does in
    let takes = c.take_front.ensures.pays in
    let cpu = takes.takes.2 in
    let none = next.fresh ∙ first.fresh ∙ c.requires.settled.0 in
    let fresh = ap (λ (e : KnownCpuLists). e.fresh) cpu ∙ ap (λ l. l ++ c.take_front.result ∷ []) none in
    record {
      allocates = gets_frame t c.args.sizes c.args.group c.args.machine.now c.args.cpu.now alive _ _ paid c.take_front.result _ _ _ _ (next.number ∙ first.number)
          fills takes c.take_front.ensures.steps;
      stays = record {
        visit = c.take_front.ensures.visit;
        number = ap (λ (e : KnownCpuLists). e.number) cpu ∙ next.number ∙ first.number;
        back = ap (λ (e : KnownCpuLists). e.back) cpu ∙ next.back ∙ first.back;
      };
      fresh = fresh;
      at_most_high = λ low.
          let a = ap length first.list in
          let b = ap length c.requires.settled.0 in
          let full = next.high (omega (arith, a, b, low)) in
          let d = ap length takes.takes.1 in
          let e = ap (λ (e : KnownCpuLists). length e.list) cpu in
          let f = ap length fresh in
          omega (arith, full, d, e, f);
      frame = c.take_front.ensures.frame;
    }

pub returns-then-is_killed-clause-allocates : goal.returns-then-is_killed-clause-allocates
returns-then-is_killed-clause-allocates g c = record {
  steps = [];
  does = inl (record { is = sym c.is_killed.ensures ∙ c.if-is_killed.true; does = record { machine = refl; cpu = refl; steps_are = refl } });
  makes = makes_none g.N.BootName.table c.args.machine.now;
}
