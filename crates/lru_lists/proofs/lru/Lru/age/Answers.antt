use Rattle.std.proofs.Common.{◌≡◌, ◌<◌, ◌≤◌, ◌+◌, ◌-◌, ℕ, false, length, map, take, drop, arith, ◌∙◌, ap, inl, inr}
use Rattle.std.proofs.lemmas.Bool.{cases_lt}
use Rattle.std.proofs.lemmas.List.{drop-drop, length-append, length-drop, length-map, length-take-le}
use Rattle.lru_lists.specs.declared.record.LruList.TheVariants.{Inactive, Active}
use Rattle.lru_lists.specs.Lists.{inactive_of, active_of, marked}
use Rattle.lru_lists.proofs.Pairs.{len_is, ages_step, keeps_both, owners_both}
use Rattle.lru_lists.proofs.lru.Lru.age.Goals as goal

pub loop-self-smaller : goal.loop-self-smaller
loop-self-smaller c =
    let d = c.demote.ensures in
    let inv = c.loop-self.invariant in
    let e1 : c.demote.new.self.active.length ≡ length (active_of c.demote.new.links c.demote.new.self) = len_is c.demote.new.links c.demote.new.self
    d.linked Active in
    let e2 : c.loop-self.self.active.length ≡ length (active_of c.loop-self.links c.loop-self.self) = len_is c.loop-self.links c.loop-self.self
    inv.stands Active in
    let e3 : length (active_of c.demote.new.links c.demote.new.self) ≡ length (active_of c.loop-self.links c.loop-self.self) - 1 =
    ap length d.active ∙ length-drop 1 (active_of c.loop-self.links c.loop-self.self) in
    let t : c.loop-self.self.inactive.length < c.loop-self.self.active.length = c.loop-self-test.true in
    omega arith

pub loop-self-preserved : goal.loop-self-preserved
loop-self-preserved c =
    let d = c.demote.ensures in
    let inv = c.loop-self.invariant in
    let k : ℕ = inv.moved.0 in
    let a0 = active_of c.args.links.now c.args.self.now in
    let e1 : c.loop-self.self.inactive.length ≡ length (inactive_of c.loop-self.links c.loop-self.self) = len_is c.loop-self.links c.loop-self.self
    inv.stands Inactive in
    let e2 : c.loop-self.self.active.length ≡ length (active_of c.loop-self.links c.loop-self.self) = len_is c.loop-self.links c.loop-self.self
    inv.stands Active in
    let e3 : length (active_of c.loop-self.links c.loop-self.self) ≡ length a0 - k = ap length inv.moved.2 ∙ length-drop k a0 in
    let t : c.loop-self.self.inactive.length < c.loop-self.self.active.length = c.loop-self-test.true in
    let lt : k < length a0 = omega arith in
    let e4 : length (inactive_of c.loop-self.links c.loop-self.self) ≡ length (inactive_of c.args.links.now c.args.self.now) + k =
    ap length inv.moved.1
    ∙ length-append (inactive_of c.args.links.now c.args.self.now) (map (marked false) (take k a0))
    ∙ ap (λ (n : ℕ). length (inactive_of c.args.links.now c.args.self.now) + n)
    (length-map (take k a0) (marked false) ∙ length-take-le k a0 (let le : k ≤ length a0 = omega arith in le)) in
    record {
      stands = d.linked;
      owner = d.owner ∙ inv.owner;
      keeps = keeps_both c.args.links.now c.loop-self.links c.demote.new.links c.args.self.now.owner inv.keeps
          (rw (← inv.owner) d.keeps);
      owners = owners_both c.args.links.now c.loop-self.links c.demote.new.links inv.owners d.owners;
      moved = (
        k + 1,
        ages_step c.args.links.now c.loop-self.links c.demote.new.links c.args.self.now c.loop-self.self c.demote.new.self k inv.moved.1 d.inactive inv.moved.2,
        d.active ∙ ap (drop 1) inv.moved.2 ∙ drop-drop 1 k a0,
        λ j lt'. elim (cases_lt j k) [ inl l ↦ inv.moved.3 j l | inr g ↦ let q : j ≡ k = omega arith in rw q (omega arith) ],
      );
    }

pub returns-clause-ages : goal.returns-clause-ages
returns-clause-ages c =
    let inv = c.loop-self.invariant in
    let e1 = len_is c.loop-self.links c.loop-self.self inv.stands Inactive in
    let e2 = len_is c.loop-self.links c.loop-self.self inv.stands Active in
    record {
      moved = inv.moved.0;
      inactive = inv.moved.1;
      active = inv.moved.2;
      enough = rw (← e1, ← e2) c.loop-self-test.false;
      fewest = inv.moved.3;
    }
