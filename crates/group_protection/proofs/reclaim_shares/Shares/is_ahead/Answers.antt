use Rattle.std.proofs.Common.{◌≡◌, ◌<◌, ℕ, sym, subst, true, false, Bool, refl, ap, ◌∙◌, slice_index, ◌||◌, ◌&&◌, nat_lt, nat_eq}
use Rattle.std.proofs.lemmas.Bool.{lt-ltb, le-ltb, eq-eqb, ne_eqb}
use Rattle.group_protection.specs.declared.reclaim_shares.Shares.TheInside.{Inside}
use Rattle.group_protection.specs.Shares.{Sharing, is_ahead, remainder}
use Rattle.group_protection.proofs.reclaim_shares.Shares.is_ahead.Goals as goal

-- what is compared
module _ (s : Inside) (now : Sharing) (view : record { room = s.room; available = s.available; want = s.want } ≡ now) (other group : ℕ)
    (theirs : slice_index s.remainders other ≡ remainder s.room (slice_index s.available) s.want other)
    (own : slice_index s.remainders group ≡ remainder s.room (slice_index s.available) s.want group) where
  at_remainders : (nat_lt (slice_index s.remainders group) (slice_index s.remainders other) || (nat_eq (slice_index s.remainders other) (slice_index s.remainders group) && nat_lt other group))
      ≡ is_ahead now.room (slice_index now.available) now.want other group
  unfolding is_ahead
  at_remainders =
      (λ i. nat_lt (own i) (theirs i) || (nat_eq (theirs i) (own i) && nat_lt other group))
      ∙ ap (λ (x : Sharing). is_ahead x.room (slice_index x.available) x.want other group) view

-- a number below the room that is seen is below the one that is kept
low : (s : Inside) (now : Sharing) → record { room = s.room; available = s.available; want = s.want } ≡ now → (n : ℕ) → n < now.room → n < s.room
low s now view n below = subst (λ (x : Sharing). n < x.room) (sym view) below

at_first : (a b : Bool) → a ≡ true → a ≡ (a || b)
at_first a b is = rw is refl

at_second : (a b c : Bool) → a ≡ false → b ≡ true → c ≡ (a || (b && c))
at_second a b c is also = rw (is, also) refl

at_none : (a b c : Bool) → a ≡ false → b ≡ false → b ≡ (a || (b && c))
at_none a b c is also = rw (is, also) refl

pub returns-then-own-theirs : goal.returns-then-own-theirs
returns-then-own-theirs c =
    at_first _ _ (lt-ltb _ _ c.if-own-theirs.true)
    ∙ at_remainders c.self.inside c.args.self.now c.self.view_is c.args.other c.args.group (c.self.invariant.1 c.args.other (low c.self.inside c.args.self.now c.self.view_is c.args.other c.requires.0))
    (c.self.invariant.1 c.args.group (low c.self.inside c.args.self.now c.self.view_is c.args.group c.requires.1))

pub returns-then-theirs-own : goal.returns-then-theirs-own
returns-then-theirs-own c =
    at_second _ _ _ (le-ltb _ _ c.if-own-theirs.false) (eq-eqb _ _ c.if-theirs-own.true)
    ∙ at_remainders c.self.inside c.args.self.now c.self.view_is c.args.other c.args.group (c.self.invariant.1 c.args.other (low c.self.inside c.args.self.now c.self.view_is c.args.other c.requires.0))
    (c.self.invariant.1 c.args.group (low c.self.inside c.args.self.now c.self.view_is c.args.group c.requires.1))

pub returns-else-theirs-own : goal.returns-else-theirs-own
returns-else-theirs-own c =
    at_none _ _ _ (le-ltb _ _ c.if-own-theirs.false) (ne_eqb _ _ c.if-theirs-own.false)
    ∙ at_remainders c.self.inside c.args.self.now c.self.view_is c.args.other c.args.group (c.self.invariant.1 c.args.other (low c.self.inside c.args.self.now c.self.view_is c.args.other c.requires.0))
    (c.self.invariant.1 c.args.group (low c.self.inside c.args.self.now c.self.view_is c.args.group c.requires.1))
