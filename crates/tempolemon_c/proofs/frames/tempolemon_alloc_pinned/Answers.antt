use Rattle.std.proofs.Common.{rules, ◌≡◌, ℕ, Option, inl, inr, refl, subst}
use Rattle.host_memory.specs.{done}
use Rattle.host_memory.specs.declared.typed_result.TypedResult.{TypedResult}
use Rattle.tempolemon_c.specs.declared.calls.Call.TheVariants.{Alloc}
use Rattle.tempolemon_c.specs.Calls.{AllocatesNone, AllocatesPinnedBehind, AllocatesThenPins, CallsBehind, MayPinBehind, PinsGiven, ReleasesGiven}
use Rattle.tempolemon_c.specs.Handles.{LiveBoot}
use Rattle.tempolemon_c.specs.{behind}
use Rattle.tempolemon_c.proofs.frames.tempolemon_alloc_pinned.Goals as goal

-- a call that began with what the check left began with what was there before it
from_checked : (cpu group order : ℕ) (before checked after : Option LiveBoot) (status : ℕ) (out : TypedResult) → checked ≡ before
    → MayPinBehind cpu order before → AllocatesThenPins cpu group order checked after status out → AllocatesPinnedBehind cpu group order before after status out
from_checked cpu group order before checked after status out same may pins =
    inr (may, inr (subst (λ (b : Option LiveBoot). AllocatesThenPins cpu group order b after status out) same pins))

pub returns-then-checked-ne-DONE : goal.returns-then-checked-ne-DONE
returns-then-checked-ne-DONE c = inl (c.check_pin-checked.ensures.refused c.if-checked-ne-DONE.true, c.check_pin-checked.ensures.stays)

pub returns-then-allocated-ne-DONE : goal.returns-then-allocated-ne-DONE
returns-then-allocated-ne-DONE c =
    let checked = c.check_pin-checked in
    let done = c.serve_call-allocated in
    inr (
      checked.ensures.may c.if-checked-ne-DONE.false,
      inl (subst (λ (b : Option LiveBoot). AllocatesNone c.args.cpu c.args.group c.args.order b (behind done.new.handle) done.result done.new.out) checked.ensures.stays
          (record { allocates = done.ensures; not_done = c.if-allocated-ne-DONE.true })),
    )

pub returns-then-is_held : goal.returns-then-is_held
returns-then-is_held c =
    let checked = c.check_pin-checked in
    let given = c.serve_call-allocated in
    let asked = c.serve_call-asked in
    from_checked c.args.cpu c.args.group c.args.order (behind c.args.handle.now) (behind checked.new.handle) (behind asked.new.handle) done given.new.out
    checked.ensures.stays (checked.ensures.may c.if-checked-ne-DONE.false) (record {
      between = behind given.new.handle;
      given = given.new.out;
      allocates = subst (λ (s : ℕ). CallsBehind c.args.cpu (Alloc c.args.group c.args.order) (behind checked.new.handle) (behind given.new.handle) s given.new.out)
          c.if-allocated-ne-DONE.false given.ensures;
      then = inl (record {
        asked = asked.result;
        got = asked.new.out;
        pins = asked.ensures;
        is_held = c.if-is_held.true;
        status_is = refl;
        out_is = refl;
      });
    })

pub returns : goal.returns
returns c =
    let checked = c.check_pin-checked in
    let given = c.serve_call-allocated in
    let asked = c.serve_call-asked in
    let left = c.serve_call-released in
    from_checked c.args.cpu c.args.group c.args.order (behind c.args.handle.now) (behind checked.new.handle) (behind left.new.handle) _ _
    checked.ensures.stays (checked.ensures.may c.if-checked-ne-DONE.false) (record {
      between = behind given.new.handle;
      given = given.new.out;
      allocates = subst (λ (s : ℕ). CallsBehind c.args.cpu (Alloc c.args.group c.args.order) (behind checked.new.handle) (behind given.new.handle) s given.new.out)
          c.if-allocated-ne-DONE.false given.ensures;
      then = inr (record {
        missed = behind asked.new.handle;
        asked = asked.result;
        got = asked.new.out;
        released = left.result;
        left = left.new.out;
        pins = asked.ensures;
        not_held = c.if-is_held.false;
        releases = left.ensures;
        status_is = search rules;
        out_is = search rules;
      });
    })
