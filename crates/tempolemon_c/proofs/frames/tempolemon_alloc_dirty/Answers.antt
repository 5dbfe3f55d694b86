use Rattle.std.proofs.Common.{ℕ, refl, subst, inr}
use Rattle.tempolemon_c.specs.declared.calls.Call.TheVariants.{Alloc}
use Rattle.tempolemon_c.specs.{behind, CallsBehind}
use Rattle.tempolemon_c.proofs.frames.tempolemon_alloc_dirty.Goals as goal

pub returns-then-status-eq-DONE : goal.returns-then-status-eq-DONE
returns-then-status-eq-DONE c = inr (record {
  between = behind c.serve_call-status.new.handle;
  given = c.serve_call-status.new.out;
  noted = c.serve_call-status-2.new.out;
  allocates = subst (λ (s : ℕ). CallsBehind c.args.cpu (Alloc c.args.group c.args.order) (behind c.args.handle.now) (behind c.serve_call-status.new.handle) s
      c.serve_call-status.new.out) c.if-status-ne-DONE.false c.serve_call-status.ensures;
  notes = c.serve_call-status-2.ensures;
  is_given = λ done. refl;
  is_noted = λ other. absurd (other c.if-status-eq-DONE.true);
})

pub returns-else-status-eq-DONE : goal.returns-else-status-eq-DONE
returns-else-status-eq-DONE c = inr (record {
  between = behind c.serve_call-status.new.handle;
  given = c.serve_call-status.new.out;
  noted = c.serve_call-status-2.new.out;
  allocates = subst (λ (s : ℕ). CallsBehind c.args.cpu (Alloc c.args.group c.args.order) (behind c.args.handle.now) (behind c.serve_call-status.new.handle) s
      c.serve_call-status.new.out) c.if-status-ne-DONE.false c.serve_call-status.ensures;
  notes = c.serve_call-status-2.ensures;
  is_given = λ done. absurd (c.if-status-eq-DONE.false done);
  is_noted = λ other. refl;
})
