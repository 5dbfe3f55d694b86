-- Calls that were not served. Serves `serve_into`.
use Rattle.std.proofs.Common.{◌≡◌, ◌∙◌, ℕ, Some, None, List, ap, arith, inr, refl, sym}
use Rattle.std.specs.Prelude.{Option}
use Rattle.std.proofs.lemmas.Option.{none-some}
use Rattle.tempolemon_c.specs.declared.calls.Call.{Call}
use Rattle.tempolemon_c.specs.{IsCpu, NamesMissingFrame, KnownLive, CallsInto, RefusesBehind, LiveBoot}
use Rattle.host_memory.specs.{led, bad_cpu, bad_frame, not_live, no_result}

module _ (cpu : ℕ) (asked : Call) (buffer : List ℕ) where
  -- there is no boot
  pub none_called : (before : Option LiveBoot) → before ≡ None → CallsInto cpu asked before before not_live no_result buffer buffer
  none_called before none = record {
    statuses = inr (0, omega arith, refl);
    none_live = (λ e. none, λ e. refl);
    served = λ low. absurd (omega (arith, low));
    no_cpu = λ e. absurd (omega (arith, e));
    no_frame = λ e. absurd (omega (arith, e));
    no_group = λ e. absurd (omega (arith, e));
    stays = λ high. refl;
    no_kind = λ high. refl;
    buffer_stays = λ high. refl;
  }

  -- nothing is done, and there is a boot
  still : (is_missing : KnownLive → Type 0) (before after : Option LiveBoot) → RefusesBehind is_missing before after → after ≡ before
  still is_missing before after refuses =
      refuses.is ∙ (ap (λ (live : KnownLive). Some (led refuses.frames live)) refuses.done.stays ∙ sym refuses.was)

  there : (is_missing : KnownLive → Type 0) (before after : Option LiveBoot) → RefusesBehind is_missing before after → before ≡ None → ⊥
  there is_missing before after refuses none = none-some _ (sym none ∙ refuses.was)

  -- there is no such CPU
  pub no_cpu_called : (before after : Option LiveBoot) → RefusesBehind (λ from. ¬ IsCpu from.sizes.cpus cpu) before after
      → CallsInto cpu asked before after bad_cpu no_result buffer buffer
  no_cpu_called before after refuses = record {
    statuses = inr (1, omega arith, refl);
    none_live = (λ e. absurd (omega (arith, e)), λ none. absurd (there (λ from. ¬ IsCpu from.sizes.cpus cpu) before after refuses none));
    served = λ low. absurd (omega (arith, low));
    no_cpu = λ e. refuses;
    no_frame = λ e. absurd (omega (arith, e));
    no_group = λ e. absurd (omega (arith, e));
    stays = λ high. still (λ from. ¬ IsCpu from.sizes.cpus cpu) before after refuses;
    no_kind = λ high. refl;
    buffer_stays = λ high. refl;
  }

  -- there is no such frame
  pub no_frame_called : (before after : Option LiveBoot)
      → RefusesBehind (λ from. IsCpu from.sizes.cpus cpu × NamesMissingFrame from.sizes.frames asked) before after
      → CallsInto cpu asked before after bad_frame no_result buffer buffer
  no_frame_called before after refuses = record {
    statuses = inr (2, omega arith, refl);
    none_live = (λ e. absurd (omega (arith, e)), λ none. absurd (there (λ from. IsCpu from.sizes.cpus cpu × NamesMissingFrame from.sizes.frames asked) before after refuses none));
    served = λ low. absurd (omega (arith, low));
    no_cpu = λ e. absurd (omega (arith, e));
    no_frame = λ e. refuses;
    no_group = λ e. absurd (omega (arith, e));
    stays = λ high. still (λ from. IsCpu from.sizes.cpus cpu × NamesMissingFrame from.sizes.frames asked) before after refuses;
    no_kind = λ high. refl;
    buffer_stays = λ high. refl;
  }
