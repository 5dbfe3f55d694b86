-- From a call on the pointer behind a handle to what the handle leads to.
use Rattle.std.proofs.Common.{◌∙◌, Some, None, ap}
use Rattle.std.proofs.lemmas.Bool.{false≢true}
use Rattle.std.specs.Prelude.{IsSome, Option}
use Rattle.boot_words.specs.Tables.{KnownTable}
use Rattle.host_memory.specs.{OnHandle, OnPointer, led_of}

module _ {K : Type 0} where
  -- what was done to what the pointer leads to was done behind the handle
  pub crossed : (does : KnownTable → (from to : K) → Type 0) (f : KnownTable) (o : Option K) (g : KnownTable) (p : Option K)
      → OnPointer (does f) f o g p → OnHandle does (led_of f o) (led_of g p)
  crossed does f o g p on = record {
    frames = f;
    from = on.on_known.from;
    to = on.on_known.to;
    was = ap (led_of f) on.on_known.was;
    is = ap (λ (h : KnownTable). led_of h p) on.frames_are ∙ ap (led_of f) on.on_known.is;
    done = on.on_known.done;
  }

  -- the handle leads to something only if the pointer does
  pub some_behind : (f : KnownTable) (o : Option K) → IsSome (led_of f o) → IsSome o
  some_behind f None some = absurd (false≢true some)
  some_behind f (Some known) some = some
