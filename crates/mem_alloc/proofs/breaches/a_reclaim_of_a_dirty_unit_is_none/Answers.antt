use Rattle.std.proofs.Common.{refl}
use Rattle.mem_alloc.proofs.breaches.a_reclaim_of_a_dirty_unit_is_none.Goals as goal

pub returns : goal.returns
returns c = λ table before after runs reclaims.
    let kept = reclaims.keeps.dirty 1 (record { kept = λ none. cc; dirty = refl }) in
    kept.kept refl
