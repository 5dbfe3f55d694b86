-- What `give` did with the path of the group.
use Rattle.std.proofs.Common.{inr, inl}
use Rattle.zone_threads.specs.declared.texts.TextCall.TheVariants.{Units}
use Rattle.tempolemon_threads.proofs.texts.tempolemon_try_units.Goals as goal

pub returns : goal.returns
returns c = elim c.give.ensures [
  | inl nothing ↦ inl (record {
    because = inl nothing.because;
    stays = nothing.stays;
    buffer_stays = nothing.buffer_stays;
    none_written = nothing.none_written;
  })
  | inr shows ↦ inr (record { asked = Units c.in-Ok.path; is = c.in-Ok.ensures.items; shows = shows })
]
