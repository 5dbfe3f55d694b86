use Rattle.std.proofs.Common.{◌≡◌, ◌+◌, ◌-◌, ◌∙◌, ◌++◌, List, ℕ, ap, sym, append_assoc, arith, length, drop, take}
use Rattle.std.proofs.lemmas.List.{length-drop, take_all}
use Rattle.std.specs.String.{string_bytes}
use Rattle.mem_machine.specs.declared.frame_state.FrameState.{FrameState}
use Rattle.machine_texts.specs.Places.{span_length, span_text}
use Rattle.machine_texts.proofs.Spans.{is_span, rest_text}
use Rattle.machine_texts.proofs.places.write_places.Goals as goal

pub overflow_add-next : goal.overflow_add-next
overflow_add-next c =
    let left = length-drop c.loop-first.first c.args.frame_states.now in
    let all : take (length c.args.frame_states.now - c.loop-first.first) (drop c.loop-first.first c.args.frame_states.now) ≡ drop c.loop-first.first c.args.frame_states.now
    = take_all (length c.args.frame_states.now - c.loop-first.first) (drop c.loop-first.first c.args.frame_states.now) (omega (arith, left)) in
    let span = is_span c.args.tree.now c.args.frame_states.now c.loop-first.first c.span_length.result c.place-place.result c.index-frame_states-first.result
    c.loop-first-test.true
    c.index-frame_states-first.is c.place-place.ensures (c.span_length.ensures ∙ ap (λ (s : List FrameState). span_length c.place-place.result s) all) in
    let within = span.within in
    omega (arith, within)

pub loop-first-preserved : goal.loop-first-preserved
loop-first-preserved c =
    let left = length-drop c.loop-first.first c.args.frame_states.now in
    let all : take (length c.args.frame_states.now - c.loop-first.first) (drop c.loop-first.first c.args.frame_states.now) ≡ drop c.loop-first.first c.args.frame_states.now
    = take_all (length c.args.frame_states.now - c.loop-first.first) (drop c.loop-first.first c.args.frame_states.now) (omega (arith, left)) in
    let span = is_span c.args.tree.now c.args.frame_states.now c.loop-first.first c.span_length.result c.place-place.result c.index-frame_states-first.result
    c.loop-first-test.true
    c.index-frame_states-first.is c.place-place.ensures (c.span_length.ensures ∙ ap (λ (s : List FrameState). span_length c.place-place.result s) all) in
    let line = span_text c.args.tree.now c.loop-first.first (c.loop-first.first + c.span_length.result - 1) c.place-place.result in
    let rest = rest_text c.args.tree.now (c.loop-first.first + c.span_length.result) (drop (c.loop-first.first + c.span_length.result) c.args.frame_states.now)
    in
    let wrote : string_bytes c.write_span.new.text ≡ string_bytes c.loop-first.text ++ line = c.in_ok-write_span.ensures in
    record {
      within = span.within;
      told = ap (λ (t : List ℕ). t ++ rest) wrote ∙ append_assoc (string_bytes c.loop-first.text) line rest
          ∙ ap (λ (t : List ℕ). string_bytes c.loop-first.text ++ t) (sym span.text) ∙ c.loop-first.invariant.told;
    }
