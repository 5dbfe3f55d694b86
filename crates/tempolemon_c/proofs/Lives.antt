-- The calls on a handle go on with one run. Serves `lives_are_legal_runs`.
use Rattle.std.proofs.Common.{◌≡◌, ◌∙◌, ℕ, zero, suc, Some, List, [], ◌∷◌, ◌++◌, ap, append_assoc, inl, inr, refl, subst, sym}
use Rattle.std.specs.Prelude.{◌⊎◌, Option, false, take}
use Rattle.std.proofs.lemmas.Bool.{cases_lt}
use Rattle.zone_blocks.specs.declared.config.Config.{Config}
use Rattle.step_rules.specs.After.{Run}
use Rattle.boot_words.specs.{zone_of_boot, IsRunOf, KnownTable}
use Rattle.mem_core.specs.Promise.{AlwaysKeepsPromise}
use Rattle.reply_texts.specs.Answers.{answer_text}
use Rattle.script_lines.specs.declared.line.Line.TheVariants.{At}
use Rattle.script_replay.specs.Lines.{HasRun, RunGoesOn, SystemState}
use Rattle.script_replay.specs.Terms.{Terms, terms}
use Rattle.script_replay.proofs.Gaining.{all_lines_go_on, goes_on_none}
use Rattle.load_run.specs.Ending.{last_words}
use Rattle.load_run.proofs.Whole.{whole_run}
use Rattle.host_memory.specs.{OnHandle, led}
use Rattle.tempolemon_c.specs.{StopsText, LiveBoot, ended_of, KnownLive, AreCalls, CallOnHandle, LivesAreLegalRuns}
use Rattle.tempolemon_c.specs.{TypedCallsAreCalls, steps_before_stop, steps_of_call, steps_of_calls, steps_of_life, most_refusal}
use Rattle.tempolemon_c.specs.Lives.{Answered, Fetched, Nothing, RanOut, Refused, Stored, Typed}

stop_goes_on : (on : Terms) (sizes : Config) (text : List ℕ) (s e : SystemState) (stop : (e ≡ s) ⊎ StopsText on sizes text s e)
    → RunGoesOn (steps_before_stop on sizes text s e stop) s e
stop_goes_on on sizes text s e (inl stays) = subst (RunGoesOn [] s) (sym stays) (goes_on_none s)
stop_goes_on on sizes text s e (inr stop) =
    all_lines_go_on on (take stop.stops.number stop.lines) s e stop.stops.text stop.stops.served

-- the handle has a boot of the same table after the call, and the run goes on by these steps
record GoesOn (boot : LiveBoot) (steps : Run) (after : Option LiveBoot) : Type 0 where
  next : LiveBoot
  is : after ≡ Some next
  frames : next.frames ≡ boot.frames
  goes_on : RunGoesOn steps boot.known.state next.known.state

same_boot : (a b : LiveBoot) → Some a ≡ Some b → a ≡ b
same_boot a b e = cc

stays_so : (boot : LiveBoot) (after : Option LiveBoot) → after ≡ Some boot → GoesOn boot [] after
stays_so boot after is = record { next = boot; is = is; frames = refl; goes_on = goes_on_none boot.known.state }

module _ {does : KnownTable → KnownLive → KnownLive → Type 0} (before after : Option LiveBoot) (on : OnHandle does before after) where
  -- what was done went on by these steps
  by_steps : (boot : LiveBoot) (steps : Run) → before ≡ Some boot → RunGoesOn steps on.from.state on.to.state → GoesOn boot steps after
  by_steps boot steps was goes =
      let same = same_boot (led on.frames on.from) boot (sym on.was ∙ was) in record {
        next = led on.frames on.to;
        is = on.is;
        frames = ap (λ (b : LiveBoot). b.frames) same;
        goes_on = subst (λ (b : LiveBoot). RunGoesOn steps b.known.state on.to.state) same goes;
      }

  -- it changed nothing of the state
  without_steps : (boot : LiveBoot) (steps : Run) → GoesOn boot steps before → on.to.state ≡ on.from.state → GoesOn boot steps after
  without_steps boot steps so_far still =
      let same = same_boot (led on.frames on.from) so_far.next (sym on.was ∙ so_far.is) in record {
        next = led on.frames on.to;
        is = on.is;
        frames = ap (λ (b : LiveBoot). b.frames) same ∙ so_far.frames;
        goes_on = subst (RunGoesOn steps boot.known.state) (sym (still ∙ ap (λ (b : LiveBoot). b.known.state) same)) so_far.goes_on;
      }

call_goes_on : (before after : Option LiveBoot) (call : CallOnHandle before after) (boot : LiveBoot) → before ≡ Some boot
    → GoesOn boot (steps_of_call before after call) after
call_goes_on before after (Nothing stays) boot was = stays_so boot after (stays ∙ was)
call_goes_on before after (Typed cpu asked answer does) boot was =
    by_steps before after does boot (steps_of_call before after (Typed cpu asked answer does)) was
    (all_lines_go_on (terms does.frames false) (At 0 cpu does.done.command ∷ []) does.from.state does.to.state (answer_text does.to.state.locked.machine.ledger answer)
    (does.done.serves.says.replays 0))
call_goes_on before after (Answered text is_explained answers does) boot was =
    by_steps before after does boot (steps_of_call before after (Answered text is_explained answers does)) was
    (all_lines_go_on (terms does.frames is_explained) does.done.replays.lines does.from.state does.to.state answers does.done.replays.served)
call_goes_on before after (Stored text is_explained answers does) boot was =
    let on = does.lines in
    let steps = steps_of_call before after (Stored text is_explained answers does) in
    without_steps does.between after does.stores boot steps
    (by_steps before does.between on boot steps was
    (all_lines_go_on (terms on.frames is_explained) on.done.replays.lines on.from.state on.to.state answers on.done.replays.served))
    (ap (λ (l : KnownLive). l.state) does.stores.done)
call_goes_on before after (Refused text number does) boot was =
    without_steps before after does boot [] (stays_so boot before was) (ap (λ (l : KnownLive). l.state) does.done.stays)
call_goes_on before after (RanOut text is_explained does) boot was =
    by_steps before after does boot (steps_of_call before after (RanOut text is_explained does)) was
    (stop_goes_on (terms does.frames is_explained) does.from.sizes text does.from.state does.to.state does.done.served)
call_goes_on before after (Fetched answer does) boot was =
    without_steps before after does boot [] (stays_so boot before was) (ap (λ (l : KnownLive). l.state) does.done.after_is)

calls_go_on : (count : ℕ) (before after : Option LiveBoot) (calls : AreCalls count before after) (boot : LiveBoot) → before ≡ Some boot
    → GoesOn boot (steps_of_calls count before after calls) after
calls_go_on zero before after calls boot was = stays_so boot after (calls ∙ was)
calls_go_on (suc count) before after calls boot was =
    let one = steps_of_call before calls.between calls.call in
    let more = steps_of_calls count calls.between after calls.rest in
    let g = call_goes_on before calls.between calls.call boot was in
    let h = calls_go_on count calls.between after calls.rest g.next g.is in record {
      next = h.next;
      is = h.is;
      frames = h.frames ∙ g.frames;
      goes_on = λ earlier has.
          subst (λ (r : Run). HasRun r h.next.known.state) (append_assoc earlier one more) (h.goes_on (earlier ++ one) (g.goes_on earlier has));
    }

pub lives_are_legal_runs : LivesAreLegalRuns
lives_are_legal_runs sizes count report life =
    let booted = life.boots.boot in
    let ended = life.ends.boot in
    let steps = steps_of_calls count life.booted life.last life.calls in
    let whole = steps_of_life sizes count report life in
    let g = calls_go_on count life.booted life.last life.calls booted life.boots.is in
    let same = same_boot g.next ended (sym g.is ∙ life.ends.was) in
    let has : HasRun steps ended.known.state = subst (λ (b : LiveBoot). HasRun steps b.known.state) same (g.goes_on [] life.boots.first.so_far) in
    let last = whole_run ended.frames steps ended.known.state (ended_of report) has life.ends.ends in
    subst (λ (t : KnownTable). IsRunOf (zone_of_boot t) (last_words life.ends.ends.closes) whole × AlwaysKeepsPromise (zone_of_boot t) whole)
    (ap (λ (b : LiveBoot). b.frames) (sym same) ∙ g.frames) (last.leads, last.promise)

pub typed_calls_are_calls : TypedCallsAreCalls
typed_calls_are_calls cpu asked before after status out old new calls =
    elim (cases_lt most_refusal status) [
      | inl above ↦ Nothing (calls.stays above)
      | inr low ↦ let served = calls.served low in Typed cpu asked served.answer served.answers
    ]
