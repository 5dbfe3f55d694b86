-- A call whose answer is the text of a file. Serves `serve_into` and `write_file`.
use Rattle.std.proofs.Common.{◌≡◌, ◌∙◌, ℕ, ◌≤◌, Some, None, List, ap, arith, inl, subst, sym}
use Rattle.std.specs.Prelude.{IfSome, IsSomeAnd, Option, length}
use Rattle.std.proofs.lemmas.Option.{none-some}
use Rattle.control_files.specs.declared.file.File.{File}
use Rattle.control_files.specs.declared.stat.MemoryStat.{MemoryStat}
use Rattle.control_files.specs.Stat.{stat_text}
use Rattle.mem_system.specs.declared.outcome.Outcome.TheVariants as outcome
use Rattle.group_charge.specs.Charges.{Ledger}
use Rattle.reply_texts.specs.declared.line_answer.LineAnswer.{LineAnswer}
use Rattle.reply_texts.specs.declared.line_answer.LineAnswer.TheVariants.{Served}
use Rattle.tempolemon_c.specs.declared.calls.Call.{Call}
use Rattle.tempolemon_c.specs.declared.calls.CallAnswer.TheVariants as call
use Rattle.tempolemon_c.specs.{CallsLive, ShowsFile, KnownLive, CallsInto, HasGroupsBehind, PutsAnswer, ReturnsAnswer, ReturnsText, ReturnsValue}
use Rattle.tempolemon_c.specs.{LiveBoot, most_refusal, result_of, status_of}
use Rattle.host_memory.specs.{OnHandle, PutsText, led, result_with}
use Rattle.host_memory.specs.declared.typed_result.TypedResult.{TypedResult}
use Rattle.tempolemon_c.proofs.Numbers.{status_low}

-- the result of what isn't a text doesn't depend on the boot
pub plain_result : (boot : Option LiveBoot) (value : LineAnswer) (status : ℕ) (out : TypedResult) (buffer : List ℕ)
    → status ≡ status_of value → ((ledger : Ledger) → out ≡ result_of ledger value)
    → ((ledger : Ledger) (buffer : List ℕ) → PutsAnswer ledger value buffer buffer) → IfSome boot (ReturnsValue value status out buffer buffer)
plain_result None value status out buffer status_is out_is no_text = tt
plain_result (Some boot) value status out buffer status_is out_is no_text = let ledger = boot.known.state.locked.machine.ledger in
    record { status_is = status_is; out_is = out_is ledger; buffer = no_text ledger buffer }

-- nor does the text of memory.stat
pub stat_result : (boot : Option LiveBoot) (stat : MemoryStat) (status : ℕ) (out : TypedResult) (old new : List ℕ)
    → ReturnsText (stat_text stat) status out old new → IfSome boot (ReturnsValue (Served (outcome.Stat stat)) status out old new)
stat_result None stat status out old new so = tt
stat_result (Some boot) stat status out old new so = record { status_is = so.status_is; out_is = so.out_is; buffer = so.buffer }

module _ (group : ℕ) (file : File) (shown : List ℕ) (before after : Option LiveBoot)
    (on : OnHandle (λ frames from to. ShowsFile group file from to shown) before after) where
  -- nothing is done
  pub stays : after ≡ before
  stays = on.is ∙ (ap (λ (live : KnownLive). Some (led on.frames live)) on.done.stays ∙ sym on.was)

  -- the result of the text of a file is that of an outcome that shows it
  pub tells : (status : ℕ) (out : TypedResult) (old new : List ℕ) → ReturnsText shown status out old new
      → IfSome before (ReturnsValue (Served (outcome.Text group file)) status out old new)
  tells status out old new so =
      subst (λ (b : Option LiveBoot). IfSome b (ReturnsValue (Served (outcome.Text group file)) status out old new)) (sym on.was)
      (record {
        status_is = so.status_is;
        out_is = so.out_is ∙ ap (λ (text : List ℕ). result_with 4 (length text)) on.done.text_is;
        buffer = subst (λ (text : List ℕ). PutsText text old new) on.done.text_is so.buffer;
      })

module _ (cpu : ℕ) (asked : Call) (value : LineAnswer) (before mid : Option LiveBoot)
    (on : OnHandle (λ frames from to. CallsLive frames cpu asked from to (call.Served value)) before mid) where
  -- the groups that the value names are there
  pub groups_there : IsSomeAnd mid (HasGroupsBehind value)
  groups_there = subst (λ (b : Option LiveBoot). IsSomeAnd b (HasGroupsBehind value)) (sym on.is) on.done.tells.is_answer.0

  -- and its result is that of the call's answer
  pub value_called : (after : Option LiveBoot) (status : ℕ) (out : TypedResult) (old new : List ℕ) → after ≡ mid
      → IfSome mid (ReturnsValue value status out old new) → CallsInto cpu asked before after status out old new
  value_called after status out old new same shown =
      let ledger = on.to.state.locked.machine.ledger in
      let answer : LineAnswer = on.done.tells.answer in
      let shows : ReturnsAnswer ledger value status out old new =
      subst (λ (b : Option LiveBoot). IfSome b (ReturnsValue value status out old new)) on.is shown in
      let status_is : status ≡ status_of answer = shows.status_is ∙ ap status_of (sym on.done.tells.is_answer.1) in
      let low : status ≤ most_refusal = subst (λ (k : ℕ). k ≤ most_refusal) (sym status_is) (status_low answer) in record {
        statuses = inl low;
        none_live = (λ e. absurd (omega (arith, e, low)), λ none. absurd (none-some _ (sym none ∙ on.was)));
        served = λ l. record {
          answer = answer;
          answers = record {
            frames = on.frames;
            from = on.from;
            to = on.to;
            was = on.was;
            is = same ∙ on.is;
            done = record { command = on.done.command; means = on.done.means; serves = on.done.tells.serves };
          };
          status_is = status_is;
          out_is = shows.out_is ∙ ap (result_of ledger) (sym on.done.tells.is_answer.1);
          buffer = subst (λ (a : LineAnswer). PutsAnswer ledger a old new) (sym on.done.tells.is_answer.1) shows.buffer;
        };
        no_cpu = λ e. absurd (omega (arith, e, low));
        no_frame = λ e. absurd (omega (arith, e, low));
        no_group = λ e. absurd (omega (arith, e, low));
        stays = λ high. absurd (omega (arith, high, low));
        no_kind = λ high. absurd (omega (arith, high, low));
        buffer_stays = λ high. absurd (omega (arith, high, low));
      }
