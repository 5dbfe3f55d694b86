-- The steps by which a frame is handed over. Serves `lend`, `lend_one`, `collect_fresh` and the callers of `collect_passed`.
use Rattle.std.proofs.Common.{◌≡◌, ℕ, List, [], ◌∷◌, sym, ap, ◌∙◌, subst}
use Rattle.step_rules.specs.declared.step.Action.TheVariants.{Collect, PassBack}
use Rattle.step_rules.specs.declared.step.Answer.TheVariants.{Done}
use Rattle.step_rules.specs.After.{Run, cpu_makes, zone_makes}
use Rattle.boot_words.specs.{MakesInTurn, KnownPasts, IsHeld, MakesStep, KnownTable}
use Rattle.cpu_part.specs.{PassesFresh, KnownCpuLists}
use Rattle.cpu_part.proofs.CallerLemmas.{makes_each}
use Rattle.step_watch.specs.Watched.{KnownWatch, Watches}
use Rattle.mem_machine.specs.{KnownRun, Records, HandsOver, unlist_steps}
use Rattle.mem_machine.proofs.Noted.{all_grow, grows_both, made_grows}

-- the steps of a list were made in turn, and the watch took them
pub turn_notes : (steps : ℕ → ℕ → Run) (t : KnownTable) (run : KnownRun) (p f i q : ℕ) → i ≡ f → q ≡ p → (later : KnownPasts) (watch : KnownWatch) → IsHeld t run.past
    → MakesInTurn t run.past (steps p f) later → Watches run.watch (steps q i) watch → Records t run (steps p f) (record { past = later; watch = watch })
turn_notes steps t run p f i q index number later watch held made saw = record {
  grew = all_grow t run.past (steps p f) later (makes_each t run.past (steps p f) later held made);
  watched = subst (λ (x : ℕ × ℕ). Watches run.watch (steps x.0 x.1) watch) (λ j. (number j, index j)) saw;
}

pub hands_over : (f : ℕ) (c d : KnownCpuLists) → PassesFresh f c d → HandsOver f c d
hands_over f c d passes =
    let rest : d.fresh ≡ passes.0 = ap (λ (x : KnownCpuLists). x.fresh) passes.2 in record {
      front = passes.1 ∙ ap (λ (l : List ℕ). f ∷ l) (sym rest);
      cpu = passes.2 ∙ ap (λ (l : List ℕ). record c { fresh = l }) (sym rest);
    }

-- the CPU passed the frame back, and the zone collected it
pub passed_notes : (t : KnownTable) (run : KnownRun) (p q f : ℕ) → q ≡ p → (mid : KnownPasts) (later : KnownRun) → MakesStep t run.past p (PassBack f) Done mid
    → MakesStep t mid 0 (Collect f q) Done later.past → Watches run.watch (unlist_steps q f) later.watch → Records t run (unlist_steps p f) later
passed_notes t run p q f number mid later passed collected saw = record {
  grew = grows_both t run.past (cpu_makes p (PassBack f) Done ∷ []) mid (zone_makes (Collect f p) Done ∷ []) later.past
      (made_grows t run.past p (PassBack f) Done mid passed)
      (made_grows t mid 0 (Collect f p) Done later.past (subst (λ (x : ℕ). MakesStep t mid 0 (Collect f x) Done later.past) number collected));
  watched = subst (λ (x : ℕ). Watches run.watch (unlist_steps x f) later.watch) number saw;
}
