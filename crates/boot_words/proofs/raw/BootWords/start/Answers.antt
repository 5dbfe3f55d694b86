use Rattle.std.proofs.Common.{◌∙◌, sym, subst, List, ℕ, ◌∷◌, []}
use Rattle.boot_words.specs.{RunRule, all_pasts}
use Rattle.boot_words.proofs.Beginning.{rule_opens}
use Rattle.boot_words.proofs.raw.BootWords.start.Goals as goal

pub of_words-requires : goal.of_words-requires
of_words-requires c =
    subst (λ (l : List ℕ). RunRule (record { frames = c.args.frames; cpus = c.args.cpus; groups = c.args.choices.groups }) l (all_pasts c.args.cpus ∷ []))
    (sym (c.as_slice.ensures.value ∙ c.in_ok-words.ensures.items_if_clones_equal (λ y is. is))) (rule_opens (record { frames = c.args.frames; cpus = c.args.cpus; groups = c.args.choices.groups }))
