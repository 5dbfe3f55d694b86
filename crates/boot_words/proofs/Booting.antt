-- The words of the run without steps.
use Rattle.std.proofs.Common.{◌+◌, refl, sym, ◌∙◌}
use Rattle.step_rules.proofs.Sums.{sum_none}
use Rattle.boot_words.specs.Steps.{ABootHasWords}

pub a_boot_has_words : ABootHasWords
a_boot_has_words zone words are = record {
  legal = λ k. tt;
  frames = record {
    wide = are.frames_wide;
    frame = λ f below. are.frames f ∙ sym (sum_none (zone.cpus + 1) (λ seat. 0) (λ seat low. refl));
    visit = λ cpu low high. are.frames _;
  };
  stocks = record {
    wide = are.stocks_wide;
    has_word = λ cpu low high. tt;
    stock = λ cpu low high. are.stocks _;
    report = λ cpu low high. are.stocks _;
  };
}
