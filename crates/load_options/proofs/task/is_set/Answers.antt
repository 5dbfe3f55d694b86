-- Serves the contract of `is_set`: what clap reads of the option is what its row says.
use Rattle.std.proofs.Common.{◌∙◌, ap, codes, false, ℕ, List, Option}
use Rattle.std.specs.Option.{option_map_or}
use Rattle.std.specs.Str.{bytes_eq}
use Rattle.clap.specs.Words.{found_of, one_text}
use Rattle.clap.proofs.WalkLemmas.{one_text-rows}
use Rattle.load_options.proofs.Asking.{given_read}
use Rattle.load_options.proofs.task.is_set.Goals as goal

pub returns : goal.returns
returns c =
    let found = found_of c.args.given.now in
    let name = c.args.name.now in
    c.unwrap_or.ensures ∙ given_read _ (one_text found name) c.get_one.result c.get_one.ensures.none c.get_one.ensures.value
    ∙ ap (λ (text : Option (List ℕ)). option_map_or (λ t. bytes_eq t (codes "true")) text false) (one_text-rows found name)
