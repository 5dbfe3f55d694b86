-- How a seat's views are dealt out.
use Rattle.std.proofs.Common.{◌≡◌, ℕ, ◌<◌, arith}
use Rattle.boot_words.specs.Rule.{word_count}

pub some_word : (n frames cpus : ℕ) → n ≡ word_count (record { frames = frames; cpus = cpus; groups = 0 }) → 0 < n
some_word n frames cpus e = omega (arith, e)
