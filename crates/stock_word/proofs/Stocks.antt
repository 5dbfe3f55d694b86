-- The stock that a word encodes. Serves the steps of `boot_words` on stocks.
use Rattle.std.proofs.Common.{◌≡◌, ℕ, ◌+◌, ◌*◌, ◌<◌, refl, ap, arith}
use Rattle.group_tree.specs.{most_groups}
use Rattle.stock_word.specs.declared.stock.Stock.{Stock}
use Rattle.stock_word.specs.declared.stock.Stock.TheVariants.{NoGroup, HeldBy, DrainedOf}
use Rattle.stock_word.specs.Stock.{word_of, HasWord}

-- the stock whose word is that of these pages held by the group
pub held_word : (s : Stock) (g n : ℕ) → HasWord s → g < most_groups → n < 65536 → word_of s ≡ word_of (HeldBy g n) → s ≡ HeldBy g n
held_word NoGroup g n h a b e = absurd (omega (arith, e))
held_word (HeldBy k m) g n h a b e =
    let c : (k + 1) * 65536 + m ≡ (g + 1) * 65536 + n = e in let d : k ≡ g = omega (arith, h.1) in let f : m ≡ n = omega (arith, h.1) in λ i. HeldBy (d i) (f i)
held_word (DrainedOf k) g n h a b e = let c : 4294967296 + (k + 1) * 65536 ≡ (g + 1) * 65536 + n = e in absurd (omega arith)

drained_word : (s : Stock) (g : ℕ) → HasWord s → g < most_groups → word_of s ≡ word_of (DrainedOf g) → s ≡ DrainedOf g
drained_word NoGroup g h a e = let c : 0 ≡ 4294967296 + (g + 1) * 65536 = e in absurd (omega arith)
drained_word (HeldBy k m) g h a e = let c : (k + 1) * 65536 + m ≡ 4294967296 + (g + 1) * 65536 = e in absurd (omega (arith, h.0, h.1))
drained_word (DrainedOf k) g h a e = let c : 4294967296 + (k + 1) * 65536 ≡ 4294967296 + (g + 1) * 65536 = e in let d : k ≡ g = omega arith in ap DrainedOf d

no_word : (s : Stock) → word_of s ≡ 0 → s ≡ NoGroup
no_word NoGroup e = refl
no_word (HeldBy k m) e = let c : (k + 1) * 65536 + m ≡ 0 = e in absurd (omega arith)
no_word (DrainedOf k) e = let c : 4294967296 + (k + 1) * 65536 ≡ 0 = e in absurd (omega arith)

-- a word says one stock
pub same_word : (s r : Stock) → HasWord s → HasWord r → word_of s ≡ word_of r → s ≡ r
same_word s NoGroup h k e = no_word s e
same_word s (HeldBy g n) h k e = held_word s g n h k.0 k.1 e
same_word s (DrainedOf g) h k e = drained_word s g h k e
