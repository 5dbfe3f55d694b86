-- What the calls answer, and the CPU's part after them. A fast call also says which stock the CPU saw last, before and
-- after it.
use Rattle.std.specs.Prelude.{◌≡◌, ◌≢◌, ℕ, ◌+◌, ◌-◌, ◌^◌, ◌<◌, ◌≤◌, Some, List, [], ◌∷◌, ◌++◌, length, slice_index, min, remove, IsPermutation}
use Rattle.frame_word.specs.declared.answers.Get.{Get}
use Rattle.frame_word.specs.declared.answers.Get.TheVariants.{Held, Raced}
use Rattle.frame_word.specs.declared.answers.Put.{Put}
use Rattle.frame_word.specs.declared.answers.Put.TheVariants.{Left, Last}
use Rattle.stock_word.specs.declared.stock.Stock.{Stock}
use Rattle.stock_word.specs.declared.stock.Stock.TheVariants.{HeldBy}
use Rattle.stock_word.specs.Stock.{drained_of, group_of}
use Rattle.step_rules.specs.State.{most_references, most_fresh}
use Rattle.cpu_part.specs.declared.answers.Fast.{Fast}
use Rattle.cpu_part.specs.declared.answers.Fast.TheVariants.{FreshFull, ListEmpty, OtherGroup, Drained, NoStock, Got}
use Rattle.cpu_part.specs.declared.answers.Dropped.{Dropped}
use Rattle.cpu_part.specs.declared.answers.Dropped.TheVariants.{Listed, NeedVisit}
use Rattle.cpu_part.specs.Cpus.{KnownCpuLists}

-- there is a frame on the list, and room for another fresh frame
abbrev pub CanTake : KnownCpuLists → Type 0
CanTake c = (length c.fresh < most_fresh) × (1 ≤ length c.list)

-- nothing changed: neither the CPU's part nor what it saw of its stock
abbrev pub StaysSo : Stock → KnownCpuLists → Stock → KnownCpuLists → Type 0
StaysSo last c last' d = (last' ≡ last) × (d ≡ c)

-- the stock was found drained, and the part is the same
abbrev pub SeesStockDrained : Stock → KnownCpuLists → Stock → KnownCpuLists → Type 0
SeesStockDrained last c last' d = (last' ≡ drained_of last) × (d ≡ c)

-- a page of group g is taken, and f, the front of the list, is now the newest fresh frame
pub record TakesPaid (g f : ℕ) (last : Stock) (c : KnownCpuLists) (last' : Stock) (d : KnownCpuLists) : Type 0 where
  pub short : length c.fresh < most_fresh
  pub left : ℕ
  pub stock_before : last ≡ HeldBy g (left + 1)
  pub stock : last' ≡ HeldBy g left
  pub rest : List ℕ
  pub front : c.list ≡ f ∷ rest
  pub part : d ≡ record c { list = rest; fresh = c.fresh ++ f ∷ [] }

-- what alloc_fast answers for group g, in this order: `most_fresh` fresh frames; an empty list; what the stock says; a frame
abbrev pub FastAnswers : ℕ → Fast → Stock → KnownCpuLists → Stock → KnownCpuLists → Type 0
FastAnswers g FreshFull last c last' d = (length c.fresh ≡ most_fresh) × StaysSo last c last' d
FastAnswers g ListEmpty last c last' d = (length c.fresh < most_fresh) × (c.list ≡ []) × StaysSo last c last' d
FastAnswers g OtherGroup last c last' d = CanTake c × (group_of last ≢ Some g) × StaysSo last c last' d
FastAnswers g Drained last c last' d = CanTake c × (group_of last ≡ Some g) × SeesStockDrained last c last' d
FastAnswers g NoStock last c last' d = CanTake c × (last ≡ HeldBy g 0) × StaysSo last c last' d
FastAnswers g (Got f) last c last' d = TakesPaid g f last c last' d

-- P holds of the frame that an alloc_fast got, if it got one
abbrev pub IfGot : Fast → (ℕ → Type 0) → Type 0
IfGot (Got f) P = P f
IfGot other P = Unit {0}

-- the page of f is in the stock again, and f moved from its place among the fresh frames to the end of the list
pub record IsListedAgain (f : ℕ) (last : Stock) (c : KnownCpuLists) (last' : Stock) (d : KnownCpuLists) : Type 0 where
  pub group : ℕ
  pub pages : ℕ
  pub stock_before : last ≡ HeldBy group pages
  pub stock : last' ≡ HeldBy group (pages + 1)
  pub place : ℕ
  pub inside : place < length c.fresh
  pub is_there : slice_index c.fresh place ≡ f
  pub part : d ≡ record c {
    list = c.list ++ f ∷ [];
    fresh = remove c.fresh place;
    drops = min (c.drops + 1) (2 ^ 64 - 1);
  }

-- what drop_fresh of f answers
abbrev pub DropAnswers : ℕ → Dropped → Stock → KnownCpuLists → Stock → KnownCpuLists → Type 0
DropAnswers f Listed last c last' d = IsListedAgain f last c last' d
DropAnswers f NeedVisit last c last' d = SeesStockDrained last c last' d

-- what a get of f answers, and the CPU's part after it: Held adds a pin
abbrev pub PinAnswers : ℕ → Get → KnownCpuLists → KnownCpuLists → Type 0
PinAnswers f Held c d = d ≡ record c { pins = c.pins ++ f ∷ [] }
PinAnswers f other c d = d ≡ c

-- P holds of the word that a get found, if it raced
abbrev pub IfRaced : Get → (ℕ → Type 0) → Type 0
IfRaced (Raced found) P = P found
IfRaced other P = Unit {0}

-- What a put of f answers, and the CPU's part after it: one pin less. Left says how many references there are. After the
-- last one f is the newest back frame.
abbrev pub UnpinAnswers : ℕ → Put → KnownCpuLists → KnownCpuLists → Type 0
UnpinAnswers f (Left n) c d = IsPermutation c.pins (f ∷ d.pins) × (1 ≤ n) × (n < most_references)
    × (d ≡ record c { pins = d.pins })
UnpinAnswers f Last c d = IsPermutation c.pins (f ∷ d.pins) × (d ≡ record c { pins = d.pins; back = c.back ++ f ∷ [] })

-- f, the front of the list, is passed back to the zone
abbrev pub PassesFront : ℕ → KnownCpuLists → KnownCpuLists → Type 0
PassesFront f c d = (rest : List ℕ) × (c.list ≡ f ∷ rest) × (d ≡ record c { list = rest })

-- f, the oldest fresh frame, is passed back to the zone
abbrev pub PassesFresh : ℕ → KnownCpuLists → KnownCpuLists → Type 0
PassesFresh f c d = (rest : List ℕ) × (c.fresh ≡ f ∷ rest) × (d ≡ record c { fresh = rest })

-- f, the oldest back frame, is passed back to the zone
abbrev pub PassesBackUnit : ℕ → KnownCpuLists → KnownCpuLists → Type 0
PassesBackUnit f c d = (rest : List ℕ) × (c.back ≡ f ∷ rest) × (d ≡ record c { back = rest })

-- f, the front of the list, is now the newest fresh frame
abbrev pub TakesFront : ℕ → KnownCpuLists → KnownCpuLists → Type 0
TakesFront f c d = (rest : List ℕ) × (c.list ≡ f ∷ rest) × (d ≡ record c { list = rest; fresh = c.fresh ++ f ∷ [] })
