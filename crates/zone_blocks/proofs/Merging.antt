-- A block that is merged with its buddy before it is put in: for `take_buddy` and `insert_merged`.
use Rattle.std.proofs.Common.{◌≡◌, ℕ, ◌+◌, ◌^◌, ◌%◌, ◌<◌, ◌≤◌, ◌⊎◌, min, Bool, List, length, refl, sym, ap, ◌∙◌, subst, inl, inr, arith}
use Rattle.std.specs.List.{Contains}
use Rattle.std.proofs.lemmas.Bool.{cases_lt}
use Rattle.std.proofs.lemmas.Nat.{pow_pos}
use Rattle.std.proofs.Math.Nat.{add-mod_right}
use Rattle.zone_blocks.specs.declared.block.Block.{Block}
use Rattle.zone_blocks.specs.{IsBlock, Covers, enclosing, HasPairBit, buddy, IsFree, IsFreeBlock, FreeBlocks, Inserts, RemovesBlock, IsOneOfPair}
use Rattle.zone_blocks.specs.{block_at, free_set_of, AreSoundAreas, GivesFrames, HasNoBuddy, TakesBuddy}
use Rattle.zone_blocks.proofs.Filling.{same_block}
use Rattle.zone_blocks.proofs.Nested.{covers_start, start_aligned, start_is}
use Rattle.zone_blocks.proofs.Sets.{decide_covers, subset}
use Rattle.zone_blocks.proofs.BuddyFrames.{length-set_of, takes_frames, gives_frames, kept_less, kept_more}
use Rattle.zone_blocks.proofs.Halves.{double, next_aligned, Halving, HasBuddyAt, has_buddy}

-- ---- the enclosing block is the block and its buddy

both_cover : (b : Block) (x f : ℕ) → HasBuddyAt b x → Covers (enclosing b) f → Covers b f ⊎ Covers (block_at x b.order) f
both_cover b x f h c =
    let d = double b.order in
    let from = c.from in
    let before = c.before in
    elim h.placed [
      | inl p ↦ elim (cases_lt f (b.at + 2 ^ b.order)) [
        | inl lt ↦ inl record { from = omega (arith, p.1); before = lt }
        | inr ge ↦ inr record { from = omega (arith, p.0); before = omega (arith, d, p.0, p.1) }
      ]
      | inr p ↦ elim (cases_lt f b.at) [
        | inl lt ↦ inr record { from = omega (arith, p.1); before = omega (arith, p.0) }
        | inr ge ↦ inl record { from = ge; before = omega (arith, d, p.0, p.1) }
      ]
    ]

block_enclosed : (b : Block) (x f : ℕ) → HasBuddyAt b x → Covers b f → Covers (enclosing b) f
block_enclosed b x f h c =
    let d = double b.order in
    let from = c.from in
    let before = c.before in
    elim h.placed [
      | inl p ↦ record { from = omega (arith, p.1); before = omega (arith, d, p.1) }
      | inr p ↦ record { from = omega (arith, p.0, p.1); before = omega (arith, d, p.0, p.1) }
    ]

buddy_enclosed : (b : Block) (x f : ℕ) → HasBuddyAt b x → Covers (block_at x b.order) f → Covers (enclosing b) f
buddy_enclosed b x f h c =
    let d = double b.order in
    let from = c.from in
    let before = c.before in
    elim h.placed [
      | inl p ↦ record { from = omega (arith, p.0, p.1); before = omega (arith, d, p.0, p.1) }
      | inr p ↦ record { from = omega (arith, p.0, p.1); before = omega (arith, d, p.0, p.1) }
    ]

buddy_apart : (b : Block) (x f : ℕ) → HasBuddyAt b x → Covers b f → Covers (block_at x b.order) f → ⊥
buddy_apart b x f h c q =
    let from = c.from in
    let before = c.before in
    let from' = q.from in
    let before' = q.before in
    elim h.placed [
      | inl p ↦ absurd (omega (arith, p.0))
      | inr p ↦ absurd (omega (arith, p.0))
    ]

-- the enclosing block ends no later than its halves
encloses_no_more : (n : ℕ) (b : Block) (x : ℕ) → HasBuddyAt b x → IsBlock n b → IsBlock n (block_at x b.order) → (enclosing b).at + 2 ^ (b.order + 1) ≤ n
encloses_no_more n b x h hb hx =
    let d = double b.order in
    let i = hb.inside in
    let j = hx.inside in
    elim h.placed [
      | inl p ↦ omega (arith, d, p.0, p.1)
      | inr p ↦ omega (arith, d, p.0, p.1)
    ]

-- ---- one merging

-- the free frames and a block's are together those of another set and block
pub record SameUnion (a : List Bool) (b : Block) (c : List Bool) (d : Block) : Type 0 where
  pub same_length : length a ≡ length c
  pub to : (f : ℕ) → IsFree a f ⊎ Covers b f → IsFree c f ⊎ Covers d f
  pub from : (f : ℕ) → IsFree c f ⊎ Covers d f → IsFree a f ⊎ Covers b f

merged : (old new : FreeBlocks) (m : Block) (x : ℕ) → HasBuddyAt m x → Halving old m.at m.order → m.order < 10 → Contains old.blocks (block_at x m.order)
    → RemovesBlock old.blocks (block_at x m.order) new.blocks → new.frames ≡ old.frames
    → Halving new (enclosing m).at (m.order + 1) × ((a : List Bool) (b : Block) → SameUnion a b (free_set_of old) m → SameUnion a b (free_set_of new) (enclosing m))
merged old new m x hx h below there removes same =
    let w : Block = block_at x m.order in
    let taken = takes_frames old new w h.kept.maximal there removes same in
    let hw = (h.kept.maximal.each w there).is_free in
    let wb : IsBlock old.frames w = rw (length-set_of old) at hw.block in
    let end = encloses_no_more old.frames m x hx h.block wb in
    let in_use : (f : ℕ) → Covers (enclosing m) f → ¬ IsFree (free_set_of new) f = λ f c is.
    elim (both_cover m x f hx c) [
      | inl p ↦ h.in_use f p (subset (free_set_of old) (free_set_of new) w taken f is)
      | inr p ↦ taken.in_use f p is
    ] in (
      record {
        kept = kept_less old new w h.kept there removes same;
        block = rw same record { order = omega arith; aligned = start_aligned m.at (2 ^ (m.order + 1)); inside = end };
        in_use = in_use;
      },
      λ a b u. record {
        same_length = u.same_length ∙ sym taken.same_length;
        to = λ f z. elim (u.to f z) [
          | inl is ↦ elim (decide_covers w f) [
            | inl c ↦ inr (buddy_enclosed m x f hx c)
            | inr out ↦ inl ((taken.others f out).1 is)
          ]
          | inr c ↦ inr (block_enclosed m x f hx c)
        ];
        from = λ f z. u.from f (elim z [
          | inl is ↦ inl (subset (free_set_of old) (free_set_of new) w taken f is)
          | inr c ↦ elim (both_cover m x f hx c) [
            | inl p ↦ inr p
            | inr p ↦ inl (hw.all_free f p)
          ]
        ]);
      },
    )

pub merge_step : (old new : FreeBlocks) (m larger : Block) → Halving old m.at m.order → TakesBuddy old m new larger
    → Halving new larger.at larger.order × ((a : List Bool) (b : Block) → SameUnion a b (free_set_of old) m → SameUnion a b (free_set_of new) larger)
merge_step old new m larger h t =
    let r = has_buddy old.frames m h.block in
    let C : Block → Type 0 = λ z. Contains old.blocks z in
    let R : Block → Type 0 = λ z. RemovesBlock old.blocks z new.blocks in
    let P : Block → Type 0 = λ z. Halving new z.at z.order × ((a : List Bool) (b : Block) → SameUnion a b (free_set_of old) m → SameUnion a b (free_set_of new) z) in
    subst P (sym t.larger_is)
    (merged old new m r.0 r.1 h t.order_below (subst C r.1.buddy_is t.there) (subst R r.1.buddy_is t.taken) t.same_frames)

-- ---- the last block is put in

buddy_aligned : (n : ℕ) (b : Block) (x : ℕ) → HasBuddyAt b x → IsBlock n b → x % 2 ^ b.order ≡ 0
buddy_aligned n b x h block =
    elim h.placed [
      | inl p ↦ rw p.0 (next_aligned b.at (2 ^ b.order) block.aligned)
      | inr p ↦ let e = add-mod_right x (2 ^ b.order) in sym (rw p.0 at e) ∙ block.aligned
    ]

buddy_ends : (n : ℕ) (b : Block) (x : ℕ) → HasBuddyAt b x → (enclosing b).at + 2 ^ (b.order + 1) ≤ n → x + 2 ^ b.order ≤ n
buddy_ends n b x h end =
    let d = double b.order in
    elim h.placed [
      | inl p ↦ omega (arith, d, p.0, p.1, end)
      | inr p ↦ omega (arith, d, p.0, p.1, end)
    ]

-- the block that encloses the buddy encloses the block too
buddy_encloses : (b : Block) (x : ℕ) → HasBuddyAt b x → Covers (enclosing (block_at x b.order)) b.at
buddy_encloses b x h =
    let d = double b.order in
    let pos = pow_pos b.order in
    let start : ℕ = (enclosing b).at in
    let aligned = start_aligned b.at (2 ^ (b.order + 1)) in
    elim h.placed [
      | inl p ↦
          let e = start_is start (2 ^ (b.order + 1)) x (pow_pos (b.order + 1)) aligned (omega (arith, p.0, p.1)) (omega (arith, d, p.0, p.1)) in
          record { from = omega (arith, e, p.1); before = omega (arith, e, d, p.1) }
      | inr p ↦
          let e = start_is start (2 ^ (b.order + 1)) x (pow_pos (b.order + 1)) aligned (omega (arith, p.1)) (omega (arith, d, p.1)) in
          record { from = omega (arith, e, p.0, p.1); before = omega (arith, e, d, p.0, p.1) }
    ]

alone : (old new : FreeBlocks) (m : Block) (x : ℕ) → HasBuddyAt m x → Halving old m.at m.order → ¬ Contains old.blocks (block_at x m.order)
    → GivesFrames (free_set_of old) m (free_set_of new) → new.frames ≡ old.frames → IsFreeBlock (free_set_of new) (enclosing m) → ⊥
alone old new m x hx h none given same g =
    let w : Block = block_at x m.order in
    let d = double m.order in
    let end = g.block.inside in
    let end' = rw (length-set_of new, same) at end in
    let order = h.block.order in
    let all_free : (f : ℕ) → Covers w f → IsFree (free_set_of old) f = λ f c.
    (given.others f (λ q. buddy_apart m x f hx q c)).1 (g.all_free f (buddy_enclosed m x f hx c)) in
    none (h.kept.maximal.all w record {
      is_free = record {
        block = record {
          order = order;
          aligned = buddy_aligned old.frames m x hx h.block;
          inside = rw (length-set_of old) (buddy_ends old.frames m x hx end');
        };
        all_free = all_free;
      };
      maximal = λ k. h.in_use m.at (covers_start m) (k.all_free m.at (buddy_encloses m x hx));
    })

pub last_kept : (old new : FreeBlocks) (m : Block) → Halving old m.at m.order
    → (m.order ≡ 10) ⊎ (¬ Contains old.blocks (buddy m)) → Inserts old.blocks m new.blocks
    → new.frames ≡ old.frames → AreSoundAreas new
last_kept old new m h none inserts same =
    let given = gives_frames old new m inserts h.block h.in_use same in
    kept_more old new m h.kept inserts h.block h.in_use same (λ g. elim none [
      | inl top ↦ let o = g.block.order in absurd (omega arith)
      | inr missing ↦
          let r = has_buddy old.frames m h.block in
          let C : Block → Type 0 = λ z. ¬ Contains old.blocks z in
          alone old new m r.0 r.1 h (subst C r.1.buddy_is missing) given same g
    ])

pub last_given : (a : List Bool) (b : Block) (old new : FreeBlocks) (m : Block) → ((f : ℕ) → Covers b f → ¬ IsFree a f) → SameUnion a b (free_set_of old) m
    → Halving old m.at m.order → Inserts old.blocks m new.blocks → new.frames ≡ old.frames → GivesFrames a b (free_set_of new)
last_given a b old new m in_use u h inserts same =
    let given = gives_frames old new m inserts h.block h.in_use same in
    let free_now : (f : ℕ) → IsFree (free_set_of old) f ⊎ Covers m f → IsFree (free_set_of new) f = λ f z. elim z [
      | inl is ↦ subset (free_set_of new) (free_set_of old) m given f is
      | inr c ↦ given.were_free f c
    ] in
    record {
      same_length = u.same_length ∙ given.same_length;
      were_free = λ f c. free_now f (u.to f (inr c));
      in_use = in_use;
      others = λ f out. (
        λ is. free_now f (u.to f (inl is)),
        λ is.
            let was : IsFree (free_set_of old) f ⊎ Covers m f = elim (decide_covers m f) [
              | inl c ↦ inr c
              | inr not ↦ inl ((given.others f not).1 is)
            ] in
            elim (u.from f was) [
              | inl is ↦ is
              | inr c ↦ absurd (out c)
            ],
      );
    }

-- ---- the buddy as the bit of the pair tells it

-- a block in use is not there
pub not_there : (a : FreeBlocks) (m : Block) → Halving a m.at m.order → Contains a.blocks m → ⊥
not_there a m h q = h.in_use m.at (covers_start m) ((h.kept.maximal.each m q).is_free.all_free m.at (covers_start m))

-- without a bit there is no buddy to merge with
pub no_bit : (a : FreeBlocks) (m : Block) → AreSoundAreas a → IsBlock a.frames m → ¬ HasPairBit a.frames m → HasNoBuddy a m a
no_bit a m kept block none = record {
  same = refl;
  none = let order = block.order in elim (cases_lt m.order 10) [
    | inl below ↦ inr (λ q. none record { order = below; block = block; buddy_too = rw (length-set_of a) at (kept.maximal.each (buddy m) q).is_free.block })
    | inr top ↦ inl (omega arith)
  ];
}

-- where the bit is 1 it is the buddy that is there
pub bit_is_one : (a : FreeBlocks) (m : Block) → ¬ Contains a.blocks m → IsOneOfPair a.blocks m → Contains a.blocks (buddy m)
bit_is_one a m alone (inl p) = absurd (alone p.0)
bit_is_one a m alone (inr p) = p.1

pub buddy_taken : (old new : FreeBlocks) (m other : Block) (next low : ℕ) → IsBlock old.frames m → other ≡ buddy m
    → next ≡ m.order + 1 → next ≤ 10 → low ≡ min m.at other.at
    → Contains old.blocks (buddy m) → RemovesBlock old.blocks other new.blocks → new.frames ≡ old.frames → TakesBuddy old m new (block_at low next)
buddy_taken old new m other next low block is en below el there removes same =
    let r = has_buddy old.frames m block in
    let address : Block → ℕ = λ z. z.at in
    let e = ap address (is ∙ r.1.buddy_is) in
    let start : low ≡ (enclosing m).at = elim r.1.placed [
      | inl p ↦ let d = pow_pos m.order in omega (arith, el, e, p.0, p.1)
      | inr p ↦ let d = pow_pos m.order in omega (arith, el, e, p.0, p.1)
    ] in
    let R : Block → Type 0 = λ z. RemovesBlock old.blocks z new.blocks in
    record {
      there = there;
      order_below = omega arith;
      same_frames = same;
      taken = subst R is removes;
      larger_is = same_block (block_at low next) (enclosing m) start en;
    }

-- ---- the same where the last look left the areas as they were

pub halving_same : (old mid : FreeBlocks) (m : Block) → HasNoBuddy old m mid → Halving old m.at m.order → Halving mid m.at m.order
halving_same old mid m none h = let P : FreeBlocks → Type 0 = λ a. Halving a m.at m.order in subst P (sym none.same) h

pub union_same : (a : List Bool) (b : Block) (old mid : FreeBlocks) (m : Block) → HasNoBuddy old m mid
    → SameUnion a b (free_set_of old) m → SameUnion a b (free_set_of mid) m
union_same a b old mid m none u = let P : FreeBlocks → Type 0 = λ x. SameUnion a b (free_set_of x) m in subst P (sym none.same) u

pub none_same : (old mid : FreeBlocks) (m : Block) → HasNoBuddy old m mid → (m.order ≡ 10) ⊎ (¬ Contains mid.blocks (buddy m))
none_same old mid m none = let P : FreeBlocks → Type 0 = λ x. (m.order ≡ 10) ⊎ (¬ Contains x.blocks (buddy m)) in subst P (sym none.same) none.none
