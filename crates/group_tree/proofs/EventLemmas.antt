-- Counts of events by key. Serves `EventCounts`, and crates above.
use Rattle.std.proofs.Common.{◌≡◌, ℕ, refl, if◌then◌else◌, ap, ◌∙◌, get_or, set, List, [], ◌∷◌, length, arith}
use Rattle.group_tree.specs.declared.event.EventKey.TheVariants.{Low, High, Max, Oom, OomKill, OomGroupKill}
use Rattle.group_tree.specs.Events.{EventKey, EventCounts, key_index, is_same_key, no_events, count_of, with_one_more}
use Rattle.group_tree.specs.Room.{one_more}

-- one more event of a kind: its count is one more, and each other count stays
pub counted : (kind key : EventKey) (counts : EventCounts) →
    count_of (with_one_more kind counts) key ≡ (if is_same_key key kind then one_more (count_of counts key) else count_of counts key)
unfolding count_of with_one_more
counted kind Low counts = refl
counted kind High counts = refl
counted kind Max counts = refl
counted kind Oom counts = refl
counted kind OomKill counts = refl
counted kind OomGroupKill counts = refl

-- at first each count is 0
pub none_counted : (key : EventKey) → count_of no_events key ≡ 0
unfolding count_of
none_counted Low = refl
none_counted High = refl
none_counted Max = refl
none_counted Oom = refl
none_counted OomKill = refl
none_counted OomGroupKill = refl

-- what one more event writes
six_cells : (kind : EventKey) (a b x y z w d more : ℕ) → more ≡ one_more (get_or (a ∷ b ∷ x ∷ y ∷ z ∷ w ∷ []) (key_index kind) d) →
    set (a ∷ b ∷ x ∷ y ∷ z ∷ w ∷ []) (key_index kind) more ≡ with_one_more kind (a ∷ b ∷ x ∷ y ∷ z ∷ w ∷ [])
unfolding count_of with_one_more
six_cells Low a b x y z w d more e = ap (λ m. m ∷ b ∷ x ∷ y ∷ z ∷ w ∷ []) e
six_cells High a b x y z w d more e = ap (λ m. a ∷ m ∷ x ∷ y ∷ z ∷ w ∷ []) e
six_cells Max a b x y z w d more e = ap (λ m. a ∷ b ∷ m ∷ y ∷ z ∷ w ∷ []) e
six_cells Oom a b x y z w d more e = ap (λ m. a ∷ b ∷ x ∷ m ∷ z ∷ w ∷ []) e
six_cells OomKill a b x y z w d more e = ap (λ m. a ∷ b ∷ x ∷ y ∷ m ∷ w ∷ []) e
six_cells OomGroupKill a b x y z w d more e = ap (λ m. a ∷ b ∷ x ∷ y ∷ z ∷ m ∷ []) e

pub set_count : (kind : EventKey) (counts : List ℕ) (index d more : ℕ) → length counts ≡ 6 → index ≡ key_index kind →
    more ≡ one_more (get_or counts index d) → set counts index more ≡ with_one_more kind counts
set_count kind [] index d more size at e = absurd (omega arith)
set_count kind (a ∷ []) index d more size at e = absurd (omega arith)
set_count kind (a ∷ b ∷ []) index d more size at e = absurd (omega arith)
set_count kind (a ∷ b ∷ x ∷ []) index d more size at e = absurd (omega arith)
set_count kind (a ∷ b ∷ x ∷ y ∷ []) index d more size at e = absurd (omega arith)
set_count kind (a ∷ b ∷ x ∷ y ∷ z ∷ []) index d more size at e = absurd (omega arith)
set_count kind (a ∷ b ∷ x ∷ y ∷ z ∷ w ∷ []) index d more size at e =
    ap (λ i. set (a ∷ b ∷ x ∷ y ∷ z ∷ w ∷ []) i more) at
    ∙ six_cells kind a b x y z w d more (e ∙ ap (λ i. one_more (get_or (a ∷ b ∷ x ∷ y ∷ z ∷ w ∷ []) i d)) at)
set_count kind (a ∷ b ∷ x ∷ y ∷ z ∷ w ∷ more_than_six ∷ rest) index d more size at e = absurd (omega arith)

-- ---- the test of keys
