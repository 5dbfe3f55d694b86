-- The kinds of event that are counted (the keys of memory.events, cgroup-v2.rst), and counts by kind.
use Rattle.std.specs.Prelude.{ℕ, ◌==◌, Bool, List, [], ◌∷◌, map, if◌then◌else◌, codes}
use Rattle.std.specs.List.{slice_index_or}
use Rattle.group_tree.specs.declared.event.EventKey.TheVariants.{Low, High, Max, Oom, OomKill, OomGroupKill}
use Rattle.group_tree.specs.Room.{one_more}
-- a third pass freed pages of a group of which memory.low protects more than memory.min; a charge was about to exceed
-- memory.high, or the limit; reclaim could not keep the limit; a group was killed; a group was killed as a whole
pub use Rattle.group_tree.specs.declared.event.EventKey.{EventKey}

-- all keys, in the order of the lines of memory.events
abbrev pub all_keys : List EventKey
all_keys = Low ∷ High ∷ Max ∷ Oom ∷ OomKill ∷ OomGroupKill ∷ []

-- the index of a key among all keys
abbrev pub key_index : EventKey → ℕ
key_index Low = 0
key_index High = 1
key_index Max = 2
key_index Oom = 3
key_index OomKill = 4
key_index OomGroupKill = 5

-- the key, as memory.events writes it
abbrev pub key_name : EventKey → List ℕ
key_name Low = codes "low"
key_name High = codes "high"
key_name Max = codes "max"
key_name Oom = codes "oom"
key_name OomKill = codes "oom_kill"
key_name OomGroupKill = codes "oom_group_kill"

-- both are the same key
abbrev pub is_same_key : EventKey → EventKey → Bool
is_same_key j k = key_index j == key_index k

-- counts of events: one for each key, in the order of `all_keys`
abbrev pub EventCounts : Type 0
EventCounts = List ℕ

-- all counts are 0
abbrev pub no_events : EventCounts
no_events = map (λ key. 0) all_keys

-- how often events of this kind happened
unfoldable pub count_of : EventCounts → EventKey → ℕ
count_of counts key = slice_index_or counts (key_index key) 0

-- the counts with one more event of this kind; the other counts stay
unfoldable pub with_one_more : EventKey → EventCounts → EventCounts
with_one_more kind counts =
    map (λ key. if is_same_key key kind then one_more (count_of counts key) else count_of counts key) all_keys
