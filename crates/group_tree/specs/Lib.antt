pub mod Ancestors
pub mod Bounds
pub mod Events
pub mod Faults
pub mod Groups
pub mod Slots
pub mod Path
pub mod Room
pub mod Text
-- what other crates and the proofs import by one name, `Rattle.group_tree.specs`
pub use Rattle.group_tree.specs.Ancestors.{ancestors_from, ancestors_of, depth_at, is_in_subtree, is_passed, is_there}
pub use Rattle.group_tree.specs.Bounds.{most_groups, most_names}
pub use Rattle.group_tree.specs.Events.{EventCounts, all_keys, count_of, is_same_key, key_name, no_events, with_one_more}
pub use Rattle.group_tree.specs.Groups.{AreGroups, IsLeastFreeNumber, flagged, has_child, has_group, in_subtree, initial_groups, is_oom_group}
pub use Rattle.group_tree.specs.Groups.{limit_of, limited, make_fault, new_row, number_at, parent_of, path_of, room_of, with_group, with_limit, with_oom_group}
pub use Rattle.group_tree.specs.Groups.{without_group}
pub use Rattle.group_tree.specs.Slots.{AreSlots, free_slot, slot_at}
pub use Rattle.group_tree.specs.Path.{depth_of, is_root, is_well_formed}
pub use Rattle.group_tree.specs.Room.{IsLowestOver, PathHasRoom, at_group, fits_limit, has_room, max_count, on_path, one_more, peak_after}
