-- What a legal step says: each of the tests of `is_legal` holds.
use Rattle.std.proofs.Common.{◌≡◌, ℕ, ◌+◌, ◌^◌, ◌&&◌, ◌||◌, ◌==◌, Bool, true, Option, List, length}
use Rattle.std.specs.Prelude.{nat_le, nat_lt, not, is_none}
use Rattle.std.proofs.lemmas.Bool.{and_parts}
use Rattle.group_tree.specs.Groups.{has_group, has_child, make_fault}
use Rattle.step_rules.specs.declared.step.Action.TheVariants.{Lock, Unlock, OpenVisit, ShutVisit, Get, Put, Freeze, Unfreeze, PassOut, TakeIn, PassBack}
use Rattle.step_rules.specs.declared.step.Action.TheVariants.{Collect, Consume, Credit, Report, Absorb, Fill, DrainStock, Grant, Ungrant, PlaceBlock}
use Rattle.step_rules.specs.declared.step.Action.TheVariants.{Publish, Return, SetMax, SetFlag, Make, Remove, Kill}
use Rattle.step_rules.specs.Phases.{FreshFrame, is_free, is_head, has_as, passes_out, passes_back, is_head_in_hand, is_returnable}
use Rattle.step_rules.specs.State.{State, is_cpu, is_frame, is_unheld, is_held_by, visits, may_zone_act, pins_of}
use Rattle.step_rules.specs.Usage.{usage_of}
use Rattle.step_rules.specs.Legal.{is_legal, no_page_pends, no_frame_passes, nothing_passes, is_passable, takes_fill, is_removable}

and_two : (x y : Bool) → (x && y) ≡ true → (x ≡ true) × (y ≡ true)
and_two x y e = and_parts x y e

and_three : (x y z : Bool) → (x && y && z) ≡ true → (x ≡ true) × (y ≡ true) × (z ≡ true)
and_three x y z e =
    let both = and_parts (x && y) z e in
    let first = and_two x y both.0 in
    (first.0, first.1, both.1)

and_four : (x y z u : Bool) → (x && y && z && u) ≡ true → (x ≡ true) × (y ≡ true) × (z ≡ true) × (u ≡ true)
and_four x y z u e =
    let both = and_parts (x && y && z) u e in
    let first = and_three x y z both.0 in
    (first.0, first.1, first.2, both.1)

and_five : (x y z u v : Bool) → (x && y && z && u && v) ≡ true → (x ≡ true) × (y ≡ true) × (z ≡ true) × (u ≡ true) × (v ≡ true)
and_five x y z u v e =
    let both = and_parts (x && y && z && u) v e in
    let first = and_four x y z u both.0 in
    (first.0, first.1, first.2, first.3, both.1)

pub lock_tests : (s : State) (seat : ℕ) → is_legal s seat Lock ≡ true →
    (is_cpu s.zone seat ≡ true) × (is_unheld s.hold ≡ true)
lock_tests s seat e = and_two (is_cpu s.zone seat) (is_unheld s.hold) e

pub unlock_tests : (s : State) (seat : ℕ) → is_legal s seat Unlock ≡ true →
    (is_cpu s.zone seat ≡ true) × (is_held_by seat s.hold ≡ true) × (no_page_pends s ≡ true) × (no_frame_passes s ≡ true)
unlock_tests s seat e = and_four (is_cpu s.zone seat) (is_held_by seat s.hold) (no_page_pends s) (no_frame_passes s) e

pub open_visit_tests : (s : State) (seat p : ℕ) → is_legal s seat (OpenVisit p) ≡ true →
    (may_zone_act s.hold seat ≡ true) × (is_held_by p s.hold ≡ true)
open_visit_tests s seat p e = and_two (may_zone_act s.hold seat) (is_held_by p s.hold) e

pub shut_visit_tests : (s : State) (seat p : ℕ) → is_legal s seat (ShutVisit p) ≡ true →
    (may_zone_act s.hold seat ≡ true) × (visits p s.hold ≡ true) × (nothing_passes s p ≡ true) × (((s.parts p).unreported == 0) ≡ true) × (((s.parts p).reported == 0) ≡ true)
shut_visit_tests s seat p e = and_five (may_zone_act s.hold seat) (visits p s.hold) (nothing_passes s p) ((s.parts p).unreported == 0) ((s.parts p).reported == 0) e

pub get_tests : (s : State) (seat f : ℕ) → is_legal s seat (Get f) ≡ true →
    (is_cpu s.zone seat ≡ true) × (is_frame s.zone f ≡ true) × (nat_lt (pins_of s seat + length (s.parts seat).back) 256 ≡ true)
get_tests s seat f e = and_three (is_cpu s.zone seat) (is_frame s.zone f) (nat_lt (pins_of s seat + length (s.parts seat).back) 256) e

pub put_tests : (s : State) (seat f : ℕ) → is_legal s seat (Put f) ≡ true →
    ((is_cpu s.zone seat || may_zone_act s.hold seat) ≡ true) × (is_frame s.zone f ≡ true) × (nat_le 1 (s.references seat f) ≡ true)
put_tests s seat f e = and_three (is_cpu s.zone seat || may_zone_act s.hold seat) (is_frame s.zone f) (nat_le 1 (s.references seat f)) e

pub freeze_tests : (s : State) (seat f n : ℕ) → is_legal s seat (Freeze f n) ≡ true →
    (may_zone_act s.hold seat ≡ true) × (is_frame s.zone f ≡ true) × (nat_le 1 n ≡ true) × (nat_le n (s.references 0 f) ≡ true)
freeze_tests s seat f n e = and_four (may_zone_act s.hold seat) (is_frame s.zone f) (nat_le 1 n) (nat_le n (s.references 0 f)) e

pub unfreeze_tests : (s : State) (seat f n : ℕ) → is_legal s seat (Unfreeze f n) ≡ true →
    (may_zone_act s.hold seat ≡ true) × (is_frame s.zone f ≡ true) × (is_head_in_hand (s.phases f) ≡ true) × (nat_le 1 n ≡ true) × (nat_le n 255 ≡ true)
unfreeze_tests s seat f n e = and_five (may_zone_act s.hold seat) (is_frame s.zone f) (is_head_in_hand (s.phases f)) (nat_le 1 n) (nat_le n 255) e

pub pass_out_tests : (s : State) (seat f p : ℕ) → is_legal s seat (PassOut f p) ≡ true →
    (may_zone_act s.hold seat ≡ true) × (is_frame s.zone f ≡ true) × (visits p s.hold ≡ true) × (is_free (s.phases f) ≡ true)
pass_out_tests s seat f p e = and_four (may_zone_act s.hold seat) (is_frame s.zone f) (visits p s.hold) (is_free (s.phases f)) e

pub take_in_tests : (s : State) (seat f : ℕ) → is_legal s seat (TakeIn f) ≡ true →
    (is_cpu s.zone seat ≡ true) × (is_frame s.zone f ≡ true) × (passes_out seat (s.phases f) ≡ true)
take_in_tests s seat f e = and_three (is_cpu s.zone seat) (is_frame s.zone f) (passes_out seat (s.phases f)) e

pub pass_back_tests : (s : State) (seat f : ℕ) → is_legal s seat (PassBack f) ≡ true →
    (is_cpu s.zone seat ≡ true) × (is_frame s.zone f ≡ true) × (visits seat s.hold ≡ true) × (is_passable s seat f ≡ true)
pass_back_tests s seat f e = and_four (is_cpu s.zone seat) (is_frame s.zone f) (visits seat s.hold) (is_passable s seat f) e

pub collect_tests : (s : State) (seat f p : ℕ) → is_legal s seat (Collect f p) ≡ true →
    (may_zone_act s.hold seat ≡ true) × (is_frame s.zone f ≡ true) × (is_cpu s.zone p ≡ true) × (passes_back p (s.phases f) ≡ true)
collect_tests s seat f p e = and_four (may_zone_act s.hold seat) (is_frame s.zone f) (is_cpu s.zone p) (passes_back p (s.phases f)) e

pub consume_tests : (s : State) (seat g : ℕ) → is_legal s seat (Consume g) ≡ true →
    (is_cpu s.zone seat ≡ true) × (nat_le 1 (length (s.parts seat).list) ≡ true) × (nat_lt (length (s.parts seat).fresh) 32 ≡ true)
consume_tests s seat g e = and_three (is_cpu s.zone seat) (nat_le 1 (length (s.parts seat).list)) (nat_lt (length (s.parts seat).fresh) 32) e

pub credit_tests : (s : State) (seat f : ℕ) → is_legal s seat (Credit f) ≡ true →
    (is_cpu s.zone seat ≡ true) × (is_frame s.zone f ≡ true) × (has_as FreshFrame seat (s.phases f) ≡ true)
credit_tests s seat f e = and_three (is_cpu s.zone seat) (is_frame s.zone f) (has_as FreshFrame seat (s.phases f)) e

pub report_tests : (s : State) (seat n : ℕ) → is_legal s seat (Report n) ≡ true →
    (is_cpu s.zone seat ≡ true) × (visits seat s.hold ≡ true) × (nat_le n (s.parts seat).unreported ≡ true)
report_tests s seat n e = and_three (is_cpu s.zone seat) (visits seat s.hold) (nat_le n (s.parts seat).unreported) e

pub absorb_tests : (s : State) (seat p : ℕ) → is_legal s seat (Absorb p) ≡ true →
    (may_zone_act s.hold seat ≡ true) × (visits p s.hold ≡ true)
absorb_tests s seat p e = and_two (may_zone_act s.hold seat) (visits p s.hold) e

pub fill_tests : (s : State) (seat p g n : ℕ) → is_legal s seat (Fill p g n) ≡ true →
    (may_zone_act s.hold seat ≡ true) × (visits p s.hold ≡ true) × (has_group s.groups g ≡ true) × (takes_fill (s.parts p) g ≡ true) × (nat_le n (s.pending g) ≡ true)
fill_tests s seat p g n e = and_five (may_zone_act s.hold seat) (visits p s.hold) (has_group s.groups g) (takes_fill (s.parts p) g) (nat_le n (s.pending g)) e

pub drain_stock_tests : (s : State) (seat p : ℕ) → is_legal s seat (DrainStock p) ≡ true →
    (may_zone_act s.hold seat ≡ true) × (is_cpu s.zone p ≡ true)
drain_stock_tests s seat p e = and_two (may_zone_act s.hold seat) (is_cpu s.zone p) e

pub grant_tests : (s : State) (seat g n : ℕ) → is_legal s seat (Grant g n) ≡ true →
    (may_zone_act s.hold seat ≡ true) × (has_group s.groups g ≡ true) × (not (s.killed g) ≡ true)
grant_tests s seat g n e = and_three (may_zone_act s.hold seat) (has_group s.groups g) (not (s.killed g)) e

pub ungrant_tests : (s : State) (seat g n : ℕ) → is_legal s seat (Ungrant g n) ≡ true →
    (may_zone_act s.hold seat ≡ true) × (has_group s.groups g ≡ true) × (nat_le n (s.pending g) ≡ true)
ungrant_tests s seat g n e = and_three (may_zone_act s.hold seat) (has_group s.groups g) (nat_le n (s.pending g)) e

pub place_block_tests : (s : State) (seat g k : ℕ) → is_legal s seat (PlaceBlock g k) ≡ true →
    (may_zone_act s.hold seat ≡ true) × (has_group s.groups g ≡ true) × (nat_le (2 ^ k) (s.pending g) ≡ true)
place_block_tests s seat g k e = and_three (may_zone_act s.hold seat) (has_group s.groups g) (nat_le (2 ^ k) (s.pending g)) e

pub publish_tests : (s : State) (seat f : ℕ) → is_legal s seat (Publish f) ≡ true →
    (may_zone_act s.hold seat ≡ true) × (is_frame s.zone f ≡ true) × (is_head (s.phases f) ≡ true) × (nat_le 1 (s.references 0 f) ≡ true)
publish_tests s seat f e = and_four (may_zone_act s.hold seat) (is_frame s.zone f) (is_head (s.phases f)) (nat_le 1 (s.references 0 f)) e

pub return_tests : (s : State) (seat f : ℕ) → is_legal s seat (Return f) ≡ true →
    (may_zone_act s.hold seat ≡ true) × (is_frame s.zone f ≡ true) × (is_returnable s.killed (s.phases f) ≡ true)
return_tests s seat f e = and_three (may_zone_act s.hold seat) (is_frame s.zone f) (is_returnable s.killed (s.phases f)) e

pub set_max_tests : (s : State) (seat g : ℕ) (limit : Option ℕ) → is_legal s seat (SetMax g limit) ≡ true →
    (may_zone_act s.hold seat ≡ true) × (has_group s.groups g ≡ true) × ((not (g == 0)) ≡ true)
set_max_tests s seat g limit e = and_three (may_zone_act s.hold seat) (has_group s.groups g) (not (g == 0)) e

pub set_flag_tests : (s : State) (seat g : ℕ) (flag : Bool) → is_legal s seat (SetFlag g flag) ≡ true →
    (may_zone_act s.hold seat ≡ true) × (has_group s.groups g ≡ true) × ((not (g == 0)) ≡ true)
set_flag_tests s seat g flag e = and_three (may_zone_act s.hold seat) (has_group s.groups g) (not (g == 0)) e

pub make_tests : (s : State) (seat : ℕ) (path : List ℕ) → is_legal s seat (Make path) ≡ true →
    (may_zone_act s.hold seat ≡ true) × (is_none (make_fault s.groups path) ≡ true)
make_tests s seat path e = and_two (may_zone_act s.hold seat) (is_none (make_fault s.groups path)) e

pub remove_tests : (s : State) (seat g : ℕ) → is_legal s seat (Remove g) ≡ true →
    (may_zone_act s.hold seat ≡ true) × (is_removable s g ≡ true)
remove_tests s seat g e = and_two (may_zone_act s.hold seat) (is_removable s g) e

pub kill_tests : (s : State) (seat g : ℕ) → is_legal s seat (Kill g) ≡ true →
    (may_zone_act s.hold seat ≡ true) × (has_group s.groups g ≡ true) × (not (s.killed g) ≡ true)
kill_tests s seat g e = and_three (may_zone_act s.hold seat) (has_group s.groups g) (not (s.killed g)) e

pub removable_tests : (s : State) (g : ℕ) → is_removable s g ≡ true →
    (has_group s.groups g ≡ true) × (not (g == 0) ≡ true) × (not (has_child s.groups g) ≡ true) × ((usage_of s g == 0) ≡ true)
removable_tests s g e = and_four (has_group s.groups g) (not (g == 0)) (not (has_child s.groups g)) (usage_of s g == 0) e
