-- Serves `write_show`: the groups that the frames are charged to are there.
use Rattle.std.proofs.Common.{◌≡◌, ℕ, ◌<◌, true, List, length, get_or, refl, ap, sym, ◌∙◌, arith}
use Rattle.std.proofs.lemmas.List.{get_or_default}
use Rattle.group_tree.specs.declared.group.Group.{Group}
use Rattle.group_tree.specs.Groups.{has_group}
use Rattle.group_charge.specs.Charges.{AreCharges}
use Rattle.boot_words.specs.Tables.{KnownTable}
use Rattle.mem_machine.specs.declared.frame_state.FrameState.{FrameState}
use Rattle.mem_machine.specs.declared.frame_state.FrameState.TheVariants as frame_state
use Rattle.mem_machine.specs.declared.frame_state.Place.{Place}
use Rattle.mem_machine.specs.declared.frame_state.Place.TheVariants.{Free, Lent, Charged}
use Rattle.mem_machine.specs.{place_of, KnownMachine, IsConsistent}
use Rattle.mem_machine.proofs.Keepers.{keeper_there}
use Rattle.machine_texts.specs.Places.{PlaceGroupExists, FrameGroupExists}

-- a place whose group, if there is one, is there
there_by : (groups : List Group) (p : Place) → ((g : ℕ) → p ≡ Charged g → has_group groups g ≡ true) → PlaceGroupExists groups p
there_by groups Free known = tt
there_by groups (Lent q) known = tt
there_by groups (Charged g) known = known g refl

pub frame_states_there : (t : KnownTable) (m : KnownMachine) → IsConsistent t m → AreCharges m.ledger
    → (k : ℕ) (d : FrameState) → k < length m.frame_states → FrameGroupExists m.ledger.groups (get_or m.frame_states k d)
frame_states_there t m good legal k d inside =
    let same : get_or m.frame_states k d ≡ get_or m.frame_states k frame_state.Free = get_or_default m.frame_states k d frame_state.Free inside in
    there_by m.ledger.groups (place_of (get_or m.frame_states k d)) λ g is.
    keeper_there t m k g good legal (let e : k < t.frames = omega (arith, good.sizes.frame_states) in e) (sym (ap place_of same) ∙ is)
