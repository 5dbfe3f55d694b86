-- Steps that place a block, return a unit, move pages, or change who holds the lock keep what holds of the state.
use Rattle.std.proofs.Common.{◌≡◌, ℕ, ◌+◌, ◌-◌, ◌^◌, ◌<◌, ◌≤◌, ◌&&◌, ◌||◌, ◌==◌, Bool, true, false, Option, Some, None, List, [], ◌∷◌}
use Rattle.std.proofs.Common.{length, refl, sym, ◌∙◌, ap, subst, arith, rules, inl, inr, cond, eq-eqb}
use Rattle.std.specs.Prelude.{◌⊎◌, nat_le, nat_lt, not}
use Rattle.std.proofs.lemmas.Bool.{cases_eq, cases_lt, cases_Bool, ne_eqb, false≢true, true≢false, and_parts, leb-true, ltb-true, le-leb, lt-ltb, or_cases}
use Rattle.std.proofs.lemmas.List.FromFn.{get_or-map-range_with_len, length-map-range_with_len}
use Rattle.zone_blocks.specs.declared.block.Block.{Block}
use Rattle.zone_blocks.specs.Areas.{IsFreeBlock, IsFree}
use Rattle.step_rules.specs.declared.phase.Hold.{Hold}
use Rattle.step_rules.specs.declared.phase.Hold.TheVariants.{Visiting}
use Rattle.step_rules.specs.declared.phase.ChargedUnit.{ChargedUnit}
use Rattle.step_rules.specs.declared.phase.Stage.{Stage}
use Rattle.step_rules.specs.declared.phase.Stage.TheVariants.{FreshAt, Bare}
use Rattle.step_rules.specs.declared.phase.Phase.{Phase}
use Rattle.step_rules.specs.declared.phase.Phase.TheVariants.{InZone, Lent, Head, Tail}
use Rattle.step_rules.specs.Phases.{FreshFrame, is_live_phase, is_free, has_as, unit_of, passes_out, passes_back}
use Rattle.step_rules.specs.State.{Zone, Part, State, with_at, one_if, frames_of, free_in, times}
use Rattle.step_rules.specs.Legal.{nothing_passes, rests, takes_fill, is_of_group}
use Rattle.step_rules.specs.After.{is_within, placed_phase, with_block, unit_size, without_unit, filled, drained}
use Rattle.step_rules.specs.Invariant.{PhasePaid, FrameFits, groups_in, HaveTails, StateInvariant, KeepsInvariant}
use Rattle.step_rules.proofs.Basics.{at_other}
use Rattle.step_rules.proofs.Sums.{all_at}
use Rattle.step_rules.proofs.Sound.{sound_part, sound_numbers, same_groups}
use Rattle.step_rules.proofs.PhaseLemmas.{by_kind, is_quiet, is_quiet_stage, nobody_has, free_rests, none_some, equal_test, same_visitor}

quiet_rests : (x : Phase) → is_quiet x ≡ true → (q : ℕ) → (passes_out q x ≡ false) × (passes_back q x ≡ false)
quiet_rests (Head u Bare) e q = (refl, refl)
quiet_rests x e q = search rules

quiet_dead : (x : Phase) → is_quiet x ≡ true → is_live_phase x ≡ false
quiet_dead (Head u Bare) e = refl
quiet_dead x e = search rules

quiet_paid : (cpus : ℕ) (groups : ℕ → Option ℕ) (x : Phase) → is_quiet x ≡ true → PhasePaid cpus groups x
quiet_paid cpus groups (Head u Bare) e = tt
quiet_paid cpus groups x e = search rules

-- one phase gives way to another, and no CPU has either
pub record IsQuietly (zone : Zone) (f : ℕ) (x y : Phase) : Type 0 where
  pub before : is_quiet x ≡ true
  pub after : is_quiet y ≡ true
  pub inside : zone.frames ≤ f → is_free y ≡ true

quiet_fits : (zone : Zone) (hold : Hold) (groups : ℕ → Option ℕ) (references : ℕ → ℕ) (f : ℕ) (x y : Phase) → IsQuietly zone f x y →
    FrameFits zone hold groups references f x → FrameFits zone hold groups references f y
quiet_fits zone hold groups references f x y quiet old = record {
  out = λ q e. absurd (false≢true (sym (quiet_rests y quiet.after q).0 ∙ e));
  returning = λ q e. absurd (false≢true (sym (quiet_rests y quiet.after q).1 ∙ e));
  unreferred = λ dead. old.unreferred (quiet_dead x quiet.before);
  seats = old.seats;
  paid = quiet_paid zone.cpus groups y quiet.after;
  inside = quiet.inside;
}

-- phases change quietly
pub sound_quiet : (zone : Zone) (hold : Hold) (phases later : ℕ → Phase) (references : ℕ → ℕ → ℕ) (parts : ℕ → Part) → StateInvariant zone hold phases references parts →
    ((f : ℕ) → (later f ≡ phases f) ⊎ IsQuietly zone f (phases f) (later f)) → HaveTails later → StateInvariant zone hold later references parts
sound_quiet zone hold phases later references parts s each units = record {
  frames = λ f. elim (each f) [
    | inl same ↦ subst (λ (x : Phase). FrameFits zone hold (groups_in parts) (λ seat. references seat f) f x) (sym same) (s.frames f)
    | inr quiet ↦ quiet_fits zone hold (groups_in parts) (λ seat. references seat f) f (phases f) (later f) quiet (s.frames f)
  ];
  lists = λ q kind f. s.lists q kind f ∙ ap one_if (elim (each f) [
    | inl same ↦ ap (has_as kind q) (sym same)
    | inr quiet ↦ nobody_has (phases f) quiet.before q kind ∙ sym (nobody_has (later f) quiet.after q kind)
  ]);
  units = units;
  booked = s.booked;
}

free_quiet : (x : Phase) → is_free x ≡ true → is_quiet x ≡ true
free_quiet InZone e = refl
free_quiet x e = absurd (false≢true e)

-- the frame is one of so many from this one on, or it isn't
pub within_cases : (at n f : ℕ) → ((is_within at n f ≡ true) × (at ≤ f) × (f < at + n)) ⊎ ((is_within at n f ≡ false) × ((at ≤ f → f < at + n → ⊥)))
within_cases at n f =
    elim (cases_Bool (is_within at n f)) [
      | inl e ↦ let both = and_parts (nat_le at f) (nat_lt f (at + n)) e in inl (e, leb-true at f both.0, ltb-true f (at + n) both.1)
      | inr e ↦ inr (e, λ low high. true≢false (sym (inside low high) ∙ e))
    ]
  where
    inside : at ≤ f → f < at + n → is_within at n f ≡ true
    inside low high = rw (le-leb at f low, lt-ltb f (at + n) high)

-- a free frame of the set is one in the free areas
pub free_in_at : (zone : Zone) (phases : ℕ → Phase) (f : ℕ) → f < zone.frames → IsFree (free_in zone phases) f → is_free (phases f) ≡ true
free_in_at zone phases f below e = sym (get_or-map-range_with_len (λ x. is_free (phases x)) 0 zone.frames f f false below (omega arith)) ∙ e

pub block_free : (zone : Zone) (phases : ℕ → Phase) (b : Block) → IsFreeBlock (free_in zone phases) b → (x : ℕ) → b.at ≤ x → x < b.at + 2 ^ b.order →
    (x < zone.frames) × (is_free (phases x) ≡ true)
block_free zone phases b free x low high =
    let size : length (free_in zone phases) ≡ zone.frames = length-map-range_with_len (λ f. is_free (phases f)) 0 zone.frames in
    let inside = free.block.inside in
    let below : x < zone.frames = omega arith in
    (below, free_in_at zone phases x below (free.all_free x (record { from = low; before = high })))

placed_quiet : (g : ℕ) (b : Block) (x : ℕ) → is_quiet (placed_phase g b x) ≡ true
placed_quiet g b x = placed (x == b.at)
  where
    placed : (t : Bool) → is_quiet (cond t (Head (record { group = g; order = b.order }) Bare) (Tail g)) ≡ true
    placed true = refl
    placed false = refl

pub in_block : (phases : ℕ → Phase) (g : ℕ) (b : Block) (x : ℕ) → is_within b.at (2 ^ b.order) x ≡ true → with_block phases g b x ≡ placed_phase g b x
in_block phases g b x e = rw e

pub off_block : (phases : ℕ → Phase) (g : ℕ) (b : Block) (x : ℕ) → is_within b.at (2 ^ b.order) x ≡ false → with_block phases g b x ≡ phases x
off_block phases g b x e = rw e

placed_head : (g : ℕ) (b : Block) (x : ℕ) (u : ChargedUnit) → unit_of (placed_phase g b x) ≡ Some u → (x ≡ b.at) × (u ≡ record { group = g; order = b.order })
placed_head g b x u e =
    elim (cases_eq x b.at) [
      | inl at ↦ (at, (let f : unit_of (placed_phase g b x) ≡ Some (record { group = g; order = b.order }) = rw (eq-eqb x b.at at) in cc))
      | inr ne ↦ absurd (let f : unit_of (placed_phase g b x) ≡ None = rw (ne_eqb x b.at ne) in none_some u (sym f ∙ e))
    ]

placed_tail : (g : ℕ) (b : Block) (x : ℕ) → (x ≡ b.at → ⊥) → placed_phase g b x ≡ Tail g
placed_tail g b x ne = rw (ne_eqb x b.at ne)

placed_units : (phases : ℕ → Phase) (g : ℕ) (b : Block) → HaveTails phases →
    ((x : ℕ) → b.at ≤ x → x < b.at + 2 ^ b.order → is_free (phases x) ≡ true) → HaveTails (with_block phases g b)
placed_units phases g b units free f u is z low high =
    elim (within_cases b.at (2 ^ b.order) f) [
      | inl within ↦
          let head = placed_head g b f u (ap unit_of (sym (in_block phases g b f within.0)) ∙ is) in
          let size : u.order ≡ b.order = ap (λ (v : ChargedUnit). v.order) head.1 in
          let pow : 2 ^ u.order ≡ 2 ^ b.order = ap (λ k. 2 ^ k) size in
          let group : u.group ≡ g = ap (λ (v : ChargedUnit). v.group) head.1 in
          let at : f ≡ b.at = head.0 in
          elim (within_cases b.at (2 ^ b.order) z) [
            | inl inside ↦ in_block phases g b z inside.0 ∙ placed_tail g b z (λ e. absurd (omega arith)) ∙ ap Tail (sym group)
            | inr outside ↦ absurd (outside.1 (omega arith) (omega arith))
          ]
      | inr without ↦
          let tail : phases z ≡ Tail u.group = units f u (ap unit_of (sym (off_block phases g b f without.0)) ∙ is) z low high in
          elim (within_cases b.at (2 ^ b.order) z) [
            | inl inside ↦ absurd (false≢true (sym (ap is_free tail) ∙ free z inside.1 inside.2))
            | inr outside ↦ off_block phases g b z outside.0 ∙ tail
          ]
    ]

pub sound_placed : (s : State) (g : ℕ) (b : Block) → KeepsInvariant s → IsFreeBlock (free_in s.zone s.phases) b →
    StateInvariant s.zone s.hold (with_block s.phases g b) s.references s.parts
sound_placed s g b sound free =
    sound_quiet s.zone s.hold s.phases (with_block s.phases g b) s.references s.parts sound
    (λ x. elim (within_cases b.at (2 ^ b.order) x) [
      | inl within ↦
          let known = block_free s.zone s.phases b free x within.1 within.2 in
          let below : x < s.zone.frames = known.0 in
          inr (record {
            before = free_quiet (s.phases x) known.1;
            after = ap is_quiet (in_block s.phases g b x within.0) ∙ placed_quiet g b x;
            inside = λ beyond. absurd (omega arith);
          })
      | inr without ↦ inl (off_block s.phases g b x without.0)
    ])
    (placed_units s.phases g b sound.units (λ x low high. (block_free s.zone s.phases b free x low high).1))

pub in_unit : (phases : ℕ → Phase) (f x : ℕ) → is_within f (unit_size (unit_of (phases f))) x ≡ true → without_unit phases f x ≡ InZone
in_unit phases f x e = rw e

pub off_unit : (phases : ℕ → Phase) (f x : ℕ) → is_within f (unit_size (unit_of (phases f))) x ≡ false → without_unit phases f x ≡ phases x
off_unit phases f x e = rw e

-- a unit in the zone's hand comes back
pub sound_returned : (s : State) (f : ℕ) (u : ChargedUnit) (stage : Stage) → KeepsInvariant s → s.phases f ≡ Head u stage → is_quiet_stage stage ≡ true →
    StateInvariant s.zone s.hold (without_unit s.phases f) s.references s.parts
sound_returned s f u stage sound was quiet =
    let size : unit_size (unit_of (s.phases f)) ≡ 2 ^ u.order = ap (λ (x : Phase). unit_size (unit_of x)) was in
    let later = without_unit s.phases f in
    let unit : unit_of (s.phases f) ≡ Some u = ap unit_of was in
    sound_quiet s.zone s.hold s.phases later s.references s.parts sound
    (λ x. elim (within_cases f (unit_size (unit_of (s.phases f))) x) [
      | inl within ↦ inr (record {
        before = elim (cases_eq x f) [
          | inl e ↦ ap (λ (k : ℕ). is_quiet (s.phases k)) e ∙ ap is_quiet was ∙ quiet
          | inr ne ↦ ap is_quiet (sound.units f u unit x (let low = within.1 in omega arith) (let high = within.2 in omega arith))
        ];
        after = ap is_quiet (in_unit s.phases f x within.0);
        inside = λ beyond. ap is_free (in_unit s.phases f x within.0);
      })
      | inr without ↦ inl (off_unit s.phases f x without.0)
    ])
    (λ m v is z low high. elim (within_cases f (unit_size (unit_of (s.phases f))) m) [
      | inl within ↦ absurd (none_some v (sym (ap unit_of (in_unit s.phases f m within.0)) ∙ is))
      | inr without ↦
          let head : unit_of (s.phases m) ≡ Some v = ap unit_of (sym (off_unit s.phases f m without.0)) ∙ is in
          let tail : s.phases z ≡ Tail v.group = sound.units m v head z low high in
          elim (within_cases f (unit_size (unit_of (s.phases f))) z) [
            | inl inside ↦
                let not_head : f ≡ z → ⊥ = λ e. not_both (Head u stage) v.group (sym was ∙ ap s.phases e ∙ tail) refl in
                let above : f ≤ z = inside.1 in
                let under : z < f + unit_size (unit_of (s.phases f)) = inside.2 in
                elim (cases_lt m f) [
                  | inl lower ↦ absurd (not_both (Head u stage) v.group
                      (sym was ∙ sound.units m v head f lower (elim (cases_eq f z) [ inl e ↦ absurd (not_head e) | inr ne ↦ omega arith ])) refl)
                  | inr higher ↦ absurd (without.1 higher (omega arith))
                ]
            | inr outside ↦ off_unit s.phases f z outside.0 ∙ tail
          ]
    ])
  where
    not_both : (x : Phase) (g : ℕ) → x ≡ Tail g → unit_of x ≡ Some u → ⊥
    not_both x g e h = none_some u (sym (ap unit_of e) ∙ h)

-- who holds the lock changes while nothing passes
pub sound_hold : (zone : Zone) (hold later : Hold) (phases : ℕ → Phase) (references : ℕ → ℕ → ℕ) (parts : ℕ → Part) → StateInvariant zone hold phases references parts →
    ((f q : ℕ) → hold ≡ Visiting q → (passes_out q (phases f) ≡ false) × (passes_back q (phases f) ≡ false)) → StateInvariant zone later phases references parts
sound_hold zone hold later phases references parts s rest = record {
  frames = λ f.
      let old = s.frames f in
      record {
        out = λ q e. absurd (false≢true (sym (rest f q (old.out q e)).0 ∙ e));
        returning = λ q e. absurd (false≢true (sym (rest f q (old.returning q e)).1 ∙ e));
        unreferred = old.unreferred;
        seats = old.seats;
        paid = old.paid;
        inside = old.inside;
      };
  lists = s.lists;
  units = s.units;
  booked = s.booked;
}

not_parts : (a b : Bool) → (not a && not b) ≡ true → (a ≡ false) × (b ≡ false)
not_parts false false e = (refl, refl)
not_parts true b e = absurd (false≢true e)
not_parts false true e = absurd (false≢true e)

-- nothing passes for the CPU that is visited
pub visit_rests : (s : State) (p : ℕ) → KeepsInvariant s → s.hold ≡ Visiting p → nothing_passes s p ≡ true → (f q : ℕ) → s.hold ≡ Visiting q →
    (passes_out q (s.phases f) ≡ false) × (passes_back q (s.phases f) ≡ false)
visit_rests s p sound visit rest f q at =
    let same : p ≡ q = same_visitor p q (sym visit ∙ at) in
    elim (cases_lt f s.zone.frames) [
      | inl below ↦ subst (λ (k : ℕ). (passes_out k (s.phases f) ≡ false) × (passes_back k (s.phases f) ≡ false)) same
          (not_parts (passes_out p (s.phases f)) (passes_back p (s.phases f)) (all_at s.zone.frames (rests s p) rest f below))
      | inr beyond ↦ free_rests (s.phases f) ((sound.frames f).inside beyond) q
    ]

pub sound_reported : (s : State) (p n : ℕ) → KeepsInvariant s → n ≤ (s.parts p).unreported →
    StateInvariant s.zone s.hold s.phases s.references (with_at s.parts p
    (record (s.parts p) { unreported = (s.parts p).unreported - n; reported = (s.parts p).reported + n }))
sound_reported s p n sound few =
    sound_numbers s.zone s.hold s.phases s.references s.parts p _ sound refl
    (by_kind (λ k. frames_of (record (s.parts p) { unreported = (s.parts p).unreported - n; reported = (s.parts p).reported + n }) k
    ≡ frames_of (s.parts p) k) refl refl refl) (let a = sound.booked p in omega arith)

pub sound_absorbed : (s : State) (p n : ℕ) → KeepsInvariant s → n ≡ (s.parts p).reported →
    StateInvariant s.zone s.hold s.phases s.references (with_at s.parts p (record (s.parts p) { book = (s.parts p).book - n; reported = (s.parts p).reported - n }))
sound_absorbed s p n sound is =
    sound_numbers s.zone s.hold s.phases s.references s.parts p _ sound refl
    (by_kind (λ k. frames_of (record (s.parts p) { book = (s.parts p).book - n; reported = (s.parts p).reported - n }) k
    ≡ frames_of (s.parts p) k) refl refl refl) (let a = sound.booked p in omega arith)

pub sound_drained : (s : State) (p n : ℕ) → KeepsInvariant s → n ≡ (s.parts p).stock.pages →
    StateInvariant s.zone s.hold s.phases s.references (with_at s.parts p (drained (s.parts p) n))
sound_drained s p n sound is =
    sound_numbers s.zone s.hold s.phases s.references s.parts p (drained (s.parts p) n) sound refl
    (by_kind (λ k. frames_of (drained (s.parts p) n) k ≡ frames_of (s.parts p) k) refl refl refl) (let a = sound.booked p in omega arith)

of_group : (o : Option ℕ) (g : ℕ) → is_of_group o g ≡ true → o ≡ Some g
of_group None g e = absurd (false≢true e)
of_group (Some h) g e = ap Some (equal_test h g e)

-- where the book is 0 nothing is fresh
nothing_fresh : (s : State) (p : ℕ) → KeepsInvariant s → (s.parts p).book ≡ 0 → (f : ℕ) → has_as FreshFrame p (s.phases f) ≡ false
nothing_fresh s p sound none f =
    let a = sound.booked p in
    let c : times f (s.parts p).fresh ≡ one_if (has_as FreshFrame p (s.phases f)) = sound.lists p FreshFrame f in
    let d : times f (s.parts p).fresh ≡ 0 = no_frames (s.parts p).fresh (omega arith) in
    zero_test (has_as FreshFrame p (s.phases f)) (sym c ∙ d)
  where
    no_frames : (xs : List ℕ) → length xs ≡ 0 → times f xs ≡ 0
    no_frames [] e = refl
    no_frames (x ∷ xs) e = absurd (omega arith)

    zero_test : (b : Bool) → one_if b ≡ 0 → b ≡ false
    zero_test true e = absurd (omega arith)
    zero_test false e = refl

-- what is fresh stays paid where the stock of a CPU with nothing fresh changes its group
still_paid : (cpus : ℕ) (parts : ℕ → Part) (p : ℕ) (part : Part) (x : Phase) → has_as FreshFrame p x ≡ false → PhasePaid cpus (groups_in parts) x →
    PhasePaid cpus (groups_in (with_at parts p part)) x
still_paid cpus parts p part (Head u (FreshAt q)) not_here paid =
    let ne : q ≡ p → ⊥ = λ e. true≢false (sym (eq-eqb q p e) ∙ not_here) in
    record { group = ap (λ (z : Part). z.stock.group) (at_other parts p part q ne) ∙ paid.group; order = paid.order; low = paid.low; high = paid.high }
still_paid cpus parts p part InZone not_here paid = tt
still_paid cpus parts p part (Lent q way) not_here paid = tt
still_paid cpus parts p part (Tail g) not_here paid = tt
still_paid cpus parts p part (Head u stage) not_here paid = paid

pub sound_filled : (s : State) (p g n : ℕ) → KeepsInvariant s → takes_fill (s.parts p) g ≡ true →
    StateInvariant s.zone s.hold s.phases s.references (with_at s.parts p (filled (s.parts p) g n))
sound_filled s p g n sound may =
    let both = and_parts ((s.parts p).stock.pages == 0) ((s.parts p).book == 0 || is_of_group (s.parts p).stock.group g) may in
    let empty : (s.parts p).stock.pages ≡ 0 = equal_test (s.parts p).stock.pages 0 both.0 in
    let part = filled (s.parts p) g n in
    sound_part s.zone s.hold s.phases s.references s.parts p part sound
    (λ f. elim (or_cases ((s.parts p).book == 0) (is_of_group (s.parts p).stock.group g) both.1) [
      | inl none ↦ still_paid s.zone.cpus s.parts p part (s.phases f) (nothing_fresh s p sound (equal_test (s.parts p).book 0 none) f) (sound.frames f).paid
      | inr same ↦ subst (λ (k : ℕ → Option ℕ). PhasePaid s.zone.cpus k (s.phases f))
          (same_groups s.parts p part (sym (of_group (s.parts p).stock.group g same))) (sound.frames f).paid
    ])
    (by_kind (λ k. frames_of part k ≡ frames_of (s.parts p) k) refl refl refl)
    (let a = sound.booked p in omega arith)
