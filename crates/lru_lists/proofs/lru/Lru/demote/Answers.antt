use Rattle.std.proofs.Common.{◌≡◌, ◌≢◌, ◌∙◌, ℕ, List, None, Some, Option, arith, rules, refl, sym}
use Rattle.lru_lists.specs.declared.record.LruList.TheVariants.{Inactive, Active}
use Rattle.lru_lists.specs.{units_of, home_in, list_of}
use Rattle.lru_lists.proofs.Linking.{within}
use Rattle.lru_lists.proofs.Pairs.{oldest_first, entries_first, some_oldest, list_at_home, other_lacks, elsewhere}
use Rattle.std.specs.Option.{IsSome}
use Rattle.lru_lists.proofs.lru.Lru.demote.Goals as goal

pub unless_none : (o : Option ℕ) → (o ≡ None → ⊥) → IsSome o
unless_none None h = absurd (h refl)
unless_none (Some u) h = search rules

pub unwrap-oldest-requires : goal.unwrap-oldest-requires
unwrap-oldest-requires c =
    let l = c.requires.linked Active in
    unless_none c.args.self.now.active.oldest
    (λ e. some_oldest (units_of c.args.links.now c.args.self.now.active) (omega (arith, l.count, c.requires.some)) (sym l.oldest ∙ e))

pub move_to-requires-clause-frame : goal.move_to-requires-clause-frame
move_to-requires-clause-frame c =
    let l = c.requires.linked Active in
    let xs : List ℕ = units_of c.args.links.now c.args.self.now.active in
    within c.args.links.now (home_in c.args.self.now Active) c.args.self.now.active xs c.unwrap-oldest.result l
    ((oldest_first xs c.unwrap-oldest.result (sym l.oldest ∙ c.unwrap-oldest.ensures)).2)

pub move_to-requires-clause-on : goal.move_to-requires-clause-on
move_to-requires-clause-on c e =
    let l = c.requires.linked Active in
    let xs : List ℕ = units_of c.args.links.now c.args.self.now.active in
    let i = (oldest_first xs c.unwrap-oldest.result (sym l.oldest ∙ c.unwrap-oldest.ensures)).2 in
    let k : list_of c.args.links.now c.args.self.now.owner c.unwrap-oldest.result ≡ Some Active = list_at_home c.args.links.now c.args.self.now Active
    c.unwrap-oldest.result (l.homes c.unwrap-oldest.result i) in
    let j : Some Active ≡ None = sym k ∙ e in
    cc

pub returns-clause-inactive : goal.returns-clause-inactive
returns-clause-inactive c =
    let l = c.requires.linked Active in
    let xs : List ℕ = units_of c.args.links.now c.args.self.now.active in
    let first = sym l.oldest ∙ c.unwrap-oldest.ensures in
    let i = (oldest_first xs c.unwrap-oldest.result first).2 in
    let there = l.homes c.unwrap-oldest.result i in
    let ne : Inactive ≢ Active = λ e. cc in
    let away = elsewhere c.args.self.now Active _ there Inactive ne in
    rw (
      c.move_to.ensures.gained,
      other_lacks c.args.links.now c.args.self.now Inactive c.unwrap-oldest.result c.requires.linked away,
      (entries_first c.args.links.now c.unwrap-oldest.result xs first).1,
    ) refl

pub returns-clause-active : goal.returns-clause-active
returns-clause-active c =
    let l = c.requires.linked Active in
    let xs : List ℕ = units_of c.args.links.now c.args.self.now.active in
    let first = sym l.oldest ∙ c.unwrap-oldest.ensures in
    let ne : Active ≢ Inactive = λ e. cc in
    c.move_to.ensures.lost Active ne ∙ (entries_first c.args.links.now c.unwrap-oldest.result xs first).0
