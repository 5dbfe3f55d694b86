-- How pasts grow by steps and by what others did. Serves `visits`, `cpu_lines`, and the looks at all pasts.
use Rattle.std.proofs.Common.{◌≡◌, ◌∙◌, ℕ, true, [], ◌∷◌, ◌++◌, append_assoc, append-nil, ap, refl, subst, sym}
use Rattle.boot_words.specs.declared.past.Past.{Past}
use Rattle.boot_words.specs.{GrewByAll, SeesMore, changes_nothing, KnownPasts, own_past, GrewBy, HasNoStepOf}
use Rattle.boot_words.proofs.Grown.{all_grew_both}
use Rattle.boot_words.proofs.Ordered.{without_both, without_none}
use Rattle.step_rules.specs.After.{Run}
use Rattle.script_replay.specs.{MakesUnlocked, GrewByChanges}

-- ---- steps of others

pub none_both : (seat : ℕ) (xs ys : Run) → HasNoStepOf seat xs → HasNoStepOf seat ys → HasNoStepOf seat (xs ++ ys)
none_both seat [] ys one two = two
none_both seat (e ∷ xs) ys one two = (one.0, none_both seat xs ys one.1 two)

sees_none : (a : Past) → SeesMore a a
sees_none a = record { between = []; others = tt; number = refl; seen = sym (append-nil a.seen) }

pub sees_both : (a b c : Past) → SeesMore a b → SeesMore b c → SeesMore a c
sees_both a b c one two = record {
  between = one.between ++ two.between;
  others = none_both a.number one.between two.between one.others (subst (λ (n : ℕ). HasNoStepOf n two.between) one.number two.others);
  number = two.number ∙ one.number;
  seen = two.seen ∙ ap (λ (r : Run). r ++ two.between) one.seen ∙ append_assoc a.seen one.between two.between;
}

-- steps after those of others
sees_grew : (a b : Past) (steps : Run) (c : Past) → SeesMore a b → GrewByAll b steps c → (last : Past) × GrewByAll a steps last × SeesMore last c
sees_grew a b [] c more grew = (a, refl, subst (SeesMore a) (sym grew) more)
sees_grew a b (made ∷ rest) c more grew =
    let one = grew.1 in
    let first : GrewBy a made.0 made.1 grew.0 = record {
      between = more.between ++ one.between;
      others = none_both a.number more.between one.between more.others (subst (λ (n : ℕ). HasNoStepOf n one.between) more.number one.others);
      number = one.number ∙ more.number;
      seen = one.seen ∙ ap (λ (r : Run). (r ++ one.between) ++ (made.0, made.1) ∷ []) more.seen
          ∙ ap (λ (r : Run). r ++ (made.0, made.1) ∷ []) (append_assoc a.seen more.between one.between);
    } in
    (c, (grew.0, first, grew.2), sees_none c)

-- ---- steps with some that change nothing

pub all_grew : (before : KnownPasts) (steps : Run) (after : KnownPasts) → GrewByAll (own_past before) steps (own_past after) → GrewByChanges before steps after
all_grew before steps after grew = record {
  made = steps;
  last = own_past after;
  grew = grew;
  more = sees_none (own_past after);
  changes = without_none (λ e. changes_nothing e.1 ≡ true) steps;
}

pub unlocked_grew : (n : ℕ) (steps : Run) (before after : KnownPasts) → MakesUnlocked n steps before after → GrewByChanges before steps after
unlocked_grew n steps before after is =
    record { made = is.made; last = own_past after; grew = is.grew; more = sees_none (own_past after); changes = is.changes }

-- no step, but others'
pub seen_grew : (before after : KnownPasts) → SeesMore (own_past before) (own_past after) → GrewByChanges before [] after
seen_grew before after more = record { made = []; last = own_past before; grew = refl; more = more; changes = refl }

pub grew_both : (a : KnownPasts) (one : Run) (b : KnownPasts) (two : Run) (c : KnownPasts) → GrewByChanges a one b → GrewByChanges b two c
    → GrewByChanges a (one ++ two) c
grew_both a one b two c first second =
    let moved = sees_grew first.last (own_past b) second.made second.last first.more second.grew in record {
      made = first.made ++ second.made;
      last = moved.0;
      grew = all_grew_both (own_past a) first.made first.last second.made moved.0 first.grew moved.1;
      more = sees_both moved.0 second.last (own_past c) moved.2 second.more;
      changes = without_both (λ e. changes_nothing e.1 ≡ true) first.made one second.made two first.changes second.changes;
    }
