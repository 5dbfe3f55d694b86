-- Why files can't be read or written, from what is known of the file.
use Rattle.std.proofs.Common.{◌≡◌, ◌⊎◌, ◌∙◌, ◌<◌, inl, inr, ℕ, List, true, false, Option, None, Some, arith, codes, refl, subst, sym}
use Rattle.std.specs.Option.{option_or}
use Rattle.std.specs.Str.{bytes_eq}
use Rattle.std.proofs.lemmas.Slice.Eq.{bytes_eq-Decides}
use Rattle.control_files.specs.Files.{name_of_file}
use Rattle.control_files.specs.declared.file.File.{File}
use Rattle.group_tree.specs.Path.{depth_of, is_root, is_well_formed, names_of}
use Rattle.zone_blocks.specs.declared.config.Config.{Config}
use Rattle.script_lines.specs.Script.{IsLineText}
use Rattle.script_lines.specs.declared.line.Line.{Line}
use Rattle.script_lines.specs.declared.line.Line.TheVariants.{At}
use Rattle.script_lint.specs.Refusals.{CantChange, HasFile, IsJudged, IsJudgedText, IsNoPath, LacksFile, RefusesRead, RefusesReadOf, NeverTakesValue, RefusesWriteOf}
use Rattle.script_lines.proofs.Readings.{request_no_go}
use Rattle.script_lint.proofs.Ends.{go_is}
use Rattle.script_lint.specs.declared.refusal.Refusal.{Refusal}
use Rattle.script_lint.specs.declared.refusal.Refusal.TheVariants.{BadPath, PathTooDeep, RootToChange, NotModelled, NoFile, FileOfRoot}

-- what is known of the file is known of the read of it
pub read_judged : (path name : List ℕ) (file : File) → HasFile path name file → (judged : Option Refusal)
    → IsJudged (RefusesRead file) judged → IsJudged (RefusesReadOf path name) judged
read_judged path name file has (Some why) is = inr (file, has.named, is)
read_judged path name file has None is = λ why refuses. elim refuses [
  | inl lacks ↦ has.there why lacks
  | inr of ↦ is why (subst (λ (f : File). RefusesRead f why) (has.only of.0 of.1) of.2)
]

pub write_judged : (path name value : List ℕ) (file : File) → HasFile path name file → (judged : Option Refusal)
    → IsJudged (NeverTakesValue file value) judged → IsJudged (RefusesWriteOf path name value) judged
write_judged path name value file has (Some why) is = inr (file, has.named, is)
write_judged path name value file has None is = λ why refuses. elim refuses [
  | inl lacks ↦ has.there why lacks
  | inr of ↦ is why (subst (λ (f : File). NeverTakesValue f value why) (has.only of.0 of.1) of.2)
]

-- a path that isn't the root's can be that of no group for the reasons for which it can't be changed
pub can_change : (path : List ℕ) → is_root path ≡ false → (judged : Option Refusal) → IsJudged (IsNoPath path) judged
    → IsJudged (CantChange path) judged
can_change path other (Some RootToChange) is = absurd is
can_change path other (Some why) is = is
can_change path other None is = none
  where
    none : (why : Refusal) → ¬ CantChange path why
    none RootToChange root = let no : false ≡ true = sym other ∙ root in cc
    none why refuses = is why refuses

well_formed_root : is_well_formed (codes "/") ≡ true
unfolding is_well_formed names_of
well_formed_root = refl

no_names : depth_of (codes "/") ≡ 0
unfolding names_of
no_names = refl

-- the root's path has no fault
pub root_is_path : (path : List ℕ) → is_root path ≡ true → (why : Refusal) → ¬ IsNoPath path why
root_is_path path root why is = go path why ((bytes_eq-Decides path (codes "/")).0 root) is
  where
    go : (path : List ℕ) (why : Refusal) → path ≡ codes "/" → ¬ IsNoPath path why
    go path BadPath e malformed = let good : is_well_formed (codes "/") ≡ true = well_formed_root in let bad = subst (λ (t : List ℕ). is_well_formed t ≡ false) e malformed in cc
    go path PathTooDeep e deep = let less = subst (λ (t : List ℕ). 8 < depth_of t) e deep.1 in let none : depth_of (codes "/") ≡ 0 = no_names in absurd (omega arith)
    go path why e is = is

-- what is known of two kinds of reasons is known of both
pub judged_or : (R S : Refusal → Type 0) (one other result : Option Refusal) → result ≡ option_or one other → IsJudged R one → IsJudged S other
    → IsJudged (λ why. R why ⊎ S why) result
judged_or R S (Some why) other result e is is_other = rw e (inl is)
judged_or R S None (Some why) result e is is_other = rw e (inr is_other)
judged_or R S None None result e is is_other = rw e (λ why refuses. elim refuses [
  | inl one ↦ is why one
  | inr two ↦ is_other why two
])

-- what is known of one kind of reasons, and of another kind that counts only if the first gives none
pub judged_else : (R S : Refusal → Type 0) (one other result : Option Refusal) → result ≡ option_or one other → IsJudged R one → IsJudged S other
    → IsJudged (λ why. R why ⊎ (S why × ((other : Refusal) → ¬ R other))) result
judged_else R S (Some why) other result e is is_other = rw e (inl is)
judged_else R S None (Some why) result e is is_other = rw e (inr (is_other, is))
judged_else R S None None result e is is_other = rw e (λ why refuses. elim refuses [
  | inl one ↦ is why one
  | inr two ↦ is_other why two.0
])

pub no_line : (sizes : Config) (texts : List (List ℕ)) (text : List ℕ) → ((line : Line) → ¬ IsLineText sizes 1 line text)
    → IsJudgedText sizes texts text None
no_line sizes texts text none = inl (inr (λ cpu command is. none (At 1 cpu command) (refl, is)))

pub line_of_go : (sizes : Config) (texts : List (List ℕ)) (text : List ℕ) → text ≡ codes "go" → IsJudgedText sizes texts text None
line_of_go sizes texts text is = inl (inr (λ cpu command request.
    let yes = go_is text is in let no = request_no_go sizes cpu command text request in cc))

-- nothing is lacking if a file has the name and the path isn't the root's
pub none_lacks : (path name : List ℕ) (file : File) → name ≡ name_of_file file → bytes_eq path (codes "/") ≡ false
    → (why : Refusal) → ¬ LacksFile path name why
none_lacks path name file named other NotModelled lacks = lacks.0 file named
none_lacks path name file named other NoFile lacks = lacks.0 file named
none_lacks path name file named other FileOfRoot lacks =
    let root = (bytes_eq-Decides path (codes "/")).1 lacks in cc
none_lacks path name file named other why lacks = lacks
