-- What a writer was given, write by write.
use Rattle.std.proofs.Common.{◌∙◌, ℕ, ◌+◌, List, ◌++◌, Option, arith, length, subst, sym, take}
use Rattle.std.specs.Prelude.{min}
use Rattle.std.proofs.lemmas.List.{take-append-le, take_min}
use Rattle.std.proofs.Math.Seq.{take-append-add}
use Rattle.std.proofs.KnownBytes.{Appends-trans}
use Rattle.std.specs.Io.KnownBytes.{Appends}
use Rattle.line_server.specs.Writing.{AppendsBeginning}

-- a beginning of what more follows is one of all
pub begins_more : (a b : Option (List ℕ)) (front more : List ℕ) → AppendsBeginning a b front → AppendsBeginning a b (front ++ more)
begins_more a b front more begins =
    let n = begins.0 in
    let same = take-append-le (min n (length front)) front more (omega arith) ∙ take_min n front in
    (min n (length front), subst (Appends a b) (sym same) begins.1)

-- after the whole of what comes first, a beginning of the rest is one of all
pub begins_after : (a b c : Option (List ℕ)) (front more : List ℕ) → Appends a b front → AppendsBeginning b c more
    → AppendsBeginning a c (front ++ more)
begins_after a b c front more whole begins =
    (length front + begins.0, subst (Appends a c) (sym (take-append-add front more begins.0)) (Appends-trans a b c front (take begins.0 more) whole begins.1))
