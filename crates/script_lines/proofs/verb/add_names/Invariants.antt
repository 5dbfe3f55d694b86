use Rattle.std.proofs.Common.{◌≡◌, map, take}
use Rattle.indexmap.specs.IndexMap.{insert_all}
use Rattle.script_lines.specs.Verb.{by_name, same_name}
use Rattle.script_lines.proofs.verb.add_names.Given as goal

-- the commands so far were added
abbrev pub invariant-loop-verb : goal.invariant-loop-verb
invariant-loop-verb l = l.names.entries ≡ insert_all same_name l.initial.names.entries (map by_name (take l.verb-index l.verbs))
