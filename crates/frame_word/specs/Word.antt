-- What the word of a frame says, and which word is that of a visit.
use Rattle.std.specs.Prelude.{ℕ, ◌+◌, ◌-◌}

-- a CPU's passing mark is this number plus the CPU's
abbrev pub mark_base : ℕ
mark_base = 256

-- the passing mark of the CPU
abbrev pub mark : ℕ → ℕ
mark cpu = mark_base + cpu

-- the index of the CPU's visit word, after the words of all frames
abbrev pub visit_index : ℕ → ℕ → ℕ
visit_index frames cpu = frames + (cpu - 1)
