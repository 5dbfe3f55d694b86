use Rattle.tempolemon_c.specs.Serving.{frames_after_request}
use Rattle.tempolemon_c.proofs.raw.serve_raw.Given as goal

abbrev pub ghosts-serve : goal.ghosts-serve
ghosts-serve a = record { table = frames_after_request a.pointer.frames a.request }
