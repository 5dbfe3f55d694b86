use Rattle.tempolemon_threads.specs.Serving.{home_frames_after}
use Rattle.tempolemon_threads.proofs.raw.serve_raw.Given as goal

abbrev pub ghosts-serve : goal.ghosts-serve
ghosts-serve a = record { table = home_frames_after a.pointer.frames a.request }
