-- The name in the call of `serve_blank` is that of the store that was just made.
use Rattle.proto.proofs.server.serve_run.Given as goal

abbrev pub ghosts-serve_blank : goal.ghosts-serve_blank
ghosts-serve_blank g a = record { store = a.blank }
