use Rattle.session_pool.proofs.pool.run_sessions.Given as goal

abbrev pub ghosts-run : goal.ghosts-run
ghosts-run g a = record { schema = a.script.now.schema; sizes = a.core.sizes; sessions = a.core.sessions; lines = a.script.now.lines }
