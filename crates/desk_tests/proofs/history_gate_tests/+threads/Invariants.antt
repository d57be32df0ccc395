use Rattle.desk_tests.proofs.history_gate_tests.+threads.Given as goal

abbrev pub decreases-threads : goal.decreases-threads
decreases-threads g l = l.count
