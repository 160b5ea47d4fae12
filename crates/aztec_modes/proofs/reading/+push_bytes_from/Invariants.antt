use Rattle.aztec_modes.proofs.reading.+push_bytes_from.Given as goal

abbrev pub decreases-push_bytes_from : goal.decreases-push_bytes_from
decreases-push_bytes_from l = l.count
