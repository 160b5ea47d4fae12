use Rattle.aztec_modes.proofs.splitting.+push_ids.Given as goal

abbrev pub decreases-push_ids : goal.decreases-push_ids
decreases-push_ids l = l.most
