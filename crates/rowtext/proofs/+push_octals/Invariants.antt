use Rattle.rowtext.proofs.+push_octals.Given as goal

abbrev pub decreases-push_octals : goal.decreases-push_octals
decreases-push_octals l = l.count
