use Rattle.rowtext.proofs.+push_decimals.Given as goal

abbrev pub decreases-push_decimals : goal.decreases-push_decimals
decreases-push_decimals l = l.n
