use Rattle.pieces.proofs.tests.+push_tests.Given as goal

abbrev pub decreases-push-tests : goal.decreases-push-tests
decreases-push-tests l = l.depth
