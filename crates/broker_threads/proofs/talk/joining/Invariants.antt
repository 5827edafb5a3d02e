use Rattle.broker_threads.proofs.talk.joining.Given as goal

abbrev pub ghost-pair_of : goal.ghost-pair_of
ghost-pair_of g a = g.home
