use Rattle.outbox_queue.proofs.pairing.pair_of.Given as goal

abbrev pub ghost-new_ends : goal.ghost-new_ends
ghost-new_ends g a = g.picked
