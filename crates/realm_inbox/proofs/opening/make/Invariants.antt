use Rattle.realm_inbox.proofs.opening.make.Given as goal

abbrev pub ghosts-cut_door : goal.ghosts-cut_door
ghosts-cut_door g a = record { home = g.picked }
