use Rattle.tp_shared.proofs.steps.split.Given as goal

abbrev pub ghosts-cut : goal.ghosts-cut
ghosts-cut a = record { actor = a.actor }
