use Rattle.irig_folders.proofs.tree_paths.+end_at.Given as goal

abbrev pub decreases-end_at : goal.decreases-end_at
decreases-end_at l = l.links
