use Rattle.bk_turn.proofs.turns.Turn.leave.Given as goal

-- the step that the caller picked
abbrev pub ghosts-serve : goal.ghosts-serve
ghosts-serve g a = record { added = g.step }
