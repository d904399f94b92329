use Rattle.bk_turn.proofs.turns.Turn.new.Given as goal

-- the opening that the caller picked
abbrev pub ghosts-open : goal.ghosts-open
ghosts-open g a = record { opening = g.opening }
