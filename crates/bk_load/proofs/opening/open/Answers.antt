use Rattle.bk_load.proofs.opening.open.Goals as goal

pub returns-in-Ok-clause-stands : goal.returns-in-Ok-clause-stands
returns-in-Ok-clause-stands g c = λ tells log sound.
    c.start.ensures.stands tells log (c.in-Ok.ensures.sound tells log sound)
