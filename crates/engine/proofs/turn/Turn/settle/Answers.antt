use Rattle.engine.proofs.turn.Turn.settle.Goals as goal

pub returns-in-Leaf-clause-settles : goal.returns-in-Leaf-clause-settles
returns-in-Leaf-clause-settles g c = c.settle_now.ensures.settles c.args.tick.number
