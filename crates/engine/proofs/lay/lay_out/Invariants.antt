use Rattle.std.proofs.Common.{◌≡◌, ℕ, ◌*◌, ◌<◌, ◌≤◌, length}
use Rattle.engine.specs.Laying.{start_of, Laid}
use Rattle.engine.specs.State.{keep_of}
use Rattle.engine.proofs.lay.lay_out.Given as goal

-- the queues below k lie in their places, and the next begins behind them
abbrev pub invariant-loop-k : goal.invariant-loop-k
invariant-loop-k l =
    (l.from ≡ start_of l.places l.k)
    × (l.from ≤ 4294967297 * l.k)
    × (length l.keeps ≡ 64)
    × ((j : ℕ) → j < l.k → Laid l.places j (keep_of l.keeps j))
