-- What a tick asks its source. Assumes nothing.
use Rattle.std.specs.Prelude.{ℕ, cond, List, [], ◌∷◌}
use Rattle.table.specs.declared.node.Node.{Node}
use Rattle.table.specs.Kinds.{sampled}

-- the sample numbers of the sample nodes, upward
abbrev pub samples_of : List Node → List ℕ
samples_of [] = []
samples_of (x ∷ xs) = cond (sampled x.kind) (x.left ∷ samples_of xs) (samples_of xs)
