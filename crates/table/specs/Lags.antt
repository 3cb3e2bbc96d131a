-- Best and worst lags: how long after a position its value is known. Assumes nothing.
use Rattle.std.specs.Prelude.{ℕ, ◌+◌, min, max, cond, List, slice_index_or}
use Rattle.table.specs.declared.kind.Kind.{Kind}
use Rattle.table.specs.declared.kind.Side.TheVariants.{Left, Right}
use Rattle.table.specs.declared.node.Lag.{Lag}
use Rattle.table.specs.declared.node.Node.{Node}
use Rattle.table.specs.Kinds.{binary, at_once, opens}
use Rattle.table.specs.Tables.{Table, each, node}

-- the least and the greatest over the operands that the kind has
abbrev pub least_operand : Kind → (left right : ℕ) → ℕ
least_operand k l r = cond (binary k) (min l r) l

abbrev pub greatest_operand : Kind → (left right : ℕ) → ℕ
greatest_operand k l r = cond (binary k) (max l r) l

abbrev pub no_lag : Lag
no_lag = record { best = 0; worst = 0 }

-- The lag of node x from those of its operands. Samples and nodes that look back are known at once. For the others the
-- best lag is the least over the operands of its best lag and where the node begins to read it, and the worst lag is
-- the greatest operand worst lag plus the end of the window.
unfoldable pub lag_of : ℕ → Node → Lag → Lag → Lag
lag_of k x l r =
    cond (at_once x.kind) no_lag record {
      best = least_operand x.kind (l.best + opens x.kind Left x.from) (r.best + opens x.kind Right x.from);
      worst = greatest_operand x.kind l.worst r.worst + x.to;
    }

unfoldable pub lags : List Node → List Lag
lags = each no_lag lag_of

abbrev pub lag : Table → ℕ → Lag
lag t k = slice_index_or (lags t.nodes) k no_lag

abbrev pub best : Table → ℕ → ℕ
best t k = (lag t k).best

abbrev pub worst : Table → ℕ → ℕ
worst t k = (lag t k).worst

-- the greatest worst lag among the operands of node k
abbrev pub operands_worst : Table → ℕ → ℕ
operands_worst t k = greatest_operand (node t k).kind (worst t (node t k).left) (worst t (node t k).right)
