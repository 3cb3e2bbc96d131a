-- What kinds, nodes, lags and faults print, in bytes. Assumes nothing.
use Rattle.std.specs.Prelude.{ℕ, List, [], ◌++◌, cond, codes}
use Rattle.std.specs.Fmt.{decimal}
use Rattle.table.specs.declared.kind.Kind.{Kind}
use Rattle.table.specs.declared.kind.Kind.TheVariants.{Sample, Not, And, Or, Within, Always, Until, Once, Held, Since}
use Rattle.table.specs.declared.kind.UnknownKind.{UnknownKind as NoKind}
use Rattle.table.specs.declared.kind.Sort.{Sort}
use Rattle.table.specs.declared.kind.Sort.TheVariants.{Leaf, Point, Ahead, Back}
use Rattle.table.specs.declared.node.Node.{Node}
use Rattle.table.specs.declared.node.Lag.{Lag}
use Rattle.table.specs.declared.fault.TableFault.{TableFault}
use Rattle.table.specs.declared.fault.TableFault.TheVariants.{NodeCount, RuleCount, UnknownKind, Misplaced, Window, LateOperand, TooLate, NoSuchNode, Unused, TooMuchMemory}
use Rattle.table.specs.Kinds.{shape}

-- the word of a kind, as rules have it
abbrev pub kind_word : Kind → List ℕ
kind_word Sample = codes "sample"
kind_word Not = codes "not"
kind_word And = codes "and"
kind_word Or = codes "or"
kind_word Within = codes "within"
kind_word Always = codes "always"
kind_word Until = codes "until"
kind_word Once = codes "once"
kind_word Held = codes "held"
kind_word Since = codes "since"

abbrev pub no_kind_words : NoKind → List ℕ
no_kind_words e = codes "no kind has number " ++ decimal e.0

-- the window of a node whose kind has one, after a space
abbrev pub window_words : Sort → (from to : ℕ) → List ℕ
window_words Leaf from to = []
window_words Point from to = []
window_words Ahead from to = codes " [" ++ decimal from ++ codes "," ++ decimal to ++ codes "]"
window_words Back from to = codes " [" ++ decimal from ++ codes "," ++ decimal to ++ codes "]"

-- a node: its kind, its window if it has one, its left operand, and its right one if it has one
abbrev pub node_words : Node → List ℕ
node_words x =
    kind_word x.kind
    ++ window_words (shape x.kind).sort x.from x.to
    ++ codes " " ++ decimal x.left
    ++ cond (shape x.kind).binary (codes " " ++ decimal x.right) []

abbrev pub lag_words : Lag → List ℕ
lag_words lag = codes "lag " ++ decimal lag.best ++ codes " to " ++ decimal lag.worst

-- what is wrong with a table, and with which node or rule of it
abbrev pub fault_words : TableFault → List ℕ
fault_words NodeCount = codes "there is no node, or there are more than 64"
fault_words RuleCount = codes "there is no rule, or there are more than 16"
fault_words (UnknownKind k) = codes "node " ++ decimal k ++ codes " is of no known kind"
fault_words (Misplaced k) = codes "node " ++ decimal k ++ codes " has an operand or a field that cannot stand there"
fault_words (Window k) = codes "node " ++ decimal k ++ codes " has a window that opens after it ends, or ends after 4095"
fault_words (LateOperand k) = codes "node " ++ decimal k ++ codes " looks back over an operand that is not known at once"
fault_words (TooLate k) = codes "node " ++ decimal k ++ codes " may be known more than 16383 ticks late"
fault_words (NoSuchNode r) = codes "rule " ++ decimal r ++ codes " names no node"
fault_words (Unused k) = codes "node " ++ decimal k ++ codes " is neither an operand nor named by a rule"
fault_words TooMuchMemory = codes "the queues need more than 16384 values"
