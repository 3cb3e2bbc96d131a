-- The check of a table: its refusals in their order. Assumes nothing.
use Rattle.std.specs.Prelude.{ℕ, zero, suc, Bool, false, cond, not, ◌&&◌, ◌||◌, List, [], ◌∷◌, ◌++◌, map, length, is_some, Some, None, vec_items, Option, ◌==◌, nat_eq, nat_le, nat_lt, slice_index}
use Rattle.std.specs.List.{range_with_len, flat_map}
use Rattle.table.specs.declared.fault.TableFault.{TableFault}
use Rattle.table.specs.declared.fault.TableFault.TheVariants.{NodeCount, RuleCount, UnknownKind, Misplaced, Window, LateOperand, TooLate, NoSuchNode, Unused, TooMuchMemory}
use Rattle.table.specs.declared.kind.Side.TheVariants.{Left, Right}
use Rattle.table.specs.declared.node.Node.{Node}
use Rattle.table.specs.declared.node.UncheckedNode.{UncheckedNode}
use Rattle.table.specs.declared.node.UncheckedTable.{UncheckedTable}
use Rattle.table.specs.Kinds.{shape, binary, sampled, past, windowed}
use Rattle.table.specs.Tables.{Table, size, node, rule_node, meant}
use Rattle.table.specs.Lags.{worst, operands_worst}
use Rattle.table.specs.Places.{operand, need}

-- a refusal: its number, and the node or rule that is at fault
pub record Refusal : Type 0 where
  pub number : ℕ
  pub place : Option ℕ

abbrev refused : ℕ → Option ℕ → Refusal
refused n p = record { number = n; place = p }

-- the refusal that a fault stands for
abbrev pub refusal_of : TableFault → Refusal
refusal_of NodeCount = refused 11 None
refusal_of RuleCount = refused 12 None
refusal_of (UnknownKind k) = refused 13 (Some k)
refusal_of (Misplaced k) = refused 14 (Some k)
refusal_of (Window k) = refused 15 (Some k)
refusal_of (LateOperand k) = refused 16 (Some k)
refusal_of (TooLate k) = refused 17 (Some k)
refusal_of (NoSuchNode r) = refused 18 (Some r)
refusal_of (Unused k) = refused 19 (Some k)
refusal_of TooMuchMemory = refused 20 None

-- a fault that may be there
pub record Test : Type 0 where
  pub fault : TableFault
  pub there : Bool

abbrev test : TableFault → Bool → Test
test f b = record { fault = f; there = b }

-- the first that is there
abbrev pub first : List Test → Option TableFault
first [] = None
first (f ∷ fs) = cond f.there (Some f.fault) (first fs)

-- whether one of the numbers below n passes
abbrev pub any : ℕ → (ℕ → Bool) → Bool
any zero test = false
any (suc n) test = any n test || test n

-- the left operand of node k stands before it, or its sample is at most 31; the right operand stands before it, or is
-- not used; and a window without use is 0 to 0
abbrev pub left_placed : Node → ℕ → Bool
left_placed x k = cond (sampled x.kind) (nat_le x.left 31) (nat_lt x.left k)

abbrev pub right_placed : Node → ℕ → Bool
right_placed x k = cond (binary x.kind) (nat_lt x.right k) (x.right == 0)

abbrev pub window_placed : Node → Bool
window_placed x = windowed (shape x.kind).sort || (x.from == 0 && x.to == 0)

abbrev pub placed : Node → ℕ → Bool
placed x k = left_placed x k && (right_placed x k && window_placed x)

-- the window does not open after it ends, and ends at 4,095 at the latest
abbrev pub in_window : Node → Bool
in_window x = nat_le x.from x.to && nat_le x.to 4095

-- whether some parent or rule uses node k
abbrev pub parent_of : Table → ℕ → ℕ → Bool
parent_of t k j = operand (node t j) Left k || operand (node t j) Right k

abbrev pub used : Table → ℕ → Bool
used t k = any (size t) (parent_of t k) || any (length t.rules) (λ r. nat_eq (rule_node t r) k)

-- the tests of node x, of number k, that need nothing of other nodes
abbrev pub own_tests : (unknown : Bool) → Node → ℕ → List Test
own_tests unknown x k =
    test (UnknownKind k) unknown
    ∷ test (Misplaced k) (not (placed x k))
    ∷ test (Window k) (not (in_window x))
    ∷ []

-- those that need the greatest worst lag of its operands and its own
abbrev pub lag_tests : Node → (operands own : ℕ) → ℕ → List Test
lag_tests x operands own k =
    test (LateOperand k) (past x.kind && nat_lt 0 operands)
    ∷ test (TooLate k) (nat_lt 16383 own)
    ∷ []

-- the test of rule r
abbrev pub rule_tests : (size : ℕ) → List ℕ → ℕ → List Test
rule_tests size rules r = test (NoSuchNode r) (nat_le size (slice_index rules r)) ∷ []

-- the test of node k for a use
abbrev pub use_tests : Table → ℕ → List Test
use_tests t k = test (Unused k) (not (used t k)) ∷ []

-- of a table in which the nodes of `unknown` have a kind without meaning
module _ (unknown : ℕ → Bool) (t : Table) where
  abbrev pub node_tests : ℕ → List Test
  node_tests k = own_tests (unknown k) (node t k) k ++ lag_tests (node t k) (operands_worst t k) (worst t k) k

  -- all tests, in the order in which they are made
  abbrev pub tests : List Test
  tests =
      test NodeCount (size t == 0 || nat_lt 64 (size t))
      ∷ test RuleCount (length t.rules == 0 || nat_lt 16 (length t.rules))
      ∷ (flat_map node_tests (range_with_len 0 (size t))
      ++ (flat_map (rule_tests (size t) t.rules) (range_with_len 0 (length t.rules))
      ++ (flat_map (use_tests t) (range_with_len 0 (size t)) ++ test TooMuchMemory (nat_lt 16384 (need t)) ∷ [])))

  unfoldable pub first_fault : Option TableFault
  first_fault = first tests

-- whether a node's kind number is above 9
abbrev pub unknown_kind : List UncheckedNode → ℕ → Bool
unknown_kind written k = nat_le 10 (slice_index (map (λ x. x.kind) written) k)

-- what the check of an unchecked table finds
abbrev pub checked : UncheckedTable → Option TableFault
checked u = first_fault (unknown_kind (vec_items u.nodes)) (meant u)

-- whether the check passes a table whose kinds are all known
abbrev pub passes : Table → Bool
passes t = not (is_some (first_fault (λ k. false) t))
