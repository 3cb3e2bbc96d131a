-- The tests of the check, one for each fault. Assumes nothing.
use Rattle.std.proofs.Common.{◌≡◌, ℕ, ◌<◌, Bool, true, not, ◌&&◌, ◌||◌, eqb, ltb, leb, List, [], ◌∷◌, ◌++◌, length, arith}
use Rattle.std.proofs.ByRecursion.{All-append}
use Rattle.std.specs.List.{range_with_len, flat_map, AllByRecursion}
use Rattle.table.specs.declared.fault.TableFault.{TableFault}
use Rattle.table.specs.declared.fault.TableFault.TheVariants.{NodeCount, RuleCount, UnknownKind, Misplaced, Window, LateOperand, TooLate, NoSuchNode, Unused, TooMuchMemory}
use Rattle.table.specs.Kinds.{past}
use Rattle.table.specs.Tables.{Table, size, node, rule_node}
use Rattle.table.specs.Lags.{worst, operands_worst}
use Rattle.table.specs.Places.{need}
use Rattle.table.specs.Refusals.{Test, placed, in_window, used, node_tests, rule_tests, use_tests, tests}
use Rattle.table.proofs.Firsts.{all_parts, all_joined, all_each}

-- of a table in which the nodes of `unknown` have a kind without meaning
module _ (unknown : ℕ → Bool) (t : Table) where
  -- whether the test of a fault finds it
  abbrev pub finds : TableFault → Bool
  finds NodeCount = eqb (size t) 0 || ltb 64 (size t)
  finds RuleCount = eqb (length t.rules) 0 || ltb 16 (length t.rules)
  finds (UnknownKind k) = unknown k
  finds (Misplaced k) = not (placed (node t k) k)
  finds (Window k) = not (in_window (node t k))
  finds (LateOperand k) = past (node t k).kind && ltb 0 (operands_worst t k)
  finds (TooLate k) = ltb 16383 (worst t k)
  finds (NoSuchNode r) = leb (size t) (rule_node t r)
  finds (Unused k) = not (used t k)
  finds TooMuchMemory = ltb 16384 (need t)

  -- the node or rule that it names is in the table
  abbrev pub InTable : TableFault → Type 0
  InTable NodeCount = Unit {0}
  InTable RuleCount = Unit {0}
  InTable (UnknownKind k) = k < size t
  InTable (Misplaced k) = k < size t
  InTable (Window k) = k < size t
  InTable (LateOperand k) = k < size t
  InTable (TooLate k) = k < size t
  InTable (NoSuchNode r) = r < length t.rules
  InTable (Unused k) = k < size t
  InTable TooMuchMemory = Unit {0}

  abbrev pub Found : TableFault → Type 0
  Found f = InTable f × (finds f ≡ true)

  abbrev pub test_of : TableFault → Test
  test_of f = record { fault = f; there = finds f }

  -- the tests of the nodes, the rules, the uses and the memory
  abbrev pub of_nodes : List Test
  of_nodes = flat_map (node_tests unknown t) (range_with_len 0 (size t))

  abbrev pub of_rules : List Test
  of_rules = flat_map (rule_tests (size t) t.rules) (range_with_len 0 (length t.rules))

  abbrev pub of_uses : List Test
  of_uses = flat_map (use_tests t) (range_with_len 0 (size t))

  abbrev pub of_memory : List Test
  of_memory = test_of TooMuchMemory ∷ []

  -- what is so of the test of each fault is so of all tests
  module _ (P : Test → Type 0) (each : (f : TableFault) → InTable f → P (test_of f)) where
    each_of_node : (k : ℕ) → k < size t → AllByRecursion P (node_tests unknown t k)
    each_of_node k h = (each (UnknownKind k) h, (each (Misplaced k) h, (each (Window k) h, (each (LateOperand k) h, (each (TooLate k) h, tt)))))

    all_nodes : AllByRecursion P of_nodes
    all_nodes = all_joined P (node_tests unknown t) 0 (size t) (λ k a b. each_of_node k (omega arith))

    all_rules : AllByRecursion P of_rules
    all_rules = all_joined P (rule_tests (size t) t.rules) 0 (length t.rules) (λ r a b. (each (NoSuchNode r) (omega arith), tt))

    all_uses : AllByRecursion P of_uses
    all_uses = all_joined P (use_tests t) 0 (size t) (λ k a b. (each (Unused k) (omega arith), tt))

    all_but_counts : AllByRecursion P (of_nodes ++ (of_rules ++ (of_uses ++ of_memory)))
    all_but_counts =
        All-append P of_nodes (of_rules ++ (of_uses ++ of_memory)) all_nodes
        (All-append P of_rules (of_uses ++ of_memory) all_rules
        (All-append P of_uses of_memory all_uses (each TooMuchMemory tt, tt)))

    pub all_tests : AllByRecursion P (tests unknown t)
    all_tests = (each NodeCount tt, (each RuleCount tt, all_but_counts))

  -- and the other way round
  module _ (P : Test → Type 0) (all : AllByRecursion P (tests unknown t)) where
    from_nodes : AllByRecursion P of_nodes × AllByRecursion P (of_rules ++ (of_uses ++ of_memory))
    from_nodes = all_parts P of_nodes (of_rules ++ (of_uses ++ of_memory)) all.1.1

    from_rules : AllByRecursion P of_rules × AllByRecursion P (of_uses ++ of_memory)
    from_rules = all_parts P of_rules (of_uses ++ of_memory) from_nodes.1

    from_uses : AllByRecursion P of_uses × AllByRecursion P of_memory
    from_uses = all_parts P of_uses of_memory from_rules.1

    node_each : (k : ℕ) → k < size t → AllByRecursion P (node_tests unknown t k)
    node_each k h = all_each P (node_tests unknown t) 0 (size t) from_nodes.0 k (omega arith) (omega arith)

    pub each_test : (f : TableFault) → InTable f → P (test_of f)
    each_test NodeCount h = all.0
    each_test RuleCount h = all.1.0
    each_test (UnknownKind k) h = (node_each k h).0
    each_test (Misplaced k) h = (node_each k h).1.0
    each_test (Window k) h = (node_each k h).1.1.0
    each_test (LateOperand k) h = (node_each k h).1.1.1.0
    each_test (TooLate k) h = (node_each k h).1.1.1.1.0
    each_test (NoSuchNode r) h = (all_each P (rule_tests (size t) t.rules) 0 (length t.rules) from_rules.0 r (omega arith) (omega arith)).0
    each_test (Unused k) h = (all_each P (use_tests t) 0 (size t) from_uses.0 k (omega arith) (omega arith)).0
    each_test TooMuchMemory h = from_uses.1.0
