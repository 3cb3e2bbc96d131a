-- The check from its parts. Assumes nothing.
use Rattle.std.proofs.Common.{◌≡◌, ℕ, ◌<◌, ◌≤◌, Bool, true, false, ◌||◌, eqb, ltb, ◌⊎◌, List, [], ◌∷◌, ◌++◌, length, Some, None, sym, refl, ap, ◌∙◌, subst, ⊎_elim, arith}
use Rattle.std.proofs.lemmas.List.{length-map}
use Rattle.std.proofs.lemmas.Bool.{cases_Bool, cond-true, cond-false, or_left, or_right, or_from, eq-eqb, ne_eqb, lt-ltb, le-ltb}
use Rattle.std.specs.List.{range_with_len, flat_map}
use Rattle.table.specs.declared.fault.TableFault.TheVariants.{NodeCount, RuleCount, TooMuchMemory}
use Rattle.table.specs.declared.node.UncheckedNode.{UncheckedNode}
use Rattle.table.specs.Tables.{Table, size, as_node}
use Rattle.table.specs.Places.{need}
use Rattle.table.specs.Refusals.{Test, first, node_tests, rule_tests, use_tests, first_fault, unknown_kind}
use Rattle.table_check.specs.Judging.{of_lists, nodes_meant, node_fault, rule_fault, last_fault, found, or_else, PassedSoFar}
use Rattle.table.proofs.Firsts.{none_there, none_each, none_at_all}

-- the first of two lists of tests
first_append : (xs ys : List Test) → first (xs ++ ys) ≡ or_else (first xs) (first ys)
first_append [] ys = refl
first_append (x ∷ xs) ys =
    ⊎_elim
    (λ there. cond-true _ _ _ there ∙ sym (ap (λ o. or_else o (first ys)) (cond-true x.there (Some x.fault) (first xs) there)))
    (λ gone. cond-false _ _ _ gone ∙ first_append xs ys ∙ sym (ap (λ o. or_else o (first ys)) (cond-false x.there (Some x.fault) (first xs) gone)))
    (cases_Bool x.there)

-- there are from 1 to `most` of them
abbrev pub Counted : (n most : ℕ) → Type 0
Counted n most = (0 < n) × (n ≤ most)

abbrev pub Miscounted : (n most : ℕ) → Type 0
Miscounted n most = (n ≡ 0) ⊎ (most < n)

miscounted : (n most : ℕ) → Miscounted n most → (eqb n 0 || ltb most n) ≡ true
miscounted n most h = ⊎_elim (λ e. or_left _ _ (eq-eqb n 0 e)) (λ lt. or_right _ _ (lt-ltb most n lt)) h

counted : (n most : ℕ) → Counted n most → (eqb n 0 || ltb most n) ≡ false
counted n most h = or_from _ _ (ne_eqb n 0 (λ e. omega arith)) (le-ltb most n h.1)

module _ (written : List UncheckedNode) (rules : List ℕ) where
  abbrev table : Table
  table = of_lists (nodes_meant written) rules

  -- as many nodes as are written down
  as_many : size table ≡ length written
  as_many = length-map written as_node

  pub nodes_refused : Miscounted (length written) 64 → found written rules ≡ Some NodeCount
  unfolding first_fault
  nodes_refused h = cond-true _ _ _ (miscounted (size table) 64 (subst (λ n. Miscounted n 64) (sym as_many) h))

  module _ (some : Counted (length written) 64) where
    past_nodes : (eqb (size table) 0 || ltb 64 (size table)) ≡ false
    past_nodes = counted (size table) 64 (subst (λ n. Counted n 64) (sym as_many) some)

    pub rules_refused : Miscounted (length rules) 16 → found written rules ≡ Some RuleCount
    unfolding first_fault
    rules_refused h = cond-false _ _ _ past_nodes ∙ cond-true _ _ _ (miscounted (length rules) 16 h)

    module _ (ruled : Counted (length rules) 16) where
      parts : (unknown : ℕ → Bool) → first_fault unknown table ≡ or_else (first (flat_map (node_tests unknown table) (range_with_len 0 (length written)))) (or_else (rule_fault (length written) rules) (last_fault table))
      unfolding first_fault
      parts unknown =
          let nodes = node_tests unknown table in
          let memory = record { fault = TooMuchMemory; there = ltb 16384 (need table) } ∷ [] in
          cond-false _ _ _ past_nodes
          ∙ cond-false _ _ _ (counted (length rules) 16 ruled)
          ∙ first_append (flat_map nodes (range_with_len 0 (size table))) _
          ∙ ap (or_else _) (first_append (flat_map (rule_tests (size table) rules) (range_with_len 0 (length rules))) _ ∙ ap (or_else _) (first_append (flat_map (use_tests table) (range_with_len 0 (size table))) memory))
          ∙ ap (λ n. or_else (first (flat_map nodes (range_with_len 0 n))) (or_else (rule_fault n rules) (last_fault table))) as_many

      -- the nodes, then the rules, then the rest
      pub by_parts : found written rules ≡ or_else (node_fault written) (or_else (rule_fault (length written) rules) (last_fault table))
      by_parts = parts (unknown_kind written)

      -- where nodes and rules pass, so they do without the tests of their kinds
      pub so_far : node_fault written ≡ None → rule_fault (length written) rules ≡ None → PassedSoFar table
      so_far nodes named = parts (λ k. false) ∙ ap (λ o. or_else o (or_else (rule_fault (length written) rules) (last_fault table))) known ∙ ap (λ o. or_else o (last_fault table)) named
        where
          without_kind : (k : ℕ) → first (node_tests (unknown_kind written) table k) ≡ None → first (node_tests (λ k. false) table k) ≡ None
          without_kind k h = sym (cond-false _ _ _ (none_there (node_tests (unknown_kind written) table k) h).0) ∙ h

          known : first (flat_map (node_tests (λ k. false) table) (range_with_len 0 (length written))) ≡ None
          known = none_at_all (node_tests (λ k. false) table) 0 (length written) (λ j a b. without_kind j (none_each (node_tests (unknown_kind written) table) 0 (length written) nodes j a b))
