-- The tests of all nodes in their order: what holds after each. Assumes nothing.
use Rattle.std.proofs.Common.{◌≡◌, ℕ, ◌+◌, ◌<◌, ◌≤◌, true, false, cond, ◌&&◌, eqb, ltb, leb, ◌≢◌, List, [], ◌∷◌, ◌++◌, length, get_or, take, set, replicate, Some, None, sym, refl, ap, ◌∙◌, subst, ap₂, ⊎_elim, arith}
use Rattle.std.proofs.lemmas.List.{length-set, length-map, get_or-set_same, get_or-set_other, get_or-take, get_or_past, get_or-map, get_or-replicate, length-take, length-take-le, take_more, take_more_set, take-take, take_all, ext_get_or}
use Rattle.std.proofs.lemmas.Bool.{cases_Bool, cases_lt, cases_eq, cases_order, cond-true, cond-false, and_left, and_parts, not-false, ltb-true}
use Rattle.table.specs.declared.fault.TableFault.{TableFault}
use Rattle.table.specs.declared.fault.TableFault.TheVariants.{LateOperand, TooLate}
use Rattle.table.specs.declared.kind.Kind.{Kind}
use Rattle.table.specs.declared.kind.Kind.TheVariants.{Sample, Not, And, Or, Within, Always, Until, Once, Held, Since}
use Rattle.table.specs.declared.node.Lag.{Lag}
use Rattle.table.specs.declared.node.Node.{Node}
use Rattle.table.specs.declared.node.UncheckedNode.{UncheckedNode}
use Rattle.table.specs.Kinds.{binary, sampled, past}
use Rattle.table.specs.Tables.{Table, blank, node, as_node}
use Rattle.table.specs.Lags.{no_lag, lag_of, lags, greatest_operand, operands_worst, worst}
use Rattle.table.specs.Refusals.{first, own_tests, lag_tests, node_tests, unknown_kind}
use Rattle.table.specs.Checking.{unwritten}
use Rattle.table_check.specs.Judging.{of_lists, nodes_meant, node_fault}
use Rattle.table.proofs.Entries.{entry_is, length_each}
use Rattle.table.proofs.Firsts.{none_there, first_none, first_some, none_at_all, some_at}

-- a sample does not look back
sampled_now : (k : Kind) → sampled k ≡ true → past k ≡ false
sampled_now Sample e = refl
sampled_now Not e = refl
sampled_now And e = refl
sampled_now Or e = refl
sampled_now Within e = refl
sampled_now Always e = refl
sampled_now Until e = refl
sampled_now Once e = sym e
sampled_now Held e = sym e
sampled_now Since e = sym e

-- after i nodes, none of which is faulty: what is in the two arrays
pub record Judging (written : List UncheckedNode) (i : ℕ) (nodes : List Node) (done : List Lag) : Type 0 where
  pub nodes_long : length nodes ≡ 64
  pub lags_long : length done ≡ 64
  pub nodes_are : take i nodes ≡ take i (nodes_meant written)
  pub lags_are : (k : ℕ) → get_or done k no_lag ≡ get_or (take i (lags (nodes_meant written))) k no_lag
  pub rising : (k : ℕ) → (get_or done k no_lag).best ≤ (get_or done k no_lag).worst
  pub soon : (k : ℕ) → (get_or done k no_lag).worst ≤ 16383
  pub clean : (k : ℕ) → k < i → first (node_tests (unknown_kind written) (of_lists (nodes_meant written) []) k) ≡ None

-- A node that is written down at place i, and the lags of its operands as far as they are worked out.
module _ (written : List UncheckedNode) (i : ℕ) (h : i < length written) where
  abbrev one : UncheckedNode
  one = get_or written i unwritten

  abbrev table : Table
  table = of_lists (nodes_meant written) []

  abbrev so_far : ℕ → Lag
  so_far k = get_or (take i (lags (nodes_meant written))) k no_lag

  in_nodes : i < length (nodes_meant written)
  in_nodes = omega (arith, length-map written as_node)

  is_node : as_node one ≡ node table i
  is_node = sym (get_or-map as_node written i unwritten blank h)

  is_known : leb 10 one.kind ≡ unknown_kind written i
  is_known = sym (ap (leb 10) (get_or-map (λ x. x.kind) written i unwritten 0 h))

  -- its lag, from those of its operands
  pub own_lag : lag_of i (as_node one) (so_far one.left) (so_far one.right) ≡ get_or (lags (nodes_meant written)) i no_lag
  unfolding lags
  own_lag =
      subst (λ x. lag_of i x (so_far x.left) (so_far x.right) ≡ get_or (lags (nodes_meant written)) i no_lag) (sym is_node)
      (sym (entry_is no_lag lag_of (nodes_meant written) blank i in_nodes no_lag))

  module _ (k : Kind) (l r : ℕ) (left : cond (sampled k) (leb l 31) (ltb l i) ≡ true) (right : cond (binary k) (ltb r i) (eqb r 0) ≡ true) where
    left_below : sampled k ≡ false → l < i
    left_below e = ltb-true _ _ (sym (cond-false _ _ _ e) ∙ left)

    right_below : binary k ≡ true → r < i
    right_below e = ltb-true _ _ (sym (cond-true _ _ _ e) ∙ right)

    -- the operands stand before it, so their lags are there already
    operands_there : sampled k ≡ false → greatest_operand k (so_far l).worst (so_far r).worst ≡ greatest_operand k (worst table l) (worst table r)
    operands_there e =
        let all = lags (nodes_meant written) in
        let same_left : (so_far l).worst ≡ worst table l = ap (λ q. q.worst) (get_or-take i all l no_lag (left_below e)) in
        ⊎_elim
        (λ b. ap₂ (greatest_operand k) same_left (ap (λ q. q.worst) (get_or-take i all r no_lag (right_below b))))
        (λ b. cond-false _ _ _ b ∙ same_left ∙ sym (cond-false _ _ _ b))
        (cases_Bool (binary k))

    late_same : (past k && ltb 0 (greatest_operand k (so_far l).worst (so_far r).worst)) ≡ (past k && ltb 0 (greatest_operand k (worst table l) (worst table r)))
    late_same =
        ⊎_elim
        (λ e. let now : past k ≡ false = sampled_now k e in and_left _ _ now ∙ sym (and_left _ _ now))
        (λ e. ap (λ n. past k && ltb 0 n) (operands_there e))
        (cases_Bool (sampled k))

  -- if its own tests find nothing, the tests by its lag decide
  pub lags_decide : first (own_tests (leb 10 one.kind) (as_node one) i) ≡ None → let x = as_node one in let l = so_far one.left in let r = so_far one.right in first (node_tests (unknown_kind written) table i) ≡ first (lag_tests x (greatest_operand x.kind l.worst r.worst) (lag_of i x l r).worst i)
  lags_decide none =
      let x = as_node one in
      let own = own_tests (leb 10 one.kind) x i in
      let fine = and_parts _ _ (not-false _ (none_there own none).1.0) in
      let late = late_same x.kind x.left x.right fine.0 (and_parts _ _ fine.1).0 in
      (λ j. first (own_tests (sym is_known j) (sym is_node j) i ++ lag_tests (sym is_node j) (greatest_operand (sym is_node j).kind (worst table (sym is_node j).left) (worst table (sym is_node j).right)) (worst table i) i))
      ∙ first_none own (lag_tests x (greatest_operand x.kind (worst table x.left) (worst table x.right)) (worst table i) i) none
      ∙ (λ j. first (record { fault = LateOperand i; there = sym late j } ∷ record { fault = TooLate i; there = ltb 16383 (sym own_lag j).worst } ∷ []))

  -- and if they find something, that is it
  pub own_decide : (f : TableFault) → first (own_tests (leb 10 one.kind) (as_node one) i) ≡ Some f → first (node_tests (unknown_kind written) table i) ≡ Some f
  own_decide f some = first_some (own_tests (unknown_kind written i) (node table i) i) (lag_tests (node table i) (operands_worst table i) (worst table i) i) f (ap₂ (λ u x. first (own_tests u x i)) (sym is_known) (sym is_node) ∙ some)

-- the arrays before the first node, after one more, and at the end
pub judging_start : (written : List UncheckedNode) → Judging written 0 (replicate 64 blank) (replicate 64 no_lag)
judging_start written = record {
  nodes_long = refl;
  lags_long = refl;
  nodes_are = refl;
  lags_are = nothing;
  rising = λ k. subst (λ (l : Lag). l.best ≤ l.worst) (sym (nothing k)) (omega arith);
  soon = λ k. subst (λ (l : Lag). l.worst ≤ 16383) (sym (nothing k)) (omega arith);
  clean = λ k h. absurd (omega arith);
}
  where
    nothing : (k : ℕ) → get_or (replicate 64 no_lag) k no_lag ≡ no_lag
    nothing k =
        ⊎_elim
        (λ lt. get_or-replicate 64 k no_lag no_lag lt)
        (λ ge. get_or_past (replicate 64 no_lag) k no_lag ge)
        (cases_lt k 64)

module _ (written : List UncheckedNode) (i : ℕ) (nodes : List Node) (done : List Lag) (j : Judging written i nodes done) (few : length written ≤ 64) where
  module _ (h : i < length written) (n : Node) (l r : Lag) (is : n ≡ as_node (get_or written i unwritten)) (left : l ≡ get_or done n.left no_lag) (right : r ≡ get_or done n.right no_lag) where
    -- the lags that were looked up
    looked_up : (k : ℕ) (q : Lag) → q ≡ get_or done k no_lag → q ≡ so_far written i h k
    looked_up k q e = e ∙ j.lags_are k

    abbrev Seen : Node → Lag → Lag → Type 0
    Seen n l r = (lag_of i n l r ≡ get_or (lags (nodes_meant written)) i no_lag) × (None ≡ first (own_tests (leb 10 (get_or written i unwritten).kind) (as_node (get_or written i unwritten)) i) → first (node_tests (unknown_kind written) (of_lists (nodes_meant written) []) i) ≡ first (lag_tests n (greatest_operand n.kind l.worst r.worst) (lag_of i n l r).worst i))

    -- the lag that comes of them, and what the tests of the node then find
    pub seen : Seen n l r
    seen =
        let here : Seen (as_node (one written i h)) (so_far written i h (one written i h).left) (so_far written i h (one written i h).right) = (own_lag written i h, λ none. lags_decide written i h (sym none)) in
        let at_left = looked_up n.left l left in
        let at_right = looked_up n.right r right in
        subst (λ q. Seen n q r) (sym at_left) (subst (Seen n (so_far written i h n.left)) (sym at_right)
        (subst (λ x. Seen x (so_far written i h x.left) (so_far written i h x.right)) (sym is) here))

  pub judging_step : i < length written → (lag : Lag) → lag ≡ get_or (lags (nodes_meant written)) i no_lag → lag.best ≤ lag.worst → lag.worst ≤ 16383 → first (node_tests (unknown_kind written) (of_lists (nodes_meant written) []) i) ≡ None → Judging written (i + 1) (set nodes i (as_node (get_or written i unwritten))) (set done i lag)
  unfolding lags
  judging_step h lag is rises fits none = record {
    nodes_long = length-set nodes i (as_node (one written i h)) ∙ j.nodes_long;
    lags_long = length-set done i lag ∙ j.lags_long;
    nodes_are =
        take_more_set nodes i (as_node (one written i h)) (omega (arith, j.nodes_long))
        ∙ ap₂ (λ l x. l ++ x ∷ []) j.nodes_are (is_node written i h)
        ∙ sym (take_more (nodes_meant written) i blank (in_nodes written i h));
    lags_are = λ k.
        ⊎_elim
        (λ e. let own = get_or-set_same done i lag no_lag (omega (arith, j.lags_long)) in
        ap (λ q. get_or (set done i lag) q no_lag) e ∙ own ∙ is ∙ sym (get_or-take (i + 1) all i no_lag (omega arith)) ∙ ap (λ q. get_or (take (i + 1) all) q no_lag) (sym e))
        (⊎_elim
        (λ lt. unchanged k (omega arith) ∙ get_or-take i all k no_lag lt ∙ sym (get_or-take (i + 1) all k no_lag (omega arith)))
        (λ gt. unchanged k (omega arith) ∙ get_or_past (take i all) k no_lag (omega (arith, length-take i all)) ∙ sym (get_or_past (take (i + 1) all) k no_lag (omega (arith, length-take (i + 1) all)))))
        (cases_order k i);
    rising = λ k. after_set (λ l. l.best ≤ l.worst) k rises (j.rising k);
    soon = λ k. after_set (λ l. l.worst ≤ 16383) k fits (j.soon k);
    clean = λ k lt. ⊎_elim (λ e. ap (λ q. first (node_tests (unknown_kind written) (of_lists (nodes_meant written) []) q)) e ∙ none) (λ ne. j.clean k (omega arith)) (cases_eq k i);
  }
    where
      all : List Lag
      all = lags (nodes_meant written)

      unchanged : (k : ℕ) → k ≢ i → get_or (set done i lag) k no_lag ≡ get_or (take i all) k no_lag
      unchanged k ne = get_or-set_other done i k lag no_lag ne ∙ j.lags_are k

      after_set : (P : Lag → Type 0) (k : ℕ) → P lag → P (get_or done k no_lag) → P (get_or (set done i lag) k no_lag)
      after_set P k new old =
          ⊎_elim
          (λ e. subst P (sym (ap (λ q. get_or (set done i lag) q no_lag) e ∙ get_or-set_same done i lag no_lag (omega (arith, j.lags_long)))) new)
          (λ ne. subst P (sym (get_or-set_other done i k lag no_lag ne)) old)
          (cases_eq k i)

  pub judged_nodes : length written ≤ i → take (length written) nodes ≡ nodes_meant written
  judged_nodes h =
      let n = length written in
      sym (take-take n i nodes h)
      ∙ ap (take n) j.nodes_are
      ∙ take-take n i (nodes_meant written) h
      ∙ take_all n (nodes_meant written) (omega (arith, length-map written as_node))

  pub judged_lags : length written ≤ i → take (length written) done ≡ lags (nodes_meant written)
  unfolding lags
  judged_lags h =
      let n = length written in
      let all = lags (nodes_meant written) in
      let short : length (take n done) ≡ n = length-take-le n done (omega (arith, j.lags_long)) in
      let whole : length all ≡ n = length_each no_lag lag_of (nodes_meant written) ∙ length-map written as_node in
      ext_get_or no_lag (take n done) all (short ∙ sym whole) (λ k lt.
      get_or-take n done k no_lag (omega arith) ∙ j.lags_are k ∙ get_or-take i all k no_lag (omega arith))

  -- the first fault of all, where node i has it
  pub judging_stops : i < length written → (f : TableFault) → first (node_tests (unknown_kind written) (of_lists (nodes_meant written) []) i) ≡ Some f → node_fault written ≡ Some f
  judging_stops h f some = some_at (node_tests (unknown_kind written) (of_lists (nodes_meant written) [])) 0 (length written) i f (omega arith) (omega arith) (λ q a b. j.clean q b) some

  pub judging_ends : length written ≤ i → node_fault written ≡ None
  judging_ends h = none_at_all (node_tests (unknown_kind written) (of_lists (nodes_meant written) [])) 0 (length written) (λ q a b. j.clean q (omega arith))
