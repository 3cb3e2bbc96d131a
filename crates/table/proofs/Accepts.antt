-- A table is accepted if and only if no test finds a fault in it. Assumes nothing.
use Rattle.std.proofs.Common.{◌≡◌, ℕ, ◌<◌, ◌≤◌, Bool, false, ltb, length, arith}
use Rattle.std.proofs.lemmas.Bool.{false≢true, not-true, not-false, and_parts, ltb-true, ltb-false, leb-true, leb-false, both_ways}
use Rattle.table.specs.declared.fault.TableFault.{TableFault}
use Rattle.table.specs.declared.fault.TableFault.TheVariants.{NodeCount, RuleCount, UnknownKind, Misplaced, Window, LateOperand, TooLate, NoSuchNode, Unused, TooMuchMemory}
use Rattle.table.specs.Kinds.{shape, past}
use Rattle.table.specs.Tables.{Table, size, node, rule_node}
use Rattle.table.specs.Lags.{worst, operands_worst}
use Rattle.table.specs.Places.{need}
use Rattle.table.specs.Accepting.{Accepted}
use Rattle.table.specs.Checking.{Placed, WindowPlaced}
use Rattle.table.proofs.Reflecting.{decides_miscounted, decides_placed, decides_outside, decides_used, window_fits, fits_window, counted, inside, not_late}
use Rattle.table.proofs.Listing.{InTable, finds, Found}

module _ (unknown : ℕ → Bool) (t : Table) (gone : (f : TableFault) → InTable unknown t f → finds unknown t f ≡ false) where
  placed_well : (k : ℕ) → k < size t → Placed (node t k) k
  placed_well k h = (decides_placed (node t k) k).0 (not-false _ (gone (Misplaced k) h))

  in_range : (k : ℕ) → k < size t → ((node t k).from ≤ (node t k).to) × ((node t k).to ≤ 4095)
  in_range k h = inside (node t k).from (node t k).to (gone (Window k) h)

  pub none_accepted : Accepted t
  none_accepted = record {
    some_nodes = (counted (size t) 64 (gone NodeCount tt)).0;
    few_nodes = (counted (size t) 64 (gone NodeCount tt)).1;
    some_rules = (counted (length t.rules) 16 (gone RuleCount tt)).0;
    few_rules = (counted (length t.rules) 16 (gone RuleCount tt)).1;
    left = λ k h. (placed_well k h).left;
    right = λ k h. (placed_well k h).right;
    windows = λ k h. window_fits (shape (node t k).kind).sort (node t k).from (node t k).to (placed_well k h).window (in_range k h).0;
    near = λ k h. (in_range k h).1;
    prompt = λ k h. not_late (past (node t k).kind) (operands_worst t k) (gone (LateOperand k) h);
    soon = λ k h. ltb-false 16383 (worst t k) (gone (TooLate k) h);
    rules_fit = λ r h. leb-false (size t) (rule_node t r) (gone (NoSuchNode r) h);
    uses = λ k h. (decides_used t k).0 (not-false _ (gone (Unused k) h));
    fits = ltb-false 16384 (need t) (gone TooMuchMemory tt);
  }

module _ (t : Table) (a : Accepted t) where
  fitting : (k : ℕ) → k < size t → WindowPlaced (shape (node t k).kind).sort (node t k).from (node t k).to × ((node t k).from ≤ (node t k).to)
  fitting k h = fits_window (shape (node t k).kind).sort (node t k).from (node t k).to (a.windows k h)

  pub accepted_none : (f : TableFault) → Found (λ k. false) t f → ⊥
  accepted_none NodeCount h = omega (arith, (decides_miscounted (size t) 64).0 h.1, a.some_nodes, a.few_nodes)
  accepted_none RuleCount h = omega (arith, (decides_miscounted (length t.rules) 16).0 h.1, a.some_rules, a.few_rules)
  accepted_none (UnknownKind k) h = false≢true h.1
  accepted_none (Misplaced k) h =
      let well : Placed (node t k) k = record { left = a.left k h.0; right = a.right k h.0; window = (fitting k h.0).0 } in
      both_ways _ (not-true _ h.1) ((decides_placed (node t k) k).1 well)
  accepted_none (Window k) h = omega (arith, (decides_outside (node t k).from (node t k).to).0 h.1, (fitting k h.0).1, a.near k h.0)
  accepted_none (LateOperand k) h =
      let late = and_parts (past (node t k).kind) (ltb 0 (operands_worst t k)) h.1 in
      omega (arith, ltb-true 0 (operands_worst t k) late.1, a.prompt k h.0 late.0)
  accepted_none (TooLate k) h = omega (arith, ltb-true 16383 (worst t k) h.1, a.soon k h.0)
  accepted_none (NoSuchNode r) h = omega (arith, leb-true (size t) (rule_node t r) h.1, a.rules_fit r h.0)
  accepted_none (Unused k) h = both_ways _ (not-true _ h.1) ((decides_used t k).1 (a.uses k h.0))
  accepted_none TooMuchMemory h = omega (arith, ltb-true 16384 (need t) h.1, a.fits)
