-- The answer of the check means what it says, and a table passes if and only if it is accepted. Assumes nothing.
use Rattle.std.proofs.Common.{◌≡◌, ℕ, ◌<◌, ◌≤◌, Bool, true, false, not, leb, ◌↔◌, length, get_or, is_some, Some, None, vec_items, Decides, Option, refl, ap, arith}
use Rattle.std.proofs.lemmas.List.{length-map, get_or-map}
use Rattle.std.proofs.lemmas.Bool.{both_ways, false≢true}
use Rattle.std.proofs.lemmas.Bool.Decides.{Decides-at, Decides-not, Decides-and, Decides-ltb}
use Rattle.table.specs.declared.fault.TableFault.{TableFault}
use Rattle.table.specs.declared.fault.TableFault.TheVariants.{NodeCount, RuleCount, UnknownKind, Misplaced, Window, LateOperand, TooLate, NoSuchNode, Unused, TooMuchMemory}
use Rattle.table.specs.declared.node.UncheckedTable.{UncheckedTable}
use Rattle.table.specs.Kinds.{past}
use Rattle.table.specs.Tables.{Table, size, node, rule_node, as_node, meant}
use Rattle.table.specs.Lags.{worst, operands_worst}
use Rattle.table.specs.Places.{need}
use Rattle.table.specs.Refusals.{unknown_kind, first_fault}
use Rattle.table.specs.Checking.{unwritten, There, Checked, Passed}
use Rattle.table.proofs.Reflecting.{decides_leb, decides_itself, decides_miscounted, decides_placed, decides_outside, decides_used}
use Rattle.table.proofs.Listing.{Found}
use Rattle.table.proofs.Finding.{none_found, found_none, answer_found, answer_first}
use Rattle.table.proofs.Accepts.{none_accepted, accepted_none}

-- a test of the whole table, and one of a node or rule in it
of_all : {P : Type 0} (b : Bool) → Decides b P → P ↔ (Unit {0} × (b ≡ true))
of_all b d = (λ p. (tt, d.1 p), λ q. d.0 q.1)

of_one : {N P : Type 0} (b : Bool) → (N → Decides b P) → (N × P) ↔ (N × (b ≡ true))
of_one b d = (λ p. (p.0, (d p.0).1 p.1), λ q. (q.0, (d q.0).0 q.1))

module _ (u : UncheckedTable) where
  abbrev t : Table
  t = meant u

  abbrev unknown : ℕ → Bool
  unknown = unknown_kind (vec_items u.nodes)

  decides_unknown : (k : ℕ) → k < size t → Decides (unknown k) (10 ≤ (get_or (vec_items u.nodes) k unwritten).kind)
  decides_unknown k h =
      let written = vec_items u.nodes in
      let inside : k < length written = omega (arith, length-map written as_node) in
      Decides-at _ _ (ap (leb 10) (get_or-map (λ x. x.kind) written k unwritten 0 inside)) (decides_leb 10 _)

  -- a fault is there if and only if its test finds it
  there_found : (f : TableFault) → There u f ↔ Found unknown t f
  there_found NodeCount = of_all _ (decides_miscounted (size t) 64)
  there_found RuleCount = of_all _ (decides_miscounted (length t.rules) 16)
  there_found (UnknownKind k) = of_one _ (decides_unknown k)
  there_found (Misplaced k) = of_one _ (λ h. Decides-not _ (decides_placed (node t k) k))
  there_found (Window k) = of_one _ (λ h. decides_outside (node t k).from (node t k).to)
  there_found (LateOperand k) =
      let late = Decides-and _ _ (decides_itself (past (node t k).kind)) (Decides-ltb 0 (operands_worst t k)) in
      (λ p. (p.0, late.1 (p.1, p.2)), λ q. (q.0, (late.0 q.1).0, (late.0 q.1).1))
  there_found (TooLate k) = of_one _ (λ h. Decides-ltb 16383 (worst t k))
  there_found (NoSuchNode r) = of_one _ (λ h. decides_leb (size t) (rule_node t r))
  there_found (Unused k) = of_one _ (λ h. Decides-not _ (decides_used t k))
  there_found TooMuchMemory = of_all _ (Decides-ltb 16384 (need t))

pub checked : Checked
checked u = record {
  clean = λ e f h. let p = (there_found u f).0 h in both_ways _ (none_found (unknown u) (t u) e f p.0) p.1;
  passed = λ none. found_none (unknown u) (t u) (λ f p. none f ((there_found u f).1 p));
  there = λ f e. (there_found u f).1 (answer_found (unknown u) (t u) f e);
  first = λ f g e before h. answer_first (unknown u) (t u) f e g ((there_found u g).0 h) before;
  accepted = λ e. none_accepted (unknown u) (t u) (none_found (unknown u) (t u) e);
}

decides_none : (o : Option TableFault) → Decides (not (is_some o)) (o ≡ None)
decides_none None = (λ e. refl, λ e. refl)
decides_none (Some f) = (λ e. absurd (false≢true e), λ e. cc)

pub passed : Passed
passed t = record {
  accepted = λ e. none_accepted (λ k. false) t (none_found (λ k. false) t ((decides_none (first_fault (λ k. false) t)).0 e));
  passed = λ a. (decides_none (first_fault (λ k. false) t)).1 (found_none (λ k. false) t (accepted_none t a));
}
