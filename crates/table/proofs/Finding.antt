-- What the first fault of a table says of all its tests. Assumes nothing.
use Rattle.std.proofs.Common.{◌≡◌, ℕ, ◌+◌, Bool, true, false, ◌++◌, length, Some, None, ⊎_elim, arith}
use Rattle.std.proofs.lemmas.Bool.{cases_Bool}
use Rattle.table.specs.declared.fault.TableFault.{TableFault}
use Rattle.table.specs.declared.fault.TableFault.TheVariants.{NodeCount, RuleCount, UnknownKind, TooLate, NoSuchNode, Unused}
use Rattle.table.specs.Tables.{Table, size}
use Rattle.table.specs.Refusals.{node_tests, rule_tests, use_tests, tests, first_fault}
use Rattle.table.specs.Checking.{Before}
use Rattle.table.proofs.Firsts.{Absent, none_there, first_absent, first_holds}
use Rattle.table.proofs.Rising.{Upto, Rising, rising_from, rising_joined, first_leads, not_before}
use Rattle.table.proofs.Listing.{finds, InTable, Found, of_nodes, of_rules, of_uses, of_memory, all_tests, each_test}

module _ (unknown : ℕ → Bool) (t : Table) where
  -- the tests are made in the order of their faults
  uses_rise : Rising (Unused 0) (of_uses unknown t ++ of_memory unknown t)
  uses_rise =
      rising_joined (use_tests t) Unused
      (λ k ts r. (omega arith, rising_from (Unused k) (Unused (k + 1)) ts (omega arith) r))
      (of_memory unknown t) (λ k. (omega arith, tt)) 0 (size t)

  rules_rise : Rising (NoSuchNode 0) (of_rules unknown t ++ (of_uses unknown t ++ of_memory unknown t))
  rules_rise =
      rising_joined (rule_tests (size t) t.rules) NoSuchNode
      (λ r ts h. (omega arith, rising_from (NoSuchNode r) (NoSuchNode (r + 1)) ts (omega arith) h))
      _ (λ r. rising_from (NoSuchNode r) (Unused 0) _ (omega arith) uses_rise) 0 (length t.rules)

  nodes_rise : Rising (UnknownKind 0) (of_nodes unknown t ++ (of_rules unknown t ++ (of_uses unknown t ++ of_memory unknown t)))
  nodes_rise =
      rising_joined (node_tests unknown t) UnknownKind
      (λ k ts r. (omega arith, (omega arith, (omega arith, (omega arith, (omega arith, rising_from (TooLate k) (UnknownKind (k + 1)) ts (omega arith) r))))))
      _ (λ k. rising_from (UnknownKind k) (NoSuchNode 0) _ (omega arith) rules_rise) 0 (size t)

  tests_rise : Rising NodeCount (tests unknown t)
  tests_rise = (omega arith, (omega arith, rising_from RuleCount (UnknownKind 0) _ (omega arith) nodes_rise))

  -- without an answer no test finds anything, and the other way round
  pub none_found : first_fault unknown t ≡ None → (f : TableFault) → InTable unknown t f → finds unknown t f ≡ false
  unfolding first_fault
  none_found e f h = each_test unknown t Absent (none_there (tests unknown t) e) f h

  pub found_none : ((f : TableFault) → Found unknown t f → ⊥) → first_fault unknown t ≡ None
  unfolding first_fault
  found_none none =
      first_absent (tests unknown t) (all_tests unknown t Absent (λ f h.
      ⊎_elim (λ there. absurd (none f (h, there))) (λ gone. gone) (cases_Bool (finds unknown t f))))

  -- the fault that is answered is found, and none before it
  pub answer_found : (f : TableFault) → first_fault unknown t ≡ Some f → Found unknown t f
  unfolding first_fault
  answer_found f e = first_holds (Found unknown t) f (tests unknown t) (all_tests unknown t (λ s. s.there ≡ true → Found unknown t s.fault) (λ g h there. (h, there))) e

  pub answer_first : (f : TableFault) → first_fault unknown t ≡ Some f → (g : TableFault) → Found unknown t g → Before g f → ⊥
  unfolding first_fault
  answer_first f e g h before =
      let leads = first_leads NodeCount f (tests unknown t) tests_rise e in
      not_before f g (each_test unknown t (λ s. s.there ≡ true → Upto f s.fault) leads g h.0 h.1) before
