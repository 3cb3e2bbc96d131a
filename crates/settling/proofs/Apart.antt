-- The records of a tick are in order, and equal neighbours are in one. Assumes nothing.
use Rattle.std.proofs.Common.{ℕ, zero, suc, ◌+◌, ◌<◌, List, [], ◌∷◌, length, sym, refl, ◌∙◌, inl, inr, arith}
use Rattle.std.specs.List.{range_with_len, flat_map, AllByRecursion}
use Rattle.std.proofs.ByRecursion.{All-weaker}
use Rattle.scale.specs.Order.{Scale, Lattice}
use Rattle.record.specs.declared.Record.{Record}
use Rattle.table.specs.Tables.{Table, rule_node}
use Rattle.settling.specs.Records.{newly_settled, rule_records, tick_records}
use Rattle.settling.specs.Settled.{settled, verdict}
use Rattle.settling.specs.Telling.{Follows, RunsApart}
use Rattle.settling.proofs.Lists.{all_joined}
use Rattle.settling.proofs.Merging.{Differ, differ_runs}
use Rattle.settling.proofs.Positions.{Tell, tell_runs, of_one_rule}
use Rattle.settling.proofs.Neighbours.{Linked, neighbours, linked_append}

module _ {V : Type 0} {s : Scale V} (o : Lattice s) (σ : ℕ → ℕ → V) (n : ℕ) (t : Table) where
  -- within a rule
  one_after_other : (r b c : ℕ) (v : ℕ → V) (ys : List (Record V)) → Tell r n v b c ys → Linked Differ ys → Linked Follows ys
  one_after_other r b c v [] tell differ = tt
  one_after_other r b c v (y ∷ []) tell differ = tt
  one_after_other r b c v (y ∷ z ∷ ys) tell differ =
      let rest = tell.2 in
      (inr (tell.0.rule ∙ sym rest.0.rule, rest.1, differ.0), one_after_other r (suc y.last) c v (z ∷ ys) rest differ.1)

  in_rule : (r : ℕ) → Linked Follows (rule_records s σ n t r)
  in_rule r =
      let k = rule_node t r in
      let v = verdict s σ (suc n) t k in
      let c = settled s σ n t k in
      let d = newly_settled s σ n t r in
      one_after_other r c (c + d) v (rule_records s σ n t r) (tell_runs o r n v c d _ refl) (differ_runs o r n v c d)

  -- rule after rule
  from_rule : (r c : ℕ) → Linked Follows (flat_map (rule_records s σ n t) (range_with_len r c))
  from_rule r zero = tt
  from_rule r (suc c) =
      let later : AllByRecursion (λ z. r < z.rule) (flat_map (rule_records s σ n t) (range_with_len (r + 1) c)) =
      all_joined _ (rule_records s σ n t) (r + 1) c (λ q i j. All-weaker _ _ (λ z e. omega (arith, e)) (rule_records s σ n t q) (of_one_rule o σ n t q)) in
      linked_append Follows (rule_records s σ n t r) _ (in_rule r) (from_rule (r + 1) c)
      (All-weaker _ _ (λ y e. All-weaker _ _ (λ z lt. inl (omega (arith, e, lt))) _ later) (rule_records s σ n t r) (of_one_rule o σ n t r))

pub runs_apart : {V : Type 0} → RunsApart V
unfolding tick_records
runs_apart s o t a σ n = neighbours Follows _ (from_rule o σ n t 0 (length t.rules))
