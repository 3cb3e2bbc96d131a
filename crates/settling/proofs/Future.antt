-- What is settled, told, read early and counted after m ticks does not depend on later samples. Assumes nothing.
use Rattle.std.proofs.Common.{◌≡◌, ℕ, suc, ◌<◌, ◌≤◌, List, [], ◌∷◌, map, length, get_or, sym, refl, ap, ◌∙◌, ap₂, ⊎_elim, arith}
use Rattle.std.proofs.lemmas.Bool.{cases_lt}
use Rattle.scale.specs.Order.{Scale, Lattice, same}
use Rattle.table.specs.Accepting.{Accepted}
use Rattle.table.specs.declared.node.Node.{Node}
use Rattle.table.specs.Kinds.{turned}
use Rattle.table.specs.Tables.{Table, size, node, rule_node}
use Rattle.table.specs.Values.{value_at}
use Rattle.table.proofs.Entries.{by_number}
use Rattle.settling.specs.Early.{Ends, both_ends, from_ends, ends}
use Rattle.settling.specs.Records.{runs, newly_settled, rule_records, tick_records, expected}
use Rattle.settling.specs.Settled.{seen, worked_out, state, settled, verdict}
use Rattle.settling.specs.Statements.{Agree}
use Rattle.settling.specs.Telling.{Unforeseen}
use Rattle.settling.specs.Totals.{rule_total, totals}
use Rattle.settling.proofs.Early.{turned_round, ends_at_once, ends_later}
use Rattle.settling.proofs.Lasting.{lasting, agree_itself}
use Rattle.settling.proofs.Leading.{leading_same}
use Rattle.settling.proofs.Lists.{joined_same}
use Rattle.settling.proofs.Merging.{same_runs}
use Rattle.settling.proofs.Nodes.{unsampled, operands_before, settled_later, settled_at_once}
use Rattle.settling.proofs.Soundness.{sound}
use Rattle.settling.proofs.Sorts.{Inner, Later, once_or_later}
use Rattle.settling.proofs.Twice.{seen_in, seen_out, local}

pub sooner : {V : Type 0} (n m : ℕ) (t : Table) (σ σ' : ℕ → ℕ → V) → n ≤ m → Agree m t σ σ' → Agree n t σ σ'
sooner n m t σ σ' le agree k i h e lt = agree k i h e (omega arith)

module _ {V : Type 0} {s : Scale V} (o : Lattice s) {t : Table} (a : Accepted t) (σ σ' : ℕ → ℕ → V) where
  -- settled counts and verdicts
  module _ (m : ℕ) (agree : Agree m t σ σ') where
    abbrev Equal : ℕ → Type 0
    Equal k = settled s σ m t k ≡ settled s σ' m t k

    same_verdict : (k p : ℕ) → k < size t → p < settled s σ m t k → p < settled s σ' m t k → verdict s σ m t k p ≡ verdict s σ' m t k p
    same_verdict k p h i j = sound s o t a σ σ' m agree k p h i ∙ sym (sound s o t a σ' σ' m (agree_itself m t σ') k p h j)

    same_seen : (y : V) (k p : ℕ) → k < size t → Equal k → seen y (settled s σ m t k) (verdict s σ m t k) p ≡ seen y (settled s σ' m t k) (verdict s σ' m t k) p
    same_seen y k p h e =
        ⊎_elim
        (λ lt.
        let lt' : p < settled s σ' m t k = omega arith in
        seen_in y _ (verdict s σ m t k) p lt ∙ same_verdict k p h lt lt' ∙ sym (seen_in y _ (verdict s σ' m t k) p lt'))
        (λ ge.
        let ge' : settled s σ' m t k ≤ p = omega arith in
        seen_out y _ (verdict s σ m t k) p ge ∙ sym (seen_out y _ (verdict s σ' m t k) p ge'))
        (cases_lt p (settled s σ m t k))

    same_later : (k : ℕ) → k < size t → Later (node t k).kind → ((j : ℕ) → j < k → Equal j) → Equal k
    same_later k h later before =
        let x = node t k in
        let b = operands_before a k h later.2 in
        let out : (y : V) (i : ℕ) → worked_out s σ y x (state s σ m t x.left) (state s σ m t x.right) i ≡ worked_out s σ' y x (state s σ' m t x.left) (state s σ' m t x.right) i =
        λ y i.
        local o x (a.windows k h) σ i _ _ _ _
        (λ p d. same_seen y x.left p (omega arith) (before _ b.0))
        (λ w p d. same_seen y x.right p (omega arith) (before _ b.1))
        ∙ unsampled s x.left x.from x.to _ _ i x.kind σ σ' later.2 in
        settled_later a k h s σ m later
        ∙ leading_same _ _ 0 m (λ i. ap₂ (same s) (out s.lowest i) (out s.highest i))
        ∙ sym (settled_later a k h s σ' m later)

    same_count : (k : ℕ) → k < size t → Equal k
    same_count = by_number Equal (size t) (λ k h before.
        ⊎_elim
        (λ e. settled_at_once a k h s σ m e ∙ sym (settled_at_once a k h s σ' m e))
        (λ later. same_later k h later before)
        (once_or_later (node t k).kind))

    same_totals : totals s σ m t ≡ totals s σ' m t
    same_totals = ap (λ l. record { ticks = m; rules = l }) (of_rules t.rules a.rules_fit)
      where
        of_rules : (ks : List ℕ) → ((r : ℕ) → r < length ks → get_or ks r 0 < size t) → map (λ k. rule_total m (settled s σ m t k)) ks ≡ map (λ k. rule_total m (settled s σ' m t k)) ks
        of_rules [] fit = refl
        of_rules (k ∷ ks) fit =
            ap₂ (λ c l. rule_total m c ∷ l) (same_count k (fit 0 (omega arith))) (of_rules ks (λ r lt. fit (suc r) (omega arith)))

  -- early ends and records of one tick
  module _ (n : ℕ) (agree : Agree (suc n) t σ σ') where
    same_ends : (k : ℕ) → k < size t → ends s σ n t k ≡ ends s σ' n t k
    same_ends = by_number (λ k. ends s σ n t k ≡ ends s σ' n t k) (size t) (λ k h before.
        ⊎_elim
        (λ e.
        let c = settled_at_once a k h s σ (suc n) e in
        let c' = settled_at_once a k h s σ' (suc n) e in
        ends_at_once s σ n a k h e ∙ ap both_ends (same_verdict (suc n) agree k n h (omega arith) (omega arith)) ∙ sym (ends_at_once s σ' n a k h e))
        (λ later.
        let x = node t k in
        let b = operands_before a k h later.2 in
        ends_later s σ n a k h later
        ∙ ap (turned_round (turned x.kind)) (ap₂ (from_ends s σ n t x) (before _ b.0) (before _ b.1) ∙ from_same x (ends s σ' n t x.left) (ends s σ' n t x.right) later.2)
        ∙ sym (ends_later s σ' n a k h later))
        (once_or_later (node t k).kind))
      where
        from_same : (x : Node) (l r : Ends V) → Inner x.kind → from_ends s σ n t x l r ≡ from_ends s σ' n t x l r
        from_same x l r i =
            let other : (f g : ℕ → V) → value_at s x σ f g n ≡ value_at s x σ' f g n = λ f g. unsampled s x.left x.from x.to f g n x.kind σ σ' i in
            ap₂ (λ (u v : V). record { lower = u; upper = v }) (other _ _) (other _ _)

    same_tick : tick_records s σ n t ≡ tick_records s σ' n t
    unfolding tick_records
    same_tick = joined_same (rule_records s σ n t) (rule_records s σ' n t) 0 (length t.rules) (λ r i j.
        let k = rule_node t r in
        let h = a.rules_fit r (omega arith) in
        let was = same_count n (sooner n (suc n) t σ σ' (omega arith) agree) k h in
        let now = same_count (suc n) agree k h in
        let new : newly_settled s σ n t r ≡ newly_settled s σ' n t r = omega arith in
        let up = (lasting s o t a σ n k h).0 in
        same_runs s r n (verdict s σ (suc n) t k) (verdict s σ' (suc n) t k) (settled s σ n t k) (newly_settled s σ n t r) (λ p i j. same_verdict (suc n) agree k p h (omega arith) (omega arith))
        ∙ ap₂ (runs s r n (verdict s σ' (suc n) t k)) was new)

  same_expected : (m : ℕ) → Agree m t σ σ' → expected s σ m t ≡ expected s σ' m t
  unfolding expected
  same_expected m agree = joined_same (λ n. tick_records s σ n t) (λ n. tick_records s σ' n t) 0 m (λ n i j. same_tick n (sooner (suc n) m t σ σ' (omega arith) agree))

pub unforeseen : {V : Type 0} → Unforeseen V
unforeseen s o t a σ σ' m agree =
    let counts = same_count o a σ σ' m agree in
    record {
      counts = counts;
      verdicts = λ k p h i. same_verdict o a σ σ' m agree k p h i (omega (arith, counts k h));
      early = λ n k lt. same_ends o a σ σ' n (sooner (suc n) m t σ σ' lt agree) k;
      records = same_expected o a σ σ' m agree;
      closing = same_totals o a σ σ' m agree;
    }
