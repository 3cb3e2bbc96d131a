-- All nodes, one after the other, taken on by a tick. Assumes nothing.
use Rattle.std.proofs.Common.{◌≡◌, ℕ, suc, ◌+◌, ◌<◌, ◌≤◌, true, false, ◌≢◌, List, length, get_or, set, Result, unwrap_or, sym, ap, ◌∙◌, subst, inl, inr, ⊎_elim, arith}
use Rattle.std.proofs.lemmas.List.{get_or-set_same, get_or-set_other}
use Rattle.std.proofs.lemmas.Bool.{cases_Bool, cases_eq, cases_order, cond-true, cond-false}
use Rattle.std.specs.Result.{result_ok}
use Rattle.queue.specs.Contents.{contents}
use Rattle.queue.specs.Regions.{Stands, Apart}
use Rattle.queue.proofs.Regions.{between_apart}
use Rattle.scale.specs.Order.{Scale, Lattice}
use Rattle.source.specs.declared.fault.Fault.{Fault}
use Rattle.table.specs.declared.node.Node.{Node}
use Rattle.table.specs.Accepting.{Accepted}
use Rattle.table.specs.Kinds.{sampled}
use Rattle.table.specs.Tables.{Table, size, blank, node}
use Rattle.settling.proofs.Nodes.{operands_before}
use Rattle.settling.proofs.Sorts.{Inner, once_or_later}
use Rattle.engine.specs.declared.keep.Keep.{Keep}
use Rattle.engine.specs.Settling.{Gained, Settles}
use Rattle.engine.specs.State.{At, nowhere, keep_of, AllAt}
use Rattle.engine.specs.Ticking.{sample_of, operand_of, Sound, Asked, SameRegions, OthersKept}
use Rattle.engine.proofs.Nodestep.{node_step}

-- of the nodes those below k are taken on
pub record Going {V : Type 0} (s : Scale V) (answers : ℕ → Result V Fault) (nodes : List Node) (n : ℕ) (start : List V) (begin : List Keep) (k : ℕ) (memory : List V) (qs : List Keep) : Type 0 where
  pub regions : SameRegions begin qs
  pub to_come : (j : ℕ) → k ≤ j → keep_of qs j ≡ keep_of begin j
  pub stands : (j : ℕ) → j < length nodes → Stands (length start) (keep_of qs j).from (keep_of qs j).to (keep_of qs j).at
  pub counted : (j : ℕ) → j < length nodes → (keep_of qs j).count ≤ suc n
  pub others : OthersKept begin (length nodes) start memory
  pub means : (t : Table) (σ : ℕ → ℕ → V) → Accepted t → t.nodes ≡ nodes → Asked answers σ n t → AllAt s σ n t start begin → (j : ℕ) → j < size t → (j < k → At s σ (suc n) t j memory (keep_of qs j)) × (k ≤ j → At s σ n t j memory (keep_of qs j))

-- a queue apart from all that was written is as it was
at_kept : {V : Type 0} (s : Scale V) (σ : ℕ → ℕ → V) (m : ℕ) (t : Table) (j : ℕ) (memory now : List V) (q q' u : Keep) (more : List V) → Gained memory now q q' more → Apart q.from q.to u.from u.to → At s σ m t j memory u → At s σ m t j now u
at_kept s σ m t j memory now q q' u more g apart at = record {
  counts = at.counts;
  room = at.room;
  holds = ap (λ part. contents part u.at) (between_apart memory now q.from q.to u.from u.to g.before g.behind apart) ∙ at.holds;
}

module _ {V : Type 0} {s : Scale V} (o : Lattice s) {answers : ℕ → Result V Fault} {nodes : List Node} {n : ℕ} {start : List V} {begin : List Keep} (sound : Sound nodes begin (length start) n) where
  module _ {k : ℕ} {memory : List V} {qs : List Keep} (going : Going s answers nodes n start begin k memory qs) where
    -- the regions of two nodes share no slot
    apart_of : (j i : ℕ) → j ≢ i → j < length nodes → i < length nodes → Apart (keep_of qs i).from (keep_of qs i).to (keep_of qs j).from (keep_of qs j).to
    apart_of j i ne hj hi =
        let jr = going.regions j in
        let ir = going.regions i in
        ⊎_elim
        (λ e. absurd (ne e))
        (⊎_elim (λ lt. inl (omega (arith, sound.rising j i lt hi))) (λ gt. inr (omega (arith, sound.rising i j gt hj))))
        (cases_order j i)

    pub going_sound : length qs ≡ length begin → Sound nodes qs (length start) (suc n)
    going_sound long = record {
      each = long ∙ sound.each;
      stands = going.stands;
      rising = λ j i lt h. let jr = going.regions j in let ir = going.regions i in omega (arith, sound.rising j i lt h);
      counted = going.counted;
      windows = sound.windows;
      below = sound.below;
    }

    module _ (h : k < length nodes) where
      abbrev x : Node
      x = get_or nodes k blank

      abbrev q : Keep
      q = keep_of qs k

      -- an operand's queue stands where it should, apart from the own one
      pub operand_stands : (j : ℕ) → (sampled x.kind ≡ false → j < k) → Stands (length start) (operand_of qs x k j).from (operand_of qs x k j).to (operand_of qs x k j).at
      operand_stands j below =
          ⊎_elim
          (λ e. subst (λ (u : Keep). Stands (length start) u.from u.to u.at) (sym (cond-true _ _ _ e)) (going.stands k h))
          (λ e. subst (λ (u : Keep). Stands (length start) u.from u.to u.at) (sym (cond-false _ _ _ e)) (going.stands j (omega (arith, below e))))
          (cases_Bool (sampled x.kind))

      pub operand_apart : (j : ℕ) → sampled x.kind ≡ false → j < k → Apart q.from q.to (operand_of qs x k j).from (operand_of qs x k j).to
      operand_apart j e below = subst (λ (u : Keep). Apart q.from q.to u.from u.to) (sym (cond-false _ _ _ e)) (apart_of j k (λ eq. omega arith) (omega arith) h)

      pub own_counted : q.count ≤ n
      own_counted = subst (λ u. u.count ≤ n) (sym (going.to_come k (omega arith))) (sound.counted k h)

      module _ {now : List V} {q' : Keep} (step : Settles s (sample_of s answers x) memory now x q q' (operand_of qs x k x.left) (operand_of qs x k x.right) n) (long : length qs ≡ length begin) (same_size : length memory ≡ length start) where
        at_k : keep_of (set qs k q') k ≡ q'
        at_k = get_or-set_same qs k q' nowhere (omega (arith, sound.each))

        at_other : (j : ℕ) → j ≢ k → keep_of (set qs k q') j ≡ keep_of qs j
        at_other j ne = get_or-set_other qs k j q' nowhere ne

        -- at k what holds of q', elsewhere what held
        each_one : (P : ℕ → Keep → Type 0) (j : ℕ) → (j ≡ k → P k q') → (j ≢ k → P j (keep_of qs j)) → P j (keep_of (set qs k q') j)
        each_one P j own other =
            ⊎_elim
            (λ e. subst (λ i. P i (keep_of (set qs k q') i)) (sym e) (subst (P k) (sym at_k) (own e)))
            (λ ne. subst (P j) (sym (at_other j ne)) (other ne))
            (cases_eq j k)

        new_stands : Stands (length start) q'.from q'.to q'.at
        new_stands =
            subst (λ m. Stands m q'.from q'.to q'.at) same_size
            (subst (λ i. Stands (length memory) i q'.to q'.at) (sym step.gained.begins) (subst (λ i. Stands (length memory) q.from i q'.at) (sym step.gained.ends) step.gained.stands))

        module _ (t : Table) (σ : ℕ → ℕ → V) (acc : Accepted t) (is : t.nodes ≡ nodes) (asked : Asked answers σ n t) (all : AllAt s σ n t start begin) where
          in_table : k < size t
          in_table = omega (arith, ap length is)

          the_node : x ≡ node t k
          the_node = ap (λ l. get_or l k blank) (sym is)

          its_sample : sampled (node t k).kind ≡ true → σ n (node t k).left ≡ sample_of s answers (node t k)
          its_sample e = sym (cond-true _ _ _ e ∙ ap (λ r. unwrap_or (result_ok r) s.lowest) (asked k in_table e))

          operand_at : (j : ℕ) → Inner (node t k).kind → j < k → At s σ (suc n) t j memory (operand_of qs (node t k) k j)
          operand_at j inner lt = subst (At s σ (suc n) t j memory) (sym (cond-false _ _ _ inner)) ((going.means t σ acc is asked all j (omega (arith, in_table))).0 lt)

          stands_there : (j : ℕ) → (sampled x.kind ≡ false → j < k) → Stands (length memory) (operand_of qs (node t k) k j).from (operand_of qs (node t k) k j).to (operand_of qs (node t k) k j).at
          stands_there j below =
              subst (λ y. Stands (length memory) (operand_of qs y k j).from (operand_of qs y k j).to (operand_of qs y k j).at) the_node
              (subst (λ m. Stands m (operand_of qs x k j).from (operand_of qs x k j).to (operand_of qs x k j).at) (sym same_size) (operand_stands j below))

          taken_on : At s σ (suc n) t k now q'
          taken_on =
              let y = node t k in
              node_step o acc σ n k in_table (sample_of s answers y) memory now q q' (operand_of qs y k y.left) (operand_of qs y k y.right)
              its_sample
              ((going.means t σ acc is asked all k in_table).1 (omega arith))
              (stands_there y.left (λ e. subst (λ z. z.left < k) the_node (sound.below k h e).0))
              (stands_there y.right (λ e. subst (λ z. z.right < k) the_node (sound.below k h e).1))
              (λ inner. operand_at y.left inner (operands_before acc k in_table inner).0)
              (λ inner. operand_at y.right inner (operands_before acc k in_table inner).1)
              (subst (λ z. Settles s (sample_of s answers z) memory now z q q' (operand_of qs z k z.left) (operand_of qs z k z.right) n) the_node step)

          meant : (j : ℕ) → j < size t → (j < k + 1 → At s σ (suc n) t j now (keep_of (set qs k q') j)) × (k + 1 ≤ j → At s σ n t j now (keep_of (set qs k q') j))
          meant j lt =
              each_one (λ j u. (j < k + 1 → At s σ (suc n) t j now u) × (k + 1 ≤ j → At s σ n t j now u)) j
              (λ e. (λ below. taken_on, λ above. absurd (omega arith)))
              (λ ne.
              let was = going.means t σ acc is asked all j lt in
              let apart = apart_of j k ne (omega (arith, ap length is)) h in (
                λ below. at_kept s σ (suc n) t j memory now q q' (keep_of qs j) _ step.gained apart (was.0 (omega arith)),
                λ above. at_kept s σ n t j memory now q q' (keep_of qs j) _ step.gained apart (was.1 (omega arith)),
              ))

        pub going_on : Going s answers nodes n start begin (k + 1) now (set qs k q')
        going_on = record {
          regions = λ j. each_one (λ j u. (u.from ≡ (keep_of begin j).from) × (u.to ≡ (keep_of begin j).to)) j (λ e. (step.gained.begins ∙ (going.regions k).0, step.gained.ends ∙ (going.regions k).1)) (λ ne. going.regions j);
          to_come = λ j ge. at_other j (λ e. omega arith) ∙ going.to_come j (omega arith);
          stands = λ j lt. each_one (λ j u. Stands (length start) u.from u.to u.at) j (λ e. new_stands) (λ ne. going.stands j lt);
          counted = λ j lt. each_one (λ j u. u.count ≤ suc n) j (λ e. ⊎_elim (λ prompt. omega (arith, step.one prompt, own_counted)) (λ later. step.top later.1) (once_or_later x.kind)) (λ ne. going.counted j lt);
          others = λ a b free.
              between_apart memory now q.from q.to a b step.gained.before step.gained.behind (⊎_elim (λ e. inl (omega (arith, going.regions k))) (λ e. inr (omega (arith, going.regions k))) (free k h))
              ∙ going.others a b free;
          means = meant;
        }
