-- All nodes, one after the other, get their ends stored. Assumes nothing.
use Rattle.std.proofs.Common.{◌≡◌, ℕ, suc, ◌+◌, ◌<◌, ◌≤◌, false, List, length, get_or, set, sym, ap, ◌∙◌, subst, inl, inr, ⊎_elim, arith}
use Rattle.std.proofs.lemmas.List.{length-set, get_or-set_same, get_or-set_other}
use Rattle.std.proofs.lemmas.Bool.{cases_Bool, cases_eq, cases_order, cond-true, cond-false}
use Rattle.std.specs.List.{between}
use Rattle.queue.specs.Contents.{contents}
use Rattle.queue.specs.Regions.{Stands, Apart}
use Rattle.queue.proofs.Regions.{between_set}
use Rattle.scale.specs.Order.{Scale, Lattice}
use Rattle.table.specs.declared.node.Node.{Node}
use Rattle.table.specs.Accepting.{Accepted}
use Rattle.table.specs.Kinds.{sampled}
use Rattle.table.specs.Tables.{Table, size, blank, node}
use Rattle.settling.specs.Early.{Ends, ends}
use Rattle.settling.proofs.Nodes.{operands_before}
use Rattle.settling.proofs.Sorts.{Inner}
use Rattle.engine.specs.declared.keep.Keep.{Keep}
use Rattle.engine.specs.Ending.{ends_from}
use Rattle.engine.specs.State.{EndsAt, keep_of, AllAt}
use Rattle.engine.specs.Ticking.{operand_of, Sound, EndsInside, AllButEndsKept, StillAt}
use Rattle.engine.proofs.Endstep.{ends_are}

-- of the nodes those below k have their ends stored
pub record Storing {V : Type 0} (s : Scale V) (nodes : List Node) (n : ℕ) (start : List V) (qs : List Keep) (k : ℕ) (memory : List V) : Type 0 where
  pub others : AllButEndsKept qs (length nodes) start memory
  pub means : (t : Table) (σ : ℕ → ℕ → V) → Accepted t → t.nodes ≡ nodes → AllAt s σ (suc n) t start qs → (j : ℕ) → j < k → EndsAt s σ n t j memory (keep_of qs j)

module _ {nodes : List Node} {qs : List Keep} {space m : ℕ} (sound : Sound nodes qs space m) where
  -- a node's queue lies apart from all ends
  pub queue_apart : (j i : ℕ) → j < length nodes → i < length nodes → Apart (keep_of qs i).to ((keep_of qs i).to + 2) (keep_of qs j).from (keep_of qs j).to
  queue_apart j i hj hi =
      ⊎_elim
      (λ e. inl (omega (arith, ap (λ k. (keep_of qs k).to) e)))
      (⊎_elim
      (λ lt. inl (omega (arith, sound.rising j i lt hi, (sound.stands i hi).ordered)))
      (λ gt. inr (omega (arith, sound.rising i j gt hj))))
      (cases_order j i)

  -- so the queues hold what they held where only ends were written
  pub regions_kept : {V : Type 0} (memory now : List V) → AllButEndsKept qs (length nodes) memory now → (j : ℕ) → j < length nodes → between (keep_of qs j).from (keep_of qs j).to now ≡ between (keep_of qs j).from (keep_of qs j).to memory
  regions_kept memory now others j h = others _ _ (λ i hi. queue_apart j i h hi)

  pub still_at : {V : Type 0} (s : Scale V) (memory now : List V) → AllButEndsKept qs (length nodes) memory now → StillAt s nodes m memory now qs
  still_at s memory now others t σ acc is all j h =
      let at = all j h in
      record {
        counts = at.counts;
        room = at.room;
        holds = ap (λ part. contents part (keep_of qs j).at) (regions_kept memory now others j (omega (arith, ap length is))) ∙ at.holds;
      }

  module _ (within : EndsInside nodes qs space) {k : ℕ} (h : k < length nodes) where
    abbrev its_node : Node
    its_node = get_or nodes k blank

    -- behind an operand's queue there is room for its ends
    pub operand_room : (j : ℕ) → (sampled its_node.kind ≡ false → j < k) → (operand_of qs its_node k j).to + 2 ≤ space
    operand_room j below =
        ⊎_elim
        (λ e. subst (λ (u : Keep). u.to + 2 ≤ space) (sym (cond-true _ _ _ e)) (within k h))
        (λ e. subst (λ (u : Keep). u.to + 2 ≤ space) (sym (cond-false _ _ _ e)) (within j (omega (arith, below e))))
        (cases_Bool (sampled its_node.kind))

module _ {V : Type 0} {s : Scale V} (o : Lattice s) {nodes : List Node} {n : ℕ} {start : List V} {qs : List Keep} (sound : Sound nodes qs (length start) (suc n)) (within : EndsInside nodes qs (length start)) where
  module _ {k : ℕ} {memory : List V} (storing : Storing s nodes n start qs k memory) where
    module _ (h : k < length nodes) (long : length memory ≡ length start) (v w : V) where
      abbrev x : Node
      x = get_or nodes k blank

      abbrev q : Keep
      q = keep_of qs k

      -- what is worked out for node k, and the memory after it was stored
      abbrev found_ends : Ends V
      found_ends = ends_from s memory x q (operand_of qs x k x.left) (operand_of qs x k x.right) n

      abbrev now : List V
      now = set (set memory q.to v) (q.to + 1) w

      inside : q.to + 2 ≤ length memory
      inside = omega (arith, within k h)

      at_lower : get_or now q.to s.lowest ≡ v
      at_lower = get_or-set_other (set memory q.to v) (q.to + 1) q.to w s.lowest (λ e. omega arith) ∙ get_or-set_same memory q.to v s.lowest (omega (arith, inside))

      at_upper : get_or now (q.to + 1) s.lowest ≡ w
      at_upper = get_or-set_same (set memory q.to v) (q.to + 1) w s.lowest (omega (arith, inside, length-set memory q.to v))

      elsewhere : (i : ℕ) → i < q.to → get_or now i s.lowest ≡ get_or memory i s.lowest
      elsewhere i lt = get_or-set_other (set memory q.to v) (q.to + 1) i w s.lowest (λ e. omega arith) ∙ get_or-set_other memory q.to i v s.lowest (λ e. omega arith)

      -- the ends of the nodes before stay as they are
      before_kept : (σ : ℕ → ℕ → V) (t : Table) (j : ℕ) → j < k → EndsAt s σ n t j memory (keep_of qs j) → EndsAt s σ n t j now (keep_of qs j)
      before_kept σ t j lt was =
          let under : (keep_of qs j).to + 2 ≤ q.to = omega (arith, sound.rising j k lt h, (sound.stands k h).ordered) in
          record { lower = elsewhere _ (omega arith) ∙ was.lower; upper = elsewhere _ (omega arith) ∙ was.upper }

      module _ (t : Table) (σ : ℕ → ℕ → V) (acc : Accepted t) (is : t.nodes ≡ nodes) (all : AllAt s σ (suc n) t start qs) where
        in_table : k < size t
        in_table = omega (arith, ap length is)

        operand_ends : (j : ℕ) → Inner (node t k).kind → j < k → EndsAt s σ n t j memory (operand_of qs (node t k) k j)
        operand_ends j inner lt = subst (EndsAt s σ n t j memory) (sym (cond-false _ _ _ inner)) (storing.means t σ acc is all j lt)

        found : found_ends ≡ ends s σ n t k
        found =
            let y = node t k in
            let same : y ≡ x = ap (λ l. get_or l k blank) is in
            let room : (j : ℕ) → (sampled x.kind ≡ false → j < k) → (operand_of qs x k j).to + 2 ≤ length memory = λ j below. omega (arith, operand_room sound within h j below) in
            let stands : Stands (length memory) q.from q.to q.at = subst (λ m. Stands m q.from q.to q.at) (sym long) (sound.stands k h) in
            subst (λ z. ends_from s memory z q (operand_of qs z k z.left) (operand_of qs z k z.right) n ≡ ends s σ n t k) same
            (ends_are o acc σ n k in_table memory q (operand_of qs y k y.left) (operand_of qs y k y.right) stands
            (still_at sound s start memory storing.others t σ acc is all k in_table)
            (subst (λ z. ((operand_of qs z k z.left).to + 2 ≤ length memory) × ((operand_of qs z k z.right).to + 2 ≤ length memory)) (sym same) (room x.left (λ e. (sound.below k h e).0), room x.right (λ e. (sound.below k h e).1)))
            (λ inner. operand_ends y.left inner (operands_before acc k in_table inner).0)
            (λ inner. operand_ends y.right inner (operands_before acc k in_table inner).1))

        own_ends : v ≡ found_ends.lower → w ≡ found_ends.upper → EndsAt s σ n t k now q
        own_ends low high = record { lower = at_lower ∙ low ∙ ap (λ e. e.lower) found; upper = at_upper ∙ high ∙ ap (λ e. e.upper) found }

      pub storing_set : v ≡ found_ends.lower → w ≡ found_ends.upper → Storing s nodes n start qs (k + 1) now
      storing_set low high = record {
        others = λ a b free.
            between_set (set memory q.to v) (q.to + 1) a b w (⊎_elim (λ e. inl (omega arith)) (λ e. inr (omega arith)) (free k h))
            ∙ between_set memory q.to a b v (⊎_elim (λ e. inl (omega arith)) (λ e. inr (omega arith)) (free k h))
            ∙ storing.others a b free;
        means = λ t σ acc is all j lt.
            ⊎_elim
            (λ e. subst (λ j. EndsAt s σ n t j now (keep_of qs j)) (sym e) (own_ends t σ acc is all low high))
            (λ ne. let less : j < k = omega arith in before_kept σ t j less (storing.means t σ acc is all j less))
            (cases_eq j k);
      }
