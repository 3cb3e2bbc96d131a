-- What always holds of a monitor's state, before a tick and after it. Assumes nothing.
use Rattle.std.proofs.Common.{◌≡◌, ℕ, ◌+◌, ◌<◌, ◌≤◌, List, length, take, sym, ap, subst, arith}
use Rattle.std.proofs.lemmas.List.{length-take-le}
use Rattle.queue.specs.Regions.{Stands}
use Rattle.table.specs.declared.kind.Sort.{Sort}
use Rattle.table.specs.declared.kind.Sort.TheVariants.{Leaf, Point, Ahead, Back}
use Rattle.table.specs.declared.node.Node.{Node}
use Rattle.table.specs.Accepting.{Fits}
use Rattle.table.specs.Kinds.{shape}
use Rattle.table.specs.Places.{need}
use Rattle.table.specs.Tables.{Table, size, node}
use Rattle.table_check.proofs.Lawful.{plan_accepted}
use Rattle.settling.proofs.Nodes.{operands_before}
use Rattle.engine.specs.declared.keep.Keep.{Keep}
use Rattle.engine.specs.declared.state.Core.{Core}
use Rattle.engine.specs.Represents.{monitored}
use Rattle.engine.specs.State.{keep_of}
use Rattle.engine.specs.Ticking.{Sound, SameRegions}
use Rattle.engine.proofs.Front.{in_front}

-- a window that fits is not turned round
upright : (s : Sort) (from to : ℕ) → Fits s from to → from ≤ to
upright Leaf from to h = omega arith
upright Point from to h = omega arith
upright Ahead from to h = h
upright Back from to h = h

module _ (c : Core) where
  abbrev t : Table
  t = monitored c

  pub queue_stands : (space : ℕ) → need t ≤ space → (k : ℕ) → k < size t → let q = keep_of c.keeps k in Stands space q.from q.to q.at
  queue_stands space room k h = let at = c.stands k h in record { ordered = at.ordered; inside = omega (arith, at.inside); fits = at.fits }

  -- the queues of the nodes, which stand in front of others
  pub queues_sound : (space : ℕ) → need t ≤ space → 64 ≤ length c.keeps → Sound t.nodes (take (size t) c.keeps) space c.ticks
  queues_sound space room long =
      let a = plan_accepted c.plan in
      let is : (k : ℕ) → k < size t → keep_of (take (size t) c.keeps) k ≡ keep_of c.keeps k = in_front (size t) c.keeps in
      record {
        each = length-take-le (size t) c.keeps (omega (arith, a.few_nodes));
        stands = λ k h. subst (λ (q : Keep). Stands space q.from q.to q.at) (sym (is k h)) (queue_stands space room k h);
        rising = λ j k lt h. omega (arith, ap (λ (q : Keep). q.to) (is j (omega arith)), ap (λ (q : Keep). q.from) (is k h), c.rising j k lt h);
        counted = λ k h. omega (arith, ap (λ (q : Keep). q.count) (is k h), c.counted k h);
        windows = λ k h. upright (shape (node t k).kind).sort (node t k).from (node t k).to (a.windows k h);
        below = λ k h inner. operands_before a k h inner;
      }

  module _ (qs : List Keep) (regions : SameRegions c.keeps qs) where
    pub still_rising : (j k : ℕ) → j < k → k < size t → (keep_of qs j).to + 2 ≤ (keep_of qs k).from
    still_rising j k lt h = omega (arith, (regions j).1, (regions k).0, c.rising j k lt h)

    module _ (nodes : List Node) (space n : ℕ) (sound : Sound nodes (take (length nodes) qs) space n) (is : nodes ≡ t.nodes) where
      here : (k : ℕ) → k < size t → k < length nodes
      here k h = omega (arith, ap length is)

      own : (k : ℕ) → k < size t → keep_of (take (length nodes) qs) k ≡ keep_of qs k
      own k h = in_front (length nodes) qs k (here k h)

      pub still_stands : (k : ℕ) → k < size t → let q = keep_of qs k in Stands (need t) q.from q.to q.at
      still_stands k h =
          let at = subst (λ (q : Keep). Stands space q.from q.to q.at) (own k h) (sound.stands k (here k h)) in
          record { ordered = at.ordered; inside = omega (arith, (regions k).1, c.inside k h); fits = at.fits }

      pub still_counted : (m : ℕ) → n ≤ m → (k : ℕ) → k < size t → (keep_of qs k).count ≤ m
      still_counted m le k h = omega (arith, ap (λ (q : Keep). q.count) (own k h), sound.counted k (here k h))
