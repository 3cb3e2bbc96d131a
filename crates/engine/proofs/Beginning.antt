-- With no tick accepted a monitor stands for all samples. Assumes nothing.
use Rattle.std.proofs.Common.{◌≡◌, ℕ, ◌<◌, List, [], ◌++◌, map, take, drop, sym, ap, ◌∙◌, arith}
use Rattle.std.specs.List.{range_with_len}
use Rattle.queue.specs.declared.Stand.{Stand}
use Rattle.queue.specs.Contents.{contents, newest}
use Rattle.queue.proofs.Newest.{newest_all}
use Rattle.scale.specs.Order.{Scale, Lattice}
use Rattle.table_check.specs.declared.plan.Plan.{Plan}
use Rattle.table.specs.Places.{places}
use Rattle.table_check.specs.Plans.{table_of}
use Rattle.table.specs.Tables.{Table, size}
use Rattle.table_check.proofs.Lawful.{plan_accepted}
use Rattle.settling.specs.Settled.{settled, verdict}
use Rattle.settling.proofs.Bounding.{bounded}
use Rattle.engine.specs.declared.state.Core.{Core}
use Rattle.engine.specs.Represents.{Fresh, Represents, monitored}

-- a queue of no elements holds none
holds_none : {X : Type 0} (slots : List X) (at : Stand) → at.len ≡ 0 → contents slots at ≡ []
unfolding contents
holds_none slots at e = ap (λ n. take n (drop at.head slots ++ take at.head slots)) e

module _ {V : Type 0} (s : Scale V) (o : Lattice s) (σ : ℕ → ℕ → V) (p : Plan) (c : Core) (memory : List V) (fresh : Fresh p c) where
  abbrev t : Table
  t = monitored c

  in_plan : (k : ℕ) → k < size t → k < size (table_of p)
  in_plan k h = omega (arith, ap (λ q. size (table_of q)) fresh.plan)

  none_settled : (k : ℕ) → k < size t → settled s σ 0 t k ≡ 0
  none_settled k h = omega (arith, (bounded s o t (plan_accepted c.plan) σ 0 k h).1)

  pub stands_for_all : Represents s σ 0 c memory
  stands_for_all = record {
    ticks = fresh.ticks;
    queues = λ k h. record {
      counts = fresh.unsettled k (in_plan k h) ∙ sym (none_settled k h);
      room = c.roomy k h;
      holds =
          holds_none _ _ (fresh.empty k (in_plan k h))
          ∙ sym (ap (λ n. newest (places t k) (map (verdict s σ 0 t k) (range_with_len 0 n))) (none_settled k h) ∙ newest_all (places t k) [] (omega arith));
    };
    ends = λ n e. absurd (omega arith);
  }
