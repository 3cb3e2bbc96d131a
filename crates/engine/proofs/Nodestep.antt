-- One node taken on by a tick is the next state of the theory. Assumes nothing.
use Rattle.std.proofs.Common.{◌≡◌, ℕ, suc, ◌+◌, ◌-◌, ◌<◌, ◌≤◌, min, true, List, ◌++◌, map, length, get_or, sym, ap, ◌∙◌, subst, ap₂, ⊎_elim, arith}
use Rattle.std.proofs.lemmas.List.FromFn.{length-map-range_with_len, get_or-map-range_with_len}
use Rattle.std.specs.List.{range_with_len}
use Rattle.queue.specs.Contents.{newest}
use Rattle.queue.specs.Regions.{Stands}
use Rattle.queue.proofs.Newest.{length_newest, getD_newest, newest_append}
use Rattle.queue.proofs.Regions.{length_held}
use Rattle.scale.specs.Order.{Scale, Lattice}
use Rattle.table.specs.declared.node.Node.{Node}
use Rattle.table.specs.Accepting.{Accepted}
use Rattle.table.specs.Kinds.{sampled, at_once}
use Rattle.table.specs.Places.{places}
use Rattle.table.specs.Tables.{Table, size, node}
use Rattle.table.specs.Values.{value_at}
use Rattle.settling.specs.Settled.{worked_out, state, settled, verdict}
use Rattle.settling.proofs.Lasting.{lasting}
use Rattle.settling.proofs.Lists.{map_same, map_parts}
use Rattle.settling.proofs.Nodes.{of_sample, unsampled, verdict_inner, settled_at_once, verdict_sample}
use Rattle.settling.proofs.Queues.{Queued, later_from_queues, past_from_queues}
use Rattle.settling.proofs.Sorts.{Inner, Later, LooksBack, sorts}
use Rattle.settling.proofs.Steps.{next_count}
use Rattle.engine.specs.declared.keep.Keep.{Keep}
use Rattle.engine.specs.Kept.{value_in, reading}
use Rattle.engine.specs.Working.{worked}
use Rattle.engine.specs.Settling.{Settles}
use Rattle.engine.specs.State.{At}

module _ {V : Type 0} {s : Scale V} (o : Lattice s) {t : Table} (a : Accepted t) (σ : ℕ → ℕ → V) where
  -- a queue that holds the newest verdicts answers for them
  pub queued : (m k : ℕ) (memory : List V) (q : Keep) (y : V) → Stands (length memory) q.from q.to q.at → At s σ m t k memory q → Queued s σ m t k q.count (q.to - q.from) (value_in y memory q)
  queued m k memory q y stands at =
      let c = settled s σ m t k in
      let all = map (verdict s σ m t k) (range_with_len 0 c) in
      let many : length all ≡ c = length-map-range_with_len (verdict s σ m t k) 0 c in
      let held : q.at.len ≡ min (places t k) c = sym (length_held memory q.from q.to q.at stands) ∙ ap length at.holds ∙ length_newest (places t k) all ∙ ap (min (places t k)) many in
      record {
        counts = at.counts;
        capacity = at.room;
        holds = λ p lt near.
            let i = p - (q.count - q.at.len) in
            let place : length all - places t k + i ≡ p = omega (arith, held, many, at.counts, at.room) in
            ap (λ l. get_or l i y) at.holds
            ∙ getD_newest (places t k) all i y
            ∙ ap (λ j. get_or all j y) place
            ∙ get_or-map-range_with_len (verdict s σ m t k) 0 c p p y (omega (arith, at.counts)) (omega arith);
      }

  module _ (n k : ℕ) (h : k < size t) (sample : V) (memory now : List V) (q q' l r : Keep)
      (asked : sampled (node t k).kind ≡ true → σ n (node t k).left ≡ sample)
      (own : At s σ n t k memory q)
      (left_stands : Stands (length memory) l.from l.to l.at)
      (right_stands : Stands (length memory) r.from r.to r.at)
      (left : Inner (node t k).kind → At s σ (suc n) t (node t k).left memory l)
      (right : Inner (node t k).kind → At s σ (suc n) t (node t k).right memory r)
      (step : Settles s sample memory now (node t k) q q' l r n) where
    abbrev x : Node
    x = node t k

    abbrev here : V → ℕ → V
    here = worked s sample memory x l r

    abbrev there : V → ℕ → V
    there y = worked_out s σ y x (state s σ (suc n) t x.left) (state s σ (suc n) t x.right)

    unasked : Inner x.kind → (y : V) (i : ℕ) → here y i ≡ value_at s x σ (reading y memory l) (reading y memory r) i
    unasked inner y i = unsampled s x.left x.from x.to (reading y memory l) (reading y memory r) i x.kind (λ n c. sample) σ inner

    later_works : Later x.kind → (y : V) (i : ℕ) → settled s σ n t k ≤ i → here y i ≡ there y i
    later_works later y i from =
        unasked later.2 y i
        ∙ later_from_queues o a σ n k h y l.count (l.to - l.from) r.count (r.to - r.from) (value_in y memory l) (value_in y memory r) (queued (suc n) x.left memory l y left_stands (left later.2)) (queued (suc n) x.right memory r y right_stands (right later.2)) later i from

    past_works : LooksBack x.kind → here s.lowest n ≡ there s.lowest n
    past_works back =
        let y = s.lowest in
        unasked back.2 y n
        ∙ past_from_queues o a σ n k h y l.count (l.to - l.from) r.count (r.to - r.from) (value_in y memory l) (value_in y memory r) (queued (suc n) x.left memory l y left_stands (left back.2)) (queued (suc n) x.right memory r y right_stands (right back.2)) back

    -- from the count, and the values of what is new
    next : q'.count ≡ settled s σ (suc n) t k → ((p : ℕ) → settled s σ n t k ≤ p → p < settled s σ (suc n) t k → here s.lowest p ≡ verdict s σ (suc n) t k p) → At s σ (suc n) t k now q'
    next count new =
        let c = settled s σ n t k in
        let c' = settled s σ (suc n) t k in
        let g = step.gained in
        let up = lasting s o t a σ n k h in
        let old = verdict s σ n t k in
        let is = verdict s σ (suc n) t k in
        record {
          counts = count;
          room = ap₂ (λ a b. a - b) g.ends g.begins ∙ own.room;
          holds =
              g.holds
              ∙ ap₂ (λ m l. newest m (l ++ map (here s.lowest) (range_with_len q.count (q'.count - q.count)))) own.room own.holds
              ∙ newest_append (places t k) (map old (range_with_len 0 c)) (map (here s.lowest) (range_with_len q.count (q'.count - q.count)))
              ∙ ap (newest (places t k)) (
              ap₂ (λ i j. map old (range_with_len 0 c) ++ map (here s.lowest) (range_with_len i (j - i))) own.counts count
              ∙ ap₂ (λ l m. l ++ m) (map_same old is 0 c (λ p i j. up.1 p (omega arith))) (map_same (here s.lowest) is c (c' - c) (λ p i j. new p i (omega (arith, up.0))))
              ∙ sym (map_parts is 0 c (c' - c) c c' (omega arith) (omega (arith, up.0))));
        }

    pub node_step : At s σ (suc n) t k now q'
    node_step =
        ⊎_elim
        (λ e. at_its_tick e.1 (of_sample s x.left x.from x.to _ _ n x.kind (λ n c. sample) e.0 ∙ sym (asked e.0) ∙ sym (verdict_sample a k h s σ (suc n) e.0 n)))
        (⊎_elim
        (λ e. at_its_tick e.1 (past_works e ∙ sym (ap (λ f. f n) (verdict_inner a k h s σ (suc n) e.2))))
        (λ e.
        let works = later_works e in
        let up : settled s σ n t k ≤ q'.count = omega (arith, own.counts, step.gained.count) in
        let count = next_count o a σ n k h e q'.count up (step.top e.1)
        (λ p from to. sym (works s.lowest p from) ∙ step.pass e.1 p (omega (arith, own.counts)) to ∙ works s.highest p from)
        (λ lt eq. step.stop e.1 lt (works s.lowest q'.count up ∙ eq ∙ sym (works s.highest q'.count up))) in
        next (sym count) (λ p from to. works s.lowest p from ∙ sym (ap (λ f. f p) (verdict_inner a k h s σ (suc n) e.2)))))
        (sorts x.kind)
      where
        at_its_tick : at_once x.kind ≡ true → here s.lowest n ≡ verdict s σ (suc n) t k n → At s σ (suc n) t k now q'
        at_its_tick prompt value =
            let was = settled_at_once a k h s σ n prompt in
            let is = settled_at_once a k h s σ (suc n) prompt in
            next (omega (arith, step.one prompt, own.counts)) (λ p from to.
            let only : n ≡ p = omega arith in
            subst (λ p. here s.lowest p ≡ verdict s σ (suc n) t k p) only value)
