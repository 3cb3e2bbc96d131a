-- The two halves of a tick, first the queues and then the ends. Assumes nothing.
use Rattle.std.proofs.Common.{◌≡◌, ℕ, suc, ◌+◌, ◌<◌, ◌≤◌, List, ◌++◌, length, take, drop, Result, sym, ap, ◌∙◌, subst, inl, inr, ⊎_elim, arith}
use Rattle.std.proofs.lemmas.Slice.{between_to_end}
use Rattle.queue.specs.Regions.{Apart}
use Rattle.scale.specs.Order.{Scale}
use Rattle.source.specs.declared.fault.Fault.{Fault}
use Rattle.table.specs.declared.node.Node.{Node}
use Rattle.table.specs.Tables.{size}
use Rattle.engine.specs.declared.keep.Keep.{Keep}
use Rattle.engine.specs.State.{At, EndsAt, keep_of, AllAt}
use Rattle.engine.specs.Ticking.{Sound, SameRegions, OthersKept, AllButEndsKept, AroundNodesKept, TakenOn, StillAt, EndsStored, WholeTick}
use Rattle.engine.proofs.Front.{in_front, exchanged_front}

-- the queues qs begin with those of the nodes, which the first half exchanges for others
module _ {V : Type 0} (nodes : List Node) (n : ℕ) (memory then now : List V) (qs part : List Keep) (long : length part ≡ length nodes) where
  abbrev begun : List Keep
  begun = take (length nodes) qs

  abbrev settled : List Keep
  settled = part ++ drop (length nodes) qs

  was : (k : ℕ) → k < length nodes → keep_of begun k ≡ keep_of qs k
  was = in_front (length nodes) qs

  became : (k : ℕ) → k < length nodes → keep_of settled k ≡ keep_of part k
  became = exchanged_front (length nodes) qs part long

  abbrev ended : List Keep
  ended = take (length nodes) settled

  stays : (k : ℕ) → k < length nodes → keep_of ended k ≡ keep_of settled k
  stays = in_front (length nodes) settled

  -- what touches neither a queue nor an end was left alone by both
  pub around_kept : Sound nodes begun (length memory) n → SameRegions begun part → OthersKept begun (length nodes) memory then → AllButEndsKept ended (length nodes) then now → AroundNodesKept qs (length nodes) memory now
  around_kept sound regions queues ends a b free =
      ends a b (λ k h.
      let same : (keep_of ended k).to ≡ (keep_of qs k).to = ap (λ u. u.to) (stays k h ∙ became k h) ∙ (regions k).1 ∙ ap (λ u. u.to) (was k h) in
      let ordered : (keep_of qs k).from ≤ (keep_of qs k).to = subst (λ (u : Keep). u.from ≤ u.to) (was k h) (sound.stands k h).ordered in
      ⊎_elim (λ e. inl (omega arith)) (λ e. inr (omega arith)) (free k h))
      ∙ queues a b (λ k h. subst (λ (u : Keep). Apart u.from u.to a b) (sym (was k h)) (⊎_elim (λ e. inl e) (λ e. inr (omega arith)) (free k h)))

  -- the queues are taken on and stay so, and the ends are theirs
  pub whole_tick : (s : Scale V) (answers : ℕ → Result V Fault) → TakenOn s answers nodes n memory then begun part → StillAt s nodes (suc n) then now ended → EndsStored s nodes n then now ended → WholeTick s answers nodes n memory now qs settled
  whole_tick s answers taken_on still stored t σ acc is asked all =
      let here : (k : ℕ) → k < size t → k < length nodes = λ k h. omega (arith, ap length is) in
      let before : AllAt s σ n t memory begun = λ k h. subst (At s σ n t k memory) (sym (was k (here k h))) (all k h) in
      let taken : AllAt s σ (suc n) t then ended = λ k h. subst (At s σ (suc n) t k then) (sym (stays k (here k h) ∙ became k (here k h))) (taken_on t σ acc is asked before k h) in
      record {
        queues = λ k h. subst (At s σ (suc n) t k now) (stays k (here k h)) (still t σ acc is taken k h);
        ends = λ k h. subst (EndsAt s σ n t k now) (stays k (here k h)) (stored t σ acc is taken k h);
      }

-- so what lies behind every node is as it was
pub beyond_kept : {V : Type 0} (size end : ℕ) (memory now : List V) (qs : List Keep) → AroundNodesKept qs size memory now → length now ≡ length memory → ((k : ℕ) → k < size → (keep_of qs k).to + 2 ≤ end) → drop end now ≡ drop end memory
beyond_kept size end memory now qs around long before =
    sym (between_to_end now end (length memory) (omega arith)) ∙ around end (length memory) (λ k h. inr (before k h)) ∙ between_to_end memory end (length memory) (omega arith)
