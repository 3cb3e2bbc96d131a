-- The records of one rule, put as its positions are read from a queue: those put so far, and the run at hand.
-- Assumes nothing.
use Rattle.std.proofs.Common.{◌≡◌, ℕ, ◌+◌, ◌-◌, ◌<◌, ◌≤◌, true, false, List, [], ◌∷◌, ◌++◌, sym, ap, ◌∙◌, ap₂, arith}
use Rattle.scale.specs.Order.{Scale, Lattice, same}
use Rattle.record.specs.declared.Record.{Record}
use Rattle.settling.specs.Records.{runs}
use Rattle.settling.proofs.Runs.{runs_longer, runs_new}
use Rattle.settling.proofs.Twice.{seen_in}
use Rattle.engine.specs.declared.keep.Keep.{Keep}
use Rattle.engine.specs.Kept.{value_in, reading}
use Rattle.monitor.specs.Issuing.{run, Offered}
use Rattle.monitor.proofs.Putting.{offered_none, offered_more}

module _ {V : Type 0} (s : Scale V) (memory : List V) (q : Keep) where
  -- x was read at the settled position p
  pub record Read (p : ℕ) (x : V) : Type 0 where
    pub other : V
    pub is : x ≡ reading other memory q p
    pub low : other ≡ s.lowest
    pub inside : p < q.count

  its_value : (p : ℕ) (x : V) → Read p x → value_in s.lowest memory q p ≡ x
  its_value p x r = sym (r.is ∙ ap (λ y. reading y memory q p) r.low ∙ seen_in s.lowest q.count (value_in s.lowest memory q) p r.inside)

module _ {S V : Type 0} (waiting : S → List (Record V)) (free : S → ℕ) (s : Scale V) (memory : List V) (q : Keep) (rule n old : ℕ) (before : S) where
  -- the records of the positions from old up to p - 1: the last is the run at hand, from `first` on; those before it
  -- were offered
  pub record AtHand (now : S) (first p : ℕ) (value : V) : Type 0 where
    pub done : List (Record V)
    pub offered : Offered waiting free before now done
    pub so_far : runs s rule n (value_in s.lowest memory q) old (p - old) ≡ done ++ run rule n first (p - 1) value ∷ []
    pub began : old ≤ first
    pub ahead : first < p
    pub within : p ≤ q.count

module _ {S V : Type 0} {waiting : S → List (Record V)} {free : S → ℕ} {s : Scale V} {memory : List V} {q : Keep} {rule n old : ℕ} {before : S} where
  pub hand_start : {value : V} → Read s memory q old value → AtHand waiting free s memory q rule n old before before old (old + 1) value
  hand_start {value = value} r =
      let one : old + 1 - old ≡ 1 = omega arith in
      let last : old ≡ old + 1 - 1 = omega arith in
      record {
        done = [];
        offered = offered_none waiting free before;
        so_far = ap (runs s rule n (value_in s.lowest memory q) old) one ∙ ap₂ (λ l x. run rule n old l x ∷ []) last (its_value s memory q old value r);
        began = omega arith;
        ahead = omega arith;
        within = omega (arith, r.inside);
      }

  -- the next position has the same value, and the run goes on
  pub hand_longer : Lattice s → {now : S} {first p : ℕ} {value next : V} → AtHand waiting free s memory q rule n old before now first p value → Read s memory q p next → true ≡ same s value next → AtHand waiting free s memory q rule n old before now first (p + 1) value
  hand_longer o {first = first} {p = p} {value = value} {next = next} h r e =
      let v = value_in s.lowest memory q in
      let at : old + (p - old) ≡ p = omega (arith, h.began, h.ahead) in
      let more : p + 1 - old ≡ (p - old) + 1 = omega (arith, at) in
      let last : p ≡ p + 1 - 1 = omega arith in
      record {
        done = h.done;
        offered = h.offered;
        so_far =
            ap (runs s rule n v old) more
            ∙ runs_longer o rule n v old (p - old) p at h.done (run rule n first (p - 1) value) h.so_far (ap (same s value) (its_value s memory q p next r) ∙ sym e)
            ∙ ap (λ l. h.done ++ run rule n first l value ∷ []) last;
        began = h.began;
        ahead = omega (arith, h.ahead);
        within = omega (arith, r.inside);
      }

  -- it has another value: the run at hand is put, and a new one begins
  pub hand_new : Lattice s → {now after : S} {first p : ℕ} {value next : V} → AtHand waiting free s memory q rule n old before now first p value → Read s memory q p next → Offered waiting free now after (run rule n first (p - 1) value ∷ []) → false ≡ same s value next → AtHand waiting free s memory q rule n old before after p (p + 1) next
  hand_new o {now = now} {after = after} {first = first} {p = p} {value = value} {next = next} h r put e =
      let v = value_in s.lowest memory q in
      let hand = run rule n first (p - 1) value in
      let at : old + (p - old) ≡ p = omega (arith, h.began, h.ahead) in
      let more : p + 1 - old ≡ (p - old) + 1 = omega (arith, at) in
      let last : p ≡ p + 1 - 1 = omega arith in
      record {
        done = h.done ++ hand ∷ [];
        offered = offered_more waiting free before now after h.done (hand ∷ []) h.offered put;
        so_far =
            ap (runs s rule n v old) more
            ∙ runs_new o rule n v old (p - old) p at h.done hand h.so_far (ap (same s value) (its_value s memory q p next r) ∙ sym e)
            ∙ ap₂ (λ l x. (h.done ++ hand ∷ []) ++ run rule n p l x ∷ []) last (its_value s memory q p next r);
        began = omega (arith, h.began, h.ahead);
        ahead = omega arith;
        within = omega (arith, r.inside);
      }
