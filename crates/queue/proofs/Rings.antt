-- What is true of every queue, and how one keeps its newest. Assumes nothing.
use Rattle.std.proofs.Common.{◌≡◌, ◌<◌, ◌≤◌, [], ◌∷◌, ◌++◌, length, set, Some, None, Ok, Err, Option, Result, sym, ap, ◌∙◌, arith, MatchOption, MatchResult}
use Rattle.std.proofs.lemmas.List.{length_push, length-set}
use Rattle.queue.specs.declared.Ring.{Ring}
use Rattle.queue.specs.Contents.{Fits, newest}
use Rattle.queue.specs.Items.{items, lent, next_slot}
use Rattle.queue.proofs.Contents.{length_contents}
use Rattle.queue.proofs.Newest.{newest_all, newest_next, newest_none}

-- it stands in its slots
ring_fits : {T : Type 0} (r : Ring T) → Fits (length (lent r)) r.at
ring_fits r = record { holds = r.holds; begins = r.begins }

-- it holds as many as its stand says
pub length_items : {T : Type 0} (r : Ring T) → length (items r) ≡ r.at.len
length_items r = length_contents (lent r) r.at (ring_fits r)

-- and no more than it has slots
pub items_fit : {T : Type 0} (r : Ring T) → length (items r) ≤ length (lent r)
items_fit r = omega (arith, length_items r, r.holds)

-- `mid` is the queue `was` with room made for one more, and `then` what that one made of it: the newest of all are kept
module _ {T : Type 0} (was mid then : Ring T) (x : T) where
  abbrev Pushed : {E : Type 0} → Result (Unit {0}) E → Type 0
  Pushed r = MatchResult r (λ _. items then ≡ items mid ++ x ∷ []) (λ _. (length (items mid) ≡ length (lent mid)) × (then ≡ mid))

  -- there was room
  pub kept_in_room : {E : Type 0} (r : Result (Unit {0}) E) → Pushed r → mid ≡ was → length (items was) < length (lent was) → items then ≡ newest (length (lent was)) (items was ++ x ∷ [])
  kept_in_room (Ok u) pushed same room = pushed ∙ ap (λ q. items q ++ x ∷ []) same ∙ sym (newest_all (length (lent was)) (items was ++ x ∷ []) (omega (arith, room, length_push (items was) x)))
  kept_in_room (Err e) refused same room = absurd (omega (arith, room, refused.0, ap (λ q. length (items q)) same, ap (λ q. length (lent q)) same))

  -- the oldest of a full queue has left, if there was one
  module _ (full : length (items was) ≡ length (lent was)) (slots : lent mid ≡ lent was) where
    abbrev Popped : Option T → Type 0
    Popped o = MatchOption o ((items was ≡ []) × (mid ≡ was)) (λ y. items was ≡ y ∷ items mid)

    abbrev Written : {E : Type 0} → Result (Unit {0}) E → Type 0
    Written r = MatchResult r (λ _. lent then ≡ set (lent mid) (next_slot mid) x) (λ _. lent then ≡ lent mid)

    pub kept_in_full : {E : Type 0} (o : Option T) → Popped o → (r : Result (Unit {0}) E) → Pushed r → Written r → items then ≡ newest (length (lent was)) (items was ++ x ∷ [])
    kept_in_full None popped (Ok u) pushed written =
        let none : length (lent then) ≡ 0 = ap length written ∙ length-set (lent mid) (next_slot mid) x ∙ ap length slots ∙ sym full ∙ ap length popped.0 in
        absurd (omega (arith, none, ap length pushed ∙ length_push (items mid) x, items_fit then))
    kept_in_full None popped (Err e) refused same =
        let none : length (lent was) ≡ 0 = sym full ∙ ap length popped.0 in
        ap items (refused.1 ∙ popped.1) ∙ popped.0 ∙ sym (ap (λ n. newest n (items was ++ x ∷ [])) none ∙ newest_none (items was ++ x ∷ []))
    kept_in_full (Some y) left (Ok u) pushed written =
        let next = newest_next (length (lent was)) y x (items mid) (sym (ap length left) ∙ full) in
        pushed ∙ sym (ap (λ ys. newest (length (lent was)) (ys ++ x ∷ [])) left ∙ next)
    kept_in_full (Some y) left (Err e) refused same = absurd (omega (arith, ap length left, full, ap length slots, refused.0))
