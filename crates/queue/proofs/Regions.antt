-- What a queue in one region of a memory gains, and what all other regions keep. Assumes nothing.
use Rattle.std.proofs.Common.{◌≡◌, ℕ, ◌+◌, ◌-◌, ◌≤◌, List, [], ◌∷◌, ◌++◌, length, take, drop, set, Ok, Err, Result, sym, ap, ◌∙◌, subst, ⊎_elim, arith, rules, MatchResult}
use borrow.Rule.Slice.PartMut.{put_mid}
use Rattle.std.specs.List.{between}
use Rattle.std.proofs.lemmas.List.Edits.{length-between}
use Rattle.std.proofs.lemmas.List.{take-take, take-set, drop-drop, drop-set-lt, take-append-drop}
use Rattle.std.proofs.lemmas.Slice.{between_is, between-put_mid, overwrites}
use Rattle.queue.specs.declared.Stand.{Stand}
use Rattle.queue.specs.Contents.{contents, newest, Fits}
use Rattle.queue.specs.Regions.{held, Stands, divided, gained, Apart}
use Rattle.queue.proofs.Contents.{length_contents}

-- a region apart from all that was written is as it was
module _ {X : Type 0} (m m' : List X) (from to a b : ℕ) where
  between_below : take from m' ≡ take from m → b ≤ from → between a b m' ≡ between a b m
  between_below before below =
      let front = sym (take-take b from m' below) ∙ ap (take b) before ∙ take-take b from m below in
      between_is m' a b ∙ ap (drop a) front ∙ sym (between_is m a b)

  between_above : drop to m' ≡ drop to m → to ≤ a → between a b m' ≡ between a b m
  between_above behind above =
      let on : to + (a - to) ≡ a = omega arith in
      let back = sym (drop-drop (a - to) to m') ∙ ap (drop (a - to)) behind ∙ drop-drop (a - to) to m in
      ap (take (b - a)) (rw on at back)

  pub between_apart : take from m' ≡ take from m → drop to m' ≡ drop to m → Apart from to a b → between a b m' ≡ between a b m
  between_apart before behind = ⊎_elim (between_below before) (between_above behind)

-- a write to one slot leaves the regions that lack it
pub between_set : {X : Type 0} (m : List X) (j a b : ℕ) (x : X) → Apart j (j + 1) a b → between a b (set m j x) ≡ between a b m
between_set m j a b x = between_apart m (set m j x) j (j + 1) a b (take-set m j x) (drop-set-lt (j + 1) m j x (omega arith))

-- what one queue gains leaves every other queue as it was
pub held_apart : {X : Type 0} (m m' : List X) (from to : ℕ) (at next : Stand) (x : X) (a b : ℕ) (other : Stand) → divided m' from to next ≡ gained (to - from) (divided m from to at) x → Apart from to a b → held m' a b other ≡ held m a b other
held_apart m m' from to at next x a b other is apart =
    ap (λ s. contents s other) (between_apart m m' from to a b (ap (λ d. d.before) is) (ap (λ d. d.behind) is) apart)

-- a queue holds as many as its stand says
pub length_held : {X : Type 0} (m : List X) (from to : ℕ) (at : Stand) → Stands (length m) from to at → length (held m from to at) ≡ at.len
length_held m from to at stands = length_contents (between from to m) at (subst (λ n. Fits n at) (sym (length-between m from to stands.inside)) stands.fits)

-- The region from..to of a memory m holds the slots ys now, and in them the queue has gained x.
module _ {X : Type 0} (m ys : List X) (from to : ℕ) (at : Stand) (x : X) (ordered : from ≤ to) (inside : to ≤ length m) where
  abbrev part : List X
  part = between from to m

  abbrev cap : ℕ
  cap = to - from

  abbrev now : List X
  now = put_mid from cap m ys

  size : length part ≡ cap
  size = length-between m from to inside

  put_back : ys ≡ part → now ≡ m
  put_back same = ap (put_mid from cap m) same ∙ ap (λ r. take from m ++ r) (take-append-drop cap (drop from m)) ∙ take-append-drop from m

  module _ (long : length ys ≡ length part) where
    before_kept : take from now ≡ take from m
    before_kept = search (rules, overwrites)

    behind_kept : drop to now ≡ drop to m
    behind_kept = grind (arith, overwrites, size)

    held_now : (next : Stand) → held now from to next ≡ contents ys next
    held_now next = ap (λ s. contents s next) (between-put_mid from cap m ys to (omega arith) (long ∙ size))

    pub kept_memory : {E : Type 0} (r : Result Stand E) → MatchResult r (λ next. contents ys next ≡ newest (length part) (contents part at ++ x ∷ [])) (λ _. ys ≡ part) → MatchResult r (λ next. divided now from to next ≡ gained cap (divided m from to at) x) (λ _. now ≡ m)
    kept_memory (Ok next) kept =
        let holding = held_now next ∙ kept ∙ ap (λ n. newest n (contents part at ++ x ∷ [])) size in
        (λ i. record { before = before_kept i; held = holding i; behind = behind_kept i })
    kept_memory (Err e) same = put_back same
