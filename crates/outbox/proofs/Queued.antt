-- What one record more or less leaves free in a list of records. Assumes nothing.
use Rattle.std.proofs.Common.{◌≡◌, ◌+◌, [], ◌∷◌, ◌++◌, ℕ, length, set, ap, ◌∙◌, arith}
use Rattle.std.proofs.lemmas.List.{length_push, length-set}
use Rattle.queue.specs.declared.Ring.{Ring}
use Rattle.queue.specs.Items.{items, lent}
use Rattle.queue.proofs.Rings.{items_fit}
use Rattle.outbox.specs.Rings.{slots_free}

pub one_more_free : {T : Type 0} (was then : Ring T) (x : T) → items was ≡ x ∷ items then → lent then ≡ lent was → slots_free then ≡ slots_free was + 1
one_more_free was then x removed same = omega (arith, ap length removed, ap length same, items_fit was)

pub one_less_free : {T : Type 0} (was then : Ring T) (slot : ℕ) (x : T) → items then ≡ items was ++ x ∷ [] → lent then ≡ set (lent was) slot x → slots_free then + 1 ≡ slots_free was
one_less_free was then slot x appended written =
    omega (arith, ap length appended ∙ length_push (items was) x, ap length written ∙ length-set (lent was) slot x, items_fit then)
