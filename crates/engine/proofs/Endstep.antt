-- The ends that one node has from what is stored are those of the theory. Assumes nothing.
use Rattle.std.proofs.Common.{◌≡◌, ℕ, suc, ◌+◌, ◌-◌, ◌<◌, ◌≤◌, true, List, [], ◌++◌, length, get_or, sym, ap, ◌∙◌, ap₂, ⊎_elim, arith}
use Rattle.std.proofs.lemmas.List.Edits.{get_or-between}
use Rattle.std.proofs.lemmas.List.{append-nil, get_or-take, get_or_default}
use Rattle.std.proofs.lemmas.Bool.{cases_eq, cond-true, cond-false, eq-eqb, ne_eqb}
use Rattle.std.specs.List.{between}
use Rattle.queue.specs.Contents.{contents}
use Rattle.queue.specs.Regions.{Stands}
use Rattle.scale.specs.Order.{Scale, Lattice}
use Rattle.table.specs.declared.node.Node.{Node}
use Rattle.table.specs.Accepting.{Accepted}
use Rattle.table.specs.Kinds.{at_once, turned}
use Rattle.table.specs.Places.{places}
use Rattle.table.specs.Tables.{Table, size, node}
use Rattle.table.specs.Values.{value_at}
use Rattle.settling.specs.Early.{both_ends, now_then, from_ends, ends}
use Rattle.settling.specs.Settled.{verdict}
use Rattle.settling.proofs.Early.{turned_round, ends_at_once, ends_later}
use Rattle.settling.proofs.Nodes.{unsampled, settled_at_once}
use Rattle.settling.proofs.Sorts.{Inner, Later, once_or_later, span_later}
use Rattle.settling.proofs.Twice.{seen_in, seen_out, local}
use Rattle.engine.specs.declared.keep.Keep.{Keep}
use Rattle.engine.specs.Kept.{value_in, reading}
use Rattle.engine.specs.Ending.{slot_as_queue, from_slots, from_stored, ends_from}
use Rattle.engine.specs.State.{At, EndsAt}
use Rattle.engine.proofs.Nodestep.{queued}

-- every node has a place
some_place : (t : Table) (k : ℕ) → 0 < places t k
unfolding places
some_place t k = omega arith

module _ {V : Type 0} (memory : List V) (slot n : ℕ) where
  -- what the queue of one place answers with at n
  holds_slot : (y : V) → value_in y memory (slot_as_queue slot n) n ≡ get_or memory slot y
  unfolding contents
  holds_slot y =
      let one = between slot (slot + 1) memory in
      let first : n - (n + 1 - 1) ≡ 0 = omega arith in
      let here : slot + 0 ≡ slot = omega arith in
      ap (λ i. get_or (contents one (record { head = 0; len = 1 })) i y) first
      ∙ get_or-take 1 (one ++ []) 0 y (omega arith)
      ∙ ap (λ l. get_or l 0 y) (append-nil one)
      ∙ get_or-between memory slot (slot + 1) 0 y (omega arith)
      ∙ ap (λ i. get_or memory i y) here

  -- so it reads as the value e at n and y after it
  reads_slot : (d e y : V) (p : ℕ) → slot < length memory → get_or memory slot d ≡ e → n ≤ p → reading y memory (slot_as_queue slot n) p ≡ now_then n e y p
  reads_slot d e y p inside is from =
      let q = value_in y memory (slot_as_queue slot n) in
      ⊎_elim
      (λ eq. seen_in y (n + 1) q p (omega arith) ∙ ap q eq ∙ holds_slot y ∙ get_or_default memory slot y d inside ∙ is ∙ sym (cond-true _ _ _ (eq-eqb p n eq)))
      (λ ne. let far : n + 1 ≤ p = omega arith in seen_out y (n + 1) q p far ∙ sym (cond-false _ _ _ (ne_eqb p n ne)))
      (cases_eq p n)

module _ {V : Type 0} {s : Scale V} (o : Lattice s) {t : Table} (a : Accepted t) (σ : ℕ → ℕ → V) (n k : ℕ) (h : k < size t) (memory : List V) (q l r : Keep) where
  abbrev x : Node
  x = node t k

  -- A later node from two slots that hold an end of its operands each: it looks at nothing before n.
  from_two : Later x.kind → (left right : ℕ) (e f y : V) → left < length memory → right < length memory → get_or memory left s.lowest ≡ e → get_or memory right s.lowest ≡ f → from_slots s memory x left right n y ≡ value_at s x σ (now_then n e y) (now_then n f y) n
  from_two later left right e f y in_left in_right is-left is_right =
      unsampled s x.left x.from x.to (reading y memory (slot_as_queue left n)) (reading y memory (slot_as_queue right n)) n x.kind (λ n c. s.lowest) σ later.2
      ∙ local o x (a.windows k h) σ n _ _ _ _
      (λ p d. reads_slot memory left n s.lowest e y p in_left is-left (omega (arith, span_later _ _ _ _ _ later.0 d)))
      (λ b p d. reads_slot memory right n s.lowest f y p in_right is_right (omega (arith, span_later _ _ _ _ _ later.0 d)))

  -- a node that is settled at once has its verdict in its queue
  its_verdict : Stands (length memory) q.from q.to q.at → At s σ (suc n) t k memory q → at_once x.kind ≡ true → reading s.lowest memory q n ≡ verdict s σ (suc n) t k n
  its_verdict stands at prompt =
      let now : n < q.count = omega (arith, at.counts, settled_at_once a k h s σ (suc n) prompt) in
      seen_in s.lowest q.count (value_in s.lowest memory q) n now
      ∙ (queued o a σ (suc n) k memory q s.lowest stands at).holds n now (omega (arith, at.counts, settled_at_once a k h s σ (suc n) prompt, at.room, some_place t k))

  pub ends_are :
      Stands (length memory) q.from q.to q.at
      → At s σ (suc n) t k memory q
      → (l.to + 2 ≤ length memory) × (r.to + 2 ≤ length memory)
      → (Inner x.kind → EndsAt s σ n t x.left memory l)
      → (Inner x.kind → EndsAt s σ n t x.right memory r)
      → ends_from s memory x q l r n ≡ ends s σ n t k
  ends_are stands at inside left right =
      ⊎_elim
      (λ prompt. cond-true _ _ _ prompt ∙ ap both_ends (its_verdict stands at prompt) ∙ sym (ends_at_once s σ n a k h prompt))
      (λ later.
      let el = left later.2 in
      let er = right later.2 in
      let low = from_two later l.to r.to _ _ s.lowest (omega arith) (omega arith) el.lower er.lower in
      let high = from_two later (l.to + 1) (r.to + 1) _ _ s.highest (omega arith) (omega arith) el.upper er.upper in
      let both : from_stored s memory x l r n ≡ from_ends s σ n t x (ends s σ n t x.left) (ends s σ n t x.right) = ap₂ (λ u v. record { lower = u; upper = v }) low high in
      cond-false _ _ _ later.1 ∙ ap (turned_round (turned x.kind)) both ∙ sym (ends_later s σ n a k h later))
      (once_or_later x.kind)
