-- What rows answer to the samples of a table. Assumes nothing.
use Rattle.std.proofs.Common.{◌≡◌, ℕ, zero, suc, ◌<◌, true, List, [], ◌∷◌, length, get_or, Some, None, Ok, Err, Result, sym, refl, ap, ◌∙◌, subst, ⊎_elim, arith}
use Rattle.std.proofs.lemmas.Bool.{cases_Bool, cond-true, cond-false}
use Rattle.std.specs.List.{AllByRecursion}
use Rattle.source.specs.declared.fault.Fault.{Fault}
use Rattle.source.specs.Frames.{fault_or, first_fault}
use Rattle.table.specs.declared.kind.Sort.{Sort}
use Rattle.table.specs.declared.kind.Sort.TheVariants.{Leaf, Point, Ahead, Back}
use Rattle.table.specs.declared.node.Node.{Node}
use Rattle.table.specs.Accepting.{LeftPlaced, Accepted}
use Rattle.table.specs.Kinds.{shape, sampled, leaf}
use Rattle.table.specs.Tables.{Table, blank}
use Rattle.engine.specs.Asking.{samples_of}

-- an answer that is a value
abbrev pub Answered : {V : Type 0} → Result V Fault → Type 0
Answered {V} r = (v : V) × (r ≡ Ok v)

module _ {V : Type 0} (ask : ℕ → Result V Fault) where
  -- no fault: every sample was answered
  pub all_answered : (cs : List ℕ) → None ≡ first_fault ask cs → AllByRecursion (λ c. Answered (ask c)) cs
  all_answered [] e = tt
  all_answered (c ∷ cs) e = by_answer (ask c) refl (all_answered cs)
    where
      by_answer : (r : Result V Fault) → ask c ≡ r → (None ≡ first_fault ask cs → AllByRecursion (λ c. Answered (ask c)) cs) → Answered (ask c) × AllByRecursion (λ c. Answered (ask c)) cs
      by_answer (Ok v) is rest = ((v, is), rest (e ∙ ap (λ r. fault_or r (first_fault ask cs)) is))
      by_answer (Err f) is rest = let no : None ≡ Some f = e ∙ ap (λ r. fault_or r (first_fault ask cs)) is in let z : ◌≡◌ {A = ℕ} 0 1 = cc in absurd (omega arith)

  pub no_fault : (cs : List ℕ) → AllByRecursion (λ c. Answered (ask c)) cs → None ≡ first_fault ask cs
  no_fault [] h = refl
  no_fault (c ∷ cs) h = no_fault cs h.1 ∙ sym (ap (λ r. fault_or r (first_fault ask cs)) h.0.1)

  -- the first sample's fault is the first
  pub first_of : (c : ℕ) (cs : List ℕ) (f : Fault) → ask c ≡ Err f → first_fault ask (c ∷ cs) ≡ Some f
  first_of c cs f e = ap (λ r. fault_or r (first_fault ask cs)) e

-- what holds of every sample that is asked for holds of each sample node's, and the other way round
pub of_nodes : (P : ℕ → Type 0) (nodes : List Node) → AllByRecursion P (samples_of nodes) → (k : ℕ) → k < length nodes → sampled (get_or nodes k blank).kind ≡ true → P (get_or nodes k blank).left
of_nodes P [] h k lt e = absurd (omega arith)
of_nodes P (x ∷ xs) h zero lt e = (subst (AllByRecursion P) (cond-true (sampled x.kind) (x.left ∷ samples_of xs) (samples_of xs) e) h).0
of_nodes P (x ∷ xs) h (suc k) lt e =
    of_nodes P xs
    (⊎_elim
    (λ t. (subst (AllByRecursion P) (cond-true (sampled x.kind) (x.left ∷ samples_of xs) (samples_of xs) t) h).1)
    (λ f. subst (AllByRecursion P) (cond-false (sampled x.kind) (x.left ∷ samples_of xs) (samples_of xs) f) h)
    (cases_Bool (sampled x.kind)))
    k (omega arith) e

pub of_samples : (P : ℕ → Type 0) (nodes : List Node) → ((k : ℕ) → k < length nodes → sampled (get_or nodes k blank).kind ≡ true → P (get_or nodes k blank).left) → AllByRecursion P (samples_of nodes)
of_samples P [] h = tt
of_samples P (x ∷ xs) h =
    let rest = of_samples P xs (λ k lt e. h (suc k) (omega arith) e) in
    ⊎_elim
    (λ t. subst (AllByRecursion P) (sym (cond-true (sampled x.kind) (x.left ∷ samples_of xs) (samples_of xs) t)) (h 0 (omega arith) t, rest))
    (λ f. subst (AllByRecursion P) (sym (cond-false (sampled x.kind) (x.left ∷ samples_of xs) (samples_of xs) f)) rest)
    (cases_Bool (sampled x.kind))

-- the first node of an accepted table is a sample
first_leaf : (s : Sort) (left : ℕ) → LeftPlaced s left 0 → leaf s ≡ true
first_leaf Leaf left h = refl
first_leaf Point left h = absurd (omega arith)
first_leaf Ahead left h = absurd (omega arith)
first_leaf Back left h = absurd (omega arith)

pub some_sample : (t : Table) → Accepted t → (c : ℕ) × ((cs : List ℕ) × (samples_of t.nodes ≡ c ∷ cs))
some_sample t a = from t.nodes refl
  where
    from : (nodes : List Node) → t.nodes ≡ nodes → (c : ℕ) × ((cs : List ℕ) × (samples_of nodes ≡ c ∷ cs))
    from [] e = absurd (omega (arith, a.some_nodes, ap length e))
    from (x ∷ xs) e =
        let here : sampled x.kind ≡ true = first_leaf (shape x.kind).sort x.left (subst (λ (l : List Node). LeftPlaced (shape (get_or l 0 blank).kind).sort (get_or l 0 blank).left 0) e (a.left 0 a.some_nodes)) in
        (x.left, (samples_of xs, cond-true _ _ _ here))
