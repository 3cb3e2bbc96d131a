-- A search for the first fault, by the places of the questions. Assumes nothing.
use Rattle.std.proofs.Common.{◌≡◌, ℕ, zero, suc, ◌+◌, ◌<◌, true, List, [], ◌∷◌, length, get_or, Some, None, Ok, Err, Option, Result, refl, sym, ap, ◌∙◌, arith}
use Rattle.std.specs.Result.{result_err}
use Rattle.std.specs.Option.{option_map, MatchOption, IfSome, IsSomeAnd}
use Rattle.std.specs.Iterator.Runs.{Run, ItemsMapTo, AllItemsGive, IsFirstToGive}
use denote.Param.Members.{Mut, Called}
use Rattle.source.specs.declared.fault.Fault.{Fault}
use Rattle.source.specs.Frames.{first_fault, fault_or}

passes : {V : Type 0} (r : Result V Fault) (o : Option Fault) → result_err r ≡ None → o ≡ fault_or r o
passes (Ok v) o h = refl
passes (Err f) o h = cc

stops : {V : Type 0} (r : Result V Fault) (o : Option Fault) (f : Fault) → result_err r ≡ Some f → Some f ≡ fault_or r o
stops (Ok v) o f h = cc
stops (Err e) o f h = sym h

module _ {Q V : Type 0} (ask : Q → Result V Fault) where
  no_fault : (qs : List Q) → ((k : ℕ) (d : Q) → k < length qs → result_err (ask (get_or qs k d)) ≡ None) → None ≡ first_fault ask qs
  no_fault [] miss = refl
  no_fault (q ∷ qs) miss = no_fault qs (λ k d h. miss (suc k) d (omega arith)) ∙ passes (ask q) (first_fault ask qs) (miss 0 q (omega arith))

  fault_at : (qs : List Q) (i : ℕ) (f : Fault) → i < length qs → ((d : Q) → result_err (ask (get_or qs i d)) ≡ Some f)
      → ((k : ℕ) (d : Q) → k < i → result_err (ask (get_or qs k d)) ≡ None) → Some f ≡ first_fault ask qs
  fault_at [] i f h hit miss = absurd (omega arith)
  fault_at (q ∷ qs) zero f h hit miss = stops (ask q) (first_fault ask qs) f (hit q)
  fault_at (q ∷ qs) (suc i) f h hit miss =
      fault_at qs i f (omega arith) hit (λ k d l. miss (suc k) d (omega arith)) ∙ passes (ask q) (first_fault ask qs) (miss 0 q (omega arith))

  -- the closure g asks the question that an item shows, and hands its fault on
  module _ {A F S : Type 0} {steps : S → Option A → S → Type 0} (shown : A → Q) {g : Mut F (A × Unit {0}) (Option Fault)} {f : F}
      (asks : (x : A) (r : Option Fault) (h : F) → Called g f (x, tt) r h → (h ≡ f) × (r ≡ result_err (ask (shown x))))
      (qs : List Q) (p : Run steps) (are : ItemsMapTo p shown qs) where
    told : (o : Option A) (q : Q) (r : Option Fault) → option_map shown o ≡ Some q → IfSome o (λ x. Called g f (x, tt) r f) → result_err (ask q) ≡ r
    told None q r e h = absurd (cc)
    told (Some x) q r e h = let is : shown x ≡ q = cc in ap (λ n. result_err (ask n)) (sym is) ∙ sym (asks x r f h).1

    if_some : (P : A → Type 0) (o : Option A) → IsSomeAnd o P → IfSome o P
    if_some P None h = absurd h
    if_some P (Some x) h = h

    keeps : (x : A × Unit {0}) (r : Option Fault) (h : F) → Called g f x r h → h ≡ f
    keeps x r h called = (asks x.0 r h called).0

    pub found : (r : Option Fault)
        → MatchOption r ((p.whole ≡ true) × AllItemsGive p g f None) (λ y. (i : ℕ) × (i < p.len) × (p.len ≡ i + 1) × IsFirstToGive p g f (Some y) None i)
        → r ≡ first_fault ask qs
    found None h = no_fault qs (λ k d l. told (p.at k) (get_or qs k d) None (are.2 k d (omega (arith, are.1 h.0))) (h.1 keeps k))
    found (Some y) h =
        fault_at qs h.0 y (omega (arith, are.0, h.1)) (λ d. told (p.at h.0) (get_or qs h.0 d) (Some y) (are.2 h.0 d h.1) (if_some _ (p.at h.0) (h.3 keeps).0))
        (λ k d l. told (p.at k) (get_or qs k d) None (are.2 k d (omega (arith, h.1))) (if_some _ (p.at k) ((h.3 keeps).1 k l)))
