-- What a caller named, call by call. Assumes nothing.
use Rattle.std.proofs.Common.{◌≡◌, List, [], ◌∷◌, ◌++◌, length, Some, None, Option, refl, ap, ◌∙◌, subst, arith}
use Rattle.std.proofs.lemmas.List.{length_push}
use Rattle.calls.specs.declared.call.Call.{Call}
use Rattle.calls.specs.declared.call.Answer.{Answer}
use Rattle.calls.specs.Runs.{Log}
use Rattle.life.specs.Lives.{Named, begins, says}

-- two lists with one more element each are the same only if both parts are
unsnoc : {X : Type 0} (xs ys : List X) (x y : X) → xs ++ x ∷ [] ≡ ys ++ y ∷ [] → (xs ≡ ys) × (x ≡ y)
unsnoc [] [] x y e = (cc, cc)
unsnoc [] (z ∷ ys) x y e = absurd (omega (arith, ap length e, length_push ys y))
unsnoc (z ∷ xs) [] x y e = absurd (omega (arith, ap length e, length_push xs x))
unsnoc (z ∷ xs) (w ∷ ys) x y e =
    let tails : xs ++ x ∷ [] ≡ ys ++ y ∷ [] = cc in
    let heads : z ≡ w = cc in
    let rest = unsnoc xs ys x y tails in
    let same : z ∷ xs ≡ w ∷ ys = ap (λ l. z ∷ l) rest.0 ∙ ap (λ v. v ∷ ys) heads in
    (same, rest.1)

module _ {V C : Type 0} (names : C → Option (Answer V) → Option Call) (after : C → Option (Answer V) → C) (from : C) where
  -- before its last call a caller was so, was told this, and named that call
  pub record Before (log : Log V) (k : Call) : Type 0 where
    pub caller : C
    pub told : Option (Answer V)
    pub named : Named names after from log caller told
    pub says_so : names caller told ≡ Some k

  before_last : (all log : Log V) (k : Call) (a : Answer V) (c : C) (l : Option (Answer V)) → Named names after from all c l → all ≡ log ++ (k, a) ∷ [] → Before log k × (l ≡ Some a)
  before_last all log k a c l begins e = absurd (omega (arith, ap length e, length_push log (k, a)))
  before_last all log k a c l (says {log = done} {c = was} {l = told} j b named is) e =
      let parts = unsnoc done log (j, b) (k, a) e in
      (record { caller = was; told = told; named = subst (λ z. Named names after from z was told) parts.0 named; says_so = is ∙ ap (λ p. Some p.0) parts.1 }, ap (λ p. Some p.1) parts.1)

  pub named_last : (log : Log V) (k : Call) (a : Answer V) (c : C) (l : Option (Answer V)) → Named names after from (log ++ (k, a) ∷ []) c l → Before log k × (l ≡ Some a)
  named_last log k a c l named = before_last (log ++ (k, a) ∷ []) log k a c l named refl

  none_at : (all : Log V) (c : C) (l : Option (Answer V)) → Named names after from all c l → all ≡ [] → l ≡ None
  none_at all c l begins e = refl
  none_at all c l (says {log = done} j b named is) e = absurd (omega (arith, ap length e, length_push done (j, b)))

  pub none_told : (c : C) (l : Option (Answer V)) → Named names after from [] c l → l ≡ None
  none_told c l named = none_at [] c l named refl
