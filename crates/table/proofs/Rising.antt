-- The first fault of tests that are made in the order of their faults. Assumes nothing.
use Rattle.std.proofs.Common.{◌≡◌, ℕ, zero, suc, ◌+◌, ◌≤◌, true, List, [], ◌∷◌, ◌++◌, Some, sym, ◌∙◌, subst, ⊎_elim, append_assoc, arith}
use Rattle.std.proofs.ByRecursion.{All-weaker}
use Rattle.std.proofs.lemmas.Bool.{cases_Bool, cond-true, cond-false, both_ways}
use Rattle.std.specs.List.{range_with_len, flat_map, AllByRecursion}
use Rattle.table.specs.declared.fault.TableFault.{TableFault}
use Rattle.table.specs.Refusals.{Test, first}
use Rattle.table.specs.Checking.{stage, place, number, Before}

-- g comes at f's place or after it
abbrev pub Upto : TableFault → TableFault → Type 0
Upto f g = (stage f ≤ stage g) × (stage f ≡ stage g → place f ≤ place g) × (stage f ≡ stage g → place f ≡ place g → number f ≤ number g)

pub not_before : (f g : TableFault) → Upto f g → Before g f → ⊥
not_before f g u b = omega arith

upto_upto : (f g h : TableFault) → Upto f g → Upto g h → Upto f h
upto_upto f g h u v = omega arith

-- f and the faults of the tests come one after the other
abbrev pub Rising : TableFault → List Test → Type 0
Rising f [] = Unit {0}
Rising f (t ∷ ts) = Upto f t.fault × Rising t.fault ts

pub rising_from : (f g : TableFault) (ts : List Test) → Upto f g → Rising g ts → Rising f ts
rising_from f g [] u r = tt
rising_from f g (t ∷ ts) u r = (upto_upto f g t.fault u r.0, r.1)

all_later : (f : TableFault) (ts : List Test) → Rising f ts → AllByRecursion (λ t. Upto f t.fault) ts
all_later f [] r = tt
all_later f (t ∷ ts) r = (r.0, all_later f ts (rising_from f t.fault ts r.0 r.1))

-- all that are there come at the place of the first, or after it
pub first_leads : (e f : TableFault) (ts : List Test) → Rising e ts → first ts ≡ Some f → AllByRecursion (λ t. t.there ≡ true → Upto f t.fault) ts
first_leads e f [] r found = tt
first_leads e f (t ∷ ts) r found =
    ⊎_elim
    (λ there.
    let own : Some t.fault ≡ Some f = sym (cond-true _ _ _ there) ∙ found in
    let same : t.fault ≡ f = cc in
    subst (λ q. AllByRecursion (λ s. s.there ≡ true → Upto q s.fault) (t ∷ ts)) same
    (λ yes. omega arith, All-weaker _ _ (λ s u yes. u) ts (all_later t.fault ts r.1)))
    (λ gone. (λ yes. absurd (both_ways _ gone yes), first_leads t.fault f ts r.1 (sym (cond-false _ _ _ gone) ∙ found)))
    (cases_Bool t.there)

-- tests made for each number in turn, and then others
module _ (g : ℕ → List Test) (at : ℕ → TableFault) (each : (j : ℕ) (ts : List Test) → Rising (at (j + 1)) ts → Rising (at j) (g j ++ ts)) (ts : List Test) (rest : (j : ℕ) → Rising (at j) ts) where
  pub rising_joined : (a c : ℕ) → Rising (at a) (flat_map g (range_with_len a c) ++ ts)
  rising_joined a zero = rest a
  rising_joined a (suc c) = subst (Rising (at a)) (sym (append_assoc (g a) (flat_map g (range_with_len (a + 1) c)) ts)) (each a (flat_map g (range_with_len (a + 1) c) ++ ts) (rising_joined (a + 1) c))
