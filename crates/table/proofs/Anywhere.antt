-- Whether one of some numbers passes. Assumes nothing.
use Rattle.std.proofs.Common.{◌≡◌, ℕ, zero, suc, ◌<◌, Bool, true, Decides, sym, ap, ◌∙◌, ⊎_elim, arith}
use Rattle.std.proofs.lemmas.Bool.{cases_eq, or_cases, or_left, or_right, false≢true}
use Rattle.table.specs.Refusals.{any}

-- some number below n passes
pub any_some : (n : ℕ) (test : ℕ → Bool) (j : ℕ) → j < n → test j ≡ true → any n test ≡ true
any_some zero test j i h = absurd (omega arith)
any_some (suc n) test j i h =
    ⊎_elim
    (λ e. or_right (any n test) _ (ap test (sym e) ∙ h))
    (λ ne. or_left _ (test n) (any_some n test j (omega arith) h))
    (cases_eq j n)

pub any_found : (n : ℕ) (test : ℕ → Bool) → any n test ≡ true → (j : ℕ) × (j < n) × (test j ≡ true)
any_found zero test e = absurd (false≢true e)
any_found (suc n) test e =
    ⊎_elim
    (λ before. let f = any_found n test before in (f.0, omega arith, f.2))
    (λ last. (n, omega arith, last))
    (or_cases (any n test) (test n) e)

-- where each test says the same as P, some number passes if and only if P is so of one
pub decides_any : (n : ℕ) (test : ℕ → Bool) (P : ℕ → Type 0) → ((j : ℕ) → Decides (test j) (P j)) → Decides (any n test) ((j : ℕ) × (j < n) × P j)
decides_any n test P each = (
  λ e. let f = any_found n test e in (f.0, f.1, (each f.0).0 f.2),
  λ p. any_some n test p.0 p.1 ((each p.0).1 p.2),
)
