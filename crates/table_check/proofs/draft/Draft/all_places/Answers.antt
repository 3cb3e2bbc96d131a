use Rattle.std.proofs.Common.{◌≡◌, ℕ, ◌<◌, ◌≤◌, get_or, length, rules, arith}
use Rattle.table.specs.Places.{places}
use Rattle.table_check.specs.Judging.{of_lists}
use Rattle.table_check.proofs.Costs.{made}
use Rattle.table_check.proofs.draft.Draft.all_places.Goals as goal

pub returns : goal.returns
returns c =
    let t = of_lists c.args.self.now.nodes.now c.args.self.now.rules.now in
    let xs = c.from_fn.result in
    let size = length c.args.self.now.nodes.now in
    let each : (k : ℕ) → 0 ≤ k → k < 64 → (k < size → get_or xs k 0 ≡ places t k) × (get_or xs k 0 ≤ 131072) =
    made _ _ (λ k y. (k < size → y ≡ places t k) × (y ≤ 131072)) (λ i y q h. search rules) 64 0 xs c.from_fn.ensures.items.each in
    record { places = λ k h. (each k (omega arith) (omega (arith, c.args.self.now.few))).0 h; few = λ k h. (each k (omega arith) h).1 }
