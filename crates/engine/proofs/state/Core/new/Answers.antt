use Rattle.std.proofs.Common.{arith}
use Rattle.table_check.specs.Plans.{table_of}
use Rattle.engine.proofs.Laying.{laid_rising, laid_inside, laid_stands, laid_roomy, laid_unsettled}
use Rattle.engine.proofs.state.Core.new.Goals as goal

pub invariant_of-result : goal.invariant_of-result
invariant_of-result c =
    let t = table_of c.args.plan in
    let ps = c.places.result.now in
    let qs = c.lay_out-keeps.result in
    let many = c.places.ensures.len in
    let are = c.places.ensures.places in
    let laid = c.lay_out-keeps.ensures in
    record {
      few = omega arith;
      rising = laid_rising t ps qs many are laid;
      inside = laid_inside t ps qs many are laid;
      stands = laid_stands t ps qs many are laid;
      roomy = laid_roomy t ps qs many are laid;
      counted = λ k. laid_unsettled t ps qs many are laid k 0;
    }
