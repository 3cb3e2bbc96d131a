-- The numbers of what an outbox refuses. Assumes nothing.
use Rattle.std.specs.Prelude.{ℕ}
use Rattle.outbox.specs.declared.fault.PutFault.{PutFault}
use Rattle.outbox.specs.declared.fault.PutFault.TheVariants.{Full}
use Rattle.outbox.specs.declared.fault.TakeFault.{TakeFault}
use Rattle.outbox.specs.declared.fault.TakeFault.TheVariants.{Empty}

abbrev pub put_refusal : PutFault → ℕ
put_refusal Full = 62

abbrev pub take_refusal : TakeFault → ℕ
take_refusal Empty = 61
