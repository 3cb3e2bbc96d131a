-- A question inside the rows has its place in the list.
use Rattle.source.proofs.Places.{in_list, reads}
use Rattle.source.proofs.rows.RowsSource.ask.Goals as goal

pub read-requires : goal.read-requires
read-requires g c =
    in_list g.V.Scale.scale.lowest c.args.self.now.values.now c.args.self.now.width c.args.tick c.args.sample (rw (c.length.ensures, c.width.ensures) at c.in_ok-refuse.ensures)

pub returns : goal.returns
returns g c =
    reads g.V.Scale.scale.lowest c.args.self.now.values.now c.args.self.now.width c.args.tick c.args.sample (rw (c.length.ensures, c.width.ensures) at c.in_ok-refuse.ensures) c.read.ensures
