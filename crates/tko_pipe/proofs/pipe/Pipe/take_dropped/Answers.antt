use Rattle.std.proofs.Common.{refl, inl, Ok, None}
use Rattle.tko_pipe.proofs.PipeLemmas.{by_form, none_unread}
use Rattle.tko_pipe.proofs.pipe.Pipe.take_dropped.Goals as goal

pub returns-in-Connected : goal.returns-in-Connected
returns-in-Connected c =
    by_form _ c.args.self.now c.drop_connected.result c.drop_connected.new.self c.self.view_is
    c.requires.live c.self.invariant.3 c.requires.gone c.drop_connected.ensures

pub returns-in-Connecting : goal.returns-in-Connecting
returns-in-Connecting c =
    by_form _ c.args.self.now (Ok None) c.args.self.now c.self.view_is c.requires.live
    c.self.invariant.3 c.requires.gone
    (λ form is. (
      refl,
      inl (none_unread _ c.args.self.now c.self.view_is c.in-Connecting.is
          c.self.invariant.2),
    ))
