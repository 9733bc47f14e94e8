use Rattle.std.proofs.Common.{rules}
use Rattle.tko_demo.proofs.HearLemmas.{nothing_more, nothing_of}
use Rattle.tko_demo.proofs.hearing.read_more.Goals as goal

pub returns-in-Bytes-eq0-clause-gives : goal.returns-in-Bytes-eq0-clause-gives
returns-in-Bytes-eq0-clause-gives g c = λ start front.
    nothing_of g.I.Inlet.gives g.met.I.Inlet.goes_on start c.args.inlet.now c.read_piece.new.reader c.args.bytes.now.items
    c.read_piece.new.buffer c.in-Bytes-eq0.field-0 (search rules) front c.in-Bytes-eq0.ensures.piece.bytes

pub returns-in-Idle-clause-gives : goal.returns-in-Idle-clause-gives
returns-in-Idle-clause-gives g c = λ start front.
    nothing_more g.I.Inlet.gives g.met.I.Inlet.goes_on start c.args.inlet.now c.read_piece.new.reader c.args.bytes.now.items
    front c.in-Idle.ensures.piece

pub returns-in-Failed-clause-gives : goal.returns-in-Failed-clause-gives
returns-in-Failed-clause-gives g c = λ start front.
    nothing_more g.I.Inlet.gives g.met.I.Inlet.goes_on start c.args.inlet.now c.read_piece.new.reader c.args.bytes.now.items
    front c.in-Failed.ensures.piece
