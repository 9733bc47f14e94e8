use Rattle.std.proofs.Common.{◌≡◌, ◌∙◌, ◌++◌, ◌≤◌, ap, length, take, arith}
use Rattle.std.proofs.lemmas.List.{length-take-le}
use Rattle.tko_links.proofs.IncomingLemmas.{filled_more}
use Rattle.tko_links.proofs.PartLemmas.{part_kept}
use Rattle.tko_links.proofs.read_buffer.ReadBuffer.read.Goals as goal

pub returns-in-Ok : goal.returns-in-Ok
returns-in-Ok g c =
    let filled = c.self.inside.filled in
    let count = c.in-Ok.count in
    let within : count ≤ length c.read.new.buffer = c.in-Ok.ensures.count in
    let front : take filled c.deref_mut.result.now ≡ c.args.self.now =
    ap (take filled) c.deref_mut.ensures.value ∙ c.make_room.ensures.kept ∙ c.self.view_is in (
      take count c.read.new.buffer,
      filled_more _ c.read.new.buffer _ _ filled count _ (length-take-le filled c.deref_mut.result.now (omega (arith, c.make_room.ensures.within, c.deref_mut.ensures.len))) within (omega (arith, within, c.read.auto.buffer, c.make_room.ensures.within, c.deref_mut.ensures.len)) ∙ ap (λ xs. xs ++ take count c.read.new.buffer) front,
      length-take-le count c.read.new.buffer within,
      part_kept c.in-Ok.ensures.record c.requires.connected c.in-Ok.ensures.kept c.in-Ok.ensures.failures c.in-Ok.ensures.servers,
    )
