use Rattle.std.proofs.Common.{◌≡◌, ◌+◌, ◌++◌, ◌∷◌, [], arith, length, rules, subst, sym}
use Rattle.tko_table.specs.Opening.{AreSeats}
use Rattle.tko_table.specs.Steps.{view_of}
use Rattle.tko_table.proofs.SeatsLemmas.{last-pass, seat-made, seats-push}
use Rattle.tko_table.proofs.words.Words.split_all.Goals as goal

pub returns-clause-seats : goal.returns-clause-seats
returns-clause-seats c =
    let words = c.args.self.now in
    let i = c.loop.invariant in
    let place = length c.loop.seats.items in
    let last : place + 1 ≡ words.settings.threads = search rules in
    let made = seat-made words.settings words.table.shared.table_id place (view_of c.loop.seat) c.loop.seat i.0 (omega arith) i.3 i.4
    (sym (last-pass words.settings place (view_of c.loop.seat) i.0 last)) in
    let is : c.push-2.new.self.items ≡ c.loop.seats.items ++ c.loop.seat ∷ [] = search rules in
    subst (AreSeats words.settings words.table.shared.table_id) (sym is)
    (seats-push words.settings words.table.shared.table_id c.loop.seats.items c.loop.seat i.1 made)
