use Rattle.std.proofs.Common.{◌≡◌, ap, drop, length, map, take_at, sym, ◌∙◌}
use Rattle.std.proofs.lemmas.List.{length-map}
use Rattle.tko_prober.specs.Probers.{begun_slot}
use Rattle.tko_prober.proofs.ProberLemmas.{busy-begun}
use Rattle.tko_prober.proofs.probers.Probers.begin.Goals as goal

pub invariant_of-self : goal.invariant_of-self
invariant_of-self c =
    let delays = c.self.inside.delays in
    let slots = c.self.inside.slots in
    let new : c.begin_all.new.slots ≡ map (begun_slot delays c.args.moment) slots.items =
    c.begin_all.ensures ∙ ap (map (begun_slot delays c.args.moment)) c.deref_mut.ensures.value in
    let len : length c.begin_all.new.slots ≡ slots.len =
    ap length new ∙ length-map slots.items (begun_slot delays c.args.moment) ∙ sym slots.ok.0 in
    rw (take_at c.begin_all.new.slots (drop (length c.begin_all.new.slots) slots.items) slots.len len, new, busy-begun delays c.args.moment slots.items)
    c.self.invariant
