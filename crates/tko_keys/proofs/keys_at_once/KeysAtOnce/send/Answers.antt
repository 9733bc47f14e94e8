use Rattle.std.proofs.Common.{◌≡◌, ◌<◌, ◌≤◌, length, subst, sym, ap, rules, ◌∙◌}
use Rattle.std.specs.Prelude.{All}
use Rattle.std.specs.VecDeque.{deque_capacity, deque_len}
use Rattle.tko_keys.specs.KeysDriven.{AreUnderWay}
use Rattle.tko_keys.specs.KeysState.{DueKey, KeysState, places_out}
use Rattle.tko_keys.proofs.CallLemmas.{sent_ready, sent_rest}
use Rattle.tko_keys.proofs.DueLemmas.{has_sent_at}
use Rattle.tko_keys.proofs.RoomLemmas.{first_due_has, send_room}
use Rattle.tko_keys.proofs.KeptLemmas.{places_of}
use Rattle.tko_keys.proofs.keys_at_once.KeysAtOnce.send.Goals as goal

pub line_for-line-requires-clause-slot : goal.line_for-line-requires-clause-slot
line_for-line-requires-clause-slot c =
    let has = first_due_has c.self.inside.slots.items c.self.inside.sends.items c.self.inside.came
    c.self.invariant.2 c.take_due.ensures.first in
    let same : c.take_due.result.place ≡ c.place.inside.place =
    ap (λ (d : DueKey). d.place) (sym c.place.view_is) in
    subst (λ (ss : _). c.place.inside.place < length ss) (sym c.as_slice-slots.ensures.value)
    (subst (λ n. n < length c.self.inside.slots.items) same has.0)

pub line_for-line-requires-clause-slots : goal.line_for-line-requires-clause-slots
line_for-line-requires-clause-slots c =
    let has = first_due_has c.self.inside.slots.items c.self.inside.sends.items c.self.inside.came
    c.self.invariant.2 c.take_due.ensures.first in
    subst (λ (ss : _). All (λ (d : DueKey). d.place < length ss) c.take_due.new.due.items)
    (sym c.as_slice-slots.ensures.value) has.1

pub push_back_reserved-requires : goal.push_back_reserved-requires
push_back_reserved-requires c =
    let ready = subst (AreUnderWay c.requires.ready.0) (sym c.self.view_is) c.requires.ready.1 in
    let len : deque_len c.self.inside.sends ≡ length c.self.inside.sends.items = search rules in
    subst (λ n. n < deque_capacity c.self.inside.sends) (sym len)
    (send_room c.self.inside.out _ ready c.take_due.ensures.first c.self.invariant.4
    c.self.invariant.6)

pub returns-clause-sent : goal.returns-clause-sent
returns-clause-sent c =
    let same : c.take_due.result.place ≡ c.place.inside.place =
    ap (λ (d : DueKey). d.place) (sym c.place.view_is) in
    has_sent_at c.self.view_is c.take_due.ensures.first same c.as_slice-slots.ensures.value
    c.line_for-line.ensures.goes c.push_back_reserved.ensures.items

pub returns-clause-ready : goal.returns-clause-ready
returns-clause-ready c =
    let same : c.take_due.result.place ≡ c.place.inside.place =
    ap (λ (d : DueKey). d.place) (sym c.place.view_is) in
    λ config ready.
    sent_ready ready (has_sent_at c.self.view_is c.take_due.ensures.first same
    c.as_slice-slots.ensures.value c.line_for-line.ensures.goes
    c.push_back_reserved.ensures.items)

pub invariant_of-self : goal.invariant_of-self
invariant_of-self c =
    let same : c.take_due.result.place ≡ c.place.inside.place =
    ap (λ (d : DueKey). d.place) (sym c.place.view_is) in
    let sent = has_sent_at c.self.view_is c.take_due.ensures.first same
    c.as_slice-slots.ensures.value c.line_for-line.ensures.goes
    c.push_back_reserved.ensures.items in
    let rest = sent_rest c.requires.ready.1 sent in
    let room : deque_capacity c.line_for-line.new.due ≡ deque_capacity c.self.inside.due =
    c.line_for-line.ensures.room ∙ c.take_due.ensures.room in
    let out : c.self.inside.out ≡ length (places_out c.args.self.now) =
    c.self.invariant.4 ∙ ap (λ (s : KeysState). length (places_out s)) c.self.view_is in (
      c.self.invariant.0,
      c.self.invariant.1,
      places_of _ (sent_ready c.requires.ready.1 sent),
      c.self.invariant.3,
      out ∙ sym rest.as_many,
      subst (λ n. c.self.inside.out ≤ n) (sym room) c.self.invariant.5,
      subst (λ n. c.self.inside.out ≤ n)
          (sym c.push_back_reserved.ensures.capacity) c.self.invariant.6,
    )
