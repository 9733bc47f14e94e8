-- The parts of an exchange: its connection, the writing, the reading, the end.
use Rattle.std.proofs.Common.{◌≡◌, ℕ, Bool, true, false, List, [], ◌∷◌, ◌++◌, refl, ap}
use Rattle.std.proofs.Common.{sym, ◌∙◌, subst, inl, inr, append_assoc, append-nil, Ok, Err}
use Rattle.std.proofs.Common.{Some, Result}
use Rattle.std.specs.List.{concat}
use Rattle.tko_text.specs.declared.request.Request.{Request}
use Rattle.tko_text.specs.declared.response.Response.{Response}
use Rattle.tko_text.specs.Requests.{request_text}
use Rattle.tko_links.specs.declared.fault.LinkFault.{LinkFault}
use Rattle.tko_links.specs.declared.fault.LinkFault.TheVariants as fault
use Rattle.tko_links.specs.declared.links.Outcome.TheVariants as outcome
use Rattle.tko_links.specs.declared.wire.WireFault.TheVariants as wire_fault
use Rattle.tko_links.specs.ExchangeParts.{Opens, ReceiveEnds, Receives, SendsPart, WriteEnds}
use Rattle.tko_links.specs.ExchangeParts.{SendAndReceiveEnds, SendsAndReceives, returned}
use Rattle.tko_links.specs.ExchangeParts.{stays_after}
use Rattle.tko_links.specs.Exchanges.{BeginsText, ExchangeEnds, IsExchangeShut, IsOpening, IsPart, IsWireExchange}
use Rattle.tko_links.specs.Exchanges.{closing_of, got_all, is_reached, wrote_all}
use Rattle.tko_links.specs.Links.{is_counted, outcome_in}
use Rattle.tko_links.specs.Wires.{WireItem, Failed, Shut}
use Rattle.tko_links.proofs.PartLemmas.{part_append, part_as, part_none}

unsent_end : (server : ℕ) (request : Request) (text : List ℕ) (pieces : List (List ℕ))
    (tail : List WireItem) (f : LinkFault) → WriteEnds server text pieces tail (Err f)
    → SendAndReceiveEnds server request pieces [] tail (Err f)
unsent_end server request text pieces tail fault.TimedOut ends = ends
unsent_end server request text pieces tail fault.Broken ends = ends request
unsent_end server request text pieces tail fault.Memory ends = absurd ends

received_end : (server : ℕ) (request : Request) (sent got : List (List ℕ)) (tail : List WireItem)
    (result : Result (Response × Bool) LinkFault)
    → concat sent ≡ request_text request → ReceiveEnds server request got tail result
    → SendAndReceiveEnds server request sent got tail result
received_end server request sent got tail (Ok reply) all ends = (ends.0, all, ends.1)
received_end server request sent got tail (Err fault.TimedOut) all ends = ends
received_end server request sent got tail (Err fault.Broken) all ends = ends sent
received_end server request sent got tail (Err fault.Memory) all ends = ends

shut_end : (server : ℕ) (tail told : List WireItem) → tail ≡ told
    → IsExchangeShut server told (tail ++ closing_of false server) false
shut_end server tail told e = record { closed = ap (λ xs. xs ++ Shut server ∷ []) e; gone = refl }

done_end : (server : ℕ) (request : Request) (sent got : List (List ℕ)) (tail : List WireItem)
    (result : Result (Response × Bool) LinkFault)
    → SendAndReceiveEnds server request sent got tail result
    → ExchangeEnds server request (outcome_in (returned result)) sent got
    (tail ++ closing_of (stays_after result) server) (stays_after result)
done_end server request sent got tail (Ok reply) ends = record {
  all_sent = ends.1;
  reply = ends.2;
  closed = ap (λ xs. xs ++ closing_of reply.1 server) ends.0;
}
done_end server request sent got tail (Err fault.TimedOut) ends =
    shut_end server tail (Failed server wire_fault.TimedOut ∷ []) ends
done_end server request sent got tail (Err fault.Broken) ends =
    (tail, ends, shut_end server tail tail refl)
done_end server request sent got tail (Err fault.Memory) ends = shut_end server tail [] ends

reached : (result : Result (Response × Bool) LinkFault)
    → is_reached (outcome_in (returned result)) ≡ true
reached (Ok reply) = refl
reached (Err fault.TimedOut) = refl
reached (Err fault.Broken) = refl
reached (Err fault.Memory) = refl

regroup : (opening wrote got tail closing : List WireItem)
    → (opening ++ (wrote ++ (got ++ tail))) ++ closing ≡ opening
    ++ (wrote ++ (got ++ (tail ++ closing)))
regroup opening wrote got tail closing = simp (append_assoc)

module _ {W : Type 0} {servers : W → ℕ} {connected : W → ℕ → Bool} {failures : W → ℕ}
    {steps : W → WireItem → W → Type 0}
    {server : ℕ} {request : Request} where
  -- memory for the printed request ran out
  pub not_printed : (at : W) → connected at server ≡ true
      → SendsAndReceives servers connected failures steps server request at (Err fault.Memory) at
  not_printed at there = record {
    sent = [];
    got = [];
    tail = [];
    part = part_none there;
    front = record { rest = request_text request; whole = refl };
    order = inl refl;
    ends = refl;
  }

  -- the request was not written whole
  pub not_sent : {old new : W} {text : List ℕ} (f : LinkFault) → text ≡ request_text request
      → SendsPart servers connected failures steps server text old (Err f) new
      → SendsAndReceives servers connected failures steps server request old (Err f) new
  not_sent {text} f e sends = record {
    sent = sends.pieces;
    got = [];
    tail = sends.tail;
    part = sends.part;
    front = subst (λ xs. BeginsText (concat sends.pieces) xs) e sends.front;
    order = inl refl;
    ends = unsent_end server request text sends.pieces sends.tail f sends.ends;
  }

  -- it was, and this came of the reading
  pub received_after_send : {old mid new : W} {text : List ℕ}
      (result : Result (Response × Bool) LinkFault) → text ≡ request_text request
      → SendsPart servers connected failures steps server text old (Ok tt) mid
      → Receives servers connected failures steps server request mid result new
      → SendsAndReceives servers connected failures steps server request old result new
  received_after_send {text} result e sends receives =
      let all : concat sends.pieces ≡ request_text request = sends.ends.1 ∙ e in
      let written : wrote_all server sends.pieces ++ sends.tail ≡ wrote_all server sends.pieces =
      ap (λ xs. wrote_all server sends.pieces ++ xs) sends.ends.0
      ∙ append-nil (wrote_all server sends.pieces) in
      record {
        sent = sends.pieces;
        got = receives.pieces;
        tail = receives.tail;
        part =
            part_as (ap (λ xs. xs ++ (got_all server receives.pieces ++ receives.tail)) written)
            (part_append sends.part receives.part);
        front = record { rest = []; whole = sym all ∙ sym (append-nil (concat sends.pieces)) };
        order = inr all;
        ends = received_end server request sends.pieces receives.pieces receives.tail result all
            receives.ends;
      }

  pub exchange_refused : {old new : W} → Opens servers connected failures steps server old false new
      → IsWireExchange servers connected failures steps server request old (Some outcome.Refused) new
  exchange_refused opened = record {
    opening = opened.items;
    sent = [];
    got = [];
    closing = [];
    stays = false;
    part = part_as (sym (append-nil opened.items)) opened.part;
    opens = opened.opens;
    front = record { rest = request_text request; whole = refl };
    order = inl refl;
    ends = record { unsent = refl; unread = refl; closed = refl; gone = refl };
  }

  -- a connection, a request and its response, and the end
  pub exchange_done : {old mid talked new : W} (result : Result (Response × Bool) LinkFault)
      → Opens servers connected failures steps server old true mid
      → SendsAndReceives servers connected failures steps server request mid result talked
      → IsPart servers connected failures steps server talked
      (closing_of (stays_after result) server) (stays_after result) new
      → IsWireExchange servers connected failures steps server request old
      (outcome_in (returned result)) new
  exchange_done {old} result opened talks close = record {
    opening = opened.items;
    sent = talks.sent;
    got = talks.got;
    closing = talks.tail ++ closing_of (stays_after result) server;
    stays = stays_after result;
    part =
        part_as
        (regroup opened.items (wrote_all server talks.sent) (got_all server talks.got) talks.tail
        (closing_of (stays_after result) server))
        (part_append (part_append opened.part talks.part) close);
    opens = subst (λ b. IsOpening server (connected old server) b opened.items)
        (sym (reached result)) opened.opens;
    front = talks.front;
    order = talks.order;
    ends = done_end server request talks.sent talks.got talks.tail result talks.ends;
  }

-- what is returned after a connection was there was counted
pub returned_counted : (result : Result (Response × Bool) LinkFault)
    → is_counted (returned result) ≡ true
returned_counted (Ok reply) = refl
returned_counted (Err fault.TimedOut) = refl
returned_counted (Err fault.Broken) = refl
returned_counted (Err fault.Memory) = refl
