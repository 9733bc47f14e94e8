-- Laws of links over a wire.
use Rattle.std.proofs.Common.{◌≡◌, ℕ, Bool, true, false, List, [], ◌∷◌, ◌++◌, refl, ap, sym, ◌∙◌, subst, inl, inr, append-nil, Some, None, Option, Result, Ok}
use Rattle.std.specs.List.{concat}
use Rattle.std.proofs.lemmas.Grind.{flat_map-append}
use Rattle.tko_model.specs.Records.{Gains, Lead}
use Rattle.tko_model.proofs.RecordLemmas.{gains_append, gains_none}
use Rattle.tko_text.specs.declared.request.Request.{Request}
use Rattle.tko_text.specs.Requests.{request_text}
use Rattle.tko_links.specs.declared.links.Outcome.{Outcome}
use Rattle.tko_links.specs.declared.links.Outcome.TheVariants as outcome
use Rattle.tko_links.specs.Exchanges.{BeginsText, ConnectionFailed, Ended, ExchangeEnds, IsBroken, IsOpening, IsWireExchange, Unreadable, WriteTookNone, closing_of, given_up, got_all, tried, wrote_all}
use Rattle.tko_links.specs.declared.links.ExchangeNoMemory.{ExchangeNoMemory}
use Rattle.tko_links.specs.Links.{LinksItem, Sent, Probed, outcome_in}
use Rattle.tko_links.specs.Scripted.{probes_after_all, sends_after_all}
use Rattle.tko_links.specs.WireRecords.{AreAt, IsExchangeDone, IsWireRecord, bytes_of, wire_written_in}
use Rattle.tko_links.specs.Wired.{IsOverWire, IsWired, WiredState, request_in}
use Rattle.tko_links.specs.Wires.{WireItem, Checked, Failed, Limited, Shut}

-- items at one server that wrote nothing
record IsSilent (server : ℕ) (items : List WireItem) : Type 0 where
  own : AreAt server items
  quiet : wire_written_in items ≡ []

at_append : (server : ℕ) (items others : List WireItem) → AreAt server items → AreAt server others → AreAt server (items ++ others)
at_append server [] others front back = back
at_append server (it ∷ items) others front back = (front.0, at_append server items others front.1 back)

wrote_at : (server : ℕ) (pieces : List (List ℕ)) → AreAt server (wrote_all server pieces)
wrote_at server [] = tt
wrote_at server (piece ∷ pieces) = (refl, wrote_at server pieces)

wrote_bytes : (server : ℕ) (pieces : List (List ℕ)) → wire_written_in (wrote_all server pieces) ≡ concat pieces
wrote_bytes server [] = refl
wrote_bytes server (piece ∷ pieces) = ap (λ xs. piece ++ xs) (wrote_bytes server pieces)

got_silent : (server : ℕ) (pieces : List (List ℕ)) → IsSilent server (got_all server pieces)
got_silent server [] = record { own = tt; quiet = refl }
got_silent server (piece ∷ pieces) =
    let rest = got_silent server pieces in
    record { own = (refl, rest.own); quiet = rest.quiet }

silent_as : (server : ℕ) (items others : List WireItem) → items ≡ others → IsSilent server others → IsSilent server items
silent_as server items others e silent = subst (λ (list : List WireItem). IsSilent server list) (sym e) silent

tried_silent : (server : ℕ) (was is_open : Bool) → IsSilent server (given_up was server ++ tried is_open server ∷ [])
tried_silent server true true = record { own = (refl, (refl, (refl, tt))); quiet = refl }
tried_silent server true false = record { own = (refl, (refl, (refl, tt))); quiet = refl }
tried_silent server false true = record { own = (refl, tt); quiet = refl }
tried_silent server false false = record { own = (refl, tt); quiet = refl }

opening_silent : (server : ℕ) (was is_open : Bool) (items : List WireItem) → IsOpening server was is_open items → IsSilent server items
opening_silent server was is_open items (inl found) =
    silent_as server items (Checked server true ∷ []) found.2 (record { own = (refl, tt); quiet = refl })
opening_silent server was is_open items (inr made) =
    silent_as server items (given_up was server ++ tried is_open server ∷ []) made (tried_silent server was is_open)

shut_silent : (server : ℕ) → IsSilent server (Shut server ∷ [])
shut_silent server = record { own = (refl, tt); quiet = refl }

stays_silent : (server : ℕ) (stays : Bool) → IsSilent server (closing_of stays server)
stays_silent server true = record { own = tt; quiet = refl }
stays_silent server false = shut_silent server

failed_silent : (server : ℕ) (fault : _) → IsSilent server (Failed server fault ∷ Shut server ∷ [])
failed_silent server fault = record { own = (refl, (refl, tt)); quiet = refl }

cut_silent : (server : ℕ) (request : Request) (sent got : List (List ℕ)) (tail : List WireItem) → IsBroken server request sent got tail
    → IsSilent server (tail ++ Shut server ∷ [])
cut_silent server request sent got tail (ConnectionFailed e) =
    silent_as server (tail ++ Shut server ∷ []) _ (ap (λ xs. xs ++ Shut server ∷ []) e) (failed_silent server _)
cut_silent server request sent got tail (WriteTookNone e unread empty) =
    silent_as server (tail ++ Shut server ∷ []) _ (ap (λ xs. xs ++ Shut server ∷ []) e) (shut_silent server)
cut_silent server request sent got tail (Ended e empty none) =
    silent_as server (tail ++ Shut server ∷ []) _ (ap (λ xs. xs ++ Shut server ∷ []) e) (shut_silent server)
cut_silent server request sent got tail (Unreadable e wrong) =
    silent_as server (tail ++ Shut server ∷ []) _ (ap (λ xs. xs ++ Shut server ∷ []) e) (shut_silent server)

closing_silent : (server : ℕ) (request : Request) (came : Option Outcome) (sent got : List (List ℕ)) (closing : List WireItem) (stays : Bool)
    → ExchangeEnds server request came sent got closing stays → IsSilent server closing
closing_silent server request (Some (outcome.Reply response)) sent got closing stays ends =
    silent_as server closing (closing_of stays server) ends.closed (stays_silent server stays)
closing_silent server request (Some outcome.Refused) sent got closing stays ends =
    silent_as server closing [] ends.closed (record { own = tt; quiet = refl })
closing_silent server request (Some outcome.Timeout) sent got closing stays ends =
    silent_as server closing _ ends.closed (failed_silent server _)
closing_silent server request (Some outcome.Broken) sent got closing stays ends =
    silent_as server closing _ ends.2.closed (cut_silent server request sent got ends.0 ends.1)
closing_silent server request (Some outcome.Aborted) sent got closing stays ends = absurd ends
closing_silent server request (Some outcome.Spent) sent got closing stays ends = absurd ends
closing_silent server request None sent got closing stays ends =
    silent_as server closing _ ends.closed (shut_silent server)

only_written : (opening wrote got closing : List WireItem) → wire_written_in opening ≡ [] → wire_written_in got ≡ [] → wire_written_in closing ≡ []
    → wire_written_in (opening ++ (wrote ++ (got ++ closing))) ≡ wire_written_in wrote
only_written opening wrote got closing o g c =
    flat_map-append bytes_of opening (wrote ++ (got ++ closing))
    ∙ ap (λ xs. xs ++ wire_written_in (wrote ++ (got ++ closing))) o
    ∙ flat_map-append bytes_of wrote (got ++ closing)
    ∙ ap (λ xs. wire_written_in wrote ++ xs) (flat_map-append bytes_of got closing ∙ ap (λ xs. xs ++ wire_written_in closing) g ∙ c)
    ∙ append-nil (wire_written_in wrote)

-- the wire's items of one item of the links
record Done {W : Type 0} (steps : W → WireItem → W → Type 0) (it : LinksItem) (old new : W) : Type 0 where
  items : List WireItem
  done : IsExchangeDone it items
  gains : Gains steps old items new

probe_bytes : (server : ℕ) (items : List WireItem)
    → wire_written_in (Limited server true ∷ (items ++ Limited server false ∷ [])) ≡ wire_written_in items
probe_bytes server items = flat_map-append bytes_of items (Limited server false ∷ []) ∙ append-nil (wire_written_in items)

module _ {W : Type 0} {servers : W → ℕ} {connected : W → ℕ → Bool} {failures : W → ℕ} {steps : W → WireItem → W → Type 0} where
  abbrev items_of : {server : ℕ} {request : Request} {old new : W} {came : Option Outcome}
      → IsWireExchange servers connected failures steps server request old came new → List WireItem
  items_of {server} exchange =
      exchange.opening ++ (wrote_all server exchange.sent ++ (got_all server exchange.got ++ exchange.closing))

  exchange_at : {server : ℕ} {request : Request} {old new : W} {came : Option Outcome}
      → (exchange : IsWireExchange servers connected failures steps server request old came new) → AreAt server (items_of exchange)
  exchange_at {server} {request} {old} {came} exchange =
      let opening = opening_silent server _ _ exchange.opening exchange.opens in
      let closing = closing_silent server request came exchange.sent exchange.got exchange.closing exchange.stays exchange.ends in
      at_append server exchange.opening _ opening.own
      (at_append server (wrote_all server exchange.sent) _ (wrote_at server exchange.sent)
      (at_append server (got_all server exchange.got) exchange.closing (got_silent server exchange.got).own closing.own))

  exchange_bytes : {server : ℕ} {request : Request} {old new : W} {came : Option Outcome}
      → (exchange : IsWireExchange servers connected failures steps server request old came new)
      → wire_written_in (items_of exchange) ≡ concat exchange.sent
  exchange_bytes {server} {request} {old} {came} exchange =
      let opening = opening_silent server _ _ exchange.opening exchange.opens in
      let closing = closing_silent server request came exchange.sent exchange.got exchange.closing exchange.stays exchange.ends in
      only_written exchange.opening (wrote_all server exchange.sent) (got_all server exchange.got) exchange.closing
      opening.quiet (got_silent server exchange.got).quiet closing.quiet
      ∙ wrote_bytes server exchange.sent

item_done : {W : Type 0} (servers : W → ℕ) (connected : W → ℕ → Bool) (failures : W → ℕ)
    (steps : W → WireItem → W → Type 0) (it : LinksItem) {old new : W}
    → IsOverWire servers connected failures steps old it new → Done steps it old new
item_done servers connected failures steps (Sent server request came) exchange = record {
  items = items_of exchange;
  done = record {
    own = exchange_at exchange;
    front = subst (λ xs. BeginsText xs (request_text request)) (sym (exchange_bytes exchange)) exchange.front;
  };
  gains = exchange.part.gains;
}
item_done servers connected failures steps (Probed server came) probing =
    let exchange = probing.exchange in
    record {
      items = Limited server true ∷ (items_of exchange ++ Limited server false ∷ []);
      done = record {
        own = (refl, at_append server (items_of exchange) _ (exchange_at exchange) (refl, tt));
        front = subst (λ xs. BeginsText xs (request_text (request_in (Probed server came))))
            (sym (probe_bytes server (items_of exchange) ∙ exchange_bytes exchange)) exchange.front;
      };
      gains = gains_append probing.begun.gains (gains_append exchange.part.gains probing.ended.gains);
    }

records : {W : Type 0} (servers : W → ℕ) (connected : W → ℕ → Bool) (failures : W → ℕ) (steps : W → WireItem → W → Type 0)
    (old new : WiredState W) (items : List LinksItem) → Lead (IsWired servers connected failures steps) old items new
    → IsWireRecord steps old items new
records {W} servers connected failures steps old new [] e =
    record {
      calls = [];
      done = tt;
      gains = subst (λ (at : W). Gains steps old.wire [] at) (sym (ap (λ (at : WiredState W). at.wire) e)) (gains_none old.wire);
      sends = ap (λ (at : WiredState W). at.sends) e;
      probes = ap (λ (at : WiredState W). at.probes) e;
    }
records {W} servers connected failures steps old new (it ∷ items) (mid, step, rest) =
    let behind = records servers connected failures steps mid new items rest in
    let here = item_done servers connected failures steps it step.exchange in
    record {
      calls = here.items ∷ behind.calls;
      done = (here.done, behind.done);
      gains = gains_append here.gains behind.gains;
      sends = behind.sends ∙ ap (λ (counts : List ℕ). sends_after_all counts items) step.sends;
      probes = behind.probes ∙ ap (λ (counts : List ℕ). probes_after_all counts items) step.probes;
    }

module _ {W : Type 0} {servers : W → ℕ} {connected : W → ℕ → Bool} {failures : W → ℕ} {steps : W → WireItem → W → Type 0} where
  -- over a record of links, the wire did what its items say
  pub wire_record : (old new : WiredState W) (items : List LinksItem) → Gains (IsWired servers connected failures steps) old items new
      → IsWireRecord steps old items new
  wire_record old new items gains = records servers connected failures steps old new items gains.leads

  -- no exchange over a wire is aborted
  pub not_aborted : {server : ℕ} {request : Request} {old new : W} (result : Result Outcome ExchangeNoMemory)
      → IsWireExchange servers connected failures steps server request old (outcome_in result) new
      → ¬ (result ≡ Ok outcome.Aborted)
  not_aborted {server} {request} {old} {new} result exchange is =
      let P : Result Outcome ExchangeNoMemory → Type 0 =
      λ came. IsWireExchange servers connected failures steps server request old (outcome_in came) new in
      (subst P is exchange).ends
