-- One item answered, a fault or a request.
use Rattle.std.proofs.Common.{◌≡◌, ℕ, ◌+◌, ◌<◌, length, List, [], ◌∷◌, ◌++◌, refl, sym, ap, subst}
use Rattle.std.proofs.Common.{◌∙◌, append-nil, arith, sum_by, add-zero, false}
use Rattle.std.proofs.lemmas.List.Sums.{sum_by-append}
use Rattle.tko_model.proofs.RecordLemmas.{gains_none, gains_one}
use Rattle.tko_text.specs.declared.item.Item.TheVariants as item
use Rattle.tko_text.specs.declared.fault.TextFault.{TextFault}
use Rattle.tko_text.specs.declared.request.Request.{Request}
use Rattle.tko_text.specs.Requests.{fault_text}
use Rattle.tko_reply.specs.declared.parts.Parts.{Parts}
use Rattle.tko_text.specs.Reading.{Gives, Emits}
use Rattle.tko_pools.specs.Configs.{Configuration}
use Rattle.tko_reply.proofs.InteractionLemmas.{answers_sends, performs}
use Rattle.tko_reply.specs.Interactions.{Interaction, Recorded, sends_by}
use Rattle.tko_reply.specs.TrailEvents.{Asked}
use Rattle.tko_reply.specs.Replies.{trails_in}
use Rattle.tko_session.specs.Effects.{effects_of}
use Rattle.tko_session.specs.Events.{Answer}
use Rattle.tko_reply.specs.Ghosts.{PartsGhosts}
use Rattle.tko_session.specs.Turns.{IsSessionTurn, SessionTurn, refused}
use Rattle.tko_session.specs.Turns as turns
use Rattle.tko_session.specs.declared.step.Progress.{Progress}
use Rattle.tko_bytes.specs.Numbers.{capped}
use Rattle.tko_reply.specs.Replies.{reply_bound, sends_to}
use Rattle.tko_session.specs.SessionState.{SessionState, HasAnswered, Replied, ProgressIs}
use Rattle.tko_session.specs.SessionState.{progress_after, progress_of, snapshot}
use Rattle.tko_text.proofs.GivesLemmas.{Gives-one}
use Rattle.tko_session.proofs.TurnLemmas.{fault_progress, request_progress}

-- a turn sent as often as its trails did
turn_sends : (server : ℕ) (config : Configuration) (turn : SessionTurn) (done : List Interaction)
    → IsSessionTurn config turn done
    → sum_by (sends_by server) done ≡ sends_to server (trails_in turn.routed)
turn_sends server config turn done (refused fault is none text nothing) =
    ap (sum_by (sends_by server)) nothing
    ∙ sym (ap (λ routed. sends_to server (trails_in routed)) none)
turn_sends server config turn done (turns.answered request then is are it) =
    let here : sum_by (sends_by server) (Recorded (Asked request) ∷ then)
    ≡ 0 + 0 + sum_by (sends_by server) then =
    sum_by-append (sends_by server) (Recorded (Asked request) ∷ []) then in
    omega (
      arith,
      ap (sum_by (sends_by server)) are,
      here,
      answers_sends server config request turn.routed turn.text then it,
    )

module _ {H L T C : Type 0} (ghosts : PartsGhosts H L T C) where
  -- a fault is answered, which changes nothing but the outbox
  pub answered_fault : (old mid new : SessionState) (world : Parts H L T C) (fault : TextFault)
      (progress : Progress)
      → Emits old.reading (item.Fault fault) mid.reading
      → mid ≡ record old { reading = mid.reading }
      → new ≡ record mid { outbox = mid.outbox ++ fault_text fault }
      → progress ≡ progress_after fault
      → old.owes ≡ false → length old.outbox < reply_bound
      → HasAnswered (effects_of ghosts) progress (snapshot old world) (snapshot new world)
  answered_fault old mid new world fault progress told same e is none room = record {
    events = Answer (record { item = item.Fault fault; routed = []; text = fault_text fault }) ∷ [];
    turned = record {
      gives = subst (λ to. Gives old.reading (item.Fault fault ∷ []) to)
          (sym (ap (λ s. s.reading) e)) (Gives-one _ _ _ told);
      gains = gains_one
          (performs (λ config. IsSessionTurn config (record {
            item = item.Fault fault;
            routed = [];
            text = fault_text fault;
          })) (refused fault refl refl refl refl) (gains_none world));
      order =
          let owes : new.owes ≡ false = ap (λ s. s.owes) e ∙ ap (λ s. s.owes) same ∙ none in
          rw (none, owes) refl;
      counts = record {
        sends = λ server. sym (add-zero (ghosts.backend.sent world.backend.links server));
        probes = λ server. sym (add-zero (ghosts.backend.probed world.backend.links server));
      };
      memory = refl;
      requests = ap capped
          (ap (λ s. s.requests) e ∙ ap (λ s. s.requests) same ∙ sym (add-zero old.requests));
    };
    idles = refl;
    outbox =
        ap (λ s. s.outbox) e ∙ ap (λ s. s.outbox ++ fault_text fault) same
        ∙ ap (λ text. old.outbox ++ text) (sym (append-nil (fault_text fault)));
    begin = (room, tt);
    at_once = refl;
    progress_is =
        subst (λ p. ProgressIs p (item.Fault fault ∷ []) new.reading) (sym is)
        (subst (λ to. ProgressIs (progress_after fault) (item.Fault fault ∷ []) to)
        (sym (ap (λ s. s.reading) e))
        (fault_progress fault old.reading mid.reading told));
  }

module _ {H L T C : Type 0} {ghosts : PartsGhosts H L T C} where
  -- a request was replied to, and its round is owed
  pub answered_request : (old mid new : SessionState) (before after : Parts H L T C) (it : Request)
      (progress : Progress)
      → Emits old.reading (item.Request it) mid.reading → mid ≡ record old { reading = mid.reading }
      → Replied ghosts (snapshot mid before) it (snapshot new after) → progress ≡ progress_of it
      → old.owes ≡ false → length old.outbox < reply_bound
      → HasAnswered (effects_of ghosts) progress (snapshot old before) (snapshot new after)
  answered_request old mid new before after it progress told same replied is none room = record {
    events = Answer (record {
      item = item.Request it;
      routed = replied.routed;
      text = replied.text;
    }) ∷ [];
    turned = record {
      gives = subst (λ to. Gives old.reading (item.Request it ∷ []) to) (sym replied.reading)
          (Gives-one _ _ _ told);
      gains = gains_one replied.becomes;
      order = rw (none, replied.owes) refl;
      counts = record {
        sends = λ server.
            replied.becomes.sends server
            ∙ ap (λ n. ghosts.backend.sent before.backend.links server + n)
            (turn_sends server before.config _ replied.becomes.done replied.becomes.is
            ∙ ap (sends_to server) (sym (append-nil (trails_in replied.routed))));
        probes = λ server. replied.becomes.probes server
            ∙ sym (add-zero (ghosts.backend.probed before.backend.links server));
      };
      memory = refl;
      requests = replied.requests ∙ ap (λ s. capped (s.requests + 1)) same;
    };
    idles = refl;
    outbox =
        replied.outbox ∙ ap (λ s. s.outbox ++ replied.text) same
        ∙ ap (λ text. old.outbox ++ text) (sym (append-nil replied.text));
    begin = (room, tt);
    at_once = refl;
    progress_is =
        subst (λ p. ProgressIs p (item.Request it ∷ []) new.reading) (sym is)
        (request_progress it new.reading);
  }
