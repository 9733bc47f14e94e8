-- A client that is called has one session's life still.
use Rattle.std.proofs.Common.{◌≡◌, ◌≤◌, ◌-◌, ℕ, List, [], ◌++◌, length, drop, take, Option, Some}
use Rattle.std.proofs.Common.{None, refl, sym, ap, subst, ◌∙◌, append-nil, arith}
use Rattle.std.proofs.lemmas.List.{length-drop, length-take, take-take}
use Rattle.tko_pools.specs.Configs.{Configuration}
use Rattle.tko_reply.specs.Ghosts.{PartsGhosts}
use Rattle.tko_reply.specs.declared.parts.Parts.{Parts}
use Rattle.tko_session.specs.Clients.{IsClient, Life, life, new_client, no_life}
use Rattle.tko_mux.specs.Awaits.{awaited_one}
use Rattle.tko_keys.specs.KeysState.{KeysState}
use Rattle.tko_keys.specs.declared.plan.KeyPlan.{KeyPlan}
use Rattle.tko_session.specs.Awaiting.{awaited_in}
use Rattle.tko_session.specs.Driven.{IsSessionReady, MayGoOn}
use Rattle.tko_session.specs.Outgoing.{outgoing, outgoing_in, sent_from, shifted_begin}
use Rattle.tko_session.specs.Outgoing.{shifted_work}
use Rattle.tko_session.specs.SessionState.{SessionState}
use Rattle.tko_session.specs.Working.{Work}
use Rattle.tko_session.specs.Working as work
use Rattle.tko_session.proofs.LifeLemmas.{begins}
use Rattle.tko_port.specs.Talks.{Fed, Sent, TalkItem}
use Rattle.tko_client.specs.declared.answering.Answering.{Answering}
use Rattle.tko_client.specs.declared.client.ClientStanding.{ClientStanding}
use Rattle.tko_client.specs.declared.client.ClientStanding.TheVariants as course
use Rattle.tko_client.specs.declared.client.EventClient.{EventClient}
use Rattle.tko_client.specs.Answerings.{AreKeysReady, HasFewReplies, IsIdleWith, IsOwn}
use Rattle.tko_client.specs.Answerings.{MayCallWith, awaited_with}
use Rattle.tko_client.specs.Clients.{CourseReading, CourseStands, DoesAs, IsReadyAfter, IsReadyOver}
use Rattle.tko_client.specs.Clients.{bytes_in, client_of}
use Rattle.tko_client.specs.Steps.{HasStayed}
use Rattle.tko_client.proofs.LawLemmas.{bytes_out, did}

-- the first bytes of the replies that may be written are those of all that are held
front_in : (at : Work) (begin : ℕ) (outbox : List ℕ) (count : ℕ)
    → count ≤ length (outgoing_in at begin outbox)
    → take count outbox ≡ take count (outgoing_in at begin outbox)
front_in work.Between begin outbox count within = refl
front_in (work.Read one) begin outbox count within =
    sym (take-take count begin outbox (omega (arith, within, length-take begin outbox)))
front_in (work.Awaits it) begin outbox count within =
    sym (take-take count begin outbox (omega (arith, within, length-take begin outbox)))
front_in (work.Ended one) begin outbox count within =
    sym (take-take count begin outbox (omega (arith, within, length-take begin outbox)))
front_in work.HandedOver begin outbox count within =
    sym (take-take count begin outbox (omega (arith, within, length-take begin outbox)))

front_held : (state : SessionState) (count : ℕ) → count ≤ length (outgoing state)
    → take count state.outbox ≡ take count (outgoing state)
front_held state count within = front_in state.work state.begin state.outbox count within

-- what the session is at stays so but for the place where its reply begins
own_still : (at : Work) (count : ℕ) → IsOwn at → IsOwn (shifted_work count at)
own_still work.Between count is = is
own_still (work.Read one) count is = is
own_still (work.Awaits it) count is = is
own_still (work.Ended one) count is = is
own_still work.HandedOver count is = is

keys_still : (config : Configuration) (keys : Option KeysState) (at : Work) (count : ℕ)
    → AreKeysReady config keys at → AreKeysReady config keys (shifted_work count at)
keys_still config None at count ready = own_still at count ready
keys_still config (Some keys) at count ready = (ap (shifted_work count) ready.0, ready.1)

goes_still : (at : Work) (count : ℕ) → MayGoOn at → MayGoOn (shifted_work count at)
goes_still work.Between count is = is
goes_still (work.Read one) count is = is
goes_still (work.Awaits it) count is = is
goes_still (work.Ended one) count is = is
goes_still work.HandedOver count is = is

idle_still : (keys : Option KeysState) (at : Work) (count : ℕ) → IsIdleWith keys at
    → IsIdleWith keys (shifted_work count at)
idle_still None at count is = goes_still at count is
idle_still (Some keys) at count is = is

may_still : (keys : Option KeysState) (at : Work) (count : ℕ) → MayCallWith keys at
    → MayCallWith keys (shifted_work count at)
may_still None at count is = goes_still at count is
may_still (Some keys) at count is = is

awaited_still : (at : Work) (count : ℕ) → awaited_in (shifted_work count at) ≡ awaited_in at
awaited_still work.Between count = refl
awaited_still (work.Read one) count = refl
awaited_still (work.Awaits it) count = refl
awaited_still (work.Ended one) count = refl
awaited_still work.HandedOver count = refl

pub waits_still : (keys : Option KeysState) (at : Work) (count : ℕ)
    → awaited_with keys (shifted_work count at) ≡ awaited_with keys at
waits_still None at count = ap awaited_one (awaited_still at count)
waits_still (Some keys) at count = refl

-- a client once replies were written
abbrev sent_answering : Answering → ℕ → Answering
sent_answering old count = record old { session = sent_from old.session count }

-- fewer replies may be written
few_in : (at : Work) (begin count : ℕ) (outbox : List ℕ)
    → length (outgoing_in (shifted_work count at) (shifted_begin count at begin)
    (drop count outbox)) ≤ length (outgoing_in at begin outbox)
few_in work.Between begin count outbox = omega (arith, length-drop count outbox)
few_in (work.Read one) begin count outbox =
    omega (
      arith,
      length-take (begin - count) (drop count outbox),
      length-drop count outbox,
      length-take begin outbox,
    )
few_in (work.Awaits it) begin count outbox =
    omega (
      arith,
      length-take (begin - count) (drop count outbox),
      length-drop count outbox,
      length-take begin outbox,
    )
few_in (work.Ended one) begin count outbox =
    omega (
      arith,
      length-take (begin - count) (drop count outbox),
      length-drop count outbox,
      length-take begin outbox,
    )
few_in work.HandedOver begin count outbox =
    omega (
      arith,
      length-take (begin - count) (drop count outbox),
      length-drop count outbox,
      length-take begin outbox,
    )

few_still : (old : Answering) (count : ℕ) → HasFewReplies old
    → HasFewReplies (sent_answering old count)
few_still old count few =
    let fewer = few_in old.session.work old.session.begin count old.session.outbox in
    omega (arith, fewer, few)

stands_still : (course : ClientStanding) (old : Answering) (count : ℕ) → CourseStands course old
    → CourseStands course (sent_answering old count)
stands_still course.Going old count is = may_still old.keys old.session.work count is
stands_still course.Waits old count is =
    λ none. is (sym (waits_still old.keys old.session.work count) ∙ none)
stands_still course.Full old count is = idle_still old.keys old.session.work count is
stands_still course.NeedsInput old count is =
    (idle_still old.keys old.session.work count is.0, few_still old count is.1)
stands_still course.Ended old count is = idle_still old.keys old.session.work count is
stands_still course.Over old count is = idle_still old.keys old.session.work count is
stands_still course.TooLong old count is = idle_still old.keys old.session.work count is
stands_still course.Short old count is = idle_still old.keys old.session.work count is

-- a client whose replies were written can be called still
pub sent_over : (config : Configuration) (old new : EventClient) (count : ℕ)
    → IsReadyOver config old → new.answering ≡ sent_answering old.answering count
    → IsSessionReady config new.answering.session → new.course ≡ old.course → IsReadyOver config new
sent_over config old new count over sent ready same =
    let was = old.answering in record {
      answering = record {
        session = ready;
        keys = subst (λ (it : Answering). AreKeysReady config it.keys it.session.work) (sym sent)
            (keys_still config was.keys was.session.work count over.answering.keys);
      };
      stands = subst (λ course. CourseStands course new.answering) (sym same)
          (subst (CourseStands old.course) (sym sent)
          (stands_still old.course was count over.stands));
      reading = subst (λ course. CourseReading course new.answering.session.reading) (sym same)
          (subst (λ (it : Answering). CourseReading old.course it.session.reading)
          (sym sent) over.reading);
    }

-- a client that has just come
pub new_ready : (config : Configuration) (plan : KeyPlan) (it : EventClient) → IsReadyOver config it
    → client_of it ≡ new_client plan → IsReadyAfter config [] [] it
new_ready config plan it over is =
    record {
      over = over;
      done = [];
      is = subst (λ c. IsClient config no_life c) (sym is) (begins plan config);
    }

module _ {H T C : Type 0} (ghosts : PartsGhosts H (List ℕ) T C) {servers : H → ℕ} where
  -- these bytes came, and these went
  moved_ready : (item : TalkItem) (old new : EventClient) (before after : Parts H (List ℕ) T C)
      (came went bytes text : List ℕ) → HasStayed servers before after
      → IsReadyOver after.config new
      → DoesAs ghosts item (client_of old, before) (client_of new, after)
      → bytes_in item ≡ bytes → bytes_out item (client_of old) ≡ text
      → IsReadyAfter before.config came went old
      → IsReadyAfter after.config (came ++ bytes) (went ++ text) new
  moved_ready item old new before after came went bytes text stays over does in_is out_is ready =
      let it : Life = life came went ready.done in
      let grown = did ghosts before.config it (client_of old, before)
      (client_of new, after) item refl ready.is does in
      let from : grown.more.bytes ≡ came ++ bytes =
      grown.from ∙ ap (λ (w : List ℕ). came ++ w) in_is in
      let to : grown.more.sent ≡ went ++ text = grown.to ∙ ap (λ (w : List ℕ). went ++ w) out_is in
      let lives : IsClient before.config (life (came ++ bytes) (went ++ text) grown.more.done)
      (client_of new) =
      subst (λ (w : List ℕ). IsClient before.config (life w (went ++ text) grown.more.done)
      (client_of new)) from
      (subst (λ (w : List ℕ). IsClient before.config (life grown.more.bytes w grown.more.done)
      (client_of new)) to grown.is) in record {
        over = over;
        done = grown.more.done;
        is = subst (λ c. IsClient c (life (came ++ bytes) (went ++ text) grown.more.done)
            (client_of new)) (sym stays.config) lives;
      }

  -- no bytes came or went
  pub still_ready : (item : TalkItem) (old new : EventClient) (before after : Parts H (List ℕ) T C)
      (came went : List ℕ) → HasStayed servers before after
      → IsReadyOver after.config new
      → DoesAs ghosts item (client_of old, before) (client_of new, after)
      → bytes_in item ≡ [] → bytes_out item (client_of old) ≡ []
      → IsReadyAfter before.config came went old → IsReadyAfter after.config came went new
  still_ready item old new before after came went stays over does in_is out_is ready =
      let more = moved_ready item old new before after came went [] [] stays over does in_is out_is
      ready in
      subst (λ (w : List ℕ). IsReadyAfter after.config w went new) (append-nil came)
      (subst (λ (w : List ℕ). IsReadyAfter after.config (came ++ []) w new) (append-nil went) more)

  -- bytes came
  pub fed_ready : (bytes : List ℕ) (old new : EventClient) (before after : Parts H (List ℕ) T C)
      (came went : List ℕ) → HasStayed servers before after
      → IsReadyOver after.config new
      → DoesAs ghosts (Fed bytes) (client_of old, before) (client_of new, after)
      → IsReadyAfter before.config came went old
      → IsReadyAfter after.config (came ++ bytes) went new
  fed_ready bytes old new before after came went stays over does ready =
      subst (λ (w : List ℕ). IsReadyAfter after.config (came ++ bytes) w new) (append-nil went)
      (moved_ready (Fed bytes) old new before after came went bytes [] stays over does refl refl
      ready)

  -- replies were written
  pub sent_ready : (count : ℕ) (old new : EventClient) (before after : Parts H (List ℕ) T C)
      (came went : List ℕ) → HasStayed servers before after
      → count ≤ length (outgoing old.answering.session)
      → IsReadyOver after.config new
      → DoesAs ghosts (Sent count) (client_of old, before) (client_of new, after)
      → IsReadyAfter before.config came went old
      → IsReadyAfter after.config came (went ++ take count (outgoing old.answering.session)) new
  sent_ready count old new before after came went stays within over does ready =
      subst (λ (w : List ℕ). IsReadyAfter after.config w
      (went ++ take count (outgoing old.answering.session)) new) (append-nil came)
      (moved_ready (Sent count) old new before after came went []
      (take count (outgoing old.answering.session)) stays over does refl
      (front_held old.answering.session count within) ready)
