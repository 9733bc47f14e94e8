-- Laws of what is done for a request: what each call of an answer does, and what is sent with it.
use Rattle.std.proofs.Common.{◌≡◌, ℕ, ◌+◌, List, [], ◌∷◌, ◌++◌, map, refl, sym, ap, subst, ◌∙◌}
use Rattle.std.proofs.Common.{add-zero, arith}
use Rattle.std.specs.Prelude.{sum_by}
use Rattle.std.proofs.lemmas.List.Sums.{sum_by-append}
use Rattle.tko_model.specs.Records.{Gains, HealthItem, Lead}
use Rattle.tko_model.proofs.RecordLemmas.{gains_none, gains_one}
use Rattle.tko_text.specs.declared.request.Request.{Request}
use Rattle.tko_pools.specs.Configs.{Configuration}
use Rattle.tko_route.specs.Calls.{Came, RoutedCall, Told, sends_of}
use Rattle.tko_route.specs.Trail.{sends_in}
use Rattle.tko_route.specs.declared.attempt.Attempt.{Attempt}
use Rattle.tko_route.proofs.TrailLemmas.{sends_by_trail}
use Rattle.tko_reply.specs.Answers.{Answers, AreKeysRouted}
use Rattle.tko_reply.specs.Answers as answers
use Rattle.tko_reply.specs.Ghosts.{PartsGhosts}
use Rattle.tko_reply.specs.Interactions.{Interaction, Interacts, Made, Noted, Performs, Recorded}
use Rattle.tko_reply.specs.Interactions.{health_calls, sends_by, with_health, with_noted}
use Rattle.tko_reply.specs.Replies.{RoutedKey, sends_to, trails_in}
use Rattle.tko_reply.specs.TrailEvents.{Asked, Tried}
use Rattle.tko_reply.specs.declared.parts.Parts.{Parts}
use Rattle.tko_reply.proofs.CutLemmas.{NotedAs, marks, no_marks}

module _ {H L T C : Type 0} (ghosts : PartsGhosts H L T C) where
  lead_told : (old : Parts H L T C) (items : List HealthItem) (health : H)
      → Lead ghosts.backend.steps old.backend.health items health
      → Lead (Interacts ghosts) old (health_calls items) (with_health health old)
  lead_told old [] health e = ap (λ (h : H). with_health h old) e
  lead_told old (item ∷ items) health (mid, step, rest) =
      (with_health mid old, (step, refl), lead_told (with_health mid old) items health rest)

  -- health was asked or told this
  pub gains_told : {old : Parts H L T C} {items : List HealthItem} {health : H}
      → Gains ghosts.backend.steps old.backend.health items health
      → Gains (Interacts ghosts) old (health_calls items) (with_health health old)
  gains_told {old} {items} {health} gains =
      record { leads = lead_told old items health gains.leads }

module _ {H L T C : Type 0} (ghosts : PartsGhosts H L T C) (server : ℕ) where
  -- the configuration is as it was, and a server was sent to so often and not probed
  abbrev Counts : Parts H L T C → ℕ → Parts H L T C → Type 0
  Counts old sends new = (new.config ≡ old.config)
      × (ghosts.backend.sent new.backend.links server ≡ ghosts.backend.sent old.backend.links
      server + sends)
      × (ghosts.backend.probed new.backend.links server ≡ ghosts.backend.probed old.backend.links
      server)

  unsent : (old new : Parts H L T C) → new.config ≡ old.config
      → new.backend.links ≡ old.backend.links → Counts old 0 new
  unsent old new config links = (
    config,
    ap (λ (l : L). ghosts.backend.sent l server) links
        ∙ sym (add-zero (ghosts.backend.sent old.backend.links server)),
    ap (λ (l : L). ghosts.backend.probed l server) links,
  )

  counted : (old : Parts H L T C) (it : Interaction) (new : Parts H L T C)
      → Interacts ghosts old it new → Counts old (sends_by server it) new
  counted old (Made (Told item)) new (step, same) =
      unsent old new (ap (λ (p : Parts H L T C). p.config) same)
      (ap (λ (p : Parts H L T C). p.backend.links) same)
  counted old (Made (Came it)) new (exchange, unprobed, same) =
      (ap (λ (p : Parts H L T C). p.config) same, exchange.sends server, unprobed server)
  counted old (Recorded (Asked request)) new (step, same) =
      unsent old new (ap (λ (p : Parts H L T C). p.config) same)
      (ap (λ (p : Parts H L T C). p.backend.links) same)
  counted old (Recorded (Tried trail)) new (step, same) =
      unsent old new (ap (λ (p : Parts H L T C). p.config) same)
      (ap (λ (p : Parts H L T C). p.backend.links) same)
  counted old (Noted trail) new same =
      unsent old new (ap (λ (p : Parts H L T C). p.config) same)
      (ap (λ (p : Parts H L T C). p.backend.links) same)

  counted_all : (old : Parts H L T C) (done : List Interaction) (new : Parts H L T C)
      → Lead (Interacts ghosts) old done new
      → Counts old (sum_by (sends_by server) done) new
  counted_all old [] new e =
      unsent old new (ap (λ (p : Parts H L T C). p.config) e)
      (ap (λ (p : Parts H L T C). p.backend.links) e)
  counted_all old (it ∷ done) new (mid, first, rest) =
      let here = counted old it mid first in
      let later = counted_all mid done new rest in
      let split : sum_by (sends_by server) (it ∷ done) ≡ 0 + sends_by server it + sum_by
      (sends_by server) done = sum_by-append (sends_by server) (it ∷ []) done in
      (later.0 ∙ here.0, omega (arith, split, here.1, later.1), later.2 ∙ here.2)

module _ {H L T C : Type 0} (ghosts : PartsGhosts H L T C) where
  -- the marks of attempts were noted, if there are any
  pub gains_noted : {attempts : List Attempt} {last : List Interaction} (old : Parts H L T C)
      → NotedAs attempts last → Gains (Interacts ghosts) old last (with_noted attempts old)
  gains_noted {attempts} old (no_marks none is) =
      subst (λ done. Gains (Interacts ghosts) old done (with_noted attempts old)) (sym is)
      (subst (λ trail. Gains (Interacts ghosts) old [] (with_noted trail old)) (sym none)
      (gains_none old))
  gains_noted {attempts} old (marks is) =
      subst (λ done. Gains (Interacts ghosts) old done (with_noted attempts old)) (sym is)
      (gains_one refl)

-- the configuration is as it was
pub config_kept : {H L T C : Type 0} (ghosts : PartsGhosts H L T C) {old new : Parts H L T C}
    {done : List Interaction} → Gains (Interacts ghosts) old done new → new.config ≡ old.config
config_kept ghosts {old} {new} {done} gains = (counted_all ghosts 0 old done new gains.leads).0

-- these were done, of which this holds
pub performs : {H L T C : Type 0} {ghosts : PartsGhosts H L T C}
    (Holds : Configuration → List Interaction → Type 0) {old new : Parts H L T C}
    {done : List Interaction}
    → Holds old.config done → Gains (Interacts ghosts) old done new → Performs ghosts Holds old new
performs {ghosts = ghosts} Holds {old} {new} {done} is gains = record {
  done = done;
  is = is;
  gains = gains;
  sends = λ server. (counted_all ghosts server old done new gains.leads).1;
  probes = λ server. (counted_all ghosts server old done new gains.leads).2;
}

made_sends : (server : ℕ) (calls : List RoutedCall)
    → sum_by (sends_by server) (map Made calls) ≡ sum_by (sends_of server) calls
made_sends server [] = refl
made_sends server (call ∷ calls) =
    let here : sum_by (sends_by server)
    (Made call ∷ map Made calls) ≡ 0 + sends_of server call + sum_by (sends_by server)
    (map Made calls) = sum_by-append (sends_by server) (Made call ∷ []) (map Made calls) in
    let there : sum_by (sends_of server) (call ∷ calls) ≡ 0 + sends_of server call + sum_by
    (sends_of server) calls = sum_by-append (sends_of server) (call ∷ []) calls in
    omega (arith, here, there, made_sends server calls)

told_sends : (server : ℕ) (items : List HealthItem)
    → sum_by (sends_by server) (health_calls items) ≡ 0
told_sends server [] = refl
told_sends server (item ∷ items) =
    let here : sum_by (sends_by server) (Made (Told item) ∷ health_calls items) ≡ 0 + 0 + sum_by
    (sends_by server) (health_calls items) =
    sum_by-append (sends_by server) (Made (Told item) ∷ []) (health_calls items) in
    omega (arith, here, told_sends server items)

keys_sends : (server : ℕ) (config : Configuration) (request : Request) (routed : List RoutedKey)
    (done : List Interaction)
    → AreKeysRouted config request routed done
    → sum_by (sends_by server) done ≡ sends_to server (trails_in routed)
keys_sends server config request [] done none = ap (sum_by (sends_by server)) none
keys_sends server config request (one ∷ routed) done (first, rest, is, more, are) =
    let split : sum_by (sends_by server) (first ++ rest) ≡ sum_by (sends_by server) first + sum_by
    (sends_by server) rest = sum_by-append (sends_by server) first rest in
    let here : sum_by (sends_by server)
    (map Made is.calls ++ Recorded (Tried one.trail) ∷ []) ≡ sum_by (sends_by server)
    (map Made is.calls) + 0 =
    sum_by-append (sends_by server) (map Made is.calls) (Recorded (Tried one.trail) ∷ []) in
    let total : sends_to server
    (trails_in (one ∷ routed)) ≡ 0 + sends_in server one.trail + sends_to server
    (trails_in routed) = sum_by-append (sends_in server) (one.trail ∷ []) (trails_in routed) in
    omega (
      arith,
      total,
      ap (sum_by (sends_by server)) are,
      split,
      ap (sum_by (sends_by server))
          is.are,
      here,
      made_sends server is.calls,
      sends_by_trail server is.make,
      keys_sends server
          config request routed rest more,
    )

-- a request sent as often as its trails did
pub answers_sends : (server : ℕ) (config : Configuration) (request : Request)
    (routed : List RoutedKey) (text : List ℕ) (done : List Interaction)
    → Answers config request routed text done
    → sum_by (sends_by server) done ≡ sends_to server (trails_in routed)
answers_sends server config request routed text done (answers.itself looks none it are) =
    ap (sum_by (sends_by server)) are ∙ told_sends server looks
    ∙ sym (ap (λ r. sends_to server (trails_in r)) none)
answers_sends server config request routed text done (answers.by_keys it) =
    keys_sends server config request routed done it.each
