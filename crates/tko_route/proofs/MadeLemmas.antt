-- Laws of a whole route: what each call of a routing, and each send between two calls, adds to it.
use Rattle.std.proofs.Common.{◌≡◌, ℕ, ◌+◌, List, [], ◌∷◌, ◌++◌, length, Ok, Err, refl, ap, subst, arith, ◌∙◌, map, append_assoc, inr, Bool}
use Rattle.std.specs.Prelude.{sum_by}
use Rattle.std.proofs.lemmas.List.Sums.{sum_by-append}
use Rattle.tko_model.specs.declared.mark.Reply.TheVariants as reply
use Rattle.tko_model.specs.Records.{Gains, HealthItem, Lead}
use Rattle.tko_model.proofs.RecordLemmas.{gains_append, gains_push}
use Rattle.tko_text.specs.declared.request.Request.{Request}
use Rattle.tko_links.specs.declared.links.ExchangeNoMemory.{ExchangeNoMemory}
use Rattle.tko_links.specs.declared.links.Outcome.{Outcome}
use Rattle.tko_links.specs.Links.{part_of}
use Rattle.tko_route.specs.Calls.{Upstream, RoutedCall, Came, DoesCall, IsExchange, Told, came, look_up, sends_of}
use Rattle.tko_route.specs.Routing.{FindsUp}
use Rattle.tko_route.specs.Trail.{IsCut, IsCutTrail, IsRouted, IsTrail, MakesTrail, next_target, sends_in}
use Rattle.tko_route.specs.declared.attempt.Attempt.{Attempt}
use Rattle.tko_route.proofs.TrailLemmas.{sends_by_trail}

module _ {H L : Type 0} (upstream : Upstream H L) where
  lead_told : (links : L) (old : H) (items : List HealthItem) (new : H) → Lead upstream.steps old items new
      → Lead (DoesCall upstream) (old, links) (map Told items) (new, links)
  lead_told links old [] new e = ap (λ (h : H). (h, links)) e
  lead_told links old (item ∷ items) new (mid, step, rest) =
      ((mid, links), (step, refl), lead_told links mid items new rest)

  -- what health was asked or told is part of what was done
  pub gains_told : {old : H × L} {health found : H} {links : L} {calls : List RoutedCall} {items : List HealthItem}
      → Gains (DoesCall upstream) old calls (health, links) → Gains upstream.steps health items found
      → Gains (DoesCall upstream) old (calls ++ map Told items) (found, links)
  gains_told {old} {health} {found} {links} {calls} {items} front more =
      gains_append front (record { leads = lead_told links health items found more.leads })

  sends_by_step : (s : ℕ) (old : H × L) (call : RoutedCall) (new : H × L) → DoesCall upstream old call new
      → upstream.sent new.1 s ≡ upstream.sent old.1 s + sends_of s call
  sends_by_step s old (Told item) new (step, same) =
      let is : upstream.sent new.1 s ≡ upstream.sent old.1 s = ap (λ (l : L). upstream.sent l s) same in omega (arith, is)
  sends_by_step s old (Came it) new (exchange, same) = exchange.sends s

  sends_by_calls : (s : ℕ) (old : H × L) (calls : List RoutedCall) (new : H × L) → Lead (DoesCall upstream) old calls new
      → upstream.sent new.1 s ≡ upstream.sent old.1 s + sum_by (sends_of s) calls
  sends_by_calls s old [] new e =
      let same : upstream.sent new.1 s ≡ upstream.sent old.1 s = ap (λ (w : H × L). upstream.sent w.1 s) e in omega (arith, same)
  sends_by_calls s old (call ∷ calls) new (mid, step, rest) =
      let split : sum_by (sends_of s) (call ∷ calls) ≡ 0 + sends_of s call + sum_by (sends_of s) calls =
      sum_by-append (sends_of s) (call ∷ []) calls in
      omega (arith, split, sends_by_step s old call mid step, sends_by_calls s mid calls new rest)

  -- a request was routed
  pub is_routed : {old new : H × L} {targets : List ℕ} {form : ℕ → Request} {calls : List RoutedCall} {trail : List Attempt} → Gains (DoesCall upstream) old calls new
      → IsTrail targets trail → MakesTrail form calls trail → IsRouted upstream targets form old trail new
  is_routed {old} {new} {targets} {form} {calls} {trail} gains whole make = record {
    tried = whole;
    attempts = record { calls = calls; make = make; gains = gains };
    sends = λ s. omega (arith, sends_by_calls s old calls new gains.leads, sends_by_trail s make);
  }

  -- a request was sent, what came of it was recorded, and marked servers were skipped
  pub made_sent : {old : H × L} {health new : H} {links after : L} {calls : List RoutedCall} {items : List HealthItem}
      {server clear : ℕ} {form request : Request} {got : Outcome}
      → Gains (DoesCall upstream) old calls (health, links)
      → clear ≡ server
      → IsExchange upstream links (record { server = clear; request = request; result = Ok got }) after
      → request ≡ form
      → Gains upstream.steps health items new
      → Gains (DoesCall upstream) old (calls ++ came server form (Ok got) ∷ map Told items) (new, after)
  made_sent {old} {health} {new} {links} {after} {calls} {items} {server} {clear} {form} {request} {got} front names exchange form_is more =
      let item = came server form (Ok got) in
      let Q : ℕ → Request → Type 0 = λ n r. IsExchange upstream links (record { server = n; request = r; result = Ok got }) after in
      let sent : Gains (DoesCall upstream) old (calls ++ item ∷ []) (health, after) =
      gains_push front (subst (λ (n : ℕ). Q n form) names (subst (λ (r : Request). Q clear r) form_is exchange), refl) in
      let P : List RoutedCall → Type 0 = λ list. Gains (DoesCall upstream) old list (new, after) in
      subst P (append_assoc calls (item ∷ []) (map Told items)) (gains_told sent more)

  -- memory ran out at the exchange
  pub is_cut : {old : H × L} {health : H} {links after : L} {targets : List ℕ} {form : ℕ → Request} {calls : List RoutedCall} {trail : List Attempt} {was_sent : Bool}
      {server clear : ℕ} {request : Request}
      → Gains (DoesCall upstream) old calls (health, links)
      → FindsUp form calls trail server
      → IsCutTrail targets trail
      → server ≡ next_target targets trail
      → clear ≡ server
      → IsExchange upstream links (record { server = clear; request = request; result = Err (record { sent = was_sent }) }) after
      → request ≡ form (length trail)
      → IsCut upstream targets form old trail was_sent (health, after)
  is_cut {old} {health} {links} {after} {targets} {form} {calls} {trail} {was_sent} {server} {clear} {request} front up tried at names exchange form_is =
      let fault : ExchangeNoMemory = record { sent = was_sent } in
      let item = came server (form (length trail)) (Err fault) in
      let look = look_up server (reply.Up up.count) in
      let Q : ℕ → Request → Type 0 = λ n r. IsExchange upstream links (record { server = n; request = r; result = Err fault }) after in
      let sent : Gains (DoesCall upstream) old (calls ++ item ∷ []) (health, after) =
      gains_push front (subst (λ (n : ℕ). Q n (form (length trail))) names (subst (λ (r : Request). Q clear r) form_is exchange), refl) in
      let P : List RoutedCall → Type 0 = λ list. Gains (DoesCall upstream) old list (health, after) in
      let grown : calls ++ item ∷ [] ≡ up.before ++ look ∷ item ∷ [] =
      ap (λ list. list ++ item ∷ []) up.is ∙ append_assoc up.before (look ∷ []) (item ∷ []) in
      let gains = subst P grown sent in
      let count : (s : ℕ) → sum_by (sends_of s) (up.before ++ look ∷ item ∷ [])
      ≡ sum_by (sends_of s) up.before + (0 + 0 + part_of was_sent server s) =
      λ s. sum_by-append (sends_of s) up.before (look ∷ item ∷ []) in
      let N : ℕ → Type 0 = λ n. (s : ℕ) → upstream.sent after s ≡ upstream.sent old.1 s + sends_in s trail + part_of was_sent n s in
      record {
        tried = tried;
        attempts = inr (record {
          calls = up.before;
          make = up.make;
          server = server;
          is_next = at;
          count = up.count;
          gains = gains;
        });
        sends = subst N at (λ s. omega (arith, count s, sends_by_calls s old (up.before ++ look ∷ item ∷ []) (health, after) gains.leads, sends_by_trail s up.make));
      }
