-- Sends are counted, or were not possible.
use Rattle.std.proofs.Common.{◌≡◌, ◌≢◌, ℕ, ◌+◌, true, false, List, [], ◌∷◌, Result, Ok, Err, refl}
use Rattle.std.proofs.Common.{sym, ap, subst, ◌∙◌, add-zero, slice_index}
use Rattle.std.specs.Prelude.{MatchBool}
use Rattle.std.proofs.lemmas.List.{replicate_more}
use Rattle.tko_model.specs.Records.{Gains, Lead}
use Rattle.tko_model.proofs.RecordLemmas.{gains_push}
use Rattle.tko_health.specs.declared.health.Health.{Ghosts as HealthGhosts}
use Rattle.tko_links.specs.declared.links.Outcome.{Outcome}
use Rattle.tko_links.specs.declared.links.Outcome.TheVariants as outcome
use Rattle.tko_links.specs.Links.{is_sent, most_sends, part_of}
use Rattle.tko_route.specs.Calls.{came as came_as}
use Rattle.tko_text.specs.declared.request.Request.{Request}
use Rattle.tko_reply.specs.Interactions.{Interacts, Made}
use Rattle.tko_reply.specs.declared.parts.Parts.{Parts}
use Rattle.tko_reply.specs.declared.trails.Trails.{Ghosts as TrailsGhosts}
use Rattle.tko_client.specs.Counts.{AreSendsCounted, IsSendCounted}
use Rattle.tko_client.specs.Staying.{no_change, stayed_on}
use Rattle.tko_client.specs.Steps.{HasStayed, client_ghosts}

ok_same : {A E : Type 0} (x y : A) (one other : Result A E) → one ≡ Ok x → other ≡ Ok y
    → one ≡ other → x ≡ y
ok_same x y one other is not_other same = cc

err_ok : {A E : Type 0} (x : E) (y : A) (one other : Result A E) → one ≡ Err x → other ≡ Ok y
    → one ≡ other → ⊥
err_ok x y one other is not_other same = cc

module _ {H T C : Type 0} (health : HealthGhosts H) (trails : TrailsGhosts T) where
  -- a send was counted, and came to this
  pub counted : (server : ℕ) (request : Request) (result : Outcome)
      (parts mid : Parts H (List ℕ) T C) → is_sent result ≡ true → IsSendCounted parts server mid
      → Interacts (client_ghosts health trails) parts
      (Made (came_as server request (Ok result))) mid
  counted server request result parts mid sent counts = (
    record {
      item = subst (λ b. MatchBool b (Unit {0}) (mid.backend.links ≡ parts.backend.links))
          (sym sent) tt;
      spent = (
        λ same.
            let is : result ≡ outcome.Spent = ok_same result outcome.Spent _ _ refl refl same in
            let no : false ≡ true = sym (ap is_sent is) ∙ sent in
            absurd (let never : ⊥ = cc in never),
        λ full. absurd (counts.room full),
      );
      sends = λ at. subst (λ b. slice_index mid.backend.links at ≡ slice_index
          parts.backend.links at + part_of b server at) (sym sent) (counts.rises at);
    },
    λ at. refl,
    counts.others,
  )

  -- it was not possible
  pub uncounted : (server : ℕ) (request : Request) (parts : Parts H (List ℕ) T C)
      → slice_index parts.backend.links server ≢ most_sends
      → Interacts (client_ghosts health trails) parts
      (Made (came_as server request (Err (record { sent = false })))) parts
  uncounted server request parts room = (
    record {
      item = refl;
      spent = (
        λ same. absurd (err_ok _ outcome.Spent _ _ refl refl same),
        λ full. absurd (room full),
      );
      sends = λ at. sym (add-zero (slice_index parts.backend.links at));
    },
    λ at. refl,
    refl,
  )

module _ {H T C : Type 0} where
  once : {server : ℕ} (old new : Parts H (List ℕ) T C) → Lead IsSendCounted old (server ∷ []) new
      → IsSendCounted old server new
  once {server} old new (mid, first, same) =
      subst (λ p. IsSendCounted old server p) (sym same) first

  -- one more was
  pub counted_more : {server : ℕ} {old mid new : Parts H (List ℕ) T C} (count : ℕ)
      → AreSendsCounted server count old mid → IsSendCounted mid server new
      → AreSendsCounted server (count + 1) old new
  counted_more {server} {old} {mid} {new} count counts more =
      subst (λ sent. Gains IsSendCounted old sent new) (replicate_more count server)
      (gains_push counts more)

  -- one send was counted
  pub counted_once : {server : ℕ} {old new : Parts H (List ℕ) T C}
      → AreSendsCounted server 1 old new → IsSendCounted old server new
  counted_once {old = old} {new} counts = once old new counts.leads

module _ {H T C : Type 0} {servers : H → ℕ} where
  -- what that leaves of the parts
  pub one_stays : {server : ℕ} {old new : Parts H (List ℕ) T C} → IsSendCounted old server new
      → HasStayed servers old new
  one_stays counts = record {
    config = ap (λ (p : Parts H (List ℕ) T C). p.config) counts.others;
    health = ap (λ (p : Parts H (List ℕ) T C). servers p.backend.health) counts.others;
    links = counts.servers;
  }

  pub all_stay : (sent : List ℕ) (old new : Parts H (List ℕ) T C) → Lead IsSendCounted old sent new
      → HasStayed servers old new
  all_stay [] old new same = subst (λ p. HasStayed servers old p) (sym same) no_change
  all_stay (server ∷ sent) old new (mid, first, rest) =
      stayed_on (one_stays first) (all_stay sent mid new rest)
